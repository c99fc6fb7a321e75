-- Finished publishes and finished samples as lists of steps.
use Rattle.std.specs.Prelude.{ℕ, zero, suc, ◌≡◌, ◌≢◌, ◌+◌, ◌<◌, ◌≤◌, ◌⊎◌, Some, None, Option, List, [], ◌∷◌, ◌++◌, length}
use Rattle.split_ring.specs.declared.steps.Access.TheVariants.{Read, Write}
use Rattle.call_grammar.specs.Words.{words_for, frame_word, frame_in}
use Rattle.sampling_port.specs.declared.notes.PortField.TheVariants.{Sequence, Length}
use Rattle.sampling_port.specs.Layout.{length_place, data_place}
use Rattle.sampling_port.specs.Marks.{PortMark, Publish, Nothing, Refuse}
use Rattle.sampling_port.specs.Trees.{PortStep, port_step, Makes}
use Rattle.sampling_port.specs.Calls.{publish, sample, second_mark}

abbrev pub write_step : (word written : ℕ) → Option PortMark → PortStep
write_step word written mark = port_step (Write word written) 0 mark

abbrev pub read_step : (word value : ℕ) → Option PortMark → PortStep
read_step word value mark = port_step (Read word) value mark

-- The writes of `count` words of the message from word `at` on.
abbrev pub write_steps : (own most number : ℕ) → List ℕ → (at count : ℕ) → List PortStep
write_steps own most number message at zero = []
write_steps own most number message at (suc more) =
    write_step (own + data_place most number + at) (frame_word message at) None ∷ write_steps own most number message (at + 1) more

-- A publish: the length, the words, and then the number.
abbrev pub publish_steps : (own most number : ℕ) → List ℕ → List PortStep
publish_steps own most number message =
    write_step (own + length_place most number) (length message) None ∷
    (write_steps own most number message 0 (words_for (length message)) ++ write_step own number (Some (Publish number)) ∷ [])

-- The lengths that are in range.
abbrev pub IsLength : (most bytes : ℕ) → Type 0
IsLength most bytes = (1 ≤ bytes) × (bytes ≤ most)

-- The reads of these words of a message from word `at` on.
abbrev pub word_steps : (other_start most number at : ℕ) → List ℕ → List PortStep
word_steps other_start most number at [] = []
word_steps other_start most number at (word ∷ words) = read_step (other_start + data_place most number + at) word None ∷ word_steps other_start most number (at + 1) words

-- The number read is below the one got last.
pub record RefusesSequence (from other_start last : ℕ) (steps : List PortStep) : Type 0 where
  pub value : ℕ
  pub below : value < last
  pub steps_are : steps ≡ read_step other_start value (Some (Refuse from Sequence value)) ∷ []

-- The writer published nothing, and nothing was got before.
pub record FindsNothing (from other_start last : ℕ) (steps : List PortStep) : Type 0 where
  pub none_before : last ≡ 0
  pub steps_are : steps ≡ read_step other_start 0 (Some (Nothing from)) ∷ []

-- The length is out of range.
pub record RefusesLength (from other_start most last : ℕ) (steps : List PortStep) : Type 0 where
  pub number : ℕ
  pub not_below : last ≤ number
  pub some : number ≢ 0
  pub bytes : ℕ
  pub beyond : ¬ IsLength most bytes
  pub steps_are : steps ≡ read_step other_start number None ∷ read_step (other_start + length_place most number) bytes (Some (Refuse from Length bytes)) ∷ []

-- A message is read whole. Its bytes are the first of those that its words gave, and the length is
-- their number. The message is got if the number is the same at the second look.
pub record ReadsMessage (from other_start most last : ℕ) (steps : List PortStep) : Type 0 where
  pub number : ℕ
  pub not_below : last ≤ number
  pub some : number ≢ 0
  pub bytes : ℕ
  pub within : IsLength most bytes
  pub words : List ℕ
  pub all : length words ≡ words_for bytes
  pub second : ℕ
  pub steps_are : steps ≡ read_step other_start number None ∷ read_step (other_start + length_place most number) bytes None ∷
      (word_steps other_start most number 0 words ++ read_step other_start second (second_mark from number (frame_in bytes words) second) ∷ [])

-- A finished sample is one of these four lists.
abbrev pub IsSample : (from other_start most last : ℕ) → List PortStep → Type 0
IsSample from other_start most last steps =
    RefusesSequence from other_start last steps ⊎ (FindsNothing from other_start last steps
    ⊎ (RefusesLength from other_start most last steps ⊎ ReadsMessage from other_start most last steps))

-- A list of steps is a whole call exactly if it is one of these.
pub record CallsAreLists : Type 0 where
  pub published : (own most number : ℕ) (message : List ℕ) (steps : List PortStep) → Makes (publish own most number message) steps
      → steps ≡ publish_steps own most number message
  pub publishes : (own most number : ℕ) (message : List ℕ) → Makes (publish own most number message) (publish_steps own most number message)
  pub sampled : (from other_start most last : ℕ) (steps : List PortStep) → Makes (sample from other_start most last) steps → IsSample from other_start most last steps
  pub samples : (from other_start most last : ℕ) (steps : List PortStep) → IsSample from other_start most last steps → Makes (sample from other_start most last) steps
