-- A finished call is one of the lists.
use Rattle.std.proofs.Common.{◌≡◌, ◌≢◌, ℕ, zero, suc, ◌+◌, ◌<◌, ◌≤◌, Bool, true, false, inl, inr, List, [], ◌∷◌, ◌++◌, length, take, refl, sym, ap, ◌∙◌, subst, append_assoc, arith}
use Rattle.std.proofs.lemmas.Bool.Decides.{nat_tests}
use Rattle.std.proofs.lemmas.List.{take_all, append-nil, length-take}
use Rattle.std.specs.List.{flat_map}
use Rattle.std.specs.Prelude.{◌==◌, nat_lt, if◌then◌else◌, Some, None}
use Rattle.call_grammar.specs.Words.{words_for, word_bytes, frame_in}
use Rattle.sampling_port.specs.declared.notes.PortField.TheVariants.{Sequence, Length}
use Rattle.sampling_port.specs.Layout.{length_place}
use Rattle.sampling_port.specs.Marks.{Publish, Nothing, Refuse}
use Rattle.sampling_port.specs.Trees.{Ended, PortStep, Makes}
use Rattle.sampling_port.specs.Calls.{publish, write_words, sample, read_length, read_words, second_mark, is_length}
use Rattle.sampling_port.specs.Lists.{write_step, read_step, write_steps, publish_steps, IsLength, word_steps, IsSample, CallsAreLists}

-- A publish

words_listed : (own most number : ℕ) (message : List ℕ) (at count : ℕ) (steps : List PortStep) → Makes (write_words own most number message at count) steps →
    steps ≡ write_steps own most number message at count ++ write_step own number (Some (Publish number)) ∷ []
words_listed own most number message at zero [] m = absurd m
words_listed own most number message at zero (step ∷ steps) m = let e = m.0 in let f : steps ≡ [] = m.1 in cc
words_listed own most number message at (suc more) [] m = absurd m
words_listed own most number message at (suc more) (step ∷ steps) m = let e = m.0 in let f = words_listed own most number message (at + 1) more steps m.1 in cc

words_made : (own most number : ℕ) (message : List ℕ) (at count : ℕ) →
    Makes (write_words own most number message at count) (write_steps own most number message at count ++ write_step own number (Some (Publish number)) ∷ [])
words_made own most number message at zero = (refl, refl)
words_made own most number message at (suc more) = (refl, words_made own most number message (at + 1) more)

publish_is_list : (own most number : ℕ) (message : List ℕ) (steps : List PortStep) → Makes (publish own most number message) steps → steps ≡ publish_steps own most number message
publish_is_list own most number message [] m = absurd m
publish_is_list own most number message (step ∷ steps) m = let e = m.0 in let f = words_listed own most number message 0 (words_for (length message)) steps m.1 in cc

-- The message that a sample reads

abbrev gathered : ℕ → List ℕ → List ℕ → List ℕ
gathered bytes read [] = read
gathered bytes read (word ∷ words) = gathered bytes (take bytes (read ++ word_bytes word)) words

-- A prefix of a prefix and more bytes.
take_front : (n : ℕ) (xs ys : List ℕ) → take n (take n xs ++ ys) ≡ take n (xs ++ ys)
take_front zero xs ys = refl
take_front (suc n) [] ys = refl
take_front (suc n) (x ∷ xs) ys = ap (λ (l : List ℕ). x ∷ l) (take_front n xs ys)

gathered_is_front : (bytes : ℕ) (read words : List ℕ) → length read ≤ bytes → gathered bytes read words ≡ take bytes (read ++ flat_map word_bytes words)
gathered_is_front bytes read [] few = sym (take_all bytes read few) ∙ ap (take bytes) (sym (append-nil read))
gathered_is_front bytes read (word ∷ words) few =
    gathered_is_front bytes (take bytes (read ++ word_bytes word)) words (omega (arith, length-take bytes (read ++ word_bytes word)))
    ∙ take_front bytes (read ++ word_bytes word) (flat_map word_bytes words)
    ∙ ap (take bytes) (append_assoc read (word_bytes word) (flat_map word_bytes words))

message_is : (bytes : ℕ) (words : List ℕ) → gathered bytes [] words ≡ frame_in bytes words
message_is bytes words = gathered_is_front bytes [] words (omega arith)

-- The steps of the words and the second look.
abbrev tail_steps : (from other_start most number : ℕ) → List ℕ → (at : ℕ) → List ℕ → ℕ → List PortStep
tail_steps from other_start most number message at words second = word_steps other_start most number at words ++ read_step other_start second (second_mark from number message second) ∷ []

pub record Tail (from other_start most number bytes : ℕ) (read : List ℕ) (at count : ℕ) (steps : List PortStep) : Type 0 where
  pub words : List ℕ
  pub all : length words ≡ count
  pub second : ℕ
  pub steps_are : steps ≡ tail_steps from other_start most number (gathered bytes read words) at words second

tail_listed : (from other_start most number bytes : ℕ) (read : List ℕ) (at count : ℕ) (steps : List PortStep) → Makes (read_words from other_start most number bytes read at count) steps → Tail from other_start most number bytes read at count steps
tail_listed from other_start most number bytes read at zero [] m = absurd m
tail_listed from other_start most number bytes read at zero (step ∷ steps) m = record { words = []; all = refl; second = m.0; steps_are = let e = m.1 in let f : steps ≡ [] = m.2 in cc }
tail_listed from other_start most number bytes read at (suc more) [] m = absurd m
tail_listed from other_start most number bytes read at (suc more) (step ∷ steps) m =
    let rest = tail_listed from other_start most number bytes (take bytes (read ++ word_bytes m.0)) (at + 1) more steps m.2 in
    record { words = m.0 ∷ rest.words; all = omega (arith, rest.all); second = rest.second; steps_are = let e = m.1 in let f = rest.steps_are in cc }

tail_made : (from other_start most number bytes : ℕ) (read : List ℕ) (at : ℕ) (words : List ℕ) (second : ℕ) →
    Makes (read_words from other_start most number bytes read at (length words)) (tail_steps from other_start most number (gathered bytes read words) at words second)
tail_made from other_start most number bytes read at [] second = (second, refl, refl)
tail_made from other_start most number bytes read at (word ∷ words) second = (word, refl, tail_made from other_start most number bytes (take bytes (read ++ word_bytes word)) (at + 1) words second)

-- A sample

in_range : (most bytes : ℕ) → is_length most bytes ≡ true → IsLength most bytes
in_range most bytes is = (grind (arith, nat_tests), grind (arith, nat_tests))

out_of_range : (most bytes : ℕ) → is_length most bytes ≡ false → ¬ IsLength most bytes
out_of_range most bytes is within = let least = within.0 in let top = within.1 in grind (arith, nat_tests)

below_is : (value last : ℕ) → nat_lt value last ≡ true → value < last
below_is value last is = grind (arith, nat_tests)

not_below_is : (value last : ℕ) → nat_lt value last ≡ false → last ≤ value
not_below_is value last is = grind (arith, nat_tests)

zero_is : (value : ℕ) → (value == 0) ≡ true → value ≡ 0
zero_is value is = grind (arith, nat_tests)

not_zero_is : (value : ℕ) → (value == 0) ≡ false → value ≢ 0
not_zero_is value is = grind (arith, nat_tests)

length_listed : (from other_start most last number bytes : ℕ) (first step : PortStep) (steps : List PortStep) → last ≤ number → number ≢ 0 → first ≡ read_step other_start number None → (b : Bool) → is_length most bytes ≡ b →
    step ≡ read_step (other_start + length_place most number) bytes (if b then None else Some (Refuse from Length bytes)) →
    Makes (if b then read_words from other_start most number bytes [] 0 (words_for bytes) else Ended) steps → IsSample from other_start most last (first ∷ step ∷ steps)
length_listed from other_start most last number bytes first step steps low some first_is true is step_is m =
    let tail = tail_listed from other_start most number bytes [] 0 (words_for bytes) steps m in
    let message = message_is bytes tail.words in
    let tail_is = tail.steps_are in
    inr (inr (inr (record {
      number = number;
      not_below = low;
      some = some;
      bytes = bytes;
      within = in_range most bytes is;
      words = tail.words;
      all = tail.all;
      second = tail.second;
      steps_are = cc;
    })))
length_listed from other_start most last number bytes first step steps low some first_is false is step_is m =
    let none : steps ≡ [] = m in
    inr (inr (inl (record { number = number; not_below = low; some = some; bytes = bytes; beyond = out_of_range most bytes is; steps_are = cc })))

message_listed : (from other_start most last number : ℕ) (first : PortStep) (steps : List PortStep) → last ≤ number → number ≢ 0 → first ≡ read_step other_start number None →
    Makes (read_length from other_start most number) steps → IsSample from other_start most last (first ∷ steps)
message_listed from other_start most last number first [] low some first_is m = absurd m
message_listed from other_start most last number first (step ∷ steps) low some first_is m = length_listed from other_start most last number m.0 first step steps low some first_is (is_length most m.0) refl m.1 m.2

first_listed : (from other_start most last value : ℕ) (step : PortStep) (steps : List PortStep) (b c : Bool) → nat_lt value last ≡ b → (value == 0) ≡ c →
    step ≡ read_step other_start value (if b then Some (Refuse from Sequence value) else if c then Some (Nothing from) else None) →
    Makes (if b then Ended else if c then Ended else read_length from other_start most value) steps → IsSample from other_start most last (step ∷ steps)
first_listed from other_start most last value step steps true c is is' step_is m =
    let none : steps ≡ [] = m in inl (record { value = value; below = below_is value last is; steps_are = cc })
first_listed from other_start most last value step steps false true is is' step_is m =
    let none : steps ≡ [] = m in
    let value_is = zero_is value is' in
    let low = not_below_is value last is in
    inr (inl (record { none_before = omega arith; steps_are = cc }))
first_listed from other_start most last value step steps false false is is' step_is m = message_listed from other_start most last value step steps (not_below_is value last is) (not_zero_is value is') step_is m

sample_is_list : (from other_start most last : ℕ) (steps : List PortStep) → Makes (sample from other_start most last) steps → IsSample from other_start most last steps
sample_is_list from other_start most last [] m = absurd m
sample_is_list from other_start most last (step ∷ steps) m = first_listed from other_start most last m.0 step steps (nat_lt m.0 last) (m.0 == 0) refl refl m.1 m.2

-- The converse

is_below : (value last : ℕ) → value < last → nat_lt value last ≡ true
is_below value last low = grind (arith, nat_tests)

is_not_below : (value last : ℕ) → last ≤ value → nat_lt value last ≡ false
is_not_below value last low = grind (arith, nat_tests)

is_not_zero : (value : ℕ) → value ≢ 0 → (value == 0) ≡ false
is_not_zero value some = grind (arith, nat_tests)

is_in_range : (most bytes : ℕ) → IsLength most bytes → is_length most bytes ≡ true
is_in_range most bytes within = let least = within.0 in let top = within.1 in grind (arith, nat_tests)

is_out_of_range : (most bytes : ℕ) → ¬ IsLength most bytes → is_length most bytes ≡ false
is_out_of_range most bytes beyond = by_bool (is_length most bytes) refl
  where
    by_bool : (b : Bool) → is_length most bytes ≡ b → b ≡ false
    by_bool true is = absurd (beyond (in_range most bytes is))
    by_bool false is = refl

list_is_sample : (from other_start most last : ℕ) (steps : List PortStep) → IsSample from other_start most last steps → Makes (sample from other_start most last) steps
list_is_sample from other_start most last steps (inl is) =
    let lt = is_below is.value last is.below in
    subst (λ (l : List PortStep). Makes (sample from other_start most last) l) (sym is.steps_are)
    (is.value, rw lt refl, rw lt refl)
list_is_sample from other_start most last steps (inr (inl is)) =
    let lt : nat_lt 0 last ≡ false = is_not_below 0 last (omega (arith, is.none_before)) in
    subst (λ (l : List PortStep). Makes (sample from other_start most last) l) (sym is.steps_are)
    (0, rw lt refl, rw lt refl)
list_is_sample from other_start most last steps (inr (inr (inl is))) =
    let lt = is_not_below is.number last is.not_below in
    let some = is_not_zero is.number is.some in
    let out = is_out_of_range most is.bytes is.beyond in
    subst (λ (l : List PortStep). Makes (sample from other_start most last) l) (sym is.steps_are)
    (is.number, rw (lt, some) refl, rw (lt, some) (is.bytes, rw out refl, rw out refl))
list_is_sample from other_start most last steps (inr (inr (inr is))) =
    let lt = is_not_below is.number last is.not_below in
    let some = is_not_zero is.number is.some in
    let inside = is_in_range most is.bytes is.within in
    let made = tail_made from other_start most is.number is.bytes [] 0 is.words is.second in
    let M : List ℕ → ℕ → Type 0 = λ message count. Makes (read_words from other_start most is.number is.bytes [] 0 count) (tail_steps from other_start most is.number message 0 is.words is.second) in
    let whole : M (frame_in is.bytes is.words) (words_for is.bytes) =
    subst (λ (n : ℕ). M (frame_in is.bytes is.words) n) is.all (subst (λ (g : List ℕ). M g (length is.words)) (message_is is.bytes is.words) made) in
    subst (λ (l : List PortStep). Makes (sample from other_start most last) l) (sym is.steps_are)
    (is.number, rw (lt, some) refl, rw (lt, some) (is.bytes, rw inside refl, rw inside whole))

pub listing : CallsAreLists
listing = record {
  published = publish_is_list;
  publishes = λ own most number message. (refl, words_made own most number message 0 (words_for (length message)));
  sampled = sample_is_list;
  samples = list_is_sample;
}
