-- The two calls of a port (profile). A publish writes a message and then its number. A sample reads
-- a number, its message, and the number again.
use Rattle.std.specs.Prelude.{ℕ, zero, suc, ◌+◌, ◌==◌, nat_lt, nat_le, ◌&&◌, if◌then◌else◌, Bool, Option, Some, None, List, [], ◌++◌, length, take}
use Rattle.split_ring.specs.declared.steps.Access.TheVariants.{Write}
use Rattle.call_grammar.specs.Words.{words_for, frame_word, word_bytes}
use Rattle.sampling_port.specs.declared.notes.PortField.TheVariants.{Sequence, Length}
use Rattle.sampling_port.specs.Layout.{length_place, data_place}
use Rattle.sampling_port.specs.Marks.{PortMark, Publish, Got, Nothing, Again, Refuse}
use Rattle.sampling_port.specs.Trees.{PortTree, Ended, Does, Reads}

-- Below, `own` is the first word of the port's own section and `other_start` that of the peer
-- `from`. A message has at most `most` bytes. Each part of a call is named after its first step.
-- The last part is defined first.

-- A publish

abbrev pub write_sequence : (own number : ℕ) → PortTree
write_sequence own number = Does (Write own number) (Some (Publish number)) Ended

-- The writes of `count` words of the message from word `at` on; bytes after the last one are 0.
abbrev pub write_words : (own most number : ℕ) → List ℕ → (at count : ℕ) → PortTree
write_words own most number message at zero = write_sequence own number
write_words own most number message at (suc more) =
    Does (Write (own + data_place most number + at) (frame_word message at)) None (write_words own most number message (at + 1) more)

-- The publish of message `number`: its length, its data, its number.
abbrev pub publish : (own most number : ℕ) → List ℕ → PortTree
publish own most number message =
    Does (Write (own + length_place most number) (length message)) None (write_words own most number message 0 (words_for (length message)))

-- A sample

-- The message was got whole if the sequence is the same as at the first look.
abbrev pub second_mark : (from number : ℕ) → List ℕ → ℕ → Option PortMark
second_mark from number message value = if value == number then Some (Got from number message) else Some (Again from number value)

abbrev pub look_again : (from other_start number : ℕ) → List ℕ → PortTree
look_again from other_start number message = Reads other_start (second_mark from number message) (λ value. Ended)

-- The reads of `count` words from word `at` on, of a message of `bytes` bytes of which `read` was
-- read.
abbrev pub read_words : (from other_start most number bytes : ℕ) → List ℕ → (at count : ℕ) → PortTree
read_words from other_start most number bytes read at zero = look_again from other_start number read
read_words from other_start most number bytes read at (suc more) =
    Reads (other_start + data_place most number + at) (λ value. None)
    (λ value. read_words from other_start most number bytes (take bytes (read ++ word_bytes value)) (at + 1) more)

-- Whether a length is in range: 1 to `most` bytes.
abbrev pub is_length : ℕ → ℕ → Bool
is_length most bytes = nat_le 1 bytes && nat_le bytes most

abbrev pub length_mark : (from most : ℕ) → ℕ → Option PortMark
length_mark from most value = if is_length most value then None else Some (Refuse from Length value)

abbrev pub read_length : (from other_start most number : ℕ) → PortTree
read_length from other_start most number =
    Reads (other_start + length_place most number) (length_mark from most)
    (λ value. if is_length most value then read_words from other_start most number value [] 0 (words_for value) else Ended)

-- The sequence is in range if it isn't below the number got last; 0 says that nothing was
-- published.
abbrev pub sequence_mark : (from last : ℕ) → ℕ → Option PortMark
sequence_mark from last value = if nat_lt value last then Some (Refuse from Sequence value) else if value == 0 then Some (Nothing from) else None

-- The sample of a peer from which message `last` was got last; `last` is 0 before the first one.
abbrev pub sample : (from other_start most last : ℕ) → PortTree
sample from other_start most last =
    Reads other_start (sequence_mark from last)
    (λ value. if nat_lt value last then Ended else if value == 0 then Ended else read_length from other_start most value)
