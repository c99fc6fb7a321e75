-- The offsets of a port's words in its section (profile), in words from the section's start.
use Rattle.std.specs.Prelude.{ℕ, ◌+◌, ◌/◌, ◌%◌, ◌==◌, if◌then◌else◌}
-- The sizes of a message, and the number of words of a port.
pub use Rattle.port_text.specs.Sizes.{IsMessageSize, port_words}

-- Word 0 is the sequence, the number of the last message. Message `number` is in buffer `number mod
-- 2`. Buffer b begins, with its length, at word `1 + b * (1 + most / 4)`. The result is the offset
-- of the message's length.
abbrev pub length_place : (most number : ℕ) → ℕ
length_place most number = if number % 2 == 0 then 1 else 2 + most / 4

-- The offset of the message's first data word, after its length.
abbrev pub data_place : (most number : ℕ) → ℕ
data_place most number = length_place most number + 1
