-- The line of a text by its number, the bytes of a file by their place, and how they are shown.
use Rattle.std.specs.Prelude.{ℕ, zero, suc, ◌+◌, ◌-◌, ◌==◌, ◌||◌, nat_lt, if◌then◌else◌, List, [], ◌∷◌, ◌++◌, codes, decimal, map, take, drop, length, slice_index_or}
use Rattle.hex.specs.Hex.{encode_lower}
use Rattle.byteorder.specs.Endian.{little_number, big_number}
use Rattle.frame_capture.specs.declared.reading.TheConstants.{HEADER_LEN, PACKET_HEADER_LEN}
use Rattle.frame_capture.specs.CaptureFile.{magic}
use Rattle.line_format.specs.Forms.{cuts, is_printable}
use Rattle.program_edge.specs.declared.refusals.Place.{Place}
use Rattle.program_edge.specs.declared.refusals.Place.TheVariants.{Whole, Line, Bytes, Packet}

-- The line with this number, from 1, of the pieces between newlines.
abbrev pub line_at : List ℕ → ℕ → List ℕ
line_at bytes number = if number == 0 then [] else slice_index_or (cuts 10 bytes) (number - 1) []

-- A byte as a terminal shows it: `?` in place of a byte that no line may have.
abbrev pub visible : ℕ → ℕ
visible byte = if is_printable byte then byte else 63

-- The first 160 bytes of a line.
abbrev pub shown : List ℕ → List ℕ
shown line = map visible (take 160 line)

-- The number of a line before its text.
abbrev pub number_text : ℕ → List ℕ
number_text number = codes "line " ++ decimal number ++ codes ": "

-- Bytes as hexadecimal digits, or that the file has ended.
abbrev pub digits : List ℕ → List ℕ
digits [] = codes "the end of the file"
digits (byte ∷ bytes) = encode_lower (byte ∷ bytes)

-- The place of bytes, from 0, before their digits.
abbrev pub bytes_text : (first : ℕ) → (some : List ℕ) → List ℕ
bytes_text first some = codes "byte " ++ decimal first ++ codes ": " ++ digits some ++ codes "\n"

-- The number of captured bytes of a packet, in the byte order of its file, whose first bytes are
-- the magic number. It is 0 if the file doesn't have them.
abbrev pub captured_in : (file packet : List ℕ) → ℕ
captured_in file packet =
    if nat_lt (length file) HEADER_LEN || nat_lt (length packet) 12 then 0
    else if little_number 4 file == magic then little_number 4 (drop 8 packet)
    else big_number 4 (drop 8 packet)

-- The rest of a file after these packets: each has 16 bytes and its captured bytes.
abbrev pub after_packets : (file : List ℕ) → (count : ℕ) → (left : List ℕ) → List ℕ
after_packets file zero left = left
after_packets file (suc count) left = after_packets file count (drop (PACKET_HEADER_LEN + captured_in file left) left)

-- A capture file from the packet with this number on, from 1, after the header of 24 bytes.
abbrev pub packet_at : (file : List ℕ) → (number : ℕ) → List ℕ
packet_at file number = after_packets file (number - 1) (drop HEADER_LEN file)

-- The faulty place of a text or a file, and its contents: the faulty line, bytes, or the 16 bytes
-- before a packet's frame.
abbrev pub place_of : List ℕ → Place → List ℕ
place_of bytes Whole = []
place_of bytes (Line number) = number_text number ++ shown (line_at bytes number) ++ codes "\n"
place_of bytes (Bytes first count) = bytes_text first (take count (drop first bytes))
place_of bytes (Packet number) = bytes_text (length bytes - length (packet_at bytes number)) (take PACKET_HEADER_LEN (packet_at bytes number))
