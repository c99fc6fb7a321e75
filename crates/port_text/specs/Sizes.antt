-- The sizes of ports (profile). Messages are in bytes, sections in words.
use Rattle.std.specs.Prelude.{ℕ, ◌≡◌, ◌+◌, ◌*◌, ◌/◌, ◌%◌, ◌≤◌, ◌==◌, ◌&&◌, nat_le, Bool}
use Rattle.section_map.specs.declared.limits.TheConstants.{PAGE}
use Rattle.section_map.specs.Geometry.{Shape}
use Rattle.section_map.specs.Faults.{shape_of}
use Rattle.port_text.specs.declared.limits.TheConstants.{LONGEST_MESSAGE}

-- A message has at most `most` bytes: a multiple of 4 from 4 to `LONGEST_MESSAGE`.
abbrev pub IsMessageSize : ℕ → Type 0
IsMessageSize most = (most % 4 ≡ 0) × (4 ≤ most) × (most ≤ LONGEST_MESSAGE)

-- The number of words of a port: the sequence, and two buffers of a length and the data.
abbrev pub port_words : ℕ → ℕ
port_words most = 3 + most / 2

-- The region of ports: its State Table has one page, and it has no common section.
abbrev pub ports_shape : (peers out : ℕ) → Shape
ports_shape peers out = shape_of peers PAGE 0 out

-- A section of `out` bytes has space for a port with messages of at most `most` bytes.
abbrev pub has_port : (most out : ℕ) → Bool
has_port most out = most % 4 == 0 && nat_le 4 most && nat_le most LONGEST_MESSAGE && nat_le (4 * port_words most) out
