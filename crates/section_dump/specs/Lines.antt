-- The lines of a listing, and how they are written (profile).
use Rattle.std.specs.Prelude.{◌≡◌, ℕ, List, [], ◌∷◌, ◌++◌, codes, decimal}
use Rattle.std.specs.List.{flat_map, join_with_byte}
use Rattle.hex.specs.Hex.{encode_lower}
use Rattle.split_ring.specs.declared.ranges.FieldName.{FieldName}
use Rattle.split_ring.specs.Names.{name_of}

-- A line of a listing: one of the header's four sizes, the queue, the state of a peer, or the two
-- indices of a section. A section's item is a frame with its position, entry, address and length,
-- or a field that a receiver would refuse. The last line is the end.
pub data Line : Type 0 where
  Peers : ℕ → Line
  Table : ℕ → Line
  Common : ℕ → Line
  Out : ℕ → Line
  QueueSizes : (size ring room : ℕ) → Line
  NoQueue : Line
  State : (peer value : ℕ) → Line
  Section : (peer available used : ℕ) → Line
  Frame : (position entry address length : ℕ) (bytes : List ℕ) → Line
  Bad : (position : ℕ) (field : FieldName) (value : ℕ) → Line
  End : Line

-- The fields of a line.
abbrev pub fields_of : Line → List (List ℕ)
fields_of (Peers n) = codes "peers" ∷ decimal n ∷ []
fields_of (Table n) = codes "table" ∷ decimal n ∷ []
fields_of (Common n) = codes "common" ∷ decimal n ∷ []
fields_of (Out n) = codes "out" ∷ decimal n ∷ []
fields_of (QueueSizes size ring room) = codes "queue" ∷ decimal size ∷ decimal ring ∷ decimal room ∷ []
fields_of NoQueue = codes "queue" ∷ codes "none" ∷ []
fields_of (State peer value) = codes "state" ∷ decimal peer ∷ decimal value ∷ []
fields_of (Section peer available used) = codes "section" ∷ decimal peer ∷ decimal available ∷ decimal used ∷ []
fields_of (Frame position entry address length bytes) =
    codes "frame" ∷ decimal position ∷ decimal entry ∷ decimal address ∷ decimal length ∷ encode_lower bytes ∷ []
fields_of (Bad position field value) = codes "bad" ∷ decimal position ∷ name_of field ∷ decimal value ∷ []
fields_of End = codes "end" ∷ []

-- A line: its fields with one space between them, and a newline.
unfoldable pub line_of : Line → List ℕ
line_of line = join_with_byte 32 (fields_of line) ++ 10 ∷ []

-- The text of lines.
abbrev pub text_of : List Line → List ℕ
text_of lines = flat_map line_of lines

-- The new text is the old one and then lines with property P.
abbrev pub Puts : (List Line → Type 0) → (old new : List ℕ) → Type 0
Puts P old new = (lines : List Line) × P lines × (new ≡ old ++ text_of lines)
