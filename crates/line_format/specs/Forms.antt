-- Lines as lists of fields, and forms of lines.
use Rattle.std.specs.Prelude.{◌≡◌, ℕ, zero, suc, slice_index, ◌^◌, ◌+◌, ◌-◌, ◌*◌, ◌<◌, ◌≤◌, ◌&&◌, ◌==◌, Bool, true, false, nat_lt, nat_le, if◌then◌else◌, List, [], ◌∷◌, ◌++◌, map, Option, Some, None, decimal, option_and_then, option_map}
use denote.Ref.{Bor}
use Rattle.std.specs.Str.{bytes_eq}
use Rattle.std.specs.List.{slice_split, join_with_byte, list_all}
use Rattle.hex.specs.Hex.{encode_lower}
use Rattle.line_format.specs.Numbers.{number_of}
use Rattle.line_format.specs.declared.forms.FieldKind.{FieldKind}
use Rattle.line_format.specs.declared.forms.FieldKind.TheVariants as slots

-- The content of one field of a form: a word, a number in a range, or bytes as hex digits.
pub data Piece : Type 0 where
  Word : List ℕ → Piece
  Number : ℕ → ℕ → Piece
  Hex : Piece

abbrev pub piece : FieldKind → Piece
piece (slots.Word w) = Word w.now
piece (slots.Number low high) = Number low high
piece slots.Hex = Hex

abbrev pub pieces : List FieldKind → List Piece
pieces ss = map piece ss

-- The bytes that each reference refers to.
abbrev pub texts : List (Bor (List ℕ)) → List (List ℕ)
texts fs = map (λ f. f.now) fs

-- The pieces between the bytes `c`; there is one more piece than bytes `c`.
abbrev pub cuts : ℕ → List ℕ → List (List ℕ)
cuts c bytes = slice_split (λ b. b == c) bytes

-- A line is cut at each single space.
abbrev pub fields_of : List ℕ → List (List ℕ)
fields_of line = cuts 32 line

abbrev pub line_of : List (List ℕ) → List ℕ
line_of fields = join_with_byte 32 fields

-- Whether the number of fields is the form's, and its words are at their positions.
abbrev pub matches : List Piece → List (List ℕ) → Bool
matches [] [] = true
matches [] (f ∷ fs) = false
matches (p ∷ ps) [] = false
matches (Word w ∷ ps) (f ∷ fs) = bytes_eq w f && matches ps fs
matches (Number low high ∷ ps) (f ∷ fs) = matches ps fs
matches (Hex ∷ ps) (f ∷ fs) = matches ps fs

-- The numbers from left to right, if each number field is a number in its range.
abbrev pub numbers_of : List Piece → List (List ℕ) → Option (List ℕ)
numbers_of [] fs = Some []
numbers_of (p ∷ ps) [] = Some []
numbers_of (Word w ∷ ps) (f ∷ fs) = numbers_of ps fs
numbers_of (Number low high ∷ ps) (f ∷ fs) =
    option_and_then (λ n. if nat_le low n && nat_le n high then option_map (λ ns. n ∷ ns) (numbers_of ps fs) else None) (number_of f)
numbers_of (Hex ∷ ps) (f ∷ fs) = numbers_of ps fs

-- The field of hex digits, or none.
abbrev pub hex_of : List Piece → List (List ℕ) → List ℕ
hex_of [] fs = []
hex_of (p ∷ ps) [] = []
hex_of (Word w ∷ ps) (f ∷ fs) = hex_of ps fs
hex_of (Number low high ∷ ps) (f ∷ fs) = hex_of ps fs
hex_of (Hex ∷ ps) (f ∷ fs) = f

-- The fields that spell these numbers and these bytes in a form.
abbrev pub spell : List Piece → List ℕ → List ℕ → List (List ℕ)
spell [] ns bytes = []
spell (Word w ∷ ps) ns bytes = w ∷ spell ps ns bytes
spell (Number low high ∷ ps) [] bytes = []
spell (Number low high ∷ ps) (n ∷ ns) bytes = decimal n ∷ spell ps ns bytes
spell (Hex ∷ ps) ns bytes = encode_lower bytes ∷ spell ps ns bytes

-- `0` to `9` are 48 to 57, and `a` to `f` are 97 to 102.
abbrev pub hex_digit : ℕ → Option ℕ
hex_digit c =
    if nat_le 48 c && nat_le c 57 then Some (c - 48)
    else if nat_le 97 c && nat_le c 102 then Some (c - 87)
    else None

-- The bytes that lower case hex digits spell.
unfoldable pub hex_bytes : List ℕ → Option (List ℕ)
hex_bytes [] = Some []
hex_bytes (d ∷ []) = None
hex_bytes (h ∷ l ∷ digits) =
    option_and_then (λ high. option_and_then (λ low. option_map (λ bytes. (high * 16 + low) ∷ bytes) (hex_bytes digits)) (hex_digit l)) (hex_digit h)

-- The greatest value that number `i` may have.
abbrev pub high_at : List Piece → ℕ → ℕ
high_at [] i = 0
high_at (Word w ∷ ps) i = high_at ps i
high_at (Hex ∷ ps) i = high_at ps i
high_at (Number low high ∷ ps) zero = high
high_at (Number low high ∷ ps) (suc i) = high_at ps i

-- No number is above the form's bound.
abbrev pub AreInRange : List Piece → List ℕ → Type 0
AreInRange ps ns = (i : ℕ) → slice_index ns i ≤ high_at ps i

-- There is one number for each of the form's number fields, in its range.
abbrev pub Fit : List Piece → List ℕ → Type 0
Fit [] [] = Unit {0}
Fit [] (n ∷ ns) = ⊥
Fit (Word w ∷ ps) ns = Fit ps ns
Fit (Hex ∷ ps) ns = Fit ps ns
Fit (Number low high ∷ ps) [] = ⊥
Fit (Number low high ∷ ps) (n ∷ ns) = (low ≤ n) × (n ≤ high) × Fit ps ns

-- Hex digits are the last field, if there are any; without them there are no bytes.
abbrev pub FitBytes : List Piece → List ℕ → Type 0
FitBytes [] bytes = bytes ≡ []
FitBytes (Word w ∷ ps) bytes = FitBytes ps bytes
FitBytes (Number low high ∷ ps) bytes = FitBytes ps bytes
FitBytes (Hex ∷ []) bytes = (i : ℕ) → slice_index bytes i < 256
FitBytes (Hex ∷ p ∷ ps) bytes = ⊥

-- The pieces of a form: words of visible bytes, numbers below 2 ^ 64, and hex digits last.
abbrev pub is_visible : ℕ → Bool
is_visible b = nat_lt 32 b && nat_lt b 127

abbrev pub is_form : List Piece → Bool
is_form [] = true
is_form (Word w ∷ ps) = list_all is_visible w && is_form ps
is_form (Number low high ∷ ps) = nat_lt high (2 ^ 64) && is_form ps
is_form (Hex ∷ []) = true
is_form (Hex ∷ p ∷ ps) = false

-- A byte of a line, from the space to `~`.
abbrev pub is_printable : ℕ → Bool
is_printable b = nat_le 32 b && nat_le b 126

-- The fields with a space before each, or before each except the first.
abbrev pub spaced : Bool → List (List ℕ) → List ℕ
spaced is_later [] = []
spaced is_later (f ∷ fs) = (if is_later then 32 ∷ [] else []) ++ f ++ spaced true fs
