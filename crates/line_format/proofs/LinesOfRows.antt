-- Rows and their lines.
use Rattle.std.proofs.Common.{◌≡◌, ℕ, ◌<◌, true, List, [], ◌∷◌, ◌++◌, length, map, Some, refl, sym, ap, ◌∙◌, append_assoc, arith}
use Rattle.std.specs.List.{list_all}
use Rattle.std.proofs.lemmas.List.Concat.{flat_map-cons}
use Rattle.std.proofs.lemmas.List.Splits.{join_with_byte-slice_split}
use Rattle.line_format.specs.Forms.{Piece, Word, Number, Hex, spell, line_of, fields_of, hex_bytes, hex_of, Fit, FitBytes, is_printable}
use Rattle.line_format.specs.Rows.{Row, fields_of_row, line_of_row, text_of}
use Rattle.line_format.specs.Machine.{text_of_lines, HasNoNewline}
use Rattle.line_format.proofs.SpellingsAreRead.{hex_bytes-encode}
use Rattle.line_format.proofs.LinesAreCut.{is_field, spell_visible, fields_of-line_of, line_printable, free_of}
use Rattle.line_format.proofs.FormsOfRows.{IsTable}

-- The values of a row are those of its form.
pub record IsRow {F : Type 0} (pieces_of : F → List Piece) (r : Row F) : Type 0 where
  pub values : Fit (pieces_of r.form) r.numbers
  pub hex : FitBytes (pieces_of r.form) r.frame

-- The row's line, without its newline.
abbrev pub bare : {F : Type 0} → (F → List Piece) → Row F → List ℕ
bare pieces_of r = line_of (fields_of_row pieces_of r)

pub row_fields : {F : Type 0} (pieces_of : F → List Piece) (forms : List F) → IsTable pieces_of forms → (r : Row F) → IsRow pieces_of r → list_all is_field (fields_of_row pieces_of r) ≡ true
row_fields pieces_of forms table r is = spell_visible (pieces_of r.form) r.numbers r.frame (table.good r.form) is.values is.hex

pub row_printable : {F : Type 0} (pieces_of : F → List Piece) (forms : List F) → IsTable pieces_of forms → (r : Row F) → IsRow pieces_of r → list_all is_printable (bare pieces_of r) ≡ true
row_printable pieces_of forms table r is = line_printable (fields_of_row pieces_of r) (row_fields pieces_of forms table r is)

pub row_plain : {F : Type 0} (pieces_of : F → List Piece) (forms : List F) → IsTable pieces_of forms → (r : Row F) → IsRow pieces_of r → HasNoNewline (bare pieces_of r)
row_plain pieces_of forms table r is = free_of is_printable 10 (λ e. cc) (bare pieces_of r) (row_printable pieces_of forms table r is)

whole_line : (fs : List (List ℕ)) → 0 < length fs → list_all is_field fs ≡ true → fields_of (line_of fs) ≡ fs
whole_line [] some all = absurd (omega arith)
whole_line (f ∷ fs) some all = fields_of-line_of f fs all

some_fields : (ps : List Piece) (ns bytes : List ℕ) → 0 < length ps → Fit ps ns → 0 < length (spell ps ns bytes)
some_fields [] ns bytes lt fit = absurd (omega arith)
some_fields (Word w ∷ ps) ns bytes lt fit = omega arith
some_fields (Hex ∷ ps) ns bytes lt fit = omega arith
some_fields (Number low high ∷ ps) [] bytes lt fit = absurd fit
some_fields (Number low high ∷ ps) (n ∷ ns) bytes lt fit = omega arith

-- A row's line is cut into the row's fields again.
pub row_cut : {F : Type 0} (pieces_of : F → List Piece) (forms : List F) → IsTable pieces_of forms → (r : Row F) → IsRow pieces_of r → fields_of (bare pieces_of r) ≡ fields_of_row pieces_of r
row_cut pieces_of forms table r is = whole_line (fields_of_row pieces_of r) (some_fields (pieces_of r.form) r.numbers r.frame (table.some r.form) is.values) (row_fields pieces_of forms table r is)

-- The field of hex digits spells the bytes.
pub hex_of-spell : (ps : List Piece) (ns bytes : List ℕ) → Fit ps ns → FitBytes ps bytes → hex_bytes (hex_of ps (spell ps ns bytes)) ≡ Some bytes
unfolding hex_bytes
hex_of-spell [] ns bytes fit hex = ap (λ (t : List ℕ). Some t) (sym hex)
hex_of-spell (Word w ∷ ps) ns bytes fit hex = hex_of-spell ps ns bytes fit hex
hex_of-spell (Number low high ∷ ps) [] bytes fit hex = absurd fit
hex_of-spell (Number low high ∷ ps) (n ∷ ns) bytes fit hex = hex_of-spell ps ns bytes fit.2 hex
hex_of-spell (Hex ∷ []) ns bytes fit hex = hex_bytes-encode bytes hex
hex_of-spell (Hex ∷ p ∷ ps) ns bytes fit hex = absurd hex

-- A line is its fields, joined.
pub line_is : (line : List ℕ) (fields : List (List ℕ)) → fields_of line ≡ fields → line ≡ line_of fields
line_is line fields is = sym (join_with_byte-slice_split 32 line) ∙ ap line_of is

-- ---- texts

pub text-cons : {F : Type 0} (pieces_of : F → List Piece) (r : Row F) (rs : List (Row F)) → text_of pieces_of (r ∷ rs) ≡ bare pieces_of r ++ 10 ∷ text_of pieces_of rs
unfolding line_of_row
text-cons pieces_of r rs = flat_map-cons (line_of_row pieces_of) r rs ∙ append_assoc (bare pieces_of r) (10 ∷ []) (text_of pieces_of rs)

-- A text of rows is the text of their lines.
pub text_is_lines : {F : Type 0} (pieces_of : F → List Piece) (rs : List (Row F)) → text_of pieces_of rs ≡ text_of_lines (map (bare pieces_of) rs)
text_is_lines pieces_of [] = refl
text_is_lines pieces_of (r ∷ rs) =
    text-cons pieces_of r rs ∙ ap (λ (t : List ℕ). bare pieces_of r ++ 10 ∷ t) (text_is_lines pieces_of rs)
    ∙ sym (flat_map-cons (λ (line : List ℕ). line ++ 10 ∷ []) (bare pieces_of r) (map (bare pieces_of) rs) ∙ append_assoc (bare pieces_of r) (10 ∷ []) (text_of_lines (map (bare pieces_of) rs)))
