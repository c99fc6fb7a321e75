-- The most bytes of a text of rows.
use Rattle.std.proofs.Common.{◌≡◌, ℕ, ◌+◌, ◌≤◌, List, [], ◌∷◌, ◌++◌, length, ap, ◌∙◌, arith, length-append}
use Rattle.std.specs.List.{join_with_byte}
use Rattle.std.proofs.lemmas.List.Concat.{flat_map-append, flat_map-cons}
use Rattle.line_format.specs.Forms.{Piece, line_of}
use Rattle.line_format.specs.Rows.{Row, fields_of_row, line_of_row, text_of}

-- The bytes of the fields, each with a byte after it.
abbrev pub widths : List (List ℕ) → ℕ
widths [] = 0
widths (f ∷ fs) = length f + 1 + widths fs

join_most : (fs : List (List ℕ)) → length (join_with_byte 32 fs) ≤ widths fs
join_most [] = omega arith
join_most (f ∷ []) = omega arith
join_most (f ∷ g ∷ fs) = let rest = join_most (g ∷ fs) in omega (arith, length-append f (32 ∷ join_with_byte 32 (g ∷ fs)))

pub line_most : {F : Type 0} (pieces_of : F → List Piece) (r : Row F) → length (line_of_row pieces_of r) ≤ 1 + widths (fields_of_row pieces_of r)
unfolding line_of_row
line_most pieces_of r = let fields = join_most (fields_of_row pieces_of r) in omega (arith, length-append (line_of (fields_of_row pieces_of r)) (10 ∷ []))

pub text_cons : {F : Type 0} (pieces_of : F → List Piece) (r : Row F) (rs : List (Row F)) → length (text_of pieces_of (r ∷ rs)) ≡ length (line_of_row pieces_of r) + length (text_of pieces_of rs)
text_cons pieces_of r rs = ap length (flat_map-cons (line_of_row pieces_of) r rs) ∙ length-append (line_of_row pieces_of r) (text_of pieces_of rs)

pub text_append : {F : Type 0} (pieces_of : F → List Piece) (rs qs : List (Row F)) → length (text_of pieces_of (rs ++ qs)) ≡ length (text_of pieces_of rs) + length (text_of pieces_of qs)
text_append pieces_of rs qs = ap length (flat_map-append (line_of_row pieces_of) rs qs) ∙ length-append (text_of pieces_of rs) (text_of pieces_of qs)

-- The most bytes of these rows' lines.
abbrev pub most_of : {F : Type 0} → (F → List Piece) → List (Row F) → ℕ
most_of pieces_of [] = 0
most_of pieces_of (r ∷ rs) = 1 + widths (fields_of_row pieces_of r) + most_of pieces_of rs

pub text_most : {F : Type 0} (pieces_of : F → List Piece) (rs : List (Row F)) → length (text_of pieces_of rs) ≤ most_of pieces_of rs
text_most pieces_of [] = omega arith
text_most pieces_of (r ∷ rs) = omega (arith, text_cons pieces_of r rs, line_most pieces_of r, text_most pieces_of rs)
