-- A text of rows determines the rows.
use Rattle.std.proofs.Common.{◌≡◌, ◌≢◌, ℕ, suc, List, [], ◌∷◌, length, refl, sym, ap, ◌∙◌, arith, length-append}
use Rattle.std.specs.Prelude.{All}
use Rattle.std.specs.List.{join_with_byte}
use Rattle.std.proofs.lemmas.List.Splits.{join_with_byte-slice_split}
use Rattle.line_format.specs.Forms.{Piece, numbers_of, hex_of, hex_bytes, fields_of, cuts}
use Rattle.line_format.specs.Rows.{Row, find_form, fields_of_row, text_of}
use Rattle.line_format.proofs.SpellingsAreRead.{numbers_of-spell}
use Rattle.line_format.proofs.LinesAreCut.{cuts-line}
use Rattle.line_format.proofs.FormsOfRows.{IsTable, finds}
use Rattle.line_format.proofs.LinesOfRows.{IsRow, bare, row_printable, row_cut, hex_of-spell, text-cons}
use Rattle.line_format.proofs.TestChains.{same_some}

-- A row's line determines the row.
row_same : {F : Type 0} (pieces_of : F → List Piece) (forms : List F) → IsTable pieces_of forms → (r s : Row F) → IsRow pieces_of r → IsRow pieces_of s → bare pieces_of r ≡ bare pieces_of s → r ≡ s
row_same pieces_of forms table r s is is' e =
    let fields : fields_of_row pieces_of r ≡ fields_of_row pieces_of s = sym (row_cut pieces_of forms table r is) ∙ (ap fields_of e ∙ row_cut pieces_of forms table s is') in
    let form : r.form ≡ s.form = same_some r.form s.form (sym (finds pieces_of forms table r.form r.numbers r.frame is.values) ∙ (ap (find_form pieces_of forms) fields ∙ finds pieces_of forms table s.form s.numbers s.frame is'.values)) in
    let numbers : r.numbers ≡ s.numbers = same_some r.numbers s.numbers (sym (numbers_of-spell (pieces_of r.form) r.numbers r.frame (table.good r.form) is.values)
    ∙ (ap (numbers_of (pieces_of r.form)) fields ∙ (ap (λ f. numbers_of (pieces_of f) (fields_of_row pieces_of s)) form ∙ numbers_of-spell (pieces_of s.form) s.numbers s.frame (table.good s.form) is'.values))) in
    let frame : r.frame ≡ s.frame = same_some r.frame s.frame (sym (hex_of-spell (pieces_of r.form) r.numbers r.frame is.values is.hex)
    ∙ (ap (λ fs. hex_bytes (hex_of (pieces_of r.form) fs)) fields ∙ (ap (λ f. hex_bytes (hex_of (pieces_of f) (fields_of_row pieces_of s))) form ∙ hex_of-spell (pieces_of s.form) s.numbers s.frame is'.values is'.hex))) in
    λ k. record { form = form k; numbers = numbers k; frame = frame k }

later_rows : {F : Type 0} (P : Row F → Type 0) (r : Row F) (rs : List (Row F)) → All P (r ∷ rs) → All P rs
later_rows P r rs all k d lt = all (suc k) d (omega arith)

head_same : (x y : List ℕ) (xs ys : List (List ℕ)) → x ∷ xs ≡ y ∷ ys → x ≡ y
head_same x y xs ys e = cc

tail_same : (x y : List ℕ) (xs ys : List (List ℕ)) → x ∷ xs ≡ y ∷ ys → xs ≡ ys
tail_same x y xs ys e = cc

-- Texts that are cut alike are alike.
cut_same : (xs ys : List ℕ) → cuts 10 xs ≡ cuts 10 ys → xs ≡ ys
cut_same xs ys e = sym (join_with_byte-slice_split 10 xs) ∙ (ap (λ ps. join_with_byte 10 ps) e ∙ join_with_byte-slice_split 10 ys)

some_text : {F : Type 0} (pieces_of : F → List Piece) (r : Row F) (rs : List (Row F)) → [] ≢ text_of pieces_of (r ∷ rs)
some_text pieces_of r rs e = let text = ap length (e ∙ text-cons pieces_of r rs) in absurd (omega (arith, text, length-append (bare pieces_of r) (10 ∷ text_of pieces_of rs)))

-- The text of rows determines the rows.
pub rows_same : {F : Type 0} (pieces_of : F → List Piece) (forms : List F) → IsTable pieces_of forms → (rs ss : List (Row F)) → All (IsRow pieces_of) rs → All (IsRow pieces_of) ss → text_of pieces_of rs ≡ text_of pieces_of ss → rs ≡ ss
rows_same pieces_of forms table [] [] all all' e = refl
rows_same pieces_of forms table [] (s ∷ ss) all all' e = absurd (some_text pieces_of s ss e)
rows_same pieces_of forms table (r ∷ rs) [] all all' e = absurd (some_text pieces_of r rs (sym e))
rows_same pieces_of forms table (r ∷ rs) (s ∷ ss) all all' e =
    let is : IsRow pieces_of r = all 0 r (omega arith) in
    let is' : IsRow pieces_of s = all' 0 s (omega arith) in
    let cut : bare pieces_of r ∷ cuts 10 (text_of pieces_of rs) ≡ bare pieces_of s ∷ cuts 10 (text_of pieces_of ss) =
    sym (cuts-line (bare pieces_of r) (text_of pieces_of rs) (row_printable pieces_of forms table r is)) ∙ (ap (cuts 10) (sym (text-cons pieces_of r rs) ∙ (e ∙ text-cons pieces_of s ss)) ∙ cuts-line (bare pieces_of s) (text_of pieces_of ss) (row_printable pieces_of forms table s is')) in
    let here : r ≡ s = row_same pieces_of forms table r s is is' (head_same _ _ _ _ cut) in
    let later : rs ≡ ss = rows_same pieces_of forms table rs ss (later_rows (IsRow pieces_of) r rs all) (later_rows (IsRow pieces_of) s ss all') (cut_same _ _ (tail_same _ _ _ _ cut)) in
    λ k. here k ∷ later k
