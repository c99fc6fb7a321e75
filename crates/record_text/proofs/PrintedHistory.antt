-- Writing a history line by line.
use Rattle.std.proofs.Common.{◌≡◌, ℕ, ◌+◌, ◌<◌, List, [], ◌∷◌, ◌++◌, length, get_or, take, map, sym, ap, subst, ◌∙◌, arith}
use Rattle.std.proofs.lemmas.List.{take_more, map-append}
use Rattle.std.proofs.lemmas.List.Elements.{All-append}
use Rattle.line_format.specs.Rows.{Row, line_of_row, text_of}
use Rattle.line_format.proofs.PartLaws.{text-push}
use Rattle.lawful_history.specs.declared.line.Line.{Line}
use Rattle.record_text.specs.declared.forms.LineForm.{LineForm}
use Rattle.record_text.specs.Table.{pieces_of}
use Rattle.record_text.specs.LineRows.{row_of_line}
use Rattle.record_text.specs.Spelling.{Fits, AllFit}

pub lines-more : (front : List ℕ) (lines : List Line) (i : ℕ) (line : Line) → i < length lines → line ≡ get_or lines i line
    → front ++ text_of pieces_of (map row_of_line (take i lines)) ++ line_of_row pieces_of (row_of_line line) ≡ front ++ text_of pieces_of (map row_of_line (take (i + 1) lines))
lines-more front lines i line lt is =
    let more : take (i + 1) lines ≡ take i lines ++ line ∷ [] = take_more lines i line lt ∙ ap (λ (l : Line). take i lines ++ l ∷ []) (sym is) in
    let rows : map row_of_line (take (i + 1) lines) ≡ map row_of_line (take i lines) ++ row_of_line line ∷ [] = ap (λ (ls : List Line). map row_of_line ls) more ∙ map-append row_of_line (take i lines) (line ∷ []) in
    text-push pieces_of front (map row_of_line (take i lines)) (row_of_line line) ∙ ap (λ (rs : List (Row LineForm)). front ++ text_of pieces_of rs) (sym rows)

one : (line : Line) → Fits line → AllFit (line ∷ [])
one line fits zero_ d lt = let z : zero_ ≡ 0 = omega arith in subst (λ (k : ℕ). Fits (get_or (line ∷ []) k d)) (sym z) fits

pub all-more : (lines : List Line) (i : ℕ) (line : Line) → i < length lines → line ≡ get_or lines i line → AllFit (take i lines) → Fits line → AllFit (take (i + 1) lines)
all-more lines i line lt is all fits =
    let more : take (i + 1) lines ≡ take i lines ++ line ∷ [] = take_more lines i line lt ∙ ap (λ (l : Line). take i lines ++ l ∷ []) (sym is) in
    subst AllFit (sym more) (All-append Fits (take i lines) (line ∷ []) all (one line fits))
