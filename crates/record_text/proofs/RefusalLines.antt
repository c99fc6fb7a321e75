-- The line of a refusal, by the name of its field.
use Rattle.std.proofs.Common.{◌≡◌, ℕ, List, [], ◌∷◌, ◌++◌, refl, sym, ap, ◌∙◌, append_assoc}
use Rattle.std.specs.Prelude.{codes, decimal}
use Rattle.line_format.specs.Forms.{line_of}
use Rattle.line_format.specs.Rows.{line_of_row}
use Rattle.lawful_history.specs.declared.line.Line.TheVariants as lines
use Rattle.split_ring.specs.Names.{name_of}
use Rattle.split_ring.specs.declared.ranges.FieldName.{FieldName}
use Rattle.split_ring.specs.declared.ranges.FieldName.TheVariants as names
use Rattle.split_ring.specs.declared.ranges.Refused.{Refused}
use Rattle.record_text.specs.Table.{pieces_of}
use Rattle.record_text.specs.LineRows.{row_of_line}

line_by_form : (peer value : ℕ) (field : FieldName) → line_of_row pieces_of (row_of_line (lines.Refuse peer (record { field = field; value = value }))) ≡ line_of (codes "refuse" ∷ decimal peer ∷ name_of field ∷ decimal value ∷ []) ++ 10 ∷ []
unfolding line_of_row
line_by_form peer value names.AvailIndex = refl
line_by_form peer value _ = refl

pub refusal_line : (peer : ℕ) (refused : Refused) (name out : List ℕ) → name ≡ name_of refused.field →
    out ++ line_of (codes "refuse" ∷ decimal peer ∷ name ∷ decimal refused.value ∷ []) ++ 10 ∷ []
    ≡ out ++ line_of_row pieces_of (row_of_line (lines.Refuse peer refused))
refusal_line peer refused name out named =
    let fields : List ℕ → List ℕ = λ word. line_of (codes "refuse" ∷ decimal peer ∷ word ∷ decimal refused.value ∷ []) in
    ap (λ word. out ++ fields word ++ 10 ∷ []) named
    ∙ append_assoc out (fields (name_of refused.field)) (10 ∷ [])
    ∙ ap (λ line. out ++ line) (sym (line_by_form peer refused.value refused.field))
