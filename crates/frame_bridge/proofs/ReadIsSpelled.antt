-- A value that is read is a run, and the text is its spelling.
use Rattle.std.proofs.Common.{◌≡◌, ℕ, List, Ok, refl, sym, ap, subst, ◌∙◌}
use Rattle.line_format.specs.Rows.{text_of}
use Rattle.line_format.specs.Machine.{read}
use Rattle.line_format.proofs.FormsOfRows.{same_place}
use Rattle.line_format.proofs.RowTexts as all
use Rattle.frame_bridge.specs.declared.positions.Position.{Position}
use Rattle.frame_bridge.specs.declared.positions.Position.TheVariants.{Ended}
use Rattle.frame_bridge.specs.Table.{pieces_of}
use Rattle.frame_bridge.specs.Spelling.{World, IsSpelling}
use Rattle.frame_bridge.specs.Judge.{DraftView, world_of_draft, ordinal_of, at_start, rules, machine}
use Rattle.frame_bridge.proofs.FormsAreTable.{is_table}
use Rattle.frame_bridge.proofs.PositionInvariant.{PositionHolds, rows_before, are_kept, positions, listed}

pub is_spelled : (bytes : List ℕ) (e : DraftView) (w : World) → read machine at_start bytes ≡ Ok e → w ≡ world_of_draft e → IsSpelling w bytes
is_spelled bytes e w is same =
    let r = all.is_read rules is_table (λ d. rows_before d.position d) (λ d. PositionHolds d.position d) are_kept at_start refl refl bytes e is in
    let at : e.position ≡ Ended = sym (same_place positions ordinal_of listed e.position Ended r.ended) in
    subst (λ (x : World). IsSpelling x bytes) (sym same) (subst (λ (s : Position). PositionHolds s e) at r.good, r.text ∙ ap (λ (s : Position). text_of pieces_of (rows_before s e)) at)
