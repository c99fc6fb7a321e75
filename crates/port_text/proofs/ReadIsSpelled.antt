-- A value that is read is a schedule, and the text is its spelling.
use Rattle.std.proofs.Common.{◌≡◌, ℕ, ◌*◌, ◌/◌, List, [], ◌∷◌, ◌++◌, map, Ok, refl, sym, ap, subst, ◌∙◌, arith}
use Rattle.line_format.specs.Rows.{Row, row, text_of, flag_rows}
use Rattle.line_format.specs.Machine.{read}
use Rattle.line_format.proofs.FormsOfRows.{same_place}
use Rattle.line_format.proofs.RowTexts as all
use Rattle.scenario_text.proofs.SizeTests.{is_geometry-true}
use Rattle.scenario_text.proofs.ReadIsSpelled.{whole_pages, shape_is}
use Rattle.port_text.specs.declared.forms.Form.{Form}
use Rattle.port_text.specs.declared.forms.Form.TheVariants.{Version, Peers, Out, Longest, Begin, End, Honest, Hostile}
use Rattle.port_text.specs.declared.positions.Position.{Position}
use Rattle.port_text.specs.declared.positions.Position.TheVariants.{Ended}
use Rattle.port_text.specs.Drafts.{IsWhole}
use Rattle.port_text.specs.Table.{pieces_of}
use Rattle.port_text.specs.ActRows.{row_of_act}
use Rattle.port_text.specs.Scenario.{World, IsWorld}
use Rattle.port_text.specs.Spelling.{rows_of, spelling, IsSpelling}
use Rattle.port_text.specs.Judge.{DraftView, world_of_draft, ordinal_of, at_start, rules, machine}
use Rattle.port_text.proofs.FormsAreTable.{is_table}
use Rattle.port_text.proofs.PositionInvariant.{PositionHolds, rows_before, are_kept, positions, listed}

-- ---- a schedule

-- The value of the lines up to the end is a schedule of ports.
pub is_world : (e : DraftView) → PositionHolds Ended e → IsWorld (world_of_draft e)
is_world e good =
    let room = good.0.port.room in
    let pages = whole_pages e.out good.0.region.out_pages.1 in
    record {
      geometry = shape_is e.peers 4096 0 e.out good.0.region;
      few = good.0.few.1;
      table = refl;
      common = refl;
      size = good.0.port.size;
      room = omega arith;
      flags = good.1.flags;
      allowed = good.1.allowed;
      turns = good.1.turns;
    }

pub rows_are : (e : DraftView) → PositionHolds Ended e → rows_before Ended e ≡ rows_of (world_of_draft e)
rows_are e good =
    let o : 4 * (e.out / 4) ≡ e.out = whole_pages e.out good.0.region.out_pages.1 in
    let peers : List (Row Form) = flag_rows Honest Hostile 0 e.honest in
    let head : (row Version (1 ∷ []) [] ∷ row Peers (e.peers ∷ []) [] ∷ row Out (e.out ∷ []) [] ∷ row Longest (e.most ∷ []) [] ∷ peers)
    ≡ (row Version (1 ∷ []) [] ∷ row Peers (e.peers ∷ []) [] ∷ row Out (4 * (e.out / 4) ∷ []) [] ∷ row Longest (e.most ∷ []) [] ∷ peers) = rw o refl in
    ap (λ (rs : List (Row Form)). rs ++ row Begin [] [] ∷ [] ++ map row_of_act e.acts ++ row End [] [] ∷ []) head

-- The text that was read: the lines up to the end have a schedule as their value, and the text is
-- its spelling.
pub record IsRead (bytes : List ℕ) (e : DraftView) : Type 0 where
  pub good : PositionHolds Ended e
  pub text : bytes ≡ spelling (world_of_draft e)

pub is_read : (bytes : List ℕ) (e : DraftView) → read machine at_start bytes ≡ Ok e → IsRead bytes e
is_read bytes e is =
    let r = all.is_read rules is_table (λ d. rows_before d.position d) (λ d. PositionHolds d.position d) are_kept at_start (record { honest_none = refl; acts_none = refl }) refl bytes e is in
    let at : e.position ≡ Ended = sym (same_place positions ordinal_of listed e.position Ended r.ended) in
    let good : PositionHolds Ended e = subst (λ (s : Position). PositionHolds s e) at r.good in
    record { good = good; text = r.text ∙ ap (λ (s : Position). text_of pieces_of (rows_before s e)) at ∙ ap (text_of pieces_of) (rows_are e good) }

-- At the end the value of the lines is a schedule.
pub is_whole : (bytes : List ℕ) (e : DraftView) → read machine at_start bytes ≡ Ok e → IsWhole e
is_whole bytes e is = let r = is_read bytes e is in record { geometry = is_geometry-true _ _ _ _ r.good.0.region; world = is_world e r.good }

pub is_spelled : (bytes : List ℕ) (e : DraftView) (w : World) → read machine at_start bytes ≡ Ok e → w ≡ world_of_draft e → IsSpelling w bytes
is_spelled bytes e w is same = let r = is_read bytes e is in subst (λ (x : World). IsSpelling x bytes) (sym same) (is_world e r.good, r.text)
