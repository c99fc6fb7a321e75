-- A value that is read is a scenario, and the text is its spelling.
use Rattle.std.proofs.Common.{◌≡◌, ◌==◌, ℕ, ◌*◌, ◌/◌, ◌%◌, true, List, [], ◌∷◌, ◌++◌, map, Ok, refl, sym, ap, subst, ◌∙◌, arith}
use Rattle.line_format.specs.Rows.{Row, row, text_of, flag_rows}
use Rattle.line_format.specs.Machine.{read}
use Rattle.line_format.proofs.FormsOfRows.{same_place}
use Rattle.line_format.proofs.RowTexts as all
use Rattle.section_map.specs.Geometry.{IsShape}
use Rattle.section_map.specs.Faults.{shape_of}
use Rattle.scenario_text.specs.declared.forms.Form.{Form}
use Rattle.scenario_text.specs.declared.forms.Form.TheVariants.{Version, Peers, Table, Common, Out, Mtu, Begin, End, Honest, Hostile}
use Rattle.scenario_text.specs.declared.positions.Position.{Position}
use Rattle.scenario_text.specs.declared.positions.Position.TheVariants.{Ended}
use Rattle.scenario_text.specs.Table.{pieces_of}
use Rattle.scenario_text.specs.ActRows.{row_of_act}
use Rattle.scenario_text.specs.Scenario.{World, IsWorld}
use Rattle.scenario_text.specs.Spelling.{row_of_wiring, rows_of, spelling, IsSpelling}
use Rattle.scenario_text.specs.Judge.{DraftView, world_of_draft, ordinal_of, at_start, has_ended, rules, step, machine}
use Rattle.scenario_text.proofs.SizeTests.{HasRegion}
use Rattle.scenario_text.proofs.FormsAreTable.{is_table}
use Rattle.scenario_text.proofs.PositionInvariant.{PositionHolds, rows_before, rows_so_far, IsGood, are_kept, positions, listed}

-- The facts after a line that was taken.
pub after : (d : DraftView) (line : List ℕ) (e : DraftView) → PositionHolds d.position d → step d line ≡ Ok e → all.Later rules rows_so_far IsGood d line e
after d line e good is = all.later rules is_table rows_so_far IsGood are_kept d line e good is

-- ---- a scenario

pub whole_pages : (size : ℕ) → size % 4096 ≡ 0 → 4 * (size / 4) ≡ size
whole_pages size is = omega arith

-- Sizes that have a region have a shape.
pub shape_is : (peers table common out : ℕ) → HasRegion peers table common out → IsShape (shape_of peers table common out)
shape_is peers table common out is =
    let table_some = is.table_pages.0 in
    let table_pages = is.table_pages.1 in
    let common_pages = is.common_pages in
    let out_some = is.out_pages.0 in
    let out_pages = is.out_pages.1 in
    let room = is.room in
    let states = is.states in
    let sections : 4 * (peers * (out / 4)) ≡ peers * out = swap peers (out / 4) ∙ ap (λ (n : ℕ). peers * n) (whole_pages out out_pages) in
    record {
      two_peers = is.count.0;
      most_peers = is.count.1;
      table_page = omega arith;
      table_pages = omega arith;
      common_pages = omega arith;
      out_page = omega arith;
      out_pages = omega arith;
      states = omega arith;
      room = omega arith;
    }
  where
    swap : (p n : ℕ) → 4 * (p * n) ≡ p * (4 * n)
    swap p n = omega arith

-- The value of the lines up to the end is a scenario.
pub is_world : (e : DraftView) → PositionHolds Ended e → IsWorld (world_of_draft e)
is_world e good = record {
  version = refl;
  geometry = shape_is e.peers e.table e.common e.out good.0.region;
  few = good.0.few.1;
  queue = good.0.queue;
  out = sym (whole_pages e.out good.0.region.out_pages.1);
  wiring = good.0.wired;
  flags = good.1.flags;
  allowed = good.1.allowed;
  turns = good.1.turns;
}

pub rows_are : (e : DraftView) → PositionHolds Ended e → rows_before Ended e ≡ rows_of (world_of_draft e)
rows_are e good =
    let t : 4 * (e.table / 4) ≡ e.table = whole_pages e.table good.0.region.table_pages.1 in
    let c : 4 * (e.common / 4) ≡ e.common = whole_pages e.common good.0.region.common_pages in
    let o : 4 * (e.out / 4) ≡ e.out = whole_pages e.out good.0.region.out_pages.1 in
    let after_head : List (Row Form) = row_of_wiring e.wiring ∷ flag_rows Honest Hostile 0 e.honest in
    let head : (row Version (e.version ∷ []) [] ∷ row Peers (e.peers ∷ []) [] ∷ row Table (e.table ∷ []) [] ∷ row Common (e.common ∷ []) [] ∷ row Out (e.out ∷ []) [] ∷ row Mtu (e.mtu ∷ []) [] ∷ after_head)
    ≡ (row Version (e.version ∷ []) [] ∷ row Peers (e.peers ∷ []) [] ∷ row Table (4 * (e.table / 4) ∷ []) [] ∷ row Common (4 * (e.common / 4) ∷ []) [] ∷ row Out (4 * (e.out / 4) ∷ []) [] ∷ row Mtu (e.mtu ∷ []) [] ∷ after_head) = rw (t, c, o) refl in
    ap (λ (rs : List (Row Form)). rs ++ row Begin [] [] ∷ [] ++ map row_of_act e.acts ++ row End [] [] ∷ []) head

pub ended_is : (e : DraftView) → has_ended e ≡ true → e.position ≡ Ended
ended_is e is = sym (same_place positions ordinal_of listed e.position Ended is)

-- The text that was read: the lines up to the end have a scenario as their value, and the text is
-- its spelling.
pub record IsRead (bytes : List ℕ) (e : DraftView) : Type 0 where
  pub ended : e.position ≡ Ended
  pub good : PositionHolds Ended e
  pub text : bytes ≡ spelling (world_of_draft e)

pub is_read : (bytes : List ℕ) (e : DraftView) → read machine at_start bytes ≡ Ok e → IsRead bytes e
is_read bytes e is =
    let r = all.is_read rules is_table rows_so_far IsGood are_kept at_start (record { honest_none = refl; acts_none = refl }) refl bytes e is in
    let at = ended_is e r.ended in
    let good : PositionHolds Ended e = subst (λ (s : Position). PositionHolds s e) at r.good in
    record { ended = at; good = good; text = r.text ∙ ap (λ (s : Position). text_of pieces_of (rows_before s e)) at ∙ ap (text_of pieces_of) (rows_are e good) }

-- At the end the value of the lines is a scenario.
pub is_whole : (bytes : List ℕ) (e : DraftView) → read machine at_start bytes ≡ Ok e → (has_ended e ≡ true) × IsWorld (world_of_draft e)
is_whole bytes e is = let r = is_read bytes e is in (ap (λ (p : Position). ordinal_of p == 10) r.ended, is_world e r.good)

pub is_spelled : (bytes : List ℕ) (e : DraftView) (w : World) → read machine at_start bytes ≡ Ok e → w ≡ world_of_draft e → IsSpelling w bytes
is_spelled bytes e w is same = let r = is_read bytes e is in subst (λ (x : World). IsSpelling x bytes) (sym same) (is_world e r.good, r.text)
