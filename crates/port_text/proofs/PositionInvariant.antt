-- The invariant of the lines so far at each position. Each row that can follow preserves it.
use Rattle.std.proofs.Common.{◌≡◌, ℕ, ◌+◌, ◌<◌, ◌≤◌, Bool, true, false, cond, eqb, List, [], ◌∷◌, ◌++◌, length, map, Some, refl, sym, ap, subst, ◌∙◌, arith}
use Rattle.std.specs.Prelude.{slice_get, codes, All}
use Rattle.std.proofs.lemmas.Bool.{eqb-true, ltb-false}
use Rattle.std.proofs.lemmas.List.{append-nil}
use Rattle.std.proofs.lemmas.List.Elements.{All-nil}
use Rattle.std.proofs.lemmas.List.Sums.{sum_by_push}
use Rattle.line_format.specs.Rows.{Row, row, flag_row, flag_rows}
use Rattle.line_format.proofs.NumbersFit.{in_range, one_alone, same_row, the_number, no_number}
use Rattle.line_format.proofs.ListLaws.{all_push}
use Rattle.line_format.proofs.PartLaws.{then_row, rows_at, numbers-push, rows-push, still_fewer, next_number}
use Rattle.line_format.proofs.TestChains.{either_false, not_false, not_true}
use Rattle.line_format.proofs.RowsFollow.{CanFollow, with_row}
use Rattle.line_format.proofs.RowTexts.{Adds, keeps_item, AreKept}
use Rattle.line_format.proofs.FormsOfRows.{same_place}
use Rattle.scenario_text.proofs.SizeTests.{HasRegion, has_region}
use Rattle.scenario_text.proofs.PositionInvariant.{Clean, IsFew}
use Rattle.port_text.specs.declared.acts.Act.{Act}
use Rattle.port_text.specs.declared.forms.Form.{Form}
use Rattle.port_text.specs.declared.forms.Form.TheVariants.{Version, Peers, Out, Longest, Honest, Hostile, Begin, End}
use Rattle.port_text.specs.declared.positions.Position.{Position}
use Rattle.port_text.specs.declared.positions.Position.TheVariants.{AtVersion, AtPeers, AtOut, AtLongest, AtPeer, AtBegin, AtActs, Ended}
use Rattle.port_text.specs.declared.limits.TheConstants.{MOST_TURNS}
use Rattle.port_text.specs.Acts.{cost, turns_of}
use Rattle.port_text.specs.ActRows.{row_of_act}
use Rattle.port_text.specs.Scenario.{World, IsAllowed}
use Rattle.port_text.specs.Judge.{DraftView, world_of_draft, ordinal_of, position_of, rules}
use Rattle.port_text.proofs.SizeTests.{HasPort, port_of}
use Rattle.port_text.proofs.RowsOfActs.{act_row, act_of-row, act_gives, allowed_act}

-- ---- positions

abbrev pub positions : List Position
positions = AtVersion ∷ AtPeers ∷ AtOut ∷ AtLongest ∷ AtPeer ∷ AtBegin ∷ AtActs ∷ Ended ∷ []

pub listed : (s : Position) → slice_get positions (ordinal_of s) ≡ Some s
listed AtVersion = refl
listed _ = refl

-- ---- the rows before a position

abbrev sizes_rows : DraftView → List (Row Form)
sizes_rows d = row Version (1 ∷ []) [] ∷ row Peers (d.peers ∷ []) [] ∷ row Out (d.out ∷ []) [] ∷ row Longest (d.most ∷ []) [] ∷ []

abbrev pub rows_before : Position → DraftView → List (Row Form)
rows_before s d = rows_at (sizes_rows d) (flag_rows Honest Hostile 0 d.honest) (row Begin [] []) (map row_of_act d.acts) (row End [] []) (ordinal_of s)

-- ---- the invariant of a position

-- The head's sizes are right.
pub record Measured (peers out most : ℕ) : Type 0 where
  pub few : IsFew peers
  pub region : HasRegion peers 4096 0 out
  pub port : HasPort most out

abbrev pub IsMeasured : DraftView → Type 0
IsMeasured d = Measured d.peers d.out d.most

-- The acts so far are a schedule's.
pub record Acted (d : DraftView) : Type 0 where
  pub flags : length d.honest ≡ d.peers
  pub allowed : All (IsAllowed (world_of_draft d)) d.acts
  pub turns : turns_of d.acts ≤ MOST_TURNS

abbrev pub PositionHolds : Position → DraftView → Type 0
PositionHolds AtVersion d = Clean d.honest d.acts
PositionHolds AtPeers d = Clean d.honest d.acts
PositionHolds AtOut d = Clean d.honest d.acts × IsFew d.peers
PositionHolds AtLongest d = Clean d.honest d.acts × IsFew d.peers × HasRegion d.peers 4096 0 d.out
PositionHolds AtPeer d = IsMeasured d × (d.acts ≡ []) × (length d.honest < d.peers)
PositionHolds AtBegin d = IsMeasured d × (d.acts ≡ []) × (length d.honest ≡ d.peers)
PositionHolds AtActs d = IsMeasured d × Acted d
PositionHolds Ended d = IsMeasured d × Acted d

-- ---- acts

-- Whether an act is allowed doesn't depend on the acts.
allowed-push : (w : World) (a : Act) → All (IsAllowed w) w.acts → IsAllowed w a → All (IsAllowed (record w { acts = w.acts ++ a ∷ [] })) (w.acts ++ a ∷ [])
allowed-push w a all is = all_push (IsAllowed w) (IsAllowed (record w { acts = w.acts ++ a ∷ [] })) (λ b one. record { values = one.values; bytes = one.bytes; range = one.range; peer = one.peer; message = one.message }) w.acts a all is

abbrev Added : DraftView → Row Form → DraftView → Type 0
Added d r e = Adds (λ x. rows_before x.position x) (λ x. PositionHolds x.position x) d r e

-- The row of an act adds the act.
keeps_act : (d : DraftView) → d.position ≡ AtActs → PositionHolds AtActs d → (a : Act) → CanFollow rules d (row_of_act a) → Added d (row_of_act a) (with_row rules (row_of_act a) d)
keeps_act d at good a can =
    let few : turns_of d.acts + cost a ≤ MOST_TURNS = ltb-false _ _ (not_true _ (rw (act_of-row a) at can.room)) in
    subst (λ (e : DraftView). Added d (row_of_act a) e) (sym (act_gives d a)) (record {
      rows = rw at (rows-push (rows_before AtBegin d ++ row Begin [] [] ∷ []) row_of_act d.acts a (row_of_act a) refl);
      good = rw at (good.0, record { flags = good.1.flags; allowed = allowed-push (world_of_draft d) a good.1.allowed (allowed_act d a can); turns = rw (sum_by_push cost d.acts a) few });
    })

-- ---- peers

-- The line of a peer adds its row. After the last peer `begin` comes next.
adds_peer : (d : DraftView) (b : Bool) (r : Row Form) → d.position ≡ AtPeer → flag_row Honest Hostile (length d.honest) b ≡ r → PositionHolds AtPeer d → (full : Bool) → eqb (length (d.honest ++ b ∷ [])) d.peers ≡ full
    → Added d r (record d { position = cond full AtBegin AtPeer; honest = d.honest ++ b ∷ [] })
adds_peer d b r at e good true is = record { rows = rw at (numbers-push (sizes_rows d) (flag_row Honest Hostile) d.honest b r e); good = (good.0, good.1, eqb-true _ _ is) }
adds_peer d b r at e good false is = record { rows = rw at (numbers-push (sizes_rows d) (flag_row Honest Hostile) d.honest b r e); good = (good.0, good.1, still_fewer d.honest b d.peers good.2 is) }

-- ---- each form

adds : (form : Form) (ns frame : List ℕ) (d : DraftView) → d.position ≡ position_of form → PositionHolds (position_of form) d → CanFollow rules d (row form ns frame) → Added d (row form ns frame) (with_row rules (row form ns frame) d)
adds Version ns frame d at good can = record { rows = rw at (then_row [] (same_row Version _ ns frame (one_alone ns can.values) (sym can.bytes))); good = good }
adds Peers ns frame d at good can = record { rows = rw at (then_row (rows_before AtPeers d) (the_number Peers _ _ ns frame can.values can.bytes)); good = (good, in_range 2 8 [] ns can.values) }
adds Out ns frame d at good can = record { rows = rw at (then_row (rows_before AtOut d) (the_number Out _ _ ns frame can.values can.bytes)); good = (good.0, good.1, has_region _ _ _ _ can.sizes) }
adds Longest ns frame d at good can = record {
  rows = rw (at, good.0.honest_none) (then_row (rows_before AtLongest d) (the_number Longest _ _ ns frame can.values can.bytes));
  good = (record { few = good.1; region = good.2; port = port_of _ _ can.sizes }, good.0.acts_none, omega (arith, ap length good.0.honest_none, good.1.0));
}
adds Honest ns frame d at good can = adds_peer d true _ at (same_row Honest _ ns frame (next_number (length d.honest) (codes "peer") _ ns frame can.values (either_false _ _ can.order).1) (sym can.bytes)) good _ refl
adds Hostile ns frame d at good can = adds_peer d false _ at (same_row Hostile _ ns frame (next_number (length d.honest) (codes "peer") _ ns frame can.values (either_false _ _ can.order).1) (sym can.bytes)) good _ refl
adds Begin ns frame d at good can = record {
  rows = rw (at, good.1) (append-nil (rows_before AtBegin d ++ row Begin [] [] ∷ []) ∙ then_row (rows_before AtBegin d) (no_number Begin ns frame can.values can.bytes));
  good = (good.0, record { flags = good.2; allowed = rw good.1 (All-nil _); turns = rw good.1 (omega arith) });
}
adds End ns frame d at good can = record { rows = rw at (then_row (rows_before AtActs d) (no_number End ns frame can.values can.bytes)); good = (good.0, record { flags = good.1.flags; allowed = good.1.allowed; turns = good.1.turns }) }
adds form ns frame d at good can = keeps_item rules d row_of_act (row form ns frame) (act_row form ns frame refl can.values can.bytes) (keeps_act d at good) can

-- A row that can follow preserves the invariant, and adds its line.
pub are_kept : AreKept rules (λ d. rows_before d.position d) (λ d. PositionHolds d.position d)
are_kept d r can good =
    let at = same_place positions ordinal_of listed (position_of r.form) d.position (not_false _ (either_false _ _ can.order).0) in
    adds r.form r.numbers r.frame d at (subst (λ (p : Position). PositionHolds p d) at good) can
