-- Rows of acts: each act form's row is an act's, and an act is allowed exactly if its row can
-- follow.
use Rattle.std.proofs.Common.{◌≡◌, ℕ, ◌+◌, ◌≤◌, Bool, true, false, List, get_or, Some, refl, sym, ap, ◌∙◌}
use Rattle.std.specs.Prelude.{option_and_then, slice_get}
use Rattle.std.specs.Option.{option_map_or}
use Rattle.std.proofs.lemmas.Bool.{le-ltb}
use Rattle.line_format.specs.Numbers.{number_of}
use Rattle.line_format.specs.Forms.{Fit, FitBytes}
use Rattle.line_format.specs.Rows.{row, fields_of_row}
use Rattle.line_format.proofs.NumbersFit.{counted, list_1, list_2, list_3, list_4, same_row}
use Rattle.line_format.proofs.PartLaws.{rule_of}
use Rattle.line_format.proofs.RowsFollow.{CanFollow, with_row}
use Rattle.line_format.proofs.RowTexts.{HasItem}
use Rattle.line_format.specs.Grammar.{is_out_of_order}
use Rattle.scenario_text.specs.declared.acts.Act.{Act}
use Rattle.scenario_text.specs.declared.acts.Act.TheVariants as acts
use Rattle.scenario_text.specs.declared.forms.Form.{Form}
use Rattle.scenario_text.specs.declared.forms.Form.TheVariants.{Tick, Offer, Poll, Stop, Auto, Storm, Turn, Reset, Poke, Peek, Set, Ring, CfgRead, CfgWrite, MmioRead, MmioWrite, MsixRead, MsixWrite, Lose, Again}
use Rattle.scenario_text.specs.declared.positions.Position.TheVariants.{AtActs}
use Rattle.scenario_text.specs.declared.limits.TheConstants.{MOST_ACTS}
use Rattle.scenario_text.specs.Acts.{cost, turns_of, peer_of}
use Rattle.scenario_text.specs.Table.{pieces_of}
use Rattle.scenario_text.specs.ActRows.{row_of_act}
use Rattle.scenario_text.specs.Scenario.{is_too_late, IsAllowed}
use Rattle.scenario_text.specs.Judge.{DraftView, world_of_draft, is_out_of_turn, act_of, is_act, fits_sizes, with_act, rules}

-- ---- the act of a row

pub act_row : (form : Form) (ns frame : List ℕ) → is_act form ≡ true → Fit (pieces_of form) ns → FitBytes (pieces_of form) frame → HasItem row_of_act (row form ns frame)
act_row Tick ns frame is fit bytes = record { item = acts.Tick (get_or ns 0 0); row_is = same_row Tick _ ns frame (list_1 ns (counted (pieces_of Tick) ns fit)) (sym bytes) }
act_row Offer ns frame is fit bytes = record { item = acts.Offer (get_or ns 0 0) frame; row_is = ap (λ (ms : List ℕ). row Offer ms frame) (list_1 ns (counted (pieces_of Offer) ns fit)) }
act_row Poll ns frame is fit bytes = record { item = acts.Poll (get_or ns 0 0); row_is = same_row Poll _ ns frame (list_1 ns (counted (pieces_of Poll) ns fit)) (sym bytes) }
act_row Stop ns frame is fit bytes = record { item = acts.Stop (get_or ns 0 0); row_is = same_row Stop _ ns frame (list_1 ns (counted (pieces_of Stop) ns fit)) (sym bytes) }
act_row Auto ns frame is fit bytes = record { item = acts.Auto (get_or ns 0 0) (get_or ns 1 0); row_is = same_row Auto _ ns frame (list_2 ns (counted (pieces_of Auto) ns fit)) (sym bytes) }
act_row Storm ns frame is fit bytes = record { item = acts.Storm (get_or ns 0 0) (get_or ns 1 0); row_is = same_row Storm _ ns frame (list_2 ns (counted (pieces_of Storm) ns fit)) (sym bytes) }
act_row Turn ns frame is fit bytes = record { item = acts.Turn (get_or ns 0 0) (get_or ns 1 0); row_is = same_row Turn _ ns frame (list_2 ns (counted (pieces_of Turn) ns fit)) (sym bytes) }
act_row Reset ns frame is fit bytes = record { item = acts.Reset (get_or ns 0 0); row_is = same_row Reset _ ns frame (list_1 ns (counted (pieces_of Reset) ns fit)) (sym bytes) }
act_row Poke ns frame is fit bytes = record { item = acts.Poke (get_or ns 0 0) (get_or ns 1 0) (get_or ns 2 0); row_is = same_row Poke _ ns frame (list_3 ns (counted (pieces_of Poke) ns fit)) (sym bytes) }
act_row Peek ns frame is fit bytes = record { item = acts.Peek (get_or ns 0 0) (get_or ns 1 0); row_is = same_row Peek _ ns frame (list_2 ns (counted (pieces_of Peek) ns fit)) (sym bytes) }
act_row Set ns frame is fit bytes = record { item = acts.Set (get_or ns 0 0) (get_or ns 1 0); row_is = same_row Set _ ns frame (list_2 ns (counted (pieces_of Set) ns fit)) (sym bytes) }
act_row Ring ns frame is fit bytes = record { item = acts.Ring (get_or ns 0 0) (get_or ns 1 0) (get_or ns 2 0); row_is = same_row Ring _ ns frame (list_3 ns (counted (pieces_of Ring) ns fit)) (sym bytes) }
act_row CfgRead ns frame is fit bytes = record { item = acts.CfgRead (get_or ns 0 0) (get_or ns 1 0) (get_or ns 2 0); row_is = same_row CfgRead _ ns frame (list_3 ns (counted (pieces_of CfgRead) ns fit)) (sym bytes) }
act_row CfgWrite ns frame is fit bytes = record { item = acts.CfgWrite (get_or ns 0 0) (get_or ns 1 0) (get_or ns 2 0) (get_or ns 3 0); row_is = same_row CfgWrite _ ns frame (list_4 ns (counted (pieces_of CfgWrite) ns fit)) (sym bytes) }
act_row MmioRead ns frame is fit bytes = record { item = acts.MmioRead (get_or ns 0 0) (get_or ns 1 0); row_is = same_row MmioRead _ ns frame (list_2 ns (counted (pieces_of MmioRead) ns fit)) (sym bytes) }
act_row MmioWrite ns frame is fit bytes = record { item = acts.MmioWrite (get_or ns 0 0) (get_or ns 1 0) (get_or ns 2 0); row_is = same_row MmioWrite _ ns frame (list_3 ns (counted (pieces_of MmioWrite) ns fit)) (sym bytes) }
act_row MsixRead ns frame is fit bytes = record { item = acts.MsixRead (get_or ns 0 0) (get_or ns 1 0); row_is = same_row MsixRead _ ns frame (list_2 ns (counted (pieces_of MsixRead) ns fit)) (sym bytes) }
act_row MsixWrite ns frame is fit bytes = record { item = acts.MsixWrite (get_or ns 0 0) (get_or ns 1 0) (get_or ns 2 0); row_is = same_row MsixWrite _ ns frame (list_3 ns (counted (pieces_of MsixWrite) ns fit)) (sym bytes) }
act_row Lose ns frame is fit bytes = record { item = acts.Lose (get_or ns 0 0); row_is = same_row Lose _ ns frame (list_1 ns (counted (pieces_of Lose) ns fit)) (sym bytes) }
act_row Again ns frame is fit bytes = record { item = acts.Again (get_or ns 0 0) (get_or ns 1 0); row_is = same_row Again _ ns frame (list_2 ns (counted (pieces_of Again) ns fit)) (sym bytes) }
act_row _ ns frame is fit bytes = absurd cc

pub act_of-row : (a : Act) → act_of (row_of_act a).form (row_of_act a).numbers (row_of_act a).frame ≡ Some a
act_of-row (acts.Tick p) = refl
act_of-row (acts.Offer p frame) = refl
act_of-row (acts.Poll p) = refl
act_of-row (acts.Stop p) = refl
act_of-row (acts.Auto p expect) = refl
act_of-row (acts.Storm p seed) = refl
act_of-row (acts.Turn p k) = refl
act_of-row (acts.Reset p) = refl
act_of-row (acts.Poke p word value) = refl
act_of-row (acts.Peek p word) = refl
act_of-row (acts.Set p value) = refl
act_of-row (acts.Ring p target vector) = refl
act_of-row (acts.CfgRead p offset width) = refl
act_of-row (acts.CfgWrite p offset width value) = refl
act_of-row (acts.MmioRead p offset) = refl
act_of-row (acts.MmioWrite p offset value) = refl
act_of-row (acts.MsixRead p offset) = refl
act_of-row (acts.MsixWrite p offset value) = refl
act_of-row (acts.Lose p) = refl
act_of-row (acts.Again p vector) = refl

-- The row of an act adds the act.
pub act_gives : (d : DraftView) (a : Act) → with_row rules (row_of_act a) d ≡ with_act a d
act_gives d a = rw (act_of-row a) refl

sizes_fit : (d : DraftView) (a : Act) → fits_sizes d (row_of_act a).form (row_of_act a).numbers ≡ true
sizes_fit d (acts.Tick p) = refl
sizes_fit d (acts.Offer p frame) = refl
sizes_fit d (acts.Poll p) = refl
sizes_fit d (acts.Stop p) = refl
sizes_fit d (acts.Auto p expect) = refl
sizes_fit d (acts.Storm p seed) = refl
sizes_fit d (acts.Turn p k) = refl
sizes_fit d (acts.Reset p) = refl
sizes_fit d (acts.Poke p word value) = refl
sizes_fit d (acts.Peek p word) = refl
sizes_fit d (acts.Set p value) = refl
sizes_fit d (acts.Ring p target vector) = refl
sizes_fit d (acts.CfgRead p offset width) = refl
sizes_fit d (acts.CfgWrite p offset width value) = refl
sizes_fit d (acts.MmioRead p offset) = refl
sizes_fit d (acts.MmioWrite p offset value) = refl
sizes_fit d (acts.MsixRead p offset) = refl
sizes_fit d (acts.MsixWrite p offset value) = refl
sizes_fit d (acts.Lose p) = refl
sizes_fit d (acts.Again p vector) = refl

-- ---- the order of acts

pub turn_is : (d : DraftView) (a : Act) → Fit (pieces_of (row_of_act a).form) (row_of_act a).numbers
    → option_map_or (is_out_of_turn d (row_of_act a).form) (option_and_then number_of (slice_get (fields_of_row pieces_of (row_of_act a)) 1)) false ≡ is_too_late d.acts (row_of_act a).form (peer_of a)
turn_is d (acts.Tick p) fit = rule_of (is_out_of_turn d Tick) p fit.1
turn_is d (acts.Offer p frame) fit = rule_of (is_out_of_turn d Offer) p fit.1
turn_is d (acts.Poll p) fit = rule_of (is_out_of_turn d Poll) p fit.1
turn_is d (acts.Stop p) fit = rule_of (is_out_of_turn d Stop) p fit.1
turn_is d (acts.Auto p expect) fit = rule_of (is_out_of_turn d Auto) p fit.1
turn_is d (acts.Storm p seed) fit = rule_of (is_out_of_turn d Storm) p fit.1
turn_is d (acts.Turn p k) fit = rule_of (is_out_of_turn d Turn) p fit.1
turn_is d (acts.Reset p) fit = rule_of (is_out_of_turn d Reset) p fit.1
turn_is d (acts.Poke p word value) fit = rule_of (is_out_of_turn d Poke) p fit.1
turn_is d (acts.Peek p word) fit = rule_of (is_out_of_turn d Peek) p fit.1
turn_is d (acts.Set p value) fit = rule_of (is_out_of_turn d Set) p fit.1
turn_is d (acts.Ring p target vector) fit = rule_of (is_out_of_turn d Ring) p fit.1
turn_is d (acts.CfgRead p offset width) fit = rule_of (is_out_of_turn d CfgRead) p fit.1
turn_is d (acts.CfgWrite p offset width value) fit = rule_of (is_out_of_turn d CfgWrite) p fit.1
turn_is d (acts.MmioRead p offset) fit = rule_of (is_out_of_turn d MmioRead) p fit.1
turn_is d (acts.MmioWrite p offset value) fit = rule_of (is_out_of_turn d MmioWrite) p fit.1
turn_is d (acts.MsixRead p offset) fit = rule_of (is_out_of_turn d MsixRead) p fit.1
turn_is d (acts.MsixWrite p offset value) fit = rule_of (is_out_of_turn d MsixWrite) p fit.1
turn_is d (acts.Lose p) fit = rule_of (is_out_of_turn d Lose) p fit.1
turn_is d (acts.Again p vector) fit = rule_of (is_out_of_turn d Again) p fit.1

is_at : (d : DraftView) (a : Act) → d.position ≡ AtActs → (b c : Bool) → b ≡ c
    → option_map_or (is_out_of_turn d (row_of_act a).form) (option_and_then number_of (slice_get (fields_of_row pieces_of (row_of_act a)) 1)) false ≡ b
    → is_out_of_order rules d (row_of_act a).form (fields_of_row pieces_of (row_of_act a)) ≡ c
is_at d (acts.Tick p) at b c same is = rw at (is ∙ same)
is_at d (acts.Offer p frame) at b c same is = rw at (is ∙ same)
is_at d (acts.Poll p) at b c same is = rw at (is ∙ same)
is_at d (acts.Stop p) at b c same is = rw at (is ∙ same)
is_at d (acts.Auto p expect) at b c same is = rw at (is ∙ same)
is_at d (acts.Storm p seed) at b c same is = rw at (is ∙ same)
is_at d (acts.Turn p k) at b c same is = rw at (is ∙ same)
is_at d (acts.Reset p) at b c same is = rw at (is ∙ same)
is_at d (acts.Poke p word value) at b c same is = rw at (is ∙ same)
is_at d (acts.Peek p word) at b c same is = rw at (is ∙ same)
is_at d (acts.Set p value) at b c same is = rw at (is ∙ same)
is_at d (acts.Ring p target vector) at b c same is = rw at (is ∙ same)
is_at d (acts.CfgRead p offset width) at b c same is = rw at (is ∙ same)
is_at d (acts.CfgWrite p offset width value) at b c same is = rw at (is ∙ same)
is_at d (acts.MmioRead p offset) at b c same is = rw at (is ∙ same)
is_at d (acts.MmioWrite p offset value) at b c same is = rw at (is ∙ same)
is_at d (acts.MsixRead p offset) at b c same is = rw at (is ∙ same)
is_at d (acts.MsixWrite p offset value) at b c same is = rw at (is ∙ same)
is_at d (acts.Lose p) at b c same is = rw at (is ∙ same)
is_at d (acts.Again p vector) at b c same is = rw at (is ∙ same)

-- At the acts the order is that of the acts before.
pub order_is : (d : DraftView) (a : Act) → d.position ≡ AtActs → Fit (pieces_of (row_of_act a).form) (row_of_act a).numbers
    → is_out_of_order rules d (row_of_act a).form (fields_of_row pieces_of (row_of_act a)) ≡ is_too_late d.acts (row_of_act a).form (peer_of a)
order_is d a at fit = is_at d a at _ _ refl (turn_is d a fit)

pub allowed_act : (d : DraftView) (a : Act) → d.position ≡ AtActs → CanFollow rules d (row_of_act a) → IsAllowed (world_of_draft d) d.acts a
allowed_act d a at can = record { values = can.values; bytes = can.bytes; order = sym (order_is d a at can.values) ∙ can.order; range = can.range; peer = can.peer; frame = can.size }

pub follows_act : (d : DraftView) (a : Act) → d.position ≡ AtActs → IsAllowed (world_of_draft d) d.acts a → turns_of d.acts + cost a ≤ MOST_ACTS → CanFollow rules d (row_of_act a)
follows_act d a at is few = record {
  values = is.values;
  bytes = is.bytes;
  order = order_is d a at is.values ∙ is.order;
  range = is.range;
  peer = is.peer;
  size = is.frame;
  sizes = sizes_fit d a;
  room = rw (act_of-row a, le-ltb _ _ few) refl;
}
