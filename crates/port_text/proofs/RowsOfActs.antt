-- Rows of acts: each act form's row is an act's, and an act is allowed exactly if its row can
-- follow.
use Rattle.std.proofs.Common.{◌≡◌, ℕ, ◌+◌, ◌≤◌, true, false, List, get_or, Some, refl, sym, ap}
use Rattle.std.proofs.lemmas.Bool.{le-ltb}
use Rattle.line_format.specs.Forms.{Fit, FitBytes}
use Rattle.line_format.specs.Rows.{row, fields_of_row}
use Rattle.line_format.proofs.NumbersFit.{counted, list_1, list_2, list_3, same_row}
use Rattle.line_format.proofs.PartLaws.{no_rule}
use Rattle.line_format.proofs.RowsFollow.{CanFollow, with_row}
use Rattle.line_format.proofs.RowTexts.{HasItem}
use Rattle.line_format.specs.Grammar.{is_out_of_order}
use Rattle.port_text.specs.declared.acts.Act.{Act}
use Rattle.port_text.specs.declared.acts.Act.TheVariants as acts
use Rattle.port_text.specs.declared.forms.Form.{Form}
use Rattle.port_text.specs.declared.forms.Form.TheVariants.{Publish, Sample, Turn, Poke}
use Rattle.port_text.specs.declared.positions.Position.TheVariants.{AtActs}
use Rattle.port_text.specs.declared.limits.TheConstants.{MOST_TURNS}
use Rattle.port_text.specs.Acts.{cost, turns_of}
use Rattle.port_text.specs.Table.{pieces_of}
use Rattle.port_text.specs.ActRows.{row_of_act}
use Rattle.port_text.specs.Scenario.{IsAllowed}
use Rattle.port_text.specs.Judge.{DraftView, world_of_draft, act_of, is_act, fits_sizes, with_act, rules}

-- Each row of an act form has an act.
pub act_row : (form : Form) (ns bytes : List ℕ) → is_act form ≡ true → Fit (pieces_of form) ns → FitBytes (pieces_of form) bytes → HasItem row_of_act (row form ns bytes)
act_row Publish ns bytes is fit none = record { item = acts.Publish (get_or ns 0 0) bytes; row_is = ap (λ (ms : List ℕ). row Publish ms bytes) (list_1 ns (counted (pieces_of Publish) ns fit)) }
act_row Sample ns bytes is fit none = record { item = acts.Sample (get_or ns 0 0) (get_or ns 1 0); row_is = same_row Sample _ ns bytes (list_2 ns (counted (pieces_of Sample) ns fit)) (sym none) }
act_row Turn ns bytes is fit none = record { item = acts.Turn (get_or ns 0 0) (get_or ns 1 0); row_is = same_row Turn _ ns bytes (list_2 ns (counted (pieces_of Turn) ns fit)) (sym none) }
act_row Poke ns bytes is fit none = record { item = acts.Poke (get_or ns 0 0) (get_or ns 1 0) (get_or ns 2 0); row_is = same_row Poke _ ns bytes (list_3 ns (counted (pieces_of Poke) ns fit)) (sym none) }
act_row _ ns bytes is fit none = absurd cc

-- The act of an act's row is that act.
pub act_of-row : (a : Act) → act_of (row_of_act a).form (row_of_act a).numbers (row_of_act a).frame ≡ Some a
act_of-row (acts.Publish p message) = refl
act_of-row (acts.Sample p from) = refl
act_of-row (acts.Turn p k) = refl
act_of-row (acts.Poke p word value) = refl

-- The row of an act adds the act.
pub act_gives : (d : DraftView) (a : Act) → with_row rules (row_of_act a) d ≡ with_act a d
act_gives d a = rw (act_of-row a) refl

-- The row of an act completes no sizes.
sizes_fit : (d : DraftView) (a : Act) → fits_sizes d (row_of_act a).form (row_of_act a).numbers ≡ true
sizes_fit d (acts.Publish p message) = refl
sizes_fit d (acts.Sample p from) = refl
sizes_fit d (acts.Turn p k) = refl
sizes_fit d (acts.Poke p word value) = refl

-- In the position after `begin` each act is in order.
order_is : (d : DraftView) (a : Act) → d.position ≡ AtActs → is_out_of_order rules d (row_of_act a).form (fields_of_row pieces_of (row_of_act a)) ≡ false
order_is d (acts.Publish p message) at = rw at (no_rule _)
order_is d (acts.Sample p from) at = rw at (no_rule _)
order_is d (acts.Turn p k) at = rw at (no_rule _)
order_is d (acts.Poke p word value) at = rw at (no_rule _)

-- An act is allowed if its row can follow.
pub allowed_act : (d : DraftView) (a : Act) → CanFollow rules d (row_of_act a) → IsAllowed (world_of_draft d) a
allowed_act d a can = record { values = can.values; bytes = can.bytes; range = can.range; peer = can.peer; message = can.size }

-- The row of an allowed act can follow while turns are left.
pub follows_act : (d : DraftView) (a : Act) → d.position ≡ AtActs → IsAllowed (world_of_draft d) a → turns_of d.acts + cost a ≤ MOST_TURNS → CanFollow rules d (row_of_act a)
follows_act d a at is few = record {
  values = is.values;
  bytes = is.bytes;
  order = order_is d a at;
  range = is.range;
  peer = is.peer;
  size = is.message;
  sizes = sizes_fit d a;
  room = rw (act_of-row a, le-ltb _ _ few) refl;
}
