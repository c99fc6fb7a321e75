use Rattle.scenario_text.proofs.LastActs.{turn_ended, reset_ended, other_ended}
use Rattle.scenario_text.proofs.ends.Ends.add.Goals as goal

pub returns : goal.returns
returns c = λ acts said at. record {
  others = λ k. other_ended acts c.args.act.now k _ _ _ _ c.is_other.ensures c.lengthen.ensures at said.others;
  turns = λ p k. turn_ended acts c.args.act.now p k _ _ _ _ c.is_turn.ensures (rw c.peer-peer.ensures at (c.extend.ensures p)) at (said.turns p);
  resets = λ p k. reset_ended acts c.args.act.now p k _ _ _ _ c.is_reset.ensures (rw c.peer-peer.ensures at (c.extend-2.ensures p)) at (said.resets p);
}
