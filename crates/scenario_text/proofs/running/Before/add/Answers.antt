use Rattle.std.proofs.Common.{ap, not}
use Rattle.scenario_text.proofs.OneMoreAct.{auto_added, storm_added}
use Rattle.scenario_text.proofs.RunningForm.{turn_added, reset_added, setting_added}
use Rattle.scenario_text.proofs.running.Before.add.Goals as goal

pub returns : goal.returns
returns c = λ acts said. record {
  autos = λ p. auto_added acts c.args.act.now p _ _ _ (said.autos p) c.is_auto.ensures (rw c.peer-peer.ensures at (c.mark.ensures p));
  storms = λ p. storm_added acts c.args.act.now p _ _ _ (said.storms p) c.is_storm.ensures (rw c.peer-peer.ensures at (c.mark-2.ensures p));
  turns = λ p. turn_added acts c.args.act.now p _ _ _ (said.turns p) c.is_turn.ensures (rw c.peer-peer.ensures at (c.mark-3.ensures p));
  resets = λ p. reset_added acts c.args.act.now p _ _ _ _ (said.resets p) (ap not c.is_other.ensures) c.is_reset.ensures (rw c.peer-peer.ensures at (c.put.ensures p));
  settings = λ p. setting_added acts c.args.act.now p _ _ _ (said.settings p) c.sets_device.ensures (rw c.peer-peer.ensures at (c.mark-4.ensures p));
}
