use Rattle.scenario_text.proofs.OneMoreAct.{turns_added, auto_added, storm_added, call_added}
use Rattle.scenario_text.proofs.drafts.Draft.push_act.Goals as goal

pub invariant_of-self-2-clause-autos_of : goal.invariant_of-self-2-clause-autos_of
invariant_of-self-2-clause-autos_of c = λ p. rw c.in_ok-push.ensures.ok (auto_added c.args.self.now.acts c.args.act p _ _ _ (c.args.self.now.autos_of p) c.is_auto-is_auto.ensures (rw c.peer-peer.ensures at (c.mark.ensures p)))

pub invariant_of-self-2-clause-storms_of : goal.invariant_of-self-2-clause-storms_of
invariant_of-self-2-clause-storms_of c = λ p. rw c.in_ok-push.ensures.ok (storm_added c.args.self.now.acts c.args.act p _ _ _ (c.args.self.now.storms_of p) c.is_storm-is_storm.ensures (rw c.peer-peer.ensures at (c.mark-2.ensures p)))

pub invariant_of-self-2-clause-calls_of : goal.invariant_of-self-2-clause-calls_of
invariant_of-self-2-clause-calls_of c = λ p. rw c.in_ok-push.ensures.ok (call_added c.args.self.now.acts c.args.act p _ _ _ (c.args.self.now.calls_of p) c.is_call-is_call.ensures (rw c.peer-peer.ensures at (c.mark-3.ensures p)))

pub invariant_of-self-2-clause-counted : goal.invariant_of-self-2-clause-counted
invariant_of-self-2-clause-counted c = turns_added c.args.self.now.acts c.args.act _ _ _ c.args.self.now.counted c.cost-cost.ensures c.in_ok-push.ensures.ok
