use Rattle.std.proofs.Common.{◌≡◌, ◌∷◌, ◌+◌, ◌<◌, sym, ap, ◌∙◌, subst, arith}
use Rattle.std.specs.Prelude.{◌-◌, length}
use Rattle.peer_runner.specs.Turns.{spent}
use Rattle.peer_runner.specs.Runners.{Runner, has_finished}
use Rattle.peer_runner.specs.Trajectories.{WentTo}
use Rattle.shared_words.proofs.LinkOfSetup.{clash}
use Rattle.peer_runner.proofs.TurnsAndLines.{counted_of, err_free}
use Rattle.peer_runner.proofs.PeerOnTrajectory.{left_in_span, few_turns, one_more}
use Rattle.peer_runner.proofs.driving.auto_span.Goals as goal

pub loop-taken-init : goal.loop-taken-init
loop-taken-init g c = λ plan spans r rest on is turns recorded. (r, record { on = on; left = c.args.span; spans_are = is; all = omega arith; turns_are = turns; recorded = recorded })

pub overflow_add-turn : goal.overflow_add-turn
overflow_add-turn g c = let need = c.requires.trajectory in let inv = c.loop-taken.invariant need.0 need.1 need.2 need.3 need.5 need.6 need.7 need.8 in let next = inv.0 in let at = inv.1 in
    let all = at.all in let some : 0 < at.left = omega arith in
    let most = few_turns need.1 next (counted_of _ c.args.context.now.me c.args.context.now.routes.now need.0 need.1 next at.on.comes) (left_in_span next.spans at.left need.3 at.spans_are some) in let few = need.4 in let is = at.turns_are in omega arith

pub auto_turn-requires-clause-trajectory : goal.auto_turn-requires-clause-trajectory
auto_turn-requires-clause-trajectory g c = let need = c.requires.trajectory in let inv = c.loop-taken.invariant need.0 need.1 need.2 need.3 need.5 need.6 need.7 need.8 in let next = inv.0 in let at = inv.1 in
    let all = at.all in let some : 0 < at.left = omega arith in (need.0, need.1, next, need.4, at.on, left_in_span next.spans at.left need.3 at.spans_are some)

pub returns-in_err-auto_turn : goal.returns-in_err-auto_turn
returns-in_err-auto_turn g c = record {
  trajectory = λ plan spans r rest on is turns recorded. let inv = c.loop-taken.invariant plan spans r rest on is turns recorded in let next = inv.0 in let at = inv.1 in
      let all = at.all in let some : 0 < at.left = omega arith in
      let took = c.in_err-auto_turn.ensures.trajectory plan spans next at.on (left_in_span next.spans at.left rest at.spans_are some) at.recorded in
      (took.0, took.1, err_free _ c.from_residual.result c.from_residual.ensures.0);
}

pub returns-then-not-branch : goal.returns-then-not-branch
returns-then-not-branch g c = record {
  trajectory = λ plan spans r rest on is turns recorded. let inv = c.loop-taken.invariant plan spans r rest on is turns recorded in let next = inv.0 in let at = inv.1 in
      let all = at.all in let some : 0 < at.left = omega arith in let left = left_in_span next.spans at.left rest at.spans_are some in
      let took = c.in_ok-auto_turn.ensures.trajectory plan spans next at.on left at.recorded in
      let ends = subst (λ b. WentTo (spent next.spans) next took.0 b) c.if-not-branch.true took.2.1 in
      (took.0, took.1, (took.2.0, at.turns_are ∙ ap (λ (x : Runner). length x.turns) (sym ends.0), λ goes. absurd (clash (sym goes ∙ (ap has_finished ends.0 ∙ ends.1)))));
}

pub loop-taken-preserved : goal.loop-taken-preserved
loop-taken-preserved g c = λ plan spans r rest on is turns recorded. let inv = c.loop-taken.invariant plan spans r rest on is turns recorded in let next = inv.0 in let at = inv.1 in
    let all = at.all in let some : 0 < at.left = omega arith in let left = left_in_span next.spans at.left rest at.spans_are some in
    let took = c.in_ok-auto_turn.ensures.trajectory plan spans next at.on left at.recorded in
    let goes = subst (λ b. WentTo (spent next.spans) next took.0 b) c.if-not-branch.false took.2.1 in (
      took.0,
      record {
        on = took.1;
        left = at.left - 1;
        spans_are = goes ∙ ap spent at.spans_are;
        all = omega arith;
        turns_are = ap (λ n. n + 1) at.turns_are ∙ sym (one_more spans next took.0 (counted_of _ c.args.context.now.me c.args.context.now.routes.now plan spans next at.on.comes) (counted_of _ c.args.context.now.me c.args.context.now.routes.now plan spans took.0 took.1.comes) left goes);
        recorded = took.2.0;
      },
    )

pub returns : goal.returns
returns g c = record {
  trajectory = λ plan spans r rest on is turns recorded. let inv = c.loop-taken.invariant plan spans r rest on is turns recorded in let next = inv.0 in let at = inv.1 in
      let none : at.left ≡ 0 = let all = at.all in omega arith in (next, at.on, (at.recorded, at.turns_are, λ goes. at.spans_are ∙ ap (λ n. n ∷ rest) none));
}
