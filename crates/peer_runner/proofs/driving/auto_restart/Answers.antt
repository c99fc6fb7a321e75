use Rattle.std.proofs.Common.{◌≡◌, true, false, refl, sym, ap, ◌∙◌, subst}
use Rattle.link_endpoint.specs.Engine.{Engine}
use Rattle.link_endpoint.specs.Refinement.{RefinesAt}
use Rattle.link_endpoint.specs.declared.auto_endpoint.AutoEndpoint.{AutoEndpoint}
use Rattle.shared_words.specs.PassView.{PassView}
use Rattle.peer_runner.specs.Turns.{Restarts}
use Rattle.peer_runner.specs.Runners.{has_finished, restarted_on, IsAutoPeer}
use Rattle.peer_runner.specs.Trajectories.{by_reset}
use Rattle.peer_runner.proofs.AutoChoices.{chose as chose_at}
use Rattle.peer_runner.proofs.AutoTurns.{turn_restarted}
use Rattle.peer_runner.proofs.TurnsAndLines.{ends_where, err_free}
use Rattle.peer_runner.proofs.PeerOnTrajectory.{trajectory_on, trajectory_still, planned_cut, recorded_further}
use Rattle.peer_runner.proofs.driving.auto_restart.Goals as goal

pub returns-then-is_finished : goal.returns-then-is_finished
returns-then-is_finished g c = record {
  trajectory = λ plan spans r on last recorded. let routes = c.args.context.now.routes.now in
      let chose = chose_at _ r c.args.peer.now.driven c.choose-choice.new.self c.choose-choice.result on.there.refines.refines on.is.planned c.choose-choice.ensures.chosen c.choose-choice.ensures.round in
      let is : has_finished r ≡ true = ends_where _ _ _ chose.matches ∙ (sym c.is_finished.ensures ∙ c.if-is_finished.true) in
      (r, trajectory_still _ _ c.args.context.now.me routes plan spans r c.args.pass.now c.args.peer.now c.choose-choice.new.self c.choose-choice.result on is chose, (recorded, (refl, is), is));
}

pub returns-in_err-push : goal.returns-in_err-push
returns-in_err-push g c = record {
  trajectory = λ plan spans r on last recorded. let routes = c.args.context.now.routes.now in
      let chose = chose_at _ r c.args.peer.now.driven c.choose-choice.new.self c.choose-choice.result on.there.refines.refines on.is.planned c.choose-choice.ensures.chosen c.choose-choice.ensures.round in
      let goes : has_finished r ≡ false = ends_where _ _ _ chose.matches ∙ (sym c.is_finished.ensures ∙ c.if-is_finished.false) in
      let is : IsAutoPeer _ (restarted_on r) = record { planned = planned_cut c.choose-choice.new.self.auto c.reset-2.new.self.auto r chose.planned (ap (λ (h : AutoEndpoint). h.auto) c.reset-2.ensures.value); looks = refl; ringing = refl; opened = on.is.opened; met = refl } in
      let there = turn_restarted _ c.args.context.now.me routes r c.args.pass.now c.reset.new.pass c.args.peer.now.driven.end c.reset-2.new.self.end c.requires.honest c.reset.ensures
      (λ w e p refines. c.reset-2.ensures.refines w e p (subst (λ (x : Engine). RefinesAt x w e p) (sym chose.end) refines)) on.there in
      (restarted_on r, trajectory_on _ _ c.args.context.now.me routes plan spans r (restarted_on r) c.args.pass.now c.reset.new.pass c.args.peer.now _ on (by_reset (last goes) goes) there is (ap (λ (h : PassView). h.table_id) c.reset.ensures), err_free _ c.from_residual.result c.from_residual.ensures.0);
}

pub returns : goal.returns
returns g c = record {
  trajectory = λ plan spans r on last recorded. let routes = c.args.context.now.routes.now in
      let chose = chose_at _ r c.args.peer.now.driven c.choose-choice.new.self c.choose-choice.result on.there.refines.refines on.is.planned c.choose-choice.ensures.chosen c.choose-choice.ensures.round in
      let goes : has_finished r ≡ false = ends_where _ _ _ chose.matches ∙ (sym c.is_finished.ensures ∙ c.if-is_finished.false) in
      let is : IsAutoPeer _ (restarted_on r) = record { planned = planned_cut c.choose-choice.new.self.auto c.reset-2.new.self.auto r chose.planned (ap (λ (h : AutoEndpoint). h.auto) c.reset-2.ensures.value); looks = refl; ringing = refl; opened = on.is.opened; met = refl } in
      let there = turn_restarted _ c.args.context.now.me routes r c.args.pass.now c.reset.new.pass c.args.peer.now.driven.end c.reset-2.new.self.end c.requires.honest c.reset.ensures
      (λ w e p refines. c.reset-2.ensures.refines w e p (subst (λ (x : Engine). RefinesAt x w e p) (sym chose.end) refines)) on.there in (
        restarted_on r,
        trajectory_on _ _ c.args.context.now.me routes plan spans r (restarted_on r) c.args.pass.now c.reset.new.pass c.args.peer.now _ on (by_reset (last goes) goes) there is (ap (λ (h : PassView). h.table_id) c.reset.ensures),
        (recorded_further c.args.context.now.me r.turns (restarted_on r).turns Restarts c.args.lines.now c.push.new.self refl recorded c.in_ok-push.ensures.ok, refl, goes),
      );
}
