use Rattle.std.proofs.Common.{◌≡◌, List, ◌++◌, sym, ap, ◌∙◌, subst}
use Rattle.std.specs.Prelude.{OnOk}
use Rattle.split_ring.specs.declared.steps.Access.{Access}
use Rattle.lawful_history.specs.declared.line.Line.{Line}
use Rattle.shared_words.specs.RunSetups.{world_in}
use Rattle.peer_runner.specs.DoorbellPaths.{is_guarded, doorbell_path_in}
use Rattle.shared_words.specs.Rules.{front}
use Rattle.peer_runner.specs.Runners.{done_of, IsDone, MayRingBy, made}
use Rattle.peer_runner.proofs.StormTurns.{drawn_access, drawn_recorded, storm_after_turn}
use Rattle.peer_runner.proofs.storms.take_step.Goals as goal

pub make-done-requires-clause-drawn : goal.make-done-requires-clause-drawn
make-done-requires-clause-drawn c = (c.step-access.ensures.step (world_in c.args.words.now.shared.key) c.requires.storm).drawn

pub make-done-requires-clause-rings : goal.make-done-requires-clause-rings
make-done-requires-clause-rings c = let draws = c.step-access.ensures.step (world_in c.args.words.now.shared.key) c.requires.storm in
    λ on. subst (λ (a : Access). MayRingBy c.args.routes.now a (front c.args.pass.now.lists)) (drawn_access _ c.step-access.result draws.is) (c.requires.rings on)

pub returns : goal.returns
returns c = let draws = c.step-access.ensures.step (world_in c.args.words.now.shared.key) c.requires.storm in let same = sym (drawn_access _ c.step-access.result draws.is) in let routes = c.args.routes.now in (
  c.make-done.result,
  subst (λ (a : Access). IsDone c.args.ringing.now (is_guarded (doorbell_path_in routes a)) c.make-done.result) same c.make-done.ensures.done,
  c.make-done.ensures.value,
  c.make-done.ensures.pass ∙ ap (λ (a : Access). made c.args.pass.now (done_of routes _ a c.make-done.result)) same,
  storm_after_turn c.args.storm.now c.step-access.new.self c.after.result c.make-done.result c.step-access.ensures.after c.after.ensures,
  c.awaits_ring.ensures,
  (λ held. subst (λ (a : Access). MayRingBy routes a (front c.make-done.new.pass.lists)) same (c.make-done.ensures.rings held)),
  subst (λ (ls : List Line). OnOk c.record_storm_write.result (c.record_storm_write.new.lines ≡ c.args.lines.now ++ ls)) (drawn_recorded _ _ c.step-access.result c.make-done.result draws.is) c.record_storm_write.ensures,
)
