use Rattle.std.proofs.Common.{ℕ, sym, ap, ◌∙◌}
use Rattle.std.specs.Prelude.{Option}
use Rattle.peer_runner.specs.DoorbellPaths.{doorbell_path_by}
use Rattle.peer_runner.proofs.DoorbellTurns.{way_of}
use Rattle.peer_runner.proofs.doorbell_paths.doorbell_path_to.Goals as goal

pub returns-in-None : goal.returns-in-None
returns-in-None c = sym (ap (λ (o : Option ℕ). doorbell_path_by c.route_to-route.result.one_shot o) c.in-None.is) ∙ way_of _ _ _ c.route_to-route.result c.bit_rung.result c.route_to-route.ensures c.bit_rung.ensures

pub returns-in-Some : goal.returns-in-Some
returns-in-Some c = (λ i. doorbell_path_by (sym c.if-route.true i) (sym c.in-Some.is i)) ∙ way_of _ _ _ c.route_to-route.result c.bit_rung.result c.route_to-route.ensures c.bit_rung.ensures

pub returns-in-Some-2 : goal.returns-in-Some-2
returns-in-Some-2 c = (λ i. doorbell_path_by (sym c.if-route.false i) (sym c.in-Some.is i)) ∙ way_of _ _ _ c.route_to-route.result c.bit_rung.result c.route_to-route.ensures c.bit_rung.ensures
