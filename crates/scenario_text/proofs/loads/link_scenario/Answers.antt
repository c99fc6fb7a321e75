use Rattle.std.proofs.Common.{◌≡◌, true, false, [], ◌∷◌, refl, sym, ap, subst, ◌∙◌}
use Rattle.std.specs.Result.{is_ok}
use Rattle.scenario_text.specs.Scenario.{IsWorld}
use Rattle.scenario_text.proofs.SizeTests.{queue_is, is_queue-true}
use Rattle.scenario_text.proofs.LinkIsScenario.{link_region, link_made}
use Rattle.scenario_text.proofs.loads.link_scenario.Goals as goal

pub of-requires : goal.of-requires
of-requires c = c.requires.queue.section

pub unreachable-requires : goal.unreachable-requires
unreachable-requires c =
    let ok = queue_is _ c.of.result c.requires.queue.known c.requires.queue.section c.of.ensures.queue c.of.ensures.fault ∙ is_queue-true _ c.requires.queue in
    let no : false ≡ true = sym (ap is_ok c.in_default.is) ∙ ok in
    cc

pub region-requires : goal.region-requires
region-requires c = link_region c.args.out c.args.mtu c.args.acts c.requires

pub invariant_of-result : goal.invariant_of-result
invariant_of-result c =
    let honest : c.push-2.new.self ≡ true ∷ true ∷ [] = rw (c.in_ok-push-2.ensures.ok, c.in_ok-push.ensures.ok, c.new-honest.ensures) refl in
    record { world = subst IsWorld (sym (link_made _ _ _ c.args.out c.args.mtu c.args.acts c.region.ensures c.in-Ok.ensures.queue.0 honest)) c.requires }

pub returns : goal.returns
returns c =
    let honest : c.push-2.new.self ≡ true ∷ true ∷ [] = rw (c.in_ok-push-2.ensures.ok, c.in_ok-push.ensures.ok, c.new-honest.ensures) refl in
    link_made _ _ _ c.args.out c.args.mtu c.args.acts c.region.ensures c.in-Ok.ensures.queue.0 honest
