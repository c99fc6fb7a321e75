use Rattle.std.proofs.Common.{◌≡◌, rules, List, sym, ap, ◌∙◌, subst, arith, get_or, length}
use Rattle.std.proofs.lemmas.List.{take_all}
use Rattle.scenario_text.specs.declared.acts.Act.{Act}
use Rattle.scenario_text.specs.Spelling.{world_of}
use Rattle.doorbell_irq.specs.Events.{Event}
use Rattle.doorbell_irq.specs.Refinement.{Refines}
use Rattle.lawful_history.specs.Device.{devices_of}
use Rattle.shared_words.specs.PeerRoutes.{events_of, MaySet}
use Rattle.shared_words.proofs.ScenarioRoutes.{events_none, sets_at, events_at}
use Rattle.shared_words.proofs.routes.devices_for.Goals as goal

pub loop-act-init : goal.loop-act-init
loop-act-init c = (subst (λ (events : List Event). Refines (devices_of (world_of c.args.scenario.now)) events c.new-device.result) (sym events_none) c.new-device.ensures, c.new-device.ensures.peers)

pub set-requires : goal.set-requires
set-requires c = let w = world_of c.args.scenario.now in let i = c.loop-act.act-index in let a = c.act-item.result in
    let same = c.items-act-items.ensures in let inside = ap length same in
    let at : a ≡ get_or w.acts i a = (search rules) ∙ ap (λ l. get_or l i a) same in
    subst (λ n. MaySet n a) (sym c.loop-act.invariant.1) (sets_at w i a c.args.scenario.now.world (omega arith) at)

pub loop-act-preserved : goal.loop-act-preserved
loop-act-preserved c = let w = world_of c.args.scenario.now in let i = c.loop-act.act-index in let a = c.act-item.result in
    let same = c.items-act-items.ensures in let inside = ap length same in
    let at : a ≡ get_or w.acts i a = (search rules) ∙ ap (λ l. get_or l i a) same in (
      subst (λ (events : List Event). Refines (devices_of w) events c.set.new.device) (sym (events_at w.acts i a (omega arith) at)) (c.set.ensures.refines _ _ c.loop-act.invariant.0),
      c.set.ensures.peers ∙ c.loop-act.invariant.1,
    )

pub returns-clause-refines : goal.returns-clause-refines
returns-clause-refines c = let same = c.items-act-items.ensures in let all = ap length same in
    subst (λ (l : List Act). Refines (devices_of (world_of c.args.scenario.now)) (events_of l) c.loop-act.device) (take_all c.loop-act.act-index c.args.scenario.now.acts (omega arith)) c.loop-act.invariant.0
