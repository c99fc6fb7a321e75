use Rattle.std.proofs.Common.{◌≡◌, rules, List, ◌∷◌, [], ◌++◌, take, sym, ap, ◌∙◌, subst, arith, get_or, length}
use Rattle.std.proofs.lemmas.List.{take_all}
use Rattle.scenario_text.specs.declared.acts.Act.{Act}
use Rattle.scenario_text.specs.Spelling.{world_of}
use Rattle.peer_runner.specs.Drives.{Gathers}
use Rattle.peer_runner.proofs.PlansFromActs.{gathers_none, gathers_at, taken_more}
use Rattle.peer_runner.proofs.plans.auto_for.Goals as goal

pub loop-act-init : goal.loop-act-init
loop-act-init c = subst (Gathers c.args.scenario.now.queue.mtu c.args.me []) (sym c.new-auto.ensures.value) (gathers_none c.args.scenario.now.queue.mtu c.args.me 0)

pub loop-act-preserved : goal.loop-act-preserved
loop-act-preserved c = let w = world_of c.args.scenario.now in let i = c.loop-act.act-index in let a = c.act-item.result in
    let same = c.items-act-items.ensures in let inside = ap length same in
    let at : a ≡ get_or c.args.scenario.now.acts i a = (search rules) ∙ ap (λ l. get_or l i a) same in
    subst (λ l. Gathers w.queue.mtu c.args.me l c.gather.new.auto) (sym (taken_more w.acts i a (omega arith) at))
    (subst (Gathers w.queue.mtu c.args.me (take i w.acts ++ a ∷ [])) (sym c.in_ok-gather.ensures) (gathers_at w c.args.me i a c.loop-act.auto' c.args.scenario.now.world c.requires.running c.requires.link (omega arith) at c.loop-act.invariant))

pub returns : goal.returns
returns c = let same = c.items-act-items.ensures in let all = ap length same in
    subst (λ (l : List Act). Gathers c.args.scenario.now.queue.mtu c.args.me l c.loop-act.auto') (take_all c.loop-act.act-index c.args.scenario.now.acts (omega arith)) c.loop-act.invariant
