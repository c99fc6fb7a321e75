use Rattle.std.proofs.Common.{◌≡◌, rules, List, ◌∷◌, [], ◌++◌, take, sym, ap, ◌∙◌, subst, arith, get_or, length}
use Rattle.std.proofs.lemmas.List.{take_all}
use Rattle.scenario_text.specs.declared.acts.Act.{Act}
use Rattle.scenario_text.specs.Spelling.{world_of}
use Rattle.peer_runner.specs.Drives.{Seeds}
use Rattle.peer_runner.proofs.PlansFromActs.{seeds_none, seeds_at, taken_more}
use Rattle.peer_runner.proofs.plans.seed_for.Goals as goal

pub loop-act-init : goal.loop-act-init
loop-act-init c = seeds_none c.args.me _

pub loop-act-preserved : goal.loop-act-preserved
loop-act-preserved c = let w = world_of c.args.scenario.now in let i = c.loop-act.act-index in let a = c.act-item.result in
    let same = c.items-act-items.ensures in let inside = ap length same in
    let at : a ≡ get_or c.args.scenario.now.acts i a = (search rules) ∙ ap (λ l. get_or l i a) same in
    subst (λ l. Seeds c.args.me l c.seed_in-seed.result) (sym (taken_more w.acts i a (omega arith) at))
    (subst (Seeds c.args.me (take i w.acts ++ a ∷ [])) (sym c.seed_in-seed.ensures) (seeds_at w c.args.me i a c.loop-act.seed c.args.scenario.now.world c.requires.hostile (omega arith) at c.loop-act.invariant))

pub returns : goal.returns
returns c = let same = c.items-act-items.ensures in let all = ap length same in
    subst (λ (l : List Act). Seeds c.args.me l c.loop-act.seed) (take_all c.loop-act.act-index c.args.scenario.now.acts (omega arith)) c.loop-act.invariant
