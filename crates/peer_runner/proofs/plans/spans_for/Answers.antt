use Rattle.std.proofs.Common.{◌≡◌, rules, List, ◌++◌, ap, ◌∙◌, subst, arith, get_or, length}
use Rattle.std.proofs.lemmas.List.{take_all}
use Rattle.scenario_text.specs.declared.acts.Act.{Act}
use Rattle.peer_runner.specs.OwnRecord.{span_in, spans_of}
use Rattle.peer_runner.proofs.PlansFromActs.{spans_none, spans_at}
use Rattle.peer_runner.proofs.plans.spans_for.Goals as goal

pub loop-act-init : goal.loop-act-init
loop-act-init c = c.new-spans.ensures ∙ spans_none c.args.me

pub loop-act-preserved : goal.loop-act-preserved
loop-act-preserved c = let acts = c.args.scenario.now.acts in let i = c.loop-act.act-index in let a = c.act-item.result in
    let same = c.items-act-items.ensures in let inside = ap length same in
    let at : a ≡ get_or acts i a = (search rules) ∙ ap (λ l. get_or l i a) same in
    c.in_ok-add_span.ensures ∙ (ap (λ l. l ++ span_in c.args.me a) c.loop-act.invariant ∙ spans_at acts c.args.me i a (omega arith) at)

pub returns : goal.returns
returns c = let same = c.items-act-items.ensures in let all = ap length same in
    subst (λ (l : List Act). c.loop-act.spans ≡ spans_of l c.args.me) (take_all c.loop-act.act-index c.args.scenario.now.acts (omega arith)) c.loop-act.invariant
