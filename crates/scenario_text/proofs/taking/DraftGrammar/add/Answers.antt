use Rattle.std.proofs.Common.{ap, ◌∙◌}
use Rattle.scenario_text.specs.Drafts.{draft_view}
use Rattle.scenario_text.specs.Judge.{act_of}
use Rattle.scenario_text.proofs.RowTests.{act_added}
use Rattle.scenario_text.proofs.taking.DraftGrammar.add.Goals as goal

pub returns : goal.returns
returns c =
    let bytes = c.in_ok-of.ensures ∙ c.deref.ensures.value in
    act_added (draft_view c.args.self.now) _ c.args.form c.args.numbers.now c.args.bytes.items c.in-Some.act c.args.self.now.turns c.cost.result
    (c.in-Some.ensures.value ∙ ap (act_of c.args.form c.args.numbers.now) bytes) c.args.self.now.counted c.cost.ensures c.if-self-cost-gt-MOST_ACTS.false c.in_ok-push_act-in-Some.ensures
