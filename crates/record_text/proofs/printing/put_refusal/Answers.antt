use Rattle.std.proofs.Common.{◌≡◌, OnOk, subst, ◌∙◌}
use Rattle.record_text.proofs.RefusalLines.{refusal_line}
use Rattle.record_text.proofs.printing.put_refusal.Goals as goal

pub returns : goal.returns
returns c = subst (λ text. OnOk c.put_named.result (c.put_named.new.out.items ≡ text))
    (refusal_line c.args.peer c.args.refused.now c.as_bytes-name.result.now c.args.out.now.items (c.as_bytes-name.ensures.value ∙ c.name.ensures.name))
    c.put_named.ensures
