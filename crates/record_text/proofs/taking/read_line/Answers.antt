use Rattle.std.proofs.Common.{ap, ◌∙◌}
use Rattle.record_text.specs.Judge.{history_step}
use Rattle.record_text.proofs.SpelledIsRead.{line_is_recorded}
use Rattle.record_text.proofs.taking.read_line.Goals as goal

pub returns-in-Some-clause-has_content : goal.returns-in-Some-clause-has_content
returns-in-Some-clause-has_content c = λ before.
    ap (history_step before) c.in-Some.ensures.text ∙ line_is_recorded before c.in-Some.found c.in-Some.ensures.fits c.in-Some.ensures.framed
