use Rattle.step_lines.proofs.DrawnAccess.{draws}
use Rattle.step_lines.proofs.storm.Storm.step.Goals as goal

pub returns-clause-step : goal.returns-clause-step
returns-clause-step c = λ world is.
    draws world _ _ _ _ _ _ _ _ _ _ is c.next-first.ensures c.next-second.ensures c.next-third.ensures c.drawn.ensures c.drawn-2.ensures c.drawn-3.ensures (c.access_of-access.ensures world is)
