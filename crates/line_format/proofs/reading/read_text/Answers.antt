use Rattle.std.proofs.Common.{sym, ◌∙◌, arith}
use Rattle.std.proofs.lemmas.Grind.{common_steps}
use Rattle.line_format.proofs.ReadingLoop.{wrong_line, good_line, last_line, after_end, no_end}
use Rattle.line_format.proofs.reading.read_text.Goals as goal

pub returns-in-Err-Wrong : goal.returns-in-Err-Wrong
returns-in-Err-Wrong g c = rw c.in-Err-Wrong.cause-is (wrong_line g.D.TakeLines.machine (g.D.TakeLines.draft_view c.loop-line.draft) c.loop-line.number c.loop-line.rest.now c.in-Some.line.now c.in-Some.more.now c.in-Err-Wrong.cause _ c.in-Some.ensures.cuts (rw c.in-Err-Wrong.field-0-is at c.in-Err-Wrong.ensures) c.loop-line.invariant.0)

pub returns-then-is_empty : goal.returns-then-is_empty
returns-then-is_empty g c = last_line g.D.TakeLines.machine (g.D.TakeLines.draft_view c.loop-line.draft) _ c.loop-line.number c.loop-line.rest.now c.in-Some.line.now c.in-Some.more.now _ c.in-Some.ensures.cuts c.in-Ok.ensures (sym c.has_ended.ensures ∙ c.if-has_ended.true) (grind (arith, common_steps)) c.loop-line.invariant.0

pub returns-then-has_ended : goal.returns-then-has_ended
returns-then-has_ended g c = after_end g.D.TakeLines.machine (g.D.TakeLines.draft_view c.loop-line.draft) (g.D.TakeLines.draft_view c.take.new.self) c.loop-line.number c.loop-line.rest.now c.in-Some.line.now c.in-Some.more.now _ c.in-Some.ensures.cuts c.in-Ok.ensures (sym c.has_ended.ensures ∙ c.if-has_ended.true) (grind (arith, common_steps)) c.loop-line.invariant.0

pub loop-line-preserved : goal.loop-line-preserved
loop-line-preserved g c = (good_line g.D.TakeLines.machine (g.D.TakeLines.draft_view c.loop-line.draft) (g.D.TakeLines.draft_view c.take.new.self) c.loop-line.number c.loop-line.rest.now c.in-Some.line.now c.in-Some.more.now _ c.in-Some.ensures.cuts c.in-Ok.ensures (sym c.has_ended.ensures ∙ c.if-has_ended.false) c.loop-line.invariant.0, omega (arith, c.in-Some.ensures.shorter))

pub returns : goal.returns
returns g c = no_end g.D.TakeLines.machine (g.D.TakeLines.draft_view c.loop-line.draft) c.loop-line.number c.loop-line.rest.now _ c.in_default.ensures.cuts c.loop-line.invariant.0
