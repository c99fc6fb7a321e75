use Rattle.std.proofs.Common.{List, rules, subst, arith}
use Rattle.std.proofs.lemmas.List.{take_all}
use Rattle.split_ring.specs.declared.steps.Note.{Note}
use Rattle.link_endpoint.specs.Refinement.{marks_between}
use Rattle.link_endpoint.specs.Plan.{Counts}
use Rattle.link_endpoint.proofs.NoteCounts.{counts_none, counts_more}
use Rattle.link_endpoint.proofs.auto.Auto.count.Goals as goal

pub loop-note-init : goal.loop-note-init
loop-note-init c = λ one other. counts_none c.args.self.now

pub loop-note-preserved : goal.loop-note-preserved
loop-note-preserved c = λ one other.
    counts_more c.args.self.now c.loop-note.self c.count_one.new.self one other c.args.notes.now c.loop-note.note-index _ c.loop-note-test.true (search rules)
    (c.loop-note.invariant one other) (c.count_one.ensures one other)

pub returns : goal.returns
returns c = λ one other.
    subst (λ (ns : List Note). Counts c.args.self.now (marks_between one other ns) c.loop-note.self) (take_all c.loop-note.note-index c.args.notes.now (omega arith)) (c.loop-note.invariant one other)
