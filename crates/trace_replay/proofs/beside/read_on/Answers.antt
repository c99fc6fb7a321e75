use Rattle.std.proofs.Common.{◌++◌, ◌∷◌, [], subst, List, append_assoc}
use Rattle.lawful_history.specs.declared.line.Line.{Line}
use Rattle.record_text.specs.Readers.{IsReading}
use Rattle.trace_replay.proofs.beside.read_on.Goals as goal

pub loop-line-preserved : goal.loop-line-preserved
loop-line-preserved c = λ bytes version world lines reads.
    let so_far = c.loop-line.invariant bytes version world lines reads in
    let next = rw c.in-Some.is at (c.in_ok-_line.ensures.reads bytes version world (lines ++ so_far.0) so_far.1) in (
      so_far.0 ++ c.in-Some._line ∷ [],
      subst (λ (ls : List Line). IsReading bytes version world ls c.next.new.self) (append_assoc lines so_far.0 (c.in-Some._line ∷ [])) next.0,
    )

pub loop-line-preserved-in-Some : goal.loop-line-preserved-in-Some
loop-line-preserved-in-Some c = λ bytes version world lines reads.
    let so_far = c.loop-line.invariant bytes version world lines reads in
    let next = rw c.in-Some.is at (c.in_ok-_line.ensures.reads bytes version world (lines ++ so_far.0) so_far.1) in (
      so_far.0 ++ c.in-Some._line ∷ [],
      subst (λ (ls : List Line). IsReading bytes version world ls c.next.new.self) (append_assoc lines so_far.0 (c.in-Some._line ∷ [])) next.0,
    )

pub loop-line-preserved-in-Some-2 : goal.loop-line-preserved-in-Some-2
loop-line-preserved-in-Some-2 c = λ bytes version world lines reads.
    let so_far = c.loop-line.invariant bytes version world lines reads in
    let next = rw c.in-Some.is at (c.in_ok-_line.ensures.reads bytes version world (lines ++ so_far.0) so_far.1) in (
      so_far.0 ++ c.in-Some._line ∷ [],
      subst (λ (ls : List Line). IsReading bytes version world ls c.next.new.self) (append_assoc lines so_far.0 (c.in-Some._line ∷ [])) next.0,
    )

pub returns-clause-read : goal.returns-clause-read
returns-clause-read c = λ bytes version world lines reads.
    let so_far = c.loop-line.invariant bytes version world lines reads in
    record { more = so_far.0; spelled = (rw c.in_default.is at (c.in_ok-_line.ensures.reads bytes version world (lines ++ so_far.0) so_far.1)).0 }
