use Rattle.std.proofs.Common.{◌∷◌, [], List, ◌++◌, take, rules, sym, ap, ◌∙◌, arith, append_assoc}
use Rattle.std.specs.Prelude.{map}
use Rattle.std.proofs.lemmas.List.{take_all}
use Rattle.split_ring.specs.declared.steps.Note.{Note}
use Rattle.link_endpoint.specs.Engine.{offered, delivered}
use Rattle.link_endpoint.specs.Refinement.{marks_between}
use Rattle.lawful_history.specs.declared.line.Line.{Line}
use Rattle.lawful_history.specs.EventRecords.{mark_line}
use Rattle.step_lines.proofs.NotesAreMarks.{one_recorded}
use Rattle.peer_runner.proofs.notes.record_notes.Goals as goal

pub loop-note-preserved : goal.loop-note-preserved
loop-note-preserved c = let me = c.args.me in let one = offered c.args.end.now in let other = delivered c.args.end.now in let i = c.loop-note.note-index in
    let recorded = map (mark_line me) (marks_between one other (take i c.args.notes.now)) in
    c.in_ok-push.ensures.ok ∙ (ap (λ ls. ls ++ c.in_ok-line.line ∷ []) c.loop-note.invariant ∙ (ap (λ (l : Line). (c.args.lines.now ++ recorded) ++ l ∷ []) c.in_ok-line.ensures
    ∙ (append_assoc c.args.lines.now recorded _ ∙ ap (λ ls. c.args.lines.now ++ ls) (sym (one_recorded me one other c.args.notes.now i _ c.loop-note-test.true (search rules))))))

pub returns : goal.returns
returns c = c.loop-note.invariant ∙ ap (λ (ns : List Note). c.args.lines.now ++ map (mark_line c.args.me) (marks_between (offered c.args.end.now) (delivered c.args.end.now) ns)) (take_all c.loop-note.note-index c.args.notes.now (omega arith))
