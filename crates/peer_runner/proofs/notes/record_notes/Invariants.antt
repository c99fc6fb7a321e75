use Rattle.std.proofs.Common.{◌≡◌, ◌++◌, take}
use Rattle.std.specs.Prelude.{map}
use Rattle.link_endpoint.specs.Engine.{offered, delivered}
use Rattle.link_endpoint.specs.Refinement.{marks_between}
use Rattle.lawful_history.specs.EventRecords.{mark_line}
use Rattle.peer_runner.proofs.notes.record_notes.Given as goal

-- The lines of the notes so far.
abbrev pub invariant-loop-note : goal.invariant-loop-note
invariant-loop-note l = l.lines ≡ l.initial.lines ++ map (mark_line l.me) (marks_between (offered l.end) (delivered l.end) (take l.note-index l.notes))
