use Rattle.std.proofs.Common.{List, ◌++◌, take, rules, sym, subst, arith}
use Rattle.std.specs.Prelude.{reverse, map}
use Rattle.std.proofs.lemmas.List.{take_all}
use Rattle.split_ring.specs.declared.steps.Note.{Note}
use Rattle.link_endpoint.specs.Engine.{offered, delivered}
use Rattle.link_endpoint.specs.Refinement.{marks_between}
use Rattle.lawful_history.specs.declared.line.Line.{Line}
use Rattle.lawful_history.specs.EventRecords.{mark_line}
use Rattle.simulator.specs.WorldState.{WorldStateAfter}
use Rattle.simulator.proofs.HonestTurns.{frame_at, one_note}
use Rattle.simulator.proofs.link.record_notes.Goals as goal

pub record_note-requires : goal.record_note-requires
record_note-requires c = frame_at c.args.me (offered c.args.end.now) (delivered c.args.end.now) c.args.notes.now c.loop-note.note-index _ c.requires c.loop-note-test.true (search rules)

pub loop-note-preserved : goal.loop-note-preserved
loop-note-preserved c = (
  λ world output past losses after.
      let i = c.loop-note.note-index in
      let older = reverse (map (mark_line c.args.me) (marks_between (offered c.args.end.now) (delivered c.args.end.now) (take i c.args.notes.now))) ++ past in
      subst (λ (ls : List Line). WorldStateAfter world output ls losses c.record_note.new.world_state)
      (sym (one_note c.args.me (offered c.args.end.now) (delivered c.args.end.now) c.args.notes.now i _ past c.loop-note-test.true (search rules)))
      (c.in_ok-record_note.ensures.after world output older losses (c.loop-note.invariant.0 world output past losses after)),
  λ q seated. c.in_ok-record_note.ensures.seated q (c.loop-note.invariant.1 q seated),
)

pub returns-clause-after : goal.returns-clause-after
returns-clause-after c = λ world output past losses after.
    subst (λ (ns : List Note). WorldStateAfter world output (reverse (map (mark_line c.args.me) (marks_between (offered c.args.end.now) (delivered c.args.end.now) ns)) ++ past) losses c.loop-note.world_state)
    (take_all c.loop-note.note-index c.args.notes.now (omega arith)) (c.loop-note.invariant.0 world output past losses after)
