use Rattle.std.proofs.Common.{ℕ, List, ◌++◌, take}
use Rattle.std.specs.Prelude.{reverse, map}
use Rattle.scenario_text.specs.Scenario.{World}
use Rattle.link_endpoint.specs.Engine.{offered, delivered}
use Rattle.link_endpoint.specs.Refinement.{marks_between}
use Rattle.lawful_history.specs.declared.line.Line.{Line}
use Rattle.lawful_history.specs.EventRecords.{mark_line}
use Rattle.simulator.specs.Log.{Output}
use Rattle.simulator.specs.WorldState.{WorldStateAfter, HasPeer}
use Rattle.simulator.proofs.link.record_notes.Given as goal

abbrev pub invariant-loop-note : goal.invariant-loop-note
invariant-loop-note l =
    ((world : World) (output : Output) (past : List Line) (losses : ℕ → ℕ) → WorldStateAfter world output past losses l.initial.world_state →
    WorldStateAfter world output (reverse (map (mark_line l.me) (marks_between (offered l.end) (delivered l.end) (take l.note-index l.notes))) ++ past) losses l.world_state)
    × ((q : ℕ) → HasPeer l.initial.world_state q → HasPeer l.world_state q)
