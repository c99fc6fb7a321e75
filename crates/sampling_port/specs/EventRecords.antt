-- The lines of a history of ports, and the event records that they spell: an event with the step
-- made in it.
use Rattle.std.specs.Prelude.{ℕ, ◌==◌, if◌then◌else◌, Option, Some, None, List, [], ◌∷◌, ◌++◌}
use Rattle.split_ring.specs.declared.steps.Access.{Access}
use Rattle.split_ring.specs.declared.steps.Access.TheVariants as access
use Rattle.sampling_port.specs.Marks.{PortMark}
use Rattle.sampling_port.specs.Trees.{PortStep}
use Rattle.sampling_port.specs.Schedule.{Event, CallQueued, TurnTaken, Poked, event_peer}

-- A peer read or wrote this value of a word, was denied a write of a word, or took a turn without a
-- step. Or its step has this mark.
pub data Line : Type 0 where
  Read : (peer word value : ℕ) → Line
  Wrote : (peer word value : ℕ) → Line
  Denied : (peer word : ℕ) → Line
  Idle : (peer : ℕ) → Line
  Marked : (peer : ℕ) (mark : PortMark) → Line

pub record EventRecord : Type 0 where
  pub event : Event
  pub went : Option PortStep

abbrev pub event_of : EventRecord → Event
event_of entry = entry.event

-- The line of an access; a port's accesses are reads and writes.
abbrev pub access_lines : ℕ → Access → ℕ → List Line
access_lines peer (access.Read word) value = Read peer word value ∷ []
access_lines peer (access.Write word written) value = Wrote peer word written ∷ []
access_lines peer _ value = []

abbrev pub mark_lines : ℕ → Option PortMark → List Line
mark_lines peer None = []
mark_lines peer (Some mark) = Marked peer mark ∷ []

-- The lines of a step: its access, and its mark if it has one.
abbrev pub step_lines : ℕ → PortStep → List Line
step_lines peer step = access_lines peer step.access step.value ++ mark_lines peer step.mark

-- The lines of an event: a turn without a step is idle, and a write of a hostile peer without a
-- step was denied.
abbrev pub lines_by : Event → Option PortStep → List Line
lines_by (CallQueued peer call) went = []
lines_by (TurnTaken peer) None = Idle peer ∷ []
lines_by (TurnTaken peer) (Some step) = step_lines peer step
lines_by (Poked peer word value) None = Denied peer word ∷ []
lines_by (Poked peer word value) (Some step) = step_lines peer step

abbrev pub lines_of : EventRecord → List Line
lines_of entry = lines_by entry.event entry.went

-- The event records of one peer, in their order.
abbrev pub own_entries : ℕ → List EventRecord → List EventRecord
own_entries peer [] = []
own_entries peer (entry ∷ entries) = if event_peer entry.event == peer then entry ∷ own_entries peer entries else own_entries peer entries
