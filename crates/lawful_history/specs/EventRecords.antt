-- An event record of a history: an event with its result, and its lines.
use Rattle.std.specs.Prelude.{ℕ, ◌==◌, if◌then◌else◌, Option, Some, None, List, [], ◌∷◌, ◌++◌, map}
use Rattle.split_ring.specs.declared.steps.Access.{Access}
use Rattle.split_ring.specs.declared.steps.Access.TheVariants as access
use Rattle.call_grammar.specs.Steps.{Mark, Step}
use Rattle.call_grammar.specs.Steps as mark
use Rattle.lawful_history.specs.declared.line.Line.{Line}
use Rattle.lawful_history.specs.declared.line.Line.TheVariants as line
use Rattle.lawful_history.specs.Schedule.{Event, TurnTaken, RegionAccessed, DeviceReset, event_peer}

-- An event, its step, if there is one, and the lines of the devices. These are the interrupts that
-- it caused, or the values that a device returned.
pub record EventRecord : Type 0 where
  pub event : Event
  pub went : Option Step
  pub device : List Line

abbrev pub event_of : EventRecord → Event
event_of entry = entry.event

abbrev pub owner : EventRecord → ℕ
owner entry = event_peer entry.event

-- The line of an access that met this value. The only step of a call that is down has no access,
-- and no line for one.
abbrev pub access_lines : ℕ → Access → ℕ → List Line
access_lines peer (access.Read word) value = line.Read peer word value ∷ []
access_lines peer (access.Write word written) value = line.Write peer word written ∷ []
access_lines peer (access.State state) value = line.State peer state ∷ []
access_lines peer (access.Ring target vector) value = line.Doorbell peer target vector ∷ []
access_lines peer access.Nothing value = []

abbrev pub mark_line : ℕ → Mark → Line
mark_line peer (mark.Saw value) = line.Saw peer value
mark_line peer (mark.Reclaim count) = line.Reclaim peer count
mark_line peer mark.Full = line.Full peer
mark_line peer (mark.Accept frame) = line.Accept peer frame
mark_line peer (mark.Look count) = line.Look peer count
mark_line peer (mark.Deliver frame) = line.Deliver peer frame
mark_line peer mark.Return = line.Return peer
mark_line peer mark.Done = line.Done peer
mark_line peer mark.Down = line.Down peer
mark_line peer (mark.Refuse refused) = line.Refuse peer refused
mark_line peer mark.Over = line.Over peer

-- The lines of a step: its access, the interrupts that it caused, and its marks.
abbrev pub step_lines : ℕ → Step → List Line → List Line
step_lines peer step device = access_lines peer step.access step.value ++ (device ++ map (mark_line peer) step.marks)

-- The lines of a turn. A turn without a step is idle.
abbrev pub turn_lines : ℕ → Option Step → List Line → List Line
turn_lines peer None device = line.Idle peer ∷ device
turn_lines peer (Some step) device = step_lines peer step device

-- The line of an access that was denied, which is always a write.
abbrev pub denied_lines : ℕ → Access → List Line
denied_lines peer (access.Write word written) = line.Denied peer word ∷ []
denied_lines peer _ = []

-- The lines of one access outside a call. Without a step it was denied.
abbrev pub region_access_lines : ℕ → Access → Option Step → List Line → List Line
region_access_lines peer a None device = denied_lines peer a ++ device
region_access_lines peer a (Some step) device = step_lines peer step device

abbrev pub lines_by : Event → Option Step → List Line → List Line
lines_by (TurnTaken peer) went device = turn_lines peer went device
lines_by (RegionAccessed peer a) went device = region_access_lines peer a went device
lines_by (DeviceReset peer) went device = line.Reset peer ∷ device
lines_by _ went device = device

abbrev pub lines_of : EventRecord → List Line
lines_of entry = lines_by entry.event entry.went entry.device

-- The event records of one peer, in order.
abbrev pub own : ℕ → List EventRecord → List EventRecord
own peer [] = []
own peer (entry ∷ entries) = if owner entry == peer then entry ∷ own peer entries else own peer entries
