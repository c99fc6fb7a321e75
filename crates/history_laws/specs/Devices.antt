-- The events and lines of devices alone, on which the link doesn't depend.
use Rattle.std.specs.Prelude.{◌≡◌, Bool, true, false, not, List}
use Rattle.std.specs.List.{filter}
use Rattle.scenario_text.specs.declared.acts.Act.{Act}
use Rattle.scenario_text.specs.Scenario.{World, IsWorld}
use Rattle.lawful_history.specs.declared.line.Line.{Line}
use Rattle.lawful_history.specs.declared.line.Line.TheVariants as line
use Rattle.lawful_history.specs.Schedule.{Event, DeviceAccessed, InterruptDropped, InterruptRepeated, schedule}
use Rattle.lawful_history.specs.Lawful.{IsLawful}

-- The event is of a device alone: a device access, or an interrupt to be dropped or repeated.
abbrev pub is_of_device_event : Event → Bool
is_of_device_event (DeviceAccessed peer a) = true
is_of_device_event (InterruptDropped peer) = true
is_of_device_event (InterruptRepeated peer vector) = true
is_of_device_event _ = false

abbrev pub without_device_events : List Event → List Event
without_device_events events = filter (λ event. not (is_of_device_event event)) events

-- The line is of a device alone: an interrupt delivered or lost, or a device access.
abbrev pub is_of_device : Line → Bool
is_of_device (line.Interrupt peer vector) = true
is_of_device (line.Lost peer vector) = true
is_of_device (line.ConfigRead peer offset width value) = true
is_of_device (line.ConfigWrite peer offset width value) = true
is_of_device (line.RegisterRead peer offset value) = true
is_of_device (line.RegisterWrite peer offset value) = true
is_of_device (line.MsixRead peer offset value) = true
is_of_device (line.MsixWrite peer offset value) = true
is_of_device _ = false

abbrev pub without_devices : List Line → List Line
without_devices lines = filter (λ line. not (is_of_device line)) lines

-- If two schedules of one world differ only in events of devices, their lawful histories differ
-- only in lines of devices. Each access to the region, each value read, each mark and each frame is
-- the same, in the same order.
abbrev pub DeviceActsChangeNothing : Type 0
DeviceActsChangeNothing = (world : World) (others : List Act) (lines other_lines : List Line) → IsWorld world → IsWorld (record world { acts = others }) →
    without_device_events (schedule world.acts) ≡ without_device_events (schedule others) → IsLawful world lines →
    IsLawful (record world { acts = others }) other_lines →
    without_devices lines ≡ without_devices other_lines
