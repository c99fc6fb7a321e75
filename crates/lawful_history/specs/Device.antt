-- The device's rules over a history: the interrupts and the positions of their lines, and the
-- values that a device returns. The rules themselves are those of `doorbell_irq` (the device's
-- specification, PCI 3.0): a device's state is a function of the earlier lines.
use Rattle.std.specs.Prelude.{ℕ, ◌≡◌, ◌+◌, ◌==◌, nat_lt, if◌then◌else◌, Option, Some, None, List, [], ◌∷◌, ◌++◌, reverse}
use Rattle.pci_space.specs.Numbers.{number_from}
use Rattle.pci_space.specs.Place.{usual_place}
use Rattle.doorbell_irq.specs.declared.effect.Delivery.{Delivery}
use Rattle.doorbell_irq.specs.Events as device
use Rattle.doorbell_irq.specs.DeviceRules.{Bytes, bytes_after, effect_of, register_at, msix_at}
use Rattle.scenario_text.specs.Scenario.{World}
use Rattle.call_grammar.specs.Steps.{Step}
use Rattle.lawful_history.specs.declared.line.Line.{Line}
use Rattle.lawful_history.specs.declared.line.Line.TheVariants as line
use Rattle.lawful_history.specs.Schedule.{Event, TurnTaken, RegionAccessed, DeviceReset, DeviceAccessed, InterruptDropped, InterruptRepeated, DeviceAccess, ReadsConfig, WritesConfig, ReadsRegister, WritesRegister, ReadsMsix, WritesMsix}
use Rattle.lawful_history.specs.EventRecords.{EventRecord, access_lines, lines_of}

-- The devices of the scenario's world.
abbrev pub devices_of : World → device.Devices
devices_of world = record { shape = world.geometry; wiring = world.wiring; region = usual_place }

-- The device event of a line: a reset, or a write of State, the Doorbell, another register, the
-- configuration space or the MSI-X region.
abbrev pub device_event_of : Line → Option device.Event
device_event_of (line.State peer value) = Some (device.RegisterWritten peer device.state_register value)
device_event_of (line.Doorbell peer target vector) = Some (device.RegisterWritten peer device.doorbell_register (device.doorbell_word target vector))
device_event_of (line.Reset peer) = Some (device.WasReset peer)
device_event_of (line.ConfigWrite peer offset width value) = Some (device.ConfigWritten peer offset width value)
device_event_of (line.RegisterWrite peer offset value) = Some (device.RegisterWritten peer offset value)
device_event_of (line.MsixWrite peer offset value) = Some (device.MsixWritten peer offset value)
device_event_of _ = None

abbrev pub with_device_event : Option device.Event → List device.Event → List device.Event
with_device_event None events = events
with_device_event (Some event) events = event ∷ events

-- The device events of these lines; lines and events are listed newest first.
abbrev pub device_events : List Line → List device.Event
device_events [] = []
device_events (line ∷ older) = with_device_event (device_event_of line) (device_events older)

-- 1 if the line is an interrupt of this peer that was lost, else 0.
abbrev pub lost_by : Line → ℕ → ℕ
lost_by (line.Lost peer vector) at = if peer == at then 1 else 0
lost_by _ at = 0

-- The number of interrupts of a peer that were lost in these lines.
abbrev pub lost_count : List Line → ℕ → ℕ
lost_count [] peer = 0
lost_count (line ∷ older) peer = lost_by line peer + lost_count older peer

-- A delivery is lost if fewer interrupts were lost at its peer than are to be dropped.
abbrev pub delivery_line : List Line → (ℕ → ℕ) → Delivery → Line
delivery_line older losses delivery =
    if nat_lt (lost_count older delivery.peer) (losses delivery.peer) then line.Lost delivery.peer delivery.vector
    else line.Interrupt delivery.peer delivery.vector

-- The lines of these deliveries, in order.
abbrev pub delivery_lines : List Line → (ℕ → ℕ) → List Delivery → List Line
delivery_lines older losses [] = []
delivery_lines older losses (delivery ∷ deliveries) = delivery_line older losses delivery ∷ delivery_lines (delivery_line older losses delivery ∷ older) losses deliveries

-- The interrupts that a line causes after older ones, in ascending order of peer.
abbrev pub interrupts_of_event : World → List Line → (ℕ → ℕ) → Line → Option device.Event → List Line
interrupts_of_event world older losses line None = []
interrupts_of_event world older losses line (Some event) = delivery_lines (line ∷ older) losses (effect_of (devices_of world) (device_events older) event).deliveries.items

abbrev pub interrupts_of_line : World → List Line → (ℕ → ℕ) → Line → List Line
interrupts_of_line world older losses line = interrupts_of_event world older losses line (device_event_of line)

-- The interrupts that the line of an access causes.
abbrev pub interrupts_of_access : World → List Line → (ℕ → ℕ) → List Line → List Line
interrupts_of_access world older losses [] = []
interrupts_of_access world older losses (line ∷ lines) = interrupts_of_line world older losses line

abbrev pub step_interrupts : World → List Line → (ℕ → ℕ) → ℕ → Option Step → List Line
step_interrupts world older losses peer None = []
step_interrupts world older losses peer (Some step) = interrupts_of_access world older losses (access_lines peer step.access step.value)

-- The bytes of the peer's device after these lines.
abbrev pub bytes_of : World → List Line → ℕ → Bytes
bytes_of world older peer = bytes_after (devices_of world) (device_events older) peer

-- The line of a device access: the value read after these lines, or the value written.
abbrev pub device_access_line : World → List Line → ℕ → DeviceAccess → Line
device_access_line world older peer (ReadsConfig offset width) =
    line.ConfigRead peer offset width (number_from (bytes_of world older peer device.Config) offset width)
device_access_line world older peer (WritesConfig offset width value) = line.ConfigWrite peer offset width value
device_access_line world older peer (ReadsRegister offset) = line.RegisterRead peer offset (register_at (bytes_of world older peer) offset)
device_access_line world older peer (WritesRegister offset value) = line.RegisterWrite peer offset value
device_access_line world older peer (ReadsMsix offset) = line.MsixRead peer offset (msix_at world.wiring (bytes_of world older peer) offset)
device_access_line world older peer (WritesMsix offset value) = line.MsixWrite peer offset value

-- The device's lines of an event with this step, after these lines. `losses` is the number of
-- interrupts of each peer that are to be dropped.
abbrev pub device_lines : World → List Line → (ℕ → ℕ) → Event → Option Step → List Line
device_lines world older losses (TurnTaken peer) went = step_interrupts world older losses peer went
device_lines world older losses (RegionAccessed peer a) went = step_interrupts world older losses peer went
device_lines world older losses (DeviceReset peer) went = interrupts_of_line world older losses (line.Reset peer)
device_lines world older losses (DeviceAccessed peer a) went = device_access_line world older peer a ∷ []
device_lines world older losses (InterruptRepeated peer vector) went = line.Interrupt peer vector ∷ []
device_lines world older losses _ went = []

-- One more interrupt of the peer is to be dropped.
abbrev pub losses_with : Event → (ℕ → ℕ) → ℕ → ℕ
losses_with (InterruptDropped peer) losses at = if peer == at then losses at + 1 else losses at
losses_with _ losses at = losses at

-- The device's rules over event records after these older lines, which are listed newest first.
abbrev pub DeviceRules : World → List Line → (ℕ → ℕ) → List EventRecord → Type 0
DeviceRules world older losses [] = Unit {0}
DeviceRules world older losses (entry ∷ entries) =
    (entry.device ≡ device_lines world older losses entry.event entry.went)
    × DeviceRules world (reverse (lines_of entry) ++ older) (losses_with entry.event losses) entries
