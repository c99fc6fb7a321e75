-- Accesses of 1, 2, 4 and 8 bytes to the windows of a peer's device. Values are of 64 bits.
use Rattle.std.specs.Prelude.{ℕ, ◌+◌, ◌*◌, ◌/◌, ◌%◌, ◌==◌, ◌&&◌, if◌then◌else◌, List, [], ◌∷◌, ◌++◌, None}
use Rattle.pci_space.specs.declared.sizes.TheConstants.{SPACE_LEN}
use Rattle.pci_space.specs.declared.wiring.Wiring.{Wiring}
use Rattle.pci_space.specs.Fields.{is_access}
use Rattle.pci_space.specs.Numbers.{number_from}
use Rattle.doorbell_irq.specs.Events.{Devices, Event, ConfigWritten, RegisterWritten, MsixWritten, Config}
use Rattle.doorbell_irq.specs.DeviceRules.{Bytes, effect_of, register_at, msix_at}
use Rattle.doorbell_irq.specs.DeviceView.{DeviceView}
use Rattle.doorbell_irq.specs.Refinement.{Refines}
use Rattle.doorbell_irq.specs.declared.effect.Effect.{Effect}
use Rattle.ivshm_device.specs.declared.window.Window.{Window}
use Rattle.ivshm_device.specs.declared.window.Window.TheVariants.{ConfigSpace, RegisterPage, MsixRegion}

-- The window of a number below 3.
abbrev pub window_of : ℕ → Window
window_of number = if number == 0 then ConfigSpace else if number == 1 then RegisterPage else MsixRegion

-- The lower and the upper word of a value.
abbrev pub low_word : ℕ → ℕ
low_word value = value % 0x1_0000_0000

abbrev pub high_word : ℕ → ℕ
high_word value = value / 0x1_0000_0000

-- A configuration space reads its aligned 1, 2 and 4 bytes.
abbrev pub config_at : Bytes → (offset width : ℕ) → ℕ
config_at byte offset width = if is_access SPACE_LEN offset width then number_from (byte Config) offset width else 0

-- A register page reads its aligned words.
abbrev pub page_at : Bytes → (offset width : ℕ) → ℕ
page_at byte offset width = if width == 4 then register_at byte offset else 0

-- An MSI-X region reads its aligned words and its aligned pairs of words.
abbrev pub msix_region_at : Wiring → Bytes → (offset width : ℕ) → ℕ
msix_region_at wiring byte offset width =
    if width == 4 then msix_at wiring byte offset
    else if width == 8 && offset % 8 == 0 then msix_at wiring byte offset + 0x1_0000_0000 * msix_at wiring byte (offset + 4)
    else 0

-- The value that a window reads: 0 at every access that it does not have.
abbrev pub read_at : Wiring → Bytes → Window → (offset width : ℕ) → ℕ
read_at wiring byte ConfigSpace offset width = config_at byte offset width
read_at wiring byte RegisterPage offset width = page_at byte offset width
read_at wiring byte MsixRegion offset width = msix_region_at wiring byte offset width

-- The events of a write, the newest first. A write that a window does not have is no event.
abbrev pub config_events : (peer offset width value : ℕ) → List Event
config_events peer offset width value = if is_access SPACE_LEN offset width then ConfigWritten peer offset width (low_word value) ∷ [] else []

abbrev pub page_events : (peer offset width value : ℕ) → List Event
page_events peer offset width value = if width == 4 then RegisterWritten peer offset (low_word value) ∷ [] else []

abbrev pub msix_events : (peer offset width value : ℕ) → List Event
msix_events peer offset width value =
    if width == 4 then MsixWritten peer offset (low_word value) ∷ []
    else if width == 8 && offset % 8 == 0 then MsixWritten peer (offset + 4) (high_word value) ∷ MsixWritten peer offset (low_word value) ∷ []
    else []

abbrev pub events_of : (peer : ℕ) → Window → (offset width value : ℕ) → List Event
events_of peer ConfigSpace offset width value = config_events peer offset width value
events_of peer RegisterPage offset width value = page_events peer offset width value
events_of peer MsixRegion offset width value = msix_events peer offset width value

-- The new devices refine each list of events that the old ones refine, with `more` as the newest.
abbrev pub AddsAll : (more : List Event) → (old new : DeviceView) → Type 0
AddsAll more old new = (w : Devices) (events : List Event) → Refines w events old → Refines w (more ++ events) new

-- The effect of a write: that of the event in the register page, else none.
abbrev pub no_effect : Effect
no_effect = record { state = None; deliveries = record { items = [] } }

abbrev pub page_effect : Devices → List Event → (peer offset width value : ℕ) → Effect
page_effect w events peer offset width value = if width == 4 then effect_of w events (RegisterWritten peer offset (low_word value)) else no_effect

abbrev pub effect_at : Devices → List Event → (peer : ℕ) → Window → (offset width value : ℕ) → Effect
effect_at w events peer ConfigSpace offset width value = no_effect
effect_at w events peer RegisterPage offset width value = page_effect w events peer offset width value
effect_at w events peer MsixRegion offset width value = no_effect
