-- The law that a line breaks if it isn't the line of the lawful history at its place.
use Rattle.std.specs.Prelude.{ℕ, ◌==◌, ◌||◌, not, if◌then◌else◌, Bool, true, false, Option, Some, None}
use Rattle.lawful_history.specs.declared.line.Line.{Line}
use Rattle.lawful_history.specs.declared.line.Line.TheVariants as line
use Rattle.lawful_history.specs.LinePeer.{peer_of}
use Rattle.link_model.specs.declared.fault.Law.{Law}
use Rattle.link_model.specs.declared.fault.Law.TheVariants.{Order, Device, Touch, Memory, Link, Call}
use Rattle.link_model.specs.declared.law.Kind.{Kind}
use Rattle.link_model.specs.declared.law.Kind.TheVariants.{Scheduled, OfDevice, WasDenied, WasRead, Marked, Accessed}

-- The kind of a line. A line that isn't named here is a mark.
abbrev pub kind_of : Line → Kind
kind_of (line.Reset peer) = Scheduled
kind_of (line.Idle peer) = Scheduled
kind_of (line.Interrupt peer vector) = OfDevice
kind_of (line.Lost peer vector) = OfDevice
kind_of (line.ConfigRead peer offset width value) = OfDevice
kind_of (line.ConfigWrite peer offset width value) = OfDevice
kind_of (line.RegisterRead peer offset value) = OfDevice
kind_of (line.RegisterWrite peer offset value) = OfDevice
kind_of (line.MsixRead peer offset value) = OfDevice
kind_of (line.MsixWrite peer offset value) = OfDevice
kind_of (line.Denied peer word) = WasDenied
kind_of (line.Read peer word value) = WasRead word
kind_of (line.Write peer word value) = Accessed
kind_of (line.State peer value) = Accessed
kind_of (line.Doorbell peer target vector) = Accessed
kind_of _ = Marked

abbrev pub is_scheduled : Kind → Bool
is_scheduled Scheduled = true
is_scheduled _ = false

abbrev pub is_of_device : Kind → Bool
is_of_device OfDevice = true
is_of_device _ = false

abbrev pub is_denied : Kind → Bool
is_denied WasDenied = true
is_denied _ = false

abbrev pub is_mark : Kind → Bool
is_mark Marked = true
is_mark _ = false

abbrev pub is_read_of : ℕ → Kind → Bool
is_read_of word (WasRead another) = word == another
is_read_of word _ = false

-- Both read the same word.
abbrev pub are_reads_of_one : Kind → Kind → Bool
are_reads_of_one (WasRead word) other = is_read_of word other
are_reads_of_one _ other = false

-- The law of the first rule that applies to the kinds of the line due and of the line found
-- (profile). A rule may depend on whether both are of one peer.
abbrev pub law_by : (due found : Kind) → (one_peer : Bool) → Law
law_by due found one_peer =
    if is_scheduled due || is_scheduled found then Order
    else if is_of_device due || is_of_device found then Device
    else if not one_peer then Order
    else if is_denied due || is_denied found then Touch
    else if are_reads_of_one due found then Memory
    else if is_mark due || is_mark found then Link
    else Call

-- The law that is broken if the lawful history has the line `due` at a place and the lines found
-- have `found` there. None represents no line.
abbrev pub law_between : (due found : Option Line) → Law
law_between None found = Order
law_between (Some due) None = Order
law_between (Some due) (Some found) = law_by (kind_of due) (kind_of found) (peer_of due == peer_of found)
