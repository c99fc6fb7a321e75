-- The exact status of each export, and what the export does to the devices of a handle.
use Rattle.std.specs.Prelude.{ℕ, ◌||◌, ◌++◌, ◌≡◌, ◌≢◌, ◌+◌, ◌*◌, ◌%◌, ◌^◌, ◌<◌, ◌≤◌, ◌==◌, nat_lt, if◌then◌else◌, Bool, List, [], Option, Some, None}
use Rattle.pci_space.specs.declared.sizes.TheConstants.{SPACE_LEN, MOST_VECTORS}
use Rattle.section_map.specs.Geometry.{Shape, IsShape, word_count}
use Rattle.section_map.specs.Faults.{shape_of, IsFirstFault, IsPages, IsSomePages}
use Rattle.section_map.specs.declared.sizes.GeometryFault.{GeometryFault}
use Rattle.pci_space.specs.declared.wiring.Wiring.{Wiring}
use Rattle.pci_space.specs.declared.wiring.Wiring.TheVariants.{Msix, Intx}
use Rattle.pci_space.specs.declared.place.RegionPlace.{RegionPlace}
use Rattle.pci_space.specs.declared.place.RegionPlace.TheVariants.{Address, Bar2}
use Rattle.pci_space.specs.Fields.{is_access}
use Rattle.pci_space.specs.Numbers.{number_from}
use Rattle.doorbell_irq.specs.Events.{Devices, Event, ConfigWritten, Config, vector_count}
use Rattle.doorbell_irq.specs.DeviceRules.{bytes_after, effect_of, register_at, msix_at}
use Rattle.doorbell_irq.specs.Refinement.{Refines, Adds, peer_count}
use Rattle.doorbell_irq.specs.Routes.{IsRoute}
use Rattle.doorbell_irq.specs.declared.route.Route as device_route
use Rattle.ivshm_device.specs.declared.crossing.Access.{Access}
use Rattle.ivshm_device.specs.declared.crossing.Effect.{Effect}
use Rattle.ivshm_device.specs.declared.crossing.Message.{Message}
use Rattle.ivshm_device.specs.declared.crossing.Route.{Route}
use Rattle.ivshm_device.specs.declared.crossing.World.{World}
use Rattle.ivshm_device.specs.declared.device_state.DeviceState.{DeviceState}
use Rattle.c_status.specs.declared.status.Status.{Status}
use Rattle.c_status.specs.declared.status.Status.TheVariants.{Done, NoDevice, HasDevice, NoMemory, BadPeer, BadPeers, BadVectors, BadVector, BadAccess, BadWindow, BadBase}
use Rattle.c_status.specs.Statuses.{geometry_status}
use Rattle.ivshm_device.specs.Crossing.{CrossesEffect, route_crossed, message_at}
use Rattle.ivshm_device.specs.Windows.{window_of, read_at, events_of, effect_at}

-- The status of a call: NoDevice at an empty handle, else the status at its devices.
abbrev pub answer_at : Option DeviceState → (DeviceState → Status) → Status
answer_at None answer = NoDevice
answer_at (Some state) answer = answer state

-- The first if the status is Done, else the second.
abbrev pub IfDone : Status → Type 0 → Type 0 → Type 0
IfDone Done step rest = step
IfDone status step rest = rest

abbrev pub done_answer : DeviceState → Status
done_answer state = Done

-- The status of a call with a peer.
abbrev pub peer_answer : (peer : ℕ) → DeviceState → Status
peer_answer peer state = if nat_lt peer (peer_count state.device) then Done else BadPeer

-- The status of an access to a configuration space: 1, 2 or 4 bytes at a multiple of the width.
abbrev pub access_answer : (peer offset width : ℕ) → DeviceState → Status
access_answer peer offset width state = if nat_lt peer (peer_count state.device) then (if is_access SPACE_LEN offset width then Done else BadAccess) else BadPeer

-- A configuration space is written.
abbrev pub WritesConfig : (peer offset width value : ℕ) → DeviceState → DeviceState → Type 0
WritesConfig peer offset width value old new = IfDone (access_answer peer offset width old) (Adds (ConfigWritten peer offset width value) old.device new.device) (new ≡ old)

-- A configuration space is read.
abbrev pub ReadsConfig : (peer offset width : ℕ) → (before after : ℕ) → DeviceState → Type 0
ReadsConfig peer offset width before after state = IfDone (access_answer peer offset width state)
    ((w : Devices) (events : List Event) → Refines w events state.device → after ≡ number_from (bytes_after w events peer Config) offset width)
    (after ≡ before)

-- A register is read.
abbrev pub ReadsRegister : (peer offset before after : ℕ) → DeviceState → Type 0
ReadsRegister peer offset before after state = IfDone (peer_answer peer state)
    ((w : Devices) (events : List Event) → Refines w events state.device → after ≡ register_at (bytes_after w events peer) offset)
    (after ≡ before)

-- A word of the MSI-X region is read.
abbrev pub ReadsMsix : (peer offset before after : ℕ) → DeviceState → Type 0
ReadsMsix peer offset before after state = IfDone (peer_answer peer state)
    ((w : Devices) (events : List Event) → Refines w events state.device → after ≡ msix_at w.wiring (bytes_after w events peer) offset)
    (after ≡ before)

-- An event of a peer without an effect.
abbrev pub Changes : (peer : ℕ) → Event → DeviceState → DeviceState → Type 0
Changes peer event old new = IfDone (peer_answer peer old) (Adds event old.device new.device) (new ≡ old)

-- An event of a peer, with its effect by the device's rules.
abbrev pub Acts : (peer : ℕ) → Event → (before after : Effect) → DeviceState → DeviceState → Type 0
Acts peer event before after old new = IfDone (peer_answer peer old)
    (Adds event old.device new.device × ((w : Devices) (events : List Event) → Refines w events old.device → CrossesEffect (effect_of w events event) after))
    ((new ≡ old) × (after ≡ before))

-- The route of a peer is reported.
abbrev pub ReportsRoute : (peer : ℕ) → (before after : Route) → DeviceState → Type 0
ReportsRoute peer before after state = IfDone (peer_answer peer state)
    ((route : device_route.Route) × (after ≡ route_crossed route) × ((w : Devices) (events : List Event) → Refines w events state.device → IsRoute w events peer route))
    (after ≡ before)

-- The status of a call with a peer and one of its vectors.
abbrev pub message_answer : (peer vector : ℕ) → DeviceState → Status
message_answer peer vector state =
    if nat_lt peer (peer_count state.device) then (if nat_lt vector (vector_count state.device.wiring) then Done else BadVector) else BadPeer

-- The message of a peer's vector is reported.
abbrev pub ReportsMessage : (peer vector : ℕ) → (before after : Message) → DeviceState → Type 0
ReportsMessage peer vector before after state = IfDone (message_answer peer vector state)
    ((w : Devices) (events : List Event) → Refines w events state.device → after ≡ message_at w.wiring (bytes_after w events peer) vector)
    (after ≡ before)

-- A width in bytes that an access to a window may have.
abbrev pub is_width : ℕ → Bool
is_width width = width == 1 || width == 2 || width == 4 || width == 8

-- The status of an access to a window of a peer.
abbrev pub window_answer : (peer : ℕ) → Access → DeviceState → Status
window_answer peer access state =
    if nat_lt peer (peer_count state.device) then (if nat_lt access.window 3 then (if is_width access.width then Done else BadAccess) else BadWindow)
    else BadPeer

-- A window is read into the value of the access.
abbrev pub ReadsWindow : (peer : ℕ) → (before after : Access) → DeviceState → Type 0
ReadsWindow peer before after state = IfDone (window_answer peer before state)
    ((w : Devices) (events : List Event) → Refines w events state.device →
    after ≡ record before { value = read_at w.wiring (bytes_after w events peer) (window_of before.window) before.offset before.width })
    (after ≡ before)

-- The value of an access is written to a window.
abbrev pub WritesWindow : (peer : ℕ) → Access → (before after : Effect) → DeviceState → DeviceState → Type 0
WritesWindow peer access before after old new = IfDone (window_answer peer access old)
    ((w : Devices) (events : List Event) → Refines w events old.device →
    Refines w (events_of peer (window_of access.window) access.offset access.width access.value ++ events) new.device
    × CrossesEffect (effect_at w events peer (window_of access.window) access.offset access.width access.value) after)
    ((new ≡ old) × (after ≡ before))

-- The wiring of a number of vectors: 0 is INTx.
abbrev pub wiring_of : ℕ → Wiring
wiring_of vectors = if vectors == 0 then Intx else Msix vectors

-- The shape of a world's region.
abbrev pub shape_in : World → Shape
shape_in w = shape_of w.peers w.table w.common w.out

-- The sizes of a world in bytes are whole pages, and those of a region.
abbrev pub HasSizes : World → Type 0
HasSizes w = IsSomePages w.table × IsPages w.common × IsSomePages w.out × IsShape (shape_in w)

-- The base of a world is a multiple of a page, and the region ends within 64 bits. Base 0 means
-- Base Address Register 2.
abbrev pub IsBase : World → Type 0
IsBase w = (w.base % 4096 ≡ 0) × (w.base + 4 * word_count (shape_in w) ≤ 2 ^ 64)

-- The place at which guests find a region of this size. It is its base, or with base 0 the smallest
-- window of BAR 2 that holds it.
abbrev pub IsPlaceOf : (bytes base : ℕ) → RegionPlace → Type 0
IsPlaceOf bytes base (Address a) = (a ≡ base) × (base ≢ 0)
IsPlaceOf bytes base (Bar2 bits) = (base ≡ 0) × ((bytes ≤ 2 ^ bits) × (2 ^ bits < 2 * bytes))

-- Worlds of which devices are made, unless memory runs out. They have at most 64 vectors, at most 8
-- peers, the sizes of a region, and a base.
abbrev pub MayMake : World → Type 0
MayMake w = (w.vectors ≤ MOST_VECTORS) × (w.peers ≤ 8) × HasSizes w × IsBase w

-- New devices of a world: all peers are connected and at reset.
abbrev pub IsNew : World → DeviceState → Type 0
IsNew w state =
    MayMake w
    × ((region : RegionPlace) × IsPlaceOf (4 * word_count (shape_in w)) w.base region
    × Refines (record { shape = shape_in w; wiring = wiring_of w.vectors; region = region }) [] state.device)

-- Why no devices are made: the first of these causes. Memory may run out at any time.
pub data RefusesNew (w : World) : Status → Type 0 where
  bad_vectors : MOST_VECTORS < w.vectors → RefusesNew w BadVectors
  many_peers : w.vectors ≤ MOST_VECTORS → 9 ≤ w.peers → RefusesNew w BadPeers
  bad_sizes : w.vectors ≤ MOST_VECTORS → w.peers ≤ 8 → (fault : GeometryFault) → IsFirstFault w.peers w.table w.common w.out fault →
      RefusesNew w (geometry_status fault)
  bad_base : w.vectors ≤ MOST_VECTORS → w.peers ≤ 8 → HasSizes w → (IsBase w → ⊥) → RefusesNew w BadBase
  no_memory : MayMake w → RefusesNew w NoMemory

-- The status of a call that makes devices, and the devices of the handle after the call.
pub data MakesAnswered (old : Option DeviceState) (w : World) : Status → Option DeviceState → Type 0 where
  made : (state : DeviceState) → old ≡ None → IsNew w state → MakesAnswered old w Done (Some state)
  has_device : old ≢ None → MakesAnswered old w HasDevice old
  refused : (status : Status) → old ≡ None → RefusesNew w status → MakesAnswered old w status old
