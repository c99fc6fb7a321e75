-- The device's rules (the device's specification, and PCI 3.0 for MSI-X and INTx). They give the
-- registers of a world's peers after a list of events, the newest first, and the effect of one more
-- event. A trigger that is not delivered is dropped (profile).
use Rattle.std.specs.Prelude.{ℕ, zero, suc, ◌/◌, ◌%◌, ◌^◌, Bool, true, false, ◌&&◌, ◌||◌, not, ◌==◌, nat_lt, if◌then◌else◌, List, [], ◌∷◌, ◌++◌, Option, Some, None, is_some}
use Rattle.pci_space.specs.declared.field.Field.{Field}
use Rattle.pci_space.specs.declared.wiring.Wiring.{Wiring}
use Rattle.pci_space.specs.declared.wiring.Wiring.TheVariants.{Msix, Intx}
use Rattle.pci_space.specs.Numbers.{number_from}
use Rattle.pci_space.specs.Fields.{reset_byte, merged_byte}
use Rattle.doorbell_irq.specs.declared.effect.Delivery.{Delivery}
use Rattle.doorbell_irq.specs.declared.effect.Effect.{Effect}
use Rattle.doorbell_irq.specs.Events.{Devices, Event, ConfigWritten, RegisterWritten, MsixWritten, WasReset, WasDisconnected, WasConnected, Part, Config, Page, Entry, interrupt_control_register, doorbell_register, state_register, doorbell_target, doorbell_vector, rows_of, vector_count}

-- An access that writes a space.
pub record Write : Type 0 where
  pub offset : ℕ
  pub width : ℕ
  pub value : ℕ

-- The bytes of one peer: byte k of each of its spaces.
abbrev pub Bytes : Type 0
Bytes = Part → ℕ → ℕ

-- Bit i of a number.
abbrev pub bit : ℕ → ℕ → Bool
bit n i = n / 2 ^ i % 2 == 1

-- The State register.
abbrev pub state_in : Bytes → ℕ
state_in byte = number_from (byte Page) state_register 4

-- Interrupts are enabled: Interrupt Control bit 0.
abbrev pub is_enabled : Bytes → Bool
is_enabled byte = bit (byte Page interrupt_control_register) 0

-- Privileged Control bit 0: the peer is in one-shot mode.
abbrev pub is_one_shot : Bytes → Bool
is_one_shot byte = bit (byte Config 0x43) 0

-- The configuration space and the MSI-X table let vector n through. With MSI-X: Command bit 2 or
-- bit 3 is set, MSI-X is enabled, and the function is not masked. The table has an entry n, which
-- is not masked. With INTx: Command bit 10 is clear.
abbrev pub lets_through : Wiring → Bytes → ℕ → Bool
lets_through (Msix vectors) byte n =
    (bit (byte Config 0x04) 2 || bit (byte Config 0x04) 3)
    && (bit (byte Config 0x63) 7 && not (bit (byte Config 0x63) 6))
    && (nat_lt n vectors && not (bit (byte (Entry n) 0x0C) 0))
lets_through Intx byte n = not (bit (byte Config 0x05) 2)

-- The vector that is reported for a trigger with vector n: 0 with INTx.
abbrev pub reported : Wiring → ℕ → ℕ
reported (Msix vectors) n = n
reported Intx n = 0

-- The delivery to a triggered peer: it is connected, its interrupts are enabled, and its registers
-- let the vector through.
abbrev pub delivery_by : Wiring → Bool → Bytes → Option ℕ → Option ℕ
delivery_by wiring connected byte None = None
delivery_by wiring connected byte (Some n) =
    if connected && (is_enabled byte && lets_through wiring byte n) then Some (reported wiring n) else None

-- The vector that a new State of a source triggers at a peer: 0 at every other peer, if the State
-- changes.
abbrev pub vector_by : ℕ → ℕ → ℕ → ℕ → Option ℕ
vector_by old source value peer = if not (source == peer) && not (old == value) then Some 0 else None

-- The vector that a write to a register of a source, whose State is `old`, triggers at a peer. A
-- peer may ring itself (profile).
abbrev pub register_vector : ℕ → ℕ → ℕ → ℕ → ℕ → Option ℕ
register_vector old source offset value peer =
    if offset == doorbell_register then (if doorbell_target value == peer then Some (doorbell_vector value) else None)
    else if offset == state_register then vector_by old source value peer
    else None

-- The vector that an event triggers at a peer; `before` has the bytes of all peers before the
-- event.
abbrev pub vector_of : (ℕ → Bytes) → Event → ℕ → Option ℕ
vector_of before (RegisterWritten source offset value) peer = register_vector (state_in (before source)) source offset value peer
vector_of before (WasReset source) peer = vector_by (state_in (before source)) source 0 peer
vector_of before (WasDisconnected source) peer = vector_by (state_in (before source)) source 0 peer
vector_of before _ peer = None

-- A device reset of a peer, which may disconnect it.
abbrev pub reset_event : (disconnects : Bool) → (peer : ℕ) → Event
reset_event false peer = WasReset peer
reset_event true peer = WasDisconnected peer

-- The event gives all registers of a peer their reset values.
abbrev pub resets : Event → ℕ → Bool
resets (WasReset p) peer = p == peer
resets (WasDisconnected p) peer = p == peer
resets (WasConnected p) peer = p == peer
resets _ peer = false

-- The bytes that a write to the register page stores: only Interrupt Control and State store a
-- value.
abbrev pub page_write : ℕ → ℕ → Option Write
page_write offset value = if offset == interrupt_control_register || offset == state_register then Some (record {
  offset = offset;
  width = 4;
  value = value;
}) else None

-- The bytes that a write to the MSI-X region stores in entry n: an aligned word of an entry of the
-- table.
abbrev pub entry_write : Wiring → ℕ → ℕ → ℕ → Option Write
entry_write wiring offset value n =
    if offset / 16 == n && (offset % 4 == 0 && nat_lt n (vector_count wiring)) then Some (record { offset = offset % 16; width = 4; value = value })
    else None

-- The write of the event's guest to a space of a peer.
abbrev pub write_of : Wiring → Event → ℕ → Part → Option Write
write_of wiring (ConfigWritten p offset width value) peer Config =
    if p == peer then Some (record { offset = offset; width = width; value = value }) else None
write_of wiring (RegisterWritten p offset value) peer Page = if p == peer then page_write offset value else None
write_of wiring (MsixWritten p offset value) peer (Entry n) = if p == peer then entry_write wiring offset value n else None
write_of wiring _ peer part = None

-- The write of the device itself: a delivery in one-shot mode clears Interrupt Control.
abbrev pub clear_of : Part → Bool → Option Write
clear_of Page true = Some (record { offset = interrupt_control_register; width = 4; value = 0 })
clear_of Page false = None
clear_of Config cleared = None
clear_of (Entry n) cleared = None

-- The guest's write, else the device's own. No event has both.
abbrev pub write_or : Option Write → Option Write → Option Write
write_or (Some write) other = Some write
write_or None other = other

-- A byte after a write, if there is one.
abbrev pub byte_after : List Field → Option Write → ℕ → ℕ → ℕ
byte_after rows None k old = old
byte_after rows (Some write) k old = merged_byte rows write.offset write.width write.value k old

-- The delivery of an event to a peer; `connected` and `before` are the state of all peers before
-- the event.
abbrev pub delivery_of : Wiring → (ℕ → Bool) → (ℕ → Bytes) → Event → ℕ → Option ℕ
delivery_of wiring connected before event peer = delivery_by wiring (connected peer) (before peer) (vector_of before event peer)

-- The event's write to a space of a peer, the guest's or the device's own.
abbrev pub whole_write_of : Wiring → (ℕ → Bool) → (ℕ → Bytes) → Event → ℕ → Part → Option Write
whole_write_of wiring connected before event peer part =
    write_or (write_of wiring event peer part)
    (clear_of part (is_some (delivery_of wiring connected before event peer) && is_one_shot (before peer)))

-- Whether a peer is connected after an event.
abbrev pub connected_after : Event → ℕ → Bool → Bool
connected_after (WasDisconnected p) peer before = if p == peer then false else before
connected_after (WasConnected p) peer before = if p == peer then true else before
connected_after _ peer before = before

-- Whether a peer is connected after a list of events: initially all peers are.
abbrev pub is_connected : List Event → ℕ → Bool
is_connected [] peer = true
is_connected (event ∷ events) peer = connected_after event peer (is_connected events peer)

-- The bytes of the peers' spaces after a list of events: the reset values, changed by the write of
-- each event.
abbrev pub bytes_after : Devices → List Event → ℕ → Bytes
bytes_after w [] peer part k = reset_byte (rows_of w peer part) k
bytes_after w (event ∷ events) peer part k =
    if resets event peer then reset_byte (rows_of w peer part) k
    else byte_after (rows_of w peer part) (whole_write_of w.wiring (is_connected events) (bytes_after w events) event peer part) k
    (bytes_after w events peer part k)

-- The delivery to a peer, as a list.
abbrev pub delivery_to : ℕ → Option ℕ → List Delivery
delivery_to peer None = []
delivery_to peer (Some vector) = record { peer = peer; vector = vector } ∷ []

-- The deliveries to the peers below a number, in ascending order.
abbrev pub deliveries_below : (ℕ → Option ℕ) → ℕ → List Delivery
deliveries_below at zero = []
deliveries_below at (suc peer) = deliveries_below at peer ++ delivery_to peer (at peer)

-- The State word that an event writes, changed or not.
abbrev pub state_of : Event → Option ℕ
state_of (RegisterWritten p offset value) = if offset == state_register then Some value else None
state_of (WasReset p) = Some 0
state_of (WasDisconnected p) = Some 0
state_of _ = None

-- The effect of one more event after a list of events.
abbrev pub effect_of : Devices → List Event → Event → Effect
effect_of w events event = record {
  state = state_of event;
  deliveries = record { items = deliveries_below (delivery_of w.wiring (is_connected events) (bytes_after w events) event) w.shape.peers };
}

-- The value that the register page of a peer reads: its aligned words, and 0 at every other offset.
abbrev pub register_at : Bytes → ℕ → ℕ
register_at byte offset = if offset % 4 == 0 && nat_lt offset 20 then number_from (byte Page) offset 4 else 0

-- The value that the MSI-X region of a peer reads: the aligned words of its entries, and 0 at every
-- other offset.
abbrev pub msix_at : Wiring → Bytes → ℕ → ℕ
msix_at wiring byte offset =
    if offset % 4 == 0 && nat_lt (offset / 16) (vector_count wiring) then number_from (byte (Entry (offset / 16))) (offset % 16) 4 else 0
