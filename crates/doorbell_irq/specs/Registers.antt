-- One peer's registers as the code has them, and what a trigger does to them.
use Rattle.std.specs.Prelude.{ℕ, ◌≡◌, ◌≤◌, Bool, ◌&&◌, List, Option, Some, None, is_some, length, slice_index, slice_get}
use Rattle.pci_space.specs.Fields.{Contents, reset_byte}
use Rattle.pci_space.specs.declared.wiring.Wiring.{Wiring}
use Rattle.doorbell_irq.specs.Peer.{Registers}
use Rattle.doorbell_irq.specs.Events.{Devices, Event, Part, Config, Page, Entry, rows_of, entry_rows, vector_count}
use Rattle.doorbell_irq.specs.DeviceRules.{Bytes, Write, delivery_by, is_one_shot, clear_of, byte_after, is_connected, bytes_after}

-- Byte k of a space, if there is one.
abbrev pub byte_in : Option Contents → ℕ → ℕ
byte_in None k = 0
byte_in (Some space) k = slice_index space.bytes k

-- The bytes of a peer's registers.
abbrev pub register_bytes : Registers → Bytes
register_bytes r Config k = slice_index r.config.bytes k
register_bytes r Page k = slice_index r.page.bytes k
register_bytes r (Entry n) k = byte_in (slice_get r.entries n) k

-- The delivery to a peer with these registers, if it is triggered.
abbrev pub delivery_at : Wiring → Registers → Option ℕ → Option ℕ
delivery_at wiring r vector = delivery_by wiring r.connected (register_bytes r) vector

-- A space has the bytes of a peer's part after these events.
pub record IsPart (w : Devices) (events : List Event) (peer : ℕ) (part : Part) (space : Contents) : Type 0 where
  pub rows : space.rows ≡ rows_of w peer part
  pub bytes : (k : ℕ) → slice_index space.bytes k ≡ bytes_after w events peer part k

-- Registers are those of a peer after these events.
pub record IsPeer (w : Devices) (events : List Event) (peer : ℕ) (r : Registers) : Type 0 where
  pub connected : r.connected ≡ is_connected events peer
  pub config : IsPart w events peer Config r.config
  pub page : IsPart w events peer Page r.page
  pub count : vector_count w.wiring ≤ length r.entries
  pub entries : (n : ℕ) (entry : Contents) → slice_get r.entries n ≡ Some entry → IsPart w events peer (Entry n) entry

-- A space is an entry of an MSI-X table at reset.
pub record IsEntryAtReset (space : Contents) : Type 0 where
  pub rows : space.rows ≡ entry_rows
  pub bytes : (k : ℕ) → slice_index space.bytes k ≡ reset_byte entry_rows k

-- The new space is the old one after a write, if there is one.
pub record IsWritten (write : Option Write) (old new : Contents) : Type 0 where
  pub rows : new.rows ≡ old.rows
  pub bytes : (k : ℕ) → slice_index new.bytes k ≡ byte_after old.rows write k (slice_index old.bytes k)

-- The new registers are the old ones after these writes to the configuration space, the register
-- page and the entries.
pub record Writes (config page : Option Write) (entry : ℕ → Option Write) (old new : Registers) : Type 0 where
  pub connected : new.connected ≡ old.connected
  pub in_config : IsWritten config old.config new.config
  pub in_page : IsWritten page old.page new.page
  pub count : length new.entries ≡ length old.entries
  pub in_entries : (n : ℕ) (before after : Contents) → slice_get old.entries n ≡ Some before → slice_get new.entries n ≡ Some after →
      IsWritten (entry n) before after

-- The new space is the old one at reset.
pub record IsSpaceReset (old new : Contents) : Type 0 where
  pub rows : new.rows ≡ old.rows
  pub bytes : (k : ℕ) → slice_index new.bytes k ≡ reset_byte old.rows k

-- The new registers are the old ones at reset, connected or not.
pub record IsReset (old : Registers) (connection : Bool) (new : Registers) : Type 0 where
  pub connected : new.connected ≡ connection
  pub config : IsSpaceReset old.config new.config
  pub page : IsSpaceReset old.page new.page
  pub count : length new.entries ≡ length old.entries
  pub entries : (n : ℕ) (before after : Contents) → slice_get old.entries n ≡ Some before → slice_get new.entries n ≡ Some after → IsSpaceReset before after

-- The new registers are the old ones after a trigger, or without one: the device may clear
-- Interrupt Control.
abbrev pub Takes : Wiring → Option ℕ → Registers → Registers → Type 0
Takes wiring vector old new =
    Writes None (clear_of Page (is_some (delivery_at wiring old vector) && is_one_shot (register_bytes old))) (λ n. None) old new
