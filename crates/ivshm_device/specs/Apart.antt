-- One process for each guest: which events of a world the process of a peer applies to its own
-- handle.
use Rattle.std.specs.Prelude.{ℕ, ◌≡◌, ◌≢◌, ◌==◌, ◌&&◌, ◌||◌, not, Bool, true, false, List, [], ◌∷◌}
use Rattle.doorbell_irq.specs.Events.{Devices, Event, ConfigWritten, RegisterWritten, MsixWritten, WasReset, WasDisconnected, WasConnected, doorbell_register, state_register, doorbell_target}
use Rattle.doorbell_irq.specs.DeviceRules.{state_in, is_connected, bytes_after}

-- Whether the process of a peer may leave an event out. The event is a write of another peer, but
-- no write of State and no doorbell with the peer as its target.
abbrev pub may_leave_out : (peer : ℕ) → Event → Bool
may_leave_out peer (ConfigWritten p offset width value) = not (p == peer)
may_leave_out peer (RegisterWritten p offset value) =
    not (p == peer) && not (offset == state_register || (offset == doorbell_register && doorbell_target value == peer))
may_leave_out peer (MsixWritten p offset value) = not (p == peer)
may_leave_out peer (WasReset p) = false
may_leave_out peer (WasDisconnected p) = false
may_leave_out peer (WasConnected p) = false

-- After two lists of events, each peer other than `peer` has the same connection and the same
-- State.
pub record OthersAgree (w : Devices) (peer : ℕ) (applied all : List Event) : Type 0 where
  pub connected : (other : ℕ) → other ≢ peer → is_connected applied other ≡ is_connected all other
  pub states : (other : ℕ) → other ≢ peer → state_in (bytes_after w applied other) ≡ state_in (bytes_after w all other)

-- Of all events of a world the process of a peer applies these, the newest first in both lists. The
-- process applies each event, or leaves it out if it may. It starts with the world, or joins at a
-- connection of its peer with the connections and the States of the other peers.
pub data Applies (w : Devices) (peer : ℕ) : (applied all : List Event) → Type 0 where
  starts : Applies w peer [] []
  joins : (applied all : List Event) → OthersAgree w peer applied all → Applies w peer (WasConnected peer ∷ applied) (WasConnected peer ∷ all)
  goes_on : (event : Event) (applied all : List Event) → Applies w peer applied all → Applies w peer (event ∷ applied) (event ∷ all)
  leaves_out : (event : Event) (applied all : List Event) → may_leave_out peer event ≡ true → Applies w peer applied all → Applies w peer applied (event ∷ all)
