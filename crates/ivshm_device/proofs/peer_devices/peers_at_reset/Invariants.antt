use Rattle.std.proofs.Common.{◌≡◌, ℕ, length, []}
use Rattle.std.specs.Prelude.{Some, slice_get}
use Rattle.doorbell_irq.specs.Peer.{Registers}
use Rattle.doorbell_irq.specs.Registers.{IsPeer}
use Rattle.ivshm_device.proofs.peer_devices.peers_at_reset.Given as goal

-- The devices so far are those of the first peers, at reset.
abbrev pub invariant-loop-peer : goal.invariant-loop-peer
invariant-loop-peer l = record {
  long : length l.registers.items ≡ l.peer;
  len : l.registers.len ≡ l.peer;
  room : l.registers.cap ≡ l.count;
  each : (peer : ℕ) (r : Registers) → slice_get l.registers.items peer ≡ Some r → IsPeer (record { shape = l.geometry; wiring = l.wiring; region = l.region }) [] peer r;
}
