use Rattle.std.proofs.Common.{arith, length-append, ◌∷◌, [], ap, length, ℕ, subst, sym}
use Rattle.doorbell_irq.specs.Peer.{Registers}
use Rattle.doorbell_irq.specs.Registers.{IsPeer}
use Rattle.ivshm_device.proofs.Pushed.{pushed_each}
use Rattle.ivshm_device.proofs.peer_devices.peers_at_reset.Goals as goal

pub loop-peer-preserved : goal.loop-peer-preserved
loop-peer-preserved c =
    let P : ℕ → Registers → Type 0 = λ peer r. IsPeer (record { shape = c.args.geometry.now; wiring = c.args.wiring; region = c.args.region }) [] peer r in
    record {
      long = omega (arith, ap length c.push_reserved.ensures.items, length-append c.loop-peer.registers.items (c.placed.result ∷ []), c.loop-peer.invariant.long);
      len = omega (arith, c.push_reserved.ensures.len, c.loop-peer.invariant.len);
      room = omega (arith, c.push_reserved.ensures.capacity, c.loop-peer.invariant.room);
      each = pushed_each P c.loop-peer.registers.items c.push_reserved.new.self.items c.placed.result c.push_reserved.ensures.items
          (subst (λ (peer : ℕ). P peer c.placed.result) (sym c.loop-peer.invariant.long) c.placed.ensures) c.loop-peer.invariant.each;
    }
