use Rattle.std.proofs.Common.{◌≡◌, ℕ}
use Rattle.std.specs.Prelude.{◌&&◌, nat_lt}
use Rattle.doorbell_irq.specs.DeviceRules.{bit}
use Rattle.doorbell_irq.specs.Registers.{register_bytes}
use Rattle.doorbell_irq.specs.Routes.{would_be_delivered}
use Rattle.doorbell_irq.proofs.registers.PeerDevice.vectors.Given as goal

-- The bits so far.
abbrev pub invariant-loop-vector : goal.invariant-loop-vector
invariant-loop-vector g l = (n : ℕ) → bit l.vectors n ≡ (nat_lt n l.vector && would_be_delivered l.wiring l.self.connected (register_bytes l.self) n)
