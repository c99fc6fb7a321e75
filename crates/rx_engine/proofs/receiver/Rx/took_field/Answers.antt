use Rattle.std.proofs.Common.{subst}
use Rattle.split_ring.specs.Ranges.{IsAvailEntry}
use Rattle.rx_engine.specs.Receiver.{Receiver, IsReached}
use Rattle.rx_engine.proofs.receiver.Rx.took_field.Goals as goal

pub passed_low-requires-clause-entry : goal.passed_low-requires-clause-entry
passed_low-requires-clause-entry c =
    subst (λ (r : Receiver). IsAvailEntry r.sizes c.in-ReadingDescAddressLow.entry) c.self.view_is (subst (IsReached c.self.inside.queue) c.in-ReadingDescAddressLow.is c.self.invariant.place)
