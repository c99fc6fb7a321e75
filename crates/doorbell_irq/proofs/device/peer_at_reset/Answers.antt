use Rattle.std.proofs.Common.{◌≤◌, sym, subst, arith}
use Rattle.std.proofs.lemmas.List.{length-replicate}
use Rattle.pci_space.specs.Fields.{Contents}
use Rattle.pci_space.specs.declared.wiring.Wiring.{Wiring}
use Rattle.pci_space.specs.declared.wiring.Wiring.TheVariants.{Msix, Intx}
use Rattle.pci_space.specs.Wiring.{IsWiring}
use Rattle.doorbell_irq.specs.Events.{vector_count}
use Rattle.doorbell_irq.specs.Registers.{IsEntryAtReset}
use Rattle.doorbell_irq.proofs.Lists.{slice_get-replicate}
use Rattle.doorbell_irq.proofs.device.peer_at_reset.Goals as goal

-- A wiring has at most 64 vectors.
wiring_few : (wiring : Wiring) → IsWiring wiring → vector_count wiring ≤ 64
wiring_few (Msix vectors) wired = wired.1
wiring_few Intx wired = omega arith

pub new-requires-clause-count : goal.new-requires-clause-count
new-requires-clause-count c = omega (arith, length-replicate 64 c.entry_at_reset.result, wiring_few c.args.wiring c.requires)

pub new-requires-clause-reset : goal.new-requires-clause-reset
new-requires-clause-reset c n entry at =
    subst (λ (e : Contents). IsEntryAtReset e) (sym (slice_get-replicate 64 c.entry_at_reset.result entry n at))
    (record { rows = c.entry_at_reset.ensures.rows; bytes = c.entry_at_reset.ensures.bytes })
