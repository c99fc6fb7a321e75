use Rattle.std.proofs.Common.{◌∙◌, ap}
use Rattle.std.specs.Prelude.{slice_index}
use Rattle.pci_space.specs.Fields.{merged_byte}
use Rattle.pci_space.proofs.UnmaskedBitsAreKept.{kept_after}
use Rattle.pci_space.proofs.space.Space.write.Goals as goal

pub invariant_of-self : goal.invariant_of-self
invariant_of-self g c = (
  c.self.invariant.0,
  kept_after c.self.inside.table.rows c.self.inside.bytes c.write_bytes.new.bytes c.from.result c.from-2.result c.args.value c.self.invariant.1
      (λ k. c.write_bytes.ensures k
      ∙ ap (λ rows. merged_byte rows c.from.result c.from-2.result c.args.value k (slice_index c.self.inside.bytes k)) c.rows.ensures.rows),
)
