use Rattle.std.proofs.Common.{◌∙◌, ap}
use Rattle.pci_space.specs.declared.place.RegionPlace.{RegionPlace}
use Rattle.pci_space.specs.Fields.{reset_byte}
use Rattle.pci_space.specs.Device.{placed_rows}
use Rattle.pci_space.proofs.device.device_space.Goals as goal

pub returns-clause-bytes : goal.returns-clause-bytes
returns-clause-bytes c k =
    c.placed_space.ensures.bytes k
    ∙ ap (λ (region : RegionPlace). reset_byte (placed_rows c.args.geometry.now c.args.protocol c.args.wiring region) k) c.usual.ensures
