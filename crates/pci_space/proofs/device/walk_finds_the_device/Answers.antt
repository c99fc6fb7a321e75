use Rattle.pci_space.proofs.WalkIsUnique.{one_answer}
use Rattle.pci_space.proofs.WalkFindsDevice.{finds_the_device}
use Rattle.pci_space.proofs.device.walk_finds_the_device.Goals as goal

pub returns : goal.returns
returns c shape protocol wiring region bytes answer shaped small wired placed same walked =
    one_answer bytes answer _ walked (finds_the_device shape protocol wiring region bytes shaped small wired placed same)
