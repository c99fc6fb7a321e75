use Rattle.pci_space.proofs.WalkIsUnique.{one_answer}
use Rattle.pci_space.proofs.capabilities.one_walk.Goals as goal

pub returns : goal.returns
returns c = one_answer
