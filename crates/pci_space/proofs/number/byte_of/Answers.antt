use Rattle.pci_space.proofs.NumberBytes.{number_byte-past}
use Rattle.pci_space.proofs.number.byte_of.Goals as goal

pub returns-then-i-ge8 : goal.returns-then-i-ge8
returns-then-i-ge8 c = number_byte-past c.args.number c.args.i c.ranges.number.fits c.if-i-ge8.true
