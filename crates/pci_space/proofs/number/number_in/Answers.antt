use Rattle.std.proofs.Common.{◌<◌, ◌^◌, ◌-◌, ◌∙◌, subst, sym, drop, length, arith}
use Rattle.byteorder.specs.Numbers.{little_from-take}
use Rattle.pci_space.proofs.NumberBytes.{little_number-drop, number_from-fits}
use Rattle.pci_space.proofs.number.number_in.Goals as goal

pub returns-clause-is : goal.returns-clause-is
returns-clause-is c =
    c.read_uint.ensures
    ∙ little_from-take 0 c.args.count (length c.args.bytes.now - c.args.at) (drop c.args.at c.args.bytes.now) (omega arith)
    ∙ little_number-drop c.args.at c.args.count c.args.bytes.now

pub returns-clause-fits : goal.returns-clause-fits
returns-clause-fits c =
    subst (λ n. n < 256 ^ c.args.count) (sym (returns-clause-is c)) (number_from-fits c.args.bytes.now c.args.at c.args.count (λ k. omega (arith, c.type_inv.bytes k)))
