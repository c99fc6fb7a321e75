use Rattle.std.proofs.Common.{◌≡◌, ◌∙◌, ap, subst, None}
use Rattle.pci_space.specs.Fields.{reset_byte, table_fault}
use Rattle.pci_space.proofs.UnmaskedBitsAreKept.{kept_at_reset}
use Rattle.pci_space.proofs.FieldsEndInside.{reset_everywhere}
use Rattle.pci_space.proofs.space.Space.new.Goals as goal

pub returns-clause-bytes : goal.returns-clause-bytes
returns-clause-bytes g c =
    reset_everywhere c.args.table.rows g.row.B c.bytes_at_reset-bytes.result
    (subst (λ n. table_fault c.args.table.rows n ≡ None) c.requires c.rows.ensures.sound)
    c.bytes_at_reset-bytes.ensures.long
    (λ k inside. c.bytes_at_reset-bytes.ensures.bytes k inside ∙ ap (λ rows. reset_byte rows k) c.rows.ensures.rows)

pub invariant_of-result : goal.invariant_of-result
invariant_of-result g c = (c.requires, kept_at_reset c.args.table.rows c.bytes_at_reset-bytes.result (returns-clause-bytes g c))
