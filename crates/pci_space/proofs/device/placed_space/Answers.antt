use Rattle.std.proofs.Common.{◌∙◌, ap, lit<, sym, subst}
use Rattle.std.specs.Prelude.{ℕ, List, None, ◌≡◌}
use Rattle.pci_space.specs.declared.field.Field.{Field}
use Rattle.pci_space.specs.Fields.{reset_byte, table_fault}
use Rattle.pci_space.proofs.DeviceRowsAreTable.{sound_rows}
use Rattle.pci_space.proofs.device.placed_space.Goals as goal

pub table_of-table-requires : goal.table_of-table-requires
table_of-table-requires c = (
  lit< tt,
  (
    lit< tt,
    (
      lit< tt,
      subst (λ (rows : List Field). table_fault rows 256 ≡ None) (sym c.rows_of.ensures.rows)
          (sound_rows c.args.geometry.now c.args.protocol c.args.wiring c.args.region c.rows_of.ensures.shape c.ranges.protocol.fits c.requires.wired c.requires.placed),
    ),
  ),
)

pub returns-clause-bytes : goal.returns-clause-bytes
returns-clause-bytes c k =
    c.new.ensures.bytes k ∙ ap (λ (rows : List Field). reset_byte rows k) (ap (λ t. t.rows) c.table_of-table.ensures ∙ c.rows_of.ensures.rows)
