use Rattle.std.proofs.Common.{◌≡◌, ℕ, ◌∙◌, ap, subst, None}
use Rattle.std.specs.Prelude.{slice_index}
use Rattle.pci_space.specs.Fields.{reset_byte, table_fault}
use Rattle.pci_space.proofs.UnmaskedBitsAreKept.{kept_at_reset}
use Rattle.pci_space.proofs.FieldsEndInside.{reset_everywhere}
use Rattle.pci_space.proofs.space.Space.reset.Goals as goal

at_reset : (g : _) (c : goal.After-self-1 g) → (k : ℕ) → slice_index c.bytes_at_reset-self-inside.result k ≡ reset_byte c.self.inside.table.rows k
at_reset g c =
    reset_everywhere c.self.inside.table.rows g.row.B c.bytes_at_reset-self-inside.result
    (subst (λ n. table_fault c.self.inside.table.rows n ≡ None) c.self.invariant.0 c.rows.ensures.sound)
    c.bytes_at_reset-self-inside.ensures.long
    (λ k inside. c.bytes_at_reset-self-inside.ensures.bytes k inside ∙ ap (λ rows. reset_byte rows k) c.rows.ensures.rows)

pub returns-clause-bytes : goal.returns-clause-bytes
returns-clause-bytes g c k = at_reset g c k ∙ ap (λ s. reset_byte s.rows k) c.self.view_is

pub invariant_of-self : goal.invariant_of-self
invariant_of-self g c = (c.self.invariant.0, kept_at_reset c.self.inside.table.rows c.bytes_at_reset-self-inside.result (at_reset g c))
