-- One peer's registers as contracts see them: its connection, its spaces, and the entries of its
-- MSI-X table.
use Rattle.std.specs.Prelude.{Bool, List}
use Rattle.pci_space.specs.Fields.{Contents}

pub record Registers : Type 0 where
  pub connected : Bool
  pub config : Contents
  pub page : Contents
  pub entries : List Contents
