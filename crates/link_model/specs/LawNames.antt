-- The laws by their names in texts (profile).
use Rattle.std.specs.Prelude.{ℕ, List, codes}
use Rattle.link_model.specs.declared.fault.Law.{Law}
use Rattle.link_model.specs.declared.fault.Law.TheVariants.{Order, Device, Touch, Memory, Link, Call}

-- A law by its name, one word.
abbrev pub name_of : Law → List ℕ
name_of Order = codes "order"
name_of Device = codes "device"
name_of Touch = codes "touch"
name_of Memory = codes "memory"
name_of Link = codes "link"
name_of Call = codes "call"
