-- The fields that the other peer writes, by their names in texts.
use Rattle.std.specs.Prelude.{ℕ, List, codes}
use Rattle.split_ring.specs.declared.ranges.FieldName.{FieldName}
use Rattle.split_ring.specs.declared.ranges.FieldName.TheVariants.{AvailIndex, AvailEntry, DescAddress, DescLength, DescFlags, UsedIndex, UsedId}

-- A field by its name.
abbrev pub name_of : FieldName → List ℕ
name_of AvailIndex = codes "AvailIndex"
name_of AvailEntry = codes "AvailEntry"
name_of DescAddress = codes "DescAddress"
name_of DescLength = codes "DescLength"
name_of DescFlags = codes "DescFlags"
name_of UsedIndex = codes "UsedIndex"
name_of UsedId = codes "UsedId"
