-- The words that each peer may write (the device's specification, "Shared memory layout"). Every
-- peer may read every word.
use Rattle.std.specs.Prelude.{ℕ, ◌+◌, ◌<◌, ◌≤◌, ◌⊎◌, ◌&&◌, ◌||◌, Bool, nat_le, nat_lt}
use Rattle.section_map.specs.Geometry.{Shape, section_start}
use Rattle.section_map.specs.declared.sizes.Section.{Section}
use Rattle.section_map.specs.declared.sizes.Section.TheVariants.{Table, Common, Output}

-- The word is in this peer's output section.
abbrev pub InSection : Shape → ℕ → ℕ → Type 0
InSection g peer word = (section_start g peer ≤ word) × (word < section_start g peer + g.out)

-- The word is in the common section, directly after the State Table.
abbrev pub InCommon : Shape → ℕ → Type 0
InCommon g word = (g.table ≤ word) × (word < g.table + g.common)

-- The word is in the State Table.
abbrev pub InTable : Shape → ℕ → Type 0
InTable g word = word < g.table

-- A peer may write its own output section and the common section.
abbrev pub MayWrite : Shape → ℕ → ℕ → Type 0
MayWrite g peer word = InSection g peer word ⊎ InCommon g word

-- The same as a test.
abbrev pub may_write : Shape → ℕ → ℕ → Bool
may_write g peer word =
    (nat_le (section_start g peer) word && nat_lt word (section_start g peer + g.out)) || (nat_le g.table word && nat_lt word (g.table + g.common))

-- The word is in this section.
abbrev pub IsSectionOf : Shape → ℕ → Section → Type 0
IsSectionOf g word Table = InTable g word
IsSectionOf g word Common = InCommon g word
IsSectionOf g word (Output peer) = (peer < g.peers) × InSection g peer word
