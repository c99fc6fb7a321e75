-- The sizes that no region has (profile). Sizes are in bytes here.
use Rattle.std.specs.Prelude.{◌≡◌, ℕ, ◌+◌, ◌*◌, ◌/◌, ◌%◌, ◌<◌, ◌≤◌}
use Rattle.section_map.specs.Geometry.{Shape}
use Rattle.section_map.specs.declared.limits.TheConstants.{LARGEST_REGION, LEAST_PEERS, MOST_PEERS, PAGE}
use Rattle.section_map.specs.declared.sizes.Part.TheVariants.{Table, Common, Out}
use Rattle.section_map.specs.declared.sizes.GeometryFault.{GeometryFault}
use Rattle.section_map.specs.declared.sizes.GeometryFault.TheVariants.{BadPeers, BadPage, TableTooSmall, TooLarge}

-- The range of the number of peers of a region.
abbrev pub IsPeerCount : ℕ → Type 0
IsPeerCount peers = (LEAST_PEERS ≤ peers) × (peers ≤ MOST_PEERS)

-- The size is a whole number of pages.
abbrev pub IsPages : ℕ → Type 0
IsPages size = size % PAGE ≡ 0

-- The size is a whole number of pages, and at least one. The State Table and the output sections
-- need this.
abbrev pub IsSomePages : ℕ → Type 0
IsSomePages size = (0 < size) × IsPages size

-- The length in bytes of a region of these sizes.
abbrev pub byte_count : ℕ → ℕ → ℕ → ℕ → ℕ
byte_count peers table common out = table + common + peers * out

-- The shape of these sizes, in words.
abbrev pub shape_of : ℕ → ℕ → ℕ → ℕ → Shape
shape_of peers table common out = record { peers = peers; table = table / 4; common = common / 4; out = out / 4 }

-- The first test that these sizes fail, if all earlier tests pass. The tests are in this order:
-- - the number of peers;
-- - the pages of the State Table, of the common section and of the output sections;
-- - a word of the State Table for each peer;
-- - the greatest length of a region.
abbrev pub IsFirstFault : (peers table common out : ℕ) → GeometryFault → Type 0
IsFirstFault peers table common out (BadPeers found) =
    (¬ IsPeerCount peers) × (found ≡ peers)
IsFirstFault peers table common out (BadPage Table size) =
    IsPeerCount peers × (¬ IsSomePages table) × (size ≡ table)
IsFirstFault peers table common out (BadPage Common size) =
    IsPeerCount peers × IsSomePages table × (¬ IsPages common) × (size ≡ common)
IsFirstFault peers table common out (BadPage Out size) =
    IsPeerCount peers × IsSomePages table × IsPages common × (¬ IsSomePages out) × (size ≡ out)
IsFirstFault peers table common out (TableTooSmall need found) =
    IsPeerCount peers × IsSomePages table × IsPages common × IsSomePages out
    × (table < 4 * peers) × (need ≡ 4 * peers) × (found ≡ table)
IsFirstFault peers table common out (TooLarge bytes) =
    IsPeerCount peers × IsSomePages table × IsPages common × IsSomePages out × (4 * peers ≤ table)
    × (LARGEST_REGION < bytes) × (bytes ≡ byte_count peers table common out)
