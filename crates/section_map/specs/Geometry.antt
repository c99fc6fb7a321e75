-- The sizes of a shared region (the device's specification, "Shared memory layout"). All sizes are
-- in words of 4 bytes.
use Rattle.std.specs.Prelude.{◌≡◌, ℕ, ◌+◌, ◌*◌, ◌%◌, ◌≤◌, List, length}
use Rattle.section_map.specs.declared.limits.TheConstants.{LEAST_PEERS, MOST_PEERS, PAGE_WORDS, REGION_WORDS}

-- The number of peers that a region serves, and the sizes of its State Table, of its common section
-- and of each peer's output section.
pub record Shape : Type 0 where
  pub peers : ℕ
  pub table : ℕ
  pub common : ℕ
  pub out : ℕ

-- The first word of the output section of a peer: after the State Table, the common section and the
-- sections of lower peers.
abbrev pub section_start : Shape → ℕ → ℕ
section_start g peer = g.table + g.common + peer * g.out

-- The number of words of the region.
abbrev pub word_count : Shape → ℕ
word_count g = g.table + g.common + g.peers * g.out

-- The invariant of a geometry (profile). Sizes are whole pages, and the State Table and the output
-- sections have at least one page.
pub record IsShape (g : Shape) : Type 0 where
  pub two_peers : LEAST_PEERS ≤ g.peers
  pub most_peers : g.peers ≤ MOST_PEERS
  pub table_page : PAGE_WORDS ≤ g.table
  pub table_pages : g.table % PAGE_WORDS ≡ 0
  pub common_pages : g.common % PAGE_WORDS ≡ 0
  pub out_page : PAGE_WORDS ≤ g.out
  pub out_pages : g.out % PAGE_WORDS ≡ 0
  pub states : g.peers ≤ g.table
  pub room : word_count g ≤ REGION_WORDS

-- A region: its words, from its base upwards, and its sizes.
pub record Words : Type 0 where
  pub words : List ℕ
  pub shape : Shape

-- The number of words of the region is the number that its sizes give.
pub record IsRegion (r : Words) : Type 0 where
  pub count : length r.words ≡ word_count r.shape
  pub shaped : IsShape r.shape
