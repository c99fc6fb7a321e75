-- The sizes that a head may give, as tests of its numbers. Sizes are in bytes.
use Rattle.std.specs.Prelude.{ℕ, ◌*◌, ◌%◌, ◌==◌, ◌&&◌, nat_lt, nat_le, is_some, Bool}
use Rattle.section_map.specs.declared.limits.TheConstants.{LARGEST_REGION, LEAST_PEERS, MOST_PEERS, PAGE}
use Rattle.section_map.specs.Faults.{byte_count}
use Rattle.split_ring.specs.declared.sizes.TheConstants.{LEAST_MTU, MOST_MTU}
use Rattle.split_ring.specs.Layout.{Sizes, queue_size, slot_of, data_area_len}

-- Whole pages of 4,096 bytes.
abbrev pub is_pages : ℕ → Bool
is_pages size = size % PAGE == 0

abbrev pub is_some_pages : ℕ → Bool
is_some_pages size = nat_lt 0 size && is_pages size

-- These sizes have a region: whole pages, a word of the State Table for each peer, and at most
-- 4,194,304 words.
unfoldable pub is_geometry : ℕ → ℕ → ℕ → ℕ → Bool
is_geometry peers table common out =
    nat_le LEAST_PEERS peers && nat_le peers MOST_PEERS && is_some_pages table && is_pages common && is_some_pages out
    && nat_le (4 * peers) table && nat_le (byte_count peers table common out) LARGEST_REGION

-- A section of this size has a queue for this MTU.
unfoldable pub is_queue : Sizes → Bool
is_queue q = nat_le LEAST_MTU q.mtu && nat_le q.mtu MOST_MTU && is_some (queue_size q.out) && nat_le (slot_of q) (data_area_len q)
