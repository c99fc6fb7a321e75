-- A bridge as contracts see it, and the arrivals that it refines.
use Rattle.std.specs.Prelude.{ℕ, ◌≡◌, Option, List, length, min}
use Rattle.std.specs.Ordering.{nat_cmp}
use Rattle.std.specs.Cmp.Lexicographic.{slice_cmp}
use Rattle.std.specs.BTreeMap.{is_at}
use Rattle.std.specs.Map.{lookup}
use Rattle.std.specs.Set.{distinct_count}
use Rattle.frame_bridge.specs.Forwarding.{Arrival, most_known, same_address, senders, port_of}

-- The number of its ports, and the port of each address that it knows.
pub record View : Type 0 where
  pub ports : ℕ
  pub table : List (List ℕ × ℕ)

abbrev pub port_in : View → List ℕ → Option ℕ
port_in bridge address = lookup (is_at (slice_cmp nat_cmp address)) bridge.table

-- The bridge knows the addresses that are known after these arrivals, and no others.
pub record RefinesArrivals (bridge : View) (arrivals : List Arrival) : Type 0 where
  pub known : (address : List ℕ) → port_in bridge address ≡ port_of arrivals address
  pub size : length bridge.table ≡ min most_known (distinct_count same_address (senders arrivals))

abbrev pub arrival : ℕ → List ℕ → Arrival
arrival port frame = record { port = port; frame = frame }
