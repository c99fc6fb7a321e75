-- The knowledge of a learning bridge and the ports to which it forwards a frame, by the list of
-- arrivals so far. A definition looks back over that list; the bridge has a map (profile). A bridge
-- learns and forwards in this manner in IEEE 802.1D, section 7.8, where addresses also expire.
use Rattle.std.specs.Prelude.{ℕ, zero, suc, ◌==◌, ◌%◌, Bool, true, false, not, ◌&&◌, if◌then◌else◌, nat_eq, nat_lt, Option, Some, None, List, [], ◌∷◌, ◌++◌, take, drop, map, filter, reverse}
use Rattle.std.specs.List.{list_any, find, before_first}
use Rattle.std.specs.Option.{option_map}
use Rattle.std.specs.Set.{distinct_count}
use Rattle.std.specs.Cmp.Lexicographic.{pointwise}

-- Arrivals

-- A frame that arrived, and its port.
pub record Arrival : Type 0 where
  pub port : ℕ
  pub frame : List ℕ

-- A frame begins with the address of its destination and that of its source, six bytes each.
abbrev pub destination : List ℕ → List ℕ
destination frame = take 6 frame

abbrev pub source : List ℕ → List ℕ
source frame = take 6 (drop 6 frame)

-- Bit 0 of the first byte of a group address is set.
abbrev pub is_group : List ℕ → Bool
is_group [] = false
is_group (byte ∷ bytes) = byte % 2 == 1

abbrev pub same_address : List ℕ → List ℕ → Bool
same_address a b = pointwise nat_eq a b

abbrev pub is_from : List ℕ → Arrival → Bool
is_from address arrival = same_address address (source arrival.frame)

-- Learning

-- The most addresses that a bridge knows.
abbrev pub most_known : ℕ
most_known = 1024

-- The sources that are no group addresses.
abbrev pub single : List ℕ → Bool
single address = not (is_group address)

abbrev pub senders : List Arrival → List (List ℕ)
senders arrivals = filter single (map (λ a. source a.frame) arrivals)

-- Whether an address is learned: it is a source and no group address, and fewer than 1,024 others
-- arrived before its first arrival.
abbrev pub is_learned : List Arrival → List ℕ → Bool
is_learned arrivals address = single address && list_any (is_from address) arrivals
    && nat_lt (distinct_count same_address (senders (before_first (is_from address) arrivals))) most_known

-- The port of its latest arrival.
abbrev pub latest_port : List Arrival → List ℕ → Option ℕ
latest_port arrivals address = option_map (λ a. a.port) (find (is_from address) (reverse arrivals))

-- The port of an address that is known.
abbrev pub port_of : List Arrival → List ℕ → Option ℕ
port_of arrivals address = if is_learned arrivals address then latest_port arrivals address else None

-- The number of addresses known.
abbrev pub known_count : List Arrival → ℕ
known_count arrivals = distinct_count same_address (filter (is_learned arrivals) (senders arrivals))

-- Forwarding

-- A frame to this address goes to each port, or only to its own port if the address is known.
abbrev pub leads_to : Option ℕ → ℕ → Bool
leads_to None port = true
leads_to (Some known) port = port == known

-- A frame never goes back to the port at which it arrived.
abbrev pub goes_to : Option ℕ → (from to : ℕ) → Bool
goes_to known from to = not (to == from) && leads_to known to

-- A frame to a group address goes to the ports of an unknown destination.
abbrev pub known_for : List Arrival → List ℕ → Option ℕ
known_for arrivals address = if is_group address then None else port_of arrivals address

-- Whether the frame of the last of these arrivals goes to the port.
abbrev pub is_forwarded : List Arrival → Arrival → ℕ → Bool
is_forwarded arrivals last port = goes_to (known_for arrivals (destination last.frame)) last.port port

abbrev pub first_ports : ℕ → List ℕ
first_ports zero = []
first_ports (suc count) = first_ports count ++ count ∷ []

-- Those of `count` ports to which the frame of one more arrival goes.
abbrev pub ports_for : ℕ → List Arrival → Arrival → List ℕ
ports_for count earlier last = filter (is_forwarded (earlier ++ last ∷ []) last) (first_ports count)

-- The frames of these arrivals that go to the port, in the order in which they arrived.
abbrev pub forwarded_after : (earlier arrivals : List Arrival) → ℕ → List (List ℕ)
forwarded_after earlier [] port = []
forwarded_after earlier (a ∷ arrivals) port =
    (if is_forwarded (earlier ++ a ∷ []) a port then a.frame ∷ [] else []) ++ forwarded_after (earlier ++ a ∷ []) arrivals port

abbrev pub forward : List Arrival → ℕ → List (List ℕ)
forward arrivals port = forwarded_after [] arrivals port
