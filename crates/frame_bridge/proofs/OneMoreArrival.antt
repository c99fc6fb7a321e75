-- The effect of one more arrival on what is known.
use Rattle.std.proofs.Common.{◌≡◌, ℕ, ◌+◌, ◌<◌, ◌≤◌, Bool, true, false, List, [], ◌∷◌, ◌++◌, length, cond, not, ◌||◌, ◌&&◌, refl, sym, ap, ◌∙◌, arith, min, map, inl, inr}
use Rattle.std.specs.Prelude.{◌⊎◌, filter, Option, Some, None, is_some, nat_lt, reverse, if◌then◌else◌}
use Rattle.std.specs.Option.{option_map}
use Rattle.std.specs.List.{list_any, find, before_first}
use Rattle.std.specs.Set.{distinct_count, is_member}
use Rattle.std.specs.Cmp.{eq_by_cmp_equiv}
use Rattle.std.specs.Cmp.Lexicographic.{slice_cmp, bytes_decides, texts_ties, nat_list_eq_equiv, nat_list_cmp_total}
use Rattle.std.specs.Ordering.{nat_cmp, eq_by_cmp}
use Rattle.std.specs.Map.{keys_of}
use Rattle.std.specs.List.Sorted.{IsStrictlySortedBy}
use Rattle.std.specs.BTreeMap.{is_at}
use Rattle.std.proofs.lemmas.List.{append-nil, reverse-append, map-append}
use Rattle.std.proofs.lemmas.List.Elements.{filter-append}
use Rattle.std.proofs.lemmas.List.Folds.{list_any-append}
use Rattle.std.proofs.lemmas.Map.Text.{is_eq-slice_cmp}
use Rattle.std.proofs.lemmas.Map.Made.{is_some-lookup, is_member-filter, length-from_keys}
use Rattle.std.proofs.lemmas.Map.Keys.{IsDistinct-from_sorted}
use Rattle.std.proofs.lemmas.Map.Entries.{length-keys_of}
use Rattle.std.proofs.lemmas.Bool.{lt-ltb, le-ltb}
use Rattle.frame_bridge.specs.Forwarding.{Arrival, source, is_group, same_address, is_from, single, senders, most_known, is_learned, latest_port, port_of, known_count}
use Rattle.frame_bridge.specs.BridgeView.{View, RefinesArrivals, port_in}
use Rattle.frame_bridge.proofs.GrowingLists.{unless, or_true, first_seen, first_new, first_begins, is_some_find, any_reverse, distinct_snoc, distinct_grows}

-- Addresses

pub same_is : (a b : List ℕ) → same_address a b ≡ true → a ≡ b
same_is a b e = (bytes_decides a b).0 e

pub same_self : (a : List ℕ) → same_address a a ≡ true
same_self a = (bytes_decides a a).1 refl

-- The map's test.
pub at_is_same : (a b : List ℕ) → is_at (slice_cmp nat_cmp a) b ≡ same_address a b
at_is_same a b = is_eq-slice_cmp a b

-- Senders

pub senders_append : (xs ys : List Arrival) → senders (xs ++ ys) ≡ senders xs ++ senders ys
senders_append xs ys =
    let source_of : Arrival → List ℕ = λ a. source a.frame in
    ap (filter single) (map-append source_of xs ys) ∙ filter-append single (map source_of xs) (map source_of ys)

-- One more group address doesn't count.
pub count_group : (xs : List Arrival) (x : Arrival) → is_group (source x.frame) ≡ true →
    distinct_count same_address (senders (xs ++ x ∷ [])) ≡ distinct_count same_address (senders xs)
count_group xs x group =
    let none : senders (x ∷ []) ≡ [] = ap (λ (b : Bool). cond (not b) (source x.frame ∷ []) []) group in
    ap (λ (l : List (List ℕ)). distinct_count same_address l) (senders_append xs (x ∷ []) ∙ (ap (λ (l : List (List ℕ)). senders xs ++ l) none ∙ append-nil (senders xs)))

-- One more single address counts if it is new.
pub count_single : (xs : List Arrival) (x : Arrival) → is_group (source x.frame) ≡ false →
    distinct_count same_address (senders (xs ++ x ∷ [])) ≡ distinct_count same_address (senders xs) + unless (is_member same_address (senders xs) (source x.frame))
count_single xs x alone =
    let one : senders (x ∷ []) ≡ source x.frame ∷ [] = ap (λ (b : Bool). cond (not b) (source x.frame ∷ []) []) alone in
    ap (λ (l : List (List ℕ)). distinct_count same_address l) (senders_append xs (x ∷ []) ∙ ap (λ (l : List (List ℕ)). senders xs ++ l) one) ∙
    distinct_snoc nat_list_eq_equiv (senders xs) (source x.frame)

any_cond : (t : List ℕ → Bool) (b : Bool) (y : List ℕ) (ys : List (List ℕ)) → list_any t (cond b (y ∷ ys) ys) ≡ ((b && t y) || list_any t ys)
any_cond t true y ys = refl
any_cond t false y ys = refl

and_false : (b : Bool) → (b && false) ≡ false
and_false true = refl
and_false false = refl

-- The same address is single too.
alike : (a b : List ℕ) → single a ≡ true → (c : Bool) → same_address a b ≡ c → (single b && c) ≡ c
alike a b s true same = ap (λ (t : Bool). t && true) (sym (ap single (same_is a b same)) ∙ s)
alike a b s false same = and_false (single b)

-- A single address is a sender if it is a source.
pub is_sender : (xs : List Arrival) (a : List ℕ) → single a ≡ true → is_member same_address (senders xs) a ≡ list_any (is_from a) xs
is_sender [] a s = refl
is_sender (x ∷ xs) a s =
    any_cond (same_address a) (single (source x.frame)) (source x.frame) (senders xs) ∙
    (ap (λ (b : Bool). b || is_member same_address (senders xs) a) (alike a (source x.frame) s (same_address a (source x.frame)) refl) ∙
    ap (λ (b : Bool). is_from a x || b) (is_sender xs a s))

-- The sources known after one more arrival.

pub latest_here : (xs : List Arrival) (x : Arrival) (a : List ℕ) → is_from a x ≡ true → latest_port (xs ++ x ∷ []) a ≡ Some x.port
latest_here xs x a here =
    ap (λ (l : List Arrival). option_map (λ (y : Arrival). y.port) (find (is_from a) l)) (reverse-append xs (x ∷ [])) ∙
    ap (λ (b : Bool). option_map (λ (y : Arrival). y.port) (cond b (Some x) (find (is_from a) (reverse xs)))) here

pub latest_other : (xs : List Arrival) (x : Arrival) (a : List ℕ) → is_from a x ≡ false → latest_port (xs ++ x ∷ []) a ≡ latest_port xs a
latest_other xs x a other =
    ap (λ (l : List Arrival). option_map (λ (y : Arrival). y.port) (find (is_from a) l)) (reverse-append xs (x ∷ [])) ∙
    ap (λ (b : Bool). option_map (λ (y : Arrival). y.port) (cond b (Some x) (find (is_from a) (reverse xs)))) other

-- A source that arrived before is learned already, or is never learned.
pub learned_seen : (xs ys : List Arrival) (a : List ℕ) → list_any (is_from a) xs ≡ true → is_learned (xs ++ ys) a ≡ is_learned xs a
learned_seen xs ys a seen =
    let p : Arrival → Bool = is_from a in
    let there : list_any p (xs ++ ys) ≡ list_any p xs = list_any-append p xs ys ∙ (ap (λ (b : Bool). b || list_any p ys) seen ∙ sym seen) in
    ap (λ (b : Bool). single a && b && nat_lt (distinct_count same_address (senders (before_first p (xs ++ ys)))) most_known) there ∙
    ap (λ (l : List Arrival). single a && list_any p xs && nat_lt (distinct_count same_address (senders l)) most_known) (first_seen p xs ys seen)

-- An address that isn't a source isn't learned.
pub unseen : (xs : List Arrival) (a : List ℕ) → list_any (is_from a) xs ≡ false → is_learned xs a ≡ false
unseen xs a new =
    let few : Bool = nat_lt (distinct_count same_address (senders (before_first (is_from a) xs))) most_known in
    ap (λ (b : Bool). single a && b && few) new ∙ ap (λ (b : Bool). b && few) (and_false (single a))

-- A group address isn't learned.
pub group_unlearned : (xs : List Arrival) (a : List ℕ) → is_group a ≡ true → is_learned xs a ≡ false
group_unlearned xs a group =
    ap (λ (b : Bool). not b && list_any (is_from a) xs && nat_lt (distinct_count same_address (senders (before_first (is_from a) xs))) most_known) group

-- A new single source is learned if fewer than the most are known.
pub learned_new : (xs : List Arrival) (x : Arrival) (a : List ℕ) → list_any (is_from a) xs ≡ false → is_from a x ≡ true → single a ≡ true →
    is_learned (xs ++ x ∷ []) a ≡ nat_lt (distinct_count same_address (senders xs)) most_known
learned_new xs x a new here s =
    let p : Arrival → Bool = is_from a in
    let there : list_any p (xs ++ x ∷ []) ≡ true =
    list_any-append p xs (x ∷ []) ∙ (ap (λ (b : Bool). list_any p xs || (b || false)) here ∙ or_true (list_any p xs)) in
    let before : before_first p (xs ++ x ∷ []) ≡ xs = first_new p xs x new ∙ (ap (λ (b : Bool). xs ++ cond b [] (x ∷ [])) here ∙ append-nil xs) in
    ap (λ (b : Bool). b && list_any p (xs ++ x ∷ []) && nat_lt (distinct_count same_address (senders (before_first p (xs ++ x ∷ [])))) most_known) s ∙
    (ap (λ (b : Bool). true && b && nat_lt (distinct_count same_address (senders (before_first p (xs ++ x ∷ [])))) most_known) there ∙
    ap (λ (l : List Arrival). nat_lt (distinct_count same_address (senders l)) most_known) before)

-- The arrival of another source changes nothing.
learned_other : (xs : List Arrival) (x : Arrival) (a : List ℕ) (seen : Bool) → list_any (is_from a) xs ≡ seen → is_from a x ≡ false →
    is_learned (xs ++ x ∷ []) a ≡ is_learned xs a
learned_other xs x a true seen other = learned_seen xs (x ∷ []) a seen
learned_other xs x a false new other =
    let p : Arrival → Bool = is_from a in
    let still : list_any p (xs ++ x ∷ []) ≡ false =
    list_any-append p xs (x ∷ []) ∙ (ap (λ (b : Bool). b || (p x || false)) new ∙ ap (λ (b : Bool). b || false) other) in
    unseen (xs ++ x ∷ []) a still ∙ sym (unseen xs a new)

pub port_other : (xs : List Arrival) (x : Arrival) (a : List ℕ) → is_from a x ≡ false → port_of (xs ++ x ∷ []) a ≡ port_of xs a
port_other xs x a other =
    ap (λ (b : Bool). if b then latest_port (xs ++ x ∷ []) a else None) (learned_other xs x a (list_any (is_from a) xs) refl other) ∙
    ap (λ (o : Option ℕ). if is_learned xs a then o else None) (latest_other xs x a other)

pub port_here : (xs : List Arrival) (x : Arrival) (a : List ℕ) → is_from a x ≡ true → is_learned (xs ++ x ∷ []) a ≡ true → port_of (xs ++ x ∷ []) a ≡ Some x.port
port_here xs x a here learned =
    ap (λ (b : Bool). if b then latest_port (xs ++ x ∷ []) a else None) learned ∙ latest_here xs x a here

pub port_none : (xs : List Arrival) (a : List ℕ) → is_learned xs a ≡ false → port_of xs a ≡ None
port_none xs a unlearned = ap (λ (b : Bool). if b then latest_port xs a else None) unlearned

and_left : (a b c : Bool) → (a && b && c) ≡ true → a ≡ true
and_left true b c e = refl
and_left false b c e = absurd (cc)

and_mid : (a b c : Bool) → (a && b && c) ≡ true → b ≡ true
and_mid true true c e = refl
and_mid true false c e = absurd (cc)
and_mid false b c e = absurd (cc)

pub learned_single : (xs : List Arrival) (a : List ℕ) → is_learned xs a ≡ true → single a ≡ true
learned_single xs a learned = and_left (single a) (list_any (is_from a) xs) (nat_lt (distinct_count same_address (senders (before_first (is_from a) xs))) most_known) learned

pub learned_source : (xs : List Arrival) (a : List ℕ) → is_learned xs a ≡ true → list_any (is_from a) xs ≡ true
learned_source xs a learned = and_mid (single a) (list_any (is_from a) xs) (nat_lt (distinct_count same_address (senders (before_first (is_from a) xs))) most_known) learned

is_some_map : (o : Option Arrival) → is_some (option_map (λ (y : Arrival). y.port) o) ≡ is_some o
is_some_map None = refl
is_some_map (Some y) = refl

some_port : (xs : List Arrival) (a : List ℕ) (b : Bool) → is_learned xs a ≡ b → is_some (if b then latest_port xs a else None) ≡ b
some_port xs a true learned =
    is_some_map (find (is_from a) (reverse xs)) ∙ (is_some_find (is_from a) (reverse xs) ∙ (any_reverse (is_from a) xs ∙ learned_source xs a learned))
some_port xs a false learned = refl

-- An address has a port exactly if it is learned.
pub is_some_port : (xs : List Arrival) (a : List ℕ) → is_some (port_of xs a) ≡ is_learned xs a
is_some_port xs a = some_port xs a (is_learned xs a) refl

-- If fewer than the most are known, each single source is learned.
pub learned_few : (xs : List Arrival) (a : List ℕ) → list_any (is_from a) xs ≡ true → single a ≡ true →
    distinct_count same_address (senders xs) < most_known → is_learned xs a ≡ true
learned_few xs a seen s few =
    let p : Arrival → Bool = is_from a in
    let begins = first_begins p xs in
    let front : List (List ℕ) = senders (before_first p xs) in
    let grows : distinct_count same_address front ≤ distinct_count same_address (front ++ senders begins.0) = distinct_grows nat_list_eq_equiv front (senders begins.0) in
    let whole : distinct_count same_address (front ++ senders begins.0) ≡ distinct_count same_address (senders xs) =
    ap (λ (l : List (List ℕ)). distinct_count same_address l) (sym (senders_append (before_first p xs) begins.0) ∙ ap senders begins.1) in
    let below : distinct_count same_address front < most_known = omega arith in
    ap (λ (b : Bool). b && list_any p xs && nat_lt (distinct_count same_address front) most_known) s ∙
    (ap (λ (b : Bool). true && b && nat_lt (distinct_count same_address front) most_known) seen ∙ lt-ltb (distinct_count same_address front) most_known below)

-- The bridge after one more arrival

-- No address gets another port by a group address.
group_port : (xs : List Arrival) (x : Arrival) (a : List ℕ) (here : Bool) → is_group (source x.frame) ≡ true → is_from a x ≡ here →
    port_of (xs ++ x ∷ []) a ≡ port_of xs a
group_port xs x a true group here =
    let g : is_group a ≡ true = ap is_group (same_is a (source x.frame) here) ∙ group in
    port_none (xs ++ x ∷ []) a (group_unlearned (xs ++ x ∷ []) a g) ∙ sym (port_none xs a (group_unlearned xs a g))
group_port xs x a false group other = port_other xs x a other

-- The source is a group address: nothing changes.
pub stands_group : (bridge : View) (xs : List Arrival) (x : Arrival) → RefinesArrivals bridge xs → is_group (source x.frame) ≡ true →
    RefinesArrivals bridge (xs ++ x ∷ [])
stands_group bridge xs x refines group = record {
  known = λ a. refines.known a ∙ sym (group_port xs x a (is_from a x) group refl);
  size = refines.size ∙ ap (λ (n : ℕ). min most_known n) (sym (count_group xs x group));
}

unlearned : (bridge : View) (xs : List Arrival) (a : List ℕ) → RefinesArrivals bridge xs → is_some (port_in bridge a) ≡ false → is_learned xs a ≡ false
unlearned bridge xs a refines none = sym (is_some_port xs a) ∙ (ap (λ (o : Option ℕ). is_some o) (sym (refines.known a)) ∙ none)

full_learned : (xs : List Arrival) (x : Arrival) (a : List ℕ) (seen : Bool) → list_any (is_from a) xs ≡ seen → is_from a x ≡ true → single a ≡ true →
    is_learned xs a ≡ false → most_known ≤ distinct_count same_address (senders xs) → is_learned (xs ++ x ∷ []) a ≡ false
full_learned xs x a true seen here s unknown full = learned_seen xs (x ∷ []) a seen ∙ unknown
full_learned xs x a false new here s unknown full = learned_new xs x a new here s ∙ le-ltb (distinct_count same_address (senders xs)) most_known full

full_port : (xs : List Arrival) (x : Arrival) (a : List ℕ) (here : Bool) → is_from a x ≡ here → single (source x.frame) ≡ true →
    is_learned xs (source x.frame) ≡ false → most_known ≤ distinct_count same_address (senders xs) → port_of (xs ++ x ∷ []) a ≡ port_of xs a
full_port xs x a true here s unknown full =
    let same : a ≡ source x.frame = same_is a (source x.frame) here in
    let unknown : is_learned xs a ≡ false = ap (is_learned xs) same ∙ unknown in
    port_none (xs ++ x ∷ []) a (full_learned xs x a (list_any (is_from a) xs) refl here (ap single same ∙ s) unknown full) ∙ sym (port_none xs a unknown)
full_port xs x a false other s unknown full = port_other xs x a other

single_from : (a : List ℕ) → is_group a ≡ false → single a ≡ true
single_from a alone = ap not alone

-- The source isn't known, and the most are: nothing changes.
pub stands_full : (bridge : View) (xs : List Arrival) (x : Arrival) → RefinesArrivals bridge xs → is_group (source x.frame) ≡ false →
    is_some (port_in bridge (source x.frame)) ≡ false → most_known ≤ length bridge.table → RefinesArrivals bridge (xs ++ x ∷ [])
stands_full bridge xs x refines alone none full =
    let count : ℕ = distinct_count same_address (senders xs) in
    let many : most_known ≤ count = grind (arith, refines.size) in
    let unknown : is_learned xs (source x.frame) ≡ false = unlearned bridge xs (source x.frame) refines none in
    let more = count_single xs x alone in
    let stays : min most_known (distinct_count same_address (senders xs)) ≡ min most_known (distinct_count same_address (senders (xs ++ x ∷ []))) = omega (arith, more, many) in
    record {
      known = λ a. refines.known a ∙ sym (full_port xs x a (is_from a x) refl (single_from (source x.frame) alone) unknown many);
      size = refines.size ∙ stays;
    }

-- It is known already, or there is space.
abbrev pub HasRoom : View → List ℕ → Type 0
HasRoom bridge a = (length bridge.table < most_known) ⊎ (is_some (port_in bridge a) ≡ true)

few_from : (bridge : View) (xs : List Arrival) → RefinesArrivals bridge xs → length bridge.table < most_known → distinct_count same_address (senders xs) < most_known
few_from bridge xs refines few = omega (arith, refines.size, few)

learned_where : (bridge : View) (xs : List Arrival) (a : List ℕ) → RefinesArrivals bridge xs → list_any (is_from a) xs ≡ true → single a ≡ true → HasRoom bridge a →
    is_learned xs a ≡ true
learned_where bridge xs a refines seen s (inl few) = learned_few xs a seen s (few_from bridge xs refines few)
learned_where bridge xs a refines seen s (inr known) = sym (is_some_port xs a) ∙ (ap (λ (o : Option ℕ). is_some o) (sym (refines.known a)) ∙ known)

few_where : (bridge : View) (xs : List Arrival) (a : List ℕ) → RefinesArrivals bridge xs → list_any (is_from a) xs ≡ false → HasRoom bridge a →
    distinct_count same_address (senders xs) < most_known
few_where bridge xs a refines new (inl few) = few_from bridge xs refines few
few_where bridge xs a refines new (inr known) =
    let unknown : is_learned xs a ≡ false = unseen xs a new in
    let yes : is_learned xs a ≡ true = sym (is_some_port xs a) ∙ (ap (λ (o : Option ℕ). is_some o) (sym (refines.known a)) ∙ known) in
    absurd (cc)

put_learned : (bridge : View) (xs : List Arrival) (x : Arrival) (seen : Bool) → list_any (is_from (source x.frame)) xs ≡ seen → RefinesArrivals bridge xs →
    single (source x.frame) ≡ true → HasRoom bridge (source x.frame) → is_learned (xs ++ x ∷ []) (source x.frame) ≡ true
put_learned bridge xs x true seen refines s room =
    learned_seen xs (x ∷ []) (source x.frame) seen ∙ learned_where bridge xs (source x.frame) refines seen s room
put_learned bridge xs x false new refines s room =
    learned_new xs x (source x.frame) new (same_self (source x.frame)) s ∙
    lt-ltb (distinct_count same_address (senders xs)) most_known (few_where bridge xs (source x.frame) refines new room)

put_port : (xs : List Arrival) (x : Arrival) (a : List ℕ) (old : Option ℕ) (here : Bool) → is_from a x ≡ here → is_learned (xs ++ x ∷ []) (source x.frame) ≡ true →
    old ≡ port_of xs a → cond here (Some x.port) old ≡ port_of (xs ++ x ∷ []) a
put_port xs x a old true here learned was =
    sym (port_here xs x a here (ap (is_learned (xs ++ x ∷ [])) (same_is a (source x.frame) here) ∙ learned))
put_port xs x a old false other learned was = was ∙ sym (port_other xs x a other)

put_size : (bridge : View) (xs : List Arrival) (x : Arrival) (new : ℕ) (seen : Bool) → list_any (is_from (source x.frame)) xs ≡ seen → RefinesArrivals bridge xs →
    is_group (source x.frame) ≡ false → HasRoom bridge (source x.frame) → new ≡ length bridge.table + unless (is_some (port_in bridge (source x.frame))) →
    new ≡ min most_known (distinct_count same_address (senders (xs ++ x ∷ [])))
put_size bridge xs x new true seen refines alone room is =
    let a : List ℕ = source x.frame in
    let member : is_member same_address (senders xs) a ≡ true = is_sender xs a (single_from a alone) ∙ seen in
    let known : is_some (port_in bridge a) ≡ true =
    ap (λ (o : Option ℕ). is_some o) (refines.known a) ∙ (is_some_port xs a ∙ learned_where bridge xs a refines seen (single_from a alone) room) in
    let none : unless (is_some (port_in bridge a)) ≡ 0 = ap (λ (b : Bool). unless b) known in
    let same : unless (is_member same_address (senders xs) a) ≡ 0 = ap (λ (b : Bool). unless b) member in
    omega (arith, is, none, same, count_single xs x alone, refines.size)
put_size bridge xs x new false unseen_yet refines alone room is =
    let a : List ℕ = source x.frame in
    let member : is_member same_address (senders xs) a ≡ false = is_sender xs a (single_from a alone) ∙ unseen_yet in
    let known : is_some (port_in bridge a) ≡ false =
    ap (λ (o : Option ℕ). is_some o) (refines.known a) ∙ (is_some_port xs a ∙ unseen xs a unseen_yet) in
    let one : unless (is_some (port_in bridge a)) ≡ 1 = ap (λ (b : Bool). unless b) known in
    let more : unless (is_member same_address (senders xs) a) ≡ 1 = ap (λ (b : Bool). unless b) member in
    omega (arith, is, one, more, count_single xs x alone, refines.size, few_where bridge xs a refines unseen_yet room)

turned : (a b : List ℕ) → is_at (slice_cmp nat_cmp b) a ≡ same_address a b
turned a b = at_is_same b a ∙ nat_list_eq_equiv.symm b a

-- The source gets the port.
pub stands_put : (bridge after : View) (xs : List Arrival) (x : Arrival) → RefinesArrivals bridge xs → is_group (source x.frame) ≡ false → HasRoom bridge (source x.frame) →
    ((a : List ℕ) → port_in after a ≡ cond (is_at (slice_cmp nat_cmp (source x.frame)) a) (Some x.port) (port_in bridge a)) →
    length after.table ≡ length bridge.table + unless (is_some (port_in bridge (source x.frame))) → RefinesArrivals after (xs ++ x ∷ [])
stands_put bridge after xs x refines alone room updates size =
    let learned : is_learned (xs ++ x ∷ []) (source x.frame) ≡ true =
    put_learned bridge xs x (list_any (is_from (source x.frame)) xs) refl refines (single_from (source x.frame) alone) room in
    record {
      known = λ a. updates a ∙ (ap (λ (b : Bool). cond b (Some x.port) (port_in bridge a)) (turned a (source x.frame)) ∙
          put_port xs x a (port_in bridge a) (is_from a x) refl learned (refines.known a));
      size = put_size bridge xs x (length after.table) (list_any (is_from (source x.frame)) xs) refl refines alone room size;
    }

-- The number known

fun_same : same_address ≡ eq_by_cmp (slice_cmp nat_cmp)
fun_same = λ i a b. texts_ties a b i

known_member : (xs : List Arrival) (a : List ℕ) (b : Bool) → is_learned xs a ≡ b → (is_member same_address (senders xs) a && b) ≡ b
known_member xs a true learned = ap (λ (t : Bool). t && true) (is_sender xs a (learned_single xs a learned) ∙ learned_source xs a learned)
known_member xs a false unlearned = and_false (is_member same_address (senders xs) a)

learned_alike : (xs : List Arrival) (a b : List ℕ) → same_address a b ≡ true → is_learned xs a ≡ is_learned xs b
learned_alike xs a b same = ap (is_learned xs) (same_is a b same)

keys_known : (bridge : View) (xs : List Arrival) → RefinesArrivals bridge xs → (a : List ℕ) →
    is_member (eq_by_cmp (slice_cmp nat_cmp)) (keys_of bridge.table) a ≡ is_member same_address (filter (is_learned xs) (senders xs)) a
keys_known bridge xs refines a =
    sym (is_some-lookup (is_at (slice_cmp nat_cmp a)) bridge.table) ∙ (ap (λ (o : Option ℕ). is_some o) (refines.known a) ∙ (is_some_port xs a ∙
    sym (is_member-filter nat_list_eq_equiv (is_learned xs) a (λ b same. learned_alike xs a b same) (senders xs) ∙ known_member xs a (is_learned xs a) refl)))

-- A map with its keys in order has as many entries as addresses are known.
pub known_counts : (bridge : View) (xs : List Arrival) → RefinesArrivals bridge xs → IsStrictlySortedBy (slice_cmp nat_cmp) (keys_of bridge.table) →
    length bridge.table ≡ known_count xs
known_counts bridge xs refines ordered =
    let keys : List (List ℕ) = keys_of bridge.table in
    let learned : List (List ℕ) = filter (is_learned xs) (senders xs) in
    let same : length keys ≡ distinct_count (eq_by_cmp (slice_cmp nat_cmp)) learned =
    length-from_keys (eq_by_cmp_equiv nat_list_cmp_total) keys learned (IsDistinct-from_sorted (slice_cmp nat_cmp) keys ordered)
    (λ a. keys_known bridge xs refines a ∙ ap (λ (e : List ℕ → List ℕ → Bool). is_member e learned a) fun_same) in
    sym (length-keys_of bridge.table) ∙ (same ∙ ap (λ (e : List ℕ → List ℕ → Bool). distinct_count e learned) (sym fun_same))
