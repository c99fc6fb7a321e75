-- The tests of the sizes are the conditions of a region and a queue.
use Rattle.std.proofs.Common.{mul-le-mul_right, ◌≡◌, ℕ, ◌*◌, ◌/◌, ◌≤◌, Bool, true, false, Option, Some, None, Result, Ok, Err, refl, sym, ap, subst, ◌∙◌, arith, eq-eqb}
use Rattle.std.specs.Prelude.{IfOk, IfErr, IsSome, is_some, unwrap_or}
use Rattle.std.specs.Result.{is_ok}
use Rattle.std.proofs.lemmas.Bool.{leb-true, le-leb, ltb-true, lt-ltb, eqb-true}
use Rattle.line_format.proofs.SpellingsAreRead.{both_true}
use Rattle.line_format.proofs.LinesAreCut.{are_true}
use Rattle.section_map.specs.declared.limits.TheConstants.{LARGEST_REGION, LEAST_PEERS, MOST_PEERS}
use Rattle.section_map.specs.Geometry.{Shape, IsShape}
use Rattle.section_map.specs.Faults.{IsPeerCount, IsPages, IsSomePages, byte_count, shape_of, IsFirstFault}
use Rattle.section_map.specs.declared.sizes.Part.TheVariants.{Table, Common, Out}
use Rattle.section_map.specs.declared.sizes.GeometryFault.{GeometryFault}
use Rattle.section_map.specs.declared.sizes.GeometryFault.TheVariants.{BadPeers, BadPage, TableTooSmall, TooLarge}
use Rattle.split_ring.specs.declared.sizes.TheConstants.{LEAST_MTU, MOST_MTU}
use Rattle.split_ring.specs.Layout.{IsVersion, Sizes, queue_size, size_of, IsQueue}
use Rattle.split_ring.specs.Faults.{IsQueueFault}
use Rattle.split_ring.specs.declared.faults.QueueFault.{QueueFault}
use Rattle.split_ring.specs.declared.faults.QueueFault.TheVariants as queue_faults
use Rattle.scenario_text.specs.Sizes.{is_some_pages, is_geometry, is_queue}

never : (b : Bool) → (b ≡ true → ⊥) → b ≡ false
never true fails = absurd (fails refl)
never false fails = refl

-- The facts of the test of a geometry.
pub record HasRegion (peers table common out : ℕ) : Type 0 where
  pub count : IsPeerCount peers
  pub table_pages : IsSomePages table
  pub common_pages : IsPages common
  pub out_pages : IsSomePages out
  pub states : 4 * peers ≤ table
  pub room : byte_count peers table common out ≤ LARGEST_REGION

some_pages : (size : ℕ) → is_some_pages size ≡ true → IsSomePages size
some_pages size e =
    let t = both_true _ _ e in
    (ltb-true 0 size t.0, eqb-true _ _ t.1)

some_pages_true : (size : ℕ) → IsSomePages size → is_some_pages size ≡ true
some_pages_true size is = are_true _ _ (lt-ltb 0 size is.0) (eq-eqb _ _ is.1)

pub has_region : (peers table common out : ℕ) → is_geometry peers table common out ≡ true → HasRegion peers table common out
unfolding is_geometry
has_region peers table common out e =
    let a = both_true _ _ e in
    let b = both_true _ _ a.0 in
    let c = both_true _ _ b.0 in
    let d = both_true _ _ c.0 in
    let f = both_true _ _ d.0 in
    let g = both_true _ _ f.0 in
    record {
      count = (leb-true LEAST_PEERS peers g.0, leb-true peers MOST_PEERS g.1);
      table_pages = some_pages table f.1;
      common_pages = eqb-true _ _ d.1;
      out_pages = some_pages out c.1;
      states = leb-true _ _ b.1;
      room = leb-true _ _ a.1;
    }

pub is_geometry-true : (peers table common out : ℕ) → HasRegion peers table common out → is_geometry peers table common out ≡ true
unfolding is_geometry
is_geometry-true peers table common out is =
    are_true _ _ (are_true _ _ (are_true _ _ (are_true _ _ (are_true _ _ (are_true _ _ (le-leb LEAST_PEERS peers is.count.0) (le-leb peers MOST_PEERS is.count.1))
    (some_pages_true table is.table_pages)) (eq-eqb _ _ is.common_pages)) (some_pages_true out is.out_pages)) (le-leb _ _ is.states)) (le-leb _ _ is.room)

refused : (peers table common out : ℕ) (fault : GeometryFault) → IsFirstFault peers table common out fault → HasRegion peers table common out → ⊥
refused peers table common out (BadPeers found) is has = is.0 has.count
refused peers table common out (BadPage Table size) is has = is.1 has.table_pages
refused peers table common out (BadPage Common size) is has = is.2 has.common_pages
refused peers table common out (BadPage Out size) is has = is.3 has.out_pages
refused peers table common out (TableTooSmall need found) is has = let states = has.states in let less = is.4 in omega arith
refused peers table common out (TooLarge bytes) is has = let room = has.room in let more = is.5 in let same = is.6 in omega arith

-- Sizes that are accepted have a region.
pub accepted : (peers table common out : ℕ) → IsShape (shape_of peers table common out) → IsSomePages table × IsPages common × IsSomePages out → HasRegion peers table common out
accepted peers table common out shape pages =
    let t = pages.0.1 in
    let c = pages.1 in
    let o = pages.2.1 in
    let table_whole : 4 * (table / 4) ≡ table = omega arith in
    let common_whole : 4 * (common / 4) ≡ common = omega arith in
    let out_whole : 4 * (out / 4) ≡ out = omega arith in
    let room = shape.room in
    let sections : 4 * (peers * (out / 4)) ≡ peers * out = swap peers (out / 4) ∙ ap (λ (n : ℕ). peers * n) out_whole in
    let states = shape.states in
    record {
      count = (shape.two_peers, shape.most_peers);
      table_pages = pages.0;
      common_pages = pages.1;
      out_pages = pages.2;
      states = omega arith;
      room = omega arith;
    }
  where
    swap : (p n : ℕ) → 4 * (p * n) ≡ p * (4 * n)
    swap p n = omega arith

pub geometry_is : (peers table common out : ℕ) (r : Result Shape GeometryFault) → IfOk r (λ g. g ≡ shape_of peers table common out) → IfOk r (λ g. IsShape g) → IfOk r (λ g. IsSomePages table × IsPages common × IsSomePages out) → IfErr r (IsFirstFault peers table common out)
    → is_ok r ≡ is_geometry peers table common out
geometry_is peers table common out (Ok g) made shape pages fault = sym (is_geometry-true peers table common out (accepted peers table common out (subst IsShape made shape) pages))
geometry_is peers table common out (Err e) made shape pages fault = sym (never _ (λ is. refused peers table common out e fault (has_region peers table common out is)))

-- ---- queues

some_true : (o : Option ℕ) → IsSome o → is_some o ≡ true
some_true (Some n) is = refl
some_true None is = absurd cc

pub some_size : (o : Option ℕ) → is_some o ≡ true → o ≡ Some (unwrap_or o 0)
some_size (Some n) e = refl
some_size None e = absurd cc

pub has_queue : (q : Sizes) → IsVersion q.version → q.out ≤ LARGEST_REGION → is_queue q ≡ true → IsQueue q
unfolding is_queue
has_queue q known section e =
    let a = both_true _ _ e in
    let b = both_true _ _ a.0 in
    let c = both_true _ _ b.0 in
    record { known = known; mtu_least = leb-true LEAST_MTU q.mtu c.0; mtu_most = leb-true q.mtu MOST_MTU c.1; section = section; fits = some_size (queue_size q.out) b.1; one_slot = leb-true _ _ a.1 }

pub is_queue-true : (q : Sizes) → IsQueue q → is_queue q ≡ true
unfolding is_queue
is_queue-true q is = are_true _ _ (are_true _ _ (are_true _ _ (le-leb LEAST_MTU q.mtu is.mtu_least) (le-leb q.mtu MOST_MTU is.mtu_most)) (ap is_some is.fits)) (le-leb _ _ is.one_slot)

queue_refused : (q : Sizes) (fault : QueueFault) → IsQueueFault q fault → IsQueue q → ⊥
queue_refused q (queue_faults.BadMtu mtu) is has = is.0 (has.mtu_least, has.mtu_most)
queue_refused q (queue_faults.TooSmall bytes) is has = let none : Some (size_of q) ≡ None = sym has.fits ∙ is.1 in absurd cc
queue_refused q (queue_faults.NoSlot slot room) is has = let less = is.2 in let le = has.one_slot in omega arith

pub queue_is : (q : Sizes) (r : Result Sizes QueueFault) → IsVersion q.version → q.out ≤ LARGEST_REGION → IfOk r (λ made. (made ≡ q) × IsQueue made) → IfErr r (IsQueueFault q) → is_ok r ≡ is_queue q
queue_is q (Ok made) known section is fault = sym (is_queue-true q (subst IsQueue is.0 is.1))
queue_is q (Err e) known section is fault = sym (never _ (λ yes. queue_refused q e fault (has_queue q known section yes)))

-- A section is at most as long as the longest region.
pub small_section : (peers table common out : ℕ) → HasRegion peers table common out → out ≤ LARGEST_REGION
small_section peers table common out is =
    let room = is.room in
    let two = is.count.0 in
    let one : 1 * out ≤ peers * out = mul-le-mul_right out (omega arith) in
    omega arith
