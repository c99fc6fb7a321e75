-- The bounds of a queue's numbers.
use Rattle.std.proofs.Common.{ℕ, ◌*◌, ◌/◌, ◌<◌, ◌≤◌, min, Bool, true, false, cond, arith}
use Rattle.std.proofs.Math.Nat.{mul-le-mul_left, mul-div-le, le-div_iff_mul-le}
use Rattle.split_ring.specs.Layout.{Sizes, size_of, data_area_len, slot_of, slots_of, limit_of, is_byte_ring, IsQueue, HasBounds}
use Rattle.split_ring.proofs.QueueSizeIsGreatest.{found}

slots_fit : (size room slot : ℕ) → slot * min size (room / slot) ≤ room
slots_fit size room slot =
    let few : min size (room / slot) ≤ room / slot = omega arith in
    let h : slot * min size (room / slot) ≤ slot * (room / slot) = mul-le-mul_left slot few in
    let g = mul-div-le room slot in
    omega arith

some_slot : (room slot : ℕ) → 0 < slot → slot ≤ room → 0 < room / slot
some_slot room slot some fits = let h : 1 ≤ room / slot = (le-div_iff_mul-le {k = slot} {x = 1} {y = room} some).1 (omega arith) in omega arith

-- A property of the number of descriptors and of the number of slots is a property of the limit.
of_limit : (Holds : ℕ → Type 0) (b : Bool) (size slots : ℕ) → Holds size → Holds slots → Holds (cond b size slots)
of_limit Holds true size slots h g = h
of_limit Holds false size slots h g = g

pub bounds : (q : Sizes) → IsQueue q → HasBounds q
unfolding limit_of slots_of
bounds q h =
    let f = found q.out (size_of q) h.fits in
    let fits = f.fits in
    let least = f.least in
    let room = slots_fit (size_of q) (data_area_len q) (slot_of q) in
    let one = some_slot (data_area_len q) (slot_of q) (omega arith) h.one_slot in
    record {
      size_least = f.least;
      size_most = f.most;
      size_whole = f.whole;
      divides = f.divides;
      limit_least = of_limit (λ n. 0 < n) (is_byte_ring q) (size_of q) (min (size_of q) (data_area_len q / slot_of q)) (omega arith) (omega arith);
      limit_most = of_limit (λ n. n ≤ size_of q) (is_byte_ring q) (size_of q) (min (size_of q) (data_area_len q / slot_of q)) (omega arith) (omega arith);
      rings = f.fits;
      slots = omega arith;
    }
