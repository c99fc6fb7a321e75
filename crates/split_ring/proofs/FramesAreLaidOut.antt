-- The places of a session's frames.
use Rattle.std.proofs.Common.{◌≡◌, ◌≢◌, ℕ, zero, suc, ◌+◌, ◌-◌, ◌*◌, ◌/◌, ◌%◌, ◌<◌, ◌≤◌, inl, inr, Bool, true, false, cond, refl, sym, ap, ◌∙◌, subst, arith}
use mathlib.Core.Logic.{dite}
use native.Mathlib.Decide.{ℕ_discrete, dec_lt}
use Rattle.std.specs.Prelude.{nat_lt, nat_le, ◌&&◌, ◌||◌, not}
use Rattle.std.proofs.lemmas.Bool.Decides.{nat_tests}
use Rattle.std.proofs.lemmas.Nat.{mod_below, div-add-mod'}
use Rattle.std.proofs.Math.Nat.{mul-le-mul_left}
use Rattle.ivs_base.specs.Numbers.{up64}
use Rattle.split_ring.specs.Layout.{Sizes, IsQueue, FrameSlot, is_byte_ring, data_area_len, slot_of, size_of, slots_of, limit_of, data_area_start, offset_of}
use Rattle.split_ring.specs.Frames.{footprint_of, start_after, ring_start, start_of, AreApart, are_apart, is_apart_from, has_room, IsPlaced, FramesAreLaidOut}
use Rattle.split_ring.proofs.QueueHasBounds.{bounds}
use Rattle.split_ring.proofs.QueuesAreLaidOut.{queues_are_laid_out}

-- The only case split on the version: a property in a byte ring and with slots.
by_ring : {B : Type 0} (Holds : B → Type 0) (b : Bool) (ring slots : B) → (b ≡ true → Holds ring) → (b ≡ false → Holds slots) → Holds (cond b ring slots)
by_ring Holds true ring slots h g = h refl
by_ring Holds false ring slots h g = g refl

fits_test : (a b : ℕ) → a ≤ b → nat_le a b ≡ true
fits_test a b h = grind (arith, nat_tests)

over_test : (a b : ℕ) → b < a → nat_le a b ≡ false
over_test a b h = grind (arith, nat_tests)

-- The two cases of the start of bytes after others.
pub after_is : (Holds : ℕ → Type 0) (room ended bytes : ℕ) → (ended + bytes ≤ room → Holds ended) → (room < ended + bytes → Holds 0) → Holds (start_after room ended bytes)
after_is Holds room ended bytes fits over = dite (dec_lt room (ended + bytes))
    (λ lt. subst (λ b. Holds (cond b ended 0)) (sym (over_test (ended + bytes) room lt)) (over lt))
    (λ ge. let le : ended + bytes ≤ room = omega arith in subst (λ b. Holds (cond b ended 0)) (sym (fits_test (ended + bytes) room le)) (fits le))

-- The bytes of a frame in a byte ring end inside the area.
pub ring_inside : (room : ℕ) (length_of : ℕ → ℕ) (k : ℕ) → up64 (length_of k) ≤ room → ring_start room length_of k + up64 (length_of k) ≤ room
unfolding ring_start
ring_inside room length_of zero fits = omega arith
ring_inside room length_of (suc k) fits =
    after_is (λ b. b + up64 (length_of (suc k)) ≤ room) room (ring_start room length_of k + up64 (length_of k)) (up64 (length_of (suc k))) (λ le. le) (λ over. omega arith)

pub ring_even : (room : ℕ) (length_of : ℕ → ℕ) (k : ℕ) → ring_start room length_of k % 64 ≡ 0
unfolding ring_start
ring_even room length_of zero = refl
ring_even room length_of (suc k) =
    let before = ring_even room length_of k in
    after_is (λ b. b % 64 ≡ 0) room (ring_start room length_of k + up64 (length_of k)) (up64 (length_of (suc k))) (λ le. omega arith) (λ over. refl)

pub ring_start_by_prefix : (room : ℕ) (length_of others : ℕ → ℕ) (k : ℕ) → ((j : ℕ) → j ≤ k → length_of j ≡ others j) → ring_start room length_of k ≡ ring_start room others k
unfolding ring_start
ring_start_by_prefix room length_of others zero same = refl
ring_start_by_prefix room length_of others (suc k) same =
    let before = ring_start_by_prefix room length_of others k (λ j le. same j (omega arith)) in
    ap (λ b. start_after room (b + up64 (length_of k)) (up64 (length_of (suc k)))) before ∙
    (ap (λ l. start_after room (ring_start room others k + up64 l) (up64 (length_of (suc k)))) (same k (omega arith)) ∙
    ap (λ l. start_after room (ring_start room others k + up64 (others k)) (up64 l)) (same (suc k) (omega arith)))

-- The slot of a frame.
slot_below : (q : Sizes) → IsQueue q → is_byte_ring q ≡ false → (k : ℕ) → k % limit_of q < slots_of q
unfolding limit_of
slot_below q is none k =
    let b = bounds q is in
    let least = b.limit_least in
    let limit_is : limit_of q ≡ slots_of q = ap (λ b. cond b (size_of q) (slots_of q)) none in
    subst (λ n. k % limit_of q < n) limit_is (mod_below k (limit_of q) least)

placed : (q : Sizes) (length_of : ℕ → ℕ) (k : ℕ) → IsQueue q → IsPlaced q length_of k
unfolding start_of footprint_of
placed q length_of k is =
    let laid = queues_are_laid_out q is in
    let ring = data_area_start q + ring_start (data_area_len q) length_of k in
    let slot = offset_of q (FrameSlot (k % limit_of q)) in
    let even = ring_even (data_area_len q) length_of k in
    let slots_even = laid.aligned (FrameSlot (k % limit_of q)) in
    let one = is.one_slot in
    let room = (bounds q is).rings in
    record {
      even = by_ring (λ b. b % 4 ≡ 0) (is_byte_ring q) ring slot (λ yes. omega arith) (λ none. slots_even);
      after = by_ring (λ b. data_area_start q ≤ b) (is_byte_ring q) ring slot (λ yes. omega arith) (λ none. omega arith);
      holds = λ short. by_ring (λ n. 4 * ((length_of k + 3) / 4) ≤ n) (is_byte_ring q) (up64 (length_of k)) (slot_of q) (λ yes. omega arith) (λ none. omega arith);
      inside = λ short. pick (is_byte_ring q) ring slot
          (λ yes. let inside = ring_inside (data_area_len q) length_of k (omega arith) in omega arith)
          (λ none. laid.inside (FrameSlot (k % limit_of q)) (slot_below q is none k));
    }
  where
    pick : (b : Bool) (ring slot : ℕ) → (b ≡ true → ring + up64 (length_of k) ≤ q.out) → (b ≡ false → slot + slot_of q ≤ q.out) →
        cond b ring slot + cond b (up64 (length_of k)) (slot_of q) ≤ q.out
    pick true ring slot h g = h refl
    pick false ring slot h g = g refl

start_by_prefix : (q : Sizes) (length_of others : ℕ → ℕ) (k : ℕ) → ((j : ℕ) → j ≤ k → length_of j ≡ others j) → start_of q length_of k ≡ start_of q others k
unfolding start_of
start_by_prefix q length_of others k same =
    ap (λ b. cond (is_byte_ring q) (data_area_start q + b) (offset_of q (FrameSlot (k % limit_of q)))) (ring_start_by_prefix (data_area_len q) length_of others k same)

apart_by_prefix : (q : Sizes) (length_of others : ℕ → ℕ) (number k count : ℕ) → k + count ≤ number → ((j : ℕ) → j ≤ number → length_of j ≡ others j) →
    is_apart_from q length_of number k count ≡ is_apart_from q others number k count
apart_by_prefix q length_of others number k zero within same = refl
apart_by_prefix q length_of others number k (suc count) within same =
    ap (λ b. are_apart b (footprint_of q (length_of k)) (start_of q length_of number) (footprint_of q (length_of number)) && is_apart_from q length_of number (k + 1) count)
    (start_by_prefix q length_of others k (λ j le. same j (omega arith))) ∙
    (ap (λ l. are_apart (start_of q others k) (footprint_of q l) (start_of q length_of number) (footprint_of q (length_of number)) && is_apart_from q length_of number (k + 1) count)
    (same k (omega arith)) ∙
    (ap (λ b. are_apart (start_of q others k) (footprint_of q (others k)) b (footprint_of q (length_of number)) && is_apart_from q length_of number (k + 1) count)
    (start_by_prefix q length_of others number same) ∙
    (ap (λ l. are_apart (start_of q others k) (footprint_of q (others k)) (start_of q others number) (footprint_of q l) && is_apart_from q length_of number (k + 1) count)
    (same number (omega arith)) ∙
    ap (λ b. are_apart (start_of q others k) (footprint_of q (others k)) (start_of q others number) (footprint_of q (others number)) && b)
    (apart_by_prefix q length_of others number (k + 1) count (omega arith) same))))

has_room_by_prefix : (q : Sizes) (length_of others : ℕ → ℕ) (freed number : ℕ) → ((j : ℕ) → j ≤ number → length_of j ≡ others j) →
    has_room q length_of freed number ≡ has_room q others freed number
unfolding has_room
has_room_by_prefix q length_of others freed number same = dite (dec_lt number freed)
    (λ less. let none : number - freed ≡ 0 = omega arith in
    ap (λ n. nat_lt number (freed + limit_of q) && (not (is_byte_ring q) || is_apart_from q length_of number freed n)) none ∙
    sym (ap (λ n. nat_lt number (freed + limit_of q) && (not (is_byte_ring q) || is_apart_from q others number freed n)) none))
    (λ more. ap (λ b. nat_lt number (freed + limit_of q) && (not (is_byte_ring q) || b)) (apart_by_prefix q length_of others number freed (number - freed) (omega arith) same))

false_is_true : (b : Bool) → false ≡ true → b ≡ true
false_is_true b h = grind arith

and_first : (a b : Bool) → (a && b) ≡ true → a ≡ true
and_first true b h = refl
and_first false b h = h

and_second : (a b : Bool) → (a && b) ≡ true → b ≡ true
and_second true b h = h
and_second false b h = false_is_true b h

less_of : (a b : ℕ) → nat_lt a b ≡ true → a < b
less_of a b h = grind (arith, nat_tests)

pub few : (q : Sizes) (length_of : ℕ → ℕ) (freed number : ℕ) → has_room q length_of freed number ≡ true → number < freed + limit_of q
unfolding has_room
few q length_of freed number room = less_of _ _ (and_first _ _ room)

pub apart_of : (a m b n : ℕ) → are_apart a m b n ≡ true → AreApart a m b n
apart_of a m b n h = dite (dec_lt b (a + m)) (λ lt. inr (grind (arith, nat_tests))) (λ ge. inl (omega arith))

pub are_apart_of : (a m b n : ℕ) → AreApart a m b n → are_apart a m b n ≡ true
are_apart_of a m b n (inl h) = grind (arith, nat_tests)
are_apart_of a m b n (inr h) = grind (arith, nat_tests)

-- The test covers each of the frames.
pub each_apart : (q : Sizes) (length_of : ℕ → ℕ) (number from count : ℕ) → is_apart_from q length_of number from count ≡ true → (k : ℕ) → from ≤ k → k < from + count →
    AreApart (start_of q length_of k) (footprint_of q (length_of k)) (start_of q length_of number) (footprint_of q (length_of number))
each_apart q length_of number from zero h k least most = absurd (omega arith)
each_apart q length_of number from (suc count) h k least most = dite (ℕ_discrete from k)
    (λ e. subst (λ j. AreApart (start_of q length_of j) (footprint_of q (length_of j)) (start_of q length_of number) (footprint_of q (length_of number))) e
    (apart_of _ _ _ _ (and_first _ _ h)))
    (λ ne. each_apart q length_of number (from + 1) count (and_second _ _ h) k (omega arith) (omega arith))

pub apart_each : (q : Sizes) (length_of : ℕ → ℕ) (number from count : ℕ) →
    ((k : ℕ) → from ≤ k → k < from + count → AreApart (start_of q length_of k) (footprint_of q (length_of k)) (start_of q length_of number) (footprint_of q (length_of number))) →
    is_apart_from q length_of number from count ≡ true
apart_each q length_of number from zero h = refl
apart_each q length_of number from (suc count) h =
    ap (λ b. b && is_apart_from q length_of number (from + 1) count) (are_apart_of _ _ _ _ (h from (omega arith) (omega arith))) ∙
    apart_each q length_of number (from + 1) count (λ k least most. h k (omega arith) (omega arith))

-- Two different numbers that are less than c apart have different slots.
pub mod_apart : (c k n : ℕ) → 0 < c → k < n → n < k + c → k % c ≢ n % c
mod_apart c k n some lt near same =
    let whole : k / c * c + k % c ≡ k = div-add-mod' k c in
    let whole_n : n / c * c + n % c ≡ n = div-add-mod' n c in
    dite (dec_lt (k / c) (n / c))
    (λ less. let up : c * (k / c + 1) ≤ c * (n / c) = mul-le-mul_left c (omega arith) in omega arith)
    (λ more. let down : c * (n / c) ≤ c * (k / c) = mul-le-mul_left c (omega arith) in omega arith)

-- Slots with different numbers share no byte.
slots_apart : (payload slot i j : ℕ) → i ≢ j → AreApart (payload + slot * i) slot (payload + slot * j) slot
slots_apart payload slot i j ne = dite (dec_lt i j)
    (λ lt. let h : slot * (i + 1) ≤ slot * j = mul-le-mul_left slot (omega arith) in inl (omega arith))
    (λ ge. let h : slot * (j + 1) ≤ slot * i = mul-le-mul_left slot (omega arith) in inr (omega arith))

in_slots : (q : Sizes) (length_of : ℕ → ℕ) (k number : ℕ) → is_byte_ring q ≡ false →
    AreApart (data_area_start q + slot_of q * (k % limit_of q)) (slot_of q) (data_area_start q + slot_of q * (number % limit_of q)) (slot_of q) →
    AreApart (start_of q length_of k) (footprint_of q (length_of k)) (start_of q length_of number) (footprint_of q (length_of number))
unfolding start_of footprint_of
in_slots q length_of k number none h = rw none h

apart : (q : Sizes) (length_of : ℕ → ℕ) (freed number k : ℕ) → IsQueue q → has_room q length_of freed number ≡ true → freed ≤ k → k < number →
    AreApart (start_of q length_of k) (footprint_of q (length_of k)) (start_of q length_of number) (footprint_of q (length_of number))
unfolding has_room
apart q length_of freed number k is room least below = pick (is_byte_ring q) refl
  where
    pick : (b : Bool) → is_byte_ring q ≡ b → AreApart (start_of q length_of k) (footprint_of q (length_of k)) (start_of q length_of number) (footprint_of q (length_of number))
    pick true ringed =
        let test : is_apart_from q length_of number freed (number - freed) ≡ true =
        subst (λ b. (not b || is_apart_from q length_of number freed (number - freed)) ≡ true) ringed (and_second _ _ room) in
        each_apart q length_of number freed (number - freed) test k least (omega arith)
    pick false none =
        let some = (bounds q is).limit_least in
        let near = few q length_of freed number room in
        in_slots q length_of k number none (slots_apart (data_area_start q) (slot_of q) (k % limit_of q) (number % limit_of q)
        (mod_apart (limit_of q) k number some below (omega arith)))

slots : (q : Sizes) (length_of : ℕ → ℕ) (freed number : ℕ) → is_byte_ring q ≡ false → has_room q length_of freed number ≡ nat_lt number (freed + limit_of q)
unfolding has_room
slots q length_of freed number none =
    ap (λ b. nat_lt number (freed + limit_of q) && (not b || is_apart_from q length_of number freed (number - freed))) none ∙ and_true (nat_lt number (freed + limit_of q))
  where
    and_true : (b : Bool) → (b && true) ≡ b
    and_true true = refl
    and_true false = refl

empty : (q : Sizes) (length_of : ℕ → ℕ) (number : ℕ) → IsQueue q → has_room q length_of number number ≡ true
unfolding has_room
empty q length_of number is =
    let least = (bounds q is).limit_least in
    let some : nat_lt number (number + limit_of q) ≡ true = grind (arith, nat_tests) in
    let none : number - number ≡ 0 = omega arith in
    ap (λ n. nat_lt number (number + limit_of q) && (not (is_byte_ring q) || is_apart_from q length_of number number n)) none ∙
    (ap (λ b. b && (not (is_byte_ring q) || true)) some ∙ or_true (not (is_byte_ring q)))
  where
    or_true : (b : Bool) → (b || true) ≡ true
    or_true true = refl
    or_true false = refl

pub frames_are_laid_out : FramesAreLaidOut
frames_are_laid_out = record { placed = placed; by_prefix = start_by_prefix; room_by_prefix = has_room_by_prefix; few = few; apart = apart; slots = slots; empty = empty }
