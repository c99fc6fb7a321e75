-- The slots of a sender and the stored lengths, when frames are placed and freed.
use Rattle.std.proofs.Common.{◌≡◌, ℕ, ◌+◌, ◌-◌, ◌*◌, ◌%◌, ◌<◌, ◌≤◌, true, List, length, slice_index, slice_set, set, arith, refl, ap, sym, ◌∙◌, subst, eq-eqb, ne_eqb}
use Rattle.std.specs.Prelude.{◌==◌, cond}
use mathlib.Core.Logic.{dite}
use native.Mathlib.Decide.{ℕ_discrete}
use Rattle.std.proofs.lemmas.Nat.{mod_below}
use Rattle.std.proofs.lemmas.List.{get_or-set_same, get_or-set_other}
use Rattle.split_ring.specs.declared.sizes.TheConstants.{FRAME_OVERHEAD, SHORTEST_FRAME}
use Rattle.split_ring.specs.Layout.{IsQueue, limit_of}
use Rattle.split_ring.specs.Frames.{start_of}
use Rattle.split_ring.proofs.QueueHasBounds.{bounds}
use Rattle.split_ring.proofs.FramesAreLaidOut.{frames_are_laid_out, mod_apart}
use Rattle.frame_slots.specs.declared.slots.Slot as slots
use Rattle.frame_slots.specs.Allocator.{Allocator, has_room_in, next_slot, with_placed, with_freed, oldest_of}
use Rattle.frame_slots.specs.Refinement.{RefinesSession, IsOldest}
use Rattle.frame_slots.proofs.AllocatorRefinesSession.{allocator_refines_session}
use Rattle.frame_slots.proofs.PlacedFramesFit.{few_of}
use Rattle.call_grammar.specs.Words.{words_for}
use Rattle.tx_engine.specs.Sender.{FlightRefinesSession, HasFlight}
use Rattle.tx_engine.proofs.ModularCounts.{fewer}

-- The lengths of frames from `sent` on make no difference.
pub flight_by_prefix : (t : Allocator) (lengths : List ℕ) (length_of others : ℕ → ℕ) (freed sent : ℕ) → ((j : ℕ) → j < sent → length_of j ≡ others j) → FlightRefinesSession t lengths length_of freed sent →
    FlightRefinesSession t lengths others freed sent
flight_by_prefix t lengths length_of others freed sent same h = record {
  refines = allocator_refines_session.by_prefix t length_of others freed sent same h.refines;
  kept = λ k from below. h.kept k from below ∙ same k below;
}

-- A frame is placed, and its length is stored.
pub placed_flight : (t : Allocator) (lengths : List ℕ) (length_of : ℕ → ℕ) (freed sent bytes : ℕ) → IsQueue t.sizes → length lengths ≡ limit_of t.sizes → FlightRefinesSession t lengths length_of freed sent →
    length_of sent ≡ bytes → SHORTEST_FRAME ≤ bytes → bytes ≤ t.sizes.mtu + FRAME_OVERHEAD → has_room_in t bytes ≡ true → FlightRefinesSession (with_placed t bytes) (slice_set lengths t.next bytes) length_of freed (sent + 1)
placed_flight t lengths length_of freed sent bytes queue sized h is least most room = record {
  refines = subst (λ n. RefinesSession (with_placed t n) length_of freed (sent + 1)) is
      (allocator_refines_session.goes_on t length_of freed sent queue h.refines (omega (arith, is, least)) (omega (arith, is, most)) (subst (λ n. has_room_in t n ≡ true) (sym is) room));
  kept = λ k from below. dite (ℕ_discrete k sent)
      (λ e. ap (λ j. slice_index (set lengths t.next bytes) (j % limit_of t.sizes)) e ∙
      (ap (slice_index (set lengths t.next bytes)) (sym h.refines.next) ∙ (get_or-set_same lengths t.next bytes 0 next_below ∙ (sym is ∙ ap length_of (sym e)))))
      (λ ne. get_or-set_other lengths t.next (k % limit_of t.sizes) bytes 0 (λ same. mod_apart (limit_of t.sizes) k sent some (omega arith) (near k from) (same ∙ h.refines.next)) ∙
      h.kept k from (omega arith));
}
  where
    some : 0 < limit_of t.sizes
    some = (bounds t.sizes queue).limit_least

    next_below : t.next < length lengths
    next_below = let b = mod_below sent (limit_of t.sizes) some in let n = h.refines.next in omega (arith, b, n, sized)

    near : (k : ℕ) → freed ≤ k → sent < k + limit_of t.sizes
    near k from = let few = few_of t bytes room in let all = h.refines.in_flight in omega (arith, few, all, from)

-- The oldest frame is freed.
pub freed_flight : (t : Allocator) (lengths : List ℕ) (length_of : ℕ → ℕ) (freed sent bytes : ℕ) → FlightRefinesSession t lengths length_of freed sent → freed < sent → length_of freed ≡ bytes →
    FlightRefinesSession (with_freed t bytes) lengths length_of (freed + 1) sent
freed_flight t lengths length_of freed sent bytes h some is = record {
  refines = subst (λ n. RefinesSession (with_freed t n) length_of (freed + 1) sent) is (allocator_refines_session.frees t length_of freed sent h.refines some);
  kept = λ k from below. h.kept k (omega arith) below;
}

-- The descriptor of the oldest frame, and its length.
pub oldest_of_flight : (t : Allocator) (length_of : ℕ → ℕ) (freed sent : ℕ) → RefinesSession t length_of freed sent → oldest_of t ≡ freed % limit_of t.sizes
oldest_of_flight t length_of freed sent h =
    let all = h.in_flight in let most = h.most in
    let left : sent - t.in_flight ≡ freed = omega arith in
    ap (λ n. (n + limit_of t.sizes - t.in_flight) % limit_of t.sizes) h.next ∙ (fewer sent (limit_of t.sizes) t.in_flight (omega arith) most ∙ ap (λ n. n % limit_of t.sizes) left)

pub oldest_kept : (t : Allocator) (lengths : List ℕ) (length_of : ℕ → ℕ) (freed sent : ℕ) → FlightRefinesSession t lengths length_of freed sent → freed < sent → slice_index lengths (oldest_of t) ≡ length_of freed
oldest_kept t lengths length_of freed sent h some = ap (slice_index lengths) (oldest_of_flight t length_of freed sent h.refines) ∙ h.kept freed (omega arith) some

pub oldest_is_kept : (t : Allocator) (lengths : List ℕ) → HasFlight t lengths → 0 < t.in_flight → IsOldest t (slice_index lengths (oldest_of t))
oldest_is_kept t lengths (length_of, freed, sent, h) some =
    let all = h.refines.in_flight in
    (length_of, freed, sent, h.refines, omega (arith, all, some), sym (oldest_kept t lengths length_of freed sent h (omega (arith, all, some))))

pub flight_freed : (t : Allocator) (lengths : List ℕ) → HasFlight t lengths → 0 < t.in_flight → HasFlight (with_freed t (slice_index lengths (oldest_of t))) lengths
flight_freed t lengths (length_of, freed, sent, h) some =
    let all = h.refines.in_flight in
    let lt : freed < sent = omega (arith, all, some) in
    (length_of, freed + 1, sent, freed_flight t lengths length_of freed sent _ h lt (sym (oldest_kept t lengths length_of freed sent h lt)))

-- A session whose next frame has `bytes` bytes.
abbrev with_next : (length_of : ℕ → ℕ) (sent bytes : ℕ) → ℕ → ℕ
with_next length_of sent bytes k = cond (k == sent) bytes (length_of k)

next_is : (length_of : ℕ → ℕ) (sent bytes : ℕ) → with_next length_of sent bytes sent ≡ bytes
next_is length_of sent bytes = ap (λ b. cond b bytes (length_of sent)) (eq-eqb sent sent refl)

before_is : (length_of : ℕ → ℕ) (sent bytes k : ℕ) → k < sent → length_of k ≡ with_next length_of sent bytes k
before_is length_of sent bytes k lt = sym (ap (λ b. cond b bytes (length_of k)) (ne_eqb k sent (λ e. omega arith)))

pub flight_placed : (t : Allocator) (lengths : List ℕ) (bytes : ℕ) → IsQueue t.sizes → length lengths ≡ limit_of t.sizes → HasFlight t lengths → SHORTEST_FRAME ≤ bytes → bytes ≤ t.sizes.mtu + FRAME_OVERHEAD → has_room_in t bytes ≡ true →
    HasFlight (with_placed t bytes) (slice_set lengths t.next bytes)
flight_placed t lengths bytes queue sized (length_of, freed, sent, h) least most room = (
  with_next length_of sent bytes,
  freed,
  sent + 1,
  placed_flight t lengths (with_next length_of sent bytes) freed sent bytes queue sized
      (flight_by_prefix t lengths length_of (with_next length_of sent bytes) freed sent (λ j lt. before_is length_of sent bytes j lt) h) (next_is length_of sent bytes) least most room,
)

-- The words of a placed frame are inside the section.
pub slot_holds : (t : Allocator) (lengths : List ℕ) (bytes : ℕ) → IsQueue t.sizes → HasFlight t lengths → SHORTEST_FRAME ≤ bytes → bytes ≤ t.sizes.mtu + FRAME_OVERHEAD → has_room_in t bytes ≡ true →
    ((next_slot t bytes).address % 4 ≡ 0) × ((next_slot t bytes).address + 4 * words_for bytes ≤ t.sizes.out)
slot_holds t lengths bytes queue (length_of, freed, sent, h) least most room =
    let now = with_next length_of sent bytes in
    let is = next_is length_of sent bytes in
    let place_after_index = flight_by_prefix t lengths length_of now freed sent (λ j lt. before_is length_of sent bytes j lt) h in
    let place = allocator_refines_session.places t now freed sent queue place_after_index.refines (omega (arith, is, least)) (omega (arith, is, most)) (subst (λ n. has_room_in t n ≡ true) (sym is) room) in
    let address : (next_slot t bytes).address ≡ start_of t.sizes now sent = ap (λ n. (next_slot t n).address) (sym is) ∙ ap (λ (s : slots.Slot). s.address) place in
    let placed = frames_are_laid_out.placed t.sizes now sent queue in
    let even = placed.even in
    let holds = placed.holds (omega (arith, is, most)) in
    let inside = placed.inside (omega (arith, is, most)) in
    (omega (arith, address, even), omega (arith, address, holds, inside, is))
