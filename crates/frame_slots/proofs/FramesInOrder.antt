-- Frames that the tests place and free in order.
use Rattle.std.proofs.Common.{◌≡◌, ◌≢◌, ℕ, ◌+◌, ◌<◌, ◌≤◌, ◌==◌, true, cond, sym, ap, ◌∙◌, subst, arith, ne_eqb}
use Rattle.split_ring.specs.Layout.{Sizes, IsQueue}
use Rattle.frame_slots.specs.Allocator.{Allocator, initial_allocator, has_room_in, with_placed, with_freed}
use Rattle.frame_slots.specs.Refinement.{RefinesSession, IsOldest}
use Rattle.frame_slots.proofs.AllocatorRefinesSession.{allocator_refines_session}

-- A session in which frame 45 has 14 bytes, and every other frame 274.
pub lengths : ℕ → ℕ
lengths k = cond (k == 45) 14 274

pub long_is : (k : ℕ) → k ≢ 45 → 274 ≡ lengths k
unfolding lengths
long_is k ne = sym (ap (λ b. cond b 14 274) (ne_eqb k 45 ne))

pub short_is : (k : ℕ) → k ≡ 45 → 14 ≡ lengths k
unfolding lengths
short_is k e = sym (ap (λ n. cond (n == 45) 14 274) e)

-- The allocator refines these frames of the session, in a queue with this MTU.
pub record IsFlight (t : Allocator) (mtu : ℕ) (length_of : ℕ → ℕ) (freed sent : ℕ) : Type 0 where
  pub queue : IsQueue t.sizes
  pub mtu_is : t.sizes.mtu ≡ mtu
  pub refines : RefinesSession t length_of freed sent

pub begun : (q : Sizes) (t : Allocator) (mtu : ℕ) (length_of : ℕ → ℕ) → IsQueue q → q.mtu ≡ mtu → t ≡ initial_allocator q → IsFlight t mtu length_of 0 0
begun q t mtu length_of is mtu_is t_is = subst (λ u. IsFlight u mtu length_of 0 0) (sym t_is) (record { queue = is; mtu_is = mtu_is; refines = allocator_refines_session.starts q length_of })

-- A frame is placed.
pub placed_on : (t new : Allocator) (mtu : ℕ) (length_of : ℕ → ℕ) (freed sent bytes : ℕ) → bytes ≡ length_of sent → 14 ≤ bytes → bytes ≤ mtu + 18 → IsFlight t mtu length_of freed sent →
    has_room_in t bytes ≡ true → new ≡ with_placed t bytes → IsFlight new mtu length_of freed (sent + 1)
placed_on t new mtu length_of freed sent bytes is least most h room new_is =
    let fits : length_of sent ≤ t.sizes.mtu + 18 = let m = h.mtu_is in omega arith in
    let refines = allocator_refines_session.goes_on t length_of freed sent h.queue h.refines (omega arith) fits (subst (λ n. has_room_in t n ≡ true) is room) in
    subst (λ u. IsFlight u mtu length_of freed (sent + 1)) (sym (new_is ∙ ap (with_placed t) is)) (record { queue = h.queue; mtu_is = h.mtu_is; refines = refines })

-- The oldest frame is freed.
pub freed_on : (t new : Allocator) (mtu : ℕ) (length_of : ℕ → ℕ) (freed sent bytes : ℕ) → bytes ≡ length_of freed → freed < sent → IsFlight t mtu length_of freed sent → new ≡ with_freed t bytes →
    IsFlight new mtu length_of (freed + 1) sent
freed_on t new mtu length_of freed sent bytes is some h new_is =
    subst (λ u. IsFlight u mtu length_of (freed + 1) sent) (sym (new_is ∙ ap (with_freed t) is))
    (record { queue = h.queue; mtu_is = h.mtu_is; refines = allocator_refines_session.frees t length_of freed sent h.refines some })

pub oldest_is : (t : Allocator) (mtu : ℕ) (length_of : ℕ → ℕ) (freed sent bytes : ℕ) → bytes ≡ length_of freed → freed < sent → IsFlight t mtu length_of freed sent → IsOldest t bytes
oldest_is t mtu length_of freed sent bytes is some h = (length_of, freed, sent, h.refines, some, sym is)

-- A frame that doesn't fit changes nothing.
pub same_on : (t new : Allocator) (mtu : ℕ) (length_of : ℕ → ℕ) (freed sent : ℕ) → IsFlight t mtu length_of freed sent → new ≡ t → IsFlight new mtu length_of freed sent
same_on t new mtu length_of freed sent h new_is = subst (λ u. IsFlight u mtu length_of freed sent) (sym new_is) h
