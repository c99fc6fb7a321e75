-- The allocator's numbers refine the frames of a session.
use Rattle.std.proofs.Common.{◌≡◌, ◌≢◌, ℕ, zero, suc, ◌+◌, ◌-◌, ◌%◌, ◌<◌, ◌≤◌, ◌⊎◌, inl, inr, ⊎_elim, Bool, true, false, cond, refl, sym, ap, ◌∙◌, subst, arith, eq-eqb, ne_eqb}
use mathlib.Core.Logic.{dite}
use native.Mathlib.Decide.{ℕ_discrete, dec_lt}
use Rattle.std.specs.Prelude.{◌==◌, nat_lt, nat_le, ◌&&◌, ◌||◌, not}
use Rattle.std.proofs.lemmas.Bool.Decides.{nat_tests}
use Rattle.std.proofs.Math.Nat.{mod-add-mod}
use Rattle.ivs_base.specs.Numbers.{up64}
use Rattle.split_ring.specs.Layout.{Sizes, IsQueue, FrameSlot, is_byte_ring, data_area_len, slot_of, limit_of, data_area_start, offset_of}
use Rattle.split_ring.specs.Frames.{footprint_of, start_after, ring_start, start_of, AreApart, is_apart_from, has_room}
use Rattle.split_ring.proofs.FramesAreLaidOut.{after_is, ring_inside, ring_start_by_prefix, few, apart_each, frames_are_laid_out}
use Rattle.frame_slots.specs.declared.slots.Slot as slots
use Rattle.frame_slots.specs.Allocator.{Allocator, initial_allocator, ring_bytes, bytes_are_free, has_room_in, next_start, next_slot, with_placed, second_start, with_freed}
use Rattle.frame_slots.specs.Refinement.{ring_end, AreContiguous, WrapsOnce, RingRefinesSession, RefinesSession, AllocatorRefinesSession}
use Rattle.frame_slots.proofs.PlacedFramesFit.{ring_fits, few_of}

-- A frame starts after the end of the frame before it, or at 0.
start_is : (room : ℕ) (length_of : ℕ → ℕ) (k : ℕ) → ring_start room length_of k ≡ start_after room (ring_end room length_of k) (up64 (length_of k))
unfolding ring_start ring_end
start_is room length_of zero = sym (after_is (λ b. b ≡ 0) room 0 (up64 (length_of zero)) (λ _. refl) (λ _. refl))
start_is room length_of (suc k) = refl

end_is : (room : ℕ) (length_of : ℕ → ℕ) (k : ℕ) → ring_end room length_of (k + 1) ≡ ring_start room length_of k + up64 (length_of k)
unfolding ring_end
end_is room length_of k = let e : k + 1 ≡ suc k = omega arith in ap (ring_end room length_of) e

-- The two cases of a frame's start.
starts : (room : ℕ) (length_of : ℕ → ℕ) (k : ℕ) →
    ((ring_end room length_of k + up64 (length_of k) ≤ room) × (ring_start room length_of k ≡ ring_end room length_of k)) ⊎
    ((room < ring_end room length_of k + up64 (length_of k)) × (ring_start room length_of k ≡ 0))
starts room length_of k = dite (dec_lt room (ring_end room length_of k + up64 (length_of k)))
    (λ lt. inr (lt, start_is room length_of k ∙ after_is (λ b. b ≡ 0) room (ring_end room length_of k) (up64 (length_of k)) (λ le. absurd (omega arith)) (λ _. refl)))
    (λ ge. inl (
      omega arith,
      start_is room length_of k ∙
          after_is (λ b. b ≡ ring_end room length_of k) room (ring_end room length_of k) (up64 (length_of k)) (λ _. refl) (λ lt. absurd (omega arith)),
    ))

-- Contiguous frames are between the first start and the last end.
climbs : (room : ℕ) (length_of : ℕ → ℕ) (m n k : ℕ) → AreContiguous room length_of m n → m ≤ k → k < n →
    (ring_start room length_of m ≤ ring_start room length_of k) × (ring_start room length_of k + up64 (length_of k) ≤ ring_end room length_of n)
unfolding ring_end
climbs room length_of m zero k straight from below = absurd (omega arith)
climbs room length_of m (suc n) k straight from below = dite (ℕ_discrete k n)
    (λ e. dite (ℕ_discrete m n)
    (λ f. let same : m ≡ k = omega arith in (
      subst (λ j. ring_start room length_of m ≤ ring_start room length_of j) same (omega arith),
      subst (λ j. ring_start room length_of j + up64 (length_of j) ≤ ring_start room length_of n + up64 (length_of n)) (sym e) (omega arith),
    ))
    (λ f. let here = straight n (omega arith) (omega arith) in
    let before = climbs room length_of m n m (λ j a b. straight j a (omega arith)) (omega arith) (omega arith) in let up = before.1 in (
      subst (λ j. ring_start room length_of m ≤ ring_start room length_of j) (sym e) (omega arith),
      subst (λ j. ring_start room length_of j + up64 (length_of j) ≤ ring_start room length_of n + up64 (length_of n)) (sym e) (omega arith),
    )))
    (λ ne. let before = climbs room length_of m n k (λ j a b. straight j a (omega arith)) from (omega arith) in
    let low = before.0 in let up = before.1 in let here = straight n (omega arith) (omega arith) in (low, omega arith))

-- The meaning of the test for a byte ring.
abbrev SaysRoom : (room count head tail bytes : ℕ) → Type 0
SaysRoom room count head tail bytes =
    (count ≡ 0) ⊎ (((tail ≤ head) × (tail + bytes ≤ head)) ⊎ ((head < tail) × ((tail + bytes ≤ room) ⊎ (bytes ≤ head))))

abbrev has_bytes : (room count head tail bytes : ℕ) → Bool
has_bytes room count head tail bytes = count == 0 || bytes_are_free room head tail bytes

test_of : (room count head tail bytes : ℕ) → SaysRoom room count head tail bytes → has_bytes room count head tail bytes ≡ true
test_of room count head tail bytes (inl none) = grind (arith, nat_tests)
test_of room count head tail bytes (inr (inl passed)) = let a = passed.0 in let b = passed.1 in grind (arith, nat_tests)
test_of room count head tail bytes (inr (inr (over, inl after))) = grind (arith, nat_tests)
test_of room count head tail bytes (inr (inr (over, inr below))) = grind (arith, nat_tests)

says_of : (room count head tail bytes : ℕ) → has_bytes room count head tail bytes ≡ true → SaysRoom room count head tail bytes
says_of room count head tail bytes h = dite (ℕ_discrete count 0) inl (λ ne. inr (dite (dec_lt head tail)
    (λ lt. inr (lt, dite (dec_lt room (tail + bytes)) (λ over. inr (grind (arith, nat_tests))) (λ le. inl (omega arith))))
    (λ ge. inl (omega arith, grind (arith, nat_tests)))))

-- The bytes of the next frame are apart from all frames in flight.
abbrev NextFree : (room : ℕ) (length_of : ℕ → ℕ) (freed sent : ℕ) → Type 0
NextFree room length_of freed sent =
    (k : ℕ) → freed ≤ k → k < sent → AreApart (ring_start room length_of k) (up64 (length_of k)) (ring_start room length_of sent) (up64 (length_of sent))

-- If the frames in flight haven't wrapped, the first of them starts below the tail.
straight_below : (t : Allocator) (room : ℕ) (length_of : ℕ → ℕ) (freed sent : ℕ) → RingRefinesSession t room length_of freed sent → AreContiguous room length_of freed sent → freed < sent →
    t.head < t.tail
straight_below t room length_of freed sent h straight lt =
    let c = climbs room length_of freed sent freed straight (omega arith) lt in let up = c.1 in
    let head = h.head lt in let tail = h.tail in let some = h.some freed (omega arith) lt in omega arith

free_of : (t : Allocator) (room : ℕ) (length_of : ℕ → ℕ) (freed sent : ℕ) → freed ≤ sent → RingRefinesSession t room length_of freed sent →
    SaysRoom room (sent - freed) t.head t.tail (up64 (length_of sent)) → NextFree room length_of freed sent
free_of t room length_of freed sent order h says = by_run h.run
  where
    tail : t.tail ≡ ring_end room length_of sent
    tail = h.tail

    straight_free : AreContiguous room length_of freed sent → NextFree room length_of freed sent
    straight_free straight k from below =
        let c = climbs room length_of freed sent k straight from below in let low = c.0 in let up = c.1 in
        let head = h.head (omega arith) in let above = straight_below t room length_of freed sent h straight (omega arith) in
        ⊎_elim
        (λ x. let start = x.1 in inl (omega arith))
        (λ x. let over = x.0 in let start = x.1 in ⊎_elim
        (λ none. absurd (omega arith))
        (λ y. ⊎_elim (λ z. absurd (let a = z.0 in omega arith)) (λ z. ⊎_elim (λ fits. absurd (omega arith)) (λ under. inr (omega arith)) z.1) y)
        says)
        (starts room length_of sent)

    passed_free : WrapsOnce room length_of freed sent t → NextFree room length_of freed sent
    passed_free r k from below =
        let after = r.after in let before = r.below in let under = r.before in let head = h.head (omega arith) in
        let fits = h.fits freed (omega arith) (omega arith) in
        let first = climbs room length_of freed r.wrap freed r.first (omega arith) after in
        let ends : t.tail + up64 (length_of sent) ≤ t.head = ⊎_elim (λ none. absurd (omega arith)) (λ y. ⊎_elim (λ z. z.1) (λ z. absurd (let a = z.0 in omega arith)) y) says in
        let start : ring_start room length_of sent ≡ t.tail = ⊎_elim
        (λ x. x.1 ∙ sym tail)
        (λ x. absurd (let over = x.0 in let in_area = ring_inside room length_of freed fits in omega arith))
        (starts room length_of sent) in
        dite (dec_lt k r.wrap)
        (λ lt. let c = climbs room length_of freed r.wrap k r.first from lt in let low = c.0 in inr (omega arith))
        (λ ge. let c = climbs room length_of r.wrap sent k r.then (omega arith) below in let up = c.1 in inl (omega arith))

    by_run : AreContiguous room length_of freed sent ⊎ WrapsOnce room length_of freed sent t → NextFree room length_of freed sent
    by_run (inl straight) = straight_free straight
    by_run (inr r) = passed_free r

-- If the bytes are free, the test is true.
needs_test : (t : Allocator) (room : ℕ) (length_of : ℕ → ℕ) (freed sent : ℕ) → freed ≤ sent → RingRefinesSession t room length_of freed sent → 1 ≤ length_of sent →
    NextFree room length_of freed sent → SaysRoom room (sent - freed) t.head t.tail (up64 (length_of sent))
needs_test t room length_of freed sent order h some free = dite (ℕ_discrete freed sent) (λ e. inl (omega arith)) (λ ne. inr (by_run (omega arith) h.run))
  where
    tail : t.tail ≡ ring_end room length_of sent
    tail = h.tail

    by_run : freed < sent → AreContiguous room length_of freed sent ⊎ WrapsOnce room length_of freed sent t →
        ((t.tail ≤ t.head) × (t.tail + up64 (length_of sent) ≤ t.head)) ⊎ ((t.head < t.tail) × ((t.tail + up64 (length_of sent) ≤ room) ⊎ (up64 (length_of sent) ≤ t.head)))
    by_run lt (inl straight) =
        let above = straight_below t room length_of freed sent h straight lt in let head = h.head lt in let one = h.some freed (omega arith) lt in
        inr (
          above,
          ⊎_elim
              (λ x. let fits = x.0 in inl (omega arith))
              (λ x. let start = x.1 in ⊎_elim (λ y. absurd (omega arith)) (λ y. inr (omega arith)) (free freed (omega arith) lt))
              (starts room length_of sent),
        )
    by_run lt (inr r) =
        let under = r.before in let head = h.head lt in let one = h.some freed (omega arith) lt in let after = r.after in let before = r.below in
        inl (
          under,
          ⊎_elim
              (λ x. let start = x.1 in ⊎_elim (λ y. absurd (omega arith)) (λ y. omega arith) (free freed (omega arith) lt))
              (λ x. let start = x.1 in let other = h.some r.wrap (omega arith) before in let at_zero = r.at_zero in
              ⊎_elim (λ y. absurd (omega arith)) (λ y. absurd (omega arith)) (free r.wrap (omega arith) before))
              (starts room length_of sent),
        )

-- Contiguous frames with one frame more.
straight_more : (room : ℕ) (length_of : ℕ → ℕ) (m n : ℕ) → AreContiguous room length_of m n → (m < n → ring_start room length_of n ≡ ring_end room length_of n) →
    AreContiguous room length_of m (n + 1)
straight_more room length_of m n straight last k from below = dite (ℕ_discrete k n)
    (λ e. subst (λ j. ring_start room length_of j ≡ ring_end room length_of j) (sym e) (last (omega arith)))
    (λ ne. straight k from (omega arith))

zero_count : (count a b : ℕ) → count ≡ 0 → cond (count == 0) a b ≡ a
zero_count count a b e = ap (λ x. cond x a b) (eq-eqb count 0 e)

some_count : (count a b : ℕ) → count ≢ 0 → cond (count == 0) a b ≡ b
some_count count a b ne = ap (λ x. cond x a b) (ne_eqb count 0 ne)

fits_test : (a b : ℕ) → a ≤ b → nat_le a b ≡ true
fits_test a b h = grind (arith, nat_tests)

over_test : (a b : ℕ) → b < a → nat_le a b ≡ false
over_test a b h = grind (arith, nat_tests)

-- A frame is placed in a byte ring.
ring_places : (t n : Allocator) (room : ℕ) (length_of : ℕ → ℕ) (freed sent bytes : ℕ) → bytes ≡ up64 (length_of sent) → freed ≤ sent → RingRefinesSession t room length_of freed sent →
    1 ≤ length_of sent → bytes ≤ room → SaysRoom room (sent - freed) t.head t.tail bytes →
    n.head ≡ cond (sent - freed == 0) (start_after room t.tail bytes) t.head → n.tail ≡ start_after room t.tail bytes + bytes →
    n.left ≡ cond (nat_le (t.tail + bytes) room) t.left t.tail → RingRefinesSession n room length_of freed (sent + 1)
ring_places t n room length_of freed sent bytes bytes_is order h some fits says head_is tail_is left_is = record {
  some = λ k from below. dite (ℕ_discrete k sent) (λ e. subst (λ j. 1 ≤ length_of j) (sym e) some) (λ ne. h.some k from (omega arith));
  fits = λ k from below. dite (ℕ_discrete k sent) (λ e. subst (λ j. up64 (length_of j) ≤ room) (sym e) (omega arith)) (λ ne. h.fits k from (omega arith));
  tail = tail_new;
  head = λ _. head;
  run = run h.run;
}
  where
    tail : t.tail ≡ ring_end room length_of sent
    tail = h.tail

    start : ring_start room length_of sent ≡ start_after room t.tail bytes
    start = start_is room length_of sent ∙ (ap (λ a. start_after room a (up64 (length_of sent))) (sym tail) ∙ ap (start_after room t.tail) (sym bytes_is))

    tail_new : n.tail ≡ ring_end room length_of (sent + 1)
    tail_new = tail_is ∙ (ap (λ a. a + bytes) (sym start) ∙ (ap (λ b. ring_start room length_of sent + b) bytes_is ∙ sym (end_is room length_of sent)))

    head : n.head ≡ ring_start room length_of freed
    head = head_is ∙ dite (ℕ_discrete freed sent)
        (λ e. zero_count (sent - freed) _ _ (omega arith) ∙ (sym start ∙ ap (ring_start room length_of) (sym e)))
        (λ ne. some_count (sent - freed) _ _ (λ none. omega arith) ∙ h.head (omega arith))

    left_kept : t.tail + bytes ≤ room → n.left ≡ t.left
    left_kept le = left_is ∙ ap (λ x. cond x t.left t.tail) (fits_test (t.tail + bytes) room le)

    left_new : room < t.tail + bytes → n.left ≡ t.tail
    left_new lt = left_is ∙ ap (λ x. cond x t.left t.tail) (over_test (t.tail + bytes) room lt)

    run : AreContiguous room length_of freed sent ⊎ WrapsOnce room length_of freed sent t → AreContiguous room length_of freed (sent + 1) ⊎ WrapsOnce room length_of freed (sent + 1) n
    run (inl straight) = dite (ℕ_discrete freed sent)
        (λ e. inl (straight_more room length_of freed sent straight (λ lt. absurd (omega arith))))
        (λ ne. ⊎_elim
        (λ x. inl (straight_more room length_of freed sent straight (λ _. x.1)))
        (λ x. let lt : freed < sent = omega arith in let above = straight_below t room length_of freed sent h straight lt in
        let over = x.0 in let none = x.1 in let old = h.head lt in
        let under : bytes ≤ t.head = ⊎_elim (λ none. absurd (omega arith)) (λ y. ⊎_elim (λ z. absurd (let a = z.0 in omega arith)) (λ z. ⊎_elim (λ w. absurd (omega arith)) (λ w. w) z.1) y) says in
        inr record {
          wrap = sent;
          after = lt;
          below = omega arith;
          first = straight;
          then = λ k a b. absurd (omega arith);
          at_zero = none;
          left = left_new (omega arith) ∙ tail;
          before = let s = start in let h2 = head in let t2 = tail_is in omega arith;
        })
        (starts room length_of sent))
    run (inr r) =
        let after = r.after in let before = r.below in let lt : freed < sent = omega arith in let under = r.before in let old = h.head lt in
        let ends : t.tail + bytes ≤ t.head = ⊎_elim (λ none. absurd (omega arith)) (λ y. ⊎_elim (λ z. z.1) (λ z. absurd (let a = z.0 in omega arith)) y) says in
        let in_area = ring_inside room length_of freed (h.fits freed (omega arith) lt) in
        let here : ring_start room length_of sent ≡ ring_end room length_of sent = ⊎_elim (λ x. x.1) (λ x. absurd (let over = x.0 in omega arith)) (starts room length_of sent) in
        inr record {
          wrap = r.wrap;
          after = after;
          below = omega arith;
          first = r.first;
          then = straight_more room length_of r.wrap sent r.then (λ _. here);
          at_zero = r.at_zero;
          left = left_kept (omega arith) ∙ r.left;
          before = let s = start in let h2 = head in let t2 = tail_is in omega arith;
        }

both_false : (a b c d : ℕ) → (a < b) ⊎ (c ≢ d) → (nat_le b a && (c == d)) ≡ false
both_false a b c d (inl lt) = grind (arith, nat_tests)
both_false a b c d (inr ne) = dite (dec_lt a b) (λ lt. grind (arith, nat_tests)) (λ ge. grind (arith, nat_tests))

both_true : (a b c d : ℕ) → b ≤ a → c ≡ d → (nat_le b a && (c == d)) ≡ true
both_true a b c d le e = grind (arith, nat_tests)

-- The oldest frame is freed in a byte ring.
ring_frees : (t n : Allocator) (room : ℕ) (length_of : ℕ → ℕ) (freed sent bytes : ℕ) → bytes ≡ up64 (length_of freed) → RingRefinesSession t room length_of freed sent → freed < sent →
    n.head ≡ second_start t bytes → n.tail ≡ t.tail → n.left ≡ t.left → RingRefinesSession n room length_of (freed + 1) sent
ring_frees t n room length_of freed sent bytes bytes_is h lt head_is tail_is left_is = by_run h.run
  where
    old : t.head ≡ ring_start room length_of freed
    old = h.head lt

    onward : t.head + bytes ≡ ring_end room length_of (freed + 1)
    onward = let e = end_is room length_of freed in let o = old in omega arith

    rest : (freed + 1 < sent → n.head ≡ ring_start room length_of (freed + 1)) → AreContiguous room length_of (freed + 1) sent ⊎ WrapsOnce room length_of (freed + 1) sent n →
        RingRefinesSession n room length_of (freed + 1) sent
    rest is run = record {
      some = λ k from below. h.some k (omega arith) below;
      fits = λ k from below. h.fits k (omega arith) below;
      tail = tail_is ∙ h.tail;
      head = is;
      run = run;
    }

    goes : Bool → ℕ
    goes passes = cond passes 0 (t.head + bytes)

    by_run : AreContiguous room length_of freed sent ⊎ WrapsOnce room length_of freed sent t → RingRefinesSession n room length_of (freed + 1) sent
    by_run (inl straight) =
        let now : n.head ≡ t.head + bytes = head_is ∙ ap goes (both_false t.head t.tail (t.head + bytes) t.left (inl (straight_below t room length_of freed sent h straight lt))) in
        rest (λ more. now ∙ (onward ∙ sym (straight (freed + 1) (omega arith) more))) (inl (λ k from below. straight k (omega arith) below))
    by_run (inr r) = let after = r.after in let under = r.before in let left = r.left in dite (ℕ_discrete (freed + 1) r.wrap)
        (λ e. let now : n.head ≡ 0 = head_is ∙ ap goes (both_true t.head t.tail (t.head + bytes) t.left under (onward ∙ (ap (ring_end room length_of) e ∙ sym left))) in
        rest (λ more. now ∙ sym (ap (ring_start room length_of) e ∙ r.at_zero)) (inl (λ k from below. r.then k (omega arith) below)))
        (λ ne. let next : ring_start room length_of (freed + 1) ≡ ring_end room length_of (freed + 1) = r.first (freed + 1) (omega arith) (omega arith) in
        let c = climbs room length_of freed r.wrap (freed + 1) r.first (omega arith) (omega arith) in let up = c.1 in
        let before = r.below in let some = h.some (freed + 1) (omega arith) (omega arith) in
        let on : t.head + bytes ≡ ring_end room length_of (freed + 1) = onward in
        let now : n.head ≡ t.head + bytes = head_is ∙ ap goes (both_false t.head t.tail (t.head + bytes) t.left (inr (λ same. omega arith))) in
        rest (λ more. now ∙ (onward ∙ sym next)) (inr record {
          wrap = r.wrap;
          after = omega arith;
          below = r.below;
          first = λ k from below. r.first k (omega arith) below;
          then = r.then;
          at_zero = r.at_zero;
          left = left_is ∙ r.left;
          before = omega arith;
        }))

ring_end_by_prefix : (room : ℕ) (length_of others : ℕ → ℕ) (k : ℕ) → ((j : ℕ) → j < k → length_of j ≡ others j) → ring_end room length_of k ≡ ring_end room others k
unfolding ring_end
ring_end_by_prefix room length_of others zero same = refl
ring_end_by_prefix room length_of others (suc k) same =
    let start = ring_start_by_prefix room length_of others k (λ j le. same j (omega arith)) in
    ap (λ a. a + up64 (length_of k)) start ∙ ap (λ l. ring_start room others k + up64 l) (same k (omega arith))

-- The lengths of frames from `sent` on make no difference.
ring_by_prefix : (t : Allocator) (room : ℕ) (length_of others : ℕ → ℕ) (freed sent : ℕ) → ((j : ℕ) → j < sent → length_of j ≡ others j) →
    RingRefinesSession t room length_of freed sent → RingRefinesSession t room others freed sent
ring_by_prefix t room length_of others freed sent same h = record {
  some = λ k from below. subst (λ l. 1 ≤ l) (same k below) (h.some k from below);
  fits = λ k from below. subst (λ l. up64 l ≤ room) (same k below) (h.fits k from below);
  tail = h.tail ∙ ends sent (omega arith);
  head = λ lt. h.head lt ∙ start freed lt;
  run = ⊎_elim
      (λ straight. inl (goes freed sent (omega arith) straight))
      (λ r. let before = r.below in inr record {
        wrap = r.wrap;
        after = r.after;
        below = r.below;
        first = goes freed r.wrap (omega arith) r.first;
        then = goes r.wrap sent (omega arith) r.then;
        at_zero = sym (start r.wrap before) ∙ r.at_zero;
        left = r.left ∙ ends r.wrap (omega arith);
        before = r.before;
      })
      h.run;
}
  where
    start : (k : ℕ) → k < sent → ring_start room length_of k ≡ ring_start room others k
    start k lt = ring_start_by_prefix room length_of others k (λ j le. same j (omega arith))

    ends : (k : ℕ) → k ≤ sent → ring_end room length_of k ≡ ring_end room others k
    ends k le = ring_end_by_prefix room length_of others k (λ j lt. same j (omega arith))

    goes : (a b : ℕ) → b ≤ sent → AreContiguous room length_of a b → AreContiguous room others a b
    goes a b le straight k from below = sym (start k (omega arith)) ∙ (straight k from below ∙ ends k (omega arith))

-- Bytes that are apart in the area are apart in the section.
moved : (base a m b n : ℕ) → AreApart a m b n → AreApart (base + a) m (base + b) n
moved base a m b n (inl h) = inl (omega arith)
moved base a m b n (inr h) = inr (omega arith)

moved_back : (base a m b n : ℕ) → AreApart (base + a) m (base + b) n → AreApart a m b n
moved_back base a m b n (inl h) = inl (omega arith)
moved_back base a m b n (inr h) = inr (omega arith)

same_test : (a b : Bool) → (a ≡ true → b ≡ true) → (b ≡ true → a ≡ true) → a ≡ b
same_test true b h g = sym (h refl)
same_test false true h g = g refl
same_test false false h g = refl

-- The start of a frame of a byte ring, as an offset in the section.
ring_start_is : (q : Sizes) (length_of : ℕ → ℕ) (k : ℕ) → is_byte_ring q ≡ true → start_of q length_of k ≡ data_area_start q + ring_start (data_area_len q) length_of k
unfolding start_of
ring_start_is q length_of k ring = ap (λ b. cond b (data_area_start q + ring_start (data_area_len q) length_of k) (offset_of q (FrameSlot (k % limit_of q)))) ring

slot_start_is : (q : Sizes) (length_of : ℕ → ℕ) (k : ℕ) → is_byte_ring q ≡ false → start_of q length_of k ≡ offset_of q (FrameSlot (k % limit_of q))
unfolding start_of
slot_start_is q length_of k none = ap (λ b. cond b (data_area_start q + ring_start (data_area_len q) length_of k) (offset_of q (FrameSlot (k % limit_of q)))) none

ring_takes : (q : Sizes) (bytes : ℕ) → is_byte_ring q ≡ true → footprint_of q bytes ≡ up64 bytes
unfolding footprint_of
ring_takes q bytes ring = ap (λ b. cond b (up64 bytes) (slot_of q)) ring

apart_as : (a m b n a1 m1 b1 n1 : ℕ) → a ≡ a1 → m ≡ m1 → b ≡ b1 → n ≡ n1 → AreApart a m b n → AreApart a1 m1 b1 n1
apart_as a m b n a1 m1 b1 n1 ea em eb en (inl h) = inl (omega arith)
apart_as a m b n a1 m1 b1 n1 ea em eb en (inr h) = inr (omega arith)

-- The footprint of a frame in a byte ring.
bytes_in_ring : (q : Sizes) (bytes : ℕ) → is_byte_ring q ≡ true → ring_bytes q bytes ≡ up64 bytes
bytes_in_ring q bytes ring = ap (λ b. cond b (up64 bytes) 0) ring

bytes_in_slots : (q : Sizes) (bytes : ℕ) → is_byte_ring q ≡ false → ring_bytes q bytes ≡ 0
bytes_in_slots q bytes none = ap (λ b. cond b (up64 bytes) 0) none

-- If the test is true, the number of frames in flight is below the limit, and the bytes are free.
room_of_test : (t : Allocator) (bytes : ℕ) → has_room_in t bytes ≡ true → (t.in_flight < limit_of t.sizes) × (has_bytes (data_area_len t.sizes) t.in_flight t.head t.tail (ring_bytes t.sizes bytes) ≡ true)
room_of_test t bytes room = (few_of t bytes room, and_second _ _ room)
  where
    false_is_true : (b : Bool) → false ≡ true → b ≡ true
    false_is_true b h = grind arith

    and_second : (a b : Bool) → (a && b) ≡ true → b ≡ true
    and_second true b h = h
    and_second false b h = false_is_true b h

test_of_room : (t : Allocator) (bytes : ℕ) → t.in_flight < limit_of t.sizes → has_bytes (data_area_len t.sizes) t.in_flight t.head t.tail (ring_bytes t.sizes bytes) ≡ true → has_room_in t bytes ≡ true
test_of_room t bytes lt h = ap (λ b. b && has_bytes (data_area_len t.sizes) t.in_flight t.head t.tail (ring_bytes t.sizes bytes)) less ∙ h
  where
    less : nat_lt t.in_flight (limit_of t.sizes) ≡ true
    less = grind (arith, nat_tests)

-- A frame fits in a session if the number of frames in flight is below the limit and the frame
-- shares no byte with them.
room_of_session : (q : Sizes) (length_of : ℕ → ℕ) (freed sent : ℕ) → freed ≤ sent → is_byte_ring q ≡ true → sent < freed + limit_of q → NextFree (data_area_len q) length_of freed sent →
    has_room q length_of freed sent ≡ true
unfolding has_room
room_of_session q length_of freed sent order ring lt free =
    ap (λ b. b && (not (is_byte_ring q) || is_apart_from q length_of sent freed (sent - freed))) less ∙
    (ap (λ b. not (is_byte_ring q) || b) each ∙ or_true (not (is_byte_ring q)))
  where
    less : nat_lt sent (freed + limit_of q) ≡ true
    less = grind (arith, nat_tests)

    or_true : (b : Bool) → (b || true) ≡ true
    or_true true = refl
    or_true false = refl

    each : is_apart_from q length_of sent freed (sent - freed) ≡ true
    each = apart_each q length_of sent freed (sent - freed) (λ k from below.
        apart_as _ _ _ _ _ _ _ _
        (sym (ring_start_is q length_of k ring)) (sym (ring_takes q (length_of k) ring)) (sym (ring_start_is q length_of sent ring)) (sym (ring_takes q (length_of sent) ring))
        (moved (data_area_start q) _ _ _ _ (free k from (omega arith))))

free_of_session : (q : Sizes) (length_of : ℕ → ℕ) (freed sent : ℕ) → IsQueue q → is_byte_ring q ≡ true → has_room q length_of freed sent ≡ true → NextFree (data_area_len q) length_of freed sent
free_of_session q length_of freed sent is ring room k from below =
    moved_back (data_area_start q) _ _ _ _ (apart_as _ _ _ _ _ _ _ _
    (ring_start_is q length_of k ring) (ring_takes q (length_of k) ring) (ring_start_is q length_of sent ring) (ring_takes q (length_of sent) ring)
    (frames_are_laid_out.apart q length_of freed sent k is room from below))

-- With slots the numbers of the byte ring are 0, and the test depends on the count alone.
slots_say : (count : ℕ) (room head tail bytes : ℕ) → head ≡ 0 → tail ≡ 0 → bytes ≡ 0 → has_bytes room count head tail bytes ≡ true
slots_say count room head tail bytes h t b = test_of room count head tail bytes (inr (inl (omega arith, omega arith)))

less_test : (a b : ℕ) → a < b → nat_lt a b ≡ true
less_test a b lt = grind (arith, nat_tests)

decides : (t : Allocator) (length_of : ℕ → ℕ) (freed sent : ℕ) → IsQueue t.sizes → RefinesSession t length_of freed sent → 14 ≤ length_of sent → length_of sent ≤ t.sizes.mtu + 18 →
    has_room_in t (length_of sent) ≡ has_room t.sizes length_of freed sent
decides t length_of freed sent is h least most = pick (is_byte_ring t.sizes) refl
  where
    all : freed + t.in_flight ≡ sent
    all = h.in_flight

    bytes : ℕ
    bytes = ring_bytes t.sizes (length_of sent)

    pick : (b : Bool) → is_byte_ring t.sizes ≡ b → has_room_in t (length_of sent) ≡ has_room t.sizes length_of freed sent
    pick true ring = let bytes_is : bytes ≡ up64 (length_of sent) = bytes_in_ring t.sizes (length_of sent) ring in let count : sent - freed ≡ t.in_flight = omega (arith, all) in same_test _ _
        (λ test. let says = room_of_test t (length_of sent) test in let lt = says.0 in
        room_of_session t.sizes length_of freed sent (omega (arith, all)) ring (omega (arith, all, lt))
        (free_of t (data_area_len t.sizes) length_of freed sent (omega (arith, all)) (h.ring ring)
        (subst (λ n. SaysRoom (data_area_len t.sizes) n t.head t.tail (up64 (length_of sent))) (sym count)
        (says_of (data_area_len t.sizes) t.in_flight t.head t.tail (up64 (length_of sent)) (subst (λ b. has_bytes (data_area_len t.sizes) t.in_flight t.head t.tail b ≡ true) bytes_is says.1)))))
        (λ room. let lt = few t.sizes length_of freed sent room in
        test_of_room t (length_of sent) (omega (arith, all, lt))
        (subst (λ b. has_bytes (data_area_len t.sizes) t.in_flight t.head t.tail b ≡ true) (sym bytes_is) (test_of (data_area_len t.sizes) t.in_flight t.head t.tail (up64 (length_of sent))
        (subst (λ n. SaysRoom (data_area_len t.sizes) n t.head t.tail (up64 (length_of sent))) count
        (needs_test t (data_area_len t.sizes) length_of freed sent (omega (arith, all)) (h.ring ring) (omega (arith, least)) (free_of_session t.sizes length_of freed sent is ring room))))))
    pick false none = let zero = h.slots none in same_test _ _
        (λ test. let lt = (room_of_test t (length_of sent) test).0 in frames_are_laid_out.slots t.sizes length_of freed sent none ∙ less_test sent (freed + limit_of t.sizes) (omega (arith, all, lt)))
        (λ room. let lt = few t.sizes length_of freed sent room in
        test_of_room t (length_of sent) (omega (arith, all, lt)) (slots_say t.in_flight (data_area_len t.sizes) t.head t.tail bytes zero.0 zero.1 (bytes_in_slots t.sizes (length_of sent) none)))

places : (t : Allocator) (length_of : ℕ → ℕ) (freed sent : ℕ) → IsQueue t.sizes → RefinesSession t length_of freed sent → 14 ≤ length_of sent → length_of sent ≤ t.sizes.mtu + 18 →
    has_room_in t (length_of sent) ≡ true → next_slot t (length_of sent) ≡ record { descriptor = sent % limit_of t.sizes; address = start_of t.sizes length_of sent }
places t length_of freed sent is h least most room =
    ap (λ n. let s : slots.Slot = record { descriptor = n; address = address } in s) h.next ∙
    ap (λ a. let s : slots.Slot = record { descriptor = sent % limit_of t.sizes; address = a } in s) (pick (is_byte_ring t.sizes) refl)
  where
    bytes : ℕ
    bytes = ring_bytes t.sizes (length_of sent)

    address : ℕ
    address = cond (is_byte_ring t.sizes) (data_area_start t.sizes + next_start t (length_of sent)) (offset_of t.sizes (FrameSlot t.next))

    pick : (b : Bool) → is_byte_ring t.sizes ≡ b → address ≡ start_of t.sizes length_of sent
    pick true ring =
        let r = h.ring ring in
        let room = data_area_len t.sizes in
        let start : start_after room t.tail bytes ≡ ring_start room length_of sent =
        ap (start_after room t.tail) (bytes_in_ring t.sizes (length_of sent) ring) ∙ (ap (λ e. start_after room e (up64 (length_of sent))) r.tail ∙ sym (start_is room length_of sent)) in
        ap (λ b. cond b (data_area_start t.sizes + next_start t (length_of sent)) (offset_of t.sizes (FrameSlot t.next))) ring ∙
        (ap (λ s. data_area_start t.sizes + s) start ∙ sym (ring_start_is t.sizes length_of sent ring))
    pick false none =
        ap (λ b. cond b (data_area_start t.sizes + next_start t (length_of sent)) (offset_of t.sizes (FrameSlot t.next))) none ∙
        (ap (λ i. offset_of t.sizes (FrameSlot i)) h.next ∙ sym (slot_start_is t.sizes length_of sent none))

-- With slots the numbers of the byte ring stay 0.
slots_stay : (room ended bytes : ℕ) → ended ≡ 0 → bytes ≡ 0 → start_after room ended bytes ≡ 0
slots_stay room ended bytes e b = after_is (λ s. s ≡ 0) room ended bytes (λ _. e) (λ _. refl)

both : (b : Bool) (x y : ℕ) → x ≡ 0 → y ≡ 0 → cond b x y ≡ 0
both true x y h g = h
both false x y h g = g

goes_on : (t : Allocator) (length_of : ℕ → ℕ) (freed sent : ℕ) → IsQueue t.sizes → RefinesSession t length_of freed sent → 14 ≤ length_of sent → length_of sent ≤ t.sizes.mtu + 18 →
    has_room_in t (length_of sent) ≡ true → RefinesSession (with_placed t (length_of sent)) length_of freed (sent + 1)
goes_on t length_of freed sent is h least most room = record {
  next = ap (λ n. (n + 1) % limit_of t.sizes) h.next ∙ mod-add-mod sent (limit_of t.sizes) 1;
  in_flight = omega (arith, all);
  most = omega (arith, lt);
  ring = λ ring. let bytes_is = bytes_in_ring t.sizes (length_of sent) ring in ring_places t (with_placed t (length_of sent)) (data_area_len t.sizes) length_of freed sent bytes bytes_is
      (omega (arith, all)) (h.ring ring) (omega (arith, least)) (ring_fits t.sizes (length_of sent) is most)
      (subst (λ n. SaysRoom (data_area_len t.sizes) n t.head t.tail bytes) (sym count) (says_of (data_area_len t.sizes) t.in_flight t.head t.tail bytes says.1))
      (ap (λ n. cond (n == 0) (start_after (data_area_len t.sizes) t.tail bytes) t.head) (sym count)) refl refl;
  slots = λ none. let zero = h.slots none in let no_bytes = bytes_in_slots t.sizes (length_of sent) none in
      let start = slots_stay (data_area_len t.sizes) t.tail bytes zero.1 no_bytes in (
        both (t.in_flight == 0) (next_start t (length_of sent)) t.head start zero.0,
        omega (arith, start, no_bytes),
        both (nat_le (t.tail + bytes) (data_area_len t.sizes)) t.left t.tail zero.2 zero.1,
      );
}
  where
    all : freed + t.in_flight ≡ sent
    all = h.in_flight

    bytes : ℕ
    bytes = ring_bytes t.sizes (length_of sent)

    says : (t.in_flight < limit_of t.sizes) × (has_bytes (data_area_len t.sizes) t.in_flight t.head t.tail bytes ≡ true)
    says = room_of_test t (length_of sent) room

    lt : t.in_flight < limit_of t.sizes
    lt = says.0

    count : sent - freed ≡ t.in_flight
    count = omega (arith, all)

frees : (t : Allocator) (length_of : ℕ → ℕ) (freed sent : ℕ) → RefinesSession t length_of freed sent → freed < sent → RefinesSession (with_freed t (length_of freed)) length_of (freed + 1) sent
frees t length_of freed sent h some = record {
  next = h.next;
  in_flight = omega (arith, all, some);
  most = let most = h.most in omega arith;
  ring = λ ring. ring_frees t (with_freed t (length_of freed)) (data_area_len t.sizes) length_of freed sent bytes (bytes_in_ring t.sizes (length_of freed) ring) (h.ring ring) some refl refl refl;
  slots = λ none. let zero = h.slots none in let no_bytes = bytes_in_slots t.sizes (length_of freed) none in
      (both (nat_le t.tail t.head && (t.head + bytes == t.left)) 0 (t.head + bytes) refl (let head = zero.0 in omega (arith, head, no_bytes)), zero.1, zero.2);
}
  where
    all : freed + t.in_flight ≡ sent
    all = h.in_flight

    bytes : ℕ
    bytes = ring_bytes t.sizes (length_of freed)

begins : (q : Sizes) (length_of : ℕ → ℕ) → RefinesSession (initial_allocator q) length_of 0 0
unfolding ring_end
begins q length_of = record {
  next = sym (zero_mod (limit_of q));
  in_flight = refl;
  most = omega arith;
  ring = λ _. record {
    some = λ k from below. absurd (omega arith);
    fits = λ k from below. absurd (omega arith);
    tail = refl;
    head = λ lt. absurd (omega arith);
    run = inl (λ k from below. absurd (omega arith));
  };
  slots = λ _. (refl, refl, refl);
}
  where
    zero_mod : (c : ℕ) → 0 % c ≡ 0
    zero_mod c = grind arith

session_by_prefix : (t : Allocator) (length_of others : ℕ → ℕ) (freed sent : ℕ) → ((j : ℕ) → j < sent → length_of j ≡ others j) → RefinesSession t length_of freed sent → RefinesSession t others freed sent
session_by_prefix t length_of others freed sent same h = record {
  next = h.next;
  in_flight = h.in_flight;
  most = h.most;
  ring = λ ring. ring_by_prefix t (data_area_len t.sizes) length_of others freed sent same (h.ring ring);
  slots = h.slots;
}

pub allocator_refines_session : AllocatorRefinesSession
allocator_refines_session = record { starts = begins; by_prefix = session_by_prefix; decides = decides; places = places; goes_on = goes_on; frees = frees }
