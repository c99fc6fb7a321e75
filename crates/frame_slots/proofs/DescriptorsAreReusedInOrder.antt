-- Descriptors are used modulo the limit, and so are the descriptors in flight.
use Rattle.std.proofs.Common.{◌≡◌, ◌≢◌, ℕ, ◌+◌, ◌-◌, ◌%◌, ◌<◌, ◌≤◌, ◌⊎◌, arith, inl, inr, ap, sym, ◌∙◌}
use Rattle.std.proofs.Math.Nat.{mod-eq_of_lt, add-mod_right, mod_self, sub-zero}
use Rattle.std.proofs.lemmas.Bool.{cases_lt}
use Rattle.split_ring.specs.Layout.{limit_of}
use Rattle.frame_slots.specs.Allocator.{Allocator, IsAllocator, IsInFlight, oldest_of, with_placed, with_freed, DescriptorsAreReusedInOrder}

-- The descriptor `count` before the next of c descriptors.
abbrev back : (next c count : ℕ) → ℕ
back next c count = (next + c - count) % c

back_near : (next c count : ℕ) → next < c → count ≤ next → back next c count ≡ next - count
back_near next c count in_range near =
    let shifted : next + c - count ≡ next - count + c = omega arith in
    let small : next - count < c = omega arith in
    ap (λ n. n % c) shifted ∙ (add-mod_right (next - count) c ∙ mod-eq_of_lt small)

back_far : (next c count : ℕ) → next < count → count ≤ c → next < c → back next c count ≡ next + c - count
back_far next c count far within in_range = mod-eq_of_lt (omega arith)

-- After the next descriptor advances, each descriptor is one more before it.
back_on : (next c count : ℕ) → next < c → count < c → back ((next + 1) % c) c (count + 1) ≡ back next c count
back_on next c count in_range within =
    elim (cases_lt (next + 1) c) [
      | inl more ↦
          let same : next + 1 + c - (count + 1) ≡ next + c - count = omega arith in
          ap (λ n. back n c (count + 1)) (mod-eq_of_lt more) ∙ ap (λ n. n % c) same
      | inr last ↦
          let is_last : next + 1 ≡ c = omega arith in
          let same : c - (count + 1) ≡ next - count = omega arith in
          let begins : (next + 1) % c ≡ 0 = ap (λ n. n % c) is_last ∙ mod_self c in
          let far : back 0 c (count + 1) ≡ 0 + c - (count + 1) = back_far 0 c (count + 1) (omega arith) (omega arith) (omega arith) in
          let near = back_near next c count in_range (omega arith) in
          ap (λ n. back n c (count + 1)) begins ∙ (far ∙ (omega (arith, near)))
    ]

-- The descriptors before the next one are all different.
back_apart : (next c fewer more : ℕ) → next < c → fewer < more → more ≤ c → 0 < fewer → back next c fewer ≢ back next c more
back_apart next c fewer more in_range less within some same =
    elim (cases_lt next fewer) [
      | inl fewer_far ↦ omega (arith, back_far next c fewer fewer_far (omega arith) in_range, back_far next c more (omega arith) within in_range)
      | inr fewer_near ↦
          elim (cases_lt next more) [
            | inl more_far ↦ omega (arith, back_near next c fewer in_range fewer_near, back_far next c more more_far within in_range)
            | inr more_near ↦ omega (arith, back_near next c fewer in_range fewer_near, back_near next c more in_range more_near)
          ]
    ]

-- A descriptor in flight is the placed one, or was in flight before.
joins : (t : Allocator) (bytes descriptor : ℕ) → IsAllocator t → t.in_flight < limit_of t.sizes → IsInFlight (with_placed t bytes) descriptor → IsInFlight t descriptor ⊎ (descriptor ≡ t.next)
joins t bytes descriptor is room (count, some, within, same) =
    let c = limit_of t.sizes in
    elim (cases_lt 1 count) [
      | inl more ↦
          let one_more : count ≡ count - 1 + 1 = omega arith in
          inl (count - 1, omega arith, omega arith, same ∙ (ap (back ((t.next + 1) % c) c) one_more ∙ back_on t.next c (count - 1) is.next (omega arith)))
      | inr one ↦
          let just_one : count ≡ 0 + 1 = omega arith in
          inr (same ∙ (ap (back ((t.next + 1) % c) c) just_one ∙ (back_on t.next c 0 is.next (omega arith) ∙ (back_near t.next c 0 is.next (omega arith) ∙ sub-zero t.next))))
    ]

joined : (t : Allocator) (bytes descriptor : ℕ) → IsAllocator t → t.in_flight < limit_of t.sizes → IsInFlight t descriptor ⊎ (descriptor ≡ t.next) → IsInFlight (with_placed t bytes) descriptor
joined t bytes descriptor is room (inl (count, some, within, same)) =
    (count + 1, omega arith, omega arith, same ∙ sym (back_on t.next (limit_of t.sizes) count is.next (omega arith)))
joined t bytes descriptor is room (inr same) =
    let c = limit_of t.sizes in
    (0 + 1, omega arith, omega arith, same ∙ sym (back_on t.next c 0 is.next (omega arith) ∙ (back_near t.next c 0 is.next (omega arith) ∙ sub-zero t.next)))

leaves : (t : Allocator) (bytes descriptor : ℕ) → IsAllocator t → 0 < t.in_flight → IsInFlight (with_freed t bytes) descriptor → IsInFlight t descriptor × (descriptor ≢ oldest_of t)
leaves t bytes descriptor is some_there (count, some, within, same) =
    ((count, some, omega arith, same), λ oldest. back_apart t.next (limit_of t.sizes) count t.in_flight is.next (omega arith) is.in_flight some (sym same ∙ oldest))

stays : (t : Allocator) (bytes descriptor : ℕ) → IsAllocator t → 0 < t.in_flight → IsInFlight t descriptor × (descriptor ≢ oldest_of t) → IsInFlight (with_freed t bytes) descriptor
stays t bytes descriptor is some_there ((count, some, within, same), not_oldest) =
    elim (cases_lt count t.in_flight) [
      | inl fewer ↦ (count, some, omega arith, same)
      | inr all ↦
          let at_oldest : count ≡ t.in_flight = omega arith in
          absurd (not_oldest (same ∙ ap (back t.next (limit_of t.sizes)) at_oldest))
    ]

pub descriptors_are_reused_in_order : DescriptorsAreReusedInOrder
descriptors_are_reused_in_order = record {
  placed = λ t bytes descriptor is room. (joins t bytes descriptor is room, joined t bytes descriptor is room);
  freed = λ t bytes descriptor is some_there. (leaves t bytes descriptor is some_there, stays t bytes descriptor is some_there);
}

-- The next descriptor isn't in flight if the number of frames in flight is below the limit.
pub next_alone : (t : Allocator) → IsAllocator t → t.in_flight < limit_of t.sizes → ¬ IsInFlight t t.next
next_alone t is few (count, some, within, same) =
    elim (cases_lt t.next count) [
      | inl far ↦ omega (arith, same, back_far t.next (limit_of t.sizes) count far (omega arith) is.next)
      | inr near ↦ omega (arith, same, back_near t.next (limit_of t.sizes) count is.next near)
    ]
