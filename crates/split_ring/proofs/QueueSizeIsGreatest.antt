-- The queue size is the greatest power of two that fits.
use Rattle.std.proofs.Common.{◌≡◌, ℕ, ◌*◌, ◌^◌, ◌<◌, ◌≤◌, List, [], ◌∷◌, Bool, true, false, cond, Option, Some, None, refl, sym, subst, arith, ◌⊎◌, inl, inr, MatchOption, lit≤, ap, ◌%◌}
use Rattle.std.specs.Prelude.{find, nat_lt}
use Rattle.std.proofs.lemmas.Bool.Decides.{nat_tests}
use Rattle.std.proofs.lemmas.Option.{MatchOption-at_some}
use mathlib.Core.Logic.{dite}
use native.Mathlib.Decide.{ℕ_discrete}
use Rattle.split_ring.specs.declared.sizes.TheConstants.{LEAST_QUEUE, MOST_QUEUE}
use Rattle.split_ring.specs.Layout.{rings_len, queue_sizes, queue_size, Fits, IsQueueSize, QueueSizeIsGreatest}

-- m is in the list.
abbrev Among : ℕ → List ℕ → Type 0
Among m [] = ⊥
Among m (x ∷ xs) = (m ≡ x) ⊎ Among m xs

-- The list descends: no element is greater than an earlier one.
abbrev Descends : List ℕ → Type 0
Descends [] = Unit {0}
Descends (x ∷ xs) = ((m : ℕ) → Among m xs → m ≤ x) × Descends xs

-- n is the greatest element of the list that passes.
record IsGreatest (p : ℕ → Bool) (xs : List ℕ) (n : ℕ) : Type 0 where
  among : Among n xs
  passes : p n ≡ true
  greatest : (m : ℕ) → Among m xs → p m ≡ true → m ≤ n

abbrev NonePasses : (ℕ → Bool) → List ℕ → Type 0
NonePasses p xs = (m : ℕ) → Among m xs → p m ≡ true → ⊥

not_first : (p : ℕ → Bool) (x m : ℕ) → p x ≡ false → p m ≡ true → m ≡ x → ⊥
not_first p x m fails passes e = let h : p x ≡ true = subst (λ n. p n ≡ true) e passes in grind arith

after_one : (p : ℕ → Bool) (x : ℕ) (xs : List ℕ) (o : Option ℕ) → p x ≡ false → MatchOption o (NonePasses p xs) (IsGreatest p xs) → MatchOption o (NonePasses p (x ∷ xs)) (IsGreatest p (x ∷ xs))
after_one p x xs None fails h = λ m a passes. elim a [ inl e ↦ not_first p x m fails passes e | inr b ↦ h m b passes ]
after_one p x xs (Some n) fails h = record {
  among = inr h.among;
  passes = h.passes;
  greatest = λ m a passes. elim a [ inl e ↦ absurd (not_first p x m fails passes e) | inr b ↦ h.greatest m b passes ];
}

at_one : (p : ℕ → Bool) (x : ℕ) (xs : List ℕ) (b : Bool) → p x ≡ b → Descends (x ∷ xs) → MatchOption (find p xs) (NonePasses p xs) (IsGreatest p xs) → MatchOption (cond b (Some x) (find p xs)) (NonePasses p (x ∷ xs)) (IsGreatest p (x ∷ xs))
at_one p x xs true is d h = record {
  among = inl refl;
  passes = is;
  greatest = λ m a passes. elim a [ inl e ↦ omega arith | inr b ↦ d.0 m b ];
}
at_one p x xs false is d h = after_one p x xs (find p xs) is h

-- The first element that passes is the greatest one if the list descends.
find_greatest : (p : ℕ → Bool) (xs : List ℕ) → Descends xs → MatchOption (find p xs) (NonePasses p xs) (IsGreatest p xs)
find_greatest p [] d = λ m a passes. a
find_greatest p (x ∷ xs) d = at_one p x xs (p x) refl d (find_greatest p xs d.1)

sizes_descend : Descends queue_sizes
sizes_descend = (λ m a. grind arith, (λ m a. grind arith, (λ m a. grind arith, (λ m a. grind arith, (λ m a. grind arith, (λ m a. grind arith, (λ m a. absurd a, tt)))))))

power_of : (m : ℕ) → Among m queue_sizes → (k : ℕ) × ((6 ≤ k) × (k ≤ 12) × (m ≡ 2 ^ k))
power_of m a = elim a [
  | inl e ↦ (12, (lit≤ tt, lit≤ tt, e))
  | inr a ↦ elim a [
    | inl e ↦ (11, (lit≤ tt, lit≤ tt, e))
    | inr a ↦ elim a [
      | inl e ↦ (10, (lit≤ tt, lit≤ tt, e))
      | inr a ↦ elim a [
        | inl e ↦ (9, (lit≤ tt, lit≤ tt, e))
        | inr a ↦ elim a [
          | inl e ↦ (8, (lit≤ tt, lit≤ tt, e))
          | inr a ↦ elim a [
            | inl e ↦ (7, (lit≤ tt, lit≤ tt, e))
            | inr a ↦ elim a [ inl e ↦ (6, (lit≤ tt, lit≤ tt, e)) | inr a ↦ absurd a ]
          ]
        ]
      ]
    ]
  ]
]

power_among : (k : ℕ) → 6 ≤ k → k ≤ 12 → Among (2 ^ k) queue_sizes
power_among k least most =
    dite (ℕ_discrete k 12) (λ e. subst (λ n. Among (2 ^ n) queue_sizes) (sym e) (inl refl))
    (λ n12. dite (ℕ_discrete k 11) (λ e. subst (λ n. Among (2 ^ n) queue_sizes) (sym e) (inr (inl refl)))
    (λ n11. dite (ℕ_discrete k 10) (λ e. subst (λ n. Among (2 ^ n) queue_sizes) (sym e) (inr (inr (inl refl))))
    (λ n10. dite (ℕ_discrete k 9) (λ e. subst (λ n. Among (2 ^ n) queue_sizes) (sym e) (inr (inr (inr (inl refl)))))
    (λ n9. dite (ℕ_discrete k 8) (λ e. subst (λ n. Among (2 ^ n) queue_sizes) (sym e) (inr (inr (inr (inr (inl refl))))))
    (λ n8. dite (ℕ_discrete k 7) (λ e. subst (λ n. Among (2 ^ n) queue_sizes) (sym e) (inr (inr (inr (inr (inr (inl refl)))))))
    (λ n7. let e : k ≡ 6 = omega arith in subst (λ n. Among (2 ^ n) queue_sizes) (sym e) (inr (inr (inr (inr (inr (inr (inl refl)))))))))))))

test_is : (a b : ℕ) → a < b → nat_lt a b ≡ true
test_is a b h = grind (arith, nat_tests)

is_test : (a b : ℕ) → nat_lt a b ≡ true → a < b
is_test a b h = grind (arith, nat_tests)

is_queue_size : (out : ℕ) (o : Option ℕ) → MatchOption o (NonePasses (λ n. nat_lt (8 * rings_len n) out) queue_sizes) (IsGreatest (λ n. nat_lt (8 * rings_len n) out) queue_sizes) → MatchOption o ((k : ℕ) → 6 ≤ k → k ≤ 12 → Fits out (2 ^ k) → 2 ^ k ≤ 0) (IsQueueSize out)
is_queue_size out None h = λ k least most fits. absurd (h (2 ^ k) (power_among k least most) (test_is _ _ fits))
is_queue_size out (Some n) h = record {
  power = power_of n h.among;
  fits = is_test _ _ h.passes;
  greatest = λ k least most fits. h.greatest (2 ^ k) (power_among k least most) (test_is _ _ fits);
}

pub queue_size_is_greatest : QueueSizeIsGreatest
unfolding queue_size
queue_size_is_greatest out = is_queue_size out (find (λ n. nat_lt (8 * rings_len n) out) queue_sizes) (find_greatest (λ n. nat_lt (8 * rings_len n) out) queue_sizes sizes_descend)

size_range : (m : ℕ) → Among m queue_sizes → (LEAST_QUEUE ≤ m) × (m ≤ MOST_QUEUE)
size_range m a = (grind arith, grind arith)

size_whole : (m : ℕ) → Among m queue_sizes → m % 64 ≡ 0
size_whole m a = grind arith

size_turns : (m : ℕ) → Among m queue_sizes → 65536 % m ≡ 0
size_turns m a = elim a [
  | inl e ↦ ap (λ n. 65536 % n) e
  | inr a ↦ elim a [
    | inl e ↦ ap (λ n. 65536 % n) e
    | inr a ↦ elim a [
      | inl e ↦ ap (λ n. 65536 % n) e
      | inr a ↦ elim a [
        | inl e ↦ ap (λ n. 65536 % n) e
        | inr a ↦ elim a [
          | inl e ↦ ap (λ n. 65536 % n) e
          | inr a ↦ elim a [
            | inl e ↦ ap (λ n. 65536 % n) e
            | inr a ↦ elim a [ inl e ↦ ap (λ n. 65536 % n) e | inr a ↦ absurd a ]
          ]
        ]
      ]
    ]
  ]
]

-- A queue size that was found fits, and is one of the powers of two.
pub record IsFound (out n : ℕ) : Type 0 where
  pub fits : Fits out n
  pub least : LEAST_QUEUE ≤ n
  pub most : n ≤ MOST_QUEUE
  pub whole : n % 64 ≡ 0
  pub divides : 65536 % n ≡ 0

pub found : (out n : ℕ) → queue_size out ≡ Some n → IsFound out n
unfolding queue_size
found out n e =
    let h : IsGreatest (λ m. nat_lt (8 * rings_len m) out) queue_sizes n = MatchOption-at_some _ _ n e (find_greatest (λ m. nat_lt (8 * rings_len m) out) queue_sizes sizes_descend) in
    record { fits = is_test _ _ h.passes; least = (size_range n h.among).0; most = (size_range n h.among).1; whole = size_whole n h.among; divides = size_turns n h.among }
