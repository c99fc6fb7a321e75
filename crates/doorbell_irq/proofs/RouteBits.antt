-- The bits of a route.
use Rattle.std.proofs.Common.{◌≡◌, ◌≢◌, ℕ, ◌+◌, ◌*◌, ◌%◌, ◌^◌, ◌<◌, Bool, true, false, w64, sym, ◌∙◌, ap, ap₂, subst, inl, inr, arith, bit_or, eq-eqb}
use Rattle.std.specs.Prelude.{◌&&◌, ◌==◌, nat_lt}
use Rattle.std.specs.Int.{bit_at}
use Rattle.std.proofs.lemmas.Bool.{cases_lt, lt-ltb, le-ltb}
use Rattle.std.proofs.lemmas.Nat.Bits.{bit_at_set_same, bit_at_set_other}
use Rattle.doorbell_irq.specs.DeviceRules.{bit}
use Rattle.doorbell_irq.proofs.Lists.{nat_cases}

-- Below k + 1 are k and what is below k.
below_more : (n k : ℕ) → n ≢ k → nat_lt n (k + 1) ≡ nat_lt n k
below_more n k apart = elim (cases_lt n k) [
  | inl less ↦ lt-ltb n (k + 1) (omega arith) ∙ sym (lt-ltb n k less)
  | inr past ↦ le-ltb n (k + 1) (omega arith) ∙ sym (le-ltb n k past)
]

module _ (v k : ℕ) (come : ℕ → Bool) (below : (n : ℕ) → bit v n ≡ (nat_lt n k && come n)) where
  -- One more vector comes: its bit is set.
  pub bit_set : k < 64 → come k ≡ true → (n : ℕ) → bit (bit_or v (1 * 2 ^ k % 2 ^ 64)) n ≡ (nat_lt n (k + 1) && come n)
  bit_set within comes n = elim (nat_cases n k) [
    | inl same ↦ subst (λ m. bit (bit_or v (1 * 2 ^ k % 2 ^ 64)) m ≡ (nat_lt m (k + 1) && come m)) (sym same)
        (eq-eqb (bit_at (bit_or v (1 * 2 ^ k % 2 ^ 64)) k) 1 (bit_at_set_same w64 v k within)
        ∙ sym (ap₂ (λ a b. a && b) (lt-ltb k (k + 1) (omega arith)) comes))
    | inr apart ↦ ap (λ x. x == 1) (bit_at_set_other w64 v k within n apart) ∙ below n ∙ sym (ap (λ b. b && come n) (below_more n k apart))
  ]

  -- One more vector doesn't come.
  pub bit_left : come k ≡ false → (n : ℕ) → bit v n ≡ (nat_lt n (k + 1) && come n)
  bit_left comes n = elim (nat_cases n k) [
    | inl same ↦ subst (λ m. bit v m ≡ (nat_lt m (k + 1) && come m)) (sym same)
        (below k ∙ ap₂ (λ a b. a && b) (le-ltb k k (omega arith)) comes ∙ sym (ap₂ (λ a b. a && b) (lt-ltb k (k + 1) (omega arith)) comes))
    | inr apart ↦ below n ∙ sym (ap (λ b. b && come n) (below_more n k apart))
  ]
