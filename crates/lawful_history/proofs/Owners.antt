-- The event records of one peer among those of all.
use Rattle.std.proofs.Common.{◌≡◌, ◌≢◌, ℕ, ◌<◌, ◌≤◌, true, false, List, ◌∷◌, refl, arith}
use Rattle.std.proofs.lemmas.Bool.Decides.{nat_tests}
use Rattle.std.specs.Prelude.{◌==◌, nat_lt}
use Rattle.lawful_history.specs.EventRecords.{EventRecord, owner, own}

pub is_same : (a b : ℕ) → (a == b) ≡ true → a ≡ b
is_same a b is = grind (arith, nat_tests)

pub same_test : (a : ℕ) → (a == a) ≡ true
same_test a = grind (arith, nat_tests)

pub own_first : (entry : EventRecord) (entries : List EventRecord) → own (owner entry) (entry ∷ entries) ≡ entry ∷ own (owner entry) entries
own_first entry entries = rw (same_test (owner entry)) refl

pub is_other : (a b : ℕ) → (a == b) ≡ false → b ≢ a
is_other a b is = grind (arith, nat_tests)

pub not_below : (a b : ℕ) → nat_lt a b ≡ false → b ≤ a
not_below a b is = grind (arith, nat_tests)

pub not_same : (a b : ℕ) → b ≢ a → (a == b) ≡ false
not_same a b other = grind (arith, nat_tests)

pub far : (a b : ℕ) → b < a → (a == b) ≡ false
far a b below = grind (arith, nat_tests)
