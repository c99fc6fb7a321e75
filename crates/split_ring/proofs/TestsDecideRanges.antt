-- The tests of the ranges, one lemma for each direction and outcome.
use Rattle.std.proofs.Common.{ℕ, ◌≡◌, Bool, true, false, refl, sym, ◌∙◌, eq-eqb, ne_eqb, arith}
use Rattle.std.proofs.lemmas.Bool.Decides.{nat_tests}
use mathlib.Core.Logic.{dite}
use native.Mathlib.Decide.{dec_lt}
use Rattle.split_ring.specs.Layout.{Sizes, size_of}
use Rattle.split_ring.specs.Ranges.{IsAvailEntry, IsDescAddress, IsDescLength, IsDescFlags, is_avail_entry, is_desc_address, is_desc_length, is_desc_flags}

pub entry_of_test : (q : Sizes) (e : ℕ) → is_avail_entry q e ≡ true → IsAvailEntry q e
entry_of_test q e test = grind (arith, nat_tests)

pub entry_denies : (q : Sizes) (e : ℕ) → is_avail_entry q e ≡ false → ¬ IsAvailEntry q e
entry_denies q e test is = grind (arith, nat_tests)

pub entry_test : (q : Sizes) (e : ℕ) → IsAvailEntry q e → is_avail_entry q e ≡ true
entry_test q e is = grind (arith, nat_tests)

pub entry_fails : (q : Sizes) (e : ℕ) → ¬ IsAvailEntry q e → is_avail_entry q e ≡ false
entry_fails q e not = dite (dec_lt e (size_of q)) (λ lt. absurd (not lt)) (λ ge. grind (arith, nat_tests))

pub address_of_test : (q : Sizes) (a : ℕ) → is_desc_address q a ≡ true → IsDescAddress q a
address_of_test q a test = (grind (arith, nat_tests), grind (arith, nat_tests), grind (arith, nat_tests))

pub address_test : (q : Sizes) (a : ℕ) → IsDescAddress q a → is_desc_address q a ≡ true
address_test q a is = let x = is.0 in let y = is.1 in let z = is.2 in grind (arith, nat_tests)

pub address_denies : (q : Sizes) (a : ℕ) → is_desc_address q a ≡ false → ¬ IsDescAddress q a
address_denies q a test is = let yes_is = address_test q a is in let f : false ≡ true = sym test ∙ yes_is in cc

pub address_fails : (q : Sizes) (a : ℕ) → ¬ IsDescAddress q a → is_desc_address q a ≡ false
address_fails q a not = by_bool (is_desc_address q a) refl
  where
    by_bool : (b : Bool) → is_desc_address q a ≡ b → is_desc_address q a ≡ false
    by_bool true e = absurd (not (address_of_test q a e))
    by_bool false e = e

pub length_of_test : (q : Sizes) (a l : ℕ) → is_desc_length q a l ≡ true → IsDescLength q a l
length_of_test q a l test = (grind (arith, nat_tests), grind (arith, nat_tests), grind (arith, nat_tests))

pub length_test : (q : Sizes) (a l : ℕ) → IsDescLength q a l → is_desc_length q a l ≡ true
length_test q a l is = let x = is.0 in let y = is.1 in let z = is.2 in grind (arith, nat_tests)

pub length_denies : (q : Sizes) (a l : ℕ) → is_desc_length q a l ≡ false → ¬ IsDescLength q a l
length_denies q a l test is = let yes_is = length_test q a l is in let f : false ≡ true = sym test ∙ yes_is in cc

pub length_fails : (q : Sizes) (a l : ℕ) → ¬ IsDescLength q a l → is_desc_length q a l ≡ false
length_fails q a l not = by_bool (is_desc_length q a l) refl
  where
    by_bool : (b : Bool) → is_desc_length q a l ≡ b → is_desc_length q a l ≡ false
    by_bool true e = absurd (not (length_of_test q a l e))
    by_bool false e = e

pub flags_of_test : (f : ℕ) → is_desc_flags f ≡ true → IsDescFlags f
flags_of_test f test = grind (arith, nat_tests)

pub flags_test : (f : ℕ) → IsDescFlags f → is_desc_flags f ≡ true
flags_test f is = eq-eqb f 0 is

pub flags_denies : (f : ℕ) → is_desc_flags f ≡ false → ¬ IsDescFlags f
flags_denies f test is = grind (arith, nat_tests)

pub flags_fails : (f : ℕ) → ¬ IsDescFlags f → is_desc_flags f ≡ false
flags_fails f not = ne_eqb f 0 not
