-- The two versions.
use Rattle.std.proofs.Common.{◌≡◌, ℕ, Bool, true, false, refl}
use Rattle.std.specs.Prelude.{◌==◌, ◌||◌}
use Rattle.std.proofs.lemmas.Bool.{eqb-true}
use Rattle.lawful_history.specs.Versions.{is_version}

pub data IsOneOrTwo (version : ℕ) : Type 0 where
  One : version ≡ 1 → IsOneOrTwo version
  Two : version ≡ 2 → IsOneOrTwo version

pub one_or_two : (version : ℕ) → is_version version ≡ true → IsOneOrTwo version
one_or_two version known = by_tests (version == 1) (version == 2) refl refl known
  where
    by_tests : (b c : Bool) → (version == 1) ≡ b → (version == 2) ≡ c → (b || c) ≡ true → IsOneOrTwo version
    by_tests true c is other known = One (eqb-true version 1 is)
    by_tests false true is other known = Two (eqb-true version 2 other)
    by_tests false false is other known = absurd cc
