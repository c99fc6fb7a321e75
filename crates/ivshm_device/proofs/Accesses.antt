-- Accesses that a configuration space does not have.
use Rattle.std.proofs.Common.{◌≡◌, ℕ, ◌≤◌, ◌+◌, arith, refl}
use Rattle.std.proofs.lemmas.Bool.Decides.{nat_tests}
use Rattle.std.specs.Prelude.{Bool, true, false}
use Rattle.pci_space.specs.Fields.{is_access}

is_false : (b : Bool) → (b ≡ true → ⊥) → b ≡ false
is_false true never = absurd (never refl)
is_false false never = refl

within : (offset width : ℕ) → is_access 256 offset width ≡ true → offset + width ≤ 256
within offset width is = grind (arith, nat_tests)

least : (offset width : ℕ) → is_access 256 offset width ≡ true → 1 ≤ width
least offset width is = grind (arith, nat_tests)

most : (offset width : ℕ) → is_access 256 offset width ≡ true → width ≤ 4
most offset width is = grind (arith, nat_tests)

-- An access ends within 256 bytes.
pub no_access_past : (offset width : ℕ) → 256 ≤ offset → is_access 256 offset width ≡ false
no_access_past offset width past = is_false (is_access 256 offset width) (λ is. let end = within offset width is in let one = least offset width is in absurd (omega arith))

-- An access has at most 4 bytes.
pub no_access_wide : (offset width : ℕ) → 5 ≤ width → is_access 256 offset width ≡ false
no_access_wide offset width wide = is_false (is_access 256 offset width) (λ is. let four = most offset width is in absurd (omega arith))
