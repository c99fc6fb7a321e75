-- A write through a mask keeps the other bits.
use Rattle.std.proofs.Common.{◌≡◌, ℕ, ◌-◌, ◌≤◌, List, refl, sym, ◌∙◌, ap, subst, inl, inr, arith, bit_and}
use Rattle.std.specs.Prelude.{Bool, true, false, if◌then◌else◌, slice_index}
use Rattle.std.specs.Int.Bits.{and_self, and_zero_r}
use Rattle.std.proofs.lemmas.Nat.{and_assoc, and_or_apart}
use Rattle.std.proofs.lemmas.Grind.{and-not_self}
use Rattle.std.proofs.lemmas.Bool.{cases_lt}
use Rattle.pci_space.specs.declared.field.Field.{Field}
use Rattle.pci_space.specs.Numbers.{number_byte}
use Rattle.pci_space.specs.Fields.{merged, mask_byte, reset_byte, merged_byte, access_has_byte, KeepsUnmasked}

-- The bits that a mask lets through are none of the other bits.
apart : (new mask : ℕ) → mask ≤ 255 → bit_and (bit_and new mask) (255 - mask) ≡ 0
apart new mask small =
    let e : 255 - (255 - mask) ≡ mask = omega arith in
    subst (λ m. bit_and (bit_and new m) (255 - mask) ≡ 0) e (and-not_self new 255 (255 - mask) (255 - mask) refl (omega arith) refl)

-- A merged byte has the old byte's other bits.
keeps : (old new mask : ℕ) → bit_and (merged old new mask) (255 - mask) ≡ bit_and old (255 - mask)
keeps old new mask = elim (cases_lt 255 mask) [
  | inl large ↦ (
      let none : 255 - mask ≡ 0 = omega arith in
      ap (bit_and (merged old new mask)) none ∙ and_zero_r (merged old new mask) ∙ sym (ap (bit_and old) none ∙ and_zero_r old)
      )
  | inr small ↦ and_or_apart (255 - mask) (bit_and old (255 - mask)) (bit_and new mask) (apart new mask small)
      ∙ and_assoc (255 - mask) old (255 - mask) ∙ ap (bit_and old) (and_self (255 - mask))
]

-- The same at one byte of a write.
kept_at : (reached : Bool) (old new mask reset : ℕ) → bit_and old (255 - mask) ≡ bit_and reset (255 - mask) →
    bit_and (if reached then merged old new mask else old) (255 - mask) ≡ bit_and reset (255 - mask)
kept_at true old new mask reset was = keeps old new mask ∙ was
kept_at false old new mask reset was = was

-- A write keeps every unmasked bit.
pub kept_after : (rows : List Field) (old new : List ℕ) (at count value : ℕ) → KeepsUnmasked rows old →
    ((k : ℕ) → slice_index new k ≡ merged_byte rows at count value k (slice_index old k)) → KeepsUnmasked rows new
kept_after rows old new at count value was written k =
    ap (λ b. bit_and b (255 - mask_byte rows k)) (written k)
    ∙ kept_at (access_has_byte at count k) (slice_index old k) (number_byte value (k - at)) (mask_byte rows k) (reset_byte rows k) (was k)

-- A space at reset has the reset values' bits.
pub kept_at_reset : (rows : List Field) (bytes : List ℕ) → ((k : ℕ) → slice_index bytes k ≡ reset_byte rows k) → KeepsUnmasked rows bytes
kept_at_reset rows bytes same k = ap (λ b. bit_and b (255 - mask_byte rows k)) (same k)
