-- The fields of a table end inside its space.
use Rattle.std.proofs.Common.{◌≡◌, ℕ, ◌+◌, ◌-◌, ◌<◌, ◌≤◌, List, [], ◌∷◌, ◌++◌, length, refl, sym, ◌∙◌, ap, inl, inr, arith}
use Rattle.std.specs.Prelude.{Bool, true, false, Option, Some, None, ◌&&◌, not, nat_lt, nat_le, if◌then◌else◌, slice_index}
use Rattle.std.proofs.lemmas.Bool.{cases_lt, le-ltb, ltb-false}
use Rattle.std.proofs.lemmas.List.{get_or_past}
use Rattle.pci_space.specs.declared.field.Field.{Field}
use Rattle.pci_space.specs.declared.field.FieldFault.{FieldFault}
use Rattle.pci_space.specs.declared.field.FieldFault.TheVariants.{BadWidth, TooWide, Outside}
use Rattle.pci_space.specs.Fields.{field_has_byte, is_width, fits_width, overlap_fault, reset_byte, row_fault, or_else, first_fault, table_fault}
use Rattle.pci_space.specs.Numbers.{number_byte}

-- Both parts have no fault.
first_none : (a b : Option FieldFault) → or_else a b ≡ None → a ≡ None
first_none None b h = refl
first_none (Some fault) b h = cc

next_none : (a b : Option FieldFault) → or_else a b ≡ None → b ≡ None
next_none None b h = h
next_none (Some fault) b h = cc

-- A row with no fault covers no byte past the space.
ends_inside : (size : ℕ) (earlier : List Field) (n : ℕ) (f : Field) → row_fault size earlier n f ≡ None → f.place + f.width ≤ size
ends_inside size earlier n f sound = within (not (is_width f.width)) (not (fits_width f.reset f.width && fits_width f.mask f.width)) (nat_lt size (f.place + f.width)) refl sound where
  within : (wide long past : Bool) → past ≡ nat_lt size (f.place + f.width) →
      (if wide then Some (BadWidth n) else if long then Some (TooWide n) else if past then Some (Outside n) else overlap_fault f n 0 earlier) ≡ None →
      f.place + f.width ≤ size
  within true long past e h = cc
  within false true past e h = cc
  within false false true e h = cc
  within false false false e h = ltb-false size (f.place + f.width) (sym e)

-- A byte past the end of a field isn't its own.
uncovered : (f : Field) (k : ℕ) → f.place + f.width ≤ k → field_has_byte f k ≡ false
uncovered f k past = and_false (nat_le f.place k) (nat_lt k (f.place + f.width)) (le-ltb k (f.place + f.width) past) where
  and_false : (a b : Bool) → b ≡ false → (a && b) ≡ false
  and_false true b e = e
  and_false false b e = refl

-- No field has a byte past the space.
none_past : (size : ℕ) (earlier : List Field) (n : ℕ) (rows : List Field) → first_fault size earlier n rows ≡ None → (k : ℕ) → size ≤ k → reset_byte rows k ≡ 0
none_past size earlier n [] sound k past = refl
none_past size earlier n (f ∷ fs) sound k past =
    let row = first_none (row_fault size earlier n f) (first_fault size (earlier ++ f ∷ []) (n + 1) fs) sound in
    let rest = next_none (row_fault size earlier n f) (first_fault size (earlier ++ f ∷ []) (n + 1) fs) sound in
    let ends = ends_inside size earlier n f row in
    let apart : field_has_byte f k ≡ false = uncovered f k (omega arith) in
    ap (λ b. if b then number_byte f.reset (k - f.place) else reset_byte fs k) apart
    ∙ none_past size (earlier ++ f ∷ []) (n + 1) fs rest k past

-- A table's space reads 0 past its end.
pub reset_byte-past : (rows : List Field) (size : ℕ) → table_fault rows size ≡ None → (k : ℕ) → size ≤ k → reset_byte rows k ≡ 0
reset_byte-past rows size sound = none_past size [] 0 rows sound

-- Bytes that are those at reset within a space are so everywhere.
pub reset_everywhere : (rows : List Field) (size : ℕ) (bytes : List ℕ) → table_fault rows size ≡ None → length bytes ≡ size →
    ((k : ℕ) → k < size → slice_index bytes k ≡ reset_byte rows k) → (k : ℕ) → slice_index bytes k ≡ reset_byte rows k
reset_everywhere rows size bytes sound long within k = elim (cases_lt k size) [
  | inl inside ↦ within k inside
  | inr past ↦ get_or_past bytes k 0 (omega arith) ∙ sym (reset_byte-past rows size sound k past)
]
