-- Field tables, and spaces with a field table.
use Rattle.std.specs.Prelude.{ℕ, ◌≡◌, ◌+◌, ◌-◌, ◌%◌, ◌^◌, Bool, ◌&&◌, ◌||◌, not, ◌==◌, nat_lt, nat_le, if◌then◌else◌, List, [], ◌∷◌, ◌++◌, slice_index, bit_and, bit_or, Option, Some, None}
use Rattle.pci_space.specs.declared.field.Field.{Field}
use Rattle.pci_space.specs.declared.field.FieldFault.{FieldFault}
use Rattle.pci_space.specs.declared.field.FieldFault.TheVariants.{BadWidth, TooWide, Outside, Overlap}
use Rattle.pci_space.specs.Numbers.{number_byte}

-- A table: its rows in order, and the size of its space in bytes.
pub record Rows : Type 0 where
  pub rows : List Field
  pub size : ℕ

-- A space: the rows of its table, and the bytes that it reads, from byte 0 on.
pub record Contents : Type 0 where
  pub rows : List Field
  pub bytes : List ℕ

-- A field has byte k of the space.
abbrev pub field_has_byte : Field → ℕ → Bool
field_has_byte f k = nat_le f.place k && nat_lt k (f.place + f.width)

-- Byte k of the space at reset: that of its field, 0 if there is no field.
abbrev pub reset_byte : List Field → ℕ → ℕ
reset_byte [] k = 0
reset_byte (f ∷ fs) k = if field_has_byte f k then number_byte f.reset (k - f.place) else reset_byte fs k

-- The bits of byte k that a write changes: those of the field's mask, none if there is no field.
abbrev pub mask_byte : List Field → ℕ → ℕ
mask_byte [] k = 0
mask_byte (f ∷ fs) k = if field_has_byte f k then number_byte f.mask (k - f.place) else mask_byte fs k

-- The masked bits of `new`, and the others of `old`.
abbrev pub merged : ℕ → ℕ → ℕ → ℕ
merged old new mask = bit_or (bit_and old (255 - mask)) (bit_and new mask)

-- An access has byte k.
abbrev pub access_has_byte : ℕ → ℕ → ℕ → Bool
access_has_byte offset width k = nat_le offset k && nat_lt k (offset + width)

-- Byte k of the space after a write, with `old` before it. Its masked bits are those of the value
-- if the access has byte k.
abbrev pub merged_byte : List Field → ℕ → ℕ → ℕ → ℕ → ℕ → ℕ
merged_byte rows offset width value k old =
    if access_has_byte offset width k then merged old (number_byte value (k - offset)) (mask_byte rows k) else old

-- An access is allowed: its width is 1, 2 or 4, its offset is a multiple of the width, and it ends
-- within the space.
abbrev pub is_access : ℕ → ℕ → ℕ → Bool
is_access size offset width = (width == 1 || width == 2 || width == 4) && (offset % width == 0 && nat_le (offset + width) size)

-- Two fields share a byte.
abbrev pub fields_overlap : Field → Field → Bool
fields_overlap f g = nat_lt f.place (g.place + g.width) && nat_lt g.place (f.place + f.width)

-- A field has 1, 2, 4 or 8 bytes.
abbrev pub is_width : ℕ → Bool
is_width width = width == 1 || width == 2 || width == 4 || width == 8

-- A number fits `width` bytes.
abbrev pub fits_width : ℕ → ℕ → Bool
fits_width n width = nat_lt n (256 ^ width)

-- The first of these rows, numbered from m, that shares a byte with row n.
abbrev pub overlap_fault : Field → ℕ → ℕ → List Field → Option FieldFault
overlap_fault f n m [] = None
overlap_fault f n m (g ∷ gs) = if fields_overlap g f then Some (Overlap n m) else overlap_fault f n (m + 1) gs

-- The fault of row n after the earlier rows, if there is one. The tests are its width, then its
-- numbers, then its end, then a row that it overlaps.
abbrev pub row_fault : ℕ → List Field → ℕ → Field → Option FieldFault
row_fault size earlier n f =
    if not (is_width f.width) then Some (BadWidth n)
    else if not (fits_width f.reset f.width && fits_width f.mask f.width) then Some (TooWide n)
    else if nat_lt size (f.place + f.width) then Some (Outside n)
    else overlap_fault f n 0 earlier

-- The first fault, if there is one, else the next.
abbrev pub or_else : Option FieldFault → Option FieldFault → Option FieldFault
or_else (Some fault) next = Some fault
or_else None next = next

-- The first fault of the rows from number n on, after the earlier ones.
abbrev pub first_fault : ℕ → List Field → ℕ → List Field → Option FieldFault
first_fault size earlier n [] = None
first_fault size earlier n (f ∷ fs) = or_else (row_fault size earlier n f) (first_fault size (earlier ++ f ∷ []) (n + 1) fs)

-- The fault of a table of these rows for a space of a size: that of the first row with a fault
-- (profile).
abbrev pub table_fault : List Field → ℕ → Option FieldFault
table_fault rows size = first_fault size [] 0 rows

-- The bits that no write changes are those of the reset values, and 0 if there is no field.
abbrev pub KeepsUnmasked : List Field → List ℕ → Type 0
KeepsUnmasked rows bytes = (k : ℕ) →
    bit_and (slice_index bytes k) (255 - mask_byte rows k) ≡ bit_and (reset_byte rows k) (255 - mask_byte rows k)
