-- The fields of an item, in the order in which a poll reads them, one row each.
use Rattle.std.specs.Prelude.{ℕ, ◌+◌, ◌/◌, ◌==◌, Bool, true, if◌then◌else◌, List, [], ◌∷◌, ◌++◌, length}
use Rattle.split_ring.specs.declared.ranges.FieldName.{FieldName}
use Rattle.split_ring.specs.declared.ranges.FieldName.TheVariants as field_name
use Rattle.split_ring.specs.Layout.{Field, word_offset, DescAddress, DescLength, DescFlags, AvailEntry}
use Rattle.split_ring.specs.Spelling.{desc_flags}
use Rattle.split_ring.specs.Ranges.{is_avail_entry, is_desc_address, is_desc_length, is_desc_flags}
use Rattle.call_grammar.specs.Steps.{Mark, Deliver}
use Rattle.call_grammar.specs.Ticks.{EndConfig}
use Rattle.call_grammar.specs.Words.{address_of, words_for, frame_in}
use Rattle.call_grammar.specs.Offers.{avail_entry_of, refusal}
use Rattle.call_grammar.specs.Polls.{entry_in}

-- A field: its word, its name in a refusal, its value in the word, and the test of the value.
pub record ItemField : Type 0 where
  pub word : ℕ
  pub name : FieldName
  pub value : ℕ → ℕ
  pub test : ℕ → Bool

abbrev field : (word : ℕ) (name : FieldName) (value : ℕ → ℕ) (test : ℕ → Bool) → ItemField
field word name value test = record { word = word; name = name; value = value; test = test }

-- A word whose every value passes.
abbrev plain : (word : ℕ) → ItemField
plain word = field word field_name.DescAddress (λ value. value) (λ value. true)

abbrev their_word : EndConfig → Field → ℕ
their_word config f = config.other_start + word_offset config.sizes f

-- The next field of the item with this number, by the values of the fields before it. The fields
-- are the entry, the low word of the address, the address, the length, the flags, and each word of
-- the frame.
abbrev pub item_field : EndConfig → (number : ℕ) → List ℕ → ItemField
item_field config number [] =
    field (their_word config (AvailEntry (avail_entry_of config number))) field_name.AvailEntry
    (entry_in config number) (is_avail_entry config.sizes)
item_field config number (entry ∷ []) = plain (their_word config (DescAddress entry))
item_field config number (entry ∷ low ∷ []) =
    field (their_word config (DescAddress entry) + 1) field_name.DescAddress
    (address_of low) (is_desc_address config.sizes)
item_field config number (entry ∷ low ∷ address ∷ []) =
    field (their_word config (DescLength entry)) field_name.DescLength
    (λ value. value) (is_desc_length config.sizes address)
item_field config number (entry ∷ low ∷ address ∷ bytes ∷ []) =
    field (their_word config (DescFlags entry)) field_name.DescFlags desc_flags is_desc_flags
item_field config number (entry ∷ low ∷ address ∷ bytes ∷ flags ∷ words) =
    plain (config.other_start + (address / 4 + length words))

-- The word read has a value of the field that passes its test.
abbrev pub passes : EndConfig → (number : ℕ) → List ℕ → (word : ℕ) → Bool
passes config number read word = let f = item_field config number read in f.test (f.value word)

-- The read of the frame's last word delivers the frame.
abbrev pub deliver_marks : List ℕ → (word : ℕ) → List Mark
deliver_marks (entry ∷ low ∷ address ∷ bytes ∷ flags ∷ words) word =
    if length words + 1 == words_for bytes then Deliver (frame_in bytes (words ++ word ∷ [])) ∷ [] else []
deliver_marks read word = []

-- The marks of the read of a field.
abbrev pub field_marks : EndConfig → (number : ℕ) → List ℕ → (word : ℕ) → List Mark
field_marks config number read word = let f = item_field config number read in
    if passes config number read word then deliver_marks read word else refusal f.name (f.value word)
