-- Each foreign field is read once: a call gets the value of a word from one read, and tests and
-- uses that value. No word can change between a test and a use.
use Rattle.std.specs.Prelude.{ℕ, ◌≡◌, ◌≢◌, ◌+◌, ◌<◌, ◌≤◌, ◌==◌, ◌||◌, if◌then◌else◌, List, [], ◌∷◌, ◌++◌, All}
use Rattle.split_ring.specs.declared.ranges.FieldName.{FieldName}
use Rattle.split_ring.specs.declared.ranges.FieldName.TheVariants as field_name
use Rattle.split_ring.specs.declared.steps.Access.{Access}
use Rattle.split_ring.specs.declared.steps.Access.TheVariants as access
use Rattle.split_ring.specs.Layout.{limit_of, word_offset, AvailIndex, UsedIndex}
use Rattle.call_grammar.specs.Steps.{Mark, Reclaim, Look, Refuse, Step}
use Rattle.call_grammar.specs.Trees.{CallTree, GoesAlong}
use Rattle.call_grammar.specs.Ends.{End}
use Rattle.call_grammar.specs.Ticks.{EndConfig, other_state}
use Rattle.call_grammar.specs.Calls.{Call, tree_of}
use Rattle.call_grammar.specs.Offers.{PendingOffer, IsOffer}
use Rattle.call_grammar.specs.Polls.{Item, IsValidItem, item_steps, IsRefusedItem}
use Rattle.call_grammar.specs.Permitted.{HasSections}

-- The word that an access reads.
abbrev pub read_by : Access → List ℕ
read_by (access.Read word) = word ∷ []
read_by _ = []

-- The words that these steps read, in order.
abbrev pub reads_of : List Step → List ℕ
reads_of [] = []
reads_of (step ∷ steps) = read_by step.access ++ reads_of steps

-- The word is none of these.
abbrev pub IsNone : ℕ → List ℕ → Type 0
IsNone word [] = Unit {0}
IsNone word (first ∷ rest) = (word ≢ first) × IsNone word rest

-- No word is in the list twice.
abbrev pub AreDistinct : List ℕ → Type 0
AreDistinct [] = Unit {0}
AreDistinct (word ∷ words) = IsNone word words × AreDistinct words

-- An index is read once for each use. A use is a mark that says how far the index went, or that it
-- is refused. A call may use an index more than once: a poll may read the available index twice.

-- The words with the indices of the other's section.
abbrev pub used_index_word : EndConfig → ℕ
used_index_word config = config.other_start + word_offset config.sizes UsedIndex

abbrev pub avail_index_word : EndConfig → ℕ
avail_index_word config = config.other_start + word_offset config.sizes AvailIndex

-- The index word of a field.
abbrev pub index_in : EndConfig → FieldName → List ℕ
index_in config field_name.UsedIndex = used_index_word config ∷ []
index_in config field_name.AvailIndex = avail_index_word config ∷ []
index_in config _ = []

-- The index word that a mark uses.
abbrev pub used_by : EndConfig → Mark → List ℕ
used_by config (Reclaim count) = used_index_word config ∷ []
used_by config (Look count) = avail_index_word config ∷ []
used_by config (Refuse refused) = index_in config refused.field
used_by config _ = []

abbrev pub indexes_used : EndConfig → List Mark → List ℕ
indexes_used config [] = []
indexes_used config (mark ∷ marks) = used_by config mark ++ indexes_used config marks

-- The index word that an access reads.
abbrev pub index_at : EndConfig → ℕ → List ℕ
index_at config word = if (word == used_index_word config) || (word == avail_index_word config) then word ∷ [] else []

abbrev pub indexes_read : EndConfig → Access → List ℕ
indexes_read config (access.Read word) = index_at config word
indexes_read config _ = []

-- The step with the mark of a use is itself the read of that index, and no other step reads an
-- index.
abbrev pub ReadsForUse : EndConfig → Step → Type 0
ReadsForUse config step = indexes_read config step.access ≡ indexes_used config step.marks

-- An item of a poll, valid or refused, reads no word twice. An offer reads no word twice if the
-- number of frames in flight is at most the limit. A call, whole or cut, reads an index once for
-- each use, if the other's State word is before the other's section.
pub record FieldsAreReadOnce : Type 0 where
  pub taken : (config : EndConfig) (number : ℕ) (read : Item) → HasSections config → IsValidItem config number read →
      AreDistinct (reads_of (item_steps config number read))
  pub refused : (config : EndConfig) (number : ℕ) (read : Item) (steps : List Step) → HasSections config → IsRefusedItem config number read steps →
      AreDistinct (reads_of steps)
  pub offered : (config : EndConfig) (pending : PendingOffer) (freed : ℕ) (steps : List Step) → HasSections config → pending.number ≤ freed + limit_of config.sizes →
      IsOffer config pending freed steps → AreDistinct (reads_of steps)
  pub indexes : (config : EndConfig) (end : End) (call : Call) (steps : List Step) (left : CallTree) → HasSections config → other_state config < config.other_start →
      GoesAlong (tree_of config end call) steps left → All (ReadsForUse config) steps
