-- The reads of a link peer, and their result: the frame that it delivers, or the value that it
-- refuses.
use Rattle.std.specs.Prelude.{ℕ, ◌≡◌, ◌+◌, ◌/◌, ◌==◌, if◌then◌else◌, List, [], ◌∷◌, ◌++◌, length, reverse, ◌-◌, ◌%◌, ◌≤◌, ◌<◌, true}
use Rattle.split_ring.specs.declared.ranges.FieldName.{FieldName}
use Rattle.split_ring.specs.declared.ranges.FieldName.TheVariants as field_name
use Rattle.split_ring.specs.declared.ranges.Refused.{Refused}
use Rattle.split_ring.specs.Layout.{limit_of, word_offset, DescAddress, DescLength, DescFlags, AvailIndex, AvailEntry, UsedIndex, UsedId}
use Rattle.split_ring.specs.Spelling.{high_half, desc_flags}
use Rattle.split_ring.specs.Ranges.{IsAvailIndex, IsAvailEntry, IsDescAddress, IsDescLength, IsDescFlags, IsUsedIndex, IsUsedId}
use Rattle.scenario_text.specs.Scenario.{World, IsWorld, is_link}
use Rattle.call_grammar.specs.Calls.{EndConfig}
use Rattle.call_grammar.specs.Words.{frame_in}
use Rattle.call_grammar.specs.Offers.{avail_entry_of}
use Rattle.call_grammar.specs.Polls.{Item, item_entry, item_address, IsValidItem}
use Rattle.link_machine.specs.LinkMachine.{Side}
use Rattle.lawful_history.specs.declared.line.Line.{Line}
use Rattle.lawful_history.specs.declared.line.Line.TheVariants as line
use Rattle.lawful_history.specs.Sides.{config_of}
use Rattle.lawful_history.specs.Lawful.{IsLawful}
use Rattle.history_laws.specs.SideEvents.{side_of}

-- A word, and the value that a read of it met.
pub record Got : Type 0 where
  pub word : ℕ
  pub value : ℕ

abbrev pub got : ℕ → ℕ → Got
got word value = record { word = word; value = value }

-- The effect of a line on a peer's reads: one more read, an empty list after a mark or a reset, or
-- no effect.
pub data Reading : Type 0 where
  Takes : (peer word value : ℕ) → Reading
  Breaks : (peer : ℕ) → Reading
  Passes : Reading

abbrev pub reading_of : Line → Reading
reading_of (line.Read peer word value) = Takes peer word value
reading_of (line.Reset peer) = Breaks peer
reading_of (line.Saw peer value) = Breaks peer
reading_of (line.Reclaim peer count) = Breaks peer
reading_of (line.Full peer) = Breaks peer
reading_of (line.Accept peer frame) = Breaks peer
reading_of (line.Look peer count) = Breaks peer
reading_of (line.Deliver peer frame) = Breaks peer
reading_of (line.Return peer) = Breaks peer
reading_of (line.Done peer) = Breaks peer
reading_of (line.Down peer) = Breaks peer
reading_of (line.Refuse peer refused) = Breaks peer
reading_of (line.Over peer) = Breaks peer
reading_of _ = Passes

abbrev pub reads_with : Reading → ℕ → List Got → List Got
reads_with (Takes peer word value) p reads = if peer == p then reads ++ got word value ∷ [] else reads
reads_with (Breaks peer) p reads = if peer == p then [] else reads
reads_with Passes p reads = reads

-- The reads of peer p since its last mark or reset after these lines, which are listed newest
-- first. The reads are listed oldest first.
abbrev pub reads_of : List Line → ℕ → List Got
reads_of [] p = []
reads_of (line ∷ older) p = reads_with (reading_of line) p (reads_of older p)

-- The reads of an item of a poll, in the order of the call grammar

abbrev pub entry_read : EndConfig → ℕ → Item → Got
entry_read config number read = got (config.other_start + word_offset config.sizes (AvailEntry (avail_entry_of config number))) read.entry_word

abbrev pub low_read : EndConfig → ℕ → Item → Got
low_read config number read = got (config.other_start + word_offset config.sizes (DescAddress (item_entry config number read))) read.low

abbrev pub high_read : EndConfig → ℕ → Item → Got
high_read config number read = got (config.other_start + word_offset config.sizes (DescAddress (item_entry config number read)) + 1) read.high

abbrev pub length_read : EndConfig → ℕ → Item → Got
length_read config number read = got (config.other_start + word_offset config.sizes (DescLength (item_entry config number read))) read.bytes

abbrev pub flags_read : EndConfig → ℕ → Item → Got
flags_read config number read = got (config.other_start + word_offset config.sizes (DescFlags (item_entry config number read))) read.flags_word

-- The reads of these words of a frame from word `at` on.
abbrev pub word_reads : EndConfig → (address at : ℕ) → List ℕ → List Got
word_reads config address at [] = []
word_reads config address at (word ∷ words) = got (config.other_start + (address / 4 + at)) word ∷ word_reads config address (at + 1) words

-- These are the reads of a valid item, each field read once and in range, and the frame is the
-- bytes of the words read.
pub record IsReadFrame (config : EndConfig) (number : ℕ) (reads : List Got) (frame : List ℕ) : Type 0 where
  pub read : Item
  pub reads_are : reads ≡ entry_read config number read ∷ low_read config number read ∷ high_read config number read ∷ length_read config number read
      ∷ flags_read config number read ∷ word_reads config (item_address read) 0 read.words
  pub good : IsValidItem config number read
  pub frame_is : frame ≡ frame_in read.bytes read.words

-- The last of these reads is of this field of the other's section. Its value is outside the field's
-- range, relative to the side's own counts. For a field of an item the earlier reads passed their
-- tests. An id is the id of a frame that the side counts as freed.
abbrev pub IsReadBeyond : EndConfig → Side → List Got → FieldName → ℕ → Type 0
IsReadBeyond config side reads field_name.AvailIndex value =
    (earlier : List Got) × (word : ℕ) × (reads ≡ earlier ++ got (config.other_start + word_offset config.sizes AvailIndex) word ∷ []) × (value ≡ high_half word) ×
    (¬ IsAvailIndex config.sizes (length side.delivered % 65536) value)
IsReadBeyond config side reads field_name.AvailEntry value =
    (read : Item) × (reads ≡ entry_read config (length side.delivered) read ∷ []) × (value ≡ item_entry config (length side.delivered) read) ×
    (¬ IsAvailEntry config.sizes value)
IsReadBeyond config side reads field_name.DescAddress value =
    (read : Item) × (reads ≡ entry_read config (length side.delivered) read ∷ low_read config (length side.delivered) read
    ∷ high_read config (length side.delivered) read ∷ []) ×
    IsAvailEntry config.sizes (item_entry config (length side.delivered) read) × (value ≡ item_address read) × (¬ IsDescAddress config.sizes value)
IsReadBeyond config side reads field_name.DescLength value =
    (read : Item) × (reads ≡ entry_read config (length side.delivered) read ∷ low_read config (length side.delivered) read
    ∷ high_read config (length side.delivered) read ∷ length_read config (length side.delivered) read ∷ []) ×
    IsAvailEntry config.sizes (item_entry config (length side.delivered) read) × IsDescAddress config.sizes (item_address read) × (value ≡ read.bytes) ×
    (¬ IsDescLength config.sizes (item_address read) value)
IsReadBeyond config side reads field_name.DescFlags value =
    (read : Item) × (reads ≡ entry_read config (length side.delivered) read ∷ low_read config (length side.delivered) read
    ∷ high_read config (length side.delivered) read ∷ length_read config (length side.delivered) read ∷ flags_read config (length side.delivered) read
    ∷ []) ×
    IsAvailEntry config.sizes (item_entry config (length side.delivered) read) × IsDescAddress config.sizes (item_address read) ×
    IsDescLength config.sizes (item_address read) read.bytes × (value ≡ desc_flags read.flags_word) × (¬ IsDescFlags value)
IsReadBeyond config side reads field_name.UsedIndex value =
    (earlier : List Got) × (word : ℕ) × (reads ≡ earlier ++ got (config.other_start + word_offset config.sizes UsedIndex) word ∷ []) × (value ≡ high_half word) ×
    (¬ IsUsedIndex (side.freed % 65536) value (length side.accepted - side.freed))
IsReadBeyond config side reads field_name.UsedId value =
    (earlier : List Got) × (number : ℕ) × (number < side.freed) × (side.freed ≤ number + limit_of config.sizes) ×
    (reads ≡ earlier ++ got (config.other_start + word_offset config.sizes (UsedId (avail_entry_of config number))) value ∷ []) ×
    (¬ IsUsedId (number % limit_of config.sizes) value)

-- A delivered frame is the frame that was read for its item, for all writes of the other side in
-- between.
abbrev pub DeliveredFramesAreRead : Type 0
DeliveredFramesAreRead = (world : World) (before after : List Line) (p : ℕ) (frame : List ℕ) → IsWorld world →
    IsLawful world (before ++ line.Deliver p frame ∷ after) →
    IsReadFrame (config_of world p) (length (side_of (reverse before) p).delivered) (reads_of (reverse before) p) frame

-- A refused value is in the peer's last read, in the field that the refusal names, and is outside
-- its range.
abbrev pub RefusedValuesAreRead : Type 0
RefusedValuesAreRead = (world : World) (before after : List Line) (p : ℕ) (refused : Refused) → IsWorld world →
    IsLawful world (before ++ line.Refuse p refused ∷ after) →
    IsReadBeyond (config_of world p) (side_of (reverse before) p) (reads_of (reverse before) p) refused.field refused.value

-- An honest link peer refuses each value that it reads outside its field's range immediately, and
-- names the field.
abbrev pub OutOfRangeIsRefused : Type 0
OutOfRangeIsRefused = (world : World) (before after : List Line) (p word value : ℕ) (refused : Refused) → IsWorld world → is_link world p ≡ true →
    IsLawful world (before ++ line.Read p word value ∷ after) →
    IsReadBeyond (config_of world p) (side_of (reverse before) p) (reads_of (reverse before) p ++ got word value ∷ []) refused.field refused.value →
    (rest : List Line) × (after ≡ line.Refuse p refused ∷ rest)
