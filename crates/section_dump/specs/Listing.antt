-- The listing of an image (profile).
use Rattle.std.specs.Prelude.{◌≡◌, ℕ, zero, suc, ◌+◌, ◌-◌, ◌%◌, List, [], ◌∷◌, ◌++◌, length, Option, Some, None}
use Rattle.ivs_base.specs.Numbers.{distance}
use Rattle.split_ring.specs.Layout.{Sizes, queue_size, rings_len}
use Rattle.split_ring.specs.Ranges.{IsAvailIndex, IsAvailEntry, IsDescAddress, IsDescLength, IsDescFlags}
use Rattle.split_ring.specs.Spelling.{avail_index, used_index, entry_at, address_at, length_at, flags_at, Spells}
use Rattle.split_ring.specs.declared.ranges.FieldName.{FieldName}
use Rattle.split_ring.specs.declared.ranges.FieldName.TheVariants.{AvailIndex, AvailEntry, DescAddress, DescLength, DescFlags, UsedIndex, UsedId}
use Rattle.section_dump.specs.Lines.{Line, Peers, Table, Common, Out, QueueSizes, NoQueue, State, Section, Frame, Bad, End, text_of}
use Rattle.section_dump.specs.Image.{peers_in, table_in, common_in, out_in, queue_in, region_words, section_words}

-- Below, `words` gives the value of each word of a section, by its number from the start of the
-- section.

-- The item at a position is one that a poll accepts: this entry, address and length, with each
-- field in range.
pub record IsAccepted (q : Sizes) (words : ℕ → ℕ) (position entry address length : ℕ) : Type 0 where
  pub entry_is : entry_at q words position ≡ entry
  pub address_is : address_at q words entry ≡ address
  pub length_is : length_at q words entry ≡ length
  pub in_entries : IsAvailEntry q entry
  pub in_data : IsDescAddress q address
  pub in_section : IsDescLength q address length
  pub no_flags : IsDescFlags (flags_at q words entry)

-- The first field of the item at a position that a poll would refuse, and its value; the fields
-- before it are in range.
abbrev pub IsFirstRefused : Sizes → (ℕ → ℕ) → ℕ → FieldName → ℕ → Type 0
IsFirstRefused q words position AvailEntry value =
    let e = entry_at q words position in
    (¬ IsAvailEntry q e) × (value ≡ e)
IsFirstRefused q words position DescAddress value =
    let e = entry_at q words position in
    IsAvailEntry q e × (¬ IsDescAddress q (address_at q words e)) × (value ≡ address_at q words e)
IsFirstRefused q words position DescLength value =
    let e = entry_at q words position in
    IsAvailEntry q e × IsDescAddress q (address_at q words e)
    × (¬ IsDescLength q (address_at q words e) (length_at q words e)) × (value ≡ length_at q words e)
IsFirstRefused q words position DescFlags value =
    let e = entry_at q words position in
    IsAvailEntry q e × IsDescAddress q (address_at q words e) × IsDescLength q (address_at q words e) (length_at q words e)
    × (¬ IsDescFlags (flags_at q words e)) × (value ≡ flags_at q words e)
IsFirstRefused q words position AvailIndex value = ⊥
IsFirstRefused q words position UsedIndex value = ⊥
IsFirstRefused q words position UsedId value = ⊥

-- The line of a position: the frame that is spelled there, or the first field that a poll would
-- refuse.
abbrev pub IsItem : Sizes → (ℕ → ℕ) → ℕ → Line → Type 0
IsItem q words position (Frame k e address length bytes) =
    Spells q words position e bytes × (k ≡ position) × (address ≡ address_at q words e) × (length ≡ length_at q words e)
IsItem q words position (Bad k field value) = IsFirstRefused q words position field value × (k ≡ position)
IsItem q words position _ = ⊥

-- The one line of a position.
abbrev pub IsItemLine : Sizes → (ℕ → ℕ) → ℕ → List Line → Type 0
IsItemLine q words position [] = ⊥
IsItemLine q words position (line ∷ []) = IsItem q words position line
IsItemLine q words position (line ∷ next ∷ lines) = ⊥

-- The lines of the positions from this one on; position 0 follows 65,535.
abbrev pub AreItems : Sizes → (ℕ → ℕ) → ℕ → List Line → Type 0
AreItems q words position [] = Unit {0}
AreItems q words position (line ∷ lines) = IsItem q words (position % 65536) line × AreItems q words (position + 1) lines

-- The lines of `count` positions from this one on.
abbrev pub AreItemsOf : Sizes → (ℕ → ℕ) → (position count : ℕ) → List Line → Type 0
AreItemsOf q words position count lines = AreItems q words position lines × (length lines ≡ count)

-- The lines of a peer's section: its available index and the other's used index. Then comes the
-- line of each position between them, or one line if the indices are too far apart.
pub record IsSection (q : Sizes) (words others : ℕ → ℕ) (peer : ℕ) (lines : List Line) : Type 0 where
  pub items : List Line
  pub begins : lines ≡ Section peer (avail_index q words) (used_index q others) ∷ items
  pub listed : IsAvailIndex q (used_index q others) (avail_index q words)
      → AreItemsOf q words (used_index q others) (distance (used_index q others) (avail_index q words)) items
  pub refused : ¬ IsAvailIndex q (used_index q others) (avail_index q words)
      → items ≡ Bad (avail_index q words) AvailIndex (avail_index q words) ∷ []

-- The lines of the section of peer 0, and then of that of peer 1.
abbrev pub AreTwoSections : List ℕ → List Line → Type 0
AreTwoSections image lines = (first second : List Line)
    × IsSection (queue_in image) (section_words image 0) (section_words image 1) 0 first
    × IsSection (queue_in image) (section_words image 1) (section_words image 0) 1 second
    × (lines ≡ first ++ second)

-- The lines of the sections, if there is a queue.
abbrev pub AreSections : List ℕ → Option ℕ → List Line → Type 0
AreSections image None lines = lines ≡ []
AreSections image (Some n) lines = AreTwoSections image lines

-- The sizes of the header.
abbrev pub head_lines : List ℕ → List Line
head_lines image = Peers (peers_in image) ∷ Table (table_in image) ∷ Common (common_in image) ∷ Out (out_in image) ∷ []

-- The line of the queue size in a section of `out` bytes, with the sizes of its rings and its data
-- area.
abbrev pub queue_line : ℕ → Option ℕ → Line
queue_line out None = NoQueue
queue_line out (Some n) = QueueSizes n (rings_len n) (out - rings_len n)

-- The states of the peers below this one, ascending.
abbrev pub state_lines : (ℕ → ℕ) → ℕ → List Line
state_lines words zero = []
state_lines words (suc peer) = state_lines words peer ++ State peer (words peer) ∷ []

-- The lines between the sizes and the end: the queue, the states and the sections.
pub record IsBody (image : List ℕ) (lines : List Line) : Type 0 where
  pub sections : List Line
  pub are_sections : AreSections image (queue_size (out_in image)) sections
  pub lines_are : lines ≡ queue_line (out_in image) (queue_size (out_in image)) ∷ (state_lines (region_words image) (peers_in image) ++ sections)

-- The text is the listing of the image.
pub record IsListing (image : List ℕ) (text : List ℕ) : Type 0 where
  pub body : List Line
  pub is_body : IsBody image body
  pub text_is : text ≡ text_of (head_lines image ++ body ++ End ∷ [])
