-- The values read for an item, as the words of a section.
use Rattle.std.proofs.Common.{◌≡◌, ◌≢◌, ℕ, ◌+◌, ◌-◌, ◌/◌, List, [], ◌∷◌, ◌++◌, length, map, refl, sym, ap, ◌∙◌, subst, append_assoc, arith, eq-eqb, ne_eqb}
use Rattle.std.specs.Prelude.{◌==◌, reverse}
use Rattle.split_ring.specs.Layout.{word_offset, DescAddress, DescLength, DescFlags, AvailEntry}
use Rattle.call_grammar.specs.Steps.{Mark, Deliver}
use Rattle.call_grammar.specs.Calls.{EndConfig}
use Rattle.call_grammar.specs.Words.{frame_in}
use Rattle.call_grammar.specs.Offers.{avail_entry_of}
use Rattle.call_grammar.specs.Polls.{Item, item_entry, item_address, IsValidItem, item_steps, word_steps, return_steps}
use Rattle.call_grammar.specs.Permitted.{HasSections}
use Rattle.call_grammar.specs.ReadsOnce as once
use Rattle.call_grammar.specs.ReadsOnce.{IsNone, AreDistinct}
use Rattle.call_grammar.specs.ItemSpelling.{AllMatchWords}
use Rattle.call_grammar.proofs.OfferLists.{yes, no}
use Rattle.call_grammar.proofs.ItemWords as items
use Rattle.call_grammar.proofs.FieldsAreReadOnce.{distinct}
use Rattle.lawful_history.specs.Sides.{config_of}
use Rattle.lawful_history.proofs.Exists.{has_sections}
use Rattle.history_laws.specs.SideEvents.{side_of}
use Rattle.history_laws.specs.Reads.{Got, got, entry_read, low_read, high_read, length_read, flags_read, word_reads}
use Rattle.history_laws.specs.Delivered.{words_read, IsSpelledByReads, DeliveredFramesAreSpelled}
use Rattle.history_laws.proofs.AtMarks.{delivered_frames_are_read}

abbrev word_of : Got → ℕ
word_of read = read.word

-- A word that was read once has the value of its read

is_other : (word : ℕ) (read : Got) (before after : List Got) → IsNone word (map word_of (before ++ read ∷ after)) → word ≢ read.word
is_other word read [] after none = none.0
is_other word read (first ∷ before) after none = is_other word read before after none.1

found : (config : EndConfig) (read : Got) (place : ℕ) (before after : List Got) → read.word ≡ config.other_start + place → AreDistinct (map word_of (before ++ read ∷ after)) → words_read config (before ++ read ∷ after) place ≡ read.value
found config read place [] after is apart = yes (read.word == config.other_start + place) read.value (words_read config after place) (eq-eqb read.word (config.other_start + place) is)
found config read place (first ∷ before) after is apart =
    let differs : first.word ≢ config.other_start + place = λ same. is_other first.word read before after apart.0 (same ∙ sym is) in
    no (first.word == config.other_start + place) first.value (words_read config (before ++ read ∷ after) place) (ne_eqb first.word (config.other_start + place) differs) ∙ found config read place before after is apart.1

-- So the step that read it met that word.
meets : (config : EndConfig) (read : Got) (place : ℕ) (before after : List Got) → read.word ≡ config.other_start + place → AreDistinct (map word_of (before ++ read ∷ after)) → read.value ≡ words_read config (before ++ read ∷ after) (read.word - config.other_start)
meets config read place before after is apart =
    let at : read.word - config.other_start ≡ place = omega arith in sym (ap (words_read config (before ++ read ∷ after)) at ∙ found config read place before after is apart)

-- The words of the frame

module _ (config : EndConfig) (number entry address : ℕ) (marks : List Mark) where
  words_match : (before : List Got) (at : ℕ) (words : List ℕ) → AreDistinct (map word_of (before ++ word_reads config address at words)) →
      AllMatchWords config (words_read config (before ++ word_reads config address at words)) (word_steps config address at words marks ++ return_steps config number entry)
  words_match before at [] apart = (tt, (tt, (tt, tt)))
  words_match before at (word ∷ words) apart =
      let read = got (config.other_start + (address / 4 + at)) word in
      let rest = word_reads config address (at + 1) words in
      let joined : (before ++ read ∷ []) ++ rest ≡ before ++ read ∷ rest = append_assoc before (read ∷ []) rest in (
        meets config read (address / 4 + at) before rest refl apart,
        subst (λ (reads : List Got). AllMatchWords config (words_read config reads) (word_steps config address (at + 1) words marks ++ return_steps config number entry)) joined
            (words_match (before ++ read ∷ []) (at + 1) words (subst (λ (reads : List Got). AreDistinct (map word_of reads)) (sym joined) apart)),
      )

  words_are : (at : ℕ) (words : List ℕ) → once.reads_of (word_steps config address at words marks ++ return_steps config number entry) ≡ map word_of (word_reads config address at words)
  words_are at [] = refl
  words_are at (word ∷ words) = ap (λ (rest : List ℕ). (config.other_start + (address / 4 + at)) ∷ rest) (words_are (at + 1) words)

-- The reads of an item

abbrev item_reads : EndConfig → ℕ → Item → List Got
item_reads config number read = entry_read config number read ∷ low_read config number read ∷ high_read config number read ∷ length_read config number read ∷ flags_read config number read ∷ word_reads config (item_address read) 0 read.words

module _ (config : EndConfig) (number : ℕ) (read : Item) where
  abbrev delivers : List Mark
  delivers = Deliver (frame_in read.bytes read.words) ∷ []

  are_distinct : HasSections config → IsValidItem config number read → AreDistinct (map word_of (item_reads config number read))
  are_distinct has good =
      let e = item_entry config number read in
      let t = config.other_start in
      subst (λ (rest : List ℕ). AreDistinct ((t + word_offset config.sizes (AvailEntry (avail_entry_of config number))) ∷ (t + word_offset config.sizes (DescAddress e)) ∷ (t + word_offset config.sizes (DescAddress e) + 1) ∷ (t + word_offset config.sizes (DescLength e)) ∷ (t + word_offset config.sizes (DescFlags e)) ∷ rest))
      (words_are config number e (item_address read) delivers 0 read.words) (distinct.taken config number read has good)

  match : AreDistinct (map word_of (item_reads config number read)) → AllMatchWords config (words_read config (item_reads config number read)) (item_steps config number read)
  match apart =
      let e = item_entry config number read in
      let entry = entry_read config number read in
      let low = low_read config number read in
      let high = high_read config number read in
      let bytes = length_read config number read in
      let flags = flags_read config number read in
      let words = word_reads config (item_address read) 0 read.words in (
        meets config entry (word_offset config.sizes (AvailEntry (avail_entry_of config number))) [] (low ∷ high ∷ bytes ∷ flags ∷ words) refl apart,
        (
          meets config low (word_offset config.sizes (DescAddress e)) (entry ∷ []) (high ∷ bytes ∷ flags ∷ words) refl apart,
          (
            meets config high (word_offset config.sizes (DescAddress e) + 1) (entry ∷ low ∷ []) (bytes ∷ flags ∷ words) (omega arith) apart,
            (
              meets config bytes (word_offset config.sizes (DescLength e)) (entry ∷ low ∷ high ∷ []) (flags ∷ words) refl apart,
              (
                meets config flags (word_offset config.sizes (DescFlags e)) (entry ∷ low ∷ high ∷ bytes ∷ []) words refl apart,
                words_match config number e (item_address read) delivers (entry ∷ low ∷ high ∷ bytes ∷ flags ∷ []) 0 read.words apart,
              ),
            ),
          ),
        ),
      )

  spelled_item : HasSections config → IsValidItem config number read → IsSpelledByReads config number (item_reads config number read) (frame_in read.bytes read.words)
  spelled_item has good =
      let apart = are_distinct has good in
      record {
        once = apart;
        entry = item_entry config number read;
        spelled = items.spelled config number read (words_read config (item_reads config number read)) good (match apart);
      }

pub delivered_frames_are_spelled : DeliveredFramesAreSpelled
delivered_frames_are_spelled world before after p frame is lawful =
    let config = config_of world p in
    let number = length (side_of (reverse before) p).delivered in
    let by = delivered_frames_are_read world before after p frame is lawful in
    subst (λ (reads : List Got). IsSpelledByReads config number reads frame) (sym by.reads_are)
    (subst (λ (f : List ℕ). IsSpelledByReads config number (item_reads config number by.read) f) (sym by.frame_is) (spelled_item config number by.read (has_sections world p is) by.good))
