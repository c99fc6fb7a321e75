-- The contents of an honest writer's section: the latest message, whole, and the one that it is
-- writing, so far.
use Rattle.std.proofs.Common.{◌≡◌, ◌≢◌, ℕ, zero, suc, ◌+◌, ◌/◌, ◌%◌, ◌<◌, ◌≤◌, Bool, true, false, List, [], ◌∷◌, length, refl, sym, ◌∙◌, ap, subst, arith, eq-eqb, ◌⊎◌, inl, inr}
use Rattle.std.specs.Prelude.{◌==◌, if◌then◌else◌}
use Rattle.std.specs.List.{AllByRecursion}
use Rattle.std.proofs.lemmas.Bool.{eqb-true, eqb-false, ne_eqb, cases_lt}
use Rattle.section_map.specs.Geometry.{section_start}
use Rattle.section_map.specs.MayWrite.{InSection}
use Rattle.section_map.proofs.SectionsAreApart.{sections_are_apart}
use Rattle.call_grammar.specs.Words.{words_for, frame_word}
use Rattle.port_text.specs.Scenario.{World, IsWorld}
use Rattle.sampling_port.specs.declared.place.Place.{Place}
use Rattle.sampling_port.specs.declared.place.Place.TheVariants as place
use Rattle.sampling_port.specs.Layout.{length_place, data_place}
use Rattle.sampling_port.specs.Marks.{PortMark}
use Rattle.sampling_port.specs.Views.{PortView, IsPlace, writing_place}
use Rattle.sampling_port.specs.EventRecords.{Line, Wrote, Marked}
use Rattle.sampling_port.specs.Memory.{last_write}
use Rattle.call_grammar.proofs.BytesOfWords.{IsByte}
use Rattle.sampling_port.proofs.CallsArePermitted.{length_place_least, length_place_most}

-- Words of the writer's section

abbrev pub head_of : World → ℕ → ℕ
head_of world q = section_start world.geometry q

abbrev pub length_at : World → (q number : ℕ) → ℕ
length_at world q number = head_of world q + length_place world.most number

abbrev pub data_at : World → (q number j : ℕ) → ℕ
data_at world q number j = head_of world q + data_place world.most number + j

abbrev pub IsMessage : World → List ℕ → Type 0
IsMessage world m = (1 ≤ length m) × (length m ≤ world.most) × AllByRecursion IsByte m

abbrev pub IsLengthOf : ℕ → ℕ → Type 0
IsLengthOf most bytes = (1 ≤ bytes) × (bytes ≤ most)

-- The buffer of this number holds the message.
abbrev pub Spells : World → ℕ → List Line → ℕ → List ℕ → Type 0
Spells world q past number m = (last_write past (length_at world q number) ≡ length m) × ((j : ℕ) → j < words_for (length m) → last_write past (data_at world q number j) ≡ frame_word m j)

-- The newest of the messages published, listed newest first, is in its buffer.
abbrev pub Latest : World → ℕ → List Line → List (List ℕ) → Type 0
Latest world q past [] = Unit {0}
Latest world q past (m ∷ older) = Spells world q past (length older + 1) m

-- The part of the message being written that was written so far.
abbrev pub Opened : World → ℕ → List Line → PortView → Place → Type 0
Opened world q past port (place.WritingWord at more) =
    (last_write past (length_at world q (port.published + 1)) ≡ length port.hand) × ((j : ℕ) → j < at → last_write past (data_at world q (port.published + 1) j) ≡ frame_word port.hand j)
Opened world q past port place.WritingSequence = Spells world q past (port.published + 1) port.hand
Opened world q past port _ = Unit {0}

pub record Writer (world : World) (q : ℕ) (past : List Line) (port : PortView) (done : List (List ℕ)) : Type 0 where
  pub count : length done ≡ port.published
  pub sequence : last_write past (head_of world q) ≡ length done
  pub latest : Latest world q past done
  pub lengths : (number : ℕ) → 1 ≤ number → number ≤ length done → IsLengthOf world.most (last_write past (length_at world q number))
  pub sizes : AllByRecursion (IsMessage world) done
  pub writing : Opened world q past port port.place

-- Offsets of the words

pub head_in : (world : World) (q : ℕ) → IsWorld world → InSection world.geometry q (head_of world q)
head_in world q is = let page = is.geometry.out_page in (omega arith, omega arith)

pub length_in : (world : World) (q number : ℕ) → IsWorld world → InSection world.geometry q (length_at world q number)
length_in world q number is =
    let most = length_place_most world.most number in
    let size = is.size in
    let room = is.room in
    (omega arith, omega arith)

pub data_in : (world : World) (q number j : ℕ) → IsWorld world → j < world.most / 4 → InSection world.geometry q (data_at world q number j)
data_in world q number j is few =
    let most = length_place_most world.most number in
    let size = is.size in
    let room = is.room in
    (omega arith, omega arith)

few_words : (most bytes j : ℕ) → most % 4 ≡ 0 → bytes ≤ most → j < words_for bytes → j < most / 4
few_words most bytes j four few below = omega arith

-- A buffer begins at one of two offsets, and the next one at the other.
abbrev Either : ℕ → ℕ → ℕ → Type 0
Either most at next = ((at ≡ 1) × (next ≡ 2 + most / 4)) ⊎ ((at ≡ 2 + most / 4) × (next ≡ 1))

alternate : (most n : ℕ) (b c : Bool) → (n % 2 == 0) ≡ b → ((n + 1) % 2 == 0) ≡ c → Either most (if b then 1 else 2 + most / 4) (if c then 1 else 2 + most / 4)
alternate most n true false is next = inl (refl, refl)
alternate most n false true is next = inr (refl, refl)
alternate most n true true is next = let even = eqb-true _ _ is in let odd = eqb-true _ _ next in absurd (omega arith)
alternate most n false false is next =
    elim (cases_lt (n % 2) 1) [
      | inl less ↦ absurd (eqb-false _ _ is (omega arith))
      | inr more ↦ absurd (eqb-false _ _ next (odd n more))
    ]
  where
    odd : (n : ℕ) → 1 ≤ n % 2 → (n + 1) % 2 ≡ 0
    odd n more = omega arith

pub places : (most n : ℕ) → Either most (length_place most n) (length_place most (n + 1))
places most n = alternate most n _ _ refl refl

pub one_of : (most n : ℕ) → (length_place most n ≡ 1) ⊎ (length_place most n ≡ 2 + most / 4)
one_of most n = by (n % 2 == 0)
  where
    by : (b : Bool) → ((if b then 1 else 2 + most / 4) ≡ 1) ⊎ ((if b then 1 else 2 + most / 4) ≡ 2 + most / 4)
    by true = inl refl
    by false = inr refl

-- A write

pub wrote_other : (p at value word : ℕ) (past : List Line) → word ≢ at → last_write (Wrote p at value ∷ past) word ≡ last_write past word
wrote_other p at value word past other = rw (ne_eqb at word (λ e. other (sym e))) refl

pub wrote_same : (p at value word : ℕ) (past : List Line) → word ≡ at → last_write (Wrote p at value ∷ past) word ≡ value
wrote_same p at value word past same = rw (eq-eqb at word (sym same)) refl

-- The words of the section are the same.
abbrev pub Same : World → ℕ → List Line → List Line → Type 0
Same world q past new = (word : ℕ) → InSection world.geometry q word → last_write new word ≡ last_write past word

-- A write into another section doesn't change them.
pub same_beside : (world : World) (q p at value : ℕ) (past : List Line) → p ≢ q → InSection world.geometry p at → Same world q past (Wrote p at value ∷ past)
same_beside world q p at value past other there = λ word inside. wrote_other p at value word past (λ e. sections_are_apart world.geometry p q at other there (subst (λ (w : ℕ). InSection world.geometry q w) e inside))

pub spells_same : (world : World) (q : ℕ) (past new : List Line) (number : ℕ) (m : List ℕ) → IsWorld world → length m ≤ world.most → Same world q past new → Spells world q past number m → Spells world q new number m
spells_same world q past new number m is few same spells = (
  same (length_at world q number) (length_in world q number is) ∙ spells.0,
  λ j below. same (data_at world q number j) (data_in world q number j is (few_words world.most (length m) j is.size.0 few below)) ∙ spells.1 j below,
)

latest_same : (world : World) (q : ℕ) (past new : List Line) (done : List (List ℕ)) → IsWorld world → AllByRecursion (IsMessage world) done → Same world q past new → Latest world q past done → Latest world q new done
latest_same world q past new [] is sizes same latest = tt
latest_same world q past new (m ∷ older) is sizes same latest = spells_same world q past new (length older + 1) m is sizes.0.1 same latest

pub opened_same : (world : World) (q : ℕ) (past new : List Line) (port : PortView) (p : Place) → IsWorld world → port.most ≡ world.most → length port.hand ≤ port.most → IsPlace port p → Same world q past new → Opened world q past port p → Opened world q new port p
opened_same world q past new port place.Closed is most few there same opened = tt
opened_same world q past new port place.WritingLength is most few there same opened = tt
opened_same world q past new port (place.WritingWord at more) is most few there same opened = (
  same (length_at world q (port.published + 1)) (length_in world q (port.published + 1) is) ∙ opened.0,
  λ j below. same (data_at world q (port.published + 1) j) (data_in world q (port.published + 1) j is (few_words world.most (length port.hand) j is.size.0 (omega arith) (omega (arith, there.0)))) ∙ opened.1 j below,
)
opened_same world q past new port place.WritingSequence is most few there same opened = spells_same world q past new (port.published + 1) port.hand is (omega arith) same opened
opened_same world q past new port _ is most few there same opened = tt

-- If the words don't change, the writer's state doesn't.
pub writer_same : (world : World) (q : ℕ) (past new : List Line) (port next : PortView) (done : List (List ℕ)) → IsWorld world → Same world q past new → Writer world q past port done → next.published ≡ port.published →
    Opened world q new next next.place → Writer world q new next done
writer_same world q past new port next done is same writer published opened = record {
  count = writer.count ∙ sym published;
  sequence = same (head_of world q) (head_in world q is) ∙ writer.sequence;
  latest = latest_same world q past new done is writer.sizes same writer.latest;
  lengths = λ number some few. subst (λ (k : ℕ). IsLengthOf world.most k) (sym (same (length_at world q number) (length_in world q number is))) (writer.lengths number some few);
  sizes = writer.sizes;
  writing = opened;
}

-- The steps of a publish

-- The latest message doesn't change if a word of the other buffer is written.
latest_beside : (world : World) (q p at value k : ℕ) (past : List Line) (done : List (List ℕ)) → IsWorld world → AllByRecursion (IsMessage world) done → at ≡ head_of world q + k →
    ((number j : ℕ) → number ≡ length done → j < world.most / 4 → (k ≢ length_place world.most number) × (k ≢ data_place world.most number + j)) → Latest world q past done → Latest world q (Wrote p at value ∷ past) done
latest_beside world q p at value k past [] is sizes same apart latest = tt
latest_beside world q p at value k past (m ∷ older) is sizes same apart latest =
    let n = length older + 1 in (
      wrote_other p at value (length_at world q n) past (λ e. (apart n 0 (omega arith) (omega (arith, is.size.1))).0 (omega arith)) ∙ latest.0,
      λ j below.
          wrote_other p at value (data_at world q n j) past (λ e. (apart n j (omega arith) (few_words world.most (length m) j is.size.0 sizes.0.1 below)).1 (omega arith)) ∙ latest.1 j below,
    )

opened_writing : (world : World) (q : ℕ) (past : List Line) (port : PortView) (at count : ℕ) → at + count ≡ words_for (length port.hand) → last_write past (length_at world q (port.published + 1)) ≡ length port.hand →
    ((j : ℕ) → j < at → last_write past (data_at world q (port.published + 1) j) ≡ frame_word port.hand j) → Opened world q past (record port { place = writing_place at count }) (writing_place at count)
opened_writing world q past port at zero all size words = (size, λ j below. words j (omega arith))
opened_writing world q past port at (suc more) all size words = (size, words)

-- The length was written.
pub wrote_length : (world : World) (q : ℕ) (past : List Line) (port : PortView) (done : List (List ℕ)) → IsWorld world → IsLengthOf world.most (length port.hand) → Writer world q past port done →
    Writer world q (Wrote q (length_at world q (port.published + 1)) (length port.hand) ∷ past) (record port { place = writing_place 0 (words_for (length port.hand)) }) done
wrote_length world q past port done is fits writer =
    let at = length_at world q (port.published + 1) in
    let value = length port.hand in
    let k = length_place world.most (port.published + 1) in
    let least = length_place_least world.most (port.published + 1) in
    let count = writer.count in
    record {
      count = writer.count;
      sequence = wrote_other q at value (head_of world q) past (λ e. omega arith) ∙ writer.sequence;
      latest = latest_beside world q q at value k past done is writer.sizes refl (λ number j same few. apart number j (same ∙ count) few) writer.latest;
      lengths = λ number some few. either number (at == length_at world q number) refl (writer.lengths number some few);
      sizes = writer.sizes;
      writing = opened_writing world q (Wrote q at value ∷ past) port 0 (words_for (length port.hand)) (omega arith) (wrote_same q at value at past refl) (λ j below. no_words j below);
    }
  where
    apart : (number j : ℕ) → number ≡ port.published → j < world.most / 4 → (length_place world.most (port.published + 1) ≢ length_place world.most number) × (length_place world.most (port.published + 1) ≢ data_place world.most number + j)
    apart number j same few =
        elim (places world.most port.published) [
          | inl low ↦ let a = low.0 in let b = low.1 in let s = ap (λ n. length_place world.most n) same in ((λ e. omega arith), (λ e. omega arith))
          | inr high ↦ let a = high.0 in let b = high.1 in let s = ap (λ n. length_place world.most n) same in ((λ e. omega arith), (λ e. omega arith))
        ]

    no_words : (j : ℕ) → j < 0 → last_write (Wrote q (length_at world q (port.published + 1)) (length port.hand) ∷ past) (data_at world q (port.published + 1) j) ≡ frame_word port.hand j
    no_words j below = absurd (omega arith)

    either : (number : ℕ) (b : Bool) → (length_at world q (port.published + 1) == length_at world q number) ≡ b → IsLengthOf world.most (last_write past (length_at world q number)) →
        IsLengthOf world.most (if b then length port.hand else last_write past (length_at world q number))
    either number true same old = fits
    either number false other old = old

-- A word was written.
pub wrote_word : (world : World) (q at more : ℕ) (past : List Line) (port : PortView) (done : List (List ℕ)) → IsWorld world → length port.hand ≤ world.most → port.place ≡ place.WritingWord at more → at + more + 1 ≡ words_for (length port.hand) →
    Writer world q past port done →
    Writer world q (Wrote q (data_at world q (port.published + 1) at) (frame_word port.hand at) ∷ past) (record port { place = writing_place (at + 1) more }) done
wrote_word world q at more past port done is fits here all writer =
    let word = data_at world q (port.published + 1) at in
    let value = frame_word port.hand at in
    let few : at < world.most / 4 = few_words world.most (length port.hand) at is.size.0 fits (omega arith) in
    let least = length_place_least world.most (port.published + 1) in
    let opened : Opened world q past port (place.WritingWord at more) = subst (λ (p : Place). Opened world q past port p) here writer.writing in
    let count = writer.count in
    record {
      count = writer.count;
      sequence = wrote_other q word value (head_of world q) past (λ e. omega arith) ∙ writer.sequence;
      latest = latest_beside world q q word value (data_place world.most (port.published + 1) + at) past done is writer.sizes (omega arith) (λ number j same below. apart number j (same ∙ count) below few) writer.latest;
      lengths = λ number some below. subst (λ (n : ℕ). IsLengthOf world.most n) (sym (wrote_other q word value (length_at world q number) past (λ e. length_apart number few (omega arith)))) (writer.lengths number some below);
      sizes = writer.sizes;
      writing = opened_writing world q (Wrote q word value ∷ past) port (at + 1) more (omega arith) (wrote_other q word value (length_at world q (port.published + 1)) past (λ e. omega arith) ∙ opened.0)
          (λ j below. words j below opened.1);
    }
  where
    apart : (number j : ℕ) → number ≡ port.published → j < world.most / 4 → at < world.most / 4 → (data_place world.most (port.published + 1) + at ≢ length_place world.most number) × (data_place world.most (port.published + 1) + at ≢ data_place world.most number + j)
    apart number j same below few =
        elim (places world.most port.published) [
          | inl low ↦ let a = low.0 in let b = low.1 in let s = ap (λ n. length_place world.most n) same in ((λ e. omega arith), (λ e. omega arith))
          | inr high ↦ let a = high.0 in let b = high.1 in let s = ap (λ n. length_place world.most n) same in ((λ e. omega arith), (λ e. omega arith))
        ]

    length_apart : (number : ℕ) → at < world.most / 4 → length_place world.most number ≡ data_place world.most (port.published + 1) + at → ⊥
    length_apart number few e =
        elim (one_of world.most number) [
          | inl one ↦ let l = length_place_least world.most (port.published + 1) in omega arith
          | inr two ↦
              elim (one_of world.most (port.published + 1)) [
                | inl low ↦ omega arith
                | inr high ↦ omega arith
              ]
        ]

    words : (j : ℕ) → j < at + 1 → ((j : ℕ) → j < at → last_write past (data_at world q (port.published + 1) j) ≡ frame_word port.hand j) →
        last_write (Wrote q (data_at world q (port.published + 1) at) (frame_word port.hand at) ∷ past) (data_at world q (port.published + 1) j) ≡ frame_word port.hand j
    words j below old =
        elim (cases_lt j at) [
          | inl less ↦ wrote_other q (data_at world q (port.published + 1) at) (frame_word port.hand at) (data_at world q (port.published + 1) j) past (λ e. omega arith) ∙ old j less
          | inr upto ↦
              let same : j ≡ at = omega arith in
              wrote_same q (data_at world q (port.published + 1) at) (frame_word port.hand at) (data_at world q (port.published + 1) j) past (ap (λ i. data_at world q (port.published + 1) i) same) ∙ ap (λ i. frame_word port.hand i) (sym same)
        ]

-- The number was written: the message is now the latest.
pub wrote_sequence : (world : World) (q : ℕ) (mark : PortMark) (past : List Line) (port next : PortView) (done : List (List ℕ)) → IsWorld world → IsMessage world port.hand → port.place ≡ place.WritingSequence → next.published ≡ port.published + 1 →
    next.place ≡ place.Closed → Writer world q past port done →
    Writer world q (Marked q mark ∷ Wrote q (head_of world q) (port.published + 1) ∷ past) next (port.hand ∷ done)
wrote_sequence world q mark past port next done is message here published shut writer =
    let at = head_of world q in
    let value = port.published + 1 in
    let count = writer.count in
    let opened : Spells world q past (port.published + 1) port.hand = subst (λ (p : Place). Opened world q past port p) here writer.writing in
    let n : length done + 1 ≡ port.published + 1 = omega arith in
    let whole : Spells world q past (length done + 1) port.hand = subst (λ (k : ℕ). Spells world q past k port.hand) (sym n) opened in
    record {
      count = omega arith;
      sequence = wrote_same q at value at past refl ∙ (omega arith);
      latest = (
        wrote_other q at value (length_at world q (length done + 1)) past (λ e. above (length done + 1) e) ∙ whole.0,
        λ j below. wrote_other q at value (data_at world q (length done + 1) j) past (λ e. omega arith) ∙ whole.1 j below,
      );
      lengths = λ number some few.
          subst (λ (k : ℕ). IsLengthOf world.most k) (sym (wrote_other q at value (length_at world q number) past (λ e. above number e))) (lengths number some (omega arith) whole);
      sizes = (message, writer.sizes);
      writing = rw shut tt;
    }
  where
    above : (number : ℕ) → length_at world q number ≡ head_of world q → ⊥
    above number e = let least = length_place_least world.most number in omega arith

    lengths : (number : ℕ) → 1 ≤ number → number ≤ length done + 1 → Spells world q past (length done + 1) port.hand → IsLengthOf world.most (last_write past (length_at world q number))
    lengths number some few whole =
        elim (cases_lt number (length done + 1)) [
          | inl less ↦ writer.lengths number some (omega arith)
          | inr upto ↦
              let same : number ≡ length done + 1 = omega arith in
              subst (λ (k : ℕ). IsLengthOf world.most k) (sym (ap (λ i. last_write past (length_at world q i)) same ∙ whole.0)) (message.0, message.1)
        ]
