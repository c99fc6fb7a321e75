-- The sender after the write of an available entry.
use Rattle.std.proofs.Common.{◌≡◌, ℕ, ◌+◌, ◌*◌, ◌/◌, ◌%◌, ◌<◌, ◌==◌, if◌then◌else◌, List, [], length, slice_index, slice_set, set, arith, refl, ap, sym, ◌∙◌, subst, inl, inr, eq-eqb, ne_eqb}
use Rattle.std.proofs.lemmas.Bool.Decides.{eqb_tells}
use Rattle.std.proofs.lemmas.List.{get_or-set_same, get_or-set_other, length-set}
use Rattle.split_ring.specs.declared.steps.Note.{Note}
use Rattle.split_ring.specs.Layout.{Sizes, size_of, word_offset, AvailEntry}
use Rattle.call_grammar.specs.Steps.{marks_of}
use Rattle.call_grammar.specs.Ends.{End, end_after}
use Rattle.call_grammar.specs.Ticks.{EndConfig}
use Rattle.call_grammar.specs.Words.{with_entry}
use Rattle.call_grammar.specs.Offers.{descriptor_of, avail_entry_of}
use Rattle.call_grammar.specs.Calls.{pending_of}
use Rattle.call_grammar.specs.Places as laws
use Rattle.call_grammar.proofs.OfferLists.{yes, no}
use Rattle.frame_slots.specs.declared.slots.Slot as slots
use Rattle.tx_engine.specs.declared.place.Place.TheVariants.{WritingAvailEntry, WritingAvailIndex}
use Rattle.tx_engine.specs.Sender.{Sender, IsSender, IsPlace, entry_word_of}
use Rattle.tx_engine.specs.Refinement.{IsAt, HasCopy, TakesStep, StaysOpen}
use Rattle.tx_engine.proofs.InvariantByPlace.{placed}
use Rattle.tx_engine.proofs.Accesses.{entry_is, entry_below, entry_word_is}
use Rattle.tx_engine.proofs.AfterReads.{takes}

-- The word of an entry.
word_is : (q : Sizes) (k : ℕ) → word_offset q (AvailEntry k) ≡ 4 * size_of q + 1 + k / 2
word_is q k = omega arith

-- The copy after the write of an entry's word.
copied : (tx : Sender) (config : EndConfig) (end : End) (k value : ℕ) → HasCopy tx config end → 2 * length tx.entries ≡ size_of config.sizes → size_of config.sizes % 64 ≡ 0 → k < size_of config.sizes →
    (j : ℕ) → j < size_of config.sizes →
    (if config.own + word_offset config.sizes (AvailEntry j) == config.own + word_offset config.sizes (AvailEntry k) then value else end.written (config.own + word_offset config.sizes (AvailEntry j))) ≡ slice_index (slice_set tx.entries (k / 2) value) (j / 2)
copied tx config end k value copy sized whole within j below =
    let at = config.own + word_offset config.sizes (AvailEntry j) in
    let here = config.own + word_offset config.sizes (AvailEntry k) in
    let at_is = word_is config.sizes j in
    let here_is = word_is config.sizes k in
    let room : k / 2 < length tx.entries = omega (arith, sized, whole, within) in
    elim (eqb_tells (j / 2) (k / 2)) [
      | inl same ↦ yes (at == here) value (end.written at) (eq-eqb _ _ (omega (arith, at_is, here_is, same.1))) ∙ sym (ap (slice_index (set tx.entries (k / 2) value)) same.1 ∙ get_or-set_same tx.entries (k / 2) value 0 room)
      | inr apart ↦ no (at == here) value (end.written at) (ne_eqb _ _ (λ e. apart.1 (omega (arith, at_is, here_is, e)))) ∙ (copy j below ∙ sym (get_or-set_other tx.entries (k / 2) (j / 2) value 0 apart.1))
    ]

-- The sender stores the word in its copy.
pub entry_taken : (tx old : Sender) (slot : slots.Slot) (value at word : ℕ) (notes : List Note) → tx ≡ old → IsSender tx → tx.place ≡ WritingAvailEntry slot → at ≡ old.accepted % size_of old.sizes →
    word ≡ entry_word_of old slot.descriptor → notes ≡ [] → TakesStep old value notes (record tx { entries = slice_set tx.entries (at / 2) word; place = WritingAvailIndex })
entry_taken tx old slot value at word notes tx_is is here at_is word_is notes_are =
    let new : Sender = record tx { entries = slice_set tx.entries (at / 2) word; place = WritingAvailIndex } in
    subst (λ s. TakesStep s value notes new) tx_is (takes tx new (WritingAvailEntry slot) value notes here refl (λ config end place made (same, (counts, slot_is)).
    let pending = pending_of config end tx.frame in
    let number = length end.accepted in
    let k = avail_entry_of config number in
    let here = config.own + word_offset config.sizes (AvailEntry k) in
    let v = with_entry k (end.written here) (descriptor_of config number) in
    let k_is : at ≡ k = at_is ∙ (ap (λ (s : Sender). s.accepted % size_of s.sizes) (sym tx_is) ∙ entry_is tx config number is made counts.accepted) in
    let v_is : word ≡ v = word_is ∙ (ap (λ (s : Sender). entry_word_of s slot.descriptor) (sym tx_is)
    ∙ entry_word_is tx config end slot is made counts.accepted counts.copy (ap (λ (s : slots.Slot). s.descriptor) slot_is)) in
    let entries_are : slice_set tx.entries (at / 2) word ≡ slice_set tx.entries (k / 2) v = ap (λ n. slice_set tx.entries (n / 2) word) k_is ∙ ap (slice_set tx.entries (k / 2)) v_is in
    let size : size_of config.sizes ≡ size_of tx.sizes = ap size_of made.sizes in
    let whole = is.bounds.size_whole in
    let after = copied tx config end k v counts.copy (is.entries ∙ sym size) (ap (λ n. n % 64) size ∙ whole) (entry_below tx config number is made) in
    subst (λ p. (marks_of tx.frame notes ≡ laws.marks_at config p value) × IsAt WritingAvailIndex new config (end_after end (laws.step_at config p value)) (laws.next_place config p value)) (sym same) (
      ap (marks_of tx.frame) notes_are,
      (
        end.written here,
        refl,
        record {
          accepted = counts.accepted;
          flight = counts.flight;
          copy = λ j below. after j below ∙ ap (λ (es : List ℕ). slice_index es (j / 2)) (sym entries_are);
        },
      ),
    )))

-- The offer is still open.
pub entry_left : (tx old : Sender) (slot : slots.Slot) (value at word : ℕ) → tx ≡ old → IsSender tx → tx.place ≡ WritingAvailEntry slot → at ≡ old.accepted % size_of old.sizes →
    word ≡ entry_word_of old slot.descriptor → StaysOpen old value [] (record tx { entries = slice_set tx.entries (at / 2) word; place = WritingAvailIndex })
entry_left tx old slot value at word tx_is is here at_is word_is = record {
  takes = entry_taken tx old slot value at word [] tx_is is here at_is word_is refl;
  opened = refl;
  sender = let has : IsPlace tx (WritingAvailEntry slot) = subst (IsPlace tx) here is.place in placed tx _ _ WritingAvailIndex is (length-set tx.entries (at / 2) word) has.0;
}
