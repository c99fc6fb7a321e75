-- The remainders that a sender stores, and the accesses that follow from them.
use Rattle.std.proofs.Common.{◌≡◌, ℕ, ◌+◌, ◌-◌, ◌/◌, ◌%◌, ◌<◌, ◌≤◌, length, slice_index, arith, ap, sym, ◌∙◌, subst}
use Rattle.std.proofs.lemmas.Nat.{mod_below}
use Rattle.split_ring.specs.declared.steps.Access.TheVariants.{Read, Write}
use Rattle.split_ring.specs.Layout.{HasBounds, size_of, limit_of, word_offset, AvailEntry, UsedId}
use Rattle.call_grammar.specs.Ends.{End}
use Rattle.call_grammar.specs.Ticks.{EndConfig}
use Rattle.call_grammar.specs.Words.{with_entry, lengths_of}
use Rattle.call_grammar.specs.Offers.{descriptor_of, avail_entry_of}
use Rattle.call_grammar.specs.Places as laws
use Rattle.frame_slots.specs.declared.slots.Slot as slots
use Rattle.tx_engine.specs.declared.place.Place.{Place}
use Rattle.tx_engine.specs.declared.place.Place.TheVariants.{ReadingUsedId, WritingAvailEntry}
use Rattle.tx_engine.specs.Sender.{Sender, IsSender, allocator_of, entry_word_of}
use Rattle.tx_engine.specs.Refinement.{RefinesAt, CountsMatch, IsAt, IsMadeFor, HasCopy}
use Rattle.tx_engine.proofs.ModularCounts.{fewer, once}
use Rattle.tx_engine.proofs.Flights.{oldest_of_flight}

-- The facts of the end that follow from the sender's place `here`.
pub at_here : (tx : Sender) (here : Place) (config : EndConfig) (end : End) (place : laws.Place) → tx.place ≡ here → RefinesAt tx config end place → IsAt here tx config end place
at_here tx here config end place is refines = subst (λ p. IsAt p tx config end place) is refines.at

-- The number of frames freed, from those accepted and those in flight.
pub freed_is : (tx : Sender) (config : EndConfig) (end : End) (freed : ℕ) → IsSender tx → CountsMatch tx config end freed → (tx.accepted + 65536 - tx.in_flight) % 65536 ≡ freed % 65536
freed_is tx config end freed is counts =
    let few = is.in_flight in
    let bounds = is.bounds in
    let all = counts.flight.refines.in_flight in
    let small : tx.in_flight ≤ 65536 = omega arith in
    let left : length end.accepted - tx.in_flight ≡ freed = omega arith in
    ap (λ a. (a + 65536 - tx.in_flight) % 65536) counts.accepted ∙ (fewer (length end.accepted) 65536 tx.in_flight (omega arith) small ∙ ap (λ n. n % 65536) left)

-- The oldest descriptor in flight.
pub oldest_is : (tx : Sender) (config : EndConfig) (end : End) (freed : ℕ) → IsSender tx → IsMadeFor tx config → CountsMatch tx config end freed → (tx.next + limit_of tx.sizes - tx.in_flight) % limit_of tx.sizes ≡ descriptor_of config freed
oldest_is tx config end freed is made counts =
    oldest_of_flight (allocator_of tx) (lengths_of end.accepted) freed (length end.accepted) counts.flight.refines ∙ ap (λ q. freed % limit_of q) (sym made.sizes)

-- The position of the next entry.
pub entry_is : (tx : Sender) (config : EndConfig) (number : ℕ) → IsSender tx → IsMadeFor tx config → tx.accepted ≡ number % 65536 → tx.accepted % size_of tx.sizes ≡ avail_entry_of config number
entry_is tx config number is made accepted =
    ap (λ a. a % size_of tx.sizes) accepted ∙ (once number 65536 (size_of tx.sizes) is.bounds.divides ∙ ap (λ q. number % size_of q) (sym made.sizes))

pub entry_below : (tx : Sender) (config : EndConfig) (number : ℕ) → IsSender tx → IsMadeFor tx config → avail_entry_of config number < size_of config.sizes
entry_below tx config number is made =
    let bounds : HasBounds config.sizes = subst HasBounds (sym made.sizes) is.bounds in
    mod_below number (size_of config.sizes) (omega (arith, bounds.size_least))

-- The read of an id.
pub id_access : (tx : Sender) (config : EndConfig) (end : End) (place : laws.Place) (more : ℕ) → IsSender tx → IsMadeFor tx config → IsAt (ReadingUsedId more) tx config end place →
    Read (tx.other_start + word_offset tx.sizes (UsedId ((tx.accepted + 65536 - tx.in_flight) % 65536 % size_of tx.sizes))) ≡ laws.access_at config place
id_access tx config end place more is made (freed, same, found, counts) =
    let entry = ap (λ n. n % size_of tx.sizes) (freed_is tx config end freed is counts) ∙ once freed 65536 (size_of tx.sizes) is.bounds.divides in
    ap (λ k. Read (tx.other_start + word_offset tx.sizes (UsedId k))) entry ∙ (ap (λ q. Read (tx.other_start + word_offset q (UsedId (freed % size_of q)))) (sym made.sizes)
    ∙ (ap (λ t. Read (t + word_offset config.sizes (UsedId (freed % size_of config.sizes)))) (sym made.other_start) ∙ sym (ap (laws.access_at config) same)))

-- The word of the next entry.
pub entry_word_is : (tx : Sender) (config : EndConfig) (end : End) (slot : slots.Slot) → IsSender tx → IsMadeFor tx config → tx.accepted ≡ length end.accepted % 65536 → HasCopy tx config end →
    slot.descriptor ≡ descriptor_of config (length end.accepted) →
    entry_word_of tx slot.descriptor ≡ with_entry (avail_entry_of config (length end.accepted)) (end.written (config.own + word_offset config.sizes (AvailEntry (avail_entry_of config (length end.accepted))))) (descriptor_of config (length end.accepted))
entry_word_is tx config end slot is made accepted copy descriptor =
    let number = length end.accepted in
    let entry = entry_is tx config number is made accepted in
    let below = entry_below tx config number is made in
    ap (λ k. with_entry k (slice_index tx.entries (k / 2)) slot.descriptor) entry ∙ (ap (λ word. with_entry (avail_entry_of config number) word slot.descriptor) (sym (copy (avail_entry_of config number) below))
    ∙ ap (with_entry (avail_entry_of config number) (end.written (config.own + word_offset config.sizes (AvailEntry (avail_entry_of config number))))) descriptor)

-- The write of the entry.
pub entry_access : (tx : Sender) (config : EndConfig) (end : End) (place : laws.Place) (slot : slots.Slot) → IsSender tx → IsMadeFor tx config → IsAt (WritingAvailEntry slot) tx config end place →
    Write (tx.own + word_offset tx.sizes (AvailEntry (tx.accepted % size_of tx.sizes))) (entry_word_of tx slot.descriptor) ≡ laws.access_at config place
entry_access tx config end place slot is made (same, (counts, slot_is)) =
    let number = length end.accepted in
    let value = entry_word_is tx config end slot is made counts.accepted counts.copy (ap (λ (s : slots.Slot). s.descriptor) slot_is) in
    let entry = entry_is tx config number is made counts.accepted in
    let at : tx.own + word_offset tx.sizes (AvailEntry (tx.accepted % size_of tx.sizes)) ≡ config.own + word_offset config.sizes (AvailEntry (avail_entry_of config number)) =
    ap (λ k. tx.own + word_offset tx.sizes (AvailEntry k)) entry ∙ (ap (λ q. tx.own + word_offset q (AvailEntry (avail_entry_of config number))) (sym made.sizes)
    ∙ ap (λ own. own + word_offset config.sizes (AvailEntry (avail_entry_of config number))) (sym made.own)) in
    let access = ap (laws.access_at config) same in
    cc
