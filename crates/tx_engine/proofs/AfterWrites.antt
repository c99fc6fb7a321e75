-- The sender after the write of a word of the offered frame, of its descriptor or of the index.
use Rattle.std.proofs.Common.{◌≡◌, ◌≢◌, ℕ, suc, ◌+◌, ◌*◌, ◌/◌, ◌%◌, ◌<◌, ◌≤◌, ◌==◌, if◌then◌else◌, Bool, true, false, List, [], ◌∷◌, ◌++◌, length, arith, refl, ap, sym, ◌∙◌, subst, ne_eqb, length-append}
use Rattle.std.proofs.lemmas.Nat.{mod_below}
use Rattle.split_ring.specs.declared.steps.Note.{Note}
use Rattle.split_ring.specs.declared.steps.Note.TheVariants as note
use Rattle.split_ring.specs.Layout.{Sizes, IsQueue, size_of, limit_of, data_area_start, word_offset, has_events, DescAddress, DescLength, DescFlags, AvailEntry, AvailIndex}
use Rattle.split_ring.proofs.QueueHasBounds.{bounds}
use Rattle.split_ring.proofs.FramesAreLaidOut.{frames_are_laid_out}
use Rattle.call_grammar.specs.Steps.{marks_of}
use Rattle.call_grammar.specs.Ends.{End, end_after}
use Rattle.call_grammar.specs.Ticks.{EndConfig}
use Rattle.call_grammar.specs.Words.{lengths_of}
use Rattle.call_grammar.specs.Offers.{PendingOffer, start_at, descriptor_of, avail_entry_of}
use Rattle.call_grammar.specs.Calls.{pending_of}
use Rattle.call_grammar.specs.Places as laws
use Rattle.call_grammar.proofs.OfferLists.{yes, no}
use Rattle.frame_slots.specs.declared.slots.Slot as slots
use Rattle.tx_engine.specs.declared.place.Place.{Place}
use Rattle.tx_engine.specs.declared.place.Place.TheVariants.{WritingFrameWord, WritingDescAddressLow, WritingDescAddressHigh, WritingDescLength, WritingDescFlags, WritingAvailEntry, WritingAvailIndex, ReadingAvailEvent, Ringing}
use Rattle.tx_engine.specs.Sender.{Sender, IsSender, allocator_of, FlightRefinesSession}
use Rattle.tx_engine.specs.Continuations.{place_after_index}
use Rattle.tx_engine.specs.Refinement.{CountsMatch, CountsPlaced, HasPlaced, HasCopy, IsAt, IsMadeFor, TakesStep}
use Rattle.tx_engine.proofs.ModularCounts.{one_more}
use Rattle.tx_engine.proofs.AfterReads.{takes}

-- The configuration's queue is the sender's.
queue_of : (tx : Sender) (config : EndConfig) → IsSender tx → IsMadeFor tx config → IsQueue config.sizes
queue_of tx config is made = subst IsQueue (sym made.sizes) is.queue

-- The end after the write of a word.
abbrev wrote : End → (word value : ℕ) → End
wrote end word value = record end { written = λ w. if w == word then value else end.written w }

-- The word holds no available entry.
abbrev IsBeside : EndConfig → ℕ → Type 0
IsBeside config word = (k : ℕ) → k < size_of config.sizes → config.own + word_offset config.sizes (AvailEntry k) ≢ word

copy_kept : (tx : Sender) (config : EndConfig) (end : End) (word value : ℕ) → IsBeside config word → HasCopy tx config end → HasCopy tx config (wrote end word value)
copy_kept tx config end word value beside copy k below =
    no (config.own + word_offset config.sizes (AvailEntry k) == word) value (end.written (config.own + word_offset config.sizes (AvailEntry k))) (ne_eqb _ _ (beside k below)) ∙ copy k below

same_pending : (config : EndConfig) (end : End) (frame : List ℕ) (word value : ℕ) → IsQueue config.sizes → IsBeside config word → pending_of config end frame ≡ pending_of config (wrote end word value) frame
same_pending config end frame word value queue beside =
    let b = bounds config.sizes queue in
    let some : 0 < size_of config.sizes = omega (arith, b.size_least) in
    let entry = avail_entry_of config (length end.accepted) in
    let at = config.own + word_offset config.sizes (AvailEntry entry) in
    ap (λ n. let pending : PendingOffer = record { frame = frame; number = length end.accepted; lengths = lengths_of (end.accepted ++ frame ∷ []); neighbour_word = n } in pending)
    (sym (no (at == word) value (end.written at) (ne_eqb _ _ (beside entry (mod_below (length end.accepted) (size_of config.sizes) some)))))

placed_after : (tx : Sender) (next : Place) (config : EndConfig) (end : End) (slot : slots.Slot) (word value : ℕ) → IsQueue config.sizes → IsBeside config word → HasPlaced tx config end slot →
    HasPlaced (record tx { place = next }) config (wrote end word value) slot
placed_after tx next config end slot word value queue beside (counts, is) = (
  record { accepted = counts.accepted; flight = counts.flight; copy = copy_kept tx config end word value beside counts.copy },
  is ∙ ap (λ (j : PendingOffer). let s : slots.Slot = record { descriptor = descriptor_of config j.number; address = start_at config j } in s) (same_pending config end tx.frame word value queue beside),
)

entry_word : (q : Sizes) (k : ℕ) → word_offset q (AvailEntry k) ≡ 4 * size_of q + 1 + k / 2
entry_word q k = omega arith

-- The words of a frame hold no available entry.
frame_beside : (config : EndConfig) (pending : PendingOffer) (at : ℕ) → IsQueue config.sizes → IsBeside config (config.own + start_at config pending / 4 + at)
frame_beside config pending at queue k below same =
    let after = (frames_are_laid_out.placed config.sizes pending.lengths pending.number queue).after in
    let entry = entry_word config.sizes k in
    let payload = past config.sizes in
    omega (arith, after, entry, payload, below, same)
  where
    past : (q : Sizes) → 18 * size_of q + 6 ≤ data_area_start q
    past q = omega arith

-- The words of a descriptor hold no available entry.
descriptor_beside : (config : EndConfig) (number by : ℕ) → IsQueue config.sizes → by ≤ 3 → IsBeside config (config.own + word_offset config.sizes (DescAddress (descriptor_of config number)) + by)
descriptor_beside config number by queue few k below same =
    let b = bounds config.sizes queue in
    let entry = entry_word config.sizes k in
    let low = mod_below number (limit_of config.sizes) b.limit_least in
    let most = b.limit_most in
    let place = first config.sizes (descriptor_of config number) in
    omega (arith, entry, low, most, place, few, same)
  where
    first : (q : Sizes) (i : ℕ) → word_offset q (DescAddress i) ≡ 4 * i
    first q i = omega arith

index_beside : (config : EndConfig) → IsBeside config (config.own + word_offset config.sizes AvailIndex)
index_beside config k below same = let entry = entry_word config.sizes k in let place = index config.sizes in omega (arith, entry, place, same)
  where
    index : (q : Sizes) → word_offset q AvailIndex ≡ 4 * size_of q
    index q = omega arith

-- The claim about each step.
abbrev Steps : (tx : Sender) (next : Place) (config : EndConfig) (end : End) (value : ℕ) → laws.Place → Type 0
Steps tx next config end value p =
    (marks_of tx.frame [] ≡ laws.marks_at config p value) × IsAt next (record tx { place = next }) config (end_after end (laws.step_at config p value)) (laws.next_place config p value)

-- The place of the grammar and the slot are the next ones at the end after a write of this word.
abbrev GoesTo : (tx : Sender) (next : Place) (slot : slots.Slot) (to : PendingOffer → laws.Place) (config : EndConfig) (end : End) (word : ℕ) → Type 0
GoesTo tx next slot to config end word =
    (value : ℕ) → (to (pending_of config end tx.frame) ≡ to (pending_of config (wrote end word value) tx.frame)) × HasPlaced (record tx { place = next }) config (wrote end word value) slot

-- The write of a word that holds no available entry, from the place `at` of the grammar to the
-- place `to` of the same pending offer.
goes : (tx : Sender) (here next : Place) (slot : slots.Slot) (at to : PendingOffer → laws.Place) (word : EndConfig → PendingOffer → ℕ) (value : ℕ) → IsSender tx → tx.place ≡ here →
    ((config : EndConfig) (pending : PendingOffer) → IsQueue config.sizes → IsBeside config (word config pending)) →
    ((config : EndConfig) (end : End) (place : laws.Place) → IsAt here tx config end place → (place ≡ at (pending_of config end tx.frame)) × HasPlaced tx config end slot) →
    ((config : EndConfig) (end : End) → GoesTo tx next slot to config end (word config (pending_of config end tx.frame)) → Steps tx next config end value (at (pending_of config end tx.frame))) →
    TakesStep tx value [] (record tx { place = next })
goes tx here next slot at to word value is here_is beside seen steps = takes tx (record tx { place = next }) here value [] here_is refl (λ config end place made h.
    let queue = queue_of tx config is made in
    let pending = pending_of config end tx.frame in
    let other = beside config pending queue in
    let was = seen config end place h in
    subst (Steps tx next config end value) (sym was.0)
    (steps config end (λ written. (ap to (same_pending config end tx.frame (word config pending) written queue other), placed_after tx next config end slot (word config pending) written queue other was.1))))

-- The write of a word of the frame that isn't the last one.
pub fills_on : (tx : Sender) (slot : slots.Slot) (at more value : ℕ) → IsSender tx → tx.place ≡ WritingFrameWord slot at (suc more) → TakesStep tx value [] (record tx { place = WritingFrameWord slot (at + 1) more })
fills_on tx slot at more value is here =
    goes tx (WritingFrameWord slot at (suc more)) (WritingFrameWord slot (at + 1) more) slot (λ pending. laws.WritingFrameWord pending at (suc more)) (λ pending. laws.WritingFrameWord pending (at + 1) more)
    (λ config pending. config.own + start_at config pending / 4 + at) value is here (λ config pending queue. frame_beside config pending at queue) (λ config end place h. h) (λ config end after. (refl, after _))

-- The write of the last word of the frame.
pub fills_last : (tx : Sender) (slot : slots.Slot) (at value : ℕ) → IsSender tx → tx.place ≡ WritingFrameWord slot at 0 → TakesStep tx value [] (record tx { place = WritingDescAddressLow slot })
fills_last tx slot at value is here =
    goes tx (WritingFrameWord slot at 0) (WritingDescAddressLow slot) slot (λ pending. laws.WritingFrameWord pending at 0) laws.WritingDescAddressLow
    (λ config pending. config.own + start_at config pending / 4 + at) value is here (λ config pending queue. frame_beside config pending at queue) (λ config end place h. h) (λ config end after. (refl, after _))

-- The writes of the four words of the descriptor.
pub writes_low : (tx : Sender) (slot : slots.Slot) (value : ℕ) → IsSender tx → tx.place ≡ WritingDescAddressLow slot → TakesStep tx value [] (record tx { place = WritingDescAddressHigh slot })
writes_low tx slot value is here =
    goes tx (WritingDescAddressLow slot) (WritingDescAddressHigh slot) slot laws.WritingDescAddressLow laws.WritingDescAddressHigh (λ config pending. config.own + word_offset config.sizes (DescAddress (descriptor_of config pending.number))) value is here
    (λ config pending queue. subst (IsBeside config) (omega arith) (descriptor_beside config pending.number 0 queue (omega arith))) (λ config end place h. h) (λ config end after. (refl, after _))

pub writes_high : (tx : Sender) (slot : slots.Slot) (value : ℕ) → IsSender tx → tx.place ≡ WritingDescAddressHigh slot → TakesStep tx value [] (record tx { place = WritingDescLength slot })
writes_high tx slot value is here =
    goes tx (WritingDescAddressHigh slot) (WritingDescLength slot) slot laws.WritingDescAddressHigh laws.WritingDescLength (λ config pending. config.own + word_offset config.sizes (DescAddress (descriptor_of config pending.number)) + 1) value is here
    (λ config pending queue. descriptor_beside config pending.number 1 queue (omega arith)) (λ config end place h. h) (λ config end after. (refl, after _))

pub writes_length : (tx : Sender) (slot : slots.Slot) (value : ℕ) → IsSender tx → tx.place ≡ WritingDescLength slot → TakesStep tx value [] (record tx { place = WritingDescFlags slot })
writes_length tx slot value is here =
    goes tx (WritingDescLength slot) (WritingDescFlags slot) slot laws.WritingDescLength laws.WritingDescFlags (λ config pending. config.own + word_offset config.sizes (DescLength (descriptor_of config pending.number))) value is here
    (λ config pending queue. subst (IsBeside config) (omega arith) (descriptor_beside config pending.number 2 queue (omega arith))) (λ config end place h. h) (λ config end after. (refl, after _))

pub writes_flags : (tx : Sender) (slot : slots.Slot) (value : ℕ) → IsSender tx → tx.place ≡ WritingDescFlags slot → TakesStep tx value [] (record tx { place = WritingAvailEntry slot })
writes_flags tx slot value is here =
    goes tx (WritingDescFlags slot) (WritingAvailEntry slot) slot laws.WritingDescFlags laws.WritingAvailEntry (λ config pending. config.own + word_offset config.sizes (DescFlags (descriptor_of config pending.number))) value is here
    (λ config pending queue. subst (IsBeside config) (omega arith) (descriptor_beside config pending.number 3 queue (omega arith))) (λ config end place h. h) (λ config end after. (refl, after _))

-- The write of the index, which accepts the frame.
abbrev Accepts : (tx new : Sender) (config : EndConfig) (end : End) (value : ℕ) → laws.Place → Type 0
Accepts tx new config end value p =
    (marks_of tx.frame (note.Accept ∷ []) ≡ laws.marks_at config p value) × IsAt new.place new config (end_after end (laws.step_at config p value)) (laws.next_place config p value)

pub index_written : (tx new : Sender) (value : ℕ) (events : Bool) (notes : List Note) → IsSender tx → tx.place ≡ WritingAvailIndex → events ≡ has_events tx.sizes →
    new ≡ record tx { accepted = (tx.accepted + 1) % 65536; place = place_after_index events } → notes ≡ note.Accept ∷ [] → TakesStep tx value notes new
index_written tx new value events notes is here events_is new_is notes_are =
    subst (λ n. TakesStep tx value n new) (sym notes_are) (subst (TakesStep tx value (note.Accept ∷ [])) (sym new_is)
    (takes tx (after events) WritingAvailIndex value (note.Accept ∷ []) here refl (λ config end place made h.
    subst (Accepts tx (after events) config end value) (sym h.1) (refl, pick config end made h.0 h.2 events (events_is ∙ ap has_events (sym made.sizes))))))
  where
    after : Bool → Sender
    after b = record tx { accepted = (tx.accepted + 1) % 65536; place = place_after_index b }

    accepts : EndConfig → End → ℕ → End
    accepts config end value = record (wrote end (config.own + word_offset config.sizes AvailIndex) value) { accepted = end.accepted ++ tx.frame ∷ [] }

    longer : (end : End) → length (end.accepted ++ tx.frame ∷ []) ≡ length end.accepted + 1
    longer end = length-append end.accepted (tx.frame ∷ [])

    counted : (config : EndConfig) (end : End) (place : Place) → CountsPlaced tx config end →
        CountsMatch (record tx { accepted = (tx.accepted + 1) % 65536; place = place }) config (accepts config end (65536 * ((length end.accepted + 1) % 65536))) end.freed
    counted config end place counts = record {
      accepted = ap (λ n. (n + 1) % 65536) counts.accepted ∙ (one_more (length end.accepted) 65536 ∙ ap (λ n. n % 65536) (sym (longer end)));
      flight = subst (FlightRefinesSession (allocator_of tx) tx.lengths (lengths_of (end.accepted ++ tx.frame ∷ [])) end.freed) (sym (longer end)) counts.flight;
      copy = copy_kept tx config end (config.own + word_offset config.sizes AvailIndex) _ (index_beside config) counts.copy;
    }

    pick : (config : EndConfig) (end : End) → IsMadeFor tx config → (beside : ℕ) → CountsPlaced tx config end → (b : Bool) → b ≡ has_events config.sizes →
        IsAt (after b).place (after b) config (end_after end (laws.step_at config (laws.WritingAvailIndex (record { frame = tx.frame; number = length end.accepted; lengths = lengths_of (end.accepted ++ tx.frame ∷ []); neighbour_word = beside })) value)) (laws.notify_place config (length end.accepted))
    pick config end made beside counts true b_is =
        (length end.accepted, yes (has_events config.sizes) (laws.ReadingAvailEvent (length end.accepted)) laws.RingingOffer (sym b_is), sym (longer end), counted config end ReadingAvailEvent counts)
    pick config end made beside counts false b_is =
        (no (has_events config.sizes) (laws.ReadingAvailEvent (length end.accepted)) laws.RingingOffer (sym b_is), counted config end Ringing counts)
