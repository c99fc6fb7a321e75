-- The sender after the read of the used index or of an id.
use Rattle.std.proofs.Common.{◌≡◌, ℕ, zero, suc, ◌+◌, ◌-◌, ◌/◌, ◌%◌, ◌<◌, ◌≤◌, ◌==◌, true, false, if◌then◌else◌, Bool, List, [], ◌∷◌, ◌++◌, length, slice_index, slice_set, arith, refl, ap, sym, ◌∙◌, subst, eq-eqb, ne_eqb}
use Rattle.ivs_base.specs.Numbers.{distance}
use Rattle.split_ring.specs.declared.sizes.TheConstants.{FRAME_OVERHEAD, SHORTEST_FRAME}
use Rattle.split_ring.specs.declared.ranges.FieldName.TheVariants.{UsedIndex, UsedId}
use Rattle.split_ring.specs.declared.ranges.Refused.{Refused}
use Rattle.split_ring.specs.declared.steps.Note.{Note}
use Rattle.split_ring.specs.declared.steps.Note.TheVariants as note
use Rattle.split_ring.specs.Layout.{IsQueue, limit_of}
use Rattle.split_ring.specs.Frames.{start_of, has_room}
use Rattle.split_ring.specs.Ranges.{IsUsedIndex, IsUsedId, is_used_id}
use Rattle.split_ring.specs.Spelling.{high_half}
use Rattle.call_grammar.specs.Steps.{Reclaim, Full, Refuse, marks_of}
use Rattle.call_grammar.specs.Ends.{End, end_after, with_marks}
use Rattle.call_grammar.specs.Ticks.{EndConfig}
use Rattle.call_grammar.specs.Words.{words_for, lengths_of}
use Rattle.call_grammar.specs.Offers.{PendingOffer, frame_fits, refusal, descriptor_of, returned_by, full_marks, reclaim_marks}
use Rattle.call_grammar.specs.Calls.{pending_of}
use Rattle.call_grammar.specs.Places as laws
use Rattle.frame_slots.specs.declared.slots.Slot as slots
use Rattle.frame_slots.specs.Allocator.{Allocator, has_room_in, next_slot, with_placed, with_freed, oldest_of}
use Rattle.frame_slots.proofs.AllocatorRefinesSession.{allocator_refines_session}
use Rattle.call_grammar.proofs.Lengths.{last_length, length_before}
use Rattle.call_grammar.proofs.OfferLists.{yes, no, within_test}
use Rattle.tx_engine.specs.declared.place.Place.{Place}
use Rattle.tx_engine.specs.declared.place.Place.TheVariants.{Closed, Refusing, ReadingUsedIndex, ReadingUsedId, WritingFrameWord, WritingDescAddressLow, WritingDescAddressHigh, WritingDescLength, WritingDescFlags, WritingAvailEntry, WritingAvailIndex, ReadingAvailEvent, Ringing}
use Rattle.tx_engine.specs.Sender.{Sender, IsSender, allocator_of, FlightRefinesSession}
use Rattle.tx_engine.specs.Continuations.{GoesOn, full_notes}
use Rattle.tx_engine.specs.Refinement.{CountsMatch, CountsPlaced, slot_of_pending, IsAt, IsMadeFor, TakesStep}
use Rattle.tx_engine.proofs.Flights.{flight_by_prefix, placed_flight, freed_flight, oldest_kept}
use Rattle.tx_engine.proofs.Accesses.{at_here, freed_is, oldest_is}

-- The fields of a sender that a read doesn't change.
abbrev IsKept : (old new : Sender) → Type 0
IsKept old new = new ≡ record old {
  accepted = new.accepted;
  next = new.next;
  in_flight = new.in_flight;
  head = new.head;
  tail = new.tail;
  left = new.left;
  lengths = new.lengths;
  entries = new.entries;
  place = new.place;
}

made_on : (old new : Sender) (config : EndConfig) → IsKept old new → IsMadeFor old config → IsMadeFor new config
made_on old new config kept made = subst (λ s. IsMadeFor s config) (sym kept) (record { sizes = made.sizes; own = made.own; other_start = made.other_start; target = made.target; vector = made.vector })

-- The step of a sender, from its step at each end that it refines at its place.
pub takes : (old new : Sender) (here : Place) (value : ℕ) (notes : List Note) → old.place ≡ here →
    IsKept old new →
    ((config : EndConfig) (end : End) (place : laws.Place) → IsMadeFor old config → IsAt here old config end place → (marks_of old.frame notes ≡ laws.marks_at config place value)
    × IsAt new.place new config (end_after end (laws.step_at config place value)) (laws.next_place config place value)) → TakesStep old value notes new
takes old new here value notes is kept steps = record {
  marks = λ config end place refines. (steps config end place refines.made (at_here old here config end place is refines)).0;
  refines = λ config end place refines. record { made = made_on old new config kept refines.made; at = (steps config end place refines.made (at_here old here config end place is refines)).1 };
  kept = kept;
}

-- The sender with these slots and stored lengths at this place.
abbrev pub with_turn : Sender → Allocator → List ℕ → Place → Sender
with_turn tx turn lengths place = record tx { next = turn.next; in_flight = turn.in_flight; head = turn.head; tail = turn.tail; left = turn.left; lengths = lengths; place = place }

-- A sender whose offered frame and stored lengths have sizes in range.
pub record CanGoOn (tx : Sender) : Type 0 where
  pub queue : IsQueue tx.sizes
  pub lengths : length tx.lengths ≡ limit_of tx.sizes
  pub least : SHORTEST_FRAME ≤ length tx.frame
  pub most : length tx.frame ≤ tx.sizes.mtu + FRAME_OVERHEAD

-- The slots also refine the session that the offered frame extends.
with_frame : (tx : Sender) (config : EndConfig) (end : End) (freed : ℕ) → CountsMatch tx config end freed →
    FlightRefinesSession (allocator_of tx) tx.lengths (lengths_of (end.accepted ++ tx.frame ∷ [])) freed (length end.accepted)
with_frame tx config end freed counts =
    flight_by_prefix (allocator_of tx) tx.lengths (lengths_of end.accepted) (lengths_of (end.accepted ++ tx.frame ∷ [])) freed (length end.accepted)
    (λ j low. sym (length_before end.accepted tx.frame j low)) counts.flight

-- The offered frame fits in the slots exactly if it fits in the session.
decided : (tx : Sender) (config : EndConfig) (end : End) (freed : ℕ) → CanGoOn tx → IsMadeFor tx config → CountsMatch tx config end freed →
    has_room_in (allocator_of tx) (length tx.frame) ≡ frame_fits config (pending_of config end tx.frame) freed
decided tx config end freed can made counts =
    let all = lengths_of (end.accepted ++ tx.frame ∷ []) in
    let number = length end.accepted in
    let last = last_length end.accepted tx.frame in
    ap (has_room_in (allocator_of tx)) (sym last) ∙
    (allocator_refines_session.decides (allocator_of tx) all freed number can.queue (with_frame tx config end freed counts).refines (omega (arith, last, can.least)) (omega (arith, last, can.most)) ∙
    ap (λ q. has_room q all freed number) (sym made.sizes))

-- The slot that the frame gets is the slot of the session.
slot_is : (tx : Sender) (config : EndConfig) (end : End) (freed : ℕ) → CanGoOn tx → IsMadeFor tx config → CountsMatch tx config end freed → has_room_in (allocator_of tx) (length tx.frame) ≡ true →
    next_slot (allocator_of tx) (length tx.frame) ≡ slot_of_pending config (pending_of config end tx.frame)
slot_is tx config end freed can made counts room =
    let all = lengths_of (end.accepted ++ tx.frame ∷ []) in
    let number = length end.accepted in
    let last = last_length end.accepted tx.frame in
    ap (next_slot (allocator_of tx)) (sym last) ∙
    (allocator_refines_session.places (allocator_of tx) all freed number can.queue (with_frame tx config end freed counts).refines (omega (arith, last, can.least)) (omega (arith, last, can.most))
    (subst (λ n. has_room_in (allocator_of tx) n ≡ true) (sym last) room) ∙
    ap (λ q. let s : slots.Slot = record { descriptor = number % limit_of q; address = start_of q all number } in s) (sym made.sizes))

-- The first word of the offered frame is next.
fills_at : (tx : Sender) (config : EndConfig) (end : End) (freed : ℕ) → CanGoOn tx → CountsMatch tx config end freed → IsMadeFor tx config → has_room_in (allocator_of tx) (length tx.frame) ≡ true →
    laws.ids_place config (pending_of config end tx.frame) freed 0 ≡ laws.WritingFrameWord (pending_of config end tx.frame) 0 (words_for (length tx.frame) - 1)
fills_at tx config end freed can counts made room =
    let w = words_for (length tx.frame) in
    let pending = pending_of config end tx.frame in
    let least = can.least in
    let some : w ≡ suc (w - 1) = omega arith in
    yes (frame_fits config pending freed) (laws.fill_place pending 0 w) laws.Closed (sym (decided tx config end freed can made counts) ∙ room) ∙ ap (laws.fill_place pending 0) some

-- After the last id the offer is at the place of the grammar.
goes_on : (tx : Sender) (config : EndConfig) (end : End) (freed count : ℕ) (place : Place) (turn : Allocator) (lengths : List ℕ) → CanGoOn tx → IsMadeFor tx config → CountsMatch tx config end freed → end.freed ≡ freed + count →
    GoesOn (allocator_of tx) tx.lengths (length tx.frame) count place turn lengths → IsAt place (with_turn tx turn lengths place) config end (laws.ids_place config (pending_of config end tx.frame) freed count)
goes_on tx config end freed zero place turn lengths can made counts found on = pick (has_room_in (allocator_of tx) (length tx.frame)) refl
  where
    pending : PendingOffer
    pending = pending_of config end tx.frame

    none : end.freed ≡ freed
    none = omega (arith, found)

    pick : (b : Bool) → has_room_in (allocator_of tx) (length tx.frame) ≡ b → IsAt place (with_turn tx turn lengths place) config end (laws.ids_place config pending freed 0)
    pick true room =
        let h = on.fills refl room in
        let here = WritingFrameWord (next_slot (allocator_of tx) (length tx.frame)) 0 (words_for (length tx.frame) - 1) in
        let flight = placed_flight (allocator_of tx) tx.lengths (lengths_of (end.accepted ++ tx.frame ∷ [])) freed (length end.accepted) (length tx.frame) can.queue can.lengths
        (with_frame tx config end freed counts) (last_length end.accepted tx.frame) can.least can.most room in
        let after = with_turn tx (with_placed (allocator_of tx) (length tx.frame)) (slice_set tx.lengths tx.next (length tx.frame)) in
        let placed : CountsPlaced (after here) config end = record {
          accepted = counts.accepted;
          flight = subst (λ f. FlightRefinesSession (allocator_of (after here)) (after here).lengths (lengths_of (end.accepted ++ tx.frame ∷ [])) f (length end.accepted + 1)) (sym none) flight;
          copy = counts.copy;
        } in
        subst (λ q. IsAt place (with_turn tx turn lengths place) config end q) (sym (fills_at tx config end freed can counts made room))
        (subst (λ p. IsAt p (with_turn tx turn lengths p) config end (laws.WritingFrameWord pending 0 (words_for (length tx.frame) - 1))) (sym h.0)
        (subst (λ t. IsAt here (with_turn tx t lengths here) config end (laws.WritingFrameWord pending 0 (words_for (length tx.frame) - 1))) (sym h.1)
        (subst (λ l. IsAt here (with_turn tx (with_placed (allocator_of tx) (length tx.frame)) l here) config end (laws.WritingFrameWord pending 0 (words_for (length tx.frame) - 1))) (sym h.2)
        (refl, (placed, slot_is tx config end freed can made counts room)))))
    pick false full =
        let h = on.ends refl full in
        let closes = no (frame_fits config pending freed) (laws.fill_place pending 0 (words_for (length tx.frame))) laws.Closed (sym (decided tx config end freed can made counts) ∙ full) in
        subst (λ q. IsAt place (with_turn tx turn lengths place) config end q) (sym closes)
        (subst (λ p. IsAt p (with_turn tx turn lengths p) config end laws.Closed) (sym h.0)
        (subst (λ t. IsAt Closed (with_turn tx t lengths Closed) config end laws.Closed) (sym h.1)
        (subst (λ l. IsAt Closed (with_turn tx (allocator_of tx) l Closed) config end laws.Closed) (sym h.2) (
          refl,
          λ session. record {
            accepted = counts.accepted;
            flight = subst (λ f. FlightRefinesSession (allocator_of tx) tx.lengths (lengths_of end.accepted) f (length end.accepted)) (sym none) counts.flight;
            copy = counts.copy;
          },
        ))))
goes_on tx config end freed (suc more) place turn lengths can made counts found on =
    let h = on.reads (omega arith) in
    let pending = pending_of config end tx.frame in
    let here : place ≡ ReadingUsedId more = h.0 ∙ ap ReadingUsedId (omega arith) in
    subst (λ p. IsAt p (with_turn tx turn lengths p) config end (laws.ReadingUsedId pending freed more)) (sym here)
    (subst (λ t. IsAt (ReadingUsedId more) (with_turn tx t lengths (ReadingUsedId more)) config end (laws.ReadingUsedId pending freed more)) (sym h.1)
    (subst (λ l. IsAt (ReadingUsedId more) (with_turn tx (allocator_of tx) l (ReadingUsedId more)) config end (laws.ReadingUsedId pending freed more)) (sym h.2)
    (freed, refl, omega (arith, found), record { accepted = counts.accepted; flight = counts.flight; copy = counts.copy })))

-- An offer that ends after its reads has the mark Full, and no other offer has it.
full_marked : (tx : Sender) (config : EndConfig) (end : End) (freed : ℕ) (place : Place) (turn : Allocator) (lengths : List ℕ) → CanGoOn tx → IsMadeFor tx config → CountsMatch tx config end freed →
    GoesOn (allocator_of tx) tx.lengths (length tx.frame) 0 place turn lengths → marks_of tx.frame (full_notes place) ≡ full_marks config (pending_of config end tx.frame) freed
full_marked tx config end freed place turn lengths can made counts on = pick (has_room_in (allocator_of tx) (length tx.frame)) refl
  where
    pending : PendingOffer
    pending = pending_of config end tx.frame

    pick : (b : Bool) → has_room_in (allocator_of tx) (length tx.frame) ≡ b → marks_of tx.frame (full_notes place) ≡ full_marks config pending freed
    pick true room = ap (λ p. marks_of tx.frame (full_notes p)) (on.fills refl room).0 ∙
        sym (yes (frame_fits config pending freed) [] (Full ∷ []) (sym (decided tx config end freed can made counts) ∙ room))
    pick false full = ap (λ p. marks_of tx.frame (full_notes p)) (on.ends refl full).0 ∙
        sym (no (frame_fits config pending freed) [] (Full ∷ []) (sym (decided tx config end freed can made counts) ∙ full))

-- An offer with ids to read has no Full note.
no_full : (tx : Sender) (more : ℕ) (place : Place) (turn : Allocator) (lengths : List ℕ) → GoesOn (allocator_of tx) tx.lengths (length tx.frame) (suc more) place turn lengths → full_notes place ≡ []
no_full tx more place turn lengths on = ap full_notes (on.reads (omega arith)).0

full_keeps : (end : End) (frame : List ℕ) (place : Place) → with_marks end (marks_of frame (full_notes place)) ≡ end
full_keeps end frame Closed = refl
full_keeps end frame Refusing = refl
full_keeps end frame ReadingUsedIndex = refl
full_keeps end frame (ReadingUsedId more) = refl
full_keeps end frame (WritingFrameWord slot at more) = refl
full_keeps end frame (WritingDescAddressLow slot) = refl
full_keeps end frame (WritingDescAddressHigh slot) = refl
full_keeps end frame (WritingDescLength slot) = refl
full_keeps end frame (WritingDescFlags slot) = refl
full_keeps end frame (WritingAvailEntry slot) = refl
full_keeps end frame WritingAvailIndex = refl
full_keeps end frame ReadingAvailEvent = refl
full_keeps end frame Ringing = refl

-- The notes after the read of the used index are its marks.
reclaimed : (tx : Sender) (config : EndConfig) (end : End) (count : ℕ) (place : Place) (turn : Allocator) (lengths : List ℕ) → CanGoOn tx → IsMadeFor tx config → CountsMatch tx config end end.freed →
    GoesOn (allocator_of tx) tx.lengths (length tx.frame) count place turn lengths → marks_of tx.frame (note.Reclaim count ∷ full_notes place) ≡ reclaim_marks config (pending_of config end tx.frame) end.freed count
reclaimed tx config end zero place turn lengths can made counts on = ap (λ marks. Reclaim 0 ∷ marks) (full_marked tx config end end.freed place turn lengths can made counts on)
reclaimed tx config end (suc more) place turn lengths can made counts on =
    let pending = pending_of config end tx.frame in
    ap (λ notes. Reclaim (suc more) ∷ marks_of tx.frame notes) (no_full tx more place turn lengths on)
    ∙ sym (no (suc more == 0) (Reclaim 0 ∷ full_marks config pending end.freed) (Reclaim (suc more) ∷ []) (ne_eqb _ _ (λ e. omega (arith, e))))

-- The sender reads a used index in range.
pub index_taken : (tx : Sender) (value count : ℕ) (place : Place) (turn : Allocator) (lengths : List ℕ) (notes : List Note) → IsSender tx → CanGoOn tx → tx.place ≡ ReadingUsedIndex →
    IsUsedIndex ((tx.accepted + 65536 - tx.in_flight) % 65536) (value / 65536) tx.in_flight → count ≡ distance ((tx.accepted + 65536 - tx.in_flight) % 65536) (value / 65536) →
    GoesOn (allocator_of tx) tx.lengths (length tx.frame) count place turn lengths → notes ≡ note.Reclaim count ∷ full_notes place → TakesStep tx value notes (with_turn tx turn lengths place)
index_taken tx value count place turn lengths notes is can here within count_is on notes_are = takes tx (with_turn tx turn lengths place) ReadingUsedIndex value notes here refl (λ config end at made (same, counts).
    let pending = pending_of config end tx.frame in
    let number = length end.accepted in
    let found : returned_by end.freed value ≡ count = ap (λ f. distance f (value / 65536)) (sym (freed_is tx config end end.freed is counts)) ∙ sym count_is in
    let after : number - end.freed ≡ tx.in_flight = omega (arith, counts.flight.refines.in_flight) in
    let fits : returned_by end.freed value ≤ number - end.freed = omega (arith, found, count_is, within, after) in
    let test = within_test _ _ fits in
    let marks : marks_of tx.frame notes ≡ laws.marks_at config (laws.ReadingUsedIndex pending end.freed) value =
    ap (marks_of tx.frame) notes_are ∙ (reclaimed tx config end count place turn lengths can made counts on
    ∙ (ap (reclaim_marks config pending end.freed) (sym found) ∙ sym (yes _ (reclaim_marks config pending end.freed (returned_by end.freed value)) (refusal UsedIndex (high_half value)) test))) in
    let next : laws.next_place config (laws.ReadingUsedIndex pending end.freed) value ≡ laws.ids_place config pending end.freed count =
    yes _ (laws.ids_place config pending end.freed (returned_by end.freed value)) laws.Refusing test ∙ ap (laws.ids_place config pending end.freed) found in
    let freed : End = record end { freed = end.freed + count } in
    let end_is : end_after end (laws.step_at config (laws.ReadingUsedIndex pending end.freed) value) ≡ freed =
    ap (with_marks end) (sym marks ∙ ap (marks_of tx.frame) notes_are) ∙ full_keeps freed tx.frame place in
    let goes = goes_on tx config freed end.freed count place turn lengths can made (record { accepted = counts.accepted; flight = counts.flight; copy = counts.copy }) refl on in
    subst (λ p. (marks_of tx.frame notes ≡ laws.marks_at config p value) × IsAt place (with_turn tx turn lengths place) config (end_after end (laws.step_at config p value)) (laws.next_place config p value)) (sym same)
    (marks, subst (λ e. IsAt place (with_turn tx turn lengths place) config e (laws.next_place config (laws.ReadingUsedIndex pending end.freed) value)) (sym end_is) (subst (λ q. IsAt place (with_turn tx turn lengths place) config freed q) (sym next) goes)))

-- The stored length of the oldest frame in flight.
abbrev pub oldest_length : Sender → ℕ
oldest_length tx = slice_index tx.lengths (oldest_of (allocator_of tx))

-- The sender with one frame less in flight.
abbrev pub freed_one : Sender → Sender
freed_one tx = with_turn tx (with_freed (allocator_of tx) (oldest_length tx)) tx.lengths tx.place

-- The notes after the read of an id are its marks.
id_marked : (tx : Sender) (config : EndConfig) (end : End) (freed more : ℕ) (place : Place) (turn : Allocator) (lengths : List ℕ) → CanGoOn tx → IsMadeFor tx config → CountsMatch tx config end freed →
    GoesOn (allocator_of tx) tx.lengths (length tx.frame) more place turn lengths → marks_of tx.frame (full_notes place) ≡ (if more == 0 then full_marks config (pending_of config end tx.frame) freed else [])
id_marked tx config end freed zero place turn lengths can made counts on = full_marked tx config end freed place turn lengths can made counts on
id_marked tx config end freed (suc more) place turn lengths can made counts on =
    ap (marks_of tx.frame) (no_full tx more place turn lengths on) ∙ sym (no (suc more == 0) (full_marks config (pending_of config end tx.frame) freed) [] (ne_eqb _ _ (λ e. omega (arith, e))))

-- The sender reads the id of the oldest frame in flight.
pub id_taken : (tx : Sender) (more id : ℕ) (place : Place) (turn : Allocator) (lengths : List ℕ) (notes : List Note) → IsSender tx → CanGoOn tx → more < tx.in_flight → tx.place ≡ ReadingUsedId more →
    id ≡ oldest_of (allocator_of tx) → GoesOn (allocator_of (freed_one tx)) tx.lengths (length tx.frame) more place turn lengths → notes ≡ full_notes place → TakesStep tx id notes (with_turn tx turn lengths place)
id_taken tx more id place turn lengths notes is can some here oldest on notes_are = takes tx (with_turn tx turn lengths place) (ReadingUsedId more) id notes here refl (λ config end at made (freed, same, found, counts).
    let pending = pending_of config end tx.frame in
    let can_one : CanGoOn (freed_one tx) = record { queue = can.queue; lengths = can.lengths; least = can.least; most = can.most } in
    let made_one : IsMadeFor (freed_one tx) config = record { sizes = made.sizes; own = made.own; other_start = made.other_start; target = made.target; vector = made.vector } in
    let lt : freed < length end.accepted = omega (arith, counts.flight.refines.in_flight, some) in
    let kept = sym (oldest_kept (allocator_of tx) tx.lengths (lengths_of end.accepted) freed (length end.accepted) counts.flight lt) in
    let counts_one : CountsMatch (freed_one tx) config end (freed + 1) = record {
      accepted = counts.accepted;
      flight = freed_flight (allocator_of tx) tx.lengths (lengths_of end.accepted) freed (length end.accepted) (oldest_length tx) counts.flight lt kept;
      copy = counts.copy;
    } in
    let found_one : end.freed ≡ freed + 1 + more = omega (arith, found) in
    let test : (is_used_id (descriptor_of config freed) id) ≡ true = eq-eqb _ _ (oldest ∙ oldest_is tx config end freed is made counts) in
    let marks : marks_of tx.frame notes ≡ laws.marks_at config (laws.ReadingUsedId pending freed more) id =
    ap (marks_of tx.frame) notes_are ∙ (id_marked (freed_one tx) config end (freed + 1) more place turn lengths can_one made_one counts_one on
    ∙ sym (yes _ (if more == 0 then full_marks config pending (freed + 1) else []) (refusal UsedId id) test)) in
    let next : laws.next_place config (laws.ReadingUsedId pending freed more) id ≡ laws.ids_place config pending (freed + 1) more = yes _ (laws.ids_place config pending (freed + 1) more) laws.Refusing test in
    let end_is : end_after end (laws.step_at config (laws.ReadingUsedId pending freed more) id) ≡ end = ap (with_marks end) (sym marks ∙ ap (marks_of tx.frame) notes_are) ∙ full_keeps end tx.frame place in
    let goes = goes_on (freed_one tx) config end (freed + 1) more place turn lengths can_one made_one counts_one found_one on in
    subst (λ p. (marks_of tx.frame notes ≡ laws.marks_at config p id) × IsAt place (with_turn tx turn lengths place) config (end_after end (laws.step_at config p id)) (laws.next_place config p id)) (sym same)
    (marks, subst (λ e. IsAt place (with_turn tx turn lengths place) config e (laws.next_place config (laws.ReadingUsedId pending freed more) id)) (sym end_is) (subst (λ q. IsAt place (with_turn tx turn lengths place) config end q) (sym next) goes)))

-- The sender reads another id.
pub id_refused : (tx : Sender) (more id : ℕ) (refused : Refused) → IsSender tx → tx.place ≡ ReadingUsedId more → ¬ IsUsedId (oldest_of (allocator_of tx)) id → refused ≡ record { field = UsedId; value = id } →
    TakesStep tx id (note.Refuse refused ∷ []) (record tx { place = Refusing })
id_refused tx more id refused is here other refused_is = takes tx (record tx { place = Refusing }) (ReadingUsedId more) id (note.Refuse refused ∷ []) here refl (λ config end at made (freed, same, found, counts).
    let pending = pending_of config end tx.frame in
    let test : (is_used_id (descriptor_of config freed) id) ≡ false = ne_eqb _ _ (λ e. other (e ∙ sym (oldest_is tx config end freed is made counts))) in
    let marks : marks_of tx.frame (note.Refuse refused ∷ []) ≡ laws.marks_at config (laws.ReadingUsedId pending freed more) id =
    ap (λ (r : Refused). Refuse r ∷ []) refused_is ∙ sym (no _ (if more == 0 then full_marks config pending (freed + 1) else []) (refusal UsedId id) test) in
    subst (λ p. (marks_of tx.frame (note.Refuse refused ∷ []) ≡ laws.marks_at config p id) × (laws.next_place config p id ≡ laws.Refusing)) (sym same)
    (marks, no _ (laws.ids_place config pending (freed + 1) more) laws.Refusing test))
