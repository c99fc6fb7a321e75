-- The sender's invariant when an offer continues after a read, and at the start of a session.
use Rattle.std.proofs.Common.{◌≡◌, ℕ, zero, suc, ◌+◌, ◌-◌, ◌*◌, ◌/◌, ◌%◌, ◌^◌, ◌<◌, ◌≤◌, Bool, true, false, List, length, replicate, slice_index, get_or, arith, refl, ap, sym, ◌∙◌, subst}
use Rattle.std.specs.Vec.{with_items}
use Rattle.std.proofs.lemmas.Nat.{mod_below}
use Rattle.std.proofs.lemmas.List.{length-set, length-replicate, get_or_default, with_items_is}
use Rattle.split_ring.specs.Layout.{Sizes, IsQueue, size_of, limit_of}
use Rattle.split_ring.proofs.QueueHasBounds.{bounds}
use Rattle.call_grammar.specs.Ends.{End}
use Rattle.call_grammar.specs.Ticks.{EndConfig}
use Rattle.call_grammar.specs.Words.{words_for, lengths_of}
use Rattle.call_grammar.specs.Places as laws
use Rattle.frame_slots.specs.Allocator.{Allocator, initial_allocator, has_room_in, next_slot, with_placed, with_freed, oldest_of}
use Rattle.frame_slots.proofs.AllocatorRefinesSession.{allocator_refines_session}
use Rattle.frame_slots.proofs.PlacedFramesFit.{few_of}
use Rattle.tx_engine.specs.declared.tx.Tx.TheInside.{Inside}
use Rattle.tx_engine.specs.declared.place.Place.{Place}
use Rattle.tx_engine.specs.declared.place.Place.TheVariants.{Closed, ReadingUsedIndex, ReadingUsedId, WritingFrameWord}
use Rattle.tx_engine.specs.Sender.{Sender, IsSender, IsFrame, FlightRefinesSession, allocator_of, fresh_sender}
use Rattle.tx_engine.specs.Representation.{sender_of, IsWellFormed}
use Rattle.tx_engine.specs.Continuations.{GoesOn}
use Rattle.tx_engine.specs.Refinement.{IsFreshSession, IsMadeFor, RefinesAt}
use Rattle.tx_engine.proofs.InvariantByPlace.{placed}
use Rattle.tx_engine.proofs.Flights.{flight_freed, flight_placed, slot_holds}
use Rattle.tx_engine.proofs.AfterReads.{with_turn, freed_one, oldest_length}
use Rattle.tx_engine.proofs.Fields.{turn_is, place_holds, goes_on_from}

-- A sender without a place in an offer.
abbrev pub closed : Sender → Sender
closed tx = record tx { place = Closed }

pub closed_is : (tx : Sender) → IsSender tx → IsSender (closed tx)
closed_is tx is = placed tx _ _ Closed is refl tt

-- One frame less is in flight.
pub freed_is_sender : (tx : Sender) → IsSender tx → 0 < tx.in_flight → IsSender (closed (freed_one tx))
freed_is_sender tx is some = record {
  queue = is.queue;
  bounds = is.bounds;
  own_room = is.own_room;
  their_room = is.their_room;
  entries = is.entries;
  next = is.next;
  in_flight = let most = is.in_flight in omega arith;
  lengths = is.lengths;
  flight = flight_freed (allocator_of tx) tx.lengths is.flight some;
  place = tt;
}

-- The sender stays well formed when its offer continues.
pub goes_on_kept : (tx : Sender) (ids : ℕ) (place : Place) (turn : Allocator) (lengths : List ℕ) → IsSender (closed tx) → IsFrame tx.sizes tx.frame → ids ≤ tx.in_flight →
    GoesOn (allocator_of tx) tx.lengths (length tx.frame) ids place turn lengths → IsSender (with_turn tx turn lengths place)
goes_on_kept tx zero place turn lengths is frame within on = pick (has_room_in (allocator_of tx) (length tx.frame)) refl
  where
    pick : (b : Bool) → has_room_in (allocator_of tx) (length tx.frame) ≡ b → IsSender (with_turn tx turn lengths place)
    pick true room =
        let h = on.fills refl room in
        let slot = next_slot (allocator_of tx) (length tx.frame) in
        let holds = slot_holds (allocator_of tx) tx.lengths (length tx.frame) is.queue is.flight frame.0 frame.1 room in
        let few = few_of (allocator_of tx) (length tx.frame) room in
        let next_below = is.next in
        let here = WritingFrameWord slot 0 (words_for (length tx.frame) - 1) in
        let least = frame.0 in
        subst (λ p. IsSender (with_turn tx turn lengths p)) (sym h.0)
        (subst (λ t. IsSender (with_turn tx t lengths here)) (sym h.1)
        (subst (λ l. IsSender (with_turn tx (with_placed (allocator_of tx) (length tx.frame)) l here)) (sym h.2) (record {
          queue = is.queue;
          bounds = is.bounds;
          own_room = is.own_room;
          their_room = is.their_room;
          entries = is.entries;
          next = mod_below (tx.next + 1) (limit_of tx.sizes) (omega arith);
          in_flight = omega (arith, few);
          lengths = length-set tx.lengths tx.next (length tx.frame) ∙ is.lengths;
          flight = flight_placed (allocator_of tx) tx.lengths (length tx.frame) is.queue is.lengths is.flight frame.0 frame.1 room;
          place = ((omega arith, is.next, holds.0, holds.1, frame), omega (arith, least));
        })))
    pick false full =
        let h = on.ends refl full in
        subst (λ p. IsSender (with_turn tx turn lengths p)) (sym h.0)
        (subst (λ t. IsSender (with_turn tx t lengths Closed)) (sym h.1)
        (subst (λ l. IsSender (with_turn tx (allocator_of tx) l Closed)) (sym h.2) is))
goes_on_kept tx (suc more) place turn lengths is frame within on =
    let h = on.reads (omega arith) in
    let here : place ≡ ReadingUsedId more = h.0 ∙ ap ReadingUsedId (omega arith) in
    subst (λ p. IsSender (with_turn tx turn lengths p)) (sym here)
    (subst (λ t. IsSender (with_turn tx t lengths (ReadingUsedId more))) (sym h.1)
    (subst (λ l. IsSender (with_turn tx (allocator_of tx) l (ReadingUsedId more))) (sym h.2) (placed (closed tx) _ _ (ReadingUsedId more) is refl (omega (arith, within), frame))))

-- The slots keep the sizes of the queue.
sizes_stay : (old : Allocator) (lengths : List ℕ) (bytes ids : ℕ) (place : Place) (turn : Allocator) (kept : List ℕ) → GoesOn old lengths bytes ids place turn kept → turn.sizes ≡ old.sizes
sizes_stay old lengths bytes zero place turn kept on = pick (has_room_in old bytes) refl
  where
    pick : (b : Bool) → has_room_in old bytes ≡ b → turn.sizes ≡ old.sizes
    pick true room = ap (λ (t : Allocator). t.sizes) (on.fills refl room).1
    pick false full = ap (λ (t : Allocator). t.sizes) (on.ends refl full).1
sizes_stay old lengths bytes (suc more) place turn kept on = ap (λ (t : Allocator). t.sizes) (on.reads (omega arith)).1

-- The length that is read is the stored length of the oldest frame.
pub oldest_read : (t : Inside) → IsWellFormed t → (oldest bytes : ℕ) → oldest ≡ oldest_of t.slots → bytes ≡ get_or t.lengths.items oldest bytes → bytes ≡ slice_index t.lengths.items oldest
oldest_read t kept oldest bytes oldest_is read =
    let b = kept.sender.bounds in
    let sized = kept.sender.lengths in
    let sizes : limit_of t.slots.sizes ≡ limit_of t.queue = ap limit_of kept.slots in
    let low : oldest_of t.slots < limit_of t.slots.sizes = mod_below _ (limit_of t.slots.sizes) (omega (arith, sizes, b.limit_least)) in
    read ∙ get_or_default t.lengths.items oldest bytes 0 (omega (arith, oldest_is, low, sizes, sized))

-- A sender whose stored lengths were written through a slice.
pub seen_written : (t : Inside) (place : Place) (turn : Allocator) (lengths : List ℕ) → length lengths ≡ t.lengths.len →
    with_turn (sender_of t) turn lengths place ≡ sender_of (record t { slots = turn; lengths = with_items t.lengths lengths; place = place })
seen_written t place turn lengths sized = ap (λ l. with_turn (sender_of t) turn l place) (sym (with_items_is t.lengths lengths sized))

-- The fields after the read of the used index.
pub index_kept : (t : Inside) (count : ℕ) (place : Place) (turn : Allocator) (lengths : List ℕ) → length lengths ≡ t.lengths.len → IsWellFormed t → t.place ≡ ReadingUsedIndex → count ≤ t.slots.in_flight →
    GoesOn t.slots t.lengths.items t.length count place turn lengths → IsWellFormed (record t { slots = turn; lengths = with_items t.lengths lengths; place = place })
index_kept t count place turn lengths sized kept here within on =
    let on_all = subst (λ u. GoesOn u t.lengths.items (length (sender_of t).frame) count place turn lengths) (turn_is t kept) (goes_on_from t count t.slots place turn lengths kept on) in
    record {
      sender = subst IsSender (seen_written t place turn lengths sized)
          (goes_on_kept (sender_of t) count place turn lengths (closed_is (sender_of t) kept.sender) (place_holds t ReadingUsedIndex kept here) within on_all);
      slots = sizes_stay t.slots t.lengths.items t.length count place turn lengths on ∙ kept.slots;
      buffer = kept.buffer;
      length = kept.length;
    }

-- The fields after the read of an id.
pub id_kept : (t : Inside) (more : ℕ) (free : Allocator) (place : Place) (turn : Allocator) (lengths : List ℕ) → length lengths ≡ t.lengths.len → IsWellFormed t → t.place ≡ ReadingUsedId more →
    free ≡ with_freed t.slots (slice_index t.lengths.items (oldest_of t.slots)) →
    GoesOn free t.lengths.items t.length more place turn lengths → IsWellFormed (record t { slots = turn; lengths = with_items t.lengths lengths; place = place })
id_kept t more free place turn lengths sized kept here free_is on =
    let holds = place_holds t (ReadingUsedId more) kept here in
    let now = turn_is t kept in
    let freed : free ≡ with_freed (allocator_of (sender_of t)) (oldest_length (sender_of t)) = free_is ∙ ap (λ u. with_freed u (slice_index t.lengths.items (oldest_of u))) now in
    let on_all = subst (λ u. GoesOn u t.lengths.items (length (sender_of t).frame) more place turn lengths) freed (goes_on_from t more free place turn lengths kept on) in
    let some = holds.0 in
    record {
      sender = subst IsSender (seen_written t place turn lengths sized)
          (goes_on_kept (freed_one (sender_of t)) more place turn lengths (freed_is_sender (sender_of t) kept.sender (omega arith)) holds.1 (omega (arith, some)) on_all);
      slots = sizes_stay free t.lengths.items t.length more place turn lengths on ∙ (ap (λ (t : Allocator). t.sizes) free_is ∙ kept.slots);
      buffer = kept.buffer;
      length = kept.length;
    }

-- A sender with these parameters, this frame and these lists that accepted nothing.
abbrev pub begun_sender : Sizes → (own other_start target vector : ℕ) → (frame : List ℕ) → Allocator → (lengths entries : List ℕ) → Sender
begun_sender sizes own other_start target vector frame slots lengths entries = record {
  sizes = sizes;
  own = own;
  other_start = other_start;
  target = target;
  vector = vector;
  accepted = 0;
  next = slots.next;
  in_flight = slots.in_flight;
  head = slots.head;
  tail = slots.tail;
  left = slots.left;
  lengths = lengths;
  entries = entries;
  frame = frame;
  place = Closed;
}

-- The sender at the start of a session.
abbrev pub starting : Sizes → (own other_start target vector : ℕ) → (frame : List ℕ) → Sender
starting sizes own other_start target vector frame = record (fresh_sender sizes own other_start target vector) { frame = frame }

pub begun_is : (q : Sizes) (own other_start target vector : ℕ) (frame : List ℕ) (slots : Allocator) (lengths entries : List ℕ) → slots ≡ initial_allocator q → lengths ≡ replicate (limit_of q) 0 → entries ≡ replicate (size_of q / 2) 0 →
    starting q own other_start target vector frame ≡ begun_sender q own other_start target vector frame slots lengths entries
begun_is q own other_start target vector frame slots lengths entries slots_is lengths_are entries_are =
    sym (ap (λ s. begun_sender q own other_start target vector frame s lengths entries) slots_is ∙
    (ap (λ l. begun_sender q own other_start target vector frame (initial_allocator q) l entries) lengths_are ∙ ap (begun_sender q own other_start target vector frame (initial_allocator q) (replicate (limit_of q) 0)) entries_are))

pub fresh_is : (q : Sizes) (own other_start target vector : ℕ) (frame : List ℕ) → IsQueue q → 4 * own + q.out ≤ 2 ^ 24 → 4 * other_start + q.out ≤ 2 ^ 24 → IsSender (starting q own other_start target vector frame)
fresh_is q own other_start target vector frame queue own_room their_room =
    let b = bounds q queue in
    record {
      queue = queue;
      bounds = b;
      own_room = own_room;
      their_room = their_room;
      entries = let n : length (replicate {A = ℕ} (size_of q / 2) 0) ≡ size_of q / 2 = length-replicate (size_of q / 2) 0 in let whole = b.size_whole in omega arith;
      next = b.limit_least;
      in_flight = omega arith;
      lengths = length-replicate (limit_of q) 0;
      flight = (λ k. 0, 0, 0, record { refines = allocator_refines_session.starts q (λ k. 0); kept = λ k from below. absurd (omega arith) });
      place = tt;
    }

pub fresh_stands : (q : Sizes) (own other_start target vector : ℕ) (frame : List ℕ) (config : EndConfig) (end : End) → IsMadeFor (starting q own other_start target vector frame) config → IsFreshSession config end →
    RefinesAt (starting q own other_start target vector frame) config end laws.Closed
fresh_stands q own other_start target vector frame config end made fresh =
    let none : length end.accepted ≡ 0 = ap length fresh.accepted in
    let tx = starting q own other_start target vector frame in
    record {
      made = made;
      at = (
        refl,
        λ session. record {
          accepted = sym (ap (λ n. n % 65536) none);
          flight = subst (λ f. FlightRefinesSession (allocator_of tx) tx.lengths (lengths_of end.accepted) f (length end.accepted)) (sym fresh.freed)
              (subst (FlightRefinesSession (allocator_of tx) tx.lengths (lengths_of end.accepted) 0) (sym none) (record { refines = allocator_refines_session.starts q (lengths_of end.accepted); kept = λ k from below. absurd (omega arith) }));
          copy = λ k below. fresh.blank k below ∙ sym (zero_at (size_of q / 2) (k / 2));
        },
      );
    }
  where
    zero_at : (n i : ℕ) → slice_index (replicate n 0) i ≡ 0
    zero_at zero i = refl
    zero_at (suc n) zero = refl
    zero_at (suc n) (suc i) = zero_at n i
