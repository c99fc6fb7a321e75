-- The fields of a sender, from its view.
use Rattle.std.proofs.Common.{◌≡◌, ℕ, ◌+◌, ◌-◌, ◌/◌, ◌%◌, List, [], ◌∷◌, length, slice_index, arith, ap, sym, ◌∙◌, subst}
use Rattle.std.proofs.lemmas.List.{length-take}
use Rattle.ivs_base.specs.Numbers.{distance}
use Rattle.split_ring.specs.declared.ranges.FieldName.TheVariants.{UsedId}
use Rattle.split_ring.specs.declared.ranges.Refused.{Refused}
use Rattle.split_ring.specs.declared.steps.Note.{Note}
use Rattle.split_ring.specs.declared.steps.Note.TheVariants.{Reclaim, Refuse}
use Rattle.split_ring.specs.Ranges.{IsUsedIndex, IsUsedId}
use Rattle.frame_slots.specs.Allocator.{Allocator, oldest_of, with_freed}
use Rattle.tx_engine.specs.declared.tx.Tx.TheInside.{Inside}
use Rattle.tx_engine.specs.declared.place.Place.{Place}
use Rattle.tx_engine.specs.declared.place.Place.TheVariants.{ReadingUsedIndex, ReadingUsedId, Refusing}
use Rattle.tx_engine.specs.Sender.{Sender, IsFrame, IsPlace, allocator_of}
use Rattle.tx_engine.specs.Representation.{sender_of, IsWellFormed}
use Rattle.tx_engine.specs.Continuations.{GoesOn, full_notes}
use Rattle.tx_engine.specs.Refinement.{TakesStep}
use Rattle.tx_engine.proofs.AfterReads.{CanGoOn, with_turn, oldest_length, index_taken, id_taken, id_refused}

pub length_is : (t : Inside) → IsWellFormed t → length (sender_of t).frame ≡ t.length
length_is t kept = omega (arith, length-take t.length t.buffer.items, kept.buffer, kept.length)

pub turn_is : (t : Inside) → IsWellFormed t → t.slots ≡ allocator_of (sender_of t)
turn_is t kept = ap (λ q. let turn : Allocator = record t.slots { sizes = q } in turn) kept.slots

-- The invariant of the sender's place `here`.
pub place_holds : (t : Inside) (here : Place) → IsWellFormed t → t.place ≡ here → IsPlace (sender_of t) here
place_holds t here kept is = subst (λ p. IsPlace (sender_of t) p) is kept.sender.place

-- A sender can continue its offer after a read.
pub can_go_on : (t : Inside) → IsWellFormed t → IsFrame t.queue (sender_of t).frame → CanGoOn (sender_of t)
can_go_on t kept frame = record { queue = kept.sender.queue; lengths = kept.sender.lengths; least = frame.0; most = frame.1 }

pub goes_on_from : (t : Inside) (count : ℕ) (old : Allocator) (place : Place) (new : Allocator) (lengths : List ℕ) → IsWellFormed t → GoesOn old t.lengths.items t.length count place new lengths →
    GoesOn old t.lengths.items (length (sender_of t).frame) count place new lengths
goes_on_from t count old place new lengths kept on = subst (λ n. GoesOn old t.lengths.items n count place new lengths) (sym (length_is t kept)) on

-- The sender reads a used index in range.
pub index_step : (t : Inside) (old : Sender) (value count freed in_flight : ℕ) (place : Place) (turn : Allocator) (lengths : List ℕ) (notes : List Note) → sender_of t ≡ old → IsWellFormed t → t.place ≡ ReadingUsedIndex →
    freed ≡ (t.accepted + 65536 - t.slots.in_flight) % 65536 → in_flight ≡ t.slots.in_flight → IsUsedIndex freed (value / 65536) in_flight → count ≡ distance freed (value / 65536) →
    GoesOn t.slots t.lengths.items t.length count place turn lengths → notes ≡ Reclaim count ∷ full_notes place → TakesStep old value notes (with_turn (sender_of t) turn lengths place)
index_step t old value count freed in_flight place turn lengths notes view_is kept here freed_is in_flight_is within count_is on notes_are =
    let within_all : IsUsedIndex ((t.accepted + 65536 - t.slots.in_flight) % 65536) (value / 65536) t.slots.in_flight =
    subst (λ n. IsUsedIndex n (value / 65536) t.slots.in_flight) freed_is (subst (λ n. IsUsedIndex freed (value / 65536) n) in_flight_is within) in
    let count_all = count_is ∙ ap (λ n. distance n (value / 65536)) freed_is in
    let on_all = subst (λ u. GoesOn u t.lengths.items (length (sender_of t).frame) count place turn lengths) (turn_is t kept) (goes_on_from t count t.slots place turn lengths kept on) in
    subst (λ s. TakesStep s value notes (with_turn (sender_of t) turn lengths place)) view_is
    (index_taken (sender_of t) value count place turn lengths notes kept.sender (can_go_on t kept (place_holds t ReadingUsedIndex kept here)) here within_all count_all on_all notes_are)

-- The sender reads the id of the oldest frame in flight.
pub id_step : (t : Inside) (old : Sender) (more id oldest : ℕ) (free : Allocator) (place : Place) (turn : Allocator) (lengths : List ℕ) (notes : List Note) → sender_of t ≡ old → IsWellFormed t → t.place ≡ ReadingUsedId more →
    oldest ≡ oldest_of t.slots → id ≡ oldest → free ≡ with_freed t.slots (slice_index t.lengths.items oldest) → GoesOn free t.lengths.items t.length more place turn lengths →
    notes ≡ full_notes place → TakesStep old id notes (with_turn (sender_of t) turn lengths place)
id_step t old more id oldest free place turn lengths notes view_is kept here oldest_is id_is free_is on notes_are =
    let holds = place_holds t (ReadingUsedId more) kept here in
    let now = turn_is t kept in
    let kept_length : slice_index t.lengths.items oldest ≡ oldest_length (sender_of t) = ap (slice_index t.lengths.items) (oldest_is ∙ ap oldest_of now) in
    let freed : free ≡ with_freed (allocator_of (sender_of t)) (oldest_length (sender_of t)) = free_is ∙ (ap (λ u. with_freed u (slice_index t.lengths.items oldest)) now ∙ ap (with_freed (allocator_of (sender_of t))) kept_length) in
    let on_all = subst (λ u. GoesOn u t.lengths.items (length (sender_of t).frame) more place turn lengths) freed (goes_on_from t more free place turn lengths kept on) in
    subst (λ s. TakesStep s id notes (with_turn (sender_of t) turn lengths place)) view_is
    (id_taken (sender_of t) more id place turn lengths notes kept.sender (can_go_on t kept holds.1) holds.0 here (id_is ∙ (oldest_is ∙ ap oldest_of now)) on_all notes_are)

-- The sender reads another id.
pub id_refusal : (t : Inside) (old : Sender) (more id oldest : ℕ) (refused : Refused) (notes : List Note) → sender_of t ≡ old → IsWellFormed t → t.place ≡ ReadingUsedId more → oldest ≡ oldest_of t.slots → ¬ IsUsedId oldest id →
    refused ≡ record { field = UsedId; value = id } → notes ≡ Refuse refused ∷ [] → TakesStep old id notes (record old { place = Refusing })
id_refusal t old more id oldest refused notes view_is kept here oldest_is other refused_is notes_are =
    let other_all : ¬ IsUsedId (oldest_of (allocator_of (sender_of t))) id = λ e. other (e ∙ sym (oldest_is ∙ ap oldest_of (turn_is t kept))) in
    subst (λ s. TakesStep s id notes (record s { place = Refusing })) view_is (subst (λ n. TakesStep (sender_of t) id n (record (sender_of t) { place = Refusing })) (sym notes_are) (id_refused (sender_of t) more id refused kept.sender here other_all refused_is))
