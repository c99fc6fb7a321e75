-- The view of a sender in contracts, and its invariant, which holds for all values read.
use Rattle.std.specs.Prelude.{◌≡◌, ℕ, ◌+◌, ◌*◌, ◌/◌, ◌%◌, ◌<◌, ◌≤◌, Bool, true, false, List, [], length, replicate, slice_index}
use Rattle.section_map.specs.declared.limits.TheConstants.{LARGEST_REGION}
use Rattle.split_ring.specs.declared.sizes.TheConstants.{FRAME_OVERHEAD, SHORTEST_FRAME}
use Rattle.split_ring.specs.declared.steps.Access.{Access}
use Rattle.split_ring.specs.declared.steps.Access.TheVariants as access
use Rattle.split_ring.specs.Layout.{Sizes, IsQueue, HasBounds, size_of, limit_of}
use Rattle.frame_slots.specs.declared.slots.Slot as slots
use Rattle.frame_slots.specs.Allocator.{Allocator}
use Rattle.frame_slots.specs.Refinement.{RefinesSession}
use Rattle.call_grammar.specs.Words.{words_for, with_entry}
use Rattle.tx_engine.specs.declared.place.Place.{Place}
use Rattle.tx_engine.specs.declared.place.Place.TheVariants.{Closed, ReadingUsedIndex, ReadingUsedId, WritingFrameWord, WritingDescAddressLow, WritingDescAddressHigh, WritingDescLength, WritingDescFlags, WritingAvailEntry, WritingAvailIndex}

-- The view of a sender:
-- - the sizes of the queue, the first words of the two sections, and the target and the vector of
--   its doorbells;
-- - the number of frames accepted, modulo 65,536;
-- - the next descriptor, the frames in flight, their bytes of the byte ring and, by descriptor,
--   their lengths;
-- - the own copy of the entry words;
-- - the frame offered last, and the place in the open offer.
pub record Sender : Type 0 where
  pub sizes : Sizes
  pub own : ℕ
  pub other_start : ℕ
  pub target : ℕ
  pub vector : ℕ
  pub accepted : ℕ
  pub next : ℕ
  pub in_flight : ℕ
  pub head : ℕ
  pub tail : ℕ
  pub left : ℕ
  pub lengths : List ℕ
  pub entries : List ℕ
  pub frame : List ℕ
  pub place : Place

-- The allocator of the sender's slots.
abbrev pub allocator_of : Sender → Allocator
allocator_of tx = record { sizes = tx.sizes; next = tx.next; in_flight = tx.in_flight; head = tx.head; tail = tx.tail; left = tx.left }

-- The slots refine the frames from number `freed` on and below `sent` of a session with these
-- lengths. The length of each frame is stored by its descriptor.
pub record FlightRefinesSession (t : Allocator) (lengths : List ℕ) (length_of : ℕ → ℕ) (freed sent : ℕ) : Type 0 where
  pub refines : RefinesSession t length_of freed sent
  pub kept : (k : ℕ) → freed ≤ k → k < sent → slice_index lengths (k % limit_of t.sizes) ≡ length_of k

-- The slots and the stored lengths refine a session.
abbrev pub HasFlight : Allocator → List ℕ → Type 0
HasFlight t lengths = (length_of : ℕ → ℕ) × (freed : ℕ) × (sent : ℕ) × FlightRefinesSession t lengths length_of freed sent

-- An offer is open.
abbrev pub is_open : Place → Bool
is_open Closed = false
is_open _ = true

-- The number of the next accesses that write the words left of the frame, or the four words of its
-- descriptor. 0 at every other place.
abbrev pub writes_ahead : Place → ℕ
writes_ahead (WritingFrameWord slot at more) = more + 1
writes_ahead (WritingDescAddressLow slot) = 4
writes_ahead _ = 0

-- A frame that may be offered.
abbrev pub IsFrame : Sizes → List ℕ → Type 0
IsFrame sizes frame = (SHORTEST_FRAME ≤ length frame) × (length frame ≤ sizes.mtu + FRAME_OVERHEAD)

-- The offered frame has this slot: its words end inside the section.
abbrev pub HasSlot : Sender → slots.Slot → Type 0
HasSlot tx slot =
    (0 < tx.in_flight) × (slot.descriptor < limit_of tx.sizes) × (slot.address % 4 ≡ 0) × (slot.address + 4 * words_for (length tx.frame) ≤ tx.sizes.out) ×
    IsFrame tx.sizes tx.frame

-- The invariant of each place of the offer.
abbrev pub IsPlace : Sender → Place → Type 0
IsPlace tx ReadingUsedIndex = IsFrame tx.sizes tx.frame
IsPlace tx (ReadingUsedId more) = (more < tx.in_flight) × IsFrame tx.sizes tx.frame
IsPlace tx (WritingFrameWord slot at more) = HasSlot tx slot × (at + more + 1 ≡ words_for (length tx.frame))
IsPlace tx (WritingDescAddressLow slot) = HasSlot tx slot
IsPlace tx (WritingDescAddressHigh slot) = HasSlot tx slot
IsPlace tx (WritingDescLength slot) = HasSlot tx slot
IsPlace tx (WritingDescFlags slot) = HasSlot tx slot
IsPlace tx (WritingAvailEntry slot) = HasSlot tx slot
IsPlace tx WritingAvailIndex = 0 < tx.in_flight
IsPlace tx _ = Unit {0}

-- The invariant of a sender. Both sections end at or before word 4,194,304 of the region. The copy
-- has half as many words as the queue has entries. A length is stored for each descriptor that can
-- be in flight.
pub record IsSender (tx : Sender) : Type 0 where
  pub queue : IsQueue tx.sizes
  pub bounds : HasBounds tx.sizes
  pub own_room : 4 * tx.own + tx.sizes.out ≤ LARGEST_REGION
  pub their_room : 4 * tx.other_start + tx.sizes.out ≤ LARGEST_REGION
  pub entries : 2 * length tx.entries ≡ size_of tx.sizes
  pub next : tx.next < limit_of tx.sizes
  pub in_flight : tx.in_flight ≤ limit_of tx.sizes
  pub lengths : length tx.lengths ≡ limit_of tx.sizes
  pub flight : HasFlight (allocator_of tx) tx.lengths
  pub place : IsPlace tx tx.place

-- The word of the next entry if that entry names `descriptor`, with the own copy of the other half.
abbrev pub entry_word_of : Sender → ℕ → ℕ
entry_word_of tx descriptor = with_entry (tx.accepted % size_of tx.sizes) (slice_index tx.entries (tx.accepted % size_of tx.sizes / 2)) descriptor

-- The access reads a word of the other's section, writes a word of the own section or State 0, or
-- rings the target.
abbrev pub IsSenderAccess : Sender → Access → Type 0
IsSenderAccess tx (access.Read word) = (tx.other_start ≤ word) × (4 * word + 4 ≤ 4 * tx.other_start + tx.sizes.out)
IsSenderAccess tx (access.Write word value) = (tx.own ≤ word) × (4 * word + 4 ≤ 4 * tx.own + tx.sizes.out)
IsSenderAccess tx (access.State state) = state ≡ 0
IsSenderAccess tx (access.Ring target vector) = (target ≡ tx.target) × (vector ≡ tx.vector)
IsSenderAccess tx access.Nothing = ⊥

-- A sender with these parameters that accepted, wrote and was offered nothing.
abbrev pub fresh_sender : Sizes → (own other_start target vector : ℕ) → Sender
fresh_sender sizes own other_start target vector = record {
  sizes = sizes;
  own = own;
  other_start = other_start;
  target = target;
  vector = vector;
  accepted = 0;
  next = 0;
  in_flight = 0;
  head = 0;
  tail = 0;
  left = 0;
  lengths = replicate (limit_of sizes) 0;
  entries = replicate (size_of sizes / 2) 0;
  frame = [];
  place = Closed;
}

-- The sender at the start of a session: only the frame offered last stays.
abbrev pub renewed : Sender → Sender
renewed tx = record (fresh_sender tx.sizes tx.own tx.other_start tx.target tx.vector) { frame = tx.frame }
