-- The view of a receiver in contracts.
use Rattle.std.specs.Prelude.{ℕ, zero, ◌≡◌, ◌-◌, ◌*◌, ◌<◌, ◌==◌, if◌then◌else◌, Bool, true, false, ◌&&◌, ◌||◌, not, Option, Some, None, List, []}
use Rattle.split_ring.specs.Layout.{Sizes, has_events}
use Rattle.split_ring.specs.Ranges.{IsAvailEntry, IsDescAddress, IsDescLength}
use Rattle.call_grammar.specs.Words.{words_for}
use Rattle.rx_engine.specs.declared.place.Place.{Place}
use Rattle.rx_engine.specs.declared.place.Place.TheVariants.{Closed, ReadingDescAddressLow, ReadingDescAddressHigh, ReadingDescLength, ReadingDescFlags, ReadingFrameWord, WritingUsedId, WritingUsedLength, WritingUsedIndex}

-- The view of a receiver:
-- - the sizes of the queue, the first words of the own section and of the other's, and the target
--   and the vector of the doorbell;
-- - the number of frames that were returned in the session, modulo 65,536; and whether the
--   session's last read of the available index found no frame;
-- - the place in the open poll;
-- - the frame delivered last, or no byte before the first delivery, and the bytes read of a frame
--   that isn't delivered yet.
pub record Receiver : Type 0 where
  pub sizes : Sizes
  pub own : ℕ
  pub other_start : ℕ
  pub target : ℕ
  pub vector : ℕ
  pub returned : ℕ
  pub found_none : Bool
  pub place : Place
  pub frame : List ℕ
  pub gathered : List ℕ

-- A receiver with these parameters that delivered no frame.
abbrev pub fresh_receiver : Sizes → (own other_start target vector : ℕ) → Receiver
fresh_receiver sizes own other_start target vector = record {
  sizes = sizes;
  own = own;
  other_start = other_start;
  target = target;
  vector = vector;
  returned = 0;
  found_none = false;
  place = Closed;
  frame = [];
  gathered = [];
}

-- The receiver at the start of a session: only the frame delivered last stays.
abbrev pub renewed : Receiver → Receiver
renewed rx = record (fresh_receiver rx.sizes rx.own rx.other_start rx.target rx.vector) { frame = rx.frame }

-- The first read of the available index is the last one of a poll that begins now if it finds no
-- frame: avail_event isn't written.
abbrev pub is_last : Receiver → Bool
is_last rx = not (has_events rx.sizes) || rx.found_none

-- Between two polls: the session's last read of the available index found no frame. So in a link
-- with events the own avail_event wants a doorbell for the next one.
abbrev pub is_armed : Receiver → Bool
is_armed rx = has_events rx.sizes && rx.found_none

-- A poll is open at every place except `Closed`.
abbrev pub is_open_at : Place → Bool
is_open_at Closed = false
is_open_at _ = true

abbrev pub is_busy : Receiver → Bool
is_busy rx = is_open_at rx.place

-- The number of words read of a frame that isn't delivered yet.
abbrev pub words_read : Place → ℕ
words_read (ReadingFrameWord more entry address bytes at) = at
words_read _ = 0

-- The number of the next accesses that read the words left of a frame. 0 at every other place.
abbrev pub reads_ahead : Place → ℕ
reads_ahead (ReadingFrameWord more entry address bytes at) = words_for bytes - at
reads_ahead _ = 0

-- The length in bytes of the frame whose first word is read next.
abbrev pub frame_ahead : Place → Option ℕ
frame_ahead (ReadingFrameWord more entry address bytes zero) = Some bytes
frame_ahead _ = None

-- The number of the next accesses that write the two words of a used element. 0 at every other
-- place.
abbrev pub writes_ahead : Place → ℕ
writes_ahead (WritingUsedId more entry) = 2
writes_ahead _ = 0

-- The place after 1 or 2 of these writes.
abbrev pub given : (more count : ℕ) → Place
given more count = if count == 1 then WritingUsedLength more else WritingUsedIndex more

-- 1 if the frame delivered last isn't returned yet, else 0.
abbrev pub unreturned : Place → ℕ
unreturned (WritingUsedId more entry) = 1
unreturned (WritingUsedLength more) = 1
unreturned (WritingUsedIndex more) = 1
unreturned _ = 0

-- The values read of the item passed their checks.
abbrev pub IsReached : Sizes → Place → Type 0
IsReached q (ReadingDescAddressLow more entry) = IsAvailEntry q entry
IsReached q (ReadingDescAddressHigh more entry low) = IsAvailEntry q entry
IsReached q (ReadingDescLength more entry address) = IsAvailEntry q entry × IsDescAddress q address
IsReached q (ReadingDescFlags more entry address bytes) = IsAvailEntry q entry × IsDescAddress q address × IsDescLength q address bytes
IsReached q (ReadingFrameWord more entry address bytes at) = IsDescAddress q address × IsDescLength q address bytes × (4 * at < bytes)
IsReached q _ = Unit {0}

-- The receiver's parameters are unchanged.
pub record KeepsNumbers (old new : Receiver) : Type 0 where
  pub sizes : new.sizes ≡ old.sizes
  pub own : new.own ≡ old.own
  pub other_start : new.other_start ≡ old.other_start
  pub target : new.target ≡ old.target
  pub vector : new.vector ≡ old.vector
