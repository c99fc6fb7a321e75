-- The meaning of the fields of a receiver.
use Rattle.std.specs.Prelude.{ℕ, ◌≡◌, ◌+◌, ◌*◌, ◌≤◌, min, length, take}
use Rattle.section_map.specs.declared.limits.TheConstants.{LARGEST_REGION}
use Rattle.split_ring.specs.declared.sizes.TheConstants.{LONGEST_FRAME}
use Rattle.split_ring.specs.Layout.{Sizes, IsQueue, HasBounds, data_area_len}
use Rattle.rx_engine.specs.Receiver.{Receiver, words_read, IsReached}
use Rattle.rx_engine.specs.declared.receiver.Rx.TheInside.{Inside}

-- The length in bytes of the longest frame that passes the checks: 65,553, and at most the length
-- of the data area.
abbrev pub longest_frame : Sizes → ℕ
longest_frame q = min LONGEST_FRAME (data_area_len q)

abbrev pub receiver_of : Inside → Receiver
receiver_of a = record {
  sizes = a.queue;
  own = a.own;
  other_start = a.other_start;
  target = a.target;
  vector = a.vector;
  returned = a.returned;
  found_none = a.found_none;
  place = a.place;
  frame = take a.delivered a.last.items;
  gathered = take (4 * words_read a.place) a.buffer.items;
}

-- The invariant of a receiver. The sections end at or before byte 2^24 of the region, and both
-- buffers hold the longest frame. The values of the place passed their checks.
pub record IsWellFormed (a : Inside) : Type 0 where
  pub queue : IsQueue a.queue
  pub bounds : HasBounds a.queue
  pub own : 4 * a.own + a.queue.out ≤ LARGEST_REGION
  pub other_start : 4 * a.other_start + a.queue.out ≤ LARGEST_REGION
  pub room : length a.buffer.items ≡ longest_frame a.queue
  pub last : length a.last.items ≡ longest_frame a.queue
  pub frame : a.delivered ≤ length a.last.items
  pub place : IsReached a.queue a.place
