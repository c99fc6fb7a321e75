-- The meaning of the fields of a sender.
use Rattle.std.specs.Prelude.{◌≡◌, ◌+◌, ◌≤◌, take, vec_len}
use Rattle.split_ring.specs.declared.sizes.TheConstants.{FRAME_OVERHEAD}
use Rattle.tx_engine.specs.declared.tx.Tx.TheInside.{Inside}
use Rattle.tx_engine.specs.Sender.{Sender, IsSender}

-- The view of a sender's fields. `own` and `other_start` are the first words of the two sections.
-- The offered frame is the first `length` bytes of the buffer.
abbrev pub sender_of : Inside → Sender
sender_of t = record {
  sizes = t.queue;
  own = t.own;
  other_start = t.other_start;
  target = t.target;
  vector = t.vector;
  accepted = t.accepted;
  next = t.slots.next;
  in_flight = t.slots.in_flight;
  head = t.slots.head;
  tail = t.slots.tail;
  left = t.slots.left;
  lengths = t.lengths.items;
  entries = t.entries.items;
  frame = take t.length t.buffer.items;
  place = t.place;
}

-- The slots are the queue's, and the buffer holds the longest frame.
pub record IsWellFormed (t : Inside) : Type 0 where
  pub sender : IsSender (sender_of t)
  pub slots : t.slots.sizes ≡ t.queue
  pub buffer : vec_len t.buffer ≡ t.queue.mtu + FRAME_OVERHEAD
  pub length : t.length ≤ t.queue.mtu + FRAME_OVERHEAD
