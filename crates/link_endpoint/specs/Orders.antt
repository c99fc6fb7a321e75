-- The memory order that each access needs. The two State words and the indices order all other
-- accesses. A peer that reads such a word sees all earlier writes of its writer. A peer that a
-- doorbell interrupts sees the writes before the doorbell.
--
-- A full fence follows each write of the own State, so that no old value of the other's State is
-- read as a new one. A full fence is between the receiver's write of avail_event and its next read
-- of the available index. Another one is between the sender's write of the available index and its
-- read of avail_event. So at least one of the two ends sees the other's write.
use Rattle.std.specs.Prelude.{Bool, true, false}
use Rattle.split_ring.specs.declared.steps.WordKind.{WordKind}
use Rattle.split_ring.specs.declared.steps.WordKind.TheVariants.{Plain, IndexRead, IndexWrite, EventRead, EventWrite}
use Rattle.call_grammar.specs.Places as places
use Rattle.link_endpoint.specs.declared.order.Order.TheVariants.{Relaxed, Acquire, Release}
use Rattle.link_endpoint.specs.declared.order.Ordering.{Ordering}

abbrev pub relaxed : Ordering
relaxed = record { order = Relaxed; fence_before = false; fence_after = false }

abbrev pub acquire : Ordering
acquire = record { order = Acquire; fence_before = false; fence_after = false }

abbrev pub relaxed_before_a_fence : Ordering
relaxed_before_a_fence = record { order = Relaxed; fence_before = false; fence_after = true }

abbrev pub relaxed_after_a_fence : Ordering
relaxed_after_a_fence = record { order = Relaxed; fence_before = true; fence_after = false }

abbrev pub release : Ordering
release = record { order = Release; fence_before = false; fence_after = false }

abbrev pub release_with_a_fence : Ordering
release_with_a_fence = record { order = Release; fence_before = false; fence_after = true }

-- The order of each access:
-- - a read of the other's State is an acquire; a write of the own State is a release, with a fence
--   after it;
-- - a read of an index is an acquire; a write of an index is a release;
-- - a doorbell is a release, so it is ordered after the index that it announces;
-- - a fence is after the write of the own avail_event and before the read of the other's;
-- - every other access is relaxed.
abbrev pub order_at : places.Place → Ordering
order_at (places.ReadingOtherState handshake) = acquire
order_at (places.WritingState state) = release_with_a_fence
order_at places.Refusing = release_with_a_fence
order_at (places.ReadingUsedIndex pending freed) = acquire
order_at (places.ReadingAvailIndex taken last) = acquire
order_at (places.WritingAvailIndex pending) = release
order_at (places.WritingUsedIndex number more) = release
order_at places.RingingOffer = release
order_at places.RingingPoll = release
order_at (places.ReadingAvailEvent number) = relaxed_after_a_fence
order_at (places.WritingAvailEvent taken) = relaxed_before_a_fence
order_at _ = relaxed

-- The order of an access of an offer or a poll: a doorbell's, or the order of the kind of its word.
abbrev pub order_of : (rings : Bool) → WordKind → Ordering
order_of true kind = release
order_of false Plain = relaxed
order_of false IndexRead = acquire
order_of false IndexWrite = release
order_of false EventRead = relaxed_after_a_fence
order_of false EventWrite = relaxed_before_a_fence
