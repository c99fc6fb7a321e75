-- The order of a peer's calls (profile), by its own event records. Event records so far are listed
-- newest first.
use Rattle.std.specs.Prelude.{ℕ, ◌≡◌, ◌+◌, ◌==◌, ◌⊎◌, if◌then◌else◌, Option, Some, None, List, [], ◌∷◌, ◌++◌, slice_get}
use Rattle.section_map.specs.Geometry.{section_start}
use Rattle.split_ring.specs.declared.steps.Access.TheVariants.{Write}
use Rattle.port_text.specs.Scenario.{World}
use Rattle.sampling_port.specs.Marks.{PortMark, Got}
use Rattle.sampling_port.specs.Marks as mark
use Rattle.sampling_port.specs.Trees.{PortTree, Ended, PortStep, port_step, Goes}
use Rattle.sampling_port.specs.Calls as call
use Rattle.sampling_port.specs.Schedule.{PortCall, Publish, Sample, Event, CallQueued, TurnTaken, Poked}
use Rattle.sampling_port.specs.EventRecords.{EventRecord}

-- The contents of the event records so far

-- The calls queued for the peer, the oldest first.
abbrev pub asked_with : Event → List PortCall → List PortCall
asked_with (CallQueued peer call) calls = calls ++ call ∷ []
asked_with _ calls = calls

abbrev pub asked_for : List EventRecord → List PortCall
asked_for [] = []
asked_for (entry ∷ older) = asked_with entry.event (asked_for older)

abbrev pub mark_of_step : Option PortStep → Option PortMark
mark_of_step None = None
mark_of_step (Some step) = step.mark

-- The number of messages that the peer published.
abbrev pub published_with : Option PortMark → ℕ → ℕ
published_with (Some (mark.Publish number)) count = count + 1
published_with _ count = count

abbrev pub published_in : List EventRecord → ℕ
published_in [] = 0
published_in (entry ∷ older) = published_with (mark_of_step entry.went) (published_in older)

-- The number of the last message that the peer got from `from`, or 0.
abbrev pub last_with : ℕ → Option PortMark → ℕ → ℕ
last_with from (Some (Got peer number message)) before = if peer == from then number else before
last_with from _ before = before

abbrev pub last_got : ℕ → List EventRecord → ℕ
last_got from [] = 0
last_got from (entry ∷ older) = last_with from (mark_of_step entry.went) (last_got from older)

-- The progress of a peer

-- Its own event records so far, what is left of its open call, and the number of queued calls that
-- it began.
pub record Progress : Type 0 where
  pub past : List EventRecord
  pub left : PortTree
  pub begun : ℕ

abbrev pub initial_progress : Progress
initial_progress = record { past = []; left = Ended; begun = 0 }

-- The call of peer p after these event records of its own; its messages are numbered from 1.
abbrev pub tree_of : World → ℕ → List EventRecord → PortCall → PortTree
tree_of world p past (Publish message) = call.publish (section_start world.geometry p) world.most (published_in past + 1) message
tree_of world p past (Sample from) = call.sample from (section_start world.geometry from) world.most (last_got from past)

-- The peer's progress after its next call begins, if the call before it has ended.
abbrev pub begins_next : World → ℕ → Progress → Option PortCall → Progress
begins_next world p peer None = peer
begins_next world p peer (Some call) = record peer { left = tree_of world p peer.past call; begun = peer.begun + 1 }

abbrev pub begins_by : World → ℕ → Progress → PortTree → Progress
begins_by world p peer Ended = begins_next world p peer (slice_get (asked_for peer.past) peer.begun)
begins_by world p peer _ = peer

abbrev pub begins : World → ℕ → Progress → Progress
begins world p peer = begins_by world p peer peer.left

-- The effect of a peer's own event on the peer

abbrev pub CallStep : Progress → PortTree → Option PortStep → Progress → Type 0
CallStep peer Ended went new = (went ≡ None) × (new ≡ peer)
CallStep peer call went new = (step : PortStep) × (left : PortTree) × (went ≡ Some step) × Goes call step left × (new ≡ record peer { left = left })

-- A turn is the next step of the open call, else the first step of the next queued call, else none.
abbrev pub Turns : World → ℕ → Progress → Option PortStep → Progress → Type 0
Turns world p old went new = CallStep (begins world p old) (begins world p old).left went new

-- A write of a hostile peer is made, or it is denied and no step is made.
abbrev pub IsMade : (word value : ℕ) → Option PortStep → Type 0
IsMade word value went = (went ≡ Some (port_step (Write word value) 0 None)) ⊎ (went ≡ None)

-- The step made in an event of peer p, and the peer's progress after it.
abbrev pub EventStep : World → ℕ → Progress → Event → Option PortStep → Progress → Type 0
EventStep world p old (CallQueued peer call) went new = (went ≡ None) × (new ≡ old)
EventStep world p old (TurnTaken peer) went new = Turns world p old went new
EventStep world p old (Poked peer word value) went new = IsMade word value went × (new ≡ old)

-- The progress with one more event record.
abbrev pub noted : Progress → EventRecord → Progress
noted peer entry = record peer { past = entry ∷ peer.past }

-- From `old`, these event records of peer p are its calls in their order, and lead to `new`.
abbrev pub IsCallSequence : World → ℕ → Progress → List EventRecord → Progress → Type 0
IsCallSequence world p old [] new = new ≡ old
IsCallSequence world p old (entry ∷ entries) new = (mid : Progress) × EventStep world p old entry.event entry.went mid × IsCallSequence world p (noted mid entry) entries new
