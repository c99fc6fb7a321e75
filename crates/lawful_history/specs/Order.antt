-- The order of a peer's calls (profile): the call that a turn begins, from the peer's own event
-- records. Event records are listed newest first.
use Rattle.std.specs.Prelude.{ℕ, ◌≡◌, ◌+◌, ◌⊎◌, true, false, Option, Some, None, List, [], ◌∷◌, ◌++◌, drop, slice_get}
use Rattle.split_ring.specs.declared.steps.Access.{Access}
use Rattle.split_ring.specs.declared.steps.Access.TheVariants as access
use Rattle.scenario_text.specs.Scenario.{World}
use Rattle.call_grammar.specs.Steps.{Mark, Accept, Deliver, Step, step_of}
use Rattle.call_grammar.specs.Trees.{CallTree, Ended, Goes}
use Rattle.call_grammar.specs.Ends.{End, fresh, after_reset, end_after}
use Rattle.call_grammar.specs.Calls.{EndConfig, Call, Tick, Offer, Poll, tree_of}
use Rattle.call_grammar.specs.Automatic.{Chosen, Choice, ChoosesTick, ChoosesOffer, ChoosesPoll, IsFinished, choice_by_rule}
use Rattle.lawful_history.specs.Schedule.{Event, CallQueued, AutoStarted, StormStarted, TurnTaken, RegionAccessed, DeviceReset}
use Rattle.lawful_history.specs.Sides.{config_of}
use Rattle.lawful_history.specs.Storm.{storm_step, storm_after}
use Rattle.lawful_history.specs.EventRecords.{EventRecord}

-- The state that the earlier event records determine

-- The source of the next call if no call waits: none; the rule of the automatic end, which expects
-- `expected` deliveries; or a storm.
pub data Chooser : Type 0 where
  Nobody : Chooser
  TheRule : (expected : ℕ) → Chooser
  TheStorm : Chooser

-- The last start of an automatic end or of a storm determines it, and a reset doesn't change it.
abbrev pub chooser_after : Event → Chooser → Chooser
chooser_after (AutoStarted peer expected) before = TheRule expected
chooser_after (StormStarted peer seed) before = TheStorm
chooser_after _ before = before

abbrev pub chooser : List EventRecord → Chooser
chooser [] = Nobody
chooser (entry ∷ older) = chooser_after entry.event (chooser older)

-- The calls queued since the last reset, oldest first. The frame of an Offer to an automatic end
-- isn't one of them.
abbrev pub queued_with : Chooser → Call → List Call → List Call
queued_with (TheRule expected) (Offer frame) calls = calls
queued_with chooser call calls = calls ++ call ∷ []

abbrev pub queued_after : Event → Chooser → List Call → List Call
queued_after (CallQueued peer call) chooser calls = queued_with chooser call calls
queued_after (DeviceReset peer) chooser calls = []
queued_after _ chooser calls = calls

abbrev pub queued_since_reset : List EventRecord → List Call
queued_since_reset [] = []
queued_since_reset (entry ∷ older) = queued_after entry.event (chooser older) (queued_since_reset older)

abbrev pub marks_of : Option Step → List Mark
marks_of None = []
marks_of (Some step) = step.marks

-- The frames of an automatic end that aren't accepted yet, oldest first.
abbrev pub with_frame : Call → List (List ℕ) → List (List ℕ)
with_frame (Offer frame) frames = frames ++ frame ∷ []
with_frame _ frames = frames

abbrev pub without_accepted : Mark → List (List ℕ) → List (List ℕ)
without_accepted (Accept frame) frames = drop 1 frames
without_accepted _ frames = frames

abbrev pub without_all_accepted : List Mark → List (List ℕ) → List (List ℕ)
without_all_accepted [] frames = frames
without_all_accepted (mark ∷ marks) frames = without_all_accepted marks (without_accepted mark frames)

abbrev pub frames_after : Event → Option Step → List (List ℕ) → List (List ℕ)
frames_after (CallQueued peer call) went frames = with_frame call frames
frames_after (AutoStarted peer expected) went frames = []
frames_after (TurnTaken peer) went frames = without_all_accepted (marks_of went) frames
frames_after _ went frames = frames

abbrev pub frames_left : List EventRecord → List (List ℕ)
frames_left [] = []
frames_left (entry ∷ older) = frames_after entry.event entry.went (frames_left older)

-- The number of frames that an automatic end delivered in the whole run, through all resets. The
-- end is started before its first call.
abbrev pub with_delivered : Mark → ℕ → ℕ
with_delivered (Deliver frame) count = count + 1
with_delivered _ count = count

abbrev pub with_all_delivered : List Mark → ℕ → ℕ
with_all_delivered [] count = count
with_all_delivered (mark ∷ marks) count = with_all_delivered marks (with_delivered mark count)

abbrev pub delivered_after : Event → Option Step → ℕ → ℕ
delivered_after (AutoStarted peer expected) went count = 0
delivered_after (TurnTaken peer) went count = with_all_delivered (marks_of went) count
delivered_after _ went count = count

abbrev pub delivered_in : List EventRecord → ℕ
delivered_in [] = 0
delivered_in (entry ∷ older) = delivered_after entry.event entry.went (delivered_in older)

-- The state of a peer

-- The progress of a peer: its own event records, its end of the link, and the rest of its open
-- call. `begun` counts the calls queued since the last reset that it began. `before` is the call
-- that it chose last, and `generator` the state of its storm's generator.
pub record Progress : Type 0 where
  pub past : List EventRecord
  pub end : End
  pub left : CallTree
  pub begun : ℕ
  pub before : Option Chosen
  pub generator : ℕ

abbrev pub initial_progress : Progress
initial_progress = record { past = []; end = fresh; left = Ended; begun = 0; before = None; generator = 0 }

-- The call that a turn begins

-- The peer begins a call that it chose.
abbrev pub chooses : EndConfig → Progress → Call → Progress
chooses config peer call = record peer {
  left = tree_of config peer.end call;
  before = Some (record { call = call; phase = peer.end.handshake.phase; was_reset = false });
}

abbrev pub chooses_by : EndConfig → Progress → Choice → Progress
chooses_by config peer ChoosesTick = chooses config peer Tick
chooses_by config peer (ChoosesOffer frame) = chooses config peer (Offer frame)
chooses_by config peer ChoosesPoll = chooses config peer Poll
chooses_by config peer IsFinished = peer

abbrev pub chosen_next : EndConfig → Progress → Chooser → Progress
chosen_next config peer Nobody = peer
chosen_next config peer (TheRule expected) =
    chooses_by config peer (choice_by_rule peer.end.handshake.phase peer.before (frames_left peer.past) (delivered_in peer.past) expected)
chosen_next config peer TheStorm = peer

-- The next of the queued calls, else the chosen one.
abbrev pub queued_or_chosen : EndConfig → Progress → Option Call → Progress
queued_or_chosen config peer None = chosen_next config peer (chooser peer.past)
queued_or_chosen config peer (Some call) = record peer { left = tree_of config peer.end call; begun = peer.begun + 1 }

-- A call begins after the one before it has ended.
abbrev pub begins_by : EndConfig → Progress → CallTree → Progress
begins_by config peer Ended = queued_or_chosen config peer (slice_get (queued_since_reset peer.past) peer.begun)
begins_by config peer _ = peer

abbrev pub begins : EndConfig → Progress → Progress
begins config peer = begins_by config peer peer.left

-- A turn

-- The step of a call, of which `left` is left.
abbrev pub goes_to : Progress → Step → CallTree → Progress
goes_to peer step left = record peer { end = end_after peer.end step; left = left }

abbrev pub GoesOn : Progress → CallTree → Option Step → Progress → Type 0
GoesOn peer call went new = (step : Step) × (left : CallTree) × (went ≡ Some step) × Goes call step left × (new ≡ goes_to peer step left)

-- A turn without an open call is a step of the storm, if there is one.
abbrev pub IdleStep : World → ℕ → Progress → Chooser → Option Step → Progress → Type 0
IdleStep world p peer TheStorm went new = (went ≡ Some (storm_step world p peer.generator)) × (new ≡ record peer { generator = storm_after peer.generator })
IdleStep world p peer _ went new = (went ≡ None) × (new ≡ peer)

abbrev pub CallStep : World → ℕ → Progress → CallTree → Option Step → Progress → Type 0
CallStep world p peer Ended went new = IdleStep world p peer (chooser peer.past) went new
CallStep world p peer call went new = GoesOn peer call went new

-- A turn is the next step of the open call. Without an open call it is the first step of the next
-- queued call. If no call is queued, it is the first step of an automatic end's choice, else a step
-- of the storm, else none.
abbrev pub Turns : World → ℕ → Progress → Option Step → Progress → Type 0
Turns world p old went new = CallStep world p (begins (config_of world p) old) (begins (config_of world p) old).left went new

-- The other events

-- An access outside a call. A write can be denied, and then there is no step.
abbrev pub IsMade : Access → Option Step → Type 0
IsMade (access.Read word) went = (value : ℕ) × (went ≡ Some (step_of (access.Read word) value []))
IsMade (access.Write word written) went = (went ≡ Some (step_of (access.Write word written) 0 [])) ⊎ (went ≡ None)
IsMade (access.State state) went = went ≡ Some (step_of (access.State state) 0 [])
IsMade (access.Ring target vector) went = went ≡ Some (step_of (access.Ring target vector) 0 [])
IsMade access.Nothing went = went ≡ Some (step_of access.Nothing 0 [])

abbrev pub cut_call : Option Chosen → Option Chosen
cut_call None = None
cut_call (Some before) = Some (record before { was_reset = true })

-- A reset drops the open call and all queued calls.
abbrev pub reset_progress : Progress → Progress
reset_progress peer = record peer { end = after_reset peer.end; left = Ended; begun = 0; before = cut_call peer.before }

-- The effect of its own event on peer p: the step, and the peer's progress after it.
abbrev pub EventStep : World → ℕ → Progress → Event → Option Step → Progress → Type 0
EventStep world p old (AutoStarted peer expected) went new = (went ≡ None) × (new ≡ record old { before = None })
EventStep world p old (StormStarted peer seed) went new = (went ≡ None) × (new ≡ record old { generator = seed })
EventStep world p old (TurnTaken peer) went new = Turns world p old went new
EventStep world p old (RegionAccessed peer a) went new = IsMade a went × (new ≡ old)
EventStep world p old (DeviceReset peer) went new = (went ≡ None) × (new ≡ reset_progress old)
EventStep world p old _ went new = (went ≡ None) × (new ≡ old)

-- The event becomes one of the peer's event records.
abbrev pub noted : Progress → EventRecord → Progress
noted peer entry = record peer { past = entry ∷ peer.past }

-- From `old`, these event records of peer p are its calls in order, and lead to `new`.
abbrev pub IsCallSequence : World → ℕ → Progress → List EventRecord → Progress → Type 0
IsCallSequence world p old [] new = new ≡ old
IsCallSequence world p old (entry ∷ entries) new = (mid : Progress) × EventStep world p old entry.event entry.went mid × IsCallSequence world p (noted mid entry) entries new
