-- The calls of an honest link peer since its last reset: each begins in its turn, and ends within
-- its bound. Event records and calls are listed newest first.
use Rattle.std.specs.Prelude.{ℕ, ◌≡◌, ◌≢◌, ◌+◌, ◌*◌, ◌<◌, ◌≤◌, ◌⊎◌, true, if◌then◌else◌, Option, Some, None, List, [], ◌∷◌, ◌++◌, length, reverse, slice_get, All}
use Rattle.split_ring.specs.declared.sizes.TheConstants.{LONGEST_FRAME}
use Rattle.split_ring.specs.Layout.{has_events, size_of}
use Rattle.scenario_text.specs.Scenario.{World, IsWorld, is_link}
use Rattle.call_grammar.specs.Steps.{Step}
use Rattle.call_grammar.specs.Trees.{CallTree, Ended, GoesAlong}
use Rattle.call_grammar.specs.Words.{words_for}
use Rattle.call_grammar.specs.Calls.{EndConfig, Call, Tick, Offer, Poll, tree_of, IsCall}
use Rattle.call_grammar.specs.StepBounds.{bound_of}
use Rattle.call_grammar.specs.Automatic.{Choice, ChoosesTick, ChoosesOffer, ChoosesPoll, IsFinished, choice_by_rule}
use Rattle.lawful_history.specs.declared.line.Line.{Line}
use Rattle.lawful_history.specs.Schedule.{Event, TurnTaken, DeviceReset}
use Rattle.lawful_history.specs.Sides.{config_of}
use Rattle.lawful_history.specs.EventRecords.{EventRecord, own}
use Rattle.lawful_history.specs.Order.{Chooser, Nobody, TheRule, TheStorm, chooser, queued_since_reset, frames_left, delivered_in, Progress, initial_progress, IsCallSequence}
use Rattle.lawful_history.specs.Lawful.{IsLawfulBy}

-- The steps of a peer's turns since its last reset, oldest first.
abbrev pub with_step : Event → Option Step → List Step → List Step
with_step (TurnTaken peer) (Some step) steps = steps ++ step ∷ []
with_step (DeviceReset peer) went steps = []
with_step _ went steps = steps

abbrev pub steps_since : List EventRecord → List Step
steps_since [] = []
steps_since (entry ∷ older) = with_step entry.event entry.went (steps_since older)

-- The next call

abbrev pub call_chosen : Choice → Option Call
call_chosen ChoosesTick = Some Tick
call_chosen (ChoosesOffer frame) = Some (Offer frame)
call_chosen ChoosesPoll = Some Poll
call_chosen IsFinished = None

abbrev pub chosen_call : Progress → Chooser → Option Call
chosen_call peer Nobody = None
chosen_call peer (TheRule expected) =
    call_chosen (choice_by_rule peer.end.handshake.phase peer.before (frames_left peer.past) (delivered_in peer.past) expected)
chosen_call peer TheStorm = None

abbrev pub asked_or_chosen_call : Progress → Option Call → Option Call
asked_or_chosen_call peer (Some call) = Some call
asked_or_chosen_call peer None = chosen_call peer (chooser peer.past)

-- The next call: the first call queued since the last reset that hasn't begun yet. If there is
-- none, it is the choice of the automatic end's rule.
abbrev pub next_call : Progress → Option Call
next_call peer = asked_or_chosen_call peer (slice_get (queued_since_reset peer.past) peer.begun)

-- A call that began

-- The peer's progress at the start of the call, the call, and the steps that it has made.
pub record Begun : Type 0 where
  pub at : Progress
  pub call : Call
  pub steps : List Step

-- The steps of these calls, in the order of the calls.
abbrev pub all_steps : List Begun → List Step
all_steps [] = []
all_steps (begun ∷ earlier) = all_steps earlier ++ begun.steps

-- The call began in its turn. Event records of the peer led to its progress, and its turn steps
-- since the last reset are those of the earlier calls. No call was open, and this one was next.
-- Then a turn made a step, and no reset came since.
pub record InTurn (world : World) (p : ℕ) (past : List EventRecord) (begun : Begun) (earlier : List Begun) : Type 0 where
  pub led : IsCallSequence world p initial_progress (reverse begun.at.past) begun.at
  pub made : steps_since begun.at.past ≡ all_steps earlier
  pub closed : begun.at.left ≡ Ended
  pub next : next_call begun.at ≡ Some begun.call
  pub newer : List EventRecord
  pub first : Step
  pub device : List Line
  pub turn : past ≡ newer ++ record { event = TurnTaken p; went = Some first; device = device } ∷ begun.at.past
  pub kept : All (λ entry. entry.event ≢ DeviceReset p) newer

abbrev pub InTurns : World → ℕ → List EventRecord → List Begun → Type 0
InTurns world p past [] = Unit {0}
InTurns world p past (begun ∷ earlier) = InTurn world p past begun earlier × InTurns world p past earlier

-- The call is finished within its bound.
pub record IsFinishedCall (config : EndConfig) (begun : Begun) : Type 0 where
  pub whole : IsCall config begun.at.end begun.call begun.steps
  pub bound : length begun.steps ≤ bound_of config begun.call begun.steps

abbrev pub AreFinished : EndConfig → List Begun → Type 0
AreFinished config [] = Unit {0}
AreFinished config (begun ∷ earlier) = IsFinishedCall config begun × AreFinished config earlier

-- The greatest number of steps of a call, for all values read. A Poll finds at most as many items
-- as the queue has, each with a frame of at most 65,553 bytes.
abbrev pub most_of : EndConfig → Call → ℕ
most_of config Poll = (if has_events config.sizes then 4 else 2) + size_of config.sizes * (8 + words_for LONGEST_FRAME)
most_of config call = bound_of config call []

-- The call is open: these are its first steps, and there are more. They are fewer than the bound of
-- each finished call that begins with them, and fewer than the greatest number of steps of the
-- call. So the call ends if its peer gets the turns.
pub record IsOpenCall (config : EndConfig) (begun : Begun) : Type 0 where
  pub left : CallTree
  pub begins : GoesAlong (tree_of config begun.at.end begun.call) begun.steps left
  pub unfinished : left ≢ Ended
  pub within : (more : List Step) → IsCall config begun.at.end begun.call (begun.steps ++ more) →
      length begun.steps < bound_of config begun.call (begun.steps ++ more)
  pub few : length begun.steps < most_of config begun.call

-- All calls are finished, except the newest, which is finished or open.
abbrev pub AreCalls : EndConfig → List Begun → Type 0
AreCalls config [] = Unit {0}
AreCalls config (begun ∷ earlier) = (IsFinishedCall config begun ⊎ IsOpenCall config begun) × AreFinished config earlier

-- After these event records of peer p, the steps of its turns since its last reset are the steps of
-- these calls.
pub record MakesCalls (world : World) (p : ℕ) (past : List EventRecord) : Type 0 where
  pub calls : List Begun
  pub steps : steps_since past ≡ all_steps calls
  pub turns : InTurns world p past calls
  pub ends : AreCalls (config_of world p) calls

-- Each honest link peer satisfies this at each moment of a lawful history, for all writes of other
-- peers and all resets.
abbrev pub CallsEndWithinBounds : Type 0
CallsEndWithinBounds = (world : World) (lines : List Line) (entries before after : List EventRecord) (p : ℕ) → IsWorld world →
    IsLawfulBy world lines entries → is_link world p ≡ true → own p entries ≡ before ++ after → MakesCalls world p (reverse before)
