-- The view of an automatic end in contracts.
use Rattle.std.specs.Prelude.{ℕ, ◌≡◌, ◌+◌, ◌≤◌, min, Bool, true, false, if◌then◌else◌, Option, Some, None, List, [], ◌∷◌, length, drop}
use Rattle.split_ring.specs.declared.sizes.TheConstants.{FRAME_OVERHEAD, SHORTEST_FRAME}
use Rattle.call_grammar.specs.Steps.{Mark, Accept, Deliver}
use Rattle.call_grammar.specs.Ends.{End}
use Rattle.call_grammar.specs.Calls.{EndConfig, Call}
use Rattle.call_grammar.specs.Calls as calls
use Rattle.call_grammar.specs.Places.{Place, first_place, is_open}
use Rattle.call_grammar.specs.Automatic.{Round, Anew, AfterOffer, AfterPoll, choice_of}
use Rattle.call_grammar.specs.Automatic as automatic
use Rattle.link_endpoint.specs.declared.auto.Choice.{Choice}
use Rattle.link_endpoint.specs.declared.auto.Choice.TheVariants.{Tick, Offer, Poll, Finished}

-- The frames that aren't accepted yet, by their bytes; the number of deliveries expected; the
-- number counted, at most the number expected; and the round.
pub record Plan : Type 0 where
  pub frames : List (List ℕ)
  pub expected : ℕ
  pub delivered : ℕ
  pub round : Round

-- An initial plan that expects `expected` deliveries.
abbrev pub fresh_plan : ℕ → Plan
fresh_plan expected = record { frames = []; expected = expected; delivered = 0; round = Anew }

-- `count` frames were delivered in the whole run, and the plan counts them up to the number
-- expected.
abbrev pub HasCounted : Plan → ℕ → Type 0
HasCounted plan count = plan.delivered ≡ min count plan.expected

abbrev pub head_of : List (List ℕ) → Option (List ℕ)
head_of [] = None
head_of (frame ∷ frames) = Some frame

-- The program's choice is the grammar's choice. An offer is of the first frame.
abbrev pub IsChoice : Choice → List (List ℕ) → automatic.Choice → Type 0
IsChoice Tick frames chosen = chosen ≡ automatic.ChoosesTick
IsChoice Offer [] chosen = ⊥
IsChoice Offer (frame ∷ frames) chosen = chosen ≡ automatic.ChoosesOffer frame
IsChoice Poll frames chosen = chosen ≡ automatic.ChoosesPoll
IsChoice Finished frames chosen = chosen ≡ automatic.IsFinished

-- The round after a choice.
abbrev pub round_after : Choice → Round → Round
round_after Tick round = Anew
round_after Offer round = AfterOffer
round_after Poll round = AfterPoll
round_after Finished round = round

-- The choice of an end at its place

-- The grammar's choice: none while a call is open.
abbrev pub choice_at : End → Place → Plan → (count : ℕ) → Option automatic.Choice
choice_at end place plan count = if is_open place then None else Some (choice_of end.handshake.phase plan.round plan.frames count plan.expected)

-- The program's choice is the grammar's, if there is one.
abbrev pub Matches : Option Choice → List (List ℕ) → Option automatic.Choice → Type 0
Matches None frames None = Unit {0}
Matches None frames (Some chosen) = ⊥
Matches (Some choice) frames None = ⊥
Matches (Some choice) frames (Some chosen) = IsChoice choice frames chosen

-- A choice is made if no call is open.
abbrev pub Closes : Option Choice → Bool → Type 0
Closes None busy = busy ≡ true
Closes (Some choice) busy = busy ≡ false

abbrev pub round_since : Option Choice → Round → Round
round_since None round = round
round_since (Some choice) round = round_after choice round

abbrev pub is_end_choice : Option Choice → Bool
is_end_choice (Some Finished) = true
is_end_choice _ = false

-- The call chosen

-- An offer is of the first frame.
abbrev pub call_of : Choice → List (List ℕ) → Option Call
call_of Tick frames = Some calls.Tick
call_of Offer [] = None
call_of Offer (frame ∷ frames) = Some (calls.Offer frame)
call_of Poll frames = Some calls.Poll
call_of Finished frames = None

abbrev pub call_chosen_by : Option Choice → List (List ℕ) → Option Call
call_chosen_by None frames = None
call_chosen_by (Some choice) frames = call_of choice frames

-- The first frame may be offered if it is chosen.
abbrev pub MayOpen : (mtu : ℕ) → Choice → List (List ℕ) → Type 0
MayOpen mtu Offer [] = ⊥
MayOpen mtu Offer (frame ∷ frames) = (SHORTEST_FRAME ≤ length frame) × (length frame ≤ mtu + FRAME_OVERHEAD)
MayOpen mtu _ frames = Unit {0}

abbrev pub MayOpenIf : (mtu : ℕ) → Option Choice → List (List ℕ) → Type 0
MayOpenIf mtu None frames = Unit {0}
MayOpenIf mtu (Some choice) frames = MayOpen mtu choice frames

-- The place once the call chosen is open.
abbrev pub place_for : EndConfig → End → Place → Option Call → Place
place_for config end place None = place
place_for config end place (Some call) = first_place config end call

-- The counts of a step

-- The frames that aren't accepted yet after these marks: each accepted frame was the first.
abbrev pub left_after : List (List ℕ) → List Mark → List (List ℕ)
left_after frames [] = frames
left_after frames (Accept frame ∷ marks) = left_after (drop 1 frames) marks
left_after frames (_ ∷ marks) = left_after frames marks

-- The frames that these marks deliver.
abbrev pub delivered_by : List Mark → List (List ℕ)
delivered_by [] = []
delivered_by (Deliver frame ∷ marks) = frame ∷ delivered_by marks
delivered_by (_ ∷ marks) = delivered_by marks

-- The plan `new` is `old` after it counted the frames that these marks accept and deliver.
pub record Counts (old : Plan) (marks : List Mark) (new : Plan) : Type 0 where
  pub frames : new.frames ≡ left_after old.frames marks
  pub expected : new.expected ≡ old.expected
  pub delivered : (count : ℕ) → HasCounted old count → HasCounted new (count + length (delivered_by marks))
  pub round : new.round ≡ old.round
