-- The automatic end: the choice of its next call (profile).
use Rattle.std.specs.Prelude.{ℕ, ◌≡◌, Bool, true, false, ◌&&◌, ◌||◌, not, nat_le, if◌then◌else◌, Option, Some, None, List, [], ◌∷◌}
use Rattle.link_handshake.specs.declared.Phase.{Phase}
use Rattle.link_handshake.specs.declared.Phase.TheVariants.{Reset, Init, Ready, Run}
use Rattle.call_grammar.specs.Calls.{Call, Tick, Offer, in_run}

-- A choice: a call (an Offer is of the first frame that isn't accepted yet), or that the end is
-- finished.
pub data Choice : Type 0 where
  ChoosesTick : Choice
  ChoosesOffer : (frame : List ℕ) → Choice
  ChoosesPoll : Choice
  IsFinished : Choice

-- The rule

-- A call that an end chose: the call, the phase in which it began, and whether the device was reset
-- since then.
pub record Chosen : Type 0 where
  pub call : Call
  pub phase : Phase
  pub was_reset : Bool

abbrev pub is_tick : Call → Bool
is_tick Tick = true
is_tick _ = false

abbrev pub is_offer : Call → Bool
is_offer (Offer frame) = true
is_offer _ = false

-- There was no call before, or it was a Tick, or it began outside RUN, or a reset cut it.
abbrev pub is_anew : Option Chosen → Bool
is_anew None = true
is_anew (Some before) = before.was_reset || (is_tick before.call || not (in_run before.phase))

-- The call before was an Offer.
abbrev pub was_offer : Option Chosen → Bool
was_offer None = false
was_offer (Some before) = is_offer before.call

abbrev pub is_empty : List (List ℕ) → Bool
is_empty [] = true
is_empty (frame ∷ frames) = false

abbrev pub first_or_poll : List (List ℕ) → Choice
first_or_poll [] = ChoosesPoll
first_or_poll (frame ∷ frames) = ChoosesOffer frame

-- The choice of an end in phase `phase`. It depends on the call that the end chose before, and on
-- the frames that aren't accepted yet. It also depends on the numbers of frames delivered in the
-- whole run and expected. The first of five rules that applies decides:
-- - no frame is left, and the number delivered is at least the number expected: the end is
--   finished;
-- - the end isn't in RUN: a Tick;
-- - no call was before, or it was a Tick, began outside RUN or was cut: an Offer if a frame is
--   left, else a Poll;
-- - the call before was an Offer: a Poll;
-- - the call before was a Poll: a Tick.
abbrev pub choice_by_rule : Phase → Option Chosen → List (List ℕ) → (delivered expected : ℕ) → Choice
choice_by_rule phase before frames delivered expected =
    if is_empty frames && nat_le expected delivered then IsFinished
    else if not (in_run phase) then ChoosesTick
    else if is_anew before then first_or_poll frames
    else if was_offer before then ChoosesPoll
    else ChoosesTick

-- The same in rounds, as the program computes it

-- The position in the round. A round begins after a Tick, and after a call that began outside RUN
-- or was cut. An Offer or a Poll in RUN advances it.
pub data Round : Type 0 where
  Anew : Round
  AfterOffer : Round
  AfterPoll : Round

-- In RUN a round is an Offer (if a frame is left), then a Poll, then a Tick.
abbrev pub in_round : Round → List (List ℕ) → Choice
in_round Anew [] = ChoosesPoll
in_round Anew (frame ∷ frames) = ChoosesOffer frame
in_round AfterOffer frames = ChoosesPoll
in_round AfterPoll frames = ChoosesTick

-- Outside RUN the choice is a Tick.
abbrev pub in_phase : Phase → Round → List (List ℕ) → Choice
in_phase Reset round frames = ChoosesTick
in_phase Init round frames = ChoosesTick
in_phase Ready round frames = ChoosesTick
in_phase Run round frames = in_round round frames

-- The choice of an end in phase `phase`. It depends on the position in the round, and on the frames
-- that aren't accepted yet. It also depends on the numbers of frames delivered in the whole run and
-- expected. The end is finished if no frame is left and the number delivered is at least the number
-- expected.
abbrev pub choice_of : Phase → Round → List (List ℕ) → (delivered expected : ℕ) → Choice
choice_of phase round [] delivered expected = if nat_le expected delivered then IsFinished else in_phase phase round []
choice_of phase round (frame ∷ frames) delivered expected = in_phase phase round (frame ∷ frames)

-- The position in the round after the call before.
abbrev pub round_since : Option Chosen → Round
round_since before = if is_anew before then Anew else if was_offer before then AfterOffer else AfterPoll

-- The rounds choose the same calls as the rule.
abbrev pub RoundsKeepTheRule : Type 0
RoundsKeepTheRule = (phase : Phase) (before : Option Chosen) (frames : List (List ℕ)) (delivered expected : ℕ) →
    choice_of phase (round_since before) frames delivered expected ≡ choice_by_rule phase before frames delivered expected
