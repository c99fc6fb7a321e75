-- Rounds of calls: the frames that one end offers, and the number of rounds after which the other
-- has delivered them.
use Rattle.std.specs.Prelude.{ℕ, ◌≢◌, ◌+◌, ◌-◌, ◌*◌, ◌<◌, ◌≤◌, length}
use Rattle.call_grammar.specs.Ends.{End}
use Rattle.call_grammar.specs.Calls.{Call, Stop, Offer, Poll}
use Rattle.call_grammar.specs.Places.{Place, Closed}
use Rattle.link_invariant.specs.LinkConfig.{LinkConfig, IsLinkConfig}
use Rattle.link_invariant.specs.Steps.{IsUntouched, BeginsCall, TakesStep}
use Rattle.link_invariant.specs.Pair.{Pair}
use Rattle.link_progress.specs.Rounds.{IsUp}
use Rattle.link_progress.specs.Polls.{AlwaysFits}

-- What became of a call in a round: none has begun in the round, one that began is open, or one
-- that began has ended.
pub data Part : Type 0 where
  Waits : Part
  Opens : Part
  Ended : Part

abbrev pub begun : Part → Part
begun Waits = Opens
begun part = part

abbrev pub ended : Part → Part
ended Opens = Ended
ended part = part

-- The number of rounds that are over. Of the round since then, the sender's offer and the
-- receiver's poll.
pub record CallCount : Type 0 where
  pub rounds : ℕ
  pub offer : Part
  pub poll : Part

abbrev pub no_calls : CallCount
no_calls = record { rounds = 0; offer = Waits; poll = Waits }

-- A round is over when an offer of the sender and a poll of the receiver have begun and ended in
-- it.
abbrev pub round_with : ℕ → (offer poll : Part) → CallCount
round_with rounds Ended Ended = record { rounds = rounds + 1; offer = Waits; poll = Waits }
round_with rounds offer poll = record { rounds = rounds; offer = offer; poll = poll }

abbrev pub sender_begins_in : Call → CallCount → CallCount
sender_begins_in (Offer frame) count = record count { offer = begun count.offer }
sender_begins_in call count = count

abbrev pub receiver_begins_in : Call → CallCount → CallCount
receiver_begins_in Poll count = record count { poll = begun count.poll }
receiver_begins_in call count = count

-- The count after a step that leads to this place.
abbrev pub sender_steps_in : Place → CallCount → CallCount
sender_steps_in Closed count = round_with count.rounds (ended count.offer) count.poll
sender_steps_in place count = count

abbrev pub receiver_steps_in : Place → CallCount → CallCount
receiver_steps_in Closed count = round_with count.rounds count.offer (ended count.poll)
receiver_steps_in place count = count

-- The sender p and the receiver begin calls other than Stop and make steps, in any order, and
-- aren't reset. Words that are no end's may change.
pub data CallRounds (link_config : LinkConfig) (p : ℕ) (memory : ℕ → ℕ) (ends : ℕ → End) (places : ℕ → Place) : (now : ℕ → ℕ) (now_ends : ℕ → End) (now_places : ℕ → Place) → CallCount → Type 0 where
  starts : CallRounds link_config p memory ends places memory ends places no_calls
  sender_begins : (now : ℕ → ℕ) (now_ends after_ends : ℕ → End) (now_places after_places : ℕ → Place) (count : CallCount) (call : Call) →
      CallRounds link_config p memory ends places now now_ends now_places count → call ≢ Stop →
      BeginsCall link_config now_ends after_ends now_places after_places p call → CallRounds link_config p memory ends places now after_ends after_places (sender_begins_in call count)
  sender_steps : (now after : ℕ → ℕ) (now_ends after_ends : ℕ → End) (now_places after_places : ℕ → Place) (count : CallCount) (value : ℕ) →
      CallRounds link_config p memory ends places now now_ends now_places count →
      TakesStep link_config now after now_ends after_ends now_places after_places p value → CallRounds link_config p memory ends places after after_ends after_places (sender_steps_in (after_places p) count)
  receiver_begins : (now : ℕ → ℕ) (now_ends after_ends : ℕ → End) (now_places after_places : ℕ → Place) (count : CallCount) (call : Call) →
      CallRounds link_config p memory ends places now now_ends now_places count → call ≢ Stop →
      BeginsCall link_config now_ends after_ends now_places after_places (1 - p) call → CallRounds link_config p memory ends places now after_ends after_places (receiver_begins_in call count)
  receiver_steps : (now after : ℕ → ℕ) (now_ends after_ends : ℕ → End) (now_places after_places : ℕ → Place) (count : CallCount) (value : ℕ) →
      CallRounds link_config p memory ends places now now_ends now_places count →
      TakesStep link_config now after now_ends after_ends now_places after_places (1 - p) value → CallRounds link_config p memory ends places after after_ends after_places (receiver_steps_in (after_places (1 - p)) count)
  others : (now after : ℕ → ℕ) (now_ends : ℕ → End) (now_places : ℕ → Place) (count : CallCount) →
      CallRounds link_config p memory ends places now now_ends now_places count → ((q : ℕ) → q < 2 → IsUntouched link_config now after q) →
      CallRounds link_config p memory ends places after now_ends now_places count

-- From two ends in RUN, the receiver has delivered all frames that were accepted at the start, and
-- n more, after 2n + 1 rounds. If two frames always fit, n + 2 rounds are enough.
pub record FramesGetThrough : Type 0 where
  pub one : (link_config : LinkConfig) (memory now : ℕ → ℕ) (ends now_ends : ℕ → End) (places now_places : ℕ → Place) (count : CallCount) (p n : ℕ) → IsLinkConfig link_config → p < 2 →
      Pair link_config memory ends places → ((q : ℕ) → q < 2 → IsUp (ends q) (places q)) → CallRounds link_config p memory ends places now now_ends now_places count → 2 * n + 1 ≤ count.rounds →
      length (ends p).accepted + n ≤ length (now_ends (1 - p)).delivered
  pub two : (link_config : LinkConfig) (memory now : ℕ → ℕ) (ends now_ends : ℕ → End) (places now_places : ℕ → Place) (count : CallCount) (p n : ℕ) → IsLinkConfig link_config → p < 2 →
      Pair link_config memory ends places → ((q : ℕ) → q < 2 → IsUp (ends q) (places q)) → CallRounds link_config p memory ends places now now_ends now_places count → n + 2 ≤ count.rounds → AlwaysFits link_config 1 →
      length (ends p).accepted + n ≤ length (now_ends (1 - p)).delivered
