-- An end that sleeps after a poll which found no frame.
use Rattle.std.specs.Prelude.{ℕ, ◌≡◌, ◌-◌, ◌<◌, Bool, true, false, ◌||◌, length}
use Rattle.call_grammar.specs.Ends.{End}
use Rattle.call_grammar.specs.Calls.{Call}
use Rattle.call_grammar.specs.Polls.{published_by}
use Rattle.call_grammar.specs.Places.{Place, Closed, RingingOffer, ReadingAvailIndex}
use Rattle.link_invariant.specs.LinkConfig.{LinkConfig, IsLinkConfig}
use Rattle.link_invariant.specs.Steps.{IsUntouched, BeginsCall, TakesStep}
use Rattle.link_invariant.specs.Wake.{EventIndexIs}
use Rattle.link_invariant.specs.Pair.{Pair}

-- The next step is the doorbell of an offer.
abbrev pub is_ringing : Place → Bool
is_ringing RingingOffer = true
is_ringing place = false

-- End p makes no step. The other end begins calls and makes steps, and isn't reset. Words that are
-- no end's may change. `rung` is whether the other has rung the doorbell in an offer since.
pub data Sleeps (link_config : LinkConfig) (p : ℕ) (memory : ℕ → ℕ) (ends : ℕ → End) (places : ℕ → Place) : (ℕ → ℕ) → (ℕ → End) → (ℕ → Place) → (rung : Bool) → Type 0 where
  starts : Sleeps link_config p memory ends places memory ends places false
  other_begins : (now : ℕ → ℕ) (now_ends after_ends : ℕ → End) (now_places after_places : ℕ → Place) (rung : Bool) (call : Call) → Sleeps link_config p memory ends places now now_ends now_places rung →
      BeginsCall link_config now_ends after_ends now_places after_places (1 - p) call → Sleeps link_config p memory ends places now after_ends after_places rung
  other_steps : (now after : ℕ → ℕ) (now_ends after_ends : ℕ → End) (now_places after_places : ℕ → Place) (rung : Bool) (value : ℕ) → Sleeps link_config p memory ends places now now_ends now_places rung →
      TakesStep link_config now after now_ends after_ends now_places after_places (1 - p) value → Sleeps link_config p memory ends places after after_ends after_places (rung || is_ringing (now_places (1 - p)))
  others : (now after : ℕ → ℕ) (now_ends : ℕ → End) (now_places : ℕ → Place) (rung : Bool) → Sleeps link_config p memory ends places now now_ends now_places rung →
      ((q : ℕ) → q < 2 → IsUntouched link_config now after q) → Sleeps link_config p memory ends places after now_ends now_places rung

-- End p sleeps after a look that found no frame while its avail_event was the next frame's number.
-- If the other end accepts that frame, it has rung the doorbell when that offer is over.
abbrev pub SleepersAreRung : Type 0
SleepersAreRung = (link_config : LinkConfig) (memory slept now : ℕ → ℕ) (ends slept_ends now_ends : ℕ → End) (places slept_places now_places : ℕ → Place) (p taken value : ℕ) (last rung : Bool) → IsLinkConfig link_config → p < 2 →
    Pair link_config memory ends places → places p ≡ ReadingAvailIndex taken last → EventIndexIs link_config memory p taken → published_by taken value ≡ 0 →
    TakesStep link_config memory slept ends slept_ends places slept_places p value → Sleeps link_config p slept slept_ends slept_places now now_ends now_places rung →
    now_places (1 - p) ≡ Closed → taken < length (now_ends (1 - p)).accepted → rung ≡ true
