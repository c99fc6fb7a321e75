-- Rounds of two honest ends, and the number of rounds after which both are in RUN.
use Rattle.std.specs.Prelude.{ℕ, zero, suc, ◌≡◌, ◌≢◌, ◌+◌, ◌-◌, ◌<◌, ◌≤◌, Bool, true, false, ◌&&◌, ◌||◌, if◌then◌else◌}
use Rattle.link_handshake.specs.declared.Phase.TheVariants.{Run}
use Rattle.call_grammar.specs.Ends.{End}
use Rattle.call_grammar.specs.Calls.{Call, Tick, Stop}
use Rattle.call_grammar.specs.Places.{Place, Closed, ReadingOtherState, Clearing, WritingState}
use Rattle.link_invariant.specs.LinkConfig.{LinkConfig, IsLinkConfig}
use Rattle.link_invariant.specs.Steps.{IsUntouched, BeginsCall, TakesStep}
use Rattle.link_invariant.specs.Pair.{Pair}

-- Rounds

-- The number of rounds that are over, and whether end 0 and end 1 have ended a Tick since the last
-- of them.
pub record Count : Type 0 where
  pub rounds : ℕ
  pub first : Bool
  pub second : Bool

abbrev pub no_rounds : Count
no_rounds = record { rounds = 0; first = false; second = false }

-- The count after end p has ended a Tick. A round is over when each end has ended a Tick in it.
abbrev pub with_tick : ℕ → Count → Count
with_tick zero count = if count.second then record { rounds = count.rounds + 1; first = false; second = false } else record count { first = true }
with_tick (suc more) count = if count.first then record { rounds = count.rounds + 1; first = false; second = false } else record count { second = true }

-- The step from one place to the next ends a Tick, or a Stop that was open at the start.
abbrev pub ends_tick : (place next : Place) → Bool
ends_tick (ReadingOtherState handshake) Closed = true
ends_tick (WritingState state) Closed = true
ends_tick place next = false

-- A Tick or a Stop is open.
abbrev pub is_ticking : Place → Bool
is_ticking (ReadingOtherState handshake) = true
is_ticking (Clearing at more state) = true
is_ticking (WritingState state) = true
is_ticking place = false

-- The next step sets State 0.
abbrev pub is_falling : Place → Bool
is_falling (WritingState zero) = true
is_falling place = false

-- The rule of rest

-- After end 1 sets State 0 while a Tick or a Stop of end 0 is open, it owes a rest until that call
-- ends. This is whether end 1 owes a rest after a step of end p.
abbrev pub owes_after : ℕ → (place next other : Place) → Bool → Bool
owes_after zero place next other owes = if ends_tick place next then false else owes
owes_after (suc more) place next other owes = owes || (is_falling place && is_ticking other)

-- End 1 begins no Tick while it owes a rest.
abbrev pub KeepsRest : ℕ → Call → Bool → Type 0
KeepsRest (suc more) Tick owes = owes ≡ false
KeepsRest p call owes = Unit {0}

-- Two honest ends begin calls other than Stop and make steps, in any order, and aren't reset. Words
-- that are no end's may change. If `ruled`, end 1 keeps the rule of rest.
pub data Rounds (ruled : Bool) (link_config : LinkConfig) (memory : ℕ → ℕ) (ends : ℕ → End) (places : ℕ → Place) : (now : ℕ → ℕ) (now_ends : ℕ → End) (now_places : ℕ → Place) → Count → (owes : Bool) → Type 0 where
  starts : Rounds ruled link_config memory ends places memory ends places no_rounds false
  begins : (now : ℕ → ℕ) (now_ends after_ends : ℕ → End) (now_places after_places : ℕ → Place) (count : Count) (owes : Bool) (p : ℕ) (call : Call) →
      Rounds ruled link_config memory ends places now now_ends now_places count owes → p < 2 → call ≢ Stop → (ruled ≡ true → KeepsRest p call owes) →
      BeginsCall link_config now_ends after_ends now_places after_places p call → Rounds ruled link_config memory ends places now after_ends after_places count owes
  steps : (now after : ℕ → ℕ) (now_ends after_ends : ℕ → End) (now_places after_places : ℕ → Place) (count : Count) (owes : Bool) (p value : ℕ) →
      Rounds ruled link_config memory ends places now now_ends now_places count owes → p < 2 →
      TakesStep link_config now after now_ends after_ends now_places after_places p value →
      Rounds ruled link_config memory ends places after after_ends after_places (if ends_tick (now_places p) (after_places p) then with_tick p count else count)
      (owes_after p (now_places p) (after_places p) (now_places (1 - p)) owes)
  others : (now after : ℕ → ℕ) (now_ends : ℕ → End) (now_places : ℕ → Place) (count : Count) (owes : Bool) →
      Rounds ruled link_config memory ends places now now_ends now_places count owes → ((q : ℕ) → q < 2 → IsUntouched link_config now after q) →
      Rounds ruled link_config memory ends places after now_ends now_places count owes

-- The laws

-- The end is in RUN, and its next step doesn't set another State.
abbrev pub IsUp : End → Place → Type 0
IsUp end place = (end.handshake.phase ≡ Run) × ((state : ℕ) → place ≢ WritingState state)

-- From each state of two honest ends in which no Tick and no Stop is open, both ends are in RUN
-- after four rounds, for each order of their steps, and after each later step.
abbrev pub LinksComeUp : Type 0
LinksComeUp = (link_config : LinkConfig) (memory now : ℕ → ℕ) (ends now_ends : ℕ → End) (places now_places : ℕ → Place) (count : Count) (owes : Bool) → IsLinkConfig link_config →
    Pair link_config memory ends places → ((p : ℕ) → p < 2 → is_ticking (places p) ≡ false) → Rounds false link_config memory ends places now now_ends now_places count owes → 4 ≤ count.rounds →
    (p : ℕ) → p < 2 → IsUp (now_ends p) (now_places p)

-- If end 1 keeps the rule of rest, both ends are in RUN after eight rounds, from each state of two
-- honest ends, with any call open.
abbrev pub RestedLinksComeUp : Type 0
RestedLinksComeUp = (link_config : LinkConfig) (memory now : ℕ → ℕ) (ends now_ends : ℕ → End) (places now_places : ℕ → Place) (count : Count) (owes : Bool) → IsLinkConfig link_config →
    Pair link_config memory ends places → Rounds true link_config memory ends places now now_ends now_places count owes → 8 ≤ count.rounds →
    (p : ℕ) → p < 2 → IsUp (now_ends p) (now_places p)
