-- The ends as sides of the link machine.
use Rattle.std.specs.Prelude.{ℕ, suc, ◌≡◌, ◌+◌, ◌-◌, ◌<◌, ◌≤◌, ◌⊎◌, Bool, true, Option, Some, List, [], ◌∷◌, ◌++◌, length, map}
use Rattle.split_ring.specs.declared.steps.Access.{Access}
use Rattle.split_ring.specs.declared.steps.Access.TheVariants as access
use Rattle.split_ring.specs.Layout.{Sizes}
use Rattle.link_handshake.specs.PhaseTable.{state_of}
use Rattle.call_grammar.specs.Steps.{Step}
use Rattle.call_grammar.specs.Words.{address_of}
use Rattle.call_grammar.specs.Ends.{End, fresh, after_reset, end_after}
use Rattle.call_grammar.specs.Ticks.{EndConfig}
use Rattle.call_grammar.specs.Calls.{Call}
use Rattle.call_grammar.specs.Rows.{MovesTo}
use Rattle.call_grammar.specs.Places.{Place, Closed, Clearing, WritingState, ReadingUsedId, WritingFrameWord, WritingDescAddressLow, WritingDescAddressHigh, WritingDescLength, WritingDescFlags, WritingAvailEntry, WritingAvailIndex, RingingOffer, ReadingAvailEntry, ReadingDescAddressLow, ReadingDescAddressHigh, ReadingDescLength, ReadingDescFlags, ReadingFrameWord, WritingUsedId, WritingUsedLength, WritingUsedIndex, RingingPoll, first_place, access_at, next_place, step_at, is_open}
use Rattle.link_machine.specs.LinkMachine.{Side, initial_side, SideEvent, Gave, Wrote, Marked, WasReset, Row}
use Rattle.link_invariant.specs.LinkConfig.{LinkConfig, IsLinkConfig, config_of}
use Rattle.link_invariant.specs.Steps.{ReadsMemory}
use Rattle.link_invariant.specs.LinkInvariant.{LinkInvariant}

-- The side events of a step: the value that its read met or the write of its State, and then its
-- marks.
abbrev pub side_events_of : Access → (value : ℕ) → List SideEvent
side_events_of (access.Read word) value = Gave value ∷ []
side_events_of (access.State state) value = Wrote state ∷ []
side_events_of _ value = []

abbrev pub side_events_by : Step → List SideEvent
side_events_by step = side_events_of step.access step.value ++ map Marked step.marks

-- An honest side satisfies these rows in order, while the other is unchanged.
abbrev pub FollowsRows : Sizes → Bool → Side → Side → List SideEvent → Side → Type 0
FollowsRows sizes other_honest other side [] new = new ≡ side
FollowsRows sizes other_honest other side (side_event ∷ side_events) new = (mid : Side) × Row sizes true other_honest side other side_event mid × FollowsRows sizes other_honest other mid side_events new

-- The side saw a value from which the end moves to this State.
abbrev pub SawFor : End → Option ℕ → ℕ → Type 0
SawFor end seen state = (value : ℕ) × (seen ≡ Some value) × MovesTo end.handshake.phase value state

-- `count` items are left of those that the poll found.
abbrev pub HasLeft : End → Side → ℕ → Type 0
HasLeft end side count = side.looked ≡ length end.delivered + count

-- The side at a place of the open call. A tick that moves has the value that it saw. An offer has
-- the number of ids that it has read since its reclaim. A poll has the number of items left, and
-- the values read of the current one.
abbrev pub CallIs : End → Place → Side → Type 0
CallIs end (Clearing at more state) side = SawFor end side.seen state × (side.read ≡ [])
CallIs end (WritingState state) side = ((state ≡ 0) ⊎ SawFor end side.seen state) × (side.read ≡ [])
CallIs end (ReadingUsedId pending freed more) side = (side.reclaimed ≡ length side.read + suc more) × (length side.read ≤ freed)
CallIs end (WritingFrameWord pending at more) side = Unit {0}
CallIs end (WritingDescAddressLow pending) side = Unit {0}
CallIs end (WritingDescAddressHigh pending) side = Unit {0}
CallIs end (WritingDescLength pending) side = Unit {0}
CallIs end (WritingDescFlags pending) side = Unit {0}
CallIs end (WritingAvailEntry pending) side = Unit {0}
CallIs end (WritingAvailIndex pending) side = Unit {0}
CallIs end RingingOffer side = Unit {0}
CallIs end (ReadingAvailEntry number more) side = HasLeft end side (suc more) × (side.read ≡ [])
CallIs end (ReadingDescAddressLow number more entry) side = HasLeft end side (suc more) × ((word : ℕ) × (side.read ≡ word ∷ []))
CallIs end (ReadingDescAddressHigh number more entry low) side = HasLeft end side (suc more) × ((word : ℕ) × (side.read ≡ word ∷ low ∷ []))
CallIs end (ReadingDescLength number more entry address) side =
    HasLeft end side (suc more) × ((word low high : ℕ) × (side.read ≡ word ∷ low ∷ high ∷ []) × (address ≡ address_of low high))
CallIs end (ReadingDescFlags number more entry address bytes) side = HasLeft end side (suc more) × ((word low high : ℕ) × (side.read ≡ word ∷ low ∷ high ∷ bytes ∷ []))
CallIs end (ReadingFrameWord number more entry address bytes read words) side = HasLeft end side (suc more)
CallIs end (WritingUsedId number more entry) side = HasLeft end side more × (side.read ≡ [])
CallIs end (WritingUsedLength number more) side = HasLeft end side more × (side.read ≡ [])
CallIs end (WritingUsedIndex number more) side = HasLeft end side more × (side.read ≡ [])
CallIs end RingingPoll side = HasLeft end side 0 × (side.read ≡ [])
CallIs end place side = side.read ≡ []

-- An end at a place is this side of the machine.
pub record SideIs (end : End) (place : Place) (side : Side) : Type 0 where
  pub state : side.state ≡ state_of end.handshake.phase
  pub refused : side.refused ≡ end.handshake.mark
  pub accepted : side.accepted ≡ end.accepted
  pub delivered : side.delivered ≡ end.delivered
  pub returned : side.returned ≡ end.returned
  pub freed : side.freed ≡ end.freed
  pub call : CallIs end place side

-- The initial end is the initial side, and a call begins at the same side. Each step of an honest
-- end satisfies rows of the machine, against an honest or hostile other, and so does its device
-- reset.
pub record StepsFollowRows : Type 0 where
  pub starts : SideIs fresh Closed initial_side
  pub begins : (config : EndConfig) (end : End) (call : Call) (side : Side) → SideIs end Closed side → SideIs end (first_place config end call) side
  pub steps : (link_config : LinkConfig) (honest : ℕ → Bool) (memory : ℕ → ℕ) (ends : ℕ → End) (places : ℕ → Place) (p value : ℕ) (side other : Side) →
      IsLinkConfig link_config → p < 2 → honest p ≡ true → LinkInvariant link_config honest memory ends places →
      SideIs (ends p) (places p) side → other.state ≡ memory (1 - p) → (honest (1 - p) ≡ true → SideIs (ends (1 - p)) (places (1 - p)) other) →
      is_open (places p) ≡ true → ReadsMemory memory (access_at (config_of link_config p) (places p)) value →
      (new : Side) × FollowsRows link_config.sizes (honest (1 - p)) other side (side_events_by (step_at (config_of link_config p) (places p) value)) new ×
      SideIs (end_after (ends p) (step_at (config_of link_config p) (places p) value)) (next_place (config_of link_config p) (places p) value) new
  pub resets : (sizes : Sizes) (other_honest : Bool) (end : End) (place : Place) (side other : Side) → SideIs end place side →
      (new : Side) × Row sizes true other_honest side other WasReset new × SideIs (after_reset end) Closed new
