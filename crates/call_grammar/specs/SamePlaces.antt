-- The places of `PlaceTable` have the steps and the next places of those of `Places`.
use Rattle.std.specs.Prelude.{ℕ, zero, suc, ◌≡◌, ◌+◌, ◌-◌, ◌<◌, nat_lt, true, false, if◌then◌else◌, [], ◌∷◌, length}
use Rattle.call_grammar.specs.Ends.{End}
use Rattle.call_grammar.specs.Words.{words_for}
use Rattle.call_grammar.specs.Ticks.{EndConfig}
use Rattle.call_grammar.specs.Offers.{PendingOffer}
use Rattle.call_grammar.specs.Calls.{Call}
use Rattle.call_grammar.specs.Places as old
use Rattle.call_grammar.specs.Tasks.{Task, WritingState, Refusing, NotInRun, Publishing, RingingOffer, WritingAvailEvent, Returning, RingingPoll, steps_of}
use Rattle.call_grammar.specs.PlaceTable.{Place, Closed, Doing, ReadingOtherState, ReadingUsedIndex, ReadingUsedId, ReadingAvailEvent, ReadingAvailIndex, ReadingItem, step_at, next_place, first_place}

-- The place of the write with this number after the words of the frame.
abbrev pub later_place : PendingOffer → ℕ → old.Place
later_place pending zero = old.WritingDescAddressLow pending
later_place pending (suc zero) = old.WritingDescAddressHigh pending
later_place pending (suc (suc zero)) = old.WritingDescLength pending
later_place pending (suc (suc (suc zero))) = old.WritingDescFlags pending
later_place pending (suc (suc (suc (suc zero)))) = old.WritingAvailEntry pending
later_place pending (suc (suc (suc (suc (suc k))))) = old.WritingAvailIndex pending

abbrev pub returning_place : (number more entry at : ℕ) → old.Place
returning_place number more entry zero = old.WritingUsedId number more entry
returning_place number more entry (suc zero) = old.WritingUsedLength number more
returning_place number more entry (suc (suc at)) = old.WritingUsedIndex number more

abbrev pub task_place : EndConfig → Task → (at : ℕ) → old.Place
task_place config (WritingState false state) at = old.WritingState state
task_place config (WritingState true state) at = old.clear_place (config.own + at) (config.words - at) state
task_place config Refusing at = old.Refusing
task_place config NotInRun at = old.NotInRun
task_place config (Publishing pending) at = let words = words_for (length pending.frame) in
    if nat_lt at words then old.fill_place pending at (words - at) else later_place pending (at - words)
task_place config RingingOffer at = old.RingingOffer
task_place config (WritingAvailEvent taken) at = old.WritingAvailEvent taken
task_place config (Returning number more entry) at = returning_place number more entry at
task_place config RingingPoll at = old.RingingPoll

-- The place of `Places` that is the same.
abbrev pub place_of : EndConfig → Place → old.Place
place_of config Closed = old.Closed
place_of config (Doing task at) = task_place config task at
place_of config (ReadingOtherState handshake) = old.ReadingOtherState handshake
place_of config (ReadingUsedIndex pending freed) = old.ReadingUsedIndex pending freed
place_of config (ReadingUsedId pending freed more) = old.ReadingUsedId pending freed more
place_of config (ReadingAvailEvent number) = old.ReadingAvailEvent number
place_of config (ReadingAvailIndex taken last) = old.ReadingAvailIndex taken last
place_of config (ReadingItem number more []) = old.ReadingAvailEntry number more
place_of config (ReadingItem number more (entry ∷ [])) = old.ReadingDescAddressLow number more entry
place_of config (ReadingItem number more (entry ∷ low ∷ [])) = old.ReadingDescAddressHigh number more entry low
place_of config (ReadingItem number more (entry ∷ low ∷ address ∷ [])) =
    old.ReadingDescLength number more entry address
place_of config (ReadingItem number more (entry ∷ low ∷ address ∷ bytes ∷ [])) =
    old.ReadingDescFlags number more entry address bytes
place_of config (ReadingItem number more (entry ∷ low ∷ address ∷ bytes ∷ flags ∷ words)) =
    old.ReadingFrameWord number more entry address bytes words (words_for bytes - length words - 1)

-- The number of a step is one of its task, and the frame has a further word.
abbrev pub IsReached : EndConfig → Place → Type 0
IsReached config (Doing task at) = at < length (steps_of config task)
IsReached config (ReadingItem number more (entry ∷ low ∷ address ∷ bytes ∷ flags ∷ words)) =
    length words < words_for bytes
IsReached config _ = Unit {0}

-- The first place, each step and each next place are the same.
pub record PlacesAreTheSame : Type 0 where
  pub first : (config : EndConfig) (end : End) (call : Call) →
      place_of config (first_place config end call) ≡ old.first_place config end call
  pub step : (config : EndConfig) (place : Place) (value : ℕ) → IsReached config place →
      old.step_at config (place_of config place) value ≡ step_at config place value
  pub next : (config : EndConfig) (place : Place) (value : ℕ) → IsReached config place →
      place_of config (next_place config place value) ≡ old.next_place config (place_of config place) value
