-- The notification rule: avail_event wants a doorbell for a frame, and that doorbell is rung.
--
-- Source: VIRTIO 1.1 section 2.6.10, by which avail_event wants a notification; profile for the
-- order of steps.
use Rattle.std.specs.Prelude.{ℕ, ◌≡◌, ◌-◌, ◌%◌, ◌<◌, ◌≤◌, ◌⊎◌, Bool, length}
use Rattle.call_grammar.specs.Ends.{End}
use Rattle.call_grammar.specs.Polls.{published_by}
use Rattle.call_grammar.specs.Places.{Place, Clearing, ReadingAvailEvent, RingingOffer, ReadingAvailIndex, WritingAvailEvent, access_at}
use Rattle.link_invariant.specs.Fields.{AvailEvent}
use Rattle.link_invariant.specs.LinkConfig.{LinkConfig, IsLinkConfig, config_of, fields}
use Rattle.link_invariant.specs.Steps.{ReadsMemory, TakesStep}
use Rattle.link_invariant.specs.Pair.{Pair}

-- The avail_event of end p is frame k's number.
abbrev pub EventIndexIs : LinkConfig → (ℕ → ℕ) → (p k : ℕ) → Type 0
EventIndexIs link_config memory p k = fields link_config memory p AvailEvent ≡ k % 65536

-- End p wants a doorbell for frame k: its avail_event is k, and the other hasn't accepted that
-- frame, or reads avail_event right after it.
pub record Asks (link_config : LinkConfig) (memory : ℕ → ℕ) (ends : ℕ → End) (places : ℕ → Place) (p k : ℕ) : Type 0 where
  pub event : EventIndexIs link_config memory p k
  pub ahead : (length (ends (1 - p)).accepted ≤ k) ⊎ (places (1 - p) ≡ ReadingAvailEvent k)

-- The step at a place writes the own avail_event: by itself, or as the section is cleared.
abbrev pub WritesEvent : Place → Type 0
WritesEvent (WritingAvailEvent taken) = Unit {0}
WritesEvent (Clearing at more state) = Unit {0}
WritesEvent place = ⊥

-- The notification rule in the pair:
-- - the write of avail_event sets it to the next frame's number;
-- - a read of the available index that finds no frame while avail_event is that number makes the
--   end want a doorbell for that frame;
-- - the end still wants it after each own step that doesn't write avail_event;
-- - the end still wants it after each step of the other, except the step that leads to the
--   doorbell.
pub record AskedDoorbellIsRung : Type 0 where
  pub arms : (link_config : LinkConfig) (memory after : ℕ → ℕ) (ends after_ends : ℕ → End) (places after_places : ℕ → Place) (p taken value : ℕ) → IsLinkConfig link_config →
      p < 2 → Pair link_config memory ends places → TakesStep link_config memory after ends after_ends places after_places p value → places p ≡ WritingAvailEvent taken →
      EventIndexIs link_config after p taken
  pub looks : (link_config : LinkConfig) (memory : ℕ → ℕ) (ends : ℕ → End) (places : ℕ → Place) (p taken value : ℕ) (last : Bool) → IsLinkConfig link_config → p < 2 →
      Pair link_config memory ends places → places p ≡ ReadingAvailIndex taken last → ReadsMemory memory (access_at (config_of link_config p) (places p)) value →
      published_by taken value ≡ 0 → EventIndexIs link_config memory p taken → Asks link_config memory ends places p taken
  pub stays : (link_config : LinkConfig) (memory after : ℕ → ℕ) (ends after_ends : ℕ → End) (places after_places : ℕ → Place) (p k value : ℕ) → IsLinkConfig link_config →
      p < 2 → Pair link_config memory ends places → TakesStep link_config memory after ends after_ends places after_places p value → ¬ WritesEvent (places p) →
      Asks link_config memory ends places p k → Asks link_config after after_ends after_places p k
  pub others : (link_config : LinkConfig) (memory after : ℕ → ℕ) (ends after_ends : ℕ → End) (places after_places : ℕ → Place) (p k value : ℕ) → IsLinkConfig link_config →
      p < 2 → Pair link_config memory ends places → TakesStep link_config memory after ends after_ends places after_places (1 - p) value →
      Asks link_config memory ends places p k → Asks link_config after after_ends after_places p k ⊎ (after_places (1 - p) ≡ RingingOffer)
