-- Two ends, each honest or not: their invariant, and its consequences.
use Rattle.std.specs.Prelude.{ℕ, ◌≡◌, ◌≢◌, ◌+◌, ◌-◌, ◌%◌, ◌<◌, ◌≤◌, Bool, true, false, List, ◌++◌, length}
use Rattle.split_ring.specs.Layout.{limit_of}
use Rattle.split_ring.specs.Spelling.{Spells}
use Rattle.call_grammar.specs.Ends.{End, fresh}
use Rattle.call_grammar.specs.Offers.{PendingOffer}
use Rattle.call_grammar.specs.Calls.{Call}
use Rattle.call_grammar.specs.Places.{Place, Closed, Refusing, WritingAvailIndex, access_at}
use Rattle.link_invariant.specs.LinkConfig.{LinkConfig, IsLinkConfig, section_of, config_of}
use Rattle.link_invariant.specs.Steps.{IsUntouched, MemoryAfter, BeginsCall, TakesStep, IsReset}
use Rattle.link_invariant.specs.EndInvariant.{Opened, frame_at, EndInvariant}
use Rattle.link_invariant.specs.Pair.{EitherIsAttached, Pair}

-- Each honest end satisfies its invariant, and two honest ends satisfy the pair.
pub record LinkInvariant (link_config : LinkConfig) (honest : ℕ → Bool) (memory : ℕ → ℕ) (ends : ℕ → End) (places : ℕ → Place) : Type 0 where
  pub alone : (p : ℕ) → p < 2 → honest p ≡ true → EndInvariant link_config memory p (ends p) (places p)
  pub pair : honest 0 ≡ true → honest 1 ≡ true → Pair link_config memory ends places

-- The invariant holds at the start. An honest end preserves it as it begins a call, at each of its
-- steps and at its reset. Changes of words that are no honest end's preserve it too.
pub record LinkInvariantIsKept : Type 0 where
  pub starts : (link_config : LinkConfig) (honest : ℕ → Bool) (memory : ℕ → ℕ) (ends : ℕ → End) (places : ℕ → Place) →
      ((w : ℕ) → memory w ≡ 0) → ((p : ℕ) → ends p ≡ fresh) → ((p : ℕ) → places p ≡ Closed) → LinkInvariant link_config honest memory ends places
  pub begins : (link_config : LinkConfig) (honest : ℕ → Bool) (memory : ℕ → ℕ) (ends after_ends : ℕ → End) (places after_places : ℕ → Place) (p : ℕ) (call : Call) →
      IsLinkConfig link_config → p < 2 → honest p ≡ true → BeginsCall link_config ends after_ends places after_places p call →
      LinkInvariant link_config honest memory ends places → LinkInvariant link_config honest memory after_ends after_places
  pub steps : (link_config : LinkConfig) (honest : ℕ → Bool) (memory after : ℕ → ℕ) (ends after_ends : ℕ → End) (places after_places : ℕ → Place) (p value : ℕ) →
      IsLinkConfig link_config → p < 2 → honest p ≡ true → TakesStep link_config memory after ends after_ends places after_places p value →
      LinkInvariant link_config honest memory ends places → LinkInvariant link_config honest after after_ends after_places
  pub resets : (link_config : LinkConfig) (honest : ℕ → Bool) (memory after : ℕ → ℕ) (ends after_ends : ℕ → End) (places after_places : ℕ → Place) (p : ℕ) →
      IsLinkConfig link_config → p < 2 → honest p ≡ true → IsReset memory after ends after_ends places after_places p →
      LinkInvariant link_config honest memory ends places → LinkInvariant link_config honest after after_ends after_places
  pub others : (link_config : LinkConfig) (honest : ℕ → Bool) (memory after : ℕ → ℕ) (ends : ℕ → End) (places : ℕ → Place) → IsLinkConfig link_config →
      ((q : ℕ) → q < 2 → honest q ≡ true → IsUntouched link_config memory after q) → LinkInvariant link_config honest memory ends places → LinkInvariant link_config honest after ends places

-- Of two honest ends none is at a refusal or has its mark. As soon as one is attached, the frames
-- that either delivered are a beginning of the frames that the other accepted.
pub record HonestEndsAgree : Type 0 where
  pub never_refuse : (link_config : LinkConfig) (memory : ℕ → ℕ) (ends : ℕ → End) (places : ℕ → Place) (p : ℕ) → p < 2 → Pair link_config memory ends places →
      (places p ≢ Refusing) × ((ends p).handshake.mark ≡ false)
  pub deliver : (link_config : LinkConfig) (memory : ℕ → ℕ) (ends : ℕ → End) (places : ℕ → Place) (p : ℕ) → p < 2 → Pair link_config memory ends places →
      EitherIsAttached ends places p → (rest : List (List ℕ)) × ((ends p).accepted ≡ (ends (1 - p)).delivered ++ rest)

-- The words of the section of end p hold this frame at position k, in its own descriptor.
abbrev pub SectionSpells : LinkConfig → (ℕ → ℕ) → (p k : ℕ) → List ℕ → Type 0
SectionSpells link_config memory p k frame = Spells link_config.sizes (λ w. memory (section_of link_config p + w)) k (k % limit_of link_config.sizes) frame

-- The section of an honest end holds each of its frames in flight, for all stores of the other. It
-- also holds the next frame from the write of the index on, which accepts it.
pub record FramesAreSpelled : Type 0 where
  pub in_flight : (link_config : LinkConfig) (memory : ℕ → ℕ) (p : ℕ) (end : End) (place : Place) (k : ℕ) → IsLinkConfig link_config → EndInvariant link_config memory p end place →
      Opened end.handshake.phase → end.freed ≤ k → k < length end.accepted → SectionSpells link_config memory p k (frame_at end.accepted k)
  pub accepted : (link_config : LinkConfig) (memory after : ℕ → ℕ) (p : ℕ) (end : End) (pending : PendingOffer) → IsLinkConfig link_config → p < 2 →
      EndInvariant link_config memory p end (WritingAvailIndex pending) →
      MemoryAfter p memory (access_at (config_of link_config p) (WritingAvailIndex pending)) after → SectionSpells link_config after p pending.number pending.frame
