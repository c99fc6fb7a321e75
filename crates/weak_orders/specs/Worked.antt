-- A worked run over weak memory that is no sequentially consistent one. Both ends are in RUN. Each
-- end offers a frame, and then polls. The poll of each end loads the available index that the other
-- end had before its offer, so neither poll finds a frame. Over sequentially consistent memory the
-- later of the two polls finds the other's frame.
use Rattle.std.specs.Prelude.{ℕ, suc, ◌≡◌, ◌+◌, ◌-◌, ◌<◌, List, [], ◌∷◌, length, replicate}
use Rattle.split_ring.specs.Layout.{word_offset, AvailIndex}
use Rattle.call_grammar.specs.Words.{index_word}
use Rattle.call_grammar.specs.Calls.{Offer, Poll}
use Rattle.call_grammar.specs.Places.{access_at}
use Rattle.link_invariant.specs.LinkConfig.{LinkConfig, config_of, section_of}
use Rattle.link_invariant.specs.Steps.{ReadsMemory}
use Rattle.weak_orders.specs.Memory.{Moment, Action, Begins, Takes, seen}
use Rattle.weak_orders.specs.Runs.{WeakRuns}

-- A link of version 1, with output sections of 16,384 bytes and an MTU of 256.
abbrev pub worked_config : LinkConfig
worked_config = record { first = 1024; words = 4096; sizes = record { version = 1; out = 16384; mtu = 256 }; vector = 1 }

-- A frame of 14 bytes, each of which is 1. It has four words.
abbrev pub worked_frame : List ℕ
worked_frame = replicate 14 1

-- The actions of each end, in order. The value of an action is 0 unless the action is a load, and
-- the three loads give 0 too.
abbrev pub worked_actions : List Action
worked_actions =
    Begins (Offer worked_frame) ∷
    Takes 0 ∷  -- load-acquire of the other's used index: no frame is returned
    Takes 0 ∷  -- stores of the four words of the frame
    Takes 0 ∷
    Takes 0 ∷
    Takes 0 ∷
    Takes 0 ∷  -- stores of the four words of descriptor 0
    Takes 0 ∷
    Takes 0 ∷
    Takes 0 ∷
    Takes 0 ∷  -- store of entry 0 of the available ring
    Takes 0 ∷  -- store-release of the own available index, which is 1 from here on
    Takes 0 ∷  -- doorbell
    Begins Poll ∷
    Takes 0 ∷  -- load-acquire of the other's available index: 0, from before the other's offer
    []

-- The actions of an end after its moment `from`.
abbrev pub Acts : (ℕ → Moment) → (from : ℕ) → List Action → Type 0
Acts past from [] = Unit {0}
Acts past from (action ∷ actions) = ((past (suc from)).action ≡ action) × Acts past (suc from) actions

-- A load gives the word as the other end left it.
abbrev pub LoadsNewest : LinkConfig → ℕ → (old opposite : Moment) → Action → Type 0
LoadsNewest link_config p old opposite (Takes value) = ReadsMemory (seen link_config p old.words opposite.words) (access_at (config_of link_config p) old.place) value
LoadsNewest link_config p old opposite action = Unit {0}

-- The actions of two ends up to their moments `now`, in an order that is sequentially consistent:
-- each load gives the newest word.
pub data SequentialOrder (link_config : LinkConfig) (pasts : ℕ → ℕ → Moment) : (ℕ → ℕ) → Type 0 where
  starts : (now : ℕ → ℕ) → ((p : ℕ) → now p ≡ 0) → SequentialOrder link_config pasts now
  goes : (now next : ℕ → ℕ) (p : ℕ) → SequentialOrder link_config pasts now → p < 2 →
      LoadsNewest link_config p (pasts p (now p)) (pasts (1 - p) (now (1 - p))) (pasts p (suc (now p))).action →
      next p ≡ suc (now p) → next (1 - p) ≡ now (1 - p) → SequentialOrder link_config pasts next

-- End p at its last moment: the end published its frame, and its poll found no frame.
pub record IsStale (p : ℕ) (m : Moment) : Type 0 where
  pub accepted : m.end.accepted ≡ worked_frame ∷ []
  pub delivered : m.end.delivered ≡ []
  pub index : m.words (section_of worked_config p + word_offset worked_config.sizes AvailIndex) ≡ index_word 1

-- The run: from their moments `from` on, both ends take the actions above. No order of all actions
-- of the two ends is sequentially consistent.
pub record BothLooksMayBeStale : Type 0 where
  pub pasts : ℕ → ℕ → Moment
  pub from : ℕ → ℕ
  pub now : ℕ → ℕ
  pub run : WeakRuns worked_config pasts now
  pub count : (p : ℕ) → p < 2 → now p ≡ from p + length worked_actions
  pub acts : (p : ℕ) → p < 2 → Acts (pasts p) (from p) worked_actions
  pub stale : (p : ℕ) → p < 2 → IsStale p (pasts p (now p))
  pub sequential : SequentialOrder worked_config pasts now → ⊥
