-- In a link of version 2 or 3 no doorbell is lost over weak memory.
use Rattle.std.specs.Prelude.{ℕ, suc, ◌≡◌, ◌≢◌, ◌-◌, ◌<◌, ◌≤◌, ◌⊎◌, Bool, length}
use Rattle.link_handshake.specs.declared.Phase.TheVariants.{Run}
use Rattle.call_grammar.specs.Polls.{published_by}
use Rattle.call_grammar.specs.Places.{ReadingAvailEvent, RingingOffer, ReadingAvailIndex, WritingAvailEvent}
use Rattle.link_invariant.specs.LinkConfig.{LinkConfig, IsLinkConfig}
use Rattle.weak_orders.specs.Memory.{Moment, Takes}
use Rattle.weak_orders.specs.Runs.{WeakRuns}
use Rattle.weak_orders.specs.Sessions.{opened}

-- After moment c an end has not exactly t frames delivered, or isn't in RUN.
abbrev pub HasMovedOn : (past : ℕ → Moment) → (c now t : ℕ) → Type 0
HasMovedOn past c now t = (k : ℕ) × (c < k) × (k ≤ now) × ((length (past k).end.delivered ≢ t) ⊎ ((past k).end.handshake.phase ≢ Run))

-- At moment c an end stores its event for frame t. At a later moment its load of the available
-- index finds no frame. In the session to which the end is attached, the other accepts frame t and
-- loads the event. That offer reaches its doorbell, for each order of the two loads, unless the end
-- has moved on since moment c.
pub record DoorbellsRing (link_config : LinkConfig) (pasts : ℕ → ℕ → Moment) (now : ℕ → ℕ) (p : ℕ) : Type 0 where
  pub rings : (c a b t x v w : ℕ) (last : Bool) → c < a → suc a ≤ now p → suc b ≤ now (1 - p) →
      (pasts p c).place ≡ WritingAvailEvent t → (pasts p (suc c)).action ≡ Takes x →
      (pasts p a).place ≡ ReadingAvailIndex t last → (pasts p (suc a)).action ≡ Takes v → published_by t v ≡ 0 →
      (pasts (1 - p) b).place ≡ ReadingAvailEvent t → (pasts (1 - p) (suc b)).action ≡ Takes w →
      opened (pasts (1 - p)) b ≡ opened (pasts (1 - p)) (pasts p a).view →
      ((pasts (1 - p) (suc b)).place ≡ RingingOffer) ⊎ HasMovedOn (pasts p) c (now p) t

abbrev pub WeakDoorbellsRing : Type 0
WeakDoorbellsRing = (link_config : LinkConfig) (pasts : ℕ → ℕ → Moment) (now : ℕ → ℕ) → IsLinkConfig link_config → WeakRuns link_config pasts now →
    (p : ℕ) → p < 2 → DoorbellsRing link_config pasts now p
