-- A doorbell doesn't overtake the index that it announces.
use Rattle.std.specs.Prelude.{ℕ, suc, ◌≡◌, ◌+◌, ◌-◌, ◌<◌, ◌≤◌, Bool, length}
use Rattle.call_grammar.specs.Polls.{published_by}
use Rattle.call_grammar.specs.Offers.{PendingOffer, returned_by}
use Rattle.call_grammar.specs.Places.{ReadingUsedIndex, RingingOffer, ReadingAvailIndex, RingingPoll}
use Rattle.link_invariant.specs.LinkConfig.{LinkConfig, IsLinkConfig}
use Rattle.weak_orders.specs.Memory.{Moment, Takes, Receives}
use Rattle.weak_orders.specs.Runs.{WeakRuns}
use Rattle.weak_orders.specs.Sessions.{opened}

-- An end receives a doorbell of the other, and then loads an index of the other, in the same
-- session of the other. If the doorbell is an offer's, a poll finds all frames that were accepted
-- before it. If the doorbell is a poll's, an offer finds all frames that were returned before it.
pub record DoorbellsFollow (pasts : ℕ → ℕ → Moment) (now : ℕ → ℕ) (p : ℕ) : Type 0 where
  pub finds : (b h a t v : ℕ) (last : Bool) → h < a → suc a ≤ now p →
      (pasts (1 - p) b).place ≡ RingingOffer → (pasts p (suc h)).action ≡ Receives b →
      (pasts p a).place ≡ ReadingAvailIndex t last → (pasts p (suc a)).action ≡ Takes v →
      opened (pasts (1 - p)) b ≡ opened (pasts (1 - p)) (pasts p a).view →
      length (pasts (1 - p) b).end.accepted ≤ t + published_by t v
  pub frees : (b h a freed v : ℕ) (pending : PendingOffer) → h < a → suc a ≤ now p →
      (pasts (1 - p) b).place ≡ RingingPoll → (pasts p (suc h)).action ≡ Receives b →
      (pasts p a).place ≡ ReadingUsedIndex pending freed → (pasts p (suc a)).action ≡ Takes v →
      opened (pasts (1 - p)) b ≡ opened (pasts (1 - p)) (pasts p a).view →
      (pasts (1 - p) b).end.returned ≤ freed + returned_by freed v

abbrev pub DoorbellsFollowIndexes : Type 0
DoorbellsFollowIndexes = (link_config : LinkConfig) (pasts : ℕ → ℕ → Moment) (now : ℕ → ℕ) → IsLinkConfig link_config → WeakRuns link_config pasts now →
    (p : ℕ) → p < 2 → DoorbellsFollow pasts now p
