-- The sessions of two honest ends over weak memory.
use Rattle.std.specs.Prelude.{ℕ, zero, suc, ◌≡◌, ◌+◌, ◌-◌, ◌<◌, ◌≤◌, List, ◌++◌}
use Rattle.call_grammar.specs.Places.{Place, WritingState}
use Rattle.link_invariant.specs.LinkConfig.{LinkConfig, IsLinkConfig}
use Rattle.link_invariant.specs.Pair.{IsAttached}
use Rattle.weak_orders.specs.Memory.{Moment, Action, Takes}
use Rattle.weak_orders.specs.Runs.{WeakRuns}

-- An end opens a session when it stores State 2 (READY). The value is 1 at that action, else 0.
abbrev pub opens_at : Place → Action → ℕ
opens_at (WritingState (suc (suc zero))) (Takes value) = 1
opens_at place action = 0

-- The number of sessions that an end has opened by this moment.
abbrev pub opened : (ℕ → Moment) → ℕ → ℕ
opened past zero = 0
opened past (suc k) = opened past k + opens_at (past k).place (past (suc k)).action

-- The sessions of end p. Two moments, one of each end, are consistent if the view of neither goes
-- past the other. While the end is attached, the other's session at each consistent moment is the
-- session at the end's view. The frames delivered are a prefix of those accepted there. In a later
-- session of its own the end is attached to a later session of the other.
pub record SessionsAre (pasts : ℕ → ℕ → Moment) (now : ℕ → ℕ) (p : ℕ) : Type 0 where
  pub one : (a b : ℕ) → a ≤ now p → b ≤ now (1 - p) → IsAttached (pasts p a).end (pasts p a).place → (pasts p a).view ≤ b → (pasts (1 - p) b).view ≤ a →
      (opened (pasts (1 - p)) b ≡ opened (pasts (1 - p)) (pasts p a).view) × ((rest : List (List ℕ)) × ((pasts (1 - p) b).end.accepted ≡ (pasts p a).end.delivered ++ rest))
  pub rise : (a b : ℕ) → a ≤ b → b ≤ now p → IsAttached (pasts p a).end (pasts p a).place → IsAttached (pasts p b).end (pasts p b).place →
      opened (pasts p) a < opened (pasts p) b → opened (pasts (1 - p)) (pasts p a).view < opened (pasts (1 - p)) (pasts p b).view

abbrev pub WeakSessionsRise : Type 0
WeakSessionsRise = (link_config : LinkConfig) (pasts : ℕ → ℕ → Moment) (now : ℕ → ℕ) → IsLinkConfig link_config → WeakRuns link_config pasts now → (p : ℕ) → p < 2 → SessionsAre pasts now p
