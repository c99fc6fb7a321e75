-- The runs of two honest ends over weak memory, and what holds in them.
use Rattle.std.specs.Prelude.{ℕ, suc, ◌≡◌, ◌≢◌, ◌-◌, ◌<◌, false, List, ◌++◌}
use Rattle.call_grammar.specs.Places.{Closed, Refusing}
use Rattle.link_invariant.specs.LinkConfig.{LinkConfig, IsLinkConfig}
use Rattle.link_invariant.specs.Pair.{IsAttached, OpensNone}
use Rattle.call_grammar.specs.Ends.{fresh}
use Rattle.weak_orders.specs.Memory.{Moment, Does, Knows}

-- An end at its start.
pub record IsFirst (m : Moment) : Type 0 where
  pub words : (w : ℕ) → m.words w ≡ 0
  pub end : m.end ≡ fresh
  pub place : m.place ≡ Closed
  pub view : m.view ≡ 0
  pub fenced : m.fenced ≡ 0
  pub owed : m.owed ≡ false

-- A run: an end takes one action at a time. End p is at its moment `now p`.
pub data WeakRuns (link_config : LinkConfig) (pasts : ℕ → ℕ → Moment) : (ℕ → ℕ) → Type 0 where
  starts : (now : ℕ → ℕ) → ((p : ℕ) → now p ≡ 0) → ((p : ℕ) → IsFirst (pasts p 0)) → WeakRuns link_config pasts now
  goes : (now next : ℕ → ℕ) (p : ℕ) → WeakRuns link_config pasts now → p < 2 →
      Does link_config p (pasts p (now p)) (pasts p (suc (now p))) (pasts p (suc (now p))).action →
      Knows link_config p (pasts p (now p)) (pasts p (suc (now p))) (suc (now p)) (pasts (1 - p)) (now (1 - p)) →
      next p ≡ suc (now p) → next (1 - p) ≡ now (1 - p) → WeakRuns link_config pasts next

-- An end is not about to refuse, and has no mark of a refusal. While the end is attached (in RUN,
-- or about to set RUN), the other opens no session. The frames that the end delivered are then a
-- prefix of those that the other accepted.
pub record Agrees (m other : Moment) : Type 0 where
  pub place : m.place ≢ Refusing
  pub mark : m.end.handshake.mark ≡ false
  pub session : IsAttached m.end m.place → OpensNone other.end other.place × ((rest : List (List ℕ)) × (other.end.accepted ≡ m.end.delivered ++ rest))

-- Each end agrees with the other at all times.
abbrev pub WeakRunsAgree : Type 0
WeakRunsAgree = (link_config : LinkConfig) (pasts : ℕ → ℕ → Moment) (now : ℕ → ℕ) → IsLinkConfig link_config → WeakRuns link_config pasts now →
    (p : ℕ) → p < 2 → Agrees (pasts p (now p)) (pasts (1 - p) (now (1 - p)))
