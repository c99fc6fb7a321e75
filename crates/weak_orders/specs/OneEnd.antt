-- One honest end next to a peer that stores any value in any of its words at any time. A load may
-- give any value here, so nothing rests on the order of any access.
use Rattle.std.specs.Prelude.{ℕ, suc, ◌≡◌, ◌≢◌, ◌<◌, ◌≤◌, true, false}
use Rattle.call_grammar.specs.Permitted.{IsPermittedAccess}
use Rattle.call_grammar.specs.Places.{access_at}
use Rattle.link_invariant.specs.LinkConfig.{LinkConfig, IsLinkConfig, config_of}
use Rattle.link_invariant.specs.EndInvariant.{EndInvariant}
use Rattle.weak_orders.specs.Memory.{Moment, Resets, Does, is_own}
use Rattle.weak_orders.specs.Runs.{IsFirst}

-- The end is at its moment `now`.
pub record RunsAlone (link_config : LinkConfig) (p : ℕ) (past : ℕ → Moment) (now : ℕ) : Type 0 where
  pub first : IsFirst (past 0)
  pub does : (k : ℕ) → k < now → Does link_config p (past k) (past (suc k)) (past (suc k)).action

-- An end keeps its own invariant: at a place in a poll each value that the poll has read is in
-- range. Its next access is permitted: a load of the other's words, a store to its own, or a
-- doorbell to the other. It has stored to no word but its own.
pub record IsSafe (link_config : LinkConfig) (p : ℕ) (m : Moment) : Type 0 where
  pub alone : EndInvariant link_config m.words p m.end m.place
  pub permitted : IsPermittedAccess (config_of link_config p) (access_at (config_of link_config p) m.place)
  pub others : (w : ℕ) → is_own link_config p w ≡ false → m.words w ≡ 0

-- One end is safe at each moment, and the mark of a refusal stays until a reset.
pub record EndsAreSafe : Type 0 where
  pub safe : (link_config : LinkConfig) (p : ℕ) (past : ℕ → Moment) (now k : ℕ) → IsLinkConfig link_config → p < 2 → RunsAlone link_config p past now → k ≤ now →
      IsSafe link_config p (past k)
  pub refused : (link_config : LinkConfig) (p : ℕ) (past : ℕ → Moment) (now a b : ℕ) → RunsAlone link_config p past now → a ≤ b → b ≤ now →
      (past a).end.handshake.mark ≡ true → ((k : ℕ) → a ≤ k → k < b → (past (suc k)).action ≢ Resets) → (past b).end.handshake.mark ≡ true
