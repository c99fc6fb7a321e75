-- The actions of running peers.
use Rattle.std.specs.Prelude.{◌≡◌, ℕ, Bool, List, map, filter}
use Rattle.std.specs.List.{range_with_len}
use mathlib.Core.List.{is_set}
use Rattle.std.proofs.Props.{props}
use Rattle.lawful_history.specs.declared.line.Line.{Line}
use Rattle.scenario_text.specs.Scenario.{World}
use Rattle.scenario_text.specs.Running.{has_turn}

-- The part of a running peer: its number, its lines, the number of its turns, and whether it was
-- finished after the last one.
pub record Part : Type 0 where
  pub peer : ℕ
  pub lines : List Line
  pub turns : ℕ
  pub finished : Bool

abbrev pub peers_of : List Part → List ℕ
peers_of parts = map (λ (p : Part). p.peer) parts

-- The peers that run: those with a turn line, ascending.
abbrev pub running_peers : World → List ℕ
running_peers w = filter (has_turn w.acts) (range_with_len 0 w.geometry.peers)

-- Two proofs that two lists of peers are equal are equal.
pub peers-prop : (ps qs : List ℕ) → IsProp (ps ≡ qs)
peers-prop ps qs = hlevel (props, is_set)
