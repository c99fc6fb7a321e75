-- The sessions of two ends over weak memory.
use Rattle.std.proofs.Common.{◌≡◌, ◌≢◌, ℕ, zero, suc, ◌+◌, ◌-◌, ◌<◌, ◌≤◌, inl, List, ◌++◌, refl, sym, ap, ◌∙◌, arith}
use mathlib.Core.Logic.{dite}
use native.Mathlib.Decide.{dec_lt}
use Rattle.split_ring.specs.declared.steps.Access.{Access}
use Rattle.split_ring.specs.declared.steps.Access.TheVariants as access
use Rattle.link_handshake.specs.declared.Phase.TheVariants.{Init}
use Rattle.link_handshake.specs.PhaseTable.{state_of}
use Rattle.call_grammar.specs.Ends.{End, end_after}
use Rattle.call_grammar.proofs.Phases.{phases}
use Rattle.call_grammar.specs.Places.{Place, WritingState, Refusing, access_at, step_at}
use Rattle.link_invariant.specs.LinkConfig.{LinkConfig, IsLinkConfig, config_of}
use Rattle.link_invariant.specs.EndInvariant.{PlaceInvariant}
use Rattle.link_invariant.specs.Pair.{IsAttached}
use Rattle.weak_orders.specs.Memory.{Moment, Action, Starts, Begins, Takes, Fences, Receives, Resets, Does, seen}
use Rattle.weak_orders.specs.Sessions.{opens_at, opened}
use Rattle.weak_orders.proofs.Cuts.{own_state}
use Rattle.weak_orders.proofs.Advance.{Held}

-- The number of sessions stays at an action that opens none.
pub no_opening : (link_config : LinkConfig) (memory : ℕ → ℕ) (q : ℕ) (end : End) (place : Place) (action : Action) → PlaceInvariant link_config memory q end place → end.handshake.phase ≢ Init → opens_at place action ≡ 0
no_opening link_config memory q end (WritingState (suc (suc zero))) (Takes v) h apart = absurd (apart h.0)
no_opening link_config memory q end place action h apart = refl

-- An action that raises State from 1 to 2 opens a session.
state_out : Access → ℕ → ℕ
state_out (access.State s) n = s
state_out a n = n

lifts : (link_config : LinkConfig) (memory : ℕ → ℕ) (q : ℕ) (m m' : Moment) (action : Action) → Does link_config q m m' action → PlaceInvariant link_config memory q m.end m.place → state_of m.end.handshake.phase ≤ 1 → 2 ≤ state_of m'.end.handshake.phase → opens_at m.place action ≡ 1
lifts link_config memory q m m' Starts d h low high = absurd d
lifts link_config memory q m m' (Begins call) d h low high = absurd (let e = ap (λ (x : End). state_of x.handshake.phase) d.3 in omega arith)
lifts link_config memory q m m' Fences d h low high = absurd (let e = ap (λ (x : End). state_of x.handshake.phase) d.1 in omega arith)
lifts link_config memory q m m' (Receives k) d h low high = absurd (let e = ap (λ (x : End). state_of x.handshake.phase) d.1 in omega arith)
lifts link_config memory q m m' Resets d h low high = absurd (let e = ap (λ (x : End). state_of x.handshake.phase) d.1 in omega arith)
lifts link_config memory q m m' (Takes v) d h low high = by_place m.place h (ap (λ (x : End). state_of x.handshake.phase) d.2)
  where
    stays : (place : Place) → ((s : ℕ) → access_at (config_of link_config q) place ≢ access.State s) → state_of m'.end.handshake.phase ≡ state_of (end_after m.end (step_at (config_of link_config q) place v)).handshake.phase → (n : ℕ) → n ≡ 1
    stays place other e n = absurd (let f = ap state_of (phases.kept m.end (step_at (config_of link_config q) place v) other) in omega arith)

    by_place : (place : Place) → PlaceInvariant link_config memory q m.end place → state_of m'.end.handshake.phase ≡ state_of (end_after m.end (step_at (config_of link_config q) place v)).handshake.phase → opens_at place (Takes v) ≡ 1
    by_place (WritingState zero) h e = absurd (omega arith)
    by_place (WritingState (suc zero)) h e = absurd (omega arith)
    by_place (WritingState (suc (suc zero))) h e = refl
    by_place (WritingState (suc (suc (suc zero)))) h e = absurd (let f = ap state_of h in omega arith)
    by_place (WritingState (suc (suc (suc (suc more))))) h e = absurd h
    by_place Refusing h e = absurd (omega arith)
    by_place place h e = stays place (λ s f. cc) e (opens_at place (Takes v))

module _ (link_config : LinkConfig) (is : IsLinkConfig link_config) (pasts : ℕ → ℕ → Moment) (now : ℕ → ℕ) (held : Held link_config pasts now) where
  state_is : (q : ℕ) → q < 2 → (k : ℕ) → k ≤ now q → (pasts q k).words q ≡ state_of (pasts q k).end.handshake.phase
  state_is q q2 k to = let a = held.alone q q2 k to in sym (own_state link_config is q q2 (pasts q k).words a.0) ∙ a.1.state

  pub view_up : (q : ℕ) → q < 2 → (a j : ℕ) → a + j ≤ now q → (pasts q a).view ≤ (pasts q (a + j)).view
  view_up q q2 a zero to = let e = ap (λ k. (pasts q k).view) (let e : a + zero ≡ a = omega arith in e) in omega arith
  view_up q q2 a (suc j) to = let h = view_up q q2 a j (omega arith) in let t = held.trail q q2 (a + j) (omega arith) in let r = t.rises in let e = ap (λ k. (pasts q k).view) (let e : a + suc j ≡ suc (a + j) = omega arith in e) in omega arith

  pub opened_up : (q i j : ℕ) → opened (pasts q) i ≤ opened (pasts q) (i + j)
  opened_up q i zero = let e = ap (opened (pasts q)) (let e : i + zero ≡ i = omega arith in e) in omega arith
  opened_up q i (suc j) = let h = opened_up q i j in let e = ap (opened (pasts q)) (let e : i + suc j ≡ suc (i + j) = omega arith in e) in omega arith

  pub climbs : (q : ℕ) → q < 2 → (i j : ℕ) → i + j ≤ now q → (pasts q i).words q ≤ 1 → 2 ≤ (pasts q (i + j)).words q → opened (pasts q) i < opened (pasts q) (i + j)
  climbs q q2 i zero to low high = absurd (let e = ap (λ k. (pasts q k).words q) (let e : i + zero ≡ i = omega arith in e) in omega arith)
  climbs q q2 i (suc j) to low high = let k = i + j in let e : i + suc j ≡ suc k = omega arith in let f = ap (opened (pasts q)) e in let g = ap (λ k. (pasts q k).words q) e in
      dite (dec_lt ((pasts q k).words q) 2)
      (λ lt. let t = held.trail q q2 k (omega arith) in let a = held.alone q q2 k (omega arith) in let s = state_is q q2 k (omega arith) in let s' = state_is q q2 (suc k) (omega arith) in
      let one = lifts link_config (seen link_config q (pasts q k).words a.0) q (pasts q k) (pasts q (suc k)) (pasts q (suc k)).action t.does a.1.holds (omega arith) (omega arith) in let up = opened_up q i j in omega arith)
      (λ ge. let h = climbs q q2 i j (omega arith) low (omega arith) in omega arith)

  module _ (p : ℕ) (p2 : p < 2) where
    one_session : (a : ℕ) → a ≤ now p → IsAttached (pasts p a).end (pasts p a).place → (j b : ℕ) → b ≤ now (1 - p) → (pasts (1 - p) b).view ≤ a → (pasts p a).view + j ≤ b → opened (pasts (1 - p)) ((pasts p a).view + j) ≡ opened (pasts (1 - p)) (pasts p a).view
    one_session a to attends zero b bq back from = ap (opened (pasts (1 - p))) (let e : (pasts p a).view + zero ≡ (pasts p a).view = omega arith in e)
    one_session a to attends (suc j) b bq back from = let k = (pasts p a).view + j in let o2 : 1 - p < 2 = omega arith in
        let up = view_up (1 - p) o2 k (b - k) (omega arith) in let at = ap (λ n. (pasts (1 - p) n).view) (let e : k + (b - k) ≡ b = omega arith in e) in
        let c = held.cuts p p2 a k to (omega arith) (omega arith) (omega arith) in
        let none = no_opening link_config (seen link_config p (pasts p a).words (pasts (1 - p) k).words) (1 - p) (pasts (1 - p) k).end (pasts (1 - p) k).place (pasts (1 - p) (suc k)).action c.before.opposite.holds (c.before.from attends).0 in
        let e = ap (opened (pasts (1 - p))) (let e : (pasts p a).view + suc j ≡ suc k = omega arith in e) in
        let h = one_session a to attends j b bq back (omega arith) in omega arith

    pub sessions_are_one : (a b : ℕ) → a ≤ now p → b ≤ now (1 - p) → IsAttached (pasts p a).end (pasts p a).place → (pasts p a).view ≤ b → (pasts (1 - p) b).view ≤ a →
        (opened (pasts (1 - p)) b ≡ opened (pasts (1 - p)) (pasts p a).view) × ((rest : List (List ℕ)) × ((pasts (1 - p) b).end.accepted ≡ (pasts p a).end.delivered ++ rest))
    sessions_are_one a b to bq attends from back = let j = b - (pasts p a).view in let e : (pasts p a).view + j ≡ b = omega arith in let c = held.cuts p p2 a b to bq from back in
        (sym (ap (opened (pasts (1 - p))) e) ∙ one_session a to attends j b bq back (omega arith), (c.before.faces (inl attends)).takes.prefix)
