-- A weak run continues by a list of actions of one end, whose loads give the words at its view.
use Rattle.std.proofs.Common.{◌≡◌, ℕ, suc, ◌+◌, ◌-◌, ◌<◌, ◌≤◌, inl, true, false, List, [], ◌∷◌, length, refl, sym, ap, ◌∙◌, subst, arith}
use Rattle.split_ring.specs.declared.steps.Access.{Access}
use Rattle.split_ring.specs.declared.steps.Access.TheVariants as access
use Rattle.call_grammar.specs.Ends.{end_after}
use Rattle.call_grammar.specs.Places.{Closed, first_place, access_at, next_place, step_at, is_open}
use Rattle.link_invariant.specs.LinkConfig.{LinkConfig, config_of, IsGivenTo}
use Rattle.link_invariant.specs.Steps.{ReadsMemory}
use Rattle.weak_orders.specs.Orders.{owes}
use Rattle.weak_orders.specs.Memory.{Moment, Action, Starts, Begins, Takes, Fences, Receives, Resets, Does, Knows, LoadsBy, seen}
use Rattle.weak_orders.specs.Runs.{WeakRuns}
use Rattle.weak_orders.proofs.Cuts.{after_of, left_so}
use Rattle.weak_orders.proofs.Extend.{further}

-- The moment after an action, with the view as it was.
abbrev pub after_action : LinkConfig → ℕ → Moment → Action → Moment
after_action link_config p m (Begins call) =
    record { action = Begins call; words = m.words; end = m.end; place = first_place (config_of link_config p) m.end call; view = m.view; fenced = m.fenced; owed = m.owed }
after_action link_config p m (Takes value) = record {
  action = Takes value;
  words = after_of p m.words (access_at (config_of link_config p) m.place);
  end = end_after m.end (step_at (config_of link_config p) m.place value);
  place = next_place (config_of link_config p) m.place value;
  view = m.view;
  fenced = m.fenced;
  owed = owes m.place (next_place (config_of link_config p) m.place value);
}
after_action link_config p m action = m

-- The end can take the action, and its load gives the word of the other at its view.
abbrev pub CanAct : LinkConfig → ℕ → (opposite : ℕ → ℕ) → Moment → Action → Type 0
CanAct link_config p opposite m (Begins call) = IsGivenTo link_config call × (m.place ≡ Closed)
CanAct link_config p opposite m (Takes value) =
    (is_open m.place ≡ true) × (m.owed ≡ false) × ReadsMemory (seen link_config p m.words opposite) (access_at (config_of link_config p) m.place) value
CanAct link_config p opposite m action = ⊥

abbrev pub CanActs : LinkConfig → ℕ → (opposite : ℕ → ℕ) → Moment → List Action → Type 0
CanActs link_config p opposite m [] = Unit {0}
CanActs link_config p opposite m (action ∷ actions) = CanAct link_config p opposite m action × CanActs link_config p opposite (after_action link_config p m action) actions

-- The moments of an end from this one on.
abbrev pub HasMoments : LinkConfig → ℕ → (ℕ → Moment) → (from : ℕ) → Moment → List Action → Type 0
HasMoments link_config p past from m [] = past from ≡ m
HasMoments link_config p past from m (action ∷ actions) = (past from ≡ m) × HasMoments link_config p past (suc from) (after_action link_config p m action) actions

module _ (link_config : LinkConfig) (p : ℕ) where
  does_so : (opposite : ℕ → ℕ) (m : Moment) (action : Action) → CanAct link_config p opposite m action → Does link_config p m (after_action link_config p m action) (after_action link_config p m action).action
  does_so opposite m Starts can = absurd can
  does_so opposite m (Begins call) can = (can.0, can.1, refl, refl, refl, refl)
  does_so opposite m (Takes value) can = (can.0, left_so p m.words (access_at (config_of link_config p) m.place), refl, refl, can.1, refl)
  does_so opposite m Fences can = absurd can
  does_so opposite m (Receives k) can = absurd can
  does_so opposite m Resets can = absurd can

  loads_view : (old new : Moment) (base : ℕ) (opposite : ℕ → Moment) (now value : ℕ) (a : Access) → ReadsMemory (seen link_config p old.words (opposite base).words) a value → LoadsBy link_config p old new base opposite now value a
  loads_view old new base opposite now value (access.Read word) met = inl met
  loads_view old new base opposite now value (access.Write at n) met = tt
  loads_view old new base opposite now value (access.State state) met = tt
  loads_view old new base opposite now value (access.Ring target vector) met = tt
  loads_view old new base opposite now value access.Nothing met = tt

  knows_so : (words : ℕ → ℕ) (m : Moment) (action : Action) (at : ℕ) (opposite : ℕ → Moment) (now : ℕ) → m.view ≤ now → (opposite m.view).words ≡ words → CanAct link_config p words m action → Knows link_config p m (after_action link_config p m action) at opposite now
  knows_so words m Starts at opposite now le e can = absurd can
  knows_so words m (Begins call) at opposite now le e can = record { base = m.view; rises = omega arith; keeps = omega arith; known = le; fence = refl; loads = tt }
  knows_so words m (Takes value) at opposite now le e can = record {
    base = m.view;
    rises = omega arith;
    keeps = omega arith;
    known = le;
    fence = refl;
    loads = loads_view m (after_action link_config p m (Takes value)) m.view opposite now value (access_at (config_of link_config p) m.place)
        (subst (λ (y : ℕ → ℕ). ReadsMemory (seen link_config p m.words y) (access_at (config_of link_config p) m.place) value) (sym e) can.2);
  }
  knows_so words m Fences at opposite now le e can = absurd can
  knows_so words m (Receives k) at opposite now le e can = absurd can
  knows_so words m Resets at opposite now le e can = absurd can

  view_stays : (opposite : ℕ → ℕ) (m : Moment) (action : Action) → CanAct link_config p opposite m action → (after_action link_config p m action).view ≡ m.view
  view_stays opposite m Starts can = absurd can
  view_stays opposite m (Begins call) can = refl
  view_stays opposite m (Takes value) can = refl
  view_stays opposite m Fences can = absurd can
  view_stays opposite m (Receives k) can = absurd can
  view_stays opposite m Resets can = absurd can

  -- The run after the actions: all earlier moments stay.
  pub record Played (pasts : ℕ → ℕ → Moment) (now : ℕ → ℕ) (m : Moment) (actions : List Action) : Type 0 where
    pub after : ℕ → ℕ → Moment
    pub last : ℕ → ℕ
    pub run : WeakRuns link_config after last
    pub keeps : (q : ℕ) → q < 2 → (k : ℕ) → k ≤ now q → after q k ≡ pasts q k
    pub mine : last p ≡ now p + length actions
    pub opposite : last (1 - p) ≡ now (1 - p)
    pub moments : HasMoments link_config p (after p) (now p) m actions

  pub plays : (actions : List Action) (pasts : ℕ → ℕ → Moment) (now : ℕ → ℕ) (m : Moment) (words : ℕ → ℕ) → WeakRuns link_config pasts now → p < 2 → pasts p (now p) ≡ m → m.view ≤ now (1 - p) →
      (pasts (1 - p) m.view).words ≡ words → CanActs link_config p words m actions → Played pasts now m actions
  plays [] pasts now m words run p2 at view e can = record { after = pasts; last = now; run = run; keeps = λ q q2 k le. refl; mine = omega arith; opposite = refl; moments = at }
  plays (action ∷ actions) pasts now m words run p2 at view e can =
      let o2 : 1 - p < 2 = omega arith in let new = after_action link_config p m action in let stays = view_stays words m action can.0 in
      let f = further link_config pasts now p m new run p2 at (does_so words m action can.0) (knows_so words m action (suc (now p)) (pasts (1 - p)) (now (1 - p)) view e can.0) in
      let there = f.opposite in let here = f.mine in
      let words_stay = ap (λ k. (f.after (1 - p) k).words) stays ∙ (ap (λ (x : Moment). x.words) (f.keeps (1 - p) o2 m.view view) ∙ e) in
      let rest = plays actions f.after f.last new words f.run p2 (ap (f.after p) f.mine ∙ f.adds) (omega arith) words_stay can.1 in let mine = rest.mine in record {
        after = rest.after;
        last = rest.last;
        run = rest.run;
        keeps = λ q q2 k le. rest.keeps q q2 k (f.grows q q2 k le) ∙ f.keeps q q2 k le;
        mine = omega arith;
        opposite = rest.opposite ∙ f.opposite;
        moments = (rest.keeps p p2 (now p) (omega arith) ∙ (f.keeps p p2 (now p) (omega arith) ∙ at), subst (λ k. HasMoments link_config p (rest.after p) k new actions) f.mine rest.moments);
      }
