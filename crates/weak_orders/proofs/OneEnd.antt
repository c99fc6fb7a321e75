-- One honest end, whatever its loads give.
use Rattle.std.proofs.Common.{◌≡◌, ◌≢◌, ℕ, zero, suc, ◌+◌, ◌-◌, ◌<◌, ◌≤◌, true, false, List, [], ◌∷◌, refl, sym, ap, ◌∙◌, subst, arith}
use Rattle.split_ring.specs.declared.steps.Access.{Access}
use Rattle.split_ring.specs.declared.steps.Access.TheVariants as access
use Rattle.call_grammar.specs.Steps.{Mark, Refuse}
use Rattle.call_grammar.specs.Ends.{End, fresh, with_access, with_mark, with_marks}
use Rattle.call_grammar.specs.Calls.{Call, Tick, Stop, Offer, Poll}
use Rattle.call_grammar.specs.Permitted.{IsPermittedTree, IsPermittedCall, IsPermittedAccess}
use Rattle.call_grammar.specs.Places.{Place, Closed, remaining, access_at, next_place, step_at}
use Rattle.call_grammar.proofs.PlacesFollowTrees.{following}
use Rattle.call_grammar.proofs.CallsArePermitted.{reaching}
use Rattle.link_invariant.specs.LinkConfig.{LinkConfig, IsLinkConfig, config_of, IsGivenTo}
use Rattle.link_invariant.specs.EndInvariant.{EndInvariant}
use Rattle.link_invariant.proofs.EndInvariantKept.{alone_kept}
use Rattle.link_invariant.proofs.PairKept.{starts_alone}
use Rattle.weak_orders.specs.Memory.{Moment, Action, Starts, Begins, Takes, Fences, Receives, Resets, Does, is_own}
use Rattle.weak_orders.specs.Runs.{WeakRuns, starts, goes, IsFirst}
use Rattle.weak_orders.specs.OneEnd.{RunsAlone, EndsAreSafe}
use Rattle.weak_orders.proofs.Cuts.{own_test, owns_section}
use Rattle.weak_orders.proofs.RunsKeepInvariant.{weak_runs_are_held}

-- The invariant of one end

end_like : {link_config : LinkConfig} {p : ℕ} {x x' : ℕ → ℕ} {end end' : End} {place place' : Place} → x' ≡ x → end' ≡ end → place' ≡ place → EndInvariant link_config x p end place → EndInvariant link_config x' p end' place'
end_like {link_config} {p} {x} {x'} {end} {end'} {place} {place'} e f g a =
    subst (λ (k : ℕ → ℕ). EndInvariant link_config k p end' place') (sym e) (subst (λ (k : End). EndInvariant link_config x p k place') (sym f) (subst (EndInvariant link_config x p end) (sym g) a))

module _ (link_config : LinkConfig) (is : IsLinkConfig link_config) (p : ℕ) (p2 : p < 2) where
  alone_by : (old new : Moment) (action : Action) → Does link_config p old new action → EndInvariant link_config old.words p old.end old.place → EndInvariant link_config new.words p new.end new.place
  alone_by old new Starts d a = absurd d
  alone_by old new (Begins call) d a = end_like d.2 d.3 d.4 (alone_kept.begins link_config p old.words old.end call is d.0 (subst (EndInvariant link_config old.words p old.end) d.1 a))
  alone_by old new (Takes value) d a = end_like refl d.2 d.3 (alone_kept.steps link_config p old.words new.words old.end old.place value is p2 d.0 d.1 a)
  alone_by old new Fences d a = end_like d.0 d.1 d.2 a
  alone_by old new (Receives k) d a = end_like d.0 d.1 d.2 a
  alone_by old new Resets d a = end_like refl d.1 d.2 (alone_kept.resets link_config p old.words new.words old.end old.place is p2 d.0 a)

  -- Its next access

  abbrev Reaches : Place → Type 0
  Reaches place = IsPermittedTree (config_of link_config p) (remaining (config_of link_config p) place)

  permitted_call : (call : Call) → IsGivenTo link_config call → IsPermittedCall (config_of link_config p) call
  permitted_call Tick g = tt
  permitted_call Stop g = tt
  permitted_call (Offer frame) g = (g.least, g.most)
  permitted_call Poll g = tt

  reaches_by : (old new : Moment) (action : Action) → Does link_config p old new action → Reaches old.place → Reaches new.place
  reaches_by old new Starts d r = absurd d
  reaches_by old new (Begins call) d r = let config = config_of link_config p in
      subst Reaches (sym d.4) (subst (IsPermittedTree config) (sym (following.begins config old.end call)) (reaching.calls config old.end call record { queue = is.queue; words = is.words } (permitted_call call d.0)))
  reaches_by old new (Takes value) d r = let config = config_of link_config p in
      subst Reaches (sym d.3)
      (reaching.step config (remaining config old.place) (remaining config (next_place config old.place value)) (step_at config old.place value) r (following.comes config old.place value d.0)).1
  reaches_by old new Fences d r = subst Reaches (sym d.2) r
  reaches_by old new (Receives k) d r = subst Reaches (sym d.2) r
  reaches_by old new Resets d r = subst Reaches (sym d.2) tt

  pub permitted_at : (place : Place) → Reaches place → IsPermittedAccess (config_of link_config p) (access_at (config_of link_config p) place)
  permitted_at Closed r = tt
  permitted_at place r = let config = config_of link_config p in
      (reaching.step config (remaining config place) (remaining config (next_place config place 0)) (step_at config place 0) r (following.comes config place 0 refl)).0

  -- The words of the other stay

  others_by : (old new : Moment) (action : Action) → Does link_config p old new action → EndInvariant link_config old.words p old.end old.place → (w : ℕ) → is_own link_config p w ≡ false → new.words w ≡ old.words w
  others_by old new Starts d a w apart = absurd d
  others_by old new (Begins call) d a w apart = ap (λ (m : ℕ → ℕ). m w) d.2
  others_by old new (Takes value) d a w apart = alone_kept.own link_config p old.words new.words old.end old.place is p2 d.1 a w
      (λ e. let h = own_test link_config is p p2 old.words old.words w e in let g : ⊥ = cc in g)
      (λ j lt e. let h = owns_section link_config is p p2 old.words old.words w j e lt in let g : ⊥ = cc in g)
  others_by old new Fences d a w apart = ap (λ (m : ℕ → ℕ). m w) d.0
  others_by old new (Receives k) d a w apart = ap (λ (m : ℕ → ℕ). m w) d.0
  others_by old new Resets d a w apart = d.0.neighbour_word w (λ e. let h = own_test link_config is p p2 old.words old.words w e in let g : ⊥ = cc in g)

  module _ (past : ℕ → Moment) (now : ℕ) (run : RunsAlone link_config p past now) where
    pub end_is_safe : (k : ℕ) → k ≤ now → EndInvariant link_config (past k).words p (past k).end (past k).place × Reaches (past k).place × ((w : ℕ) → is_own link_config p w ≡ false → (past k).words w ≡ 0)
    end_is_safe zero le = let f = run.first in (
      end_like refl f.end f.place (starts_alone link_config (past 0).words (λ q. fresh) (λ q. Closed) f.words (λ q. refl) (λ q. refl) p),
      subst Reaches (sym f.place) tt,
      λ w apart. f.words w,
    )
    end_is_safe (suc k) le = let h = end_is_safe k (omega arith) in let d = run.does k (omega arith) in let action = (past (suc k)).action in (
      alone_by (past k) (past (suc k)) action d h.0,
      reaches_by (past k) (past (suc k)) action d h.1,
      λ w apart. others_by (past k) (past (suc k)) action d h.0 w apart ∙ h.2 w apart,
    )

-- Each end of a weak run is a run of one end

run_first : (link_config : LinkConfig) (pasts : ℕ → ℕ → Moment) (now : ℕ → ℕ) → WeakRuns link_config pasts now → (p : ℕ) → IsFirst (pasts p 0)
run_first link_config pasts _ (starts now none first) p = first p
run_first link_config pasts _ (goes now next q run q2 does knows nq nr) p = run_first link_config pasts now run p

pub alone_of : (link_config : LinkConfig) (pasts : ℕ → ℕ → Moment) (now : ℕ → ℕ) → IsLinkConfig link_config → WeakRuns link_config pasts now → (p : ℕ) → p < 2 → RunsAlone link_config p (pasts p) (now p)
alone_of link_config pasts now is run p p2 = let h = weak_runs_are_held link_config pasts now is run in record { first = run_first link_config pasts now run p; does = λ k lt. (h.trail p p2 k (omega arith)).does }

-- The mark of a refusal

marks_keep : (end : End) (marks : List Mark) → end.handshake.mark ≡ true → (with_marks end marks).handshake.mark ≡ true
marks_keep end [] h = h
marks_keep end (Refuse refused ∷ marks) h = marks_keep (with_mark end (Refuse refused)) marks refl
marks_keep end (mark ∷ marks) h = marks_keep (with_mark end mark) marks h

access_keeps : (end : End) (a : Access) → end.handshake.mark ≡ true → (with_access end a).handshake.mark ≡ true
access_keeps end (access.Read word) h = h
access_keeps end (access.Write word value) h = h
access_keeps end (access.State state) h = h
access_keeps end (access.Ring target vector) h = h
access_keeps end access.Nothing h = h

mark_by : (link_config : LinkConfig) (p : ℕ) (old new : Moment) (action : Action) → Does link_config p old new action → action ≢ Resets → old.end.handshake.mark ≡ true → new.end.handshake.mark ≡ true
mark_by link_config p old new Starts d ne h = absurd d
mark_by link_config p old new (Begins call) d ne h = ap (λ (e : End). e.handshake.mark) d.3 ∙ h
mark_by link_config p old new (Takes value) d ne h = let s = step_at (config_of link_config p) old.place value in
    ap (λ (e : End). e.handshake.mark) d.2 ∙ marks_keep (with_access old.end s.access) s.marks (access_keeps old.end s.access h)
mark_by link_config p old new Fences d ne h = ap (λ (e : End). e.handshake.mark) d.1 ∙ h
mark_by link_config p old new (Receives k) d ne h = ap (λ (e : End). e.handshake.mark) d.1 ∙ h
mark_by link_config p old new Resets d ne h = absurd (ne refl)

module _ (link_config : LinkConfig) (p : ℕ) (past : ℕ → Moment) (now : ℕ) (run : RunsAlone link_config p past now) (a : ℕ) where
  mark_stays : (j : ℕ) → a + j ≤ now → (past a).end.handshake.mark ≡ true → ((k : ℕ) → a ≤ k → k < a + j → (past (suc k)).action ≢ Resets) → (past (a + j)).end.handshake.mark ≡ true
  mark_stays zero le h quiet = subst (λ k. (past k).end.handshake.mark ≡ true) (let e : a ≡ a + zero = omega arith in e) h
  mark_stays (suc j) le h quiet = let k = a + j in subst (λ k. (past k).end.handshake.mark ≡ true) (let e : suc k ≡ a + suc j = omega arith in e)
      (mark_by link_config p (past k) (past (suc k)) (past (suc k)).action (run.does k (omega arith)) (quiet k (omega arith) (omega arith)) (mark_stays j (omega arith) h (λ i lo hi. quiet i lo (omega arith))))

pub ends_are_safe : EndsAreSafe
ends_are_safe = record {
  safe = λ link_config p past now k is p2 run le. let h = end_is_safe link_config is p p2 past now run k le in record { alone = h.0; permitted = permitted_at link_config is p p2 (past k).place h.1; others = h.2 };
  refused = λ link_config p past now a b run ab bn h quiet. let e : a + (b - a) ≡ b = omega arith in
      subst (λ k. (past k).end.handshake.mark ≡ true) e (mark_stays link_config p past now run a (b - a) (omega arith) h (λ k lo hi. quiet k lo (omega arith)));
}
