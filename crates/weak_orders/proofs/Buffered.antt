-- Each run over x86-TSO is a weak run: the view is what has left the other's store buffer.
use Rattle.std.proofs.Common.{◌≡◌, ℕ, suc, ◌-◌, ◌<◌, ◌≤◌, inl, refl, sym, ap, ◌∙◌, subst, arith}
use Rattle.split_ring.specs.declared.steps.Access.{Access}
use Rattle.split_ring.specs.declared.steps.Access.TheVariants as access
use Rattle.call_grammar.specs.Places.{access_at}
use Rattle.link_invariant.specs.LinkConfig.{LinkConfig, config_of}
use Rattle.link_invariant.specs.Steps.{ReadsMemory}
use Rattle.weak_orders.specs.Memory.{Moment, Action, Starts, Begins, Takes, Fences, Receives, Resets, access_of, Loads, LoadsBy, FencedBy, seen}
use Rattle.weak_orders.specs.Runs.{WeakRuns, IsFirst}
use Rattle.weak_orders.specs.Runs as runs
use Rattle.weak_orders.specs.Stronger.{IsFenced, BufferedRuns, starts, goes, StoreBufferRunsAreWeak}
use Rattle.weak_orders.proofs.RunsKeepInvariant.{pick}

-- A store that has left a buffer is past. An end's view has left the other's buffer, and its last
-- fence has left its own buffer.
record Sound (pasts : ℕ → ℕ → Moment) (now out : ℕ → ℕ) : Type 0 where
  left : (p : ℕ) → p < 2 → out p ≤ now p
  view : (p : ℕ) → p < 2 → (pasts p (now p)).view ≤ out (1 - p)
  fence : (p : ℕ) → p < 2 → (pasts p (now p)).fenced ≤ out p

loads_so : (link_config : LinkConfig) (p : ℕ) (old new : Moment) (opposite : ℕ → Moment) (out now value : ℕ) (a : Access) → ReadsMemory (seen link_config p old.words (opposite out).words) a value → LoadsBy link_config p old new out opposite now value a
loads_so link_config p old new opposite out now value (access.Read word) met = inl met
loads_so link_config p old new opposite out now value (access.Write at n) met = tt
loads_so link_config p old new opposite out now value (access.State state) met = tt
loads_so link_config p old new opposite out now value (access.Ring target vector) met = tt
loads_so link_config p old new opposite out now value access.Nothing met = tt

module _ (link_config : LinkConfig) (p : ℕ) (old new : Moment) (opposite : ℕ → Moment) (out now : ℕ) where
  loads_by : (action : Action) → ((value : ℕ) → action ≡ Takes value → ReadsMemory (seen link_config p old.words (opposite out).words) (access_at (config_of link_config p) old.place) value) →
      ((k : ℕ) → action ≡ Receives k → (k < out) × (access_of link_config (1 - p) (opposite k).place (opposite (suc k)).action ≡ access.Ring p link_config.vector)) → new.view ≡ out → out ≤ now → Loads link_config p old new out opposite now action
  loads_by Starts met received view most = tt
  loads_by (Begins call) met received view most = tt
  loads_by Fences met received view most = tt
  loads_by (Receives k) met received view most = let h = received k refl in let lt = h.0 in (omega arith, (h.1, λ r. omega arith))
  loads_by Resets met received view most = tt
  loads_by (Takes value) met received view most = loads_so link_config p old new opposite out now value (access_at (config_of link_config p) old.place) (met value refl)

  fenced_by : (at own : ℕ) (action : Action) → (opposite now).fenced ≤ new.view → IsFenced old new at own action → FencedBy old new at opposite now action
  fenced_by at own Starts seen f = f
  fenced_by at own (Begins call) seen f = f
  fenced_by at own (Takes value) seen f = f
  fenced_by at own Fences seen f = (seen, f.1)
  fenced_by at own (Receives k) seen f = f
  fenced_by at own Resets seen f = f

last_fence : (old new : Moment) (at own out : ℕ) (action : Action) → IsFenced old new at own action → old.fenced ≤ out → out ≤ own → new.fenced ≤ own
last_fence old new at own out Starts f low up = omega arith
last_fence old new at own out (Begins call) f low up = omega arith
last_fence old new at own out (Takes value) f low up = omega arith
last_fence old new at own out Fences f low up = let e = f.0 in let g = f.1 in omega arith
last_fence old new at own out (Receives k) f low up = omega arith
last_fence old new at own out Resets f low up = omega arith

record WeakAndSound (link_config : LinkConfig) (pasts : ℕ → ℕ → Moment) (now out : ℕ → ℕ) : Type 0 where
  run : WeakRuns link_config pasts now
  sound : Sound pasts now out

first_sound : (pasts : ℕ → ℕ → Moment) (now out : ℕ → ℕ) → ((p : ℕ) → now p ≡ 0) → ((p : ℕ) → out p ≡ 0) → ((p : ℕ) → IsFirst (pasts p 0)) → Sound pasts now out
first_sound pasts now out none empty first = record {
  left = λ p p2. let n = none p in let m = empty p in omega arith;
  view = λ p p2. let v = ap (λ k. (pasts p k).view) (none p) ∙ (first p).view in omega arith;
  fence = λ p p2. let v = ap (λ k. (pasts p k).fenced) (none p) ∙ (first p).fenced in omega arith;
}

buffered : (link_config : LinkConfig) (pasts : ℕ → ℕ → Moment) (now out : ℕ → ℕ) → BufferedRuns link_config pasts now out → WeakAndSound link_config pasts now out
buffered link_config pasts _ _ (starts now out none empty first) = record { run = runs.starts now none first; sound = first_sound pasts now out none empty first }
buffered link_config pasts _ _ (goes now next out left p run p2 own_up own_most up most does is fenced np nq) =
    let w = buffered link_config pasts now out run in let s = w.sound in let o2 : 1 - p < 2 = omega arith in let back : 1 - (1 - p) ≡ p = omega arith in
    let new = pasts p (suc (now p)) in let old = pasts p (now p) in let opposite = pasts (1 - p) in
    let v = s.view p p2 in let f = s.fence (1 - p) o2 in let g = s.fence p p2 in let view = is.view in
    let other : (pasts (1 - p) (now (1 - p))).view ≤ out p = subst (λ k. (pasts (1 - p) (now (1 - p))).view ≤ out k) back (s.view (1 - p) o2) in
    let mine = last_fence old new (suc (now p)) (left p) (out p) new.action fenced g own_up in
    record {
      run = runs.goes now next p w.run p2 does record {
        base = left (1 - p);
        rises = omega arith;
        keeps = omega arith;
        known = omega arith;
        fence = fenced_by link_config p old new opposite (left (1 - p)) (now (1 - p)) (suc (now p)) (left p) new.action (omega arith) fenced;
        loads = loads_by link_config p old new opposite (left (1 - p)) (now (1 - p)) new.action is.loads is.receives is.view (omega arith);
      } np nq;
      sound = record {
        left = pick p p2 (λ q. left q ≤ next q) own_most most;
        view = pick p p2 (λ q. (pasts q (next q)).view ≤ left (1 - q)) (subst (λ n. (pasts p n).view ≤ left (1 - p)) (sym np) (omega arith))
            (subst (λ n. (pasts (1 - p) n).view ≤ left (1 - (1 - p))) (sym nq) (subst (λ q. (pasts (1 - p) (now (1 - p))).view ≤ left q) (sym back) (omega arith)));
        fence = pick p p2 (λ q. (pasts q (next q)).fenced ≤ left q) (subst (λ n. (pasts p n).fenced ≤ left p) (sym np) mine)
            (subst (λ n. (pasts (1 - p) n).fenced ≤ left (1 - p)) (sym nq) (omega arith));
      };
    }

pub store_buffer_runs_are_weak : StoreBufferRunsAreWeak
store_buffer_runs_are_weak link_config pasts now out run = (buffered link_config pasts now out run).run
