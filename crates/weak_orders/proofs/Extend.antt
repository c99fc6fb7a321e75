-- A weak run may be extended by one action.
use Rattle.std.proofs.Common.{◌≡◌, ◌≢◌, ℕ, suc, ◌-◌, ◌<◌, ◌≤◌, inl, inr, Bool, true, false, refl, sym, ap, ◌∙◌, subst, arith, eq-eqb, ne_eqb}
use mathlib.Core.Logic.{dite}
use native.Mathlib.Decide.{ℕ_discrete, dec_lt}
use Rattle.std.specs.Prelude.{◌==◌, ◌&&◌, if◌then◌else◌}
use Rattle.split_ring.specs.declared.steps.Access.{Access}
use Rattle.split_ring.specs.declared.steps.Access.TheVariants as access
use Rattle.call_grammar.specs.Ends.{end_after}
use Rattle.call_grammar.specs.Places.{Place, Closed, access_at, next_place, step_at, is_open}
use Rattle.call_grammar.proofs.OfferLists.{yes, no}
use Rattle.link_invariant.specs.LinkConfig.{LinkConfig, config_of}
use Rattle.weak_orders.specs.Orders.{owes}
use Rattle.link_invariant.specs.Steps.{MemoryAfter}
use Rattle.weak_orders.specs.Memory.{Moment, Action, Starts, Begins, Takes, Fences, Receives, Resets, Does, Knows, Gives, Loads, LoadsBy, FencedBy, StoresTo, access_of, is_release, seen}
use Rattle.weak_orders.specs.Runs.{WeakRuns, starts, goes, IsFirst}
use Rattle.weak_orders.specs.Stronger.{ComesTo, LoadsMayBeStale}
use Rattle.weak_orders.proofs.RunsKeepInvariant.{pick}

-- A run depends on its moments up to the last ones alone.

module _ (link_config : LinkConfig) (p : ℕ) (old new : Moment) (base : ℕ) (opposite opposite' : ℕ → Moment) (now : ℕ) (same : (k : ℕ) → k ≤ now → opposite' k ≡ opposite k) where
  gives_same : (word value : ℕ) → base ≤ now → Gives link_config p old new base opposite now word value → Gives link_config p old new base opposite' now word value
  gives_same word value le (inl gave) = inl (subst (λ (m : Moment). value ≡ seen link_config p old.words m.words word) (sym (same base le)) gave)
  gives_same word value le (inr s) = let k = s.0 in let lt = s.2 in let e = sym (same k (omega arith)) in let f = sym (same (suc k) (omega arith)) in inr (
    k,
    s.1,
    s.2,
    subst (λ (m : Moment). StoresTo (1 - p) (access_of link_config (1 - p) m.place (opposite' (suc k)).action) word) e (subst (λ (m : Moment). StoresTo (1 - p) (access_of link_config (1 - p) (opposite k).place m.action) word) f s.3),
    subst (λ (m : Moment). value ≡ seen link_config p old.words m.words word) f s.4,
    λ a. λ r. s.5 a (subst (λ (m : Moment). is_release m.place (opposite (suc k)).action ≡ true) (same k (omega arith)) (subst (λ (m : Moment). is_release (opposite' k).place m.action ≡ true) (same (suc k) (omega arith)) r)),
  )

  loads_same' : (value : ℕ) (a : Access) → base ≤ now → LoadsBy link_config p old new base opposite now value a → LoadsBy link_config p old new base opposite' now value a
  loads_same' value (access.Read word) le l = gives_same word value le l
  loads_same' value (access.Write at n) le l = tt
  loads_same' value (access.State state) le l = tt
  loads_same' value (access.Ring target vector) le l = tt
  loads_same' value access.Nothing le l = tt

  loads_same : (action : Action) → base ≤ now → Loads link_config p old new base opposite now action → Loads link_config p old new base opposite' now action
  loads_same Starts le l = tt
  loads_same (Begins call) le l = tt
  loads_same (Takes value) le l = loads_same' value (access_at (config_of link_config p) old.place) le l
  loads_same Fences le l = tt
  loads_same (Receives k) le l = let lt = l.0 in let e = same k (omega arith) in let f = same (suc k) (omega arith) in (
    l.0,
    (
      subst (λ (m : Moment). access_of link_config (1 - p) m.place (opposite' (suc k)).action ≡ access.Ring p link_config.vector) (sym e) (subst (λ (m : Moment). access_of link_config (1 - p) (opposite k).place m.action ≡ access.Ring p link_config.vector) (sym f) l.1.0),
      λ r. l.1.1 (subst (λ (m : Moment). is_release m.place (opposite (suc k)).action ≡ true) e (subst (λ (m : Moment). is_release (opposite' k).place m.action ≡ true) f r)),
    ),
  )
  loads_same Resets le l = tt

  fenced_same : (at : ℕ) (action : Action) → FencedBy old new at opposite now action → FencedBy old new at opposite' now action
  fenced_same at Starts f = f
  fenced_same at (Begins call) f = f
  fenced_same at (Takes value) f = f
  fenced_same at Fences f = (subst (λ (m : Moment). m.fenced ≤ new.view) (sym (same now (omega arith))) f.0, f.1)
  fenced_same at (Receives k) f = f
  fenced_same at Resets f = f

knows_same : (link_config : LinkConfig) (p : ℕ) (old new : Moment) (at : ℕ) (opposite opposite' : ℕ → Moment) (now : ℕ) → ((k : ℕ) → k ≤ now → opposite' k ≡ opposite k) → Knows link_config p old new at opposite now → Knows link_config p old new at opposite' now
knows_same link_config p old new at opposite opposite' now same k = let keeps = k.keeps in let known = k.known in record {
  base = k.base;
  rises = k.rises;
  keeps = k.keeps;
  known = k.known;
  fence = fenced_same link_config p old new k.base opposite opposite' now same at new.action k.fence;
  loads = loads_same link_config p old new k.base opposite opposite' now same new.action (omega arith) k.loads;
}

-- The same moments up to the last ones of both ends, and the same functions at numbers from 2 on.
record Same (pasts pasts' : ℕ → ℕ → Moment) (now : ℕ → ℕ) : Type 0 where
  ends : (q : ℕ) → q < 2 → (k : ℕ) → k ≤ now q → pasts' q k ≡ pasts q k
  none : (q : ℕ) → 2 ≤ q → (k : ℕ) → pasts' q k ≡ pasts q k

runs_same : (link_config : LinkConfig) (pasts pasts' : ℕ → ℕ → Moment) (now : ℕ → ℕ) → WeakRuns link_config pasts now → Same pasts pasts' now → WeakRuns link_config pasts' now
runs_same link_config pasts pasts' _ (starts now zeros first) same = starts now zeros
    (λ q. dite (dec_lt q 2) (λ lt. let z = zeros q in subst (λ (m : Moment). IsFirst m) (sym (same.ends q lt 0 (omega arith))) (first q)) (λ ge. subst (λ (m : Moment). IsFirst m) (sym (same.none q (omega arith) 0)) (first q)))
runs_same link_config pasts pasts' _ (goes now next p run p2 does knows np nq) same =
    let o2 : 1 - p < 2 = omega arith in let n = now p in let e = same.ends p p2 n (omega arith) in let f = same.ends p p2 (suc n) (omega arith) in
    goes now next p (runs_same link_config pasts pasts' now run record {
      ends = pick p p2 (λ q. (k : ℕ) → k ≤ now q → pasts' q k ≡ pasts q k) (λ k le. same.ends p p2 k (omega arith)) (λ k le. same.ends (1 - p) o2 k (omega arith));
      none = same.none;
    }) p2
    (subst (λ (m : Moment). Does link_config p m (pasts' p (suc n)) (pasts' p (suc n)).action) (sym e) (subst (λ (m : Moment). Does link_config p (pasts p n) m m.action) (sym f) does))
    (knows_same link_config p (pasts' p n) (pasts' p (suc n)) (suc n) (pasts (1 - p)) (pasts' (1 - p)) (now (1 - p)) (λ k le. same.ends (1 - p) o2 k (omega arith))
    (subst (λ (m : Moment). Knows link_config p m (pasts' p (suc n)) (suc n) (pasts (1 - p)) (now (1 - p))) (sym e) (subst (λ (m : Moment). Knows link_config p (pasts p n) m (suc n) (pasts (1 - p)) (now (1 - p))) (sym f) knows)))
    np nq

-- One more moment

both_true : (a b : Bool) → a ≡ true → b ≡ true → (a && b) ≡ true
both_true true b e f = f
both_true false b e f = absurd (cc)

left_false : (a b : Bool) → a ≡ false → (a && b) ≡ false
left_false true b e = absurd (cc)
left_false false b e = refl

right_false : (a b : Bool) → b ≡ false → (a && b) ≡ false
right_false true b e = e
right_false false b e = refl

appended : (ℕ → ℕ → Moment) → (p n : ℕ) → Moment → ℕ → ℕ → Moment
appended pasts p n m q k = if (q == p) && (k == n) then m else pasts q k

at_new : (pasts : ℕ → ℕ → Moment) (p n : ℕ) (m : Moment) → appended pasts p n m p n ≡ m
unfolding appended
at_new pasts p n m = yes ((p == p) && (n == n)) m (pasts p n) (both_true (p == p) (n == n) (eq-eqb p p refl) (eq-eqb n n refl))

other_end : (pasts : ℕ → ℕ → Moment) (p n : ℕ) (m : Moment) (q k : ℕ) → q ≢ p → appended pasts p n m q k ≡ pasts q k
unfolding appended
other_end pasts p n m q k ne = no ((q == p) && (k == n)) m (pasts q k) (left_false (q == p) (k == n) (ne_eqb q p ne))

other_time : (pasts : ℕ → ℕ → Moment) (p n : ℕ) (m : Moment) (q k : ℕ) → k ≢ n → appended pasts p n m q k ≡ pasts q k
unfolding appended
other_time pasts p n m q k ne = no ((q == p) && (k == n)) m (pasts q k) (right_false (q == p) (k == n) (ne_eqb k n ne))

one_more : (ℕ → ℕ) → ℕ → ℕ → ℕ
one_more now p q = if q == p then suc (now p) else now q

more_here : (now : ℕ → ℕ) (p : ℕ) → one_more now p p ≡ suc (now p)
unfolding one_more
more_here now p = yes (p == p) (suc (now p)) (now p) (eq-eqb p p refl)

more_there : (now : ℕ → ℕ) (p q : ℕ) → q ≢ p → one_more now p q ≡ now q
unfolding one_more
more_there now p q ne = no (q == p) (suc (now p)) (now q) (ne_eqb q p ne)

-- The run after one more action of end p: all earlier moments stay.
pub record Further (link_config : LinkConfig) (pasts : ℕ → ℕ → Moment) (now : ℕ → ℕ) (p : ℕ) (new : Moment) : Type 0 where
  pub after : ℕ → ℕ → Moment
  pub last : ℕ → ℕ
  pub run : WeakRuns link_config after last
  pub keeps : (q : ℕ) → q < 2 → (k : ℕ) → k ≤ now q → after q k ≡ pasts q k
  pub grows : (q : ℕ) → q < 2 → (k : ℕ) → k ≤ now q → k ≤ last q
  pub adds : after p (suc (now p)) ≡ new
  pub mine : last p ≡ suc (now p)
  pub opposite : last (1 - p) ≡ now (1 - p)

pub further : (link_config : LinkConfig) (pasts : ℕ → ℕ → Moment) (now : ℕ → ℕ) (p : ℕ) (old new : Moment) → WeakRuns link_config pasts now → p < 2 → pasts p (now p) ≡ old → Does link_config p old new new.action →
    Knows link_config p old new (suc (now p)) (pasts (1 - p)) (now (1 - p)) → Further link_config pasts now p new
further link_config pasts now p old new run p2 at does knows =
    let n = now p in let pasts' = appended pasts p (suc n) new in let ne : 1 - p ≢ p = λ e. omega arith in
    let there = λ (k : ℕ). other_end pasts p (suc n) new (1 - p) k ne in
    let e : pasts' p n ≡ old = other_time pasts p (suc n) new p n (λ e. omega arith) ∙ at in
    let f : pasts' p (suc n) ≡ new = at_new pasts p (suc n) new in
    let keeps : (q : ℕ) → q < 2 → (k : ℕ) → k ≤ now q → pasts' q k ≡ pasts q k =
    λ q q2 k le. dite (ℕ_discrete q p) (λ e. let g = ap now e in other_time pasts p (suc n) new q k (λ e. omega arith)) (λ ne. other_end pasts p (suc n) new q k ne) in
    let past = runs_same link_config pasts pasts' now run record { ends = keeps; none = λ q q2 k. other_end pasts p (suc n) new q k (λ e. omega arith) } in record {
      after = pasts';
      last = one_more now p;
      run = goes now (one_more now p) p past p2
          (subst (λ (m : Moment). Does link_config p m (pasts' p (suc n)) (pasts' p (suc n)).action) (sym e) (subst (λ (m : Moment). Does link_config p old m m.action) (sym f) does))
          (knows_same link_config p (pasts' p n) (pasts' p (suc n)) (suc n) (pasts (1 - p)) (pasts' (1 - p)) (now (1 - p)) (λ k le. there k)
          (subst (λ (m : Moment). Knows link_config p m (pasts' p (suc n)) (suc n) (pasts (1 - p)) (now (1 - p))) (sym e) (subst (λ (m : Moment). Knows link_config p old m (suc n) (pasts (1 - p)) (now (1 - p))) (sym f) knows)))
          (more_here now p) (more_there now p (1 - p) ne);
      keeps = keeps;
      grows = pick p p2 (λ q. (k : ℕ) → k ≤ now q → k ≤ one_more now p q) (λ k le. let m = more_here now p in omega arith) (λ k le. let m = more_there now p (1 - p) ne in omega arith);
      adds = f;
      mine = more_here now p;
      opposite = more_there now p (1 - p) ne;
    }

pub go_on : (link_config : LinkConfig) (pasts : ℕ → ℕ → Moment) (now : ℕ → ℕ) (p : ℕ) (new : Moment) → WeakRuns link_config pasts now → p < 2 → Does link_config p (pasts p (now p)) new new.action →
    Knows link_config p (pasts p (now p)) new (suc (now p)) (pasts (1 - p)) (now (1 - p)) → ComesTo link_config p new (pasts (1 - p) (now (1 - p)))
go_on link_config pasts now p new run p2 does knows = let f = further link_config pasts now p (pasts p (now p)) new run p2 refl does knows in record {
  pasts = f.after;
  now = f.last;
  run = f.run;
  here = ap (f.after p) f.mine ∙ f.adds;
  there = ap (f.after (1 - p)) f.opposite ∙ f.keeps (1 - p) (omega arith) (now (1 - p)) (omega arith);
}

-- A load from an earlier moment

stale_moment : LinkConfig → ℕ → Moment → (i value : ℕ) → Moment
stale_moment link_config p m i value = let config = config_of link_config p in record {
  action = Takes value;
  words = m.words;
  end = end_after m.end (step_at config m.place value);
  place = next_place config m.place value;
  view = i;
  fenced = m.fenced;
  owed = owes m.place (next_place config m.place value);
}

loads_at : (link_config : LinkConfig) (p : ℕ) (old new : Moment) (base : ℕ) (opposite : ℕ → Moment) (now value word : ℕ) (a : Access) → a ≡ access.Read word → value ≡ seen link_config p old.words (opposite base).words word → LoadsBy link_config p old new base opposite now value a
loads_at link_config p old new base opposite now value word a e gave = subst (LoadsBy link_config p old new base opposite now value) (sym e) (inl gave)

left_at : (p : ℕ) (words : ℕ → ℕ) (word : ℕ) (a : Access) → a ≡ access.Read word → MemoryAfter p words a words
left_at p words word a e = subst (λ (k : Access). MemoryAfter p words k words) (sym e) refl

open_at : (link_config : LinkConfig) (p word : ℕ) (place : Place) → access_at (config_of link_config p) place ≡ access.Read word → is_open place ≡ true
open_at link_config p word Closed e = absurd (cc)
open_at link_config p word place e = refl

pub loads_may_be_stale : LoadsMayBeStale
unfolding stale_moment
loads_may_be_stale link_config pasts now p i word is run p2 free reads from to = let m = pasts p (now p) in let value = seen link_config p m.words (pasts (1 - p) i).words word in let new = stale_moment link_config p m i value in (
  new,
  refl,
  go_on link_config pasts now p new run p2 (open_at link_config p word m.place reads, left_at p m.words word (access_at (config_of link_config p) m.place) reads, refl, refl, free, refl) record {
    base = i;
    rises = from;
    keeps = omega arith;
    known = to;
    fence = refl;
    loads = loads_at link_config p m new i (pasts (1 - p)) (now (1 - p)) value word (access_at (config_of link_config p) m.place) reads refl;
  },
)
