-- Each run over sequentially consistent memory is a weak run. A load gives the newest word, and an
-- end makes each full fence that it owes.
use Rattle.std.proofs.Common.{◌≡◌, ◌≢◌, ℕ, suc, ◌+◌, ◌-◌, ◌<◌, inl, inr, Bool, true, false, refl, sym, ap, ◌∙◌, subst, arith}
use Rattle.std.specs.Prelude.{◌==◌, if◌then◌else◌}
use Rattle.split_ring.specs.declared.steps.Access.{Access}
use Rattle.split_ring.specs.declared.steps.Access.TheVariants as access
use Rattle.call_grammar.specs.Ends.{End, fresh, after_reset, end_after}
use Rattle.call_grammar.specs.Calls.{Call}
use Rattle.call_grammar.specs.Permitted.{IsPermittedAccess, MayRead}
use Rattle.call_grammar.specs.Places.{Place, Closed, first_place, access_at, next_place, step_at, is_open}
use Rattle.link_invariant.specs.LinkConfig.{LinkConfig, IsLinkConfig, config_of, section_of}
use Rattle.link_invariant.specs.Steps.{IsUntouched, ReadsMemory, MemoryAfter, BeginsCall, TakesStep, IsReset}
use Rattle.link_invariant.specs.Runs as seq
use Rattle.link_invariant.specs.Runs.{HonestRuns}
use Rattle.link_invariant.proofs.PairKept.{untouched, by_state}
use Rattle.link_invariant.proofs.RunsKept.{runs_keep_invariant}
use Rattle.weak_orders.specs.Memory.{Moment, Starts, Begins, Takes, Fences, Resets, Does, Knows, Loads, LoadsBy, FencedBy, is_own, seen}
use Rattle.weak_orders.specs.Orders.{owes}
use Rattle.weak_orders.specs.Runs.{WeakRuns, starts, IsFirst}
use Rattle.weak_orders.specs.Stronger.{ComesTo, IsMomentOf, HasWeakRun, SequentialRunsAreWeak}
use Rattle.weak_orders.proofs.Cuts.{own_test, owns_section, own_stays, their_state, their_word, after_of, put, left_so, one_put, own_after}
use Rattle.weak_orders.proofs.RunsKeepInvariant.{weak_runs_are_held, pick}
use Rattle.weak_orders.proofs.OneEnd.{end_is_safe, permitted_at, alone_of}
use Rattle.weak_orders.proofs.Extend.{go_on}

module _ (link_config : LinkConfig) (is : IsLinkConfig link_config) where
  -- A load from the other's last moment.
  pub newest : (pasts : ℕ → ℕ → Moment) (now : ℕ → ℕ) (p : ℕ) (new : Moment) → WeakRuns link_config pasts now → p < 2 → new.view ≡ now (1 - p) →
      FencedBy (pasts p (now p)) new (suc (now p)) (pasts (1 - p)) (now (1 - p)) new.action → Loads link_config p (pasts p (now p)) new (now (1 - p)) (pasts (1 - p)) (now (1 - p)) new.action →
      Knows link_config p (pasts p (now p)) new (suc (now p)) (pasts (1 - p)) (now (1 - p))
  newest pasts now p new run p2 view fence loads = let h = (weak_runs_are_held link_config pasts now is run).views p p2 (now p) (omega arith) in
      record { base = now (1 - p); rises = h; keeps = omega arith; known = omega arith; fence = fence; loads = loads }

  -- The extended run leads to these two ends.
  module _ (memory memory' : ℕ → ℕ) (ends ends' : ℕ → End) (places places' : ℕ → Place) (p : ℕ) (p2 : p < 2) (w : HasWeakRun link_config memory ends places) (new : Moment) where
    abbrev Mine : Moment
    Mine = w.pasts p (w.now p)

    abbrev Theirs : Moment
    Theirs = w.pasts (1 - p) (w.now (1 - p))

    went : ComesTo link_config p new Theirs → IsMomentOf link_config memory' p (ends' p) (places' p) new → IsMomentOf link_config memory' (1 - p) (ends' (1 - p)) (places' (1 - p)) Theirs → HasWeakRun link_config memory' ends' places'
    went g mine opposite = record {
      pasts = g.pasts;
      now = g.now;
      run = g.run;
      are = pick p p2 (λ q. IsMomentOf link_config memory' q (ends' q) (places' q) (g.pasts q (g.now q)))
          (subst (IsMomentOf link_config memory' p (ends' p) (places' p)) (sym g.here) mine)
          (subst (IsMomentOf link_config memory' (1 - p) (ends' (1 - p)) (places' (1 - p))) (sym g.there) opposite);
    }

    goes_so : Does link_config p Mine new new.action → new.view ≡ w.now (1 - p) → FencedBy Mine new (suc (w.now p)) (w.pasts (1 - p)) (w.now (1 - p)) new.action →
        Loads link_config p Mine new (w.now (1 - p)) (w.pasts (1 - p)) (w.now (1 - p)) new.action → ComesTo link_config p new Theirs
    goes_so does view fence loads = go_on link_config w.pasts w.now p new w.run p2 does (newest w.pasts w.now p new w.run p2 view fence loads)

  -- An end that owes a fence makes it.
  record Free (memory : ℕ → ℕ) (ends : ℕ → End) (places : ℕ → Place) (p : ℕ) : Type 0 where
    weak : HasWeakRun link_config memory ends places
    free : (weak.pasts p (weak.now p)).owed ≡ false

  module _ (memory : ℕ → ℕ) (ends : ℕ → End) (places : ℕ → Place) (p : ℕ) (p2 : p < 2) (w : HasWeakRun link_config memory ends places) where
    fence_moment : Moment
    fence_moment = let m = w.pasts p (w.now p) in record { action = Fences; words = m.words; end = m.end; place = m.place; view = w.now (1 - p); fenced = suc (w.now p); owed = false }

    fences : ComesTo link_config p fence_moment (w.pasts (1 - p) (w.now (1 - p)))
    unfolding fence_moment
    fences = let n = (weak_runs_are_held link_config w.pasts w.now is w.run).near (1 - p) (omega arith) (w.now (1 - p)) (omega arith) in
        goes_so memory memory ends ends places places p p2 w fence_moment (refl, refl, refl, refl) refl (n, refl) tt

    freed : Free memory ends places p
    unfolding fence_moment went fences
    freed = by_owed (w.pasts p (w.now p)).owed refl
      where
        is_free : fence_moment.owed ≡ false
        is_free = refl

        fenced : IsMomentOf link_config memory p (ends p) (places p) fence_moment
        fenced = let a = w.are p p2 in record { end_is = a.end_is; place_is = a.place_is; words = a.words }

        by_owed : (b : Bool) → (w.pasts p (w.now p)).owed ≡ b → Free memory ends places p
        by_owed false e = record { weak = w; free = e }
        by_owed true e = let g = fences in record {
          weak = went memory memory ends ends places places p p2 w fence_moment g fenced (w.are (1 - p) (omega arith));
          free = ap (λ (m : Moment). m.owed) g.here ∙ is_free;
        }

  -- The words of the other that an end finds are those of memory.
  module _ (memory : ℕ → ℕ) (p : ℕ) (p2 : p < 2) (old new : Moment) (opposite : ℕ → Moment) (now value : ℕ) (b : (w : ℕ) → is_own link_config (1 - p) w ≡ true → (opposite now).words w ≡ memory w) where
    sees : (word : ℕ) → MayRead (config_of link_config p) word → seen link_config p old.words (opposite now).words word ≡ memory word
    sees word (inl e) = let o2 : 1 - p < 2 = omega arith in let n = (opposite now).words in
        ap (seen link_config p old.words n) e ∙ (their_state link_config is p p2 old.words n ∙ (b (1 - p) (own_test link_config is (1 - p) o2 n n (1 - p) refl) ∙ ap memory (sym e)))
    sees word (inr h) = let o2 : 1 - p < 2 = omega arith in let n = (opposite now).words in let low = h.0 in let high = h.1 in let s = section_of link_config (1 - p) in let j = word - s in
        let e : word ≡ s + j = omega arith in let lt : j < link_config.words = omega arith in
        ap (seen link_config p old.words n) e ∙ (their_word link_config is p p2 old.words n j lt ∙ (b (s + j) (owns_section link_config is (1 - p) o2 n n (s + j) j refl lt) ∙ ap memory (sym e)))

    loads_newest : (a : Access) → ReadsMemory memory a value → IsPermittedAccess (config_of link_config p) a → LoadsBy link_config p old new now opposite now value a
    loads_newest (access.Read word) met may = inl (met ∙ sym (sees word may))
    loads_newest (access.Write at n) met may = tt
    loads_newest (access.State state) met may = tt
    loads_newest (access.Ring target vector) met may = tt
    loads_newest access.Nothing met may = tt

  -- The other end stays.
  other_same : (memory memory' : ℕ → ℕ) (ends ends' : ℕ → End) (places places' : ℕ → Place) (q : ℕ) (m : Moment) → ends' q ≡ ends q → places' q ≡ places q → IsUntouched link_config memory memory' q → IsMomentOf link_config memory q (ends q) (places q) m → IsMomentOf link_config memory' q (ends' q) (places' q) m
  other_same memory memory' ends ends' places places' q m e f keep a = record { end_is = a.end_is ∙ sym e; place_is = a.place_is ∙ sym f; words = λ w own. a.words w own ∙ sym (own_stays link_config memory memory' q w keep own) }

  module _ (memory memory' : ℕ → ℕ) (ends ends' : ℕ → End) (places places' : ℕ → Place) (p : ℕ) (p2 : p < 2) where
    -- A call begins.
    call_moment : HasWeakRun link_config memory ends places → Call → Moment
    call_moment w call = let m = w.pasts p (w.now p) in
        record { action = Begins call; words = m.words; end = m.end; place = first_place (config_of link_config p) m.end call; view = w.now (1 - p); fenced = m.fenced; owed = m.owed }

    begun : (w : HasWeakRun link_config memory ends places) (call : Call) → BeginsCall link_config ends ends' places places' p call → HasWeakRun link_config memory ends' places'
    unfolding call_moment
    begun w call b = let a = w.are p p2 in let ne : 1 - p ≢ p = λ e. omega arith in
        went memory memory ends ends' places places' p p2 w (call_moment w call)
        (goes_so memory memory ends ends' places places' p p2 w (call_moment w call) (b.given, a.place_is ∙ b.closed, refl, refl, refl, refl) refl refl tt)
        record {
          end_is = a.end_is ∙ sym b.comes.end_is;
          place_is = ap (λ (e : End). first_place (config_of link_config p) e call) a.end_is ∙ sym b.comes.place_is;
          words = a.words;
        }
        (let t = w.are (1 - p) (omega arith) in record { end_is = t.end_is ∙ sym (b.comes.ends_stay (1 - p) ne); place_is = t.place_is ∙ sym (b.comes.places_stay (1 - p) ne); words = t.words })

    -- A step.
    step_moment : HasWeakRun link_config memory ends places → ℕ → Moment
    step_moment w value = let m = w.pasts p (w.now p) in let config = config_of link_config p in record {
      action = Takes value;
      words = after_of p m.words (access_at config m.place);
      end = end_after m.end (step_at config m.place value);
      place = next_place config m.place value;
      view = w.now (1 - p);
      fenced = m.fenced;
      owed = owes m.place (next_place config m.place value);
    }

    stepped : (w : HasWeakRun link_config memory ends places) (value : ℕ) → (w.pasts p (w.now p)).owed ≡ false → IsUntouched link_config memory memory' (1 - p) → TakesStep link_config memory memory' ends ends' places places' p value → HasWeakRun link_config memory' ends' places'
    unfolding step_moment
    stepped w value free keep s = let m = w.pasts p (w.now p) in let config = config_of link_config p in let a = w.are p p2 in let ne : 1 - p ≢ p = λ e. omega arith in let opposite = w.are (1 - p) (omega arith) in
        let back = sym a.place_is in
        let opened = subst (λ (k : Place). is_open k ≡ true) back s.opened in
        let met = subst (λ (k : Place). ReadsMemory memory (access_at config k) value) back s.meets in
        let left = subst (λ (k : Place). MemoryAfter p memory (access_at config k) memory') back s.leaves in
        let alone = end_is_safe link_config is p p2 (w.pasts p) (w.now p) (alone_of link_config w.pasts w.now is w.run p p2) (w.now p) (omega arith) in
        went memory memory' ends ends' places places' p p2 w (step_moment w value)
        (goes_so memory memory' ends ends' places places' p p2 w (step_moment w value) (opened, left_so p m.words (access_at config m.place), refl, refl, free, refl) refl refl
        (loads_newest memory p p2 m (step_moment w value) (w.pasts (1 - p)) (w.now (1 - p)) value opposite.words (access_at config m.place) met (permitted_at link_config is p p2 m.place alone.1)))
        record {
          end_is = ap (λ (e : End). end_after e (step_at config m.place value)) a.end_is ∙ (ap (λ (k : Place). end_after (ends p) (step_at config k value)) a.place_is ∙ sym s.comes.end_is);
          place_is = ap (λ (k : Place). next_place config k value) a.place_is ∙ sym s.comes.place_is;
          words = λ v own. sym (own_after p memory memory' m.words (access_at config m.place) v left (a.words v own));
        }
        (other_same memory memory' ends ends' places places' (1 - p) (w.pasts (1 - p) (w.now (1 - p))) (s.comes.ends_stay (1 - p) ne) (s.comes.places_stay (1 - p) ne) keep opposite)

    -- A reset.
    reset_moment : HasWeakRun link_config memory ends places → Moment
    reset_moment w = let m = w.pasts p (w.now p) in
        record { action = Resets; words = λ v. if v == p then 0 else m.words v; end = after_reset m.end; place = Closed; view = w.now (1 - p); fenced = m.fenced; owed = true }

    was_reset : (w : HasWeakRun link_config memory ends places) → IsUntouched link_config memory memory' (1 - p) → IsReset memory memory' ends ends' places places' p → HasWeakRun link_config memory' ends' places'
    unfolding reset_moment
    was_reset w keep r = let m = w.pasts p (w.now p) in let a = w.are p p2 in let ne : 1 - p ≢ p = λ e. omega arith in
        went memory memory' ends ends' places places' p p2 w (reset_moment w)
        (goes_so memory memory' ends ends' places places' p p2 w (reset_moment w) (put m.words p 0, refl, refl, refl) refl refl tt)
        record {
          end_is = ap after_reset a.end_is ∙ sym r.comes.end_is;
          place_is = sym r.comes.place_is;
          words = λ v own. sym (one_put memory memory' m.words p 0 v r.stored (a.words v own));
        }
        (other_same memory memory' ends ends' places places' (1 - p) (w.pasts (1 - p) (w.now (1 - p))) (r.comes.ends_stay (1 - p) ne) (r.comes.places_stay (1 - p) ne) keep (w.are (1 - p) (omega arith)))

-- The start

first_moment : Moment
first_moment = record { action = Starts; words = λ w. 0; end = fresh; place = Closed; view = 0; fenced = 0; owed = false }

first_is : IsFirst first_moment
unfolding first_moment
first_is = record { words = λ w. refl; end = refl; place = refl; view = refl; fenced = refl; owed = refl }

started : (link_config : LinkConfig) (memory : ℕ → ℕ) (ends : ℕ → End) (places : ℕ → Place) → ((w : ℕ) → memory w ≡ 0) → ((p : ℕ) → ends p ≡ fresh) → ((p : ℕ) → places p ≡ Closed) → HasWeakRun link_config memory ends places
started link_config memory ends places none new closed = let f = first_is in record {
  pasts = λ q k. first_moment;
  now = λ q. 0;
  run = starts (λ q. 0) (λ q. refl) (λ q. first_is);
  are = λ p p2. record { end_is = f.end ∙ sym (new p); place_is = f.place ∙ sym (closed p); words = λ w own. f.words w ∙ sym (none w) };
}

pub sequential_runs_are_weak : SequentialRunsAreWeak
sequential_runs_are_weak link_config _ _ _ is (seq.starts memory ends places none new closed) = started link_config memory ends places none new closed
sequential_runs_are_weak link_config _ _ _ is (seq.begins memory ends after_ends places after_places p call run p2 hp b) =
    begun link_config is memory memory ends after_ends places after_places p p2 (sequential_runs_are_weak link_config memory ends places is run) call b
sequential_runs_are_weak link_config _ _ _ is (seq.steps memory after ends after_ends places after_places p value run p2 hp s) =
    let f = freed link_config is memory ends places p p2 (sequential_runs_are_weak link_config memory ends places is run) in
    let alone = (runs_keep_invariant link_config (λ p. true) memory ends places is run).alone p p2 refl in
    stepped link_config is memory after ends after_ends places after_places p p2 f.weak value f.free (untouched link_config is p p2 memory after (ends p) (places p) alone s.leaves) s
sequential_runs_are_weak link_config _ _ _ is (seq.resets memory after ends after_ends places after_places p run p2 hp r) =
    let alone = (runs_keep_invariant link_config (λ p. true) memory ends places is run).alone p p2 refl in
    was_reset link_config is memory after ends after_ends places after_places p p2 (sequential_runs_are_weak link_config memory ends places is run) (by_state link_config is p p2 memory after (ends p) 0 r.stored) r
sequential_runs_are_weak link_config _ _ _ is (seq.others memory after ends places run keep) = let w = sequential_runs_are_weak link_config memory ends places is run in record {
  pasts = w.pasts;
  now = w.now;
  run = w.run;
  are = λ p p2. other_same link_config is memory after ends ends places places p (w.pasts p (w.now p)) refl refl (keep p p2 refl) (w.are p p2);
}
