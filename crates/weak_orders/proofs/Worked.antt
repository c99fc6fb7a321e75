-- The worked run: two ends in RUN make a full fence each. Then end 0 takes the worked actions, and
-- after it end 1. The view of each end stays where its fence left it.
use Rattle.std.proofs.lemmas.List.Elements.{All-nil, All-cons}
use Rattle.std.proofs.Common.{◌≡◌, ℕ, zero, suc, ◌+◌, ◌-◌, ◌<◌, ◌≤◌, true, false, List, [], ◌∷◌, length, refl, sym, ap, ◌∙◌, subst, arith, eq-eqb}
use Rattle.std.specs.Prelude.{◌==◌, if◌then◌else◌, replicate, All}
use Rattle.link_handshake.specs.declared.Phase.TheVariants.{Run}
use Rattle.split_ring.specs.Layout.{queue_size, slots_of, limit_of}
use Rattle.split_ring.specs.Frames.{start_of, has_room}
use Rattle.call_grammar.specs.Places.{Place, Closed, ReadingAvailIndex, access_at}
use Rattle.call_grammar.proofs.OfferLists.{yes}
use Rattle.link_invariant.specs.LinkConfig.{config_of, section_of}
use Rattle.link_invariant.specs.Steps.{ReadsMemory}
use Rattle.weak_orders.specs.Memory.{Moment, Action, Starts, Begins, Takes, Fences, Receives, Resets, is_own, seen}
use Rattle.weak_orders.specs.Runs.{WeakRuns}
use Rattle.weak_orders.specs.Worked.{worked_config, worked_actions, Acts, LoadsNewest, SequentialOrder, starts, goes, IsStale, BothLooksMayBeStale}
use Rattle.weak_orders.proofs.Cuts.{after_of, their_word}
use Rattle.weak_orders.proofs.RunsKeepInvariant.{weak_runs_are_held, pick}
use Rattle.weak_orders.proofs.Extend.{Further, further}
use Rattle.weak_orders.proofs.Sequential.{newest, sequential_runs_are_weak}
use Rattle.weak_orders.proofs.HandshakeRun.{worked_is, idle, EndsAt, run_run, all_closed, both_run}
use Rattle.weak_orders.proofs.RunExtensions.{after_action, CanAct, CanActs, HasMoments, plays}

-- The moments that an end has reached.

head : (p : ℕ) (past : ℕ → Moment) (from : ℕ) (m : Moment) (actions : List Action) → HasMoments worked_config p past from m actions → past from ≡ m
head p past from m [] h = h
head p past from m (action ∷ actions) h = h.0

action_is : (p : ℕ) (words : ℕ → ℕ) (m : Moment) (action : Action) → CanAct worked_config p words m action → (after_action worked_config p m action).action ≡ action
action_is p words m Starts can = absurd can
action_is p words m (Begins call) can = refl
action_is p words m (Takes value) can = refl
action_is p words m Fences can = absurd can
action_is p words m (Receives k) can = absurd can
action_is p words m Resets can = absurd can

acts_of : (p : ℕ) (words : ℕ → ℕ) (past : ℕ → Moment) (actions : List Action) (from : ℕ) (m : Moment) → CanActs worked_config p words m actions → HasMoments worked_config p past from m actions → Acts past from actions
acts_of p words past [] from m can h = tt
acts_of p words past (action ∷ actions) from m can h =
    let next = after_action worked_config p m action in
    (ap (λ (x : Moment). x.action) (head p past (suc from) next actions h.1) ∙ action_is p words m action can.0, acts_of p words past actions (suc from) next can.1 h.1)

kept : (p : ℕ) (past past' : ℕ → Moment) (actions : List Action) (from : ℕ) (m : Moment) → ((k : ℕ) → k ≤ from + length actions → past' k ≡ past k) → HasMoments worked_config p past from m actions → HasMoments worked_config p past' from m actions
kept p past past' [] from m same h = same from (omega arith) ∙ h
kept p past past' (action ∷ actions) from m same h =
    (same from (omega arith) ∙ h.0, kept p past past' actions (suc from) (after_action worked_config p m action) (λ k le. same k (omega arith)) h.1)

-- The full fence of an end in RUN

abbrev fence_moment : (words written : ℕ → ℕ) (view fenced : ℕ) → Moment
fence_moment words written view fenced = record { action = Fences; words = words; end = idle Run written; place = Closed; view = view; fenced = fenced; owed = false }

fences : (pasts : ℕ → ℕ → Moment) (now : ℕ → ℕ) (p : ℕ) (old : Moment) (written : ℕ → ℕ) → WeakRuns worked_config pasts now → p < 2 → pasts p (now p) ≡ old → old.end ≡ idle Run written → old.place ≡ Closed →
    Further worked_config pasts now p (fence_moment old.words written (now (1 - p)) (suc (now p)))
fences pasts now p old written run p2 at end place =
    let new = fence_moment old.words written (now (1 - p)) (suc (now p)) in let n = (weak_runs_are_held worked_config pasts now worked_is run).near (1 - p) (omega arith) (now (1 - p)) (omega arith) in
    further worked_config pasts now p (pasts p (now p)) new run p2 refl
    (ap (λ (m : Moment). m.words) (sym at), sym end ∙ ap (λ (m : Moment). m.end) (sym at), sym place ∙ ap (λ (m : Moment). m.place) (sym at), refl)
    (newest worked_config worked_is pasts now p new run p2 refl (n, refl) tt)

abbrev below : ℕ → Type 0
below byte = byte < 256

bytes_are : (count : ℕ) → All below (replicate count 1)
bytes_are zero = All-nil below
bytes_are (suc count) = All-cons below 1 (replicate count 1) (omega arith) (bytes_are count)

-- The worked actions of end p after its fence

module _ (p : ℕ) (p2 : p < 2) (words written opposite : ℕ → ℕ) (view fenced : ℕ) where
  abbrev start : Moment
  start = fence_moment words written view fenced

  can : opposite (section_of worked_config (1 - p) + 304) ≡ 0 → opposite (section_of worked_config (1 - p) + 256) ≡ 0 → CanActs worked_config p opposite start worked_actions
  unfolding queue_size slots_of limit_of start_of has_room
  can used avail =
      let zero_at = λ (own : ℕ → ℕ) (j : ℕ) (lt : j < 4096) (e : opposite (section_of worked_config (1 - p) + j) ≡ 0). sym (their_word worked_config worked_is p p2 own opposite j lt ∙ e) in (
        (record { least = omega arith; most = omega arith; bytes = bytes_are 14 }, refl),
        (
          (refl, refl, zero_at _ 304 (omega arith) used),
          (
            (refl, refl, tt),
            (
              (refl, refl, tt),
              (
                (refl, refl, tt),
                (
                  (refl, refl, tt),
                  (
                    (refl, refl, tt),
                    (
                      (refl, refl, tt),
                      (
                        (refl, refl, tt),
                        (
                          (refl, refl, tt),
                          ((refl, refl, tt), ((refl, refl, tt), ((refl, refl, tt), ((tt, refl), ((refl, refl, zero_at _ 256 (omega arith) avail), tt))))),
                        ),
                      ),
                    ),
                  ),
                ),
              ),
            ),
          ),
        ),
      )

  -- The last two moments of the end.
  module _ (past : ℕ → Moment) (from : ℕ) (h : HasMoments worked_config p past from start worked_actions) where
    last_is : IsStale p (past (from + length worked_actions))
    unfolding queue_size slots_of limit_of start_of has_room after_of
    last_is = let at = h.1.1.1.1.1.1.1.1.1.1.1.1.1.1.1 in let e : from + length worked_actions ≡ suc (suc (suc (suc (suc (suc (suc (suc (suc (suc (suc (suc (suc (suc (suc from)))))))))))))) = omega arith in
        let index = section_of worked_config p + 256 in let last = ap past e ∙ at in record {
          accepted = ap (λ (m : Moment). m.end.accepted) last;
          delivered = ap (λ (m : Moment). m.end.delivered) last;
          index = ap (λ (m : Moment). m.words index) last ∙ yes (index == index) 65536 _ (eq-eqb index index refl);
        }

    look_is : (past (from + 14)).place ≡ ReadingAvailIndex 0 true
    unfolding queue_size slots_of limit_of start_of has_room
    look_is = let at = h.1.1.1.1.1.1.1.1.1.1.1.1.1.1.0 in let e : from + 14 ≡ suc (suc (suc (suc (suc (suc (suc (suc (suc (suc (suc (suc (suc (suc from))))))))))))) = omega arith in
        ap (λ k. (past k).place) e ∙ ap (λ (m : Moment). m.place) at

-- No order of the actions is sequentially consistent: the last load of an index finds the frame.

record Ends (pasts : ℕ → ℕ → Moment) (now : ℕ → ℕ) (p : ℕ) : Type 0 where
  before : ℕ
  count : now p ≡ suc before
  look : (pasts p before).place ≡ ReadingAvailIndex 0 true
  action : (pasts p (suc before)).action ≡ Takes 0
  stale : IsStale p (pasts p (now p))

no_word : (word : ℕ) → 0 ≡ word → word ≡ 65536 → ⊥
no_word word e f = omega arith

no_order : (pasts : ℕ → ℕ → Moment) (now : ℕ → ℕ) → ((p : ℕ) → p < 2 → Ends pasts now p) → SequentialOrder worked_config pasts now → ⊥
unfolding queue_size
no_order pasts _ ends (starts now zeros) = let count = (ends 0 (omega arith)).count in let zero' = zeros 0 in omega arith
no_order pasts _ ends (goes now next p order p2 loads np nq) =
    let mine = ends p p2 in let count = mine.count in let o2 : 1 - p < 2 = omega arith in let opposite = ends (1 - p) o2 in let e : now p ≡ mine.before = omega arith in
    let old = pasts p mine.before in let other = pasts (1 - p) (now (1 - p)) in
    let loaded : LoadsNewest worked_config p old other (Takes 0) = subst (λ a. LoadsNewest worked_config p old other a) mine.action (subst (λ k. LoadsNewest worked_config p (pasts p k) other (pasts p (suc k)).action) e loads) in
    let met : 0 ≡ seen worked_config p old.words other.words (section_of worked_config (1 - p) + 256) =
    subst (λ (k : Place). ReadsMemory (seen worked_config p old.words other.words) (access_at (config_of worked_config p) k) 0) mine.look loaded in
    let index = ap (λ k. (pasts (1 - p) k).words (section_of worked_config (1 - p) + 256)) (sym nq) ∙ opposite.stale.index in
    no_word (other.words (section_of worked_config (1 - p) + 256)) (met ∙ their_word worked_config worked_is p p2 old.words other.words 256 (omega arith)) index

ends_of : (pasts : ℕ → ℕ → Moment) (now : ℕ → ℕ) (p from : ℕ) → now p ≡ from + 15 → (pasts p (from + 14)).place ≡ ReadingAvailIndex 0 true →
    (pasts p (suc (suc (suc (suc (suc (suc (suc (suc (suc (suc (suc (suc (suc (suc (suc from)))))))))))))))).action ≡ Takes 0 → IsStale p (pasts p (now p)) → Ends pasts now p
ends_of pasts now p from count look action stale = record {
  before = from + 14;
  count = omega arith;
  look = look;
  action = ap (λ k. (pasts p k).action) (let e : suc (from + 14) ≡ suc (suc (suc (suc (suc (suc (suc (suc (suc (suc (suc (suc (suc (suc (suc from)))))))))))))) = omega arith in e) ∙ action;
  stale = stale;
}

-- Both ends made their fences.

first_end : 0 < 2
first_end = omega arith

second_end : 1 < 2
second_end = omega arith

same : (n : ℕ) → n ≤ n
same n = omega arith

later : (m n : ℕ) → m ≡ suc n → n ≤ m
later m n e = omega arith

within : (k m n count : ℕ) → k ≤ n + count → m ≡ n + count → k ≤ m
within k m n count le e = omega arith

up : (k m n count : ℕ) → k ≤ n → m ≡ n + count → k ≤ m
up k m n count le e = omega arith

record BothFenced : Type 0 where
  pasts : ℕ → ℕ → Moment
  from : ℕ → ℕ
  run : WeakRuns worked_config pasts from
  words : ℕ → ℕ → ℕ
  written : ℕ → ℕ → ℕ
  view : ℕ → ℕ
  fenced : ℕ → ℕ
  at_0 : pasts 0 (from 0) ≡ fence_moment (words 0) (written 0) (view 0) (fenced 0)
  at_1 : pasts 1 (from 1) ≡ fence_moment (words 1) (written 1) (view 1) (fenced 1)
  low_0 : view 0 ≤ from 1
  low_1 : view 1 ≤ from 0
  seen_0 : (pasts 1 (view 0)).words ≡ words 1
  seen_1 : (pasts 0 (view 1)).words ≡ words 0
  zero_0 : (j : ℕ) → is_own worked_config 0 (1024 + j) ≡ true → words 0 (1024 + j) ≡ 0
  zero_1 : (j : ℕ) → is_own worked_config 1 (5120 + j) ≡ true → words 1 (5120 + j) ≡ 0

-- The value of end 0, and that of end 1.
abbrev two : {A : Type 0} → A → A → ℕ → A
two x y q = if q == 0 then x else y

both_fenced : EndsAt run_run all_closed → BothFenced
both_fenced r =
    let w = sequential_runs_are_weak worked_config r.memory r.ends r.places worked_is r.run in let now = w.now in
    let a0 = w.are 0 first_end in let a1 = w.are 1 second_end in let m0 = w.pasts 0 (now 0) in let m1 = w.pasts 1 (now 1) in
    let f0 = fences w.pasts now 0 m0 (r.written 0) w.run first_end refl (a0.end_is ∙ r.ends_are 0 first_end) (a0.place_is ∙ r.places_are 0 first_end) in
    let f1 = fences f0.after f0.last 1 m1 (r.written 1) f0.run second_end (ap (f0.after 1) f0.opposite ∙ f0.keeps 1 second_end (now 1) (same (now 1))) (a1.end_is ∙ r.ends_are 1 second_end) (a1.place_is ∙ r.places_are 1 second_end) in
    let at = f1.keeps 0 first_end (f0.last 0) (same (f0.last 0)) ∙ (ap (f0.after 0) f0.mine ∙ f0.adds) in
    let known : now 1 ≤ f0.last 1 = subst (λ k. now 1 ≤ k) (sym f0.opposite) (same (now 1)) in
    let reached : now 1 ≤ f1.last 1 = f1.grows 1 second_end (now 1) known in record {
      pasts = f1.after;
      from = f1.last;
      run = f1.run;
      words = two m0.words m1.words;
      written = two (r.written 0) (r.written 1);
      view = two (now 1) (f0.last 0);
      fenced = two (suc (now 0)) (suc (f0.last 1));
      at_0 = ap (f1.after 0) f1.opposite ∙ at;
      at_1 = ap (f1.after 1) f1.mine ∙ f1.adds;
      low_0 = reached;
      low_1 = subst (λ k. f0.last 0 ≤ k) (sym f1.opposite) (same (f0.last 0));
      seen_0 = ap (λ (m : Moment). m.words) (f1.keeps 1 second_end (now 1) known ∙ f0.keeps 1 second_end (now 1) (same (now 1)));
      seen_1 = ap (λ (m : Moment). m.words) at;
      zero_0 = λ j own. a0.words (1024 + j) own ∙ r.none (1024 + j) (omega arith);
      zero_1 = λ j own. a1.words (5120 + j) own ∙ r.none (5120 + j) (omega arith);
    }

-- The run as a whole

worked_by : BothFenced → BothLooksMayBeStale
worked_by r =
    let m0 = fence_moment (r.words 0) (r.written 0) (r.view 0) (r.fenced 0) in let m1 = fence_moment (r.words 1) (r.written 1) (r.view 1) (r.fenced 1) in
    let can0 = can 0 first_end (r.words 0) (r.written 0) (r.words 1) (r.view 0) (r.fenced 0) (r.zero_1 304 refl) (r.zero_1 256 refl) in
    let can1 = can 1 second_end (r.words 1) (r.written 1) (r.words 0) (r.view 1) (r.fenced 1) (r.zero_0 304 refl) (r.zero_0 256 refl) in
    let a = plays worked_config 0 worked_actions r.pasts r.from m0 (r.words 1) r.run first_end r.at_0 r.low_0 r.seen_0 can0 in
    let b = plays worked_config 1 worked_actions a.after a.last m1 (r.words 0) a.run second_end
    (ap (a.after 1) a.opposite ∙ (a.keeps 1 second_end (r.from 1) (same (r.from 1)) ∙ r.at_1))
    (up (r.view 1) (a.last 0) (r.from 0) 15 r.low_1 a.mine)
    (ap (λ (m : Moment). m.words) (a.keeps 0 first_end (r.view 1) r.low_1) ∙ r.seen_1) can1 in
    let h0 = kept 0 (a.after 0) (b.after 0) worked_actions (r.from 0) m0 (λ k le. b.keeps 0 first_end k (within k (a.last 0) (r.from 0) 15 le a.mine)) a.moments in
    let h1 = subst (λ k. HasMoments worked_config 1 (b.after 1) k m1 worked_actions) a.opposite b.moments in
    let count0 : b.last 0 ≡ r.from 0 + 15 = b.opposite ∙ a.mine in let count1 : b.last 1 ≡ r.from 1 + 15 = b.mine ∙ ap (λ k. k + 15) a.opposite in
    let acts0 = acts_of 0 (r.words 1) (b.after 0) worked_actions (r.from 0) m0 can0 h0 in
    let acts1 = acts_of 1 (r.words 0) (b.after 1) worked_actions (r.from 1) m1 can1 h1 in
    let stale0 = subst (λ k. IsStale 0 (b.after 0 k)) (sym count0) (last_is 0 first_end (r.words 0) (r.written 0) (r.words 1) (r.view 0) (r.fenced 0) (b.after 0) (r.from 0) h0) in
    let stale1 = subst (λ k. IsStale 1 (b.after 1 k)) (sym count1) (last_is 1 second_end (r.words 1) (r.written 1) (r.words 0) (r.view 1) (r.fenced 1) (b.after 1) (r.from 1) h1) in
    let look0 = look_is 0 first_end (r.words 0) (r.written 0) (r.words 1) (r.view 0) (r.fenced 0) (b.after 0) (r.from 0) h0 in
    let look1 = look_is 1 second_end (r.words 1) (r.written 1) (r.words 0) (r.view 1) (r.fenced 1) (b.after 1) (r.from 1) h1 in record {
      pasts = b.after;
      from = r.from;
      now = b.last;
      run = b.run;
      count = pick 0 first_end (λ p. b.last p ≡ r.from p + length worked_actions) count0 count1;
      acts = pick 0 first_end (λ p. Acts (b.after p) (r.from p) worked_actions) acts0 acts1;
      stale = pick 0 first_end (λ p. IsStale p (b.after p (b.last p))) stale0 stale1;
      sequential = no_order b.after b.last (pick 0 first_end (Ends b.after b.last)
          (ends_of b.after b.last 0 (r.from 0) count0 look0 (acts0.1.1.1.1.1.1.1.1.1.1.1.1.1.1.0) stale0)
          (ends_of b.after b.last 1 (r.from 1) count1 look1 (acts1.1.1.1.1.1.1.1.1.1.1.1.1.1.1.0) stale1));
    }

pub both_looks_may_be_stale : BothLooksMayBeStale
both_looks_may_be_stale = worked_by (both_fenced both_run)
