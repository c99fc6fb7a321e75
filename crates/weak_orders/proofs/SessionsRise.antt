-- In a later session of its own an end is attached to a later session of the other.
use Rattle.std.proofs.Common.{◌≡◌, ◌≢◌, ℕ, zero, suc, ◌+◌, ◌-◌, ◌<◌, ◌≤◌, ◌⊎◌, inl, inr, ⊎_elim, Bool, true, false, length, refl, sym, ap, ◌∙◌, subst, arith}
use Rattle.std.specs.Prelude.{if◌then◌else◌}
use Rattle.split_ring.specs.declared.steps.Access.TheVariants as access
use Rattle.link_handshake.specs.declared.Phase.TheVariants.{Reset, Init, Ready, Run}
use Rattle.link_handshake.specs.PhaseTable.{phase_of_state, state_of}
use Rattle.link_handshake.specs.HandshakeState.{HandshakeState, move_of}
use Rattle.call_grammar.specs.Ends.{End}
use Rattle.call_grammar.specs.Ticks.{EndConfig}
use Rattle.call_grammar.specs.Calls.{Call, Tick, Stop, Offer, Poll, in_run, pending_of}
use Rattle.call_grammar.specs.Polls.{is_last}
use Rattle.call_grammar.proofs.Phases.{phases}
use Rattle.call_grammar.specs.Places.{Place, Closed, ReadingOtherState, Clearing, WritingState, Refusing, NotInRun, ReadingUsedIndex, ReadingUsedId, WritingFrameWord, WritingDescAddressLow, WritingDescAddressHigh, WritingDescLength, WritingDescFlags, WritingAvailEntry, WritingAvailIndex, ReadingAvailEvent, ReadingAvailIndex, WritingAvailEvent, ReadingAvailEntry, ReadingDescAddressLow, ReadingDescAddressHigh, ReadingDescLength, ReadingDescFlags, ReadingFrameWord, WritingUsedId, WritingUsedLength, WritingUsedIndex, RingingOffer, RingingPoll, first_place, access_at, next_place, step_at, tick_place}
use Rattle.link_invariant.specs.LinkConfig.{LinkConfig, IsLinkConfig, config_of}
use Rattle.link_invariant.specs.EndInvariant.{PlaceInvariant}
use Rattle.link_invariant.specs.Pair.{IsAttached}
use Rattle.link_invariant.proofs.TickSteps.{not_phase}
use Rattle.link_invariant.proofs.HandshakeOfPair.{state_at, attends_high}
use Rattle.weak_orders.specs.Memory.{Moment, Action, Starts, Begins, Takes, Fences, Receives, Resets, Does, seen}
use Rattle.weak_orders.specs.Sessions.{opens_at, opened, WeakSessionsRise}
use Rattle.weak_orders.proofs.Diamond.{sets_one}
use Rattle.weak_orders.proofs.InvariantAtMoments.{threes, ones}
use Rattle.weak_orders.proofs.Advance.{Held, Took}
use Rattle.weak_orders.proofs.RunsKeepInvariant.{weak_runs_are_held}
use Rattle.weak_orders.proofs.Sessions.{view_up, opened_up, climbs, sessions_are_one}

-- The only call that begins at a State step is a Stop, which stores 0.
by_either : (b : Bool) (x y : Place) → state_at x ≡ 9 → state_at y ≡ 9 → state_at (if b then x else y) ≡ 9
by_either true x y e f = e
by_either false x y e f = f

begins_low : (config : EndConfig) (end : End) (call : Call) (n : ℕ) → first_place config end call ≡ WritingState (suc n) → n < 8 → ⊥
begins_low config end Tick n e lt = let f = ap state_at e in omega arith
begins_low config end Stop n e lt = let f = ap state_at e in omega arith
begins_low config end (Offer frame) n e lt = let f = by_either (in_run end.handshake.phase) (ReadingUsedIndex (pending_of config end frame) end.freed) NotInRun refl refl in let g = ap state_at e in omega arith
begins_low config end Poll n e lt = let f = by_either (in_run end.handshake.phase) (ReadingAvailIndex (length end.delivered) (is_last config end.found_none)) NotInRun refl refl in let g = ap state_at e in omega arith

-- A step loads the other's State, stores State, refuses, or leaves the phase as it is.
abbrev Sort : LinkConfig → ℕ → End → Place → Type 0
Sort link_config p end place = ((h : HandshakeState) × (place ≡ ReadingOtherState h)) ⊎ (((s : ℕ) × (place ≡ WritingState s)) ⊎ ((place ≡ Refusing) ⊎
    (((s : ℕ) → access_at (config_of link_config p) place ≢ access.State s) × ((v : ℕ) → (end.handshake.phase ≡ Run) ⊎ ((end.handshake.phase ≡ Init) ⊎ (next_place (config_of link_config p) place v ≡ Closed))) ×
    (place ≢ WritingState 3) × ((action : Action) → opens_at place action ≡ 0))))

sorts : (link_config : LinkConfig) (memory : ℕ → ℕ) (p : ℕ) (end : End) (place : Place) → PlaceInvariant link_config memory p end place → Sort link_config p end place
sorts link_config memory p end (ReadingOtherState h) k = inl (h, refl)
sorts link_config memory p end (WritingState s) k = inr (inl (s, refl))
sorts link_config memory p end Refusing k = inr (inr (inl refl))
sorts link_config memory p end (Clearing at more state) k = inr (inr (inr (λ s e. cc, λ v. inr (inl k.0), λ e. cc, λ d. refl)))
sorts link_config memory p end Closed k = inr (inr (inr (λ s e. cc, λ v. inr (inr refl), λ e. cc, λ d. refl)))
sorts link_config memory p end NotInRun k = inr (inr (inr (λ s e. cc, λ v. inr (inr refl), λ e. cc, λ d. refl)))
sorts link_config memory p end (ReadingUsedIndex pending freed) k = inr (inr (inr (λ s e. cc, λ v. inl k.0, λ e. cc, λ d. refl)))
sorts link_config memory p end (ReadingUsedId pending freed more) k = inr (inr (inr (λ s e. cc, λ v. inl k.0, λ e. cc, λ d. refl)))
sorts link_config memory p end (WritingFrameWord pending at more) k = inr (inr (inr (λ s e. cc, λ v. inl k.0, λ e. cc, λ d. refl)))
sorts link_config memory p end (WritingDescAddressLow pending) k = inr (inr (inr (λ s e. cc, λ v. inl k.0, λ e. cc, λ d. refl)))
sorts link_config memory p end (WritingDescAddressHigh pending) k = inr (inr (inr (λ s e. cc, λ v. inl k.0, λ e. cc, λ d. refl)))
sorts link_config memory p end (WritingDescLength pending) k = inr (inr (inr (λ s e. cc, λ v. inl k.0, λ e. cc, λ d. refl)))
sorts link_config memory p end (WritingDescFlags pending) k = inr (inr (inr (λ s e. cc, λ v. inl k.0, λ e. cc, λ d. refl)))
sorts link_config memory p end (WritingAvailEntry pending) k = inr (inr (inr (λ s e. cc, λ v. inl k.0, λ e. cc, λ d. refl)))
sorts link_config memory p end (WritingAvailIndex pending) k = inr (inr (inr (λ s e. cc, λ v. inl k.0, λ e. cc, λ d. refl)))
sorts link_config memory p end (ReadingAvailEvent number) k = inr (inr (inr (λ s e. cc, λ v. inl k.0, λ e. cc, λ d. refl)))
sorts link_config memory p end (ReadingAvailIndex taken last) k = inr (inr (inr (λ s e. cc, λ v. inl k.0, λ e. cc, λ d. refl)))
sorts link_config memory p end (WritingAvailEvent taken) k = inr (inr (inr (λ s e. cc, λ v. inl k.0, λ e. cc, λ d. refl)))
sorts link_config memory p end (ReadingAvailEntry number more) k = inr (inr (inr (λ s e. cc, λ v. inl k.0, λ e. cc, λ d. refl)))
sorts link_config memory p end (ReadingDescAddressLow number more entry) k = inr (inr (inr (λ s e. cc, λ v. inl k.0, λ e. cc, λ d. refl)))
sorts link_config memory p end (ReadingDescAddressHigh number more entry low) k = inr (inr (inr (λ s e. cc, λ v. inl k.0, λ e. cc, λ d. refl)))
sorts link_config memory p end (ReadingDescLength number more entry address) k = inr (inr (inr (λ s e. cc, λ v. inl k.0, λ e. cc, λ d. refl)))
sorts link_config memory p end (ReadingDescFlags number more entry address bytes) k = inr (inr (inr (λ s e. cc, λ v. inl k.0, λ e. cc, λ d. refl)))
sorts link_config memory p end (ReadingFrameWord number more entry address bytes read words) k = inr (inr (inr (λ s e. cc, λ v. inl k.0, λ e. cc, λ d. refl)))
sorts link_config memory p end (WritingUsedId number more entry) k = inr (inr (inr (λ s e. cc, λ v. inl k.0, λ e. cc, λ d. refl)))
sorts link_config memory p end (WritingUsedLength number more) k = inr (inr (inr (λ s e. cc, λ v. inl k.0, λ e. cc, λ d. refl)))
sorts link_config memory p end (WritingUsedIndex number more) k = inr (inr (inr (λ s e. cc, λ v. inl k.0, λ e. cc, λ d. refl)))
sorts link_config memory p end RingingOffer k = inr (inr (inr (λ s e. cc, λ v. inl k, λ e. cc, λ d. refl)))
sorts link_config memory p end RingingPoll k = inr (inr (inr (λ s e. cc, λ v. inl k, λ e. cc, λ d. refl)))

module _ (link_config : LinkConfig) (is : IsLinkConfig link_config) (pasts : ℕ → ℕ → Moment) (now : ℕ → ℕ) (held : Held link_config pasts now) (p : ℕ) (p2 : p < 2) (a : ℕ) (to : a ≤ now p) (attended : IsAttached (pasts p a).end (pasts p a).place) where
  -- Since then the other was in RESET or INIT, and it opened a later session.
  abbrev Low : ℕ → Type 0
  Low view = (l : ℕ) × ((pasts p a).view ≤ l) × (l ≤ view) × ((pasts (1 - p) l).words (1 - p) ≤ 1)

  abbrev High : ℕ → Type 0
  High view = (i : ℕ) × (i ≤ view) × (opened (pasts (1 - p)) (pasts p a).view < opened (pasts (1 - p)) i)

  record Way (m : Moment) (number : ℕ) : Type 0 where
    init : m.end.handshake.phase ≡ Init → Low m.view
    one : m.place ≡ WritingState 1 → Low m.view
    ready : m.end.handshake.phase ≡ Ready → ((number ≡ opened (pasts p) a) × (m.place ≡ WritingState 3)) ⊎ Low m.view
    attends : IsAttached m.end m.place → (number ≡ opened (pasts p) a) ⊎ High m.view

  low_up : (v w : ℕ) → v ≤ w → Low v → Low w
  low_up v w le h = let x = h.2 in (h.0, h.1, omega arith, h.3)

  high_up : (v w n n' : ℕ) → v ≤ w → n' ≡ n → (n ≡ opened (pasts p) a) ⊎ High v → (n' ≡ opened (pasts p) a) ⊎ High w
  high_up v w n n' le e (inl h) = inl (e ∙ h)
  high_up v w n n' le e (inr h) = let x = h.1 in inr (h.0, omega arith, h.2)

  first_way : Way (pasts p a) (opened (pasts p) a)
  first_way = let high = attends_high (pasts p a).end (pasts p a).place attended in let h = (held.alone p p2 a to).1.holds in record {
    init = λ e. absurd (let f = ap state_of e in omega arith);
    one = λ e. absurd (let f = ap state_of (sets_one link_config _ p (pasts p a).end (pasts p a).place h e) in omega arith);
    ready = λ e. ⊎_elim (λ run. absurd (not_phase {a = Run} {b = Ready} (λ h. omega arith) run e)) (λ x. inl (refl, x.1)) attended;
    attends = λ t. inl refl;
  }

  -- The phase stays.
  keeps_way : (m m' : Moment) (n n' : ℕ) → m'.end.handshake.phase ≡ m.end.handshake.phase → n' ≡ n → m.view ≤ m'.view → (m'.place ≡ WritingState 1 → Low m'.view) →
      (m'.place ≡ WritingState 3 → m.end.handshake.phase ≡ Ready → (n' ≡ opened (pasts p) a) ⊎ High m'.view) → (m.place ≡ WritingState 3 → m'.place ≡ WritingState 3) → Way m n → Way m' n'
  keeps_way m m' n n' ph e up one three stay w = record {
    init = λ i. low_up m.view m'.view up (w.init (sym ph ∙ i));
    one = one;
    ready = λ r. ⊎_elim (λ (h : (n ≡ opened (pasts p) a) × (m.place ≡ WritingState 3)). inl (e ∙ h.0, stay h.1)) (λ h. inr (low_up m.view m'.view up h)) (w.ready (sym ph ∙ r));
    attends = λ t. ⊎_elim (λ (run : m'.end.handshake.phase ≡ Run). high_up m.view m'.view n n' up e (w.attends (inl (sym ph ∙ run)))) (λ (h : (m'.end.handshake.phase ≡ Ready) × (m'.place ≡ WritingState 3)). three h.1 (sym ph ∙ h.0)) t;
  }

  -- RESET.
  reset_way : (m' : Moment) (n' : ℕ) → m'.end.handshake.phase ≡ Reset → m'.place ≡ Closed → Way m' n'
  reset_way m' n' ph closed = record {
    init = λ i. absurd (not_phase {a = Reset} {b = Init} (λ h. omega arith) ph i);
    one = λ e. absurd (let f = ap state_at (sym closed ∙ e) in omega arith);
    ready = λ r. absurd (not_phase {a = Reset} {b = Ready} (λ h. omega arith) ph r);
    attends = λ t. absurd (let high = attends_high m'.end m'.place t in let f = ap state_of ph in omega arith);
  }

  -- A State step.
  set_way : (memory : ℕ → ℕ) (m m' : Moment) (n n' s v : ℕ) → m.place ≡ WritingState s → PlaceInvariant link_config memory p m.end (WritingState s) → m'.end.handshake.phase ≡ phase_of_state s → m'.place ≡ Closed → n' ≡ n + opens_at (WritingState s) (Takes v) → m.view ≤ m'.view → Way m n → Way m' n'
  set_way memory m m' n n' zero v at h ph closed e up w = reset_way m' n' ph closed
  set_way memory m m' n n' (suc zero) v at h ph closed e up w = record {
    init = λ i. low_up m.view m'.view up (w.one at);
    one = λ e. absurd (let f = ap state_at (sym closed ∙ e) in omega arith);
    ready = λ r. absurd (not_phase {a = Init} {b = Ready} (λ h. omega arith) ph r);
    attends = λ t. absurd (let high = attends_high m'.end m'.place t in let f = ap state_of ph in omega arith);
  }
  set_way memory m m' n n' (suc (suc zero)) v at h ph closed e up w = record {
    init = λ i. absurd (not_phase {a = Ready} {b = Init} (λ h. omega arith) ph i);
    one = λ e. absurd (let f = ap state_at (sym closed ∙ e) in omega arith);
    ready = λ r. inr (low_up m.view m'.view up (w.init h.0));
    attends = λ t. ⊎_elim (λ (run : m'.end.handshake.phase ≡ Run). absurd (not_phase {a = Ready} {b = Run} (λ h. omega arith) ph run)) (λ (x : (m'.end.handshake.phase ≡ Ready) × (m'.place ≡ WritingState 3)). absurd (let f = ap state_at (sym closed ∙ x.1) in omega arith)) t;
  }
  set_way memory m m' n n' (suc (suc (suc zero))) v at h ph closed e up w = record {
    init = λ i. absurd (not_phase {a = Run} {b = Init} (λ h. omega arith) ph i);
    one = λ e. absurd (let f = ap state_at (sym closed ∙ e) in omega arith);
    ready = λ r. absurd (not_phase {a = Run} {b = Ready} (λ h. omega arith) ph r);
    attends = λ t. high_up m.view m'.view n n' up (omega arith) (w.attends (inr (h, at)));
  }
  set_way memory m m' n n' (suc (suc (suc (suc more)))) v at h ph closed e up w = absurd h

  module _ (k : ℕ) (from : a ≤ k) (kn : suc k ≤ now p) (way : Way (pasts p k) (opened (pasts p) k)) where
    since : (pasts p a).view ≤ (pasts p k).view
    since = let u = view_up link_config is pasts now held p p2 a (k - a) (omega arith) in let e = ap (λ n. (pasts p n).view) (let e : a + (k - a) ≡ k = omega arith in e) in omega arith

    opens_none : (action : Action) → opens_at (pasts p k).place action ≡ 0 → (pasts p (suc k)).action ≡ action → opened (pasts p) (suc k) ≡ opened (pasts p) k
    opens_none action none e = let f = ap (opens_at (pasts p k).place) e in omega arith

    by_sort : (v : ℕ) → Does link_config p (pasts p k) (pasts p (suc k)) (Takes v) → Took link_config p (pasts p k) (pasts p (suc k)) (pasts (1 - p)) (Takes v) → (pasts p (suc k)).action ≡ Takes v → Sort link_config p (pasts p k).end (pasts p k).place → Way (pasts p (suc k)) (opened (pasts p) (suc k))
    by_sort v d t e (inl at) = let m = pasts p k in let m' = pasts p (suc k) in let rises = (held.trail p p2 k kn).rises in let s = t at.0 at.1 in let s1 = s.1 in let s2 = s.2 in let sn = held.views p p2 (suc k) kn in let since' = since in
        let next : m'.place ≡ tick_place (config_of link_config p) (move_of at.0 v) = d.3 ∙ ap (λ (x : Place). next_place (config_of link_config p) x v) at.1 in
        keeps_way m m' (opened (pasts p) k) (opened (pasts p) (suc k)) (ap (λ (x : End). x.handshake.phase) d.2 ∙ phases.kept m.end (step_at (config_of link_config p) m.place v) (λ j f. let g = sym (ap (λ (x : Place). access_at (config_of link_config p) x) at.1) ∙ f in cc))
        (opens_none (Takes v) (ap (λ (x : Place). opens_at x (Takes v)) at.1) e) rises
        (λ f. let low = ones (config_of link_config p) at.0.mark at.0.phase v (sym (ap state_at next) ∙ ap state_at f) in let val = s.3 in (s.0, omega arith, s2, omega arith))
        (λ f r. let high = threes (config_of link_config p) at.0.mark at.0.phase v (sym (ap state_at next) ∙ ap state_at f) in let val = s.3 in
        ⊎_elim (λ (h : (opened (pasts p) k ≡ opened (pasts p) a) × (m.place ≡ WritingState 3)). absurd (let g = ap state_at (sym at.1 ∙ h.1) in omega arith))
        (λ (h : Low m.view). let l1 = h.1 in let l2 = h.2 in let l3 = h.3 in let x : h.0 + (s.0 - h.0) ≡ s.0 = omega arith in
        let c = climbs link_config is pasts now held (1 - p) (omega arith) h.0 (s.0 - h.0) (omega arith) l3 (subst (λ n. 2 ≤ (pasts (1 - p) n).words (1 - p)) (sym x) (let y : 2 ≤ (pasts (1 - p) s.0).words (1 - p) = omega arith in y)) in
        let u = opened_up link_config is pasts now held (1 - p) (pasts p a).view (h.0 - (pasts p a).view) in let y = ap (opened (pasts (1 - p))) x in let z = ap (opened (pasts (1 - p))) (let z : (pasts p a).view + (h.0 - (pasts p a).view) ≡ h.0 = omega arith in z) in
        inr (s.0, s2, omega arith))
        (way.ready r))
        (λ f. absurd (let g = ap state_at (sym at.1 ∙ f) in omega arith)) way
    by_sort v d t e (inr (inl at)) = let m = pasts p k in let m' = pasts p (suc k) in let rises = (held.trail p p2 k kn).rises in let al = held.alone p p2 k (omega arith) in
        set_way (seen link_config p m.words al.0) m m' (opened (pasts p) k) (opened (pasts p) (suc k)) at.0 v at.1 (subst (PlaceInvariant link_config (seen link_config p m.words al.0) p m.end) at.1 al.1.holds)
        (ap (λ (x : End). x.handshake.phase) d.2 ∙ phases.written m.end (step_at (config_of link_config p) m.place v) at.0 (ap (λ (x : Place). access_at (config_of link_config p) x) at.1))
        (d.3 ∙ ap (λ (x : Place). next_place (config_of link_config p) x v) at.1)
        (let f = ap (opens_at m.place) e in let g = ap (λ (x : Place). opens_at x (Takes v)) at.1 in omega arith) rises way
    by_sort v d t e (inr (inr (inl at))) = let m = pasts p k in let m' = pasts p (suc k) in
        reset_way m' (opened (pasts p) (suc k)) (ap (λ (x : End). x.handshake.phase) d.2 ∙ phases.written m.end (step_at (config_of link_config p) m.place v) 0 (ap (λ (x : Place). access_at (config_of link_config p) x) at)) (d.3 ∙ ap (λ (x : Place). next_place (config_of link_config p) x v) at)
    by_sort v d t e (inr (inr (inr o))) = let m = pasts p k in let m' = pasts p (suc k) in let rises = (held.trail p p2 k kn).rises in let al = held.alone p p2 (suc k) kn in
        let ph : m'.end.handshake.phase ≡ m.end.handshake.phase = ap (λ (x : End). x.handshake.phase) d.2 ∙ phases.kept m.end (step_at (config_of link_config p) m.place v) o.0 in
        keeps_way m m' (opened (pasts p) k) (opened (pasts p) (suc k)) ph (opens_none (Takes v) (o.3 (Takes v)) e) rises
        (λ f. absurd (let r = ap state_of (sym ph ∙ sets_one link_config (seen link_config p m'.words al.0) p m'.end m'.place al.1.holds f) in
        ⊎_elim (λ (x : m.end.handshake.phase ≡ Run). let y = ap state_of x in omega arith) (λ y. ⊎_elim (λ (x : m.end.handshake.phase ≡ Init). let y = ap state_of x in omega arith) (λ (x : next_place (config_of link_config p) m.place v ≡ Closed). let y = ap state_at (sym f ∙ (d.3 ∙ x)) in omega arith) y) (o.1 v)))
        (λ f r. absurd (let r' = ap state_of r in
        ⊎_elim (λ (x : m.end.handshake.phase ≡ Run). let y = ap state_of x in omega arith) (λ y. ⊎_elim (λ (x : m.end.handshake.phase ≡ Init). let y = ap state_of x in omega arith) (λ (x : next_place (config_of link_config p) m.place v ≡ Closed). let y = ap state_at (sym f ∙ (d.3 ∙ x)) in omega arith) y) (o.1 v)))
        (λ f. absurd (o.2 f)) way

    by_action : (action : Action) → Does link_config p (pasts p k) (pasts p (suc k)) action → Took link_config p (pasts p k) (pasts p (suc k)) (pasts (1 - p)) action → (pasts p (suc k)).action ≡ action → Way (pasts p (suc k)) (opened (pasts p) (suc k))
    by_action Starts d t e = absurd d
    by_action (Begins call) d t e = let m = pasts p k in let m' = pasts p (suc k) in let rises = (held.trail p p2 k kn).rises in
        keeps_way m m' (opened (pasts p) k) (opened (pasts p) (suc k)) (ap (λ (x : End). x.handshake.phase) d.3) (opens_none (Begins call) (ap (λ (x : Place). opens_at x (Begins call)) d.1) e) rises
        (λ f. absurd (begins_low (config_of link_config p) m.end call 0 (sym d.4 ∙ f) (omega arith))) (λ f r. absurd (begins_low (config_of link_config p) m.end call 2 (sym d.4 ∙ f) (omega arith)))
        (λ f. absurd (let g = ap state_at (sym d.1 ∙ f) in omega arith)) way
    by_action Fences d t e = let m = pasts p k in let m' = pasts p (suc k) in let rises = (held.trail p p2 k kn).rises in let n = opens_fence m.place in
        keeps_way m m' (opened (pasts p) k) (opened (pasts p) (suc k)) (ap (λ (x : End). x.handshake.phase) d.1) (opens_none Fences n e) rises
        (λ f. low_up m.view m'.view rises (way.one (sym d.2 ∙ f))) (λ f r. high_up m.view m'.view (opened (pasts p) k) (opened (pasts p) (suc k)) rises (opens_none Fences n e) (way.attends (inr (r, sym d.2 ∙ f)))) (λ f. d.2 ∙ f) way
      where
        opens_fence : (place : Place) → opens_at place Fences ≡ 0
        opens_fence (WritingState (suc (suc zero))) = refl
        opens_fence place = refl
    by_action (Receives h) d t e = let m = pasts p k in let m' = pasts p (suc k) in let rises = (held.trail p p2 k kn).rises in let n = opens_received m.place in
        keeps_way m m' (opened (pasts p) k) (opened (pasts p) (suc k)) (ap (λ (x : End). x.handshake.phase) d.1) (opens_none (Receives h) n e) rises
        (λ f. low_up m.view m'.view rises (way.one (sym d.2 ∙ f))) (λ f r. high_up m.view m'.view (opened (pasts p) k) (opened (pasts p) (suc k)) rises (opens_none (Receives h) n e) (way.attends (inr (r, sym d.2 ∙ f)))) (λ f. d.2 ∙ f) way
      where
        opens_received : (place : Place) → opens_at place (Receives h) ≡ 0
        opens_received (WritingState (suc (suc zero))) = refl
        opens_received place = refl
    by_action Resets d t e = reset_way (pasts p (suc k)) (opened (pasts p) (suc k)) (ap (λ (x : End). x.handshake.phase) d.1) d.2
    by_action (Takes v) d t e = let al = held.alone p p2 k (omega arith) in by_sort v d t e (sorts link_config (seen link_config p (pasts p k).words al.0) p (pasts p k).end (pasts p k).place al.1.holds)

    next_way : Way (pasts p (suc k)) (opened (pasts p) (suc k))
    next_way = let t = held.trail p p2 k kn in by_action (pasts p (suc k)).action t.does t.took refl

  ways : (j : ℕ) → a + j ≤ now p → Way (pasts p (a + j)) (opened (pasts p) (a + j))
  ways zero h = subst (λ k. Way (pasts p k) (opened (pasts p) k)) (let e : a ≡ a + zero = omega arith in e) first_way
  ways (suc j) h = subst (λ k. Way (pasts p k) (opened (pasts p) k)) (let e : suc (a + j) ≡ a + suc j = omega arith in e) (next_way (a + j) (omega arith) (omega arith) (ways j (omega arith)))

  pub later_session_rises : (b : ℕ) → a ≤ b → b ≤ now p → IsAttached (pasts p b).end (pasts p b).place → opened (pasts p) a < opened (pasts p) b → opened (pasts (1 - p)) (pasts p a).view < opened (pasts (1 - p)) (pasts p b).view
  later_session_rises b ab bn attends more = let w : Way (pasts p b) (opened (pasts p) b) = subst (λ k. Way (pasts p k) (opened (pasts p) k)) (let e : a + (b - a) ≡ b = omega arith in e) (ways (b - a) (omega arith)) in
      ⊎_elim (λ (e : opened (pasts p) b ≡ opened (pasts p) a). absurd (omega arith))
      (λ (h : High (pasts p b).view). let le = h.1 in let lt = h.2 in let u = opened_up link_config is pasts now held (1 - p) h.0 ((pasts p b).view - h.0) in let e = ap (opened (pasts (1 - p))) (let e : h.0 + ((pasts p b).view - h.0) ≡ (pasts p b).view = omega arith in e) in omega arith)
      (w.attends attends)

pub weak_sessions_rise : WeakSessionsRise
weak_sessions_rise link_config pasts now is run p p2 = let h = weak_runs_are_held link_config pasts now is run in record {
  one = sessions_are_one link_config is pasts now h p p2;
  rise = λ a b ab bn at bt more. later_session_rises link_config is pasts now h p p2 a (omega arith) at b ab bn bt more;
}
