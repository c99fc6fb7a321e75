-- The other's offer of the frame that an event names reaches its doorbell.
use Rattle.std.proofs.Common.{◌≡◌, ◌≢◌, ℕ, zero, suc, ◌+◌, ◌-◌, ◌%◌, ◌<◌, ◌≤◌, inl, ⊎_elim, Bool, true, false, List, ◌++◌, length, length-append, refl, sym, ap, ◌∙◌, subst, arith, ◌⊎◌, inr}
use mathlib.Core.Logic.{dite}
use native.Mathlib.Decide.{ℕ_discrete, dec_lt}
use Rattle.std.specs.Prelude.{if◌then◌else◌}
use Rattle.split_ring.specs.declared.steps.Access.TheVariants as access
use Rattle.split_ring.specs.Layout.{word_offset, AvailEvent}
use Rattle.split_ring.specs.Spelling.{low_half}
use Rattle.call_grammar.specs.Ends.{End, with_access}
use Rattle.call_grammar.specs.Offers.{wants_doorbell}
use Rattle.call_grammar.specs.Polls.{published_by}
use Rattle.call_grammar.specs.Places.{Place, Closed, Clearing, WritingState, ReadingAvailEvent, RingingOffer, ReadingAvailIndex, WritingAvailEvent, access_at, next_place, step_at}
use Rattle.link_invariant.specs.Fields as field
use Rattle.link_invariant.specs.LinkConfig.{LinkConfig, IsLinkConfig, section_of, config_of}
use Rattle.link_invariant.specs.EndInvariant.{PlaceInvariant}
use Rattle.link_invariant.specs.Wake.{EventIndexIs}
use Rattle.link_invariant.specs.Steps.{MemoryAfter}
use Rattle.link_invariant.proofs.Fields.{field_read, fields_same, inside}
use Rattle.link_invariant.proofs.WriteSteps.{place_puts}
use Rattle.link_invariant.proofs.TickSteps.{not_phase}
use Rattle.link_invariant.proofs.DoorbellIsRung.{asks_there, event_stays}
use Rattle.link_handshake.specs.declared.Phase.TheVariants.{Init, Run}
use Rattle.link_invariant.proofs.PairObligations.{Before}
use Rattle.link_invariant.proofs.PollsOfPair.{published_is}
use Rattle.weak_orders.specs.Memory.{Moment, Action, Starts, Begins, Takes, Fences, Receives, Resets, Does, seen}
use Rattle.weak_orders.specs.Orders.{owes}
use Rattle.weak_orders.specs.Sessions.{opens_at, opened}
use Rattle.weak_orders.specs.OneEnd.{RunsAlone}
use Rattle.weak_orders.specs.Wake.{HasMovedOn, WeakDoorbellsRing}
use Rattle.weak_orders.proofs.Rows.{event_store_fences, reset_fences}
use Rattle.weak_orders.proofs.Cuts.{their_word}
use Rattle.weak_orders.proofs.Advance.{Held, Found, Sourced}
use Rattle.weak_orders.proofs.OneLoadResult.{none, noted_grows, stated_keeps, state_in}
use Rattle.weak_orders.proofs.RunsKeepInvariant.{weak_runs_are_held}
use Rattle.weak_orders.proofs.OneEnd.{end_is_safe, alone_of}
use Rattle.weak_orders.proofs.Sessions.{opened_up, sessions_are_one}

-- The number of accepted frames doesn't fall at an action that opens no session.
pub not_two : (link_config : LinkConfig) (q : ℕ) (place : Place) (v : ℕ) → opens_at place (Takes v) ≡ 0 → (s : ℕ) → access_at (config_of link_config q) place ≡ access.State s → s ≢ 2
not_two link_config q place v none s e f = by_place place none (ap state_in e ∙ f)
  where
    by_place : (place : Place) → opens_at place (Takes v) ≡ 0 → state_in (access_at (config_of link_config q) place) ≡ 2 → ⊥
    by_place (WritingState (suc (suc zero))) none e = omega arith
    by_place place none e = omega arith

stays_in : (link_config : LinkConfig) (q : ℕ) (old new : Moment) (action : Action) → Does link_config q old new action → opens_at old.place action ≡ 0 → (t : List (List ℕ)) × (new.end.accepted ≡ old.end.accepted ++ t)
stays_in link_config q old new Starts d z = absurd d
stays_in link_config q old new (Begins call) d z = let n = none old.end.accepted in (n.0, ap (λ (e : End). e.accepted) d.3 ∙ n.1)
stays_in link_config q old new Fences d z = let n = none old.end.accepted in (n.0, ap (λ (e : End). e.accepted) d.1 ∙ n.1)
stays_in link_config q old new (Receives k) d z = let n = none old.end.accepted in (n.0, ap (λ (e : End). e.accepted) d.1 ∙ n.1)
stays_in link_config q old new Resets d z = let n = none old.end.accepted in (n.0, ap (λ (e : End). e.accepted) d.1 ∙ n.1)
stays_in link_config q old new (Takes v) d z = let config = config_of link_config q in let a = access_at config old.place in let n = none old.end.accepted in
    let g = noted_grows old.end (with_access old.end a) (step_at config old.place v).marks (n.0, stated_keeps old.end a (not_two link_config q old.place v z) ∙ n.1) in
    (g.0, ap (λ (e : End). e.accepted) d.2 ∙ g.1)

module _ (link_config : LinkConfig) (is : IsLinkConfig link_config) (pasts : ℕ → ℕ → Moment) (now : ℕ → ℕ) (held : Held link_config pasts now) where
  pub longer : (q : ℕ) → q < 2 → (i j : ℕ) → i + j ≤ now q → opened (pasts q) (i + j) ≡ opened (pasts q) i → length (pasts q i).end.accepted ≤ length (pasts q (i + j)).end.accepted
  longer q q2 i zero to same = let e = ap (λ k. length (pasts q k).end.accepted) (let e : i + zero ≡ i = omega arith in e) in omega arith
  longer q q2 i (suc j) to same = let k = i + j in let e : i + suc j ≡ suc k = omega arith in let f = ap (opened (pasts q)) e in let g = ap (λ k. length (pasts q k).end.accepted) e in
      let up = opened_up link_config is pasts now held q i j in let t = held.trail q q2 k (omega arith) in let h = longer q q2 i j (omega arith) (omega arith) in
      let s = stays_in link_config q (pasts q k) (pasts q (suc k)) (pasts q (suc k)).action t.does (omega arith) in let n = ap length s.1 in let m = length-append (pasts q k).end.accepted s.0 in omega arith

  module _ (p : ℕ) (p2 : p < 2) (c a b t x v w : ℕ) (last : Bool) (ca : c < a) (an : suc a ≤ now p) (bn : suc b ≤ now (1 - p)) (look : (pasts p a).place ≡ ReadingAvailIndex t last) (took : (pasts p (suc a)).action ≡ Takes v) (found_none : published_by t v ≡ 0)
      (arms : (pasts p c).place ≡ WritingAvailEvent t) (armed : (pasts p (suc c)).action ≡ Takes x) (alone : RunsAlone link_config p (pasts p) (now p)) (receives : (pasts (1 - p) b).place ≡ ReadingAvailEvent t) (received : (pasts (1 - p) (suc b)).action ≡ Takes w)
      (session : opened (pasts (1 - p)) b ≡ opened (pasts (1 - p)) (pasts p a).view) where
    accepted_at : (k : ℕ) → k ≤ now (1 - p) → (pasts (1 - p) k).place ≡ ReadingAvailEvent t → length (pasts (1 - p) k).end.accepted ≡ t + 1
    accepted_at k kn e = let al = held.alone (1 - p) (omega arith) k kn in let m = pasts (1 - p) k in let h : PlaceInvariant link_config (seen link_config (1 - p) m.words al.0) (1 - p) m.end (ReadingAvailEvent t) = subst (PlaceInvariant link_config (seen link_config (1 - p) m.words al.0) (1 - p) m.end) e al.1.holds in sym h.1

    -- If the load of the index knows the other's fence, then it finds the frame.
    finds : (pasts (1 - p) b).owed ≡ false → (pasts (1 - p) b).fenced ≤ (pasts p a).view → ⊥
    finds free f = let o2 : 1 - p < 2 = omega arith in let g : Found link_config p (pasts p a) (pasts p (suc a)) (pasts (1 - p)) (Takes v) = subst (λ d. Found link_config p (pasts p a) (pasts p (suc a)) (pasts (1 - p)) d) took (held.trail p p2 a an).found in
        let s = g t last look in let s1 = s.1 in let s2 = s.2 in let views = held.views p p2 (suc a) an in let back = held.causal p p2 a an s.0 s2 in
        let c = held.cuts p p2 a s.0 (omega arith) (omega arith) s1 back in let m = pasts (1 - p) s.0 in let x = seen link_config p (pasts p a).words m.words in
        let bf : Before link_config x p (pasts p a).end (ReadingAvailIndex t last) m.end m.place = subst (λ k. Before link_config x p (pasts p a).end k m.end m.place) look c.before in
        let exact = published_is link_config is p x (pasts p a).end m.end m.place bf.mark t last v s.3 bf.opposite bf.mine (bf.faces (inl (inl bf.mine.holds.0))) in
        let one = (sessions_are_one link_config is pasts now held p p2 a s.0 (omega arith) (omega arith) (inl bf.mine.holds.0) s1 back).0 in
        dite (dec_lt b s.0)
        (λ lt. let e : b + (s.0 - b) ≡ s.0 = omega arith in let z = ap (opened (pasts (1 - p))) e in let l = longer (1 - p) o2 b (s.0 - b) (omega arith) (omega arith) in let y = ap (λ k. length (pasts (1 - p) k).end.accepted) e in let n = accepted_at b (omega arith) receives in omega arith)
        (λ ge. let n = accepted_at s.0 (omega arith) (held.received (1 - p) o2 b (omega arith) t s.0 free receives (omega arith) (omega arith)) in omega arith)

    -- After the store of the event a fence is owed, or was made.
    owed_on : (k : ℕ) → (action : Action) → suc k ≤ now p → (pasts p (suc k)).action ≡ action → Does link_config p (pasts p k) (pasts p (suc k)) action → ((pasts p k).owed ≡ true) ⊎ (suc c ≤ (pasts p k).fenced) → c ≤ k → ((pasts p (suc k)).owed ≡ true) ⊎ (suc c ≤ (pasts p (suc k)).fenced)
    owed_on k Starts kn e d h ck = absurd d
    owed_on k (Begins call) kn e d h ck = let up = (held.trail p p2 k kn).climbs in ⊎_elim (λ f. inl (d.5 ∙ f)) (λ f. inr (omega arith)) h
    owed_on k (Takes value) kn e d h ck = let up = (held.trail p p2 k kn).climbs in ⊎_elim (λ f. absurd (let z : true ≡ false = sym f ∙ d.4 in let g : ⊥ = cc in g)) (λ f. inr (omega arith)) h
    owed_on k Fences kn e d h ck = let at = (held.trail p p2 k kn).fence e in inr (omega arith)
    owed_on k (Receives h') kn e d h ck = let up = (held.trail p p2 k kn).climbs in ⊎_elim (λ f. inl (d.3 ∙ f)) (λ f. inr (omega arith)) h
    owed_on k Resets kn e d h ck = inl (reset_fences link_config p (pasts p k) (pasts p (suc k)) d)

    first_owed : (pasts p (suc c)).owed ≡ true
    first_owed = let d : Does link_config p (pasts p c) (pasts p (suc c)) (Takes x) = subst (λ d. Does link_config p (pasts p c) (pasts p (suc c)) d) armed (held.trail p p2 c (omega arith)).does in d.5 ∙ (ap (λ (k : Place). owes k (pasts p (suc c)).place) arms ∙ event_store_fences t (pasts p (suc c)).place)

    owed_since : (j : ℕ) → suc c + j ≤ now p → ((pasts p (suc c + j)).owed ≡ true) ⊎ (suc c ≤ (pasts p (suc c + j)).fenced)
    owed_since zero to = subst (λ k. ((pasts p k).owed ≡ true) ⊎ (suc c ≤ (pasts p k).fenced)) (let e : suc c ≡ suc c + zero = omega arith in e) (inl first_owed)
    owed_since (suc j) to = let k = suc c + j in let t = held.trail p p2 k (omega arith) in subst (λ k. ((pasts p k).owed ≡ true) ⊎ (suc c ≤ (pasts p k).fenced)) (let e : suc (suc c + j) ≡ suc c + suc j = omega arith in e) (owed_on k (pasts p (suc k)).action (omega arith) refl t.does (owed_since j (omega arith)) (omega arith))

    fence_made : suc c ≤ (pasts p a).fenced
    fence_made = let d : Does link_config p (pasts p a) (pasts p (suc a)) (Takes v) = subst (λ d. Does link_config p (pasts p a) (pasts p (suc a)) d) took (held.trail p p2 a an).does in
        let h : ((pasts p a).owed ≡ true) ⊎ (suc c ≤ (pasts p a).fenced) = subst (λ k. ((pasts p k).owed ≡ true) ⊎ (suc c ≤ (pasts p k).fenced)) (let e : suc c + (a - suc c) ≡ a = omega arith in e) (owed_since (a - suc c) (omega arith)) in
        ⊎_elim (λ f. absurd (let z : true ≡ false = sym f ∙ d.4 in let g : ⊥ = cc in g)) (λ f. f) h

    -- The event word keeps its value until the end moves on.
    Stands : ℕ → Type 0
    Stands k = EventIndexIs link_config (pasts p k).words p t

    invariant_at : (k : ℕ) → k ≤ now p → (place : Place) → (pasts p k).place ≡ place → PlaceInvariant link_config (pasts p k).words p (pasts p k).end place
    invariant_at k kn place e = subst (PlaceInvariant link_config (pasts p k).words p (pasts p k).end) e (end_is_safe link_config is p p2 (pasts p) (now p) alone k kn).0.holds

    written : (k value : ℕ) → suc k ≤ now p → (pasts p k).place ≡ WritingAvailEvent t → Does link_config p (pasts p k) (pasts p (suc k)) (Takes value) → Stands (suc k)
    unfolding Stands
    written k value kn e d = (place_puts link_config is p p2 (pasts p k).words (pasts p (suc k)).words (pasts p k).end (WritingAvailEvent t)
        (subst (λ (x : Place). MemoryAfter p (pasts p k).words (access_at (config_of link_config p) x) (pasts p (suc k)).words) e d.1) (invariant_at k (omega arith) (WritingAvailEvent t) e)).here

    took_on : (k value : ℕ) (place : Place) → c < k → suc k ≤ now p → (pasts p k).place ≡ place → Does link_config p (pasts p k) (pasts p (suc k)) (Takes value) → Stands k → Stands (suc k) ⊎ HasMovedOn (pasts p) c (now p) t
    unfolding Stands
    took_on k value (WritingAvailEvent taken) ck kn e d h = let here = invariant_at k (omega arith) (WritingAvailEvent taken) e in
        dite (ℕ_discrete taken t) (λ g. inl (written k value kn (e ∙ ap WritingAvailEvent g) d)) (λ ne. inr (k, ck, omega arith, inl (λ f. ne (here.1 ∙ f))))
    took_on k value (Clearing at more state) ck kn e d h = let here = invariant_at k (omega arith) (Clearing at more state) e in
        inr (k, ck, omega arith, inr (λ f. not_phase {a = Run} {b = Init} (λ h. omega arith) f here.0))
    took_on k value place ck kn e d h = inl (event_stays link_config is p p2 (pasts p k).words (pasts p (suc k)).words (pasts p k).end place (λ w. w)
        (subst (λ (x : Place). MemoryAfter p (pasts p k).words (access_at (config_of link_config p) x) (pasts p (suc k)).words) e d.1) (invariant_at k (omega arith) place e) ∙ h)

    stands_on : (k : ℕ) (action : Action) → c < k → suc k ≤ now p → Does link_config p (pasts p k) (pasts p (suc k)) action → Stands k → Stands (suc k) ⊎ HasMovedOn (pasts p) c (now p) t
    unfolding Stands
    stands_on k Starts ck kn d h = absurd d
    stands_on k (Begins call) ck kn d h = inl (subst (λ (m : ℕ → ℕ). EventIndexIs link_config m p t) (sym d.2) h)
    stands_on k (Takes value) ck kn d h = took_on k value (pasts p k).place ck kn refl d h
    stands_on k Fences ck kn d h = inl (subst (λ (m : ℕ → ℕ). EventIndexIs link_config m p t) (sym d.0) h)
    stands_on k (Receives h') ck kn d h = inl (subst (λ (m : ℕ → ℕ). EventIndexIs link_config m p t) (sym d.0) h)
    stands_on k Resets ck kn d h = inl (fields_same link_config (pasts p k).words (pasts p (suc k)).words p is (λ j lt. d.0.neighbour_word (section_of link_config p + j) (λ e. let first = is.first in omega arith)) field.AvailEvent ∙ h)

    stands : (j : ℕ) → suc c + j ≤ now p → Stands (suc c + j) ⊎ HasMovedOn (pasts p) c (now p) t
    stands zero to = let d : Does link_config p (pasts p c) (pasts p (suc c)) (Takes x) = subst (λ d. Does link_config p (pasts p c) (pasts p (suc c)) d) armed (held.trail p p2 c (omega arith)).does in
        inl (subst Stands (let e : suc c ≡ suc c + zero = omega arith in e) (written c x (omega arith) arms d))
    stands (suc j) to = let k = suc c + j in let d = (held.trail p p2 k (omega arith)).does in
        ⊎_elim (λ (h : Stands k). subst (λ k. Stands k ⊎ HasMovedOn (pasts p) c (now p) t) (let e : suc k ≡ suc c + suc j = omega arith in e) (stands_on k (pasts p (suc k)).action (omega arith) (omega arith) d h)) (λ moved. inr moved) (stands j (omega arith))

    -- If the load of the event knows the end's fence, then it gives the event, and the offer rings.
    rings_or_moved_on : ((pasts (1 - p) (suc b)).place ≡ RingingOffer) ⊎ HasMovedOn (pasts p) c (now p) t
    unfolding Stands
    rings_or_moved_on = let made = fence_made in let o2 : 1 - p < 2 = omega arith in let back : 1 - (1 - p) ≡ p = omega arith in let q = pasts (1 - p) b in let tr = held.trail (1 - p) o2 b bn in
        let d : Does link_config (1 - p) q (pasts (1 - p) (suc b)) (Takes w) = subst (λ d. Does link_config (1 - p) q (pasts (1 - p) (suc b)) d) received tr.does in
        let src : Sourced link_config (1 - p) q (pasts p) (now p) (Takes w) = subst (λ r. Sourced link_config (1 - p) q (pasts r) (now r) (Takes w)) back (subst (λ d. Sourced link_config (1 - p) q (pasts (1 - (1 - p))) (now (1 - (1 - p))) d) received tr.sourced) in
        let s = src (section_of link_config (1 - (1 - p)) + word_offset link_config.sizes AvailEvent) (ap (λ (k : Place). access_at (config_of link_config (1 - p)) k) receives) in let s1 = s.1 in
        ⊎_elim (λ f. absurd (finds d.4 f))
        (λ (f : (pasts p a).fenced ≤ q.view).
        let e : suc c + (s.0 - suc c) ≡ s.0 = omega arith in ⊎_elim (λ (event : Stands s.0).
        let m = (pasts p s.0).words in let j = word_offset link_config.sizes AvailEvent in
        let met : w ≡ m (section_of link_config p + j) = s.3 ∙ (their_word link_config is (1 - p) o2 q.words m j (inside link_config is field.AvailEvent refl) ∙ ap (λ r. m (section_of link_config r + j)) back) in
        let low : low_half w ≡ t % 65536 = field_read link_config m p field.AvailEvent w refl met ∙ event in
        let asks : wants_doorbell (low_half w) t ≡ true = ap (λ n. wants_doorbell n t) low ∙ asks_there t in
        inl (d.3 ∙ (ap (λ (k : Place). next_place (config_of link_config (1 - p)) k w) receives ∙ rung (wants_doorbell (low_half w) t) asks)))
        (λ moved. inr moved)
        (subst (λ k. Stands k ⊎ HasMovedOn (pasts p) c (now p) t) e (stands (s.0 - suc c) (omega arith))))
        (held.fences p p2 a b (omega arith) (omega arith))
      where
        rung : (x : Bool) → x ≡ true → (if x then RingingOffer else Closed) ≡ RingingOffer
        rung true e = refl
        rung false e = absurd (cc)

pub weak_doorbells_ring : WeakDoorbellsRing
weak_doorbells_ring link_config pasts now is run p p2 = record {
  rings = λ c a b t x v w last ca an bn arms armed look took none receives received session.
      rings_or_moved_on link_config is pasts now (weak_runs_are_held link_config pasts now is run) p p2 c a b t x v w last ca an bn look took none arms armed (alone_of link_config pasts now is run p p2) receives received session;
}
