-- A poll after the doorbell of an offer finds its frame. An offer after that of a poll finds its
-- slot.
use Rattle.std.proofs.Common.{◌≡◌, ◌≢◌, ℕ, zero, suc, ◌+◌, ◌-◌, ◌<◌, ◌≤◌, inl, Bool, true, List, [], ◌∷◌, length, refl, ap, ◌∙◌, subst, arith, ne_eqb}
use Rattle.std.specs.Prelude.{◌==◌}
use Rattle.split_ring.specs.declared.steps.Access.{Access}
use Rattle.split_ring.specs.declared.steps.Access.TheVariants as access
use Rattle.call_grammar.specs.Polls.{published_by}
use Rattle.call_grammar.specs.Steps.{Mark, Return}
use Rattle.call_grammar.specs.Ends.{End, with_access, with_mark, with_marks}
use Rattle.call_grammar.specs.Offers.{PendingOffer, returned_by}
use Rattle.call_grammar.specs.Places.{Place, ReadingUsedIndex, RingingOffer, ReadingAvailIndex, RingingPoll, access_at, step_at}
use Rattle.call_grammar.proofs.OfferLists.{no}
use Rattle.link_invariant.specs.LinkConfig.{LinkConfig, IsLinkConfig, config_of}
use Rattle.link_invariant.proofs.PairObligations.{Before}
use Rattle.link_invariant.proofs.PollsOfPair.{published_is}
use Rattle.link_invariant.proofs.OffersOfPair.{returned_is}
use Rattle.weak_orders.specs.Orders.{releases}
use Rattle.weak_orders.specs.Memory.{Moment, Action, Starts, Begins, Takes, Fences, Receives, Resets, Does, access_of, is_release, Received, seen}
use Rattle.weak_orders.specs.Sessions.{opens_at, opened}
use Rattle.weak_orders.specs.Bell.{DoorbellsFollowIndexes}
use Rattle.weak_orders.proofs.Rows.{offer_doorbell_releases, poll_doorbell_releases}
use Rattle.weak_orders.proofs.Advance.{Held, Found, Reclaimed, Rung}
use Rattle.weak_orders.proofs.RunsKeepInvariant.{weak_runs_are_held}
use Rattle.weak_orders.proofs.Sessions.{view_up, opened_up, sessions_are_one}
use Rattle.weak_orders.proofs.DoorbellsRing.{not_two, longer}

-- A doorbell whose place releases is a release.
released : (link_config : LinkConfig) (q : ℕ) (place : Place) (action : Action) (target vector : ℕ) → releases place ≡ true → access_of link_config q place action ≡ access.Ring target vector → is_release place action ≡ true
released link_config q place Starts target vector e f = absurd (cc)
released link_config q place (Begins call) target vector e f = absurd (cc)
released link_config q place (Takes value) target vector e f = e
released link_config q place Fences target vector e f = absurd (cc)
released link_config q place (Receives k) target vector e f = absurd (cc)
released link_config q place Resets target vector e f = absurd (cc)

-- The number of returned frames doesn't fall at an action that opens no session.
noted_more : (end : End) (marks : List Mark) → end.returned ≤ (with_marks end marks).returned
noted_more end [] = omega arith
noted_more end (Return ∷ marks) = let h = noted_more (with_mark end Return) marks in omega arith
noted_more end (mark ∷ marks) = noted_more (with_mark end mark) marks

stated_more : (end : End) (a : Access) → ((s : ℕ) → a ≡ access.State s → s ≢ 2) → (with_access end a).returned ≡ end.returned
stated_more end (access.State s) two = no (s == 2) 0 end.returned (ne_eqb s 2 (two s refl))
stated_more end (access.Write at n) two = refl
stated_more end (access.Read word) two = refl
stated_more end (access.Ring target vector) two = refl
stated_more end access.Nothing two = refl

returns_on : (link_config : LinkConfig) (q : ℕ) (old new : Moment) (action : Action) → Does link_config q old new action → opens_at old.place action ≡ 0 → old.end.returned ≤ new.end.returned
returns_on link_config q old new Starts d z = absurd d
returns_on link_config q old new (Begins call) d z = let e = ap (λ (e : End). e.returned) d.3 in omega arith
returns_on link_config q old new (Takes v) d z = let s = step_at (config_of link_config q) old.place v in let a = access_at (config_of link_config q) old.place in
    let e = ap (λ (e : End). e.returned) d.2 in let f = stated_more old.end a (not_two link_config q old.place v z) in let g = noted_more (with_access old.end a) s.marks in omega arith
returns_on link_config q old new Fences d z = let e = ap (λ (e : End). e.returned) d.1 in omega arith
returns_on link_config q old new (Receives k) d z = let e = ap (λ (e : End). e.returned) d.1 in omega arith
returns_on link_config q old new Resets d z = let e = ap (λ (e : End). e.returned) d.1 in omega arith

module _ (link_config : LinkConfig) (is : IsLinkConfig link_config) (pasts : ℕ → ℕ → Moment) (now : ℕ → ℕ) (held : Held link_config pasts now) where
  more : (q : ℕ) → q < 2 → (i j : ℕ) → i + j ≤ now q → opened (pasts q) (i + j) ≡ opened (pasts q) i → (pasts q i).end.returned ≤ (pasts q (i + j)).end.returned
  more q q2 i zero to same = let e = ap (λ k. (pasts q k).end.returned) (let e : i + zero ≡ i = omega arith in e) in omega arith
  more q q2 i (suc j) to same = let k = i + j in let e : i + suc j ≡ suc k = omega arith in let f = ap (opened (pasts q)) e in let g = ap (λ k. (pasts q k).end.returned) e in
      let up = opened_up link_config is pasts now held q i j in let t = held.trail q q2 k (omega arith) in let h = more q q2 i j (omega arith) (omega arith) in
      let s = returns_on link_config q (pasts q k) (pasts q (suc k)) (pasts q (suc k)).action t.does (omega arith) in omega arith

  module _ (p : ℕ) (p2 : p < 2) where
    -- After an end receives a doorbell, its view includes the doorbell.
    known : (b h a : ℕ) → h < a → suc a ≤ now p → releases (pasts (1 - p) b).place ≡ true → (pasts p (suc h)).action ≡ Receives b → b < (pasts p a).view
    known b h a ha an rings receives =
        let r : Received link_config p (pasts p (suc h)) (pasts (1 - p)) b = subst (λ d. Rung link_config p (pasts p (suc h)) (pasts (1 - p)) d) receives (held.trail p p2 h (omega arith)).rung in
        let after = r.1 (released link_config (1 - p) (pasts (1 - p) b).place (pasts (1 - p) (suc b)).action p link_config.vector rings r.0) in
        let up = view_up link_config is pasts now held p p2 (suc h) (a - suc h) (omega arith) in let at = ap (λ k. (pasts p k).view) (let e : suc h + (a - suc h) ≡ a = omega arith in e) in omega arith

    poll_finds : (b h a t v : ℕ) (last : Bool) → h < a → suc a ≤ now p → (pasts (1 - p) b).place ≡ RingingOffer → (pasts p (suc h)).action ≡ Receives b → (pasts p a).place ≡ ReadingAvailIndex t last → (pasts p (suc a)).action ≡ Takes v →
        opened (pasts (1 - p)) b ≡ opened (pasts (1 - p)) (pasts p a).view → length (pasts (1 - p) b).end.accepted ≤ t + published_by t v
    poll_finds b h a t v last ha an rings receives look took session = let o2 : 1 - p < 2 = omega arith in let after = known b h a ha an (ap releases rings ∙ offer_doorbell_releases) receives in
        let g : Found link_config p (pasts p a) (pasts p (suc a)) (pasts (1 - p)) (Takes v) = subst (λ d. Found link_config p (pasts p a) (pasts p (suc a)) (pasts (1 - p)) d) took (held.trail p p2 a an).found in
        let s = g t last look in let s1 = s.1 in let s2 = s.2 in let views = held.views p p2 (suc a) an in let back = held.causal p p2 a an s.0 s2 in
        let c = held.cuts p p2 a s.0 (omega arith) (omega arith) s1 back in let m = pasts (1 - p) s.0 in let x = seen link_config p (pasts p a).words m.words in
        let bf : Before link_config x p (pasts p a).end (ReadingAvailIndex t last) m.end m.place = subst (λ k. Before link_config x p (pasts p a).end k m.end m.place) look c.before in
        let exact = published_is link_config is p x (pasts p a).end m.end m.place bf.mark t last v s.3 bf.opposite bf.mine (bf.faces (inl (inl bf.mine.holds.0))) in
        let one = (sessions_are_one link_config is pasts now held p p2 a s.0 (omega arith) (omega arith) (inl bf.mine.holds.0) s1 back).0 in
        let e : b + (s.0 - b) ≡ s.0 = omega arith in let z = ap (opened (pasts (1 - p))) e in let y = ap (λ k. length (pasts (1 - p) k).end.accepted) e in
        let l = longer link_config is pasts now held (1 - p) o2 b (s.0 - b) (omega arith) (omega arith) in omega arith

    offer_frees : (b h a freed v : ℕ) (pending : PendingOffer) → h < a → suc a ≤ now p → (pasts (1 - p) b).place ≡ RingingPoll → (pasts p (suc h)).action ≡ Receives b → (pasts p a).place ≡ ReadingUsedIndex pending freed → (pasts p (suc a)).action ≡ Takes v →
        opened (pasts (1 - p)) b ≡ opened (pasts (1 - p)) (pasts p a).view → (pasts (1 - p) b).end.returned ≤ freed + returned_by freed v
    offer_frees b h a freed v pending ha an rings receives look took session = let o2 : 1 - p < 2 = omega arith in let after = known b h a ha an (ap releases rings ∙ poll_doorbell_releases) receives in
        let g : Reclaimed link_config p (pasts p a) (pasts p (suc a)) (pasts (1 - p)) (Takes v) = subst (λ d. Reclaimed link_config p (pasts p a) (pasts p (suc a)) (pasts (1 - p)) d) took (held.trail p p2 a an).reclaimed in
        let s = g pending freed look in let s1 = s.1 in let s2 = s.2 in let views = held.views p p2 (suc a) an in let back = held.causal p p2 a an s.0 s2 in
        let c = held.cuts p p2 a s.0 (omega arith) (omega arith) s1 back in let m = pasts (1 - p) s.0 in let x = seen link_config p (pasts p a).words m.words in
        let bf : Before link_config x p (pasts p a).end (ReadingUsedIndex pending freed) m.end m.place = subst (λ k. Before link_config x p (pasts p a).end k m.end m.place) look c.before in
        let exact = (returned_is link_config is p x (pasts p a).end m.end m.place bf.mark pending freed v s.3 bf.mine (bf.faces (inl (inl bf.mine.holds.0)))).0 in let same = bf.mine.holds.2 in
        let one = (sessions_are_one link_config is pasts now held p p2 a s.0 (omega arith) (omega arith) (inl bf.mine.holds.0) s1 back).0 in
        let e : b + (s.0 - b) ≡ s.0 = omega arith in let z = ap (opened (pasts (1 - p))) e in let y = ap (λ k. (pasts (1 - p) k).end.returned) e in
        let l = more (1 - p) o2 b (s.0 - b) (omega arith) (omega arith) in omega arith

pub doorbells_follow_indexes : DoorbellsFollowIndexes
doorbells_follow_indexes link_config pasts now is run p p2 = let h = weak_runs_are_held link_config pasts now is run in record { finds = poll_finds link_config is pasts now h p p2; frees = offer_frees link_config is pasts now h p p2 }
