-- The last action of an end keeps the invariant at each consistent moment of the other.
use Rattle.std.proofs.Common.{◌≡◌, ◌≢◌, ℕ, zero, suc, ◌+◌, ◌-◌, ◌<◌, ◌≤◌, ◌⊎◌, inl, inr, ⊎_elim, true, List, [], ◌∷◌, ◌++◌, refl, sym, ap, ◌∙◌, subst, arith, append_assoc}
use mathlib.Core.Logic.{dite}
use native.Mathlib.Decide.{dec_lt}
use Rattle.split_ring.specs.declared.steps.Access.{Access}
use Rattle.split_ring.specs.declared.steps.Access.TheVariants as access
use Rattle.split_ring.specs.Spelling.{low_half}
use Rattle.link_handshake.specs.declared.Phase.TheVariants.{Run}
use Rattle.call_grammar.specs.Steps.{Over}
use Rattle.call_grammar.specs.Ends.{End, with_marks, end_after}
use Rattle.call_grammar.specs.Offers.{wants_doorbell}
use Rattle.call_grammar.specs.Places.{Place, Closed, ReadingOtherState, WritingState, Refusing, ReadingUsedIndex, ReadingUsedId, ReadingAvailEvent, RingingOffer, ReadingAvailIndex, ReadingAvailEntry, ReadingDescAddressLow, ReadingDescAddressHigh, ReadingDescLength, ReadingDescFlags, ReadingFrameWord, access_at, next_place, step_at}
use Rattle.link_invariant.specs.LinkConfig.{LinkConfig, IsLinkConfig, config_of, fields}
use Rattle.link_invariant.specs.Steps.{ReadsMemory}
use Rattle.link_invariant.specs.EndInvariant.{PlaceInvariant, EndInvariant}
use Rattle.link_invariant.proofs.EndObligations.{by_test}
use Rattle.link_invariant.proofs.EndInvariantKept.{alone_kept}
use Rattle.link_invariant.proofs.PairObligations.{takes_on}
use Rattle.weak_orders.specs.Orders.{acquires}
use Rattle.weak_orders.specs.Memory.{Moment, Takes, Does, seen}
use Rattle.weak_orders.proofs.Rows.{state_load_acquires, used_index_load_acquires, avail_index_load_acquires}
use Rattle.weak_orders.proofs.Cuts.{Cut, step_cut}
use Rattle.weak_orders.proofs.Diamond.{looked}
use Rattle.weak_orders.proofs.InvariantAtMoments.{At, like}
use Rattle.weak_orders.proofs.Advance.{Held, left_read, beside, advance}
use Rattle.weak_orders.proofs.OneLoadResult.{IsRelaxed, Sound, SameLook, same_look, grows}
use Rattle.weak_orders.proofs.StoresAreReleases.{IsKey}

-- The three kinds of loads

word_in : Access → ℕ
word_in (access.Read w) = w
word_in a = 0

read_word : {a : Access} {word : ℕ} → a ≡ access.Read word → word ≡ word_in a
unfolding word_in
read_word e = sym (ap word_in e)

-- A load is an acquire of a State or an index, a relaxed load of a field, or a load of the event.
abbrev pub Kind : LinkConfig → ℕ → Place → ℕ → Type 0
Kind link_config p place word =
    ((acquires place ≡ true) × IsKey link_config (1 - p) word × ((memory : ℕ → ℕ) (end : End) → PlaceInvariant link_config memory p end place → (end.handshake.phase ≡ Run) ⊎ (word ≡ 1 - p))) ⊎
    (IsRelaxed place ⊎ ((number : ℕ) × (place ≡ ReadingAvailEvent number)))

pub kinds : (link_config : LinkConfig) (p : ℕ) (place : Place) (word : ℕ) → access_at (config_of link_config p) place ≡ access.Read word → Kind link_config p place word
unfolding word_in
kinds link_config p (ReadingOtherState handshake) word e = inl (state_load_acquires handshake, inl (read_word e), λ m end h. inr (read_word e))
kinds link_config p (ReadingUsedIndex pending freed) word e = inl (used_index_load_acquires pending freed, inr (inr (read_word e)), λ m end h. inl h.0)
kinds link_config p (ReadingAvailIndex taken last) word e = inl (avail_index_load_acquires taken last, inr (inl (read_word e)), λ m end h. inl h.0)
kinds link_config p (ReadingAvailEvent number) word e = inr (inr (number, refl))
kinds link_config p (ReadingUsedId pending freed more) word e = inr (inl tt)
kinds link_config p (ReadingAvailEntry number more) word e = inr (inl tt)
kinds link_config p (ReadingDescAddressLow number more entry) word e = inr (inl tt)
kinds link_config p (ReadingDescAddressHigh number more entry low) word e = inr (inl tt)
kinds link_config p (ReadingDescLength number more entry address) word e = inr (inl tt)
kinds link_config p (ReadingDescFlags number more entry address bytes) word e = inr (inl tt)
kinds link_config p (ReadingFrameWord number more entry address bytes read words) word e = inr (inl tt)
kinds link_config p place word e = absurd (cc)

relaxed_runs : (link_config : LinkConfig) (memory : ℕ → ℕ) (p : ℕ) (end : End) (place : Place) → IsRelaxed place → PlaceInvariant link_config memory p end place → end.handshake.phase ≡ Run
relaxed_runs link_config memory p end (ReadingUsedId pending freed more) r h = h.0
relaxed_runs link_config memory p end (ReadingAvailEntry number more) r h = h.0
relaxed_runs link_config memory p end (ReadingDescAddressLow number more entry) r h = h.0
relaxed_runs link_config memory p end (ReadingDescAddressHigh number more entry low) r h = h.0
relaxed_runs link_config memory p end (ReadingDescLength number more entry address) r h = h.0
relaxed_runs link_config memory p end (ReadingDescFlags number more entry address bytes) r h = h.0
relaxed_runs link_config memory p end (ReadingFrameWord number more entry address bytes read words) r h = h.0
relaxed_runs link_config memory p end place r h = absurd r

meets_read : (m : ℕ → ℕ) (a : Access) (word v : ℕ) → a ≡ access.Read word → v ≡ m word → ReadsMemory m a v
meets_read m a word v e g = subst (λ (k : Access). ReadsMemory m k v) (sym e) g

-- The invariant after a relaxed load.
sound_of : (link_config : LinkConfig) (p : ℕ) (x y : ℕ → ℕ) (end : End) (place : Place) (v word : ℕ) (u : End) (w : Place) → IsRelaxed place → access_at (config_of link_config p) place ≡ access.Read word → EndInvariant link_config (seen link_config p x y) p end place →
    Cut link_config p x (end_after end (step_at (config_of link_config p) place v)) (next_place (config_of link_config p) place v) y u w → Sound link_config p end place v u.accepted
sound_of link_config p x y end place v word u w r e a c =
    let run = relaxed_runs link_config (seen link_config p x y) p end place r a.holds in
    let run' = ⊎_elim (λ l. ap (λ (q : End). q.handshake.phase) l.same ∙ run) (λ k. k.run') (looked link_config (seen link_config p x y) p end place v word e a) in
    let f = (c.before.faces (inl (inl run'))).takes in
    record { calm = c.calm; field = fields link_config (seen link_config p x y) p; polls = f.polls; rest = f.prefix.0; prefix = f.prefix.1 }

-- The load of the event keeps the invariant, whatever it gives.
pub event_cut : (link_config : LinkConfig) (is : IsLinkConfig link_config) (p : ℕ) (p2 : p < 2) (x y : ℕ → ℕ) (end : End) (number v : ℕ) (u : End) (w : Place) → Cut link_config p x end (ReadingAvailEvent number) y u w →
    Cut link_config p x (end_after end (step_at (config_of link_config p) (ReadingAvailEvent number) v)) (next_place (config_of link_config p) (ReadingAvailEvent number) v) y u w
event_cut link_config is p p2 x y end number v u w c = let m = seen link_config p x y in
    by_test (λ marks place. EndInvariant link_config m p (with_marks end marks) place → Cut link_config p x (with_marks end marks) place y u w) (wants_doorbell (low_half v) number) [] (Over ∷ []) RingingOffer Closed
    (λ test a. rests RingingOffer a (λ e. cc) (λ e. cc))
    (λ test a. closes a)
    (alone_kept.steps link_config p m m end (ReadingAvailEvent number) v is p2 refl refl c.before.mine)
  where
    rests : (place : Place) → EndInvariant link_config (seen link_config p x y) p end RingingOffer → RingingOffer ≢ Refusing → RingingOffer ≢ WritingState 1 → Cut link_config p x end RingingOffer y u w
    rests place a nr ns = let b = c.before in let run = b.mine.holds.0 in record {
      before = record {
        mine = a;
        opposite = b.opposite;
        mark = b.mark;
        from = λ t. b.from (inl run);
        back = λ t. ((b.back t).0, ns);
        faces = λ t. let f = b.faces (inl (inl run)) in record { mine = f.mine; opposite = f.opposite; sends = f.sends; takes = takes_on RingingOffer (λ k. refl) tt f.takes };
      };
      calm = nr;
      opposite = c.opposite;
    }

    closes : EndInvariant link_config (seen link_config p x y) p end Closed → Cut link_config p x end Closed y u w
    closes a = let b = c.before in let run = b.mine.holds.0 in record {
      before = record {
        mine = a;
        opposite = b.opposite;
        mark = b.mark;
        from = λ t. b.from (inl run);
        back = λ t. ((b.back t).0, λ e. cc);
        faces = λ t. let f = b.faces (inl (inl run)) in record { mine = f.mine; opposite = f.opposite; sends = f.sends; takes = takes_on Closed (λ k. refl) tt f.takes };
      };
      calm = λ e. cc;
      opposite = c.opposite;
    }

-- The last action

module _ (link_config : LinkConfig) (is : IsLinkConfig link_config) (pasts : ℕ → ℕ → Moment) (now : ℕ → ℕ) (held : Held link_config pasts now) (p : ℕ) (p2 : p < 2) where
  abbrev Old : Moment
  Old = pasts p (now p)

  -- The frames that the other accepted at a later moment extend those at an earlier one.
  grown : (run : Old.end.handshake.phase ≡ Run) (i j : ℕ) → Old.view ≤ i → i + j ≤ now (1 - p) → (t : List (List ℕ)) × ((pasts (1 - p) (i + j)).end.accepted ≡ (pasts (1 - p) i).end.accepted ++ t)
  grown run i zero from to = let h = grows' in h
    where
      grows' : (t : List (List ℕ)) × ((pasts (1 - p) (i + zero)).end.accepted ≡ (pasts (1 - p) i).end.accepted ++ t)
      grows' = ([], ap (λ k. (pasts (1 - p) k).end.accepted) (let e : i + zero ≡ i = omega arith in e) ∙ nil (pasts (1 - p) i).end.accepted)
        where
          nil : (xs : List (List ℕ)) → xs ≡ xs ++ []
          nil [] = refl
          nil (x ∷ xs) = ap (λ (y : List (List ℕ)). x ∷ y) (nil xs)
  grown run i (suc j) from to = let g = grown run i j from (omega arith) in let k = i + j in let b = beside link_config is pasts now held p p2 k (omega arith) (omega arith) in
      let t = held.trail (1 - p) (omega arith) k (omega arith) in let m = pasts (1 - p) k in
      let h = grows link_config (seen link_config p Old.words m.words) (1 - p) m (pasts (1 - p) (suc k)) (pasts (1 - p) (suc k)).action t.does b.before.opposite.holds (b.before.from (inl run)).0 in
      (g.0 ++ h.0, ap (λ l. (pasts (1 - p) l).end.accepted) (let e : i + suc j ≡ suc k = omega arith in e) ∙ (h.1 ∙ (ap (λ (x : List (List ℕ)). x ++ h.0) g.1 ∙ append_assoc (pasts (1 - p) i).end.accepted g.0 h.0)))

  module _ (new : Moment) (v word : ℕ) (reads : access_at (config_of link_config p) Old.place ≡ access.Read word) (d : Does link_config p Old new (Takes v)) where
    -- The invariant after a load of the word at moment k of the other.
    look_at : (k w : ℕ) → Old.view ≤ k → k ≤ now (1 - p) → w ≡ seen link_config p Old.words (pasts (1 - p) k).words word →
        Cut link_config p new.words (end_after Old.end (step_at (config_of link_config p) Old.place w)) (next_place (config_of link_config p) Old.place w) (pasts (1 - p) k).words (pasts (1 - p) k).end (pasts (1 - p) k).place
    look_at k w from to gave = let m = pasts (1 - p) k in step_cut link_config is p p2 Old.words new.words m.words Old.end Old.place m.end m.place w d.0 d.1
        (meets_read (seen link_config p Old.words m.words) (access_at (config_of link_config p) Old.place) word w reads gave) (beside link_config is pasts now held p p2 k from to)

    pub fresh : (i : ℕ) → Old.view ≤ i → i ≤ now (1 - p) → v ≡ seen link_config p Old.words (pasts (1 - p) i).words word → At link_config p new (pasts (1 - p) i)
    fresh i from to gave = like refl d.2 d.3 (look_at i v from to gave)

    -- A load-acquire.
    pub acquired : (i j : ℕ) → Old.view ≤ i → i ≤ j → j ≤ now (1 - p) → v ≡ seen link_config p Old.words (pasts (1 - p) i).words word → At link_config p new (pasts (1 - p) j)
    acquired i j from ij to gave = let words = left_read p Old.words new.words (access_at (config_of link_config p) Old.place) word reads d.1 in let e : i + (j - i) ≡ j = omega arith in
        subst (λ k. At link_config p new (pasts (1 - p) k)) e (advance link_config is pasts now held p p2 new v word reads words d.2 d.3 d.4 i from gave (j - i) (omega arith) (fresh i from (omega arith) gave))

    -- A relaxed load.
    pub relaxed : (i j : ℕ) → IsRelaxed Old.place → Old.view ≤ i → i ≤ now (1 - p) → Old.view ≤ j → j ≤ now (1 - p) → v ≡ seen link_config p Old.words (pasts (1 - p) i).words word → At link_config p new (pasts (1 - p) j)
    relaxed i j r from to from' to' gave = let w = seen link_config p Old.words (pasts (1 - p) j).words word in let words = left_read p Old.words new.words (access_at (config_of link_config p) Old.place) word reads d.1 in
        let ci = look_at i v from to gave in let cj = look_at j w from' to' refl in
        let bi = beside link_config is pasts now held p p2 i from to in let bj = beside link_config is pasts now held p p2 j from' to' in
        let run = relaxed_runs link_config (seen link_config p Old.words (pasts (1 - p) i).words) p Old.end Old.place r bi.before.mine.holds in
        let si = sound_of link_config p Old.words (pasts (1 - p) i).words Old.end Old.place v word (pasts (1 - p) i).end (pasts (1 - p) i).place r reads bi.before.mine (like (sym words) refl refl ci) in
        let sj = sound_of link_config p Old.words (pasts (1 - p) j).words Old.end Old.place w word (pasts (1 - p) j).end (pasts (1 - p) j).place r reads bj.before.mine (like (sym words) refl refl cj) in
        let same = alike run i j w from from' to to' r si sj in
        like refl (d.2 ∙ same.0) (d.3 ∙ same.1) cj
      where
        alike : (run : Old.end.handshake.phase ≡ Run) (i j w : ℕ) → Old.view ≤ i → Old.view ≤ j → i ≤ now (1 - p) → j ≤ now (1 - p) → IsRelaxed Old.place → Sound link_config p Old.end Old.place v (pasts (1 - p) i).end.accepted → Sound link_config p Old.end Old.place w (pasts (1 - p) j).end.accepted → SameLook link_config p Old.end Old.place v w
        alike run i j w fi fj ti tj r si sj = dite (dec_lt i j)
            (λ lt. let g = grown run i (j - i) fi (omega arith) in let e : i + (j - i) ≡ j = omega arith in
            same_look link_config p Old.end Old.place v w (pasts (1 - p) i).end.accepted (pasts (1 - p) j).end.accepted g.0 r (ap (λ k. (pasts (1 - p) k).end.accepted) (sym e) ∙ g.1) si sj)
            (λ ge. let g = grown run j (i - j) fj (omega arith) in let e : j + (i - j) ≡ i = omega arith in
            let s = same_look link_config p Old.end Old.place w v (pasts (1 - p) j).end.accepted (pasts (1 - p) i).end.accepted g.0 r (ap (λ k. (pasts (1 - p) k).end.accepted) (sym e) ∙ g.1) sj si in (sym s.0, sym s.1))
