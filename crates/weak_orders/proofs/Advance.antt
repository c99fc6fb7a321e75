-- The invariant of all moments of two ends. A load of one end keeps it while the other end acts.
use Rattle.std.proofs.Common.{◌≡◌, ℕ, zero, suc, ◌+◌, ◌-◌, ◌<◌, ◌≤◌, ◌⊎◌, inl, inr, ⊎_elim, false, refl, sym, subst, arith, Bool}
use Rattle.split_ring.specs.declared.steps.Access.{Access}
use Rattle.split_ring.specs.declared.steps.Access.TheVariants as access
use Rattle.call_grammar.specs.Ends.{End, end_after}
use Rattle.link_handshake.specs.HandshakeState.{HandshakeState}
use Rattle.split_ring.specs.Layout.{word_offset, AvailIndex, UsedIndex}
use Rattle.call_grammar.specs.Places.{Place, access_at, next_place, step_at, ReadingOtherState, ReadingUsedIndex, ReadingAvailIndex, ReadingAvailEvent}
use Rattle.call_grammar.specs.Offers.{PendingOffer}
use Rattle.link_invariant.specs.LinkConfig.{LinkConfig, IsLinkConfig, config_of, section_of}
use Rattle.link_invariant.specs.Steps.{ReadsMemory, MemoryAfter}
use Rattle.link_invariant.specs.EndInvariant.{EndInvariant}
use Rattle.weak_orders.specs.Memory.{Moment, Action, Starts, Begins, Takes, Fences, Receives, Resets, Does, Received, seen}
use Rattle.weak_orders.proofs.Cuts.{Cut, flip}
use Rattle.weak_orders.proofs.Diamond.{Looked, looked, Clash, diamond}
use Rattle.weak_orders.proofs.InvariantAtMoments.{At, like, turn, met, action_cut, Comes, no_clash}

-- A moment of the other at which the word has the value that the action loaded.
abbrev pub Sourced : LinkConfig → ℕ → Moment → (others : ℕ → Moment) → (now : ℕ) → Action → Type 0
Sourced link_config p m others now (Takes value) = (word : ℕ) → access_at (config_of link_config p) m.place ≡ access.Read word → Comes link_config p m others now value word
Sourced link_config p m others now _ = Unit {0}

-- The same for a load of the other's State. The load acquires, so the view includes that moment.
abbrev pub Took : LinkConfig → ℕ → (m m' : Moment) → (others : ℕ → Moment) → Action → Type 0
Took link_config p m m' others (Takes value) = (h : HandshakeState) → m.place ≡ ReadingOtherState h → (s : ℕ) × (m.view ≤ s) × (s ≤ m'.view) × (value ≡ (others s).words (1 - p))
Took link_config p m m' others _ = Unit {0}

-- The same for a load of the available index.
abbrev pub Found : LinkConfig → ℕ → (m m' : Moment) → (others : ℕ → Moment) → Action → Type 0
Found link_config p m m' others (Takes value) = (t : ℕ) (last : Bool) → m.place ≡ ReadingAvailIndex t last →
    (s : ℕ) × (m.view ≤ s) × (s ≤ m'.view) × (value ≡ seen link_config p m.words (others s).words (section_of link_config (1 - p) + word_offset link_config.sizes AvailIndex))
Found link_config p m m' others _ = Unit {0}

-- The same for a load of the used index.
abbrev pub Reclaimed : LinkConfig → ℕ → (m m' : Moment) → (others : ℕ → Moment) → Action → Type 0
Reclaimed link_config p m m' others (Takes value) = (pending : PendingOffer) (freed : ℕ) → m.place ≡ ReadingUsedIndex pending freed →
    (s : ℕ) × (m.view ≤ s) × (s ≤ m'.view) × (value ≡ seen link_config p m.words (others s).words (section_of link_config (1 - p) + word_offset link_config.sizes UsedIndex))
Reclaimed link_config p m m' others _ = Unit {0}

-- The same for a doorbell that the end received.
abbrev pub Rung : LinkConfig → ℕ → Moment → (others : ℕ → Moment) → Action → Type 0
Rung link_config p m' others (Receives k) = Received link_config p m' others k
Rung link_config p m' others _ = Unit {0}

pub record Trail (link_config : LinkConfig) (p : ℕ) (past : ℕ → Moment) (k : ℕ) (others : ℕ → Moment) (now : ℕ) : Type 0 where
  pub does : Does link_config p (past k) (past (suc k)) (past (suc k)).action
  pub sourced : Sourced link_config p (past k) others now (past (suc k)).action
  pub rises : (past k).view ≤ (past (suc k)).view
  pub climbs : (past k).fenced ≤ (past (suc k)).fenced
  pub fence : (past (suc k)).action ≡ Fences → (past (suc k)).fenced ≡ suc k
  pub took : Took link_config p (past k) (past (suc k)) others (past (suc k)).action
  pub found : Found link_config p (past k) (past (suc k)) others (past (suc k)).action
  pub reclaimed : Reclaimed link_config p (past k) (past (suc k)) others (past (suc k)).action
  pub rung : Rung link_config p (past (suc k)) others (past (suc k)).action

-- The invariant of two ends. The pair holds at each consistent cut. No view passes the other's last
-- moment. Of two full fences the later one knows the earlier one. The State word of an end that
-- owes no fence is unchanged since its last fence. Each action is one of the call grammar.
pub record Held (link_config : LinkConfig) (pasts : ℕ → ℕ → Moment) (now : ℕ → ℕ) : Type 0 where
  pub cuts : (p : ℕ) → p < 2 → (a b : ℕ) → a ≤ now p → b ≤ now (1 - p) → (pasts p a).view ≤ b → (pasts (1 - p) b).view ≤ a → At link_config p (pasts p a) (pasts (1 - p) b)
  pub views : (p : ℕ) → p < 2 → (a : ℕ) → a ≤ now p → (pasts p a).view ≤ now (1 - p)
  pub fences : (p : ℕ) → p < 2 → (a b : ℕ) → a ≤ now p → b ≤ now (1 - p) → ((pasts (1 - p) b).fenced ≤ (pasts p a).view) ⊎ ((pasts p a).fenced ≤ (pasts (1 - p) b).view)
  pub still : (p : ℕ) → p < 2 → (a k : ℕ) → a ≤ now p → (pasts p a).owed ≡ false → (pasts p a).fenced ≤ k → k ≤ a → (pasts p k).words p ≡ (pasts p a).words p
  pub low : (p : ℕ) → p < 2 → (a : ℕ) → a ≤ now p → (pasts p a).fenced ≤ (pasts p (now p)).fenced
  pub alone : (p : ℕ) → p < 2 → (a : ℕ) → a ≤ now p → (y : ℕ → ℕ) × EndInvariant link_config (seen link_config p (pasts p a).words y) p (pasts p a).end (pasts p a).place
  pub causal : (p : ℕ) → p < 2 → (a : ℕ) → suc a ≤ now p → (k : ℕ) → k ≤ (pasts p (suc a)).view → (pasts (1 - p) k).view ≤ a
  pub received : (p : ℕ) → p < 2 → (a : ℕ) → a ≤ now p → (t k : ℕ) → (pasts p a).owed ≡ false → (pasts p a).place ≡ ReadingAvailEvent t → (pasts p a).fenced ≤ k → k ≤ a → (pasts p k).place ≡ ReadingAvailEvent t
  pub near : (p : ℕ) → p < 2 → (a : ℕ) → a ≤ now p → (pasts p a).fenced ≤ a
  pub trail : (p : ℕ) → p < 2 → (k : ℕ) → suc k ≤ now p → Trail link_config p (pasts p) k (pasts (1 - p)) (now (1 - p))

like_theirs : {link_config : LinkConfig} {p : ℕ} {x y y' : ℕ → ℕ} {end : End} {place : Place} {u : End} {w : Place} → y' ≡ y → Cut link_config p x end place y u w → Cut link_config p x end place y' u w
like_theirs {link_config} {p} {x} {y} {y'} {end} {place} {u} {w} e c = subst (λ (k : ℕ → ℕ). Cut link_config p x end place k u w) (sym e) c

pub left_read : (p : ℕ) (x x' : ℕ → ℕ) (a : Access) (word : ℕ) → a ≡ access.Read word → MemoryAfter p x a x' → x' ≡ x
left_read p x x' a word e l = let g : MemoryAfter p x (access.Read word) x' = subst (λ (k : Access). MemoryAfter p x k x') e l in g

looked_so : (link_config : LinkConfig) (p : ℕ) (x y : ℕ → ℕ) (end end' : End) (place place' : Place) (u : End) (w : Place) (v word : ℕ) → access_at (config_of link_config p) place ≡ access.Read word → end' ≡ end_after end (step_at (config_of link_config p) place v) → place' ≡ next_place (config_of link_config p) place v → Cut link_config p x end place y u w → Looked end place end' place'
looked_so link_config p x y end end' place place' u w v word e f g c = subst (λ (k : End). Looked end place k place') (sym f) (subst (λ (k : Place). Looked end place (end_after end (step_at (config_of link_config p) place v)) k) (sym g) (looked link_config (seen link_config p x y) p end place v word e c.before.mine))

module _ (link_config : LinkConfig) (is : IsLinkConfig link_config) (pasts : ℕ → ℕ → Moment) (now : ℕ → ℕ) (held : Held link_config pasts now) (p : ℕ) (p2 : p < 2) where
  -- The invariant at the last moment of end p and a consistent moment of the other.
  pub beside : (k : ℕ) → (pasts p (now p)).view ≤ k → k ≤ now (1 - p) → At link_config p (pasts p (now p)) (pasts (1 - p) k)
  beside k from to = let back : 1 - (1 - p) ≡ p = omega arith in let v = subst (λ q. (pasts (1 - p) k).view ≤ now q) back (held.views (1 - p) (omega arith) k to) in held.cuts p p2 (now p) k (omega arith) to from v

  module _ (new : Moment) (v word : ℕ) (reads : access_at (config_of link_config p) (pasts p (now p)).place ≡ access.Read word) (words : new.words ≡ (pasts p (now p)).words)
      (end_is : new.end ≡ end_after (pasts p (now p)).end (step_at (config_of link_config p) (pasts p (now p)).place v)) (place_is : new.place ≡ next_place (config_of link_config p) (pasts p (now p)).place v)
      (free : (pasts p (now p)).owed ≡ false) (i : ℕ) (from : (pasts p (now p)).view ≤ i) (gave : v ≡ seen link_config p (pasts p (now p)).words (pasts (1 - p) i).words word) where
    both_look : (k value word' : ℕ) → i ≤ k → suc k ≤ now (1 - p) → access_at (config_of link_config (1 - p)) (pasts (1 - p) k).place ≡ access.Read word' → Comes link_config (1 - p) (pasts (1 - p) k) (pasts p) (now p) value word' →
        Does link_config (1 - p) (pasts (1 - p) k) (pasts (1 - p) (suc k)) (Takes value) → At link_config p new (pasts (1 - p) k) → At link_config p new (pasts (1 - p) (suc k))
    both_look k value word' ik kn e' c' d c =
        let old = pasts p (now p) in let m = pasts (1 - p) k in let m' = pasts (1 - p) (suc k) in let n = now p in let o2 : 1 - p < 2 = omega arith in let back : 1 - (1 - p) ≡ p = omega arith in
        let at : At link_config p old m = beside k (omega arith) (omega arith) in
        let at' : At link_config p old m' = beside (suc k) (omega arith) kn in
        let ta : At link_config (1 - p) m old = flip link_config is p p2 at in
        let same : m'.words ≡ m.words = left_read (1 - p) m.words m'.words (access_at (config_of link_config (1 - p)) m.place) word' e' d.1 in
        let l = looked_so link_config p old.words m.words old.end new.end old.place new.place m.end m.place v word reads end_is place_is at in
        let h = looked_so link_config (1 - p) m.words old.words m.end m'.end m.place m'.place old.end old.place value word' e' d.2 d.3 ta in
        let mine : Comes link_config p old (pasts (1 - p)) k v word = (i, from, ik, gave) in
        let still = λ (j : ℕ) (lo : old.fenced ≤ j) (hi : j ≤ n). held.still p p2 n j (omega arith) free lo hi in
        let still' = λ (j : ℕ) (lo : m.fenced ≤ j) (hi : j ≤ k). held.still (1 - p) o2 k j (omega arith) d.4 lo hi in
        let order = held.fences p p2 n k (omega arith) (omega arith) in
        like words refl refl (like_theirs same (diamond link_config p old.words m.words old.end new.end old.place new.place m.end m'.end m.place m'.place l h
        (no_clash link_config is p p2 (pasts p) (pasts (1 - p)) n k v value word word' new.end m'.end new.place m'.place at.before.mine at.before.opposite order still still' reads e' mine c' l h place_is d.3)
        (second k value word' back ta at e' c' mine order still still' l h d.3)
        (like (sym words) refl refl c) (like_theirs (sym same) at')))
      where
        second : (k value word' : ℕ) (back : 1 - (1 - p) ≡ p) → At link_config (1 - p) (pasts (1 - p) k) (pasts p (now p)) → At link_config p (pasts p (now p)) (pasts (1 - p) k) → access_at (config_of link_config (1 - p)) (pasts (1 - p) k).place ≡ access.Read word' → Comes link_config (1 - p) (pasts (1 - p) k) (pasts p) (now p) value word' →
            Comes link_config p (pasts p (now p)) (pasts (1 - p)) k v word → ((pasts (1 - p) k).fenced ≤ (pasts p (now p)).view) ⊎ ((pasts p (now p)).fenced ≤ (pasts (1 - p) k).view) →
            ((j : ℕ) → (pasts p (now p)).fenced ≤ j → j ≤ now p → (pasts p j).words p ≡ (pasts p (now p)).words p) → ((j : ℕ) → (pasts (1 - p) k).fenced ≤ j → j ≤ k → (pasts (1 - p) j).words (1 - p) ≡ (pasts (1 - p) k).words (1 - p)) →
            Looked (pasts p (now p)).end (pasts p (now p)).place new.end new.place → Looked (pasts (1 - p) k).end (pasts (1 - p) k).place (pasts (1 - p) (suc k)).end (pasts (1 - p) (suc k)).place →
            (pasts (1 - p) (suc k)).place ≡ next_place (config_of link_config (1 - p)) (pasts (1 - p) k).place value → Clash (pasts (1 - p) (suc k)).end (pasts (1 - p) (suc k)).place new.end new.place → ⊥
        second k value word' back ta at e' c' mine order still still' l h g =
            no_clash link_config is (1 - p) (omega arith) (pasts (1 - p)) (pasts p) k (now p) value v word' word (pasts (1 - p) (suc k)).end new.end (pasts (1 - p) (suc k)).place new.place ta.before.mine ta.before.opposite
            (⊎_elim inr inl order) still' (subst (λ q. (j : ℕ) → (pasts p (now p)).fenced ≤ j → j ≤ now p → (pasts p j).words q ≡ (pasts p (now p)).words q) (sym back) still)
            e' (subst (λ q. access_at (config_of link_config q) (pasts p (now p)).place ≡ access.Read word) (sym back) reads)
            c' (subst (λ q. Comes link_config q (pasts p (now p)) (pasts (1 - p)) k v word) (sym back) mine) h l g (subst (λ q. new.place ≡ next_place (config_of link_config q) (pasts p (now p)).place v) (sym back) place_is)

    goes_on : (k : ℕ) → i ≤ k → suc k ≤ now (1 - p) → At link_config p new (pasts (1 - p) k) → At link_config p new (pasts (1 - p) (suc k))
    goes_on k ik kn c = let back : 1 - (1 - p) ≡ p = omega arith in let t = held.trail (1 - p) (omega arith) k kn in
        by_action (pasts (1 - p) (suc k)).action t.does (subst (λ q. Sourced link_config (1 - p) (pasts (1 - p) k) (pasts q) (now q) (pasts (1 - p) (suc k)).action) back t.sourced)
      where
        by_met : (value : ℕ) → Does link_config (1 - p) (pasts (1 - p) k) (pasts (1 - p) (suc k)) (Takes value) → Sourced link_config (1 - p) (pasts (1 - p) k) (pasts p) (now p) (Takes value) →
            ((memory : ℕ → ℕ) → ReadsMemory memory (access_at (config_of link_config (1 - p)) (pasts (1 - p) k).place) value) ⊎ ((w : ℕ) × (access_at (config_of link_config (1 - p)) (pasts (1 - p) k).place ≡ access.Read w)) → At link_config p new (pasts (1 - p) (suc k))
        by_met value d s (inl m) = turn link_config is p p2 new (pasts (1 - p) (suc k)) (action_cut link_config is (1 - p) (omega arith) (pasts (1 - p) k) (pasts (1 - p) (suc k)) new (Takes value) d (m (seen link_config (1 - p) (pasts (1 - p) k).words new.words)) (flip link_config is p p2 c))
        by_met value d s (inr e) = both_look k value e.0 ik kn e.1 (s e.0 e.1) d c

        by_action : (action : Action) → Does link_config (1 - p) (pasts (1 - p) k) (pasts (1 - p) (suc k)) action → Sourced link_config (1 - p) (pasts (1 - p) k) (pasts p) (now p) action → At link_config p new (pasts (1 - p) (suc k))
        by_action Starts d s = absurd d
        by_action (Begins call) d s = turn link_config is p p2 new (pasts (1 - p) (suc k)) (action_cut link_config is (1 - p) (omega arith) (pasts (1 - p) k) (pasts (1 - p) (suc k)) new (Begins call) d tt (flip link_config is p p2 c))
        by_action Fences d s = turn link_config is p p2 new (pasts (1 - p) (suc k)) (action_cut link_config is (1 - p) (omega arith) (pasts (1 - p) k) (pasts (1 - p) (suc k)) new Fences d tt (flip link_config is p p2 c))
        by_action (Receives h) d s = turn link_config is p p2 new (pasts (1 - p) (suc k)) (action_cut link_config is (1 - p) (omega arith) (pasts (1 - p) k) (pasts (1 - p) (suc k)) new (Receives h) d tt (flip link_config is p p2 c))
        by_action Resets d s = turn link_config is p p2 new (pasts (1 - p) (suc k)) (action_cut link_config is (1 - p) (omega arith) (pasts (1 - p) k) (pasts (1 - p) (suc k)) new Resets d tt (flip link_config is p p2 c))
        by_action (Takes value) d s = by_met value d s (met (access_at (config_of link_config (1 - p)) (pasts (1 - p) k).place) value)

    -- A load that is consistent with the moment that it gives is consistent with each later moment.
    pub advance : (j : ℕ) → i + j ≤ now (1 - p) → At link_config p new (pasts (1 - p) i) → At link_config p new (pasts (1 - p) (i + j))
    advance zero to c = subst (λ k. At link_config p new (pasts (1 - p) k)) (let e : i ≡ i + zero = omega arith in e) c
    advance (suc j) to c = subst (λ k. At link_config p new (pasts (1 - p) k)) (let e : suc (i + j) ≡ i + suc j = omega arith in e) (goes_on (i + j) (omega arith) (omega arith) (advance j (omega arith) c))
