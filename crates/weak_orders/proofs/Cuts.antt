-- The invariant at a consistent cut: one moment of each end.
use Rattle.std.proofs.Common.{◌≡◌, ◌≢◌, ℕ, zero, suc, ◌+◌, ◌-◌, ◌<◌, ◌≤◌, ◌⊎◌, inl, inr, ⊎_elim, Bool, true, false, refl, sym, ap, ◌∙◌, arith, eq-eqb, ne_eqb}
use mathlib.Core.Logic.{dite}
use native.Mathlib.Decide.{ℕ_discrete}
use Rattle.std.specs.Prelude.{◌==◌, nat_le, nat_lt, ◌&&◌, ◌||◌, if◌then◌else◌}
use Rattle.std.proofs.lemmas.Bool.Decides.{nat_tests}
use Rattle.split_ring.specs.declared.steps.Access.{Access}
use Rattle.split_ring.specs.declared.steps.Access.TheVariants as access
use Rattle.call_grammar.specs.Ends.{End, end_after, after_reset}
use Rattle.call_grammar.specs.Calls.{Call}
use Rattle.call_grammar.specs.Places.{Place, Closed, Refusing, first_place, access_at, next_place, step_at, is_open}
use Rattle.call_grammar.proofs.OfferLists.{yes, no}
use Rattle.link_invariant.specs.LinkConfig.{LinkConfig, IsLinkConfig, section_of, config_of, IsGivenTo}
use Rattle.link_invariant.specs.Steps.{Stored, IsUntouched, ReadsMemory, MemoryAfter}
use Rattle.link_invariant.specs.EndInvariant.{EndInvariant}
use Rattle.link_invariant.specs.Pair.{Polls}
use Rattle.link_invariant.proofs.Fields.{fields_same}
use Rattle.link_invariant.proofs.EndObligations.{sent_same}
use Rattle.link_invariant.proofs.EndInvariantKept.{alone_kept}
use Rattle.link_invariant.proofs.PairObligations.{Before, Leads, link_same}
use Rattle.link_invariant.proofs.PairKept.{leads, untouched, by_state, first_leads}
use Rattle.link_invariant.proofs.HandshakeOfPair.{leads_reset}
use Rattle.weak_orders.specs.Memory.{is_own, seen}

-- The words that an end finds

module _ (link_config : LinkConfig) (is : IsLinkConfig link_config) (p : ℕ) (p2 : p < 2) (x y : ℕ → ℕ) where
  pub own_test : (w : ℕ) → w ≡ p → is_own link_config p w ≡ true
  own_test w e = grind (arith, nat_tests)

  section_test : (s k w j : ℕ) → w ≡ s + j → j < k → (nat_le s w && nat_lt w (s + k)) ≡ true
  section_test s k w j e lt = grind (arith, nat_tests)

  or_right : (a b : Bool) → b ≡ true → (a || b) ≡ true
  or_right true b h = refl
  or_right false b h = h

  pub owns_section : (w j : ℕ) → w ≡ section_of link_config p + j → j < link_config.words → is_own link_config p w ≡ true
  owns_section w j e lt = or_right _ _ (section_test (section_of link_config p) link_config.words w j e lt)

  pub sees_own : (w : ℕ) → is_own link_config p w ≡ true → seen link_config p x y w ≡ x w
  unfolding seen
  sees_own w h = yes (is_own link_config p w) (x w) (y w) h

  pub sees_theirs : (w : ℕ) → is_own link_config p w ≡ false → seen link_config p x y w ≡ y w
  unfolding seen
  sees_theirs w h = no (is_own link_config p w) (x w) (y w) h

  pub own_state : seen link_config p x y p ≡ x p
  own_state = sees_own p (own_test p refl)

  pub own_word : (j : ℕ) → j < link_config.words → seen link_config p x y (section_of link_config p + j) ≡ x (section_of link_config p + j)
  own_word j lt = sees_own (section_of link_config p + j) (or_right _ _ (section_test (section_of link_config p) link_config.words _ j refl lt))

  apart_test : (s k w : ℕ) → w ≢ p → (w < s) ⊎ (s + k ≤ w) → ((w == p) || (nat_le s w && nat_lt w (s + k))) ≡ false
  apart_test s k w ne out = grind (arith, nat_tests)

  pub their_state : seen link_config p x y (1 - p) ≡ y (1 - p)
  their_state = let first = is.first in sees_theirs (1 - p) (apart_test (section_of link_config p) link_config.words (1 - p) (omega arith) (inl (omega arith)))

  pub their_word : (j : ℕ) → j < link_config.words → seen link_config p x y (section_of link_config (1 - p) + j) ≡ y (section_of link_config (1 - p) + j)
  their_word j lt = let first = is.first in sees_theirs (section_of link_config (1 - p) + j) (apart_test (section_of link_config p) link_config.words _ (omega arith) (out p p2))
    where
      out : (p : ℕ) → p < 2 → (section_of link_config (1 - p) + j < section_of link_config p) ⊎ (section_of link_config p + link_config.words ≤ section_of link_config (1 - p) + j)
      out zero p2 = inr (omega arith)
      out (suc zero) p2 = inl (omega arith)
      out (suc (suc p)) p2 = absurd (omega arith)

low_test : (q s k w : ℕ) → w ≢ q → ((w == q) || (nat_le s w && nat_lt w (s + k))) ≡ true → s ≤ w
low_test q s k w ne h = grind (arith, nat_tests)

high_test : (q s k w : ℕ) → w ≢ q → ((w == q) || (nat_le s w && nat_lt w (s + k))) ≡ true → w < s + k
high_test q s k w ne h = grind (arith, nat_tests)

-- An own word of an end is its State word or a word of its section.
pub owned : (link_config : LinkConfig) (q w : ℕ) → is_own link_config q w ≡ true → (w ≡ q) ⊎ ((j : ℕ) × (j < link_config.words) × (w ≡ section_of link_config q + j))
owned link_config q w h = dite (ℕ_discrete w q) (λ e. inl e) (λ ne. let s = section_of link_config q in let low = low_test q s link_config.words w ne h in let high = high_test q s link_config.words w ne h in inr (w - s, omega arith, omega arith))

-- The own words stay if memory leaves the end untouched.
pub own_stays : (link_config : LinkConfig) (memory after : ℕ → ℕ) (q w : ℕ) → IsUntouched link_config memory after q → is_own link_config q w ≡ true → after w ≡ memory w
own_stays link_config memory after q w keep h = ⊎_elim (λ (e : w ≡ q). ap after e ∙ (keep.state ∙ ap memory (sym e)))
    (λ (j : (j : ℕ) × (j < link_config.words) × (w ≡ section_of link_config q + j)). ap after j.2 ∙ (keep.section j.0 j.1 ∙ ap memory (sym j.2))) (owned link_config q w h)

-- Two ends at two moments

-- The words, end and place of end p and of the other, with the invariant of the pair.
pub record Cut (link_config : LinkConfig) (p : ℕ) (x : ℕ → ℕ) (end : End) (place : Place) (y : ℕ → ℕ) (u : End) (w : Place) : Type 0 where
  pub before : Before link_config (seen link_config p x y) p end place u w
  pub calm : place ≢ Refusing
  pub opposite : (u.handshake.mark ≡ false) × (w ≢ Refusing)

-- No word of either end changes.
pub moved : (link_config : LinkConfig) (memory after : ℕ → ℕ) (p : ℕ) (end : End) (place : Place) (u : End) (w : Place) → IsLinkConfig link_config → IsUntouched link_config memory after p → IsUntouched link_config memory after (1 - p) → Before link_config memory p end place u w → Before link_config after p end place u w
moved link_config memory after p end place u w is mine opposite b = let same = fields_same link_config memory after p is mine.section in let same' = fields_same link_config memory after (1 - p) is opposite.section in record {
  mine = alone_kept.others link_config p memory after end place is mine b.mine;
  opposite = alone_kept.others link_config (1 - p) memory after u w is opposite b.opposite;
  mark = b.mark;
  from = b.from;
  back = b.back;
  faces = λ a. let f = b.faces a in record { mine = sent_same (λ g. same g) f.mine; opposite = sent_same (λ g. same' g) f.opposite; sends = link_same (λ g. same' g) f.sends; takes = link_same (λ g. same g) f.takes };
}

-- The cut as the other end has it.
module _ (link_config : LinkConfig) (memory : ℕ → ℕ) (end : End) (place : Place) (u : End) (w : Place) where
  back_0 : u.handshake.mark ≡ false → Before link_config memory 0 end place u w → Before link_config memory 1 u w end place
  back_0 mark b = record {
    mine = b.opposite;
    opposite = b.mine;
    mark = mark;
    from = b.back;
    back = b.from;
    faces = λ a. let f = b.faces (⊎_elim inr inl a) in record { mine = f.opposite; opposite = f.mine; sends = f.takes; takes = f.sends };
  }

  back_1 : u.handshake.mark ≡ false → Before link_config memory 1 end place u w → Before link_config memory 0 u w end place
  back_1 mark b = record {
    mine = b.opposite;
    opposite = b.mine;
    mark = mark;
    from = b.back;
    back = b.from;
    faces = λ a. let f = b.faces (⊎_elim inr inl a) in record { mine = f.opposite; opposite = f.mine; sends = f.takes; takes = f.sends };
  }

module _ (link_config : LinkConfig) (is : IsLinkConfig link_config) where
  -- Both ends find the same words of each end.
  swaps : (p : ℕ) → p < 2 → (x y : ℕ → ℕ) → IsUntouched link_config (seen link_config p x y) (seen link_config (1 - p) y x) p
  swaps zero p2 x y = record { state = their_state link_config is 1 (omega arith) y x ∙ sym (own_state link_config is 0 p2 x y); section = λ j lt. their_word link_config is 1 (omega arith) y x j lt ∙ sym (own_word link_config is 0 p2 x y j lt) }
  swaps (suc zero) p2 x y = record { state = their_state link_config is 0 (omega arith) y x ∙ sym (own_state link_config is 1 p2 x y); section = λ j lt. their_word link_config is 0 (omega arith) y x j lt ∙ sym (own_word link_config is 1 p2 x y j lt) }
  swaps (suc (suc p)) p2 x y = absurd (omega arith)

  swaps' : (p : ℕ) → p < 2 → (x y : ℕ → ℕ) → IsUntouched link_config (seen link_config p x y) (seen link_config (1 - p) y x) (1 - p)
  swaps' p p2 x y = let o : 1 - p < 2 = omega arith in record { state = own_state link_config is (1 - p) o y x ∙ sym (their_state link_config is p p2 x y); section = λ j lt. own_word link_config is (1 - p) o y x j lt ∙ sym (their_word link_config is p p2 x y j lt) }

  pub flip : (p : ℕ) → p < 2 → {x : ℕ → ℕ} {end : End} {place : Place} {y : ℕ → ℕ} {u : End} {w : Place} → Cut link_config p x end place y u w → Cut link_config (1 - p) y u w x end place
  flip zero p2 {x} {end} {place} {y} {u} {w} c = record {
    before = back_0 link_config (seen link_config 1 y x) end place u w c.opposite.0 (moved link_config (seen link_config 0 x y) (seen link_config 1 y x) 0 end place u w is (swaps 0 p2 x y) (swaps' 0 p2 x y) c.before);
    calm = c.opposite.1;
    opposite = (c.before.mark, c.calm);
  }
  flip (suc zero) p2 {x} {end} {place} {y} {u} {w} c = record {
    before = back_1 link_config (seen link_config 0 y x) end place u w c.opposite.0 (moved link_config (seen link_config 1 x y) (seen link_config 0 y x) 1 end place u w is (swaps 1 p2 x y) (swaps' 1 p2 x y) c.before);
    calm = c.opposite.1;
    opposite = (c.before.mark, c.calm);
  }
  flip (suc (suc p)) p2 c = absurd (omega arith)

-- An action of end p

-- The words after an access of end p.
unfoldable pub after_of : ℕ → (ℕ → ℕ) → Access → (ℕ → ℕ)
after_of p memory (access.Write at n) = λ w. if w == at then n else memory w
after_of p memory (access.State state) = λ w. if w == p then state else memory w
after_of p memory a = memory

pub put : (memory : ℕ → ℕ) (at n : ℕ) → Stored memory (λ w. if w == at then n else memory w) at n
put memory at n = record { here = yes (at == at) n (memory at) (eq-eqb at at refl); neighbour_word = λ w ne. no (w == at) n (memory w) (ne_eqb w at ne) }

pub left_so : (p : ℕ) (memory : ℕ → ℕ) (a : Access) → MemoryAfter p memory a (after_of p memory a)
unfolding after_of
left_so p memory (access.Write at n) = put memory at n
left_so p memory (access.State state) = put memory p state
left_so p memory (access.Read word) = refl
left_so p memory (access.Ring target vector) = refl
left_so p memory access.Nothing = refl

-- The own words after an access of end p.
pub one_put : (x x' m : ℕ → ℕ) (at n w : ℕ) → Stored x x' at n → m w ≡ x w → x' w ≡ (if w == at then n else m w)
one_put x x' m at n w stored same = dite (ℕ_discrete w at)
    (λ e. ap x' e ∙ (stored.here ∙ sym (yes (w == at) n (m w) (eq-eqb w at e))))
    (λ ne. stored.neighbour_word w ne ∙ (sym same ∙ sym (no (w == at) n (m w) (ne_eqb w at ne))))

pub own_after : (p : ℕ) (x x' m : ℕ → ℕ) (a : Access) (w : ℕ) → MemoryAfter p x a x' → m w ≡ x w → x' w ≡ after_of p m a w
unfolding after_of
own_after p x x' m (access.Write at n) w left same = one_put x x' m at n w left same
own_after p x x' m (access.State state) w left same = one_put x x' m p state w left same
own_after p x x' m (access.Read word) w left same = ap (λ (k : ℕ → ℕ). k w) left ∙ sym same
own_after p x x' m (access.Ring target vector) w left same = ap (λ (k : ℕ → ℕ). k w) left ∙ sym same
own_after p x x' m access.Nothing w left same = ap (λ (k : ℕ → ℕ). k w) left ∙ sym same

module _ (link_config : LinkConfig) (is : IsLinkConfig link_config) (p : ℕ) (p2 : p < 2) (x x' y : ℕ → ℕ) (end : End) (place : Place) (u : End) (w : Place) where
  -- An access changes the words that an end finds as it changes its own words.
  settled : (end' : End) (place' : Place) (after : ℕ → ℕ) → ((v : ℕ) → seen link_config p x y v ≡ x v → x' v ≡ after v) → IsUntouched link_config (seen link_config p x y) after (1 - p) → EndInvariant link_config after p end' place' → Leads link_config after p u w end' place' → Cut link_config p x end place y u w → Cut link_config p x' end' place' y u w
  settled end' place' after same keep mine leads c = record {
    before = moved link_config after (seen link_config p x' y) p end' place' u w is
        record { state = own_state link_config is p p2 x' y ∙ same p (own_state link_config is p p2 x y); section = λ j lt. own_word link_config is p p2 x' y j lt ∙ same _ (own_word link_config is p p2 x y j lt) }
        record { state = their_state link_config is p p2 x' y ∙ (sym (their_state link_config is p p2 x y) ∙ sym keep.state); section = λ j lt. their_word link_config is p p2 x' y j lt ∙ (sym (their_word link_config is p p2 x y j lt) ∙ sym (keep.section j lt)) }
        record { mine = mine; opposite = alone_kept.others link_config (1 - p) (seen link_config p x y) after u w is keep c.before.opposite; mark = leads.sound.0; from = leads.from; back = leads.back; faces = leads.faces };
    calm = leads.sound.1;
    opposite = c.opposite;
  }

  -- A step whose load gives the word at the other's moment.
  pub step_cut : (value : ℕ) → is_open place ≡ true → MemoryAfter p x (access_at (config_of link_config p) place) x' → ReadsMemory (seen link_config p x y) (access_at (config_of link_config p) place) value → Cut link_config p x end place y u w →
      Cut link_config p x' (end_after end (step_at (config_of link_config p) place value)) (next_place (config_of link_config p) place value) y u w
  step_cut value opened left met c = let m = seen link_config p x y in let a = access_at (config_of link_config p) place in let after = after_of p m a in let l = left_so p m a in
      let mine = alone_kept.steps link_config p m after end place value is p2 opened l c.before.mine in
      settled _ _ after (λ v same. own_after p x x' m a v left same) (untouched link_config is p p2 m after end place c.before.mine l) mine
      (leads link_config is p p2 m end u w after place value opened c.calm met l mine c.before) c

  -- A reset.
  pub reset_cut : Stored x x' p 0 → Cut link_config p x end place y u w → Cut link_config p x' (after_reset end) Closed y u w
  reset_cut stored c = let m = seen link_config p x y in let after : ℕ → ℕ = λ v. if v == p then 0 else m v in let l = put m p 0 in
      settled _ _ after (λ v same. one_put x x' m p 0 v stored same) (by_state link_config is p p2 m after end 0 l) (alone_kept.resets link_config p m after end place is p2 l c.before.mine)
      (leads_reset link_config m after p end u w place is p2 l c.before) c

-- A call begins

pub begin_cut : (link_config : LinkConfig) (is : IsLinkConfig link_config) (p : ℕ) (p2 : p < 2) {x y : ℕ → ℕ} {end : End} {u : End} {w : Place} (call : Call) → IsGivenTo link_config call → Cut link_config p x end Closed y u w → Cut link_config p x end (first_place (config_of link_config p) end call) y u w
begin_cut link_config is p p2 {x} {y} {end} {u} {w} call given c = let m = seen link_config p x y in let l = first_leads link_config m p end u w call c.before in record {
  before = record { mine = alone_kept.begins link_config p m end call is given c.before.mine; opposite = c.before.opposite; mark = l.sound.0; from = l.from; back = l.back; faces = l.faces };
  calm = l.sound.1;
  opposite = c.opposite;
}
