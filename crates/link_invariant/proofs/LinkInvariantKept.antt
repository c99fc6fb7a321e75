-- Two ends, each honest or not.
use Rattle.std.proofs.Common.{◌≡◌, ℕ, ◌+◌, ◌-◌, ◌/◌, ◌%◌, ◌<◌, ◌≢◌, ◌⊎◌, Bool, true, false, length, refl, sym, ap, ◌∙◌, subst, arith, List}
use mathlib.Core.Logic.{dite}
use native.Mathlib.Decide.{ℕ_discrete}
use Rattle.std.proofs.lemmas.Nat.{mod_below}
use Rattle.split_ring.specs.Layout.{size_of, limit_of, word_offset, DescAddress, DescLength}
use Rattle.split_ring.specs.Spelling.{address_at, bytes_from}
use Rattle.call_grammar.specs.Words.{lengths_of}
use Rattle.call_grammar.specs.Ends.{End}
use Rattle.call_grammar.specs.Calls.{Call}
use Rattle.call_grammar.specs.Places.{Refusing, Place, WritingAvailIndex}
use Rattle.link_invariant.specs.Fields.{Field, is_field, field_word, part_of}
use Rattle.link_invariant.specs.Fields as field
use Rattle.link_invariant.specs.LinkConfig.{LinkConfig, IsLinkConfig, section_of, fields}
use Rattle.link_invariant.specs.Steps.{IsUntouched, OnlyEndChanges, BeginsCall, TakesStep, IsReset}
use Rattle.link_invariant.specs.EndInvariant.{frame_at, start_in, start_for, Spelled, OwnSection, EndInvariant}
use Rattle.link_invariant.specs.Pair.{InFlightBetween, IsAttached, OpensNone}
use Rattle.link_invariant.specs.LinkInvariant.{LinkInvariant, LinkInvariantIsKept, HonestEndsAgree, SectionSpells, FramesAreSpelled}
use Rattle.link_invariant.proofs.Fields.{numbers, one_test, is_word, IsGood, start_good, field_read}
use Rattle.link_invariant.proofs.FrameBytes.{frame_is_bytes}
use Rattle.link_invariant.proofs.EndObligations.{spelled_kept, pending_is_good_at}
use Rattle.link_invariant.proofs.WriteSteps.{place_puts}
use Rattle.link_invariant.proofs.EndInvariantKept.{alone_kept}
use Rattle.link_invariant.proofs.PairKept.{still, by_state, untouched, starts_alone, pair_kept}

-- An honest end changed, and the words of the other didn't.
turned : (link_config : LinkConfig) (honest : ℕ → Bool) (memory after : ℕ → ℕ) (ends next : ℕ → End) (places goes : ℕ → Place) (p : ℕ) (end : End) (place : Place) → IsLinkConfig link_config → p < 2 → OnlyEndChanges ends next places goes p end place → IsUntouched link_config memory after (1 - p) → EndInvariant link_config after p end place →
    LinkInvariant link_config honest memory ends places → (q : ℕ) → q < 2 → honest q ≡ true → EndInvariant link_config after q (next q) (goes q)
turned link_config honest memory after ends next places goes p end place is p2 only keep mine m q q2 hq = dite (ℕ_discrete q p)
    (λ e. subst (λ k. EndInvariant link_config after k (next k) (goes k)) (sym e) (subst (λ x. EndInvariant link_config after p x (goes p)) (sym only.end_is) (subst (EndInvariant link_config after p end) (sym only.place_is) mine)))
    (λ ne. let e : q ≡ 1 - p = omega arith in subst (λ x. EndInvariant link_config after q x (goes q)) (sym (only.ends_stay q ne)) (subst (EndInvariant link_config after q (ends q)) (sym (only.places_stay q ne))
    (alone_kept.others link_config q memory after (ends q) (places q) is (subst (IsUntouched link_config memory after) (sym e) keep) (m.alone q q2 hq))))

begin_keeps_link : (link_config : LinkConfig) (honest : ℕ → Bool) (memory : ℕ → ℕ) (ends next : ℕ → End) (places goes : ℕ → Place) (p : ℕ) (call : Call) → IsLinkConfig link_config → p < 2 → honest p ≡ true → BeginsCall link_config ends next places goes p call →
    LinkInvariant link_config honest memory ends places → LinkInvariant link_config honest memory next goes
begin_keeps_link link_config honest memory ends next places goes p call is p2 hp begun m = record {
  alone = turned link_config honest memory memory ends next places goes p _ _ is p2 begun.comes (still link_config is p p2 memory memory (ends p) refl) (alone_kept.begins link_config p memory (ends p) call is begun.given (subst (EndInvariant link_config memory p (ends p)) begun.closed (m.alone p p2 hp))) m;
  pair = λ h0 h1. pair_kept.begins link_config memory ends next places goes p call is p2 begun (m.pair h0 h1);
}

step_keeps_link : (link_config : LinkConfig) (honest : ℕ → Bool) (memory after : ℕ → ℕ) (ends next : ℕ → End) (places goes : ℕ → Place) (p value : ℕ) → IsLinkConfig link_config → p < 2 → honest p ≡ true → TakesStep link_config memory after ends next places goes p value →
    LinkInvariant link_config honest memory ends places → LinkInvariant link_config honest after next goes
step_keeps_link link_config honest memory after ends next places goes p value is p2 hp step m = let a = m.alone p p2 hp in record {
  alone = turned link_config honest memory after ends next places goes p _ _ is p2 step.comes (untouched link_config is p p2 memory after (ends p) (places p) a step.leaves) (alone_kept.steps link_config p memory after (ends p) (places p) value is p2 step.opened step.leaves a) m;
  pair = λ h0 h1. pair_kept.steps link_config memory after ends next places goes p value is p2 step (m.pair h0 h1);
}

reset_keeps_link : (link_config : LinkConfig) (honest : ℕ → Bool) (memory after : ℕ → ℕ) (ends next : ℕ → End) (places goes : ℕ → Place) (p : ℕ) → IsLinkConfig link_config → p < 2 → honest p ≡ true → IsReset memory after ends next places goes p →
    LinkInvariant link_config honest memory ends places → LinkInvariant link_config honest after next goes
reset_keeps_link link_config honest memory after ends next places goes p is p2 hp reset m = record {
  alone = turned link_config honest memory after ends next places goes p _ _ is p2 reset.comes (by_state link_config is p p2 memory after (ends p) 0 reset.stored) (alone_kept.resets link_config p memory after (ends p) (places p) is p2 reset.stored (m.alone p p2 hp)) m;
  pair = λ h0 h1. pair_kept.resets link_config memory after ends next places goes p is p2 reset (m.pair h0 h1);
}

pub whole_kept : LinkInvariantIsKept
whole_kept = record {
  starts = λ link_config honest memory ends places none new closed. record { alone = λ p p2 hp. starts_alone link_config memory ends places none new closed p; pair = λ h0 h1. pair_kept.starts link_config memory ends places none new closed };
  begins = begin_keeps_link;
  steps = step_keeps_link;
  resets = reset_keeps_link;
  others = λ link_config honest memory after ends places is keep m. record {
    alone = λ p p2 hp. alone_kept.others link_config p memory after (ends p) (places p) is (keep p p2 hp) (m.alone p p2 hp);
    pair = λ h0 h1. pair_kept.others link_config memory after ends places is (λ q q2. keep q q2 (dite (ℕ_discrete q 0) (λ e. ap honest e ∙ h0) (λ ne. let e : q ≡ 1 = omega arith in ap honest e ∙ h1))) (m.pair h0 h1);
  };
}

-- The same honest ends.
pub whole_like : (link_config : LinkConfig) (honest : ℕ → Bool) (memory : ℕ → ℕ) (ends next : ℕ → End) (places : ℕ → Place) → ((p : ℕ) → p < 2 → honest p ≡ true → next p ≡ ends p) → LinkInvariant link_config honest memory ends places → LinkInvariant link_config honest memory next places
whole_like link_config honest memory ends next places same m = record {
  alone = λ p p2 hp. subst (λ x. EndInvariant link_config memory p x (places p)) (sym (same p p2 hp)) (m.alone p p2 hp);
  pair = λ h0 h1. let b = m.pair h0 h1 in record {
    alone = λ p p2. subst (λ x. EndInvariant link_config memory p x (places p)) (sym (mine h0 h1 p p2)) (b.alone p p2);
    sound = λ p p2. subst (λ (x : End). (x.handshake.mark ≡ false) × (places p ≢ Refusing)) (sym (mine h0 h1 p p2)) (b.sound p p2);
    cross = λ p p2. both h0 h1 p p2 (λ x y. IsAttached x (places p) → OpensNone y (places (1 - p))) (b.cross p p2);
    sent = λ p p2. both h0 h1 p p2 (λ x y. IsAttached x (places p) ⊎ IsAttached y (places (1 - p)) → OwnSection link_config (fields link_config memory p) x.accepted x.freed x.returned) (b.sent p p2);
    link = λ p p2. both h0 h1 p p2 (λ x y. IsAttached x (places p) ⊎ IsAttached y (places (1 - p)) → InFlightBetween link_config (fields link_config memory (1 - p)) x (places p) y (places (1 - p))) (b.link p p2);
  };
}
  where
    mine : honest 0 ≡ true → honest 1 ≡ true → (p : ℕ) → p < 2 → next p ≡ ends p
    mine h0 h1 p p2 = same p p2 (dite (ℕ_discrete p 0) (λ e. ap honest e ∙ h0) (λ ne. let e : p ≡ 1 = omega arith in ap honest e ∙ h1))

    both : honest 0 ≡ true → honest 1 ≡ true → (p : ℕ) → p < 2 → (P : End → End → Type 0) → P (ends p) (ends (1 - p)) → P (next p) (next (1 - p))
    both h0 h1 p p2 P h = subst (λ x. P x (next (1 - p))) (sym (mine h0 h1 p p2)) (subst (P (ends p)) (sym (mine h0 h1 (1 - p) (omega arith))) h)

pub agree : HonestEndsAgree
agree = record { never_refuse = λ link_config memory ends places p p2 m. ((m.sound p p2).1, (m.sound p p2).0); deliver = λ link_config memory ends places p p2 m a. (m.link p p2 a).prefix }

-- Frames in the words of the section

spells : (link_config : LinkConfig) (memory : ℕ → ℕ) (p k start : ℕ) (frame : List ℕ) → IsLinkConfig link_config → IsGood link_config start (length frame) → Spelled link_config (fields link_config memory p) k start frame → SectionSpells link_config memory p k frame
spells link_config memory p k start frame is good s =
    let d = k % limit_of link_config.sizes in let i = k % size_of link_config.sizes in let b = numbers link_config is in let least = b.size_least in let some = s.offered.least in let most = s.offered.most in let mtu = is.queue.mtu_most in
    let words : ℕ → ℕ = λ w. memory (section_of link_config p + w) in
    let low : d < limit_of link_config.sizes = mod_below k (limit_of link_config.sizes) b.limit_least in let few = b.limit_most in let size : d < size_of link_config.sizes = omega arith in
    let even = good.even in let after = good.after in let inside = good.inside in
    let low_is : words (word_offset link_config.sizes (DescAddress d)) ≡ start = read (field.AddressLow d) (one_test _ _ size) ∙ s.low in
    let high_is : words (word_offset link_config.sizes (DescAddress d) + 1) ≡ 0 = read (field.AddressHigh d) (one_test _ _ size) ∙ s.high in
    let length_is : words (word_offset link_config.sizes (DescLength d)) ≡ length frame = read (field.DescLength d) (one_test _ _ size) ∙ s.size in
    let address : address_at link_config.sizes words d ≡ start = omega arith in
    record {
      entry_is = read (field.AvailEntry i) (one_test _ _ (mod_below k (size_of link_config.sizes) (omega arith))) ∙ s.entry;
      entry = size;
      address = (omega arith, omega arith, omega arith);
      length = (omega arith, omega arith, omega arith);
      flags = read (field.DescFlags d) (one_test _ _ size) ∙ s.flags;
      bytes = frame_is_bytes words start (start / 4) frame (omega arith) (λ j lt. read (field.DataWord (start / 4 + j)) (is_word link_config is start (length frame) j good lt) ∙ s.words j lt) s.offered.bytes ∙
          (ap (λ (a : ℕ). bytes_from words a (length frame)) (sym address) ∙ ap (λ (l : ℕ). bytes_from words (address_at link_config.sizes words d) l) (sym length_is));
    }
  where
    read : (f : Field) → is_field link_config.sizes f ≡ true → part_of f (memory (section_of link_config p + field_word link_config.sizes f)) ≡ fields link_config memory p f
    read f spot = field_read link_config memory p f (memory (section_of link_config p + field_word link_config.sizes f)) spot refl

pub frames_are_spelled : FramesAreSpelled
frames_are_spelled = record {
  in_flight = λ link_config memory p end place k is a o from below. let s = (a.sent o).spelled k from below in
      spells link_config memory p k (start_in link_config end.accepted k) (frame_at end.accepted k) is (start_good link_config is (lengths_of end.accepted) k s.offered.most) s;
  accepted = λ link_config memory after p end pending is p2 a left. let put = place_puts link_config is p p2 memory after end (WritingAvailIndex pending) left a.holds in
      let good = pending_is_good_at link_config is end.accepted pending a.holds.1 a.holds.2 a.holds.4.offered.most in
      spells link_config after p pending.number (start_for link_config pending) pending.frame is good (spelled_kept good.even (λ f live na nu. put.neighbour_word f na) a.holds.4);
}
