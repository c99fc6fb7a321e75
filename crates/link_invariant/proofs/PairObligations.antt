-- The proof obligations of one end's step for the pair.
use Rattle.std.proofs.Common.{◌≡◌, ◌≢◌, ℕ, ◌+◌, ◌-◌, ◌<◌, ◌≤◌, ◌⊎◌, inl, inr, ⊎_elim, false, List, [], ◌∷◌, ◌++◌, length, sym, ap, ◌∙◌, subst, arith}
use mathlib.Core.Logic.{dite}
use native.Mathlib.Decide.{ℕ_discrete}
use Rattle.std.proofs.Math.ListN.{get_or-append}
use Rattle.std.proofs.lemmas.List.{length-append}
use Rattle.split_ring.specs.Layout.{limit_of}
use Rattle.link_handshake.specs.declared.Phase.TheVariants.{Run}
use Rattle.call_grammar.specs.Ends.{End}
use Rattle.call_grammar.specs.Places.{Place, WritingState, Refusing, ReadingUsedId, ReadingAvailEntry, ReadingDescAddressLow, ReadingDescAddressHigh, ReadingDescLength, ReadingDescFlags, ReadingFrameWord, WritingUsedId, WritingUsedLength, WritingUsedIndex}
use Rattle.link_invariant.specs.Fields.{Field, UsedId}
use Rattle.link_invariant.specs.LinkConfig.{LinkConfig, fields, first_words}
use Rattle.link_invariant.specs.Steps.{OnlyEndChanges}
use Rattle.link_invariant.specs.EndInvariant.{OwnSection, EndInvariant}
use Rattle.link_invariant.proofs.EndObligations.{start_before}
use Rattle.link_invariant.specs.Pair.{freed_at, Polls, InFlight, InFlightBetween, IsAttached, OpensNone, EitherIsAttached, Pair}

module _ (link_config : LinkConfig) (memory after : ℕ → ℕ) (ends next : ℕ → End) (places goes : ℕ → Place) (p : ℕ) (end : End) (place : Place) (p2 : p < 2) (only : OnlyEndChanges ends next places goes p end place) where
  -- A property of the two ends holds for each of them.
  turned : (P : ℕ → ℕ → End → Place → End → Place → Type 0) → P p (1 - p) end place (ends (1 - p)) (places (1 - p)) → P (1 - p) p (ends (1 - p)) (places (1 - p)) end place →
      (q : ℕ) → q < 2 → P q (1 - q) (next q) (goes q) (next (1 - q)) (goes (1 - q))
  turned P mine opposite q q2 = dite (ℕ_discrete q p)
      (λ e. let other : 1 - q ≢ p = omega arith in let same : 1 - q ≡ 1 - p = omega arith in
      subst (λ k. P k (1 - k) (next k) (goes k) (next (1 - k)) (goes (1 - k))) (sym e)
      (subst (λ x. P p (1 - p) x (goes p) (next (1 - p)) (goes (1 - p))) (sym only.end_is) (subst (λ x. P p (1 - p) end x (next (1 - p)) (goes (1 - p))) (sym only.place_is)
      (subst (λ x. P p (1 - p) end place x (goes (1 - p))) (sym (only.ends_stay (1 - p) (λ e. omega arith))) (subst (λ x. P p (1 - p) end place (ends (1 - p)) x) (sym (only.places_stay (1 - p) (λ e. omega arith))) mine)))))
      (λ ne. let e : q ≡ 1 - p = omega arith in let back : 1 - q ≡ p = omega arith in
      subst (λ k. P q k (next q) (goes q) (next k) (goes k)) (sym back) (subst (λ k. P k p (next k) (goes k) (next p) (goes p)) (sym e)
      (subst (λ x. P (1 - p) p (next (1 - p)) (goes (1 - p)) x (goes p)) (sym only.end_is) (subst (λ x. P (1 - p) p (next (1 - p)) (goes (1 - p)) end x) (sym only.place_is)
      (subst (λ x. P (1 - p) p x (goes (1 - p)) end place) (sym (only.ends_stay (1 - p) (λ e. omega arith))) (subst (λ x. P (1 - p) p (ends (1 - p)) x end place) (sym (only.places_stay (1 - p) (λ e. omega arith))) opposite))))))

  pub stepped : let u = ends (1 - p) in let w = places (1 - p) in Pair link_config memory ends places → EndInvariant link_config after p end place → EndInvariant link_config after (1 - p) u w → (end.handshake.mark ≡ false) × (place ≢ Refusing) → (IsAttached end place → OpensNone u w) → (IsAttached u w → OpensNone end place) →
      (IsAttached end place ⊎ IsAttached u w → OwnSection link_config (fields link_config after p) end.accepted end.freed end.returned × OwnSection link_config (fields link_config after (1 - p)) u.accepted u.freed u.returned) →
      (IsAttached end place ⊎ IsAttached u w → InFlightBetween link_config (fields link_config after (1 - p)) end place u w × InFlightBetween link_config (fields link_config after p) u w end place) → Pair link_config after next goes
  stepped m mine opposite sound from back sent links = record {
    alone = turned (λ q r e x f y. EndInvariant link_config after q e x) mine opposite;
    sound = turned (λ q r e x f y. (e.handshake.mark ≡ false) × (x ≢ Refusing)) sound (m.sound (1 - p) (omega arith));
    cross = turned (λ q r e x f y. IsAttached e x → OpensNone f y) from back;
    sent = turned (λ q r e x f y. IsAttached e x ⊎ IsAttached f y → OwnSection link_config (fields link_config after q) e.accepted e.freed e.returned) (λ a. (sent a).0) (λ a. (sent (⊎_elim inr inl a)).1);
    link = turned (λ q r e x f y. IsAttached e x ⊎ IsAttached f y → InFlightBetween link_config (fields link_config after r) e x f y) (λ a. (links a).0) (λ a. (links (⊎_elim inr inl a)).1);
  }

-- The relation of the two ends, from one and from the other.
pub record Facing (link_config : LinkConfig) (memory : ℕ → ℕ) (p : ℕ) (end : End) (place : Place) (u : End) (w : Place) : Type 0 where
  pub mine : OwnSection link_config (fields link_config memory p) end.accepted end.freed end.returned
  pub opposite : OwnSection link_config (fields link_config memory (1 - p)) u.accepted u.freed u.returned
  pub sends : InFlightBetween link_config (fields link_config memory (1 - p)) end place u w
  pub takes : InFlightBetween link_config (fields link_config memory p) u w end place

pub facing : (link_config : LinkConfig) (memory : ℕ → ℕ) (ends : ℕ → End) (places : ℕ → Place) (p : ℕ) → p < 2 → Pair link_config memory ends places → EitherIsAttached ends places p → Facing link_config memory p (ends p) (places p) (ends (1 - p)) (places (1 - p))
facing link_config memory ends places p p2 m a = let back : 1 - (1 - p) ≡ p = omega arith in let b : EitherIsAttached ends places (1 - p) = subst (λ k. IsAttached (ends (1 - p)) (places (1 - p)) ⊎ IsAttached (ends k) (places k)) (sym back) (⊎_elim inr inl a) in record {
  mine = m.sent p p2 a;
  opposite = m.sent (1 - p) (omega arith) b;
  sends = m.link p p2 a;
  takes = subst (λ k. InFlightBetween link_config (fields link_config memory k) (ends (1 - p)) (places (1 - p)) (ends k) (places k)) back (m.link (1 - p) (omega arith) b);
}

-- If the other is attached, end p opens no session.
pub known : (link_config : LinkConfig) (memory : ℕ → ℕ) (ends : ℕ → End) (places : ℕ → Place) (p : ℕ) → p < 2 → Pair link_config memory ends places → IsAttached (ends (1 - p)) (places (1 - p)) → OpensNone (ends p) (places p)
known link_config memory ends places p p2 m a = let back : 1 - (1 - p) ≡ p = omega arith in subst (λ k. OpensNone (ends k) (places k)) back (m.cross (1 - p) (omega arith) a)

-- A place in RUN other than a refusal.
abbrev pub IsCalm : Place → Type 0
IsCalm Refusing = ⊥
IsCalm (WritingState state) = ⊥
IsCalm place = Unit {0}

pub calm_not : (place other : Place) → IsCalm place → (IsCalm other → ⊥) → place ≢ other
calm_not place other calm not e = not (subst IsCalm e calm)

-- The fields of the receiver change, and so does its place.
pub takes_on : {link_config : LinkConfig} {field now : Field → ℕ} {accepted delivered : List (List ℕ)} {freed read returned : ℕ} {place : Place} (next : Place) → ((k : ℕ) → now (UsedId k) ≡ field (UsedId k)) → Polls link_config now accepted next → InFlight link_config field accepted freed read delivered returned place → InFlight link_config now accepted freed read delivered returned next
takes_on next same polls l = record { returns = l.returns; delivers = l.delivers; prefix = l.prefix; named = λ k from below. same _ ∙ l.named k from below; polls = polls }

pub polls_kept : (link_config : LinkConfig) (field now : Field → ℕ) (frames : List (List ℕ)) (place : Place) → ((f : Field) → now f ≡ field f) → Polls link_config field frames place → Polls link_config now frames place
polls_kept link_config field now frames (WritingUsedLength number more) same h = (h.0, same _ ∙ h.1)
polls_kept link_config field now frames (WritingUsedIndex number more) same h = (h.0, same _ ∙ h.1)
polls_kept link_config field now frames place same h = h

pub link_same : {link_config : LinkConfig} {field now : Field → ℕ} {accepted delivered : List (List ℕ)} {freed read returned : ℕ} {place : Place} → ((f : Field) → now f ≡ field f) → InFlight link_config field accepted freed read delivered returned place → InFlight link_config now accepted freed read delivered returned place
link_same {link_config} {field} {now} {accepted} {delivered} {freed} {read} {returned} {place} same l = takes_on place (λ k. same _) (polls_kept link_config field now accepted place same l.polls) l

-- One more frame is accepted: the values of the other's poll stay accepted.
pub polls_more : (link_config : LinkConfig) (field : Field → ℕ) (frames : List (List ℕ)) (g : List ℕ) (place : Place) → Polls link_config field frames place → Polls link_config field (frames ++ g ∷ []) place
polls_more link_config field frames g (ReadingAvailEntry number more) h = let n = length-append frames (g ∷ []) in omega arith
polls_more link_config field frames g (ReadingDescAddressLow number more entry) h = let n = length-append frames (g ∷ []) in let up = h.0 in (omega arith, h.1)
polls_more link_config field frames g (ReadingDescAddressHigh number more entry low) h = let n = length-append frames (g ∷ []) in let up = h.0 in (omega arith, h.1, h.2 ∙ sym (start_before link_config frames g number (omega arith)))
polls_more link_config field frames g (ReadingDescLength number more entry address) h = let n = length-append frames (g ∷ []) in let up = h.0 in (omega arith, h.1, h.2 ∙ sym (start_before link_config frames g number (omega arith)))
polls_more link_config field frames g (ReadingDescFlags number more entry address bytes) h = let n = length-append frames (g ∷ []) in let up = h.0 in let same = get_or-append frames (g ∷ []) [] number (omega arith) in (omega arith, h.1, h.2 ∙ sym (start_before link_config frames g number (omega arith)), h.3 ∙ ap length (sym same))
polls_more link_config field frames g (ReadingFrameWord number more entry address bytes read words) h = let n = length-append frames (g ∷ []) in let up = h.0 in let same = get_or-append frames (g ∷ []) [] number (omega arith) in
    (omega arith, h.1, h.2 ∙ sym (start_before link_config frames g number (omega arith)), h.3 ∙ ap length (sym same), h.4 ∙ ap (λ (x : List ℕ). first_words x (length read)) (sym same))
polls_more link_config field frames g (WritingUsedId number more entry) h = let n = length-append frames (g ∷ []) in let up = h.0 in (omega arith, h.1)
polls_more link_config field frames g (WritingUsedLength number more) h = let n = length-append frames (g ∷ []) in let up = h.0 in (omega arith, h.1)
polls_more link_config field frames g (WritingUsedIndex number more) h = let n = length-append frames (g ∷ []) in let up = h.0 in (omega arith, h.1)
polls_more link_config field frames g place h = h

-- The result of a step in RUN: the end is still in RUN at a calm place, and both directions satisfy
-- `InFlight`.
pub record Works (link_config : LinkConfig) (memory after : ℕ → ℕ) (p : ℕ) (u : End) (w : Place) (end : End) (place : Place) : Type 0 where
  pub run : end.handshake.phase ≡ Run
  pub mark : end.handshake.mark ≡ false
  pub calm : IsCalm place
  pub sends : InFlightBetween link_config (fields link_config memory (1 - p)) end place u w
  pub takes : InFlightBetween link_config (fields link_config after p) u w end place

-- The number of frames in flight, counted from the ids read, is at most the limit.
pub room_at : (link_config : LinkConfig) (memory : ℕ → ℕ) (p : ℕ) (end : End) (place : Place) → EndInvariant link_config memory p end place → length end.accepted ≤ freed_at end.freed place + limit_of link_config.sizes
room_at link_config memory p end (ReadingUsedId pending freed more) a = a.holds.3
room_at link_config memory p end place a = a.room

-- The hypotheses before a step of end p at its place, and of the other.
pub record Before (link_config : LinkConfig) (memory : ℕ → ℕ) (p : ℕ) (end : End) (place : Place) (u : End) (w : Place) : Type 0 where
  pub mine : EndInvariant link_config memory p end place
  pub opposite : EndInvariant link_config memory (1 - p) u w
  pub mark : end.handshake.mark ≡ false
  pub from : IsAttached end place → OpensNone u w
  pub back : IsAttached u w → OpensNone end place
  pub faces : IsAttached end place ⊎ IsAttached u w → Facing link_config memory p end place u w

-- The obligations after the step, in addition to the invariant of each end.
pub record Leads (link_config : LinkConfig) (after : ℕ → ℕ) (p : ℕ) (u : End) (w : Place) (end : End) (place : Place) : Type 0 where
  pub sound : (end.handshake.mark ≡ false) × (place ≢ Refusing)
  pub from : IsAttached end place → OpensNone u w
  pub back : IsAttached u w → OpensNone end place
  pub faces : IsAttached end place ⊎ IsAttached u w → Facing link_config after p end place u w
