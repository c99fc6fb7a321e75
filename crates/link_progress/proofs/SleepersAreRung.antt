-- While an end sleeps, it asks for a doorbell, or the doorbell is next, or it was rung.
use Rattle.std.proofs.Common.{◌≡◌, ℕ, ◌-◌, ◌<◌, ◌⊎◌, inl, inr, ⊎_elim, Bool, true, false, length, refl, ap, ◌∙◌, subst, arith}
use Rattle.std.specs.Prelude.{◌||◌}
use Rattle.call_grammar.specs.Ends.{End}
use Rattle.call_grammar.specs.Places.{Place, Closed, RingingOffer}
use Rattle.link_invariant.specs.LinkConfig.{LinkConfig, IsLinkConfig}
use Rattle.link_invariant.specs.Pair.{Pair}
use Rattle.link_invariant.specs.Wake.{Asks, WritesEvent}
use Rattle.link_invariant.specs.Fields as field
use Rattle.link_invariant.proofs.PairKept.{pair_kept}
use Rattle.link_invariant.proofs.Fields.{fields_same}
use Rattle.link_invariant.proofs.DoorbellIsRung.{asked_doorbell_is_rung}
use Rattle.link_progress.specs.Sleepers.{is_ringing, Sleeps, starts, other_begins, other_steps, others, SleepersAreRung}

rung_on : (b c : Bool) → b ≡ true → (b || c) ≡ true
rung_on true c e = refl
rung_on false c e = let f : false ≡ true = e in absurd (let g : ⊥ = cc in g)

rung_now : (b c : Bool) → c ≡ true → (b || c) ≡ true
rung_now true c e = refl
rung_now false c e = e

module _ (link_config : LinkConfig) (is : IsLinkConfig link_config) (p k : ℕ) (p2 : p < 2) where
  -- What becomes of the doorbell for frame k.
  abbrev Bell : (ℕ → ℕ) → (ℕ → End) → (ℕ → Place) → Bool → Type 0
  Bell memory ends places rung = (rung ≡ true) ⊎ ((places (1 - p) ≡ RingingOffer) ⊎ Asks link_config memory ends places p k)

  record Asleep (memory : ℕ → ℕ) (ends : ℕ → End) (places : ℕ → Place) (rung : Bool) : Type 0 where
    pair : Pair link_config memory ends places
    bell : Bell memory ends places rung

  asleep : (memory : ℕ → ℕ) (ends : ℕ → End) (places : ℕ → Place) (now : ℕ → ℕ) (now_ends : ℕ → End) (now_places : ℕ → Place) (rung : Bool) → Asleep memory ends places false → Sleeps link_config p memory ends places now now_ends now_places rung → Asleep now now_ends now_places rung
  asleep memory ends places _ _ _ _ start starts = start
  asleep memory ends places _ _ _ _ start (other_begins now now_ends after_ends now_places after_places rung call run begun) =
      let a = asleep memory ends places now now_ends now_places rung start run in record {
        pair = pair_kept.begins link_config now now_ends after_ends now_places after_places (1 - p) call is (omega arith) begun a.pair;
        bell = ⊎_elim (λ r. inl r) (⊎_elim (λ e. let f = begun.closed in absurd (cc))
            (λ asks. inr (inr record { event = asks.event; ahead = ⊎_elim (λ few. inl (let e = ap (λ (x : End). length x.accepted) begun.comes.end_is in omega arith)) (λ e. let f = begun.closed in absurd (cc)) asks.ahead }))) a.bell;
      }
  asleep memory ends places _ _ _ _ start (other_steps now after now_ends after_ends now_places after_places rung value run step) =
      let a = asleep memory ends places now now_ends now_places rung start run in record {
        pair = pair_kept.steps link_config now after now_ends after_ends now_places after_places (1 - p) value is (omega arith) step a.pair;
        bell = ⊎_elim (λ r. inl (rung_on rung _ r)) (⊎_elim (λ e. inl (rung_now rung _ (ap is_ringing e)))
            (λ asks. ⊎_elim (λ x. inr (inr x)) (λ e. inr (inl e)) (asked_doorbell_is_rung.others link_config now after now_ends after_ends now_places after_places p k value is p2 a.pair step asks))) a.bell;
      }
  asleep memory ends places _ _ _ _ start (others now after now_ends now_places rung run keep) =
      let a = asleep memory ends places now now_ends now_places rung start run in record {
        pair = pair_kept.others link_config now after now_ends now_places is keep a.pair;
        bell = ⊎_elim (λ r. inl r) (⊎_elim (λ e. inr (inl e))
            (λ asks. inr (inr record { event = fields_same link_config now after p is (keep p p2).section field.AvailEvent ∙ asks.event; ahead = asks.ahead }))) a.bell;
      }

  rung_at_end : (now : ℕ → ℕ) (now_ends : ℕ → End) (now_places : ℕ → Place) (rung : Bool) → Bell now now_ends now_places rung → now_places (1 - p) ≡ Closed → k < length (now_ends (1 - p)).accepted → rung ≡ true
  rung_at_end now now_ends now_places rung (inl r) closed more = r
  rung_at_end now now_ends now_places rung (inr (inl e)) closed more = absurd (cc)
  rung_at_end now now_ends now_places rung (inr (inr asks)) closed more = ⊎_elim (λ few. absurd (omega arith)) (λ e. absurd (cc)) asks.ahead

pub sleepers_are_rung : SleepersAreRung
sleepers_are_rung link_config memory slept now ends slept_ends now_ends places slept_places now_places p taken value last rung is p2 m looks event none step sleeps closed more =
    let asks = asked_doorbell_is_rung.looks link_config memory ends places p taken value last is p2 m looks step.meets none event in
    let quiet : ¬ WritesEvent (places p) = λ w. subst WritesEvent looks w in
    let start : Asleep link_config is p taken p2 slept slept_ends slept_places false = record {
      pair = pair_kept.steps link_config memory slept ends slept_ends places slept_places p value is p2 step m;
      bell = inr (inr (asked_doorbell_is_rung.stays link_config memory slept ends slept_ends places slept_places p taken value is p2 m step quiet asks));
    } in
    rung_at_end link_config is p taken p2 now now_ends now_places rung (asleep link_config is p taken p2 slept slept_ends slept_places now now_ends now_places rung start sleeps).bell closed more
