-- An end that refused a value makes no offer and no poll.
use Rattle.std.proofs.Common.{◌≡◌, ℕ, Bool, true, false, Some, None, List, refl, sym, ap, ◌∙◌}
use Rattle.std.specs.Prelude.{is_some}
use Rattle.split_ring.specs.declared.ranges.Refused.{Refused}
use Rattle.split_ring.specs.declared.steps.Note.{Note}
use Rattle.link_handshake.specs.declared.Phase.{Phase}
use Rattle.link_endpoint.specs.declared.place.Place.{Place}
use Rattle.link_endpoint.specs.declared.place.Place.TheVariants.{Offering, Polling}
use Rattle.link_endpoint.specs.Engine.{Engine, is_refusing, is_refusing_at, is_reading_state_at, refused_after}
use Rattle.link_endpoint.specs.Refusal.{IsAfterRefusal, StaysRefused}

-- An offer or a poll is open in RUN.
abbrev pub works_at : Place → Bool
works_at Offering = true
works_at Polling = true
works_at _ = false

works_left : (p : Place) (phase : Phase) → works_at p ≡ true → IsAfterRefusal p phase → ⊥
works_left Offering phase works left = left
works_left Polling phase works left = left
works_left _ phase works left = absurd (cc)

works_on : (p : Place) → works_at p ≡ true → (is_refusing_at p ≡ false) × (is_reading_state_at p ≡ false)
works_on Offering works = (refl, refl)
works_on Polling works = (refl, refl)
works_on _ works = absurd (cc)

pub none_left : (old : Engine) → works_at old.place ≡ true → (is_some old.refused ≡ true → IsAfterRefusal old.place old.phase) → is_some old.refused ≡ true → ⊥
none_left old works left some = works_left old.place old.phase works (left some)

pub away_refused : (old new : Engine) (value : ℕ) (notes : List Note) (refused : Refused) → works_at old.place ≡ true → (is_some old.refused ≡ true → IsAfterRefusal old.place old.phase) →
    refused_after notes None ≡ Some refused → new.refused ≡ Some refused → is_refusing new ≡ true → StaysRefused old value notes new
away_refused old new value notes refused works left found kept leaving = record {
  refuses = λ other is. (kept ∙ (sym found ∙ is), leaving);
  leaves = λ is. let on = works_on old.place works in absurd (cc);
  keeps = λ other is. absurd (none_left old works left (ap is_some is));
  stays = λ is. let on = works_on old.place works in absurd (cc);
}

pub away_none : (old new : Engine) (value : ℕ) (notes : List Note) → works_at old.place ≡ true → (is_some old.refused ≡ true → IsAfterRefusal old.place old.phase) →
    refused_after notes None ≡ None → StaysRefused old value notes new
away_none old new value notes works left none = record {
  refuses = λ other is. let f = ap is_some (sym none ∙ is) in absurd (cc);
  leaves = λ is. let on = works_on old.place works in absurd (cc);
  keeps = λ other is. absurd (none_left old works left (ap is_some is));
  stays = λ is. let on = works_on old.place works in absurd (cc);
}
