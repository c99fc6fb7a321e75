-- An end that refused a value leaves the link, and stays away until its device is reset.
use Rattle.std.specs.Prelude.{ℕ, ◌≡◌, true, false, Some, None, is_some, List, [], ◌∷◌}
use Rattle.split_ring.specs.declared.ranges.Refused.{Refused}
use Rattle.split_ring.specs.declared.steps.Note.{Note}
use Rattle.split_ring.specs.declared.steps.Note.TheVariants as note
use Rattle.link_handshake.specs.declared.Phase.{Phase}
use Rattle.link_handshake.specs.declared.Phase.TheVariants.{Reset}
use Rattle.link_endpoint.specs.declared.place.Place.{Place}
use Rattle.link_endpoint.specs.declared.place.Place.TheVariants.{Clearing, WritingState, Refusing, Offering, Polling}
use Rattle.link_endpoint.specs.Engine.{Engine, is_busy, is_refusing, is_reading_state, refused_after}

-- The places and phases of an end that refused a value. It is before the State step of the refusal,
-- or in RESET and in no call that leads out of it.
abbrev pub IsAfterRefusal : Place → Phase → Type 0
IsAfterRefusal Refusing phase = Unit {0}
IsAfterRefusal (WritingState state) phase = (state ≡ 0) × (phase ≡ Reset)
IsAfterRefusal (Clearing at state) phase = ⊥
IsAfterRefusal Offering phase = ⊥
IsAfterRefusal Polling phase = ⊥
IsAfterRefusal _ phase = phase ≡ Reset

-- A step that refuses a value records it, and the State step of the refusal is next.
abbrev pub RecordsRefusal : List Note → Engine → Type 0
RecordsRefusal notes new = (found : Refused) → refused_after notes None ≡ Some found → (new.refused ≡ Some found) × (is_refusing new ≡ true)

-- The State step of a refusal ends the call and puts the end into RESET.
abbrev pub EndsRefusal : Engine → List Note → Engine → Type 0
EndsRefusal old notes new = is_refusing old ≡ true → (notes ≡ note.Over ∷ []) × (is_busy new ≡ false) × (new.phase ≡ Reset)

-- A step leaves the refused field and value unchanged.
abbrev pub KeepsRefused : Engine → Engine → Type 0
KeepsRefused old new = (found : Refused) → old.refused ≡ Some found → new.refused ≡ Some found

-- A Tick of an end that refused a value has the mark of the State read, ends, and changes no phase.
abbrev pub KeepsPhase : Engine → ℕ → List Note → Engine → Type 0
KeepsPhase old value notes new = is_reading_state old ≡ true → is_some old.refused ≡ true →
    (notes ≡ note.Saw value ∷ note.Over ∷ []) × (is_busy new ≡ false) × (new.phase ≡ old.phase)

-- A step satisfies all of these.
pub record StaysRefused (old : Engine) (value : ℕ) (notes : List Note) (new : Engine) : Type 0 where
  pub refuses : RecordsRefusal notes new
  pub leaves : EndsRefusal old notes new
  pub keeps : KeepsRefused old new
  pub stays : KeepsPhase old value notes new
