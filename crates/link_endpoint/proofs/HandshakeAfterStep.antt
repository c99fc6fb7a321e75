-- The handshake state of an end after a step of an offer or a poll, by the notes of the step.
use Rattle.std.proofs.Common.{◌≡◌, ℕ, Bool, true, false, Some, None, List, ap, sym, ◌∙◌}
use Rattle.std.specs.Prelude.{is_some, if◌then◌else◌}
use Rattle.split_ring.specs.declared.ranges.Refused.{Refused}
use Rattle.split_ring.specs.declared.steps.Note.{Note}
use Rattle.call_grammar.specs.Steps.{marks_of}
use Rattle.call_grammar.specs.Ends.{End, end_after}
use Rattle.call_grammar.specs.Calls.{EndConfig}
use Rattle.call_grammar.specs.Places as places
use Rattle.link_endpoint.specs.Engine.{Engine, handshake_of, refused_after}
use Rattle.link_endpoint.specs.Refinement.{RefinesAt}
use Rattle.link_endpoint.proofs.EndByPlace.{standing_is}
use Rattle.link_endpoint.proofs.Notes.{refuses, refusal_marked}
use Rattle.link_endpoint.proofs.OfferAndPollSteps.{is_refusing, IsStep, refusing_is}

-- A step with these notes, over the frame `frame`.
pub record IsNoted (frame : List ℕ) (notes : List Note) (config : EndConfig) (end : End) (place : places.Place) (value : ℕ) : Type 0 where
  pub step : IsStep config end place value
  pub marks : marks_of frame notes ≡ places.marks_at config place value

refuses_is : (frame : List ℕ) (notes : List Note) (config : EndConfig) (end : End) (place : places.Place) (value : ℕ) → IsNoted frame notes config end place value → is_some (refused_after notes None) ≡ refuses (places.marks_at config place value)
refuses_is frame notes config end place value noted = refusal_marked frame notes ∙ ap refuses noted.marks

mark_is : (config : EndConfig) (end : End) (place : places.Place) (value : ℕ) (b : Bool) → IsStep config end place value → b ≡ refuses (places.marks_at config place value) → (end_after end (places.step_at config place value)).handshake.mark ≡ (if b then true else end.handshake.mark)
mark_is config end place value b step is = step.mark ∙ sym (ap (λ c. if c then true else end.handshake.mark) is)

-- If the step refused a value, the State step of the refusal is next, and the end has the mark.
pub refused_place : (frame : List ℕ) (notes : List Note) (refused : Refused) (config : EndConfig) (end : End) (place : places.Place) (value : ℕ) →
    IsNoted frame notes config end place value → refused_after notes None ≡ Some refused → places.next_place config place value ≡ places.Refusing
refused_place frame notes refused config end place value noted found =
    refusing_is (places.next_place config place value) (sym noted.step.refusing ∙ sym (refuses_is frame notes config end place value noted) ∙ ap is_some found)

pub refused_mark : (frame : List ℕ) (notes : List Note) (refused : Refused) (config : EndConfig) (end : End) (place : places.Place) (value : ℕ) →
    IsNoted frame notes config end place value → refused_after notes None ≡ Some refused → (end_after end (places.step_at config place value)).handshake.mark ≡ true
refused_mark frame notes refused config end place value noted found = mark_is config end place value true noted.step (sym (ap is_some found) ∙ refuses_is frame notes config end place value noted)

pub refused_standing : (old : Engine) (frame : List ℕ) (notes : List Note) (refused : Refused) (config : EndConfig) (end : End) (place : places.Place) (value : ℕ) →
    RefinesAt old config end place → IsNoted frame notes config end place value → refused_after notes None ≡ Some refused →
    (end_after end (places.step_at config place value)).handshake ≡ record { phase = old.phase; mark = true }
refused_standing old frame notes refused config end place value refines noted found =
    standing_is _ old.phase true (noted.step.phase ∙ ap (λ h. h.phase) refines.standing) (refused_mark frame notes refused config end place value noted found)

-- If the step refused no value, the handshake state is unchanged, and the State step of a refusal
-- isn't next.
pub kept_place : (frame : List ℕ) (notes : List Note) (config : EndConfig) (end : End) (place : places.Place) (value : ℕ) →
    IsNoted frame notes config end place value → refused_after notes None ≡ None → is_refusing (places.next_place config place value) ≡ false
kept_place frame notes config end place value noted none = sym noted.step.refusing ∙ sym (refuses_is frame notes config end place value noted) ∙ ap is_some none

pub kept_standing : (old : Engine) (frame : List ℕ) (notes : List Note) (config : EndConfig) (end : End) (place : places.Place) (value : ℕ) →
    RefinesAt old config end place → IsNoted frame notes config end place value → refused_after notes None ≡ None →
    (end_after end (places.step_at config place value)).handshake ≡ handshake_of old
kept_standing old frame notes config end place value refines noted none =
    standing_is _ old.phase (is_some old.refused) (noted.step.phase ∙ ap (λ h. h.phase) refines.standing)
    (mark_is config end place value false noted.step (sym (ap is_some none) ∙ refuses_is frame notes config end place value noted) ∙ ap (λ h. h.mark) refines.standing)
