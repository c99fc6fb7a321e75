-- The notes of a step as marks of the grammar.
use Rattle.std.proofs.Common.{◌≡◌, ℕ, ◌+◌, ◌<◌, true, List, [], ◌∷◌, ◌++◌, length, take, get_or, refl, sym, ◌∙◌, ap, subst, arith, add-zero}
use Rattle.std.specs.Prelude.{map}
use Rattle.std.proofs.lemmas.List.{take_more, map-append}
use Rattle.split_ring.specs.declared.steps.Note.{Note}
use Rattle.call_grammar.specs.Steps.{Mark, Accept, Deliver}
use Rattle.call_grammar.specs.Ends.{End, end_after}
use Rattle.call_grammar.specs.Calls.{EndConfig}
use Rattle.call_grammar.specs.Places as places
use Rattle.call_grammar.specs.Places.{Place, Closed, marks_at, next_place, step_at, is_open}
use Rattle.link_endpoint.specs.declared.place.Place as ends
use Rattle.link_endpoint.specs.declared.place.Place.TheVariants as endpoint_places
use Rattle.link_endpoint.specs.Engine.{Engine, is_open_at, is_busy, offered, delivered}
use Rattle.link_endpoint.specs.Refinement.{RefinesAt, IsAt, goes_on, Takes, mark_between, marks_between}
use Rattle.link_endpoint.specs.Plan.{Plan, left_after, delivered_by, Counts}
use Rattle.lawful_history.specs.EventRecords.{mark_line}
use Rattle.lawful_history.specs.Peers.{Auto, counted, counted_all}
use Rattle.step_lines.specs.Plans.{IsPlanOf}
use Rattle.step_lines.proofs.FramesOfMarks.{marks_after}

-- The counts of a step

marks_counted : (auto : Auto) (marks : List Mark) → counted_all auto marks ≡ record auto { frames = left_after auto.frames marks; delivered = auto.delivered + length (delivered_by marks) }
marks_counted auto [] = ap (λ (n : ℕ). record auto { delivered = n }) (sym (add-zero auto.delivered))
marks_counted auto (Deliver frame ∷ marks) =
    marks_counted (counted auto (Deliver frame)) marks ∙
    ap (λ (n : ℕ). record auto { frames = left_after auto.frames marks; delivered = n }) (let one : ℕ = length (delivered_by marks) in omega arith)
marks_counted auto (Accept frame ∷ marks) = marks_counted (counted auto (Accept frame)) marks
marks_counted auto (_ ∷ marks) = marks_counted auto marks

-- A plan that counted these marks is that of an automatic end that counted them.
pub plan_counted : (plan new : Plan) (auto : Auto) (marks : List Mark) → Counts plan marks new → IsPlanOf plan auto → IsPlanOf new (counted_all auto marks)
plan_counted plan new auto marks counts is = subst (λ (a : Auto). IsPlanOf new a) (sym (marks_counted auto marks)) (record {
  frames = counts.frames ∙ ap (λ (fs : List (List ℕ)). left_after fs marks) is.frames;
  expected = counts.expected ∙ is.expected;
  delivered = counts.delivered auto.delivered is.delivered;
  round = counts.round ∙ is.round;
})

-- One more line.
pub one_recorded : (me : ℕ) (one other : List ℕ) (notes : List Note) (i : ℕ) (note : Note) → i < length notes → note ≡ get_or notes i note →
    map (mark_line me) (marks_between one other (take (i + 1) notes)) ≡ map (mark_line me) (marks_between one other (take i notes)) ++ mark_line me (mark_between one other note) ∷ []
one_recorded me one other notes i note inside is =
    let taken : take (i + 1) notes ≡ take i notes ++ note ∷ [] = take_more notes i note inside ∙ ap (λ (n : Note). take i notes ++ n ∷ []) (sym is) in
    ap (λ ns. map (mark_line me) (marks_between one other ns)) taken ∙ ap (λ ms. map (mark_line me) ms) (map-append (mark_between one other) (take i notes) (note ∷ []))
    ∙ map-append (mark_line me) (marks_between one other (take i notes)) (mark_between one other note ∷ [])

goes_open : (place : Place) → goes_on place ≡ true → true ≡ is_open place
goes_open Closed is = absurd (cc)
goes_open places.Refusing is = absurd (cc)
goes_open _ is = refl

open_at : (at : ends.Place) (e : Engine) (config : EndConfig) (end : End) (place : Place) → IsAt at e config end place → is_open_at at ≡ is_open place
open_at endpoint_places.Offering e config end place is = goes_open place is.0
open_at endpoint_places.Polling e config end place is = goes_open place is.0
open_at _ e config end place is = ap is_open (sym is.0)

-- An endpoint is busy if a call is open.
pub busy_is : (e : Engine) (config : EndConfig) (end : End) (place : Place) → RefinesAt e config end place → is_busy e ≡ is_open place
busy_is e config end place refines = open_at e.place e config end place refines.at

pub busy_next : (e e' : Engine) (value : ℕ) (notes : List Note) (config : EndConfig) (end : End) (place : Place) → Takes e value notes e' → RefinesAt e config end place → is_busy e' ≡ is_open (next_place config place value)
busy_next e e' value notes config end place took refines = busy_is e' config (end_after end (step_at config place value)) (next_place config place value) (took.refines config end place refines)

-- The marks of a step, from the endpoint after it.
pub marks_now : (e e' : Engine) (value : ℕ) (notes : List Note) (config : EndConfig) (end : End) (place : Place) → Takes e value notes e' → RefinesAt e config end place → is_busy e' ≡ is_open (next_place config place value) →
    marks_between (offered e') (delivered e') notes ≡ marks_at config place value
marks_now e e' value notes config end place took refines busy = marks_after config place value (offered e) (offered e') (delivered e') notes (is_busy e') (took.marked config end place refines) busy (λ on. took.offered)
