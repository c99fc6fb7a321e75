-- The end that an endpoint refines, by the endpoint's place.
use Rattle.std.proofs.Common.{◌≡◌, Bool, false, subst, ap, ◌∙◌, arith}
use Rattle.std.proofs.lemmas.Grind.{common_steps}
use Rattle.link_handshake.specs.declared.Phase.{Phase}
use Rattle.link_handshake.specs.HandshakeState.{HandshakeState}
use Rattle.call_grammar.specs.Ends.{End}
use Rattle.call_grammar.specs.Calls.{EndConfig}
use Rattle.call_grammar.specs.Places as places
use Rattle.link_endpoint.specs.declared.place.Place.{Place}
use Rattle.link_endpoint.specs.Engine.{Engine, is_busy}
use Rattle.link_endpoint.specs.Refinement.{RefinesAt, IsAt}

-- An endpoint without an open call refines no end at a place of an open call.
pub closed_at : (e : Engine) (config : EndConfig) (end : End) (place : places.Place) → is_busy e ≡ false → RefinesAt e config end place → place ≡ places.Closed
closed_at e config end place closed refines = grind (arith, common_steps)

-- The facts of the end that follow from the endpoint's place `at`.
pub at_place : (at : Place) (e : Engine) (config : EndConfig) (end : End) (place : places.Place) → e.place ≡ at → RefinesAt e config end place → IsAt at e config end place
at_place at e config end place is refines = subst (λ p. IsAt p e config end place) is refines.at

-- A handshake state is determined by its phase and its mark.
pub standing_is : (standing : HandshakeState) (phase : Phase) (mark : Bool) → standing.phase ≡ phase → standing.mark ≡ mark → standing ≡ record { phase = phase; mark = mark }
standing_is standing phase mark phase_is mark_is =
    ap (λ (p : Phase). let s : HandshakeState = record { phase = p; mark = standing.mark } in s) phase_is ∙ ap (λ (m : Bool). let s : HandshakeState = record { phase = phase; mark = m } in s) mark_is
