-- The steps that open a session.
use Rattle.std.specs.Prelude.{ℕ, ◌≡◌, ◌≢◌, List}
use Rattle.link_handshake.specs.declared.Phase.TheVariants.{Ready}
use Rattle.split_ring.specs.declared.steps.Access.TheVariants.{State}
use Rattle.split_ring.specs.declared.steps.Note.{Note}
use Rattle.call_grammar.specs.Ends.{End}
use Rattle.call_grammar.specs.Calls.{EndConfig}
use Rattle.call_grammar.specs.Places.{Place, access_at}
use Rattle.link_endpoint.specs.Engine.{Engine}
use Rattle.link_endpoint.specs.Refinement.{RefinesAt, Takes}

-- A step that writes State 2 makes the phase READY, and no other step does. So a counted session
-- was opened by a write of State 2.
pub record SessionsFollowState : Type 0 where
  pub written : (old new : Engine) (value : ℕ) (notes : List Note) (config : EndConfig) (end : End) (place : Place) →
      Takes old value notes new → RefinesAt old config end place → access_at config place ≡ State 2 → new.phase ≡ Ready
  pub counted : (old new : Engine) (value : ℕ) (notes : List Note) (config : EndConfig) (end : End) (place : Place) →
      Takes old value notes new → RefinesAt old config end place → old.phase ≢ Ready → new.phase ≡ Ready → access_at config place ≡ State 2
