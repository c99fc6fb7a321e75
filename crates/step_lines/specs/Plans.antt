-- The plan of an automatic end, and the peer of a history that it refines.
use Rattle.std.specs.Prelude.{◌≡◌}
use Rattle.link_endpoint.specs.Plan.{Plan, HasCounted}
use Rattle.lawful_history.specs.Peers.{Auto}

-- A plan refines that of an automatic end. Its deliveries are counted up to the number expected.
pub record IsPlanOf (plan : Plan) (auto : Auto) : Type 0 where
  pub frames : plan.frames ≡ auto.frames
  pub expected : plan.expected ≡ auto.expected
  pub delivered : HasCounted plan auto.delivered
  pub round : plan.round ≡ auto.round
