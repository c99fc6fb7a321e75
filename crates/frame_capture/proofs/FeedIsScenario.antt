-- The scenario that offers frames is a scenario.
use Rattle.std.proofs.Common.{◌≡◌, ℕ, ◌<◌, ◌≤◌, List, refl, ap, arith, inl, inr}
use Rattle.std.specs.Prelude.{All}
use Rattle.split_ring.specs.Layout.{queue_size}
use Rattle.scenario_text.specs.declared.acts.Act.{Act}
use Rattle.scenario_text.specs.declared.limits.TheConstants.{MOST_ACTS}
use Rattle.scenario_text.specs.Acts.{turns_of}
use Rattle.scenario_text.specs.Scenario.{IsWorld}
use Rattle.scenario_text.specs.Loads.{IsFrame, link_world}
use Rattle.scenario_text.specs.Sizes.{is_geometry, is_queue}
use Rattle.scenario_text.proofs.LinkIsScenario.{offering_turns, offering_is_world}
use Rattle.frame_capture.specs.declared.feeding.TheConstants.{FEED_MTU, FEED_OUT, FEED_STEPS}
use Rattle.frame_capture.specs.Feed.{round_count, act_count, feed_acts, feed_world, IsTooLarge}
use Rattle.frame_capture.proofs.Texts.{feed_text}

feed_turns : (peer : ℕ) (frames : List (List ℕ)) → turns_of (feed_acts peer frames) ≡ act_count frames
feed_turns peer frames = let turns = offering_turns peer FEED_STEPS (round_count frames) frames in omega arith

pub feed_is_world : (peer : ℕ) (frames : List (List ℕ)) → peer < 2 → All (IsFrame FEED_MTU) frames → act_count frames ≤ MOST_ACTS → IsWorld (feed_world peer frames)
unfolding feed_world is_geometry is_queue queue_size
feed_is_world peer frames below are few =
    let turns = feed_turns peer frames in
    offering_is_world FEED_OUT FEED_MTU peer FEED_STEPS (round_count frames) frames refl refl below (omega arith) are (omega arith)

pub feed_made : (acts : List Act) (peer : ℕ) (frames : List (List ℕ)) → acts ≡ feed_acts peer frames → link_world FEED_OUT FEED_MTU acts ≡ feed_world peer frames
unfolding feed_world
feed_made acts peer frames are = ap (λ (a : List Act). link_world FEED_OUT FEED_MTU a) are

-- ---- too large

pub too_many : (peer : ℕ) (frames : List (List ℕ)) → MOST_ACTS < act_count frames → IsTooLarge (feed_world peer frames)
unfolding feed_world
too_many peer frames many = let turns = feed_turns peer frames in inl (omega arith)

pub not_too_large : (peer : ℕ) (frames : List (List ℕ)) → peer < 2 → act_count frames ≤ MOST_ACTS → IsTooLarge (feed_world peer frames) → ⊥
unfolding feed_world
not_too_large peer frames below few (inl many) = let turns = feed_turns peer frames in omega arith
not_too_large peer frames below few (inr long) = let text = feed_text peer frames below few in omega arith
