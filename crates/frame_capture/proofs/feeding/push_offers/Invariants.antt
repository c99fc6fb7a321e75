use Rattle.std.proofs.Common.{◌≡◌, ◌++◌, take}
use Rattle.std.specs.Prelude.{All}
use Rattle.scenario_text.specs.Loads.{IsFrame, offers_of}
use Rattle.frame_capture.specs.declared.feeding.TheConstants.{FEED_MTU}
use Rattle.frame_capture.specs.Feed.{offered_frames}
use Rattle.frame_capture.proofs.feeding.push_offers.Given as goal

pub record SoFar (Put Frames : Type 0) : Type 0 where
  pub put : Put
  pub frames : Frames

abbrev pub invariant-loop-packet : goal.invariant-loop-packet
invariant-loop-packet l = SoFar (l.acts ≡ l.fn.acts ++ offers_of l.peer (offered_frames (take l.packet-index l.packets))) (All (IsFrame FEED_MTU) (offered_frames (take l.packet-index l.packets)))
