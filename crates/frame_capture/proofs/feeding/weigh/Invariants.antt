use Rattle.std.proofs.Common.{◌≡◌, ◌*◌, ◌≤◌, length, take}
use Rattle.std.specs.Prelude.{sum_by}
use Rattle.frame_capture.specs.Feed.{offered_frames, weight}
use Rattle.frame_capture.proofs.feeding.weigh.Given as goal

pub record SoFar (Frames Weight Most Few : Type 0) : Type 0 where
  pub frames : Frames
  pub weight : Weight
  pub most : Most
  pub few : Few

abbrev pub invariant-loop-packet : goal.invariant-loop-packet
invariant-loop-packet l = SoFar (l.frames ≡ length (offered_frames (take l.packet-index l.packets))) (l.weight ≡ sum_by weight (offered_frames (take l.packet-index l.packets)))
    (l.weight ≤ 4113 * l.frames) (l.frames ≤ l.packet-index)
