-- The scenario that offers the frames of a capture (profile): two honest link peers choose their
-- calls. One offers the frames, and the other expects as many.
use Rattle.std.specs.Prelude.{ℕ, ◌+◌, ◌*◌, ◌/◌, ◌<◌, ◌==◌, ◌&&◌, ◌⊎◌, Bool, nat_le, List, length, map, filter, sum_by}
use Rattle.split_ring.specs.declared.sizes.TheConstants.{SHORTEST_FRAME}
use Rattle.scenario_text.specs.declared.acts.Act.{Act}
use Rattle.scenario_text.specs.declared.limits.TheConstants.{LONGEST_TEXT, MOST_ACTS}
use Rattle.scenario_text.specs.Acts.{turns_of}
use Rattle.scenario_text.specs.Loads.{offering_acts, link_world}
use Rattle.scenario_text.specs.Scenario.{World}
use Rattle.scenario_text.specs.Spelling.{spelling}
use Rattle.frame_capture.specs.declared.feeding.TheConstants.{FEED_MTU, FEED_OUT, FEED_ROUNDS, FEED_STEPS, FRAMES_A_ROUND, FRAME_WEIGHT, LONGEST_OFFERED, WEIGHT_A_ROUND}
use Rattle.frame_capture.specs.declared.packets.Packet.{Packet}

-- A packet is offered if it has its whole frame, of 14 to `LONGEST_OFFERED` bytes.
abbrev pub is_offered : Packet → Bool
is_offered p = length p.frame == p.original && nat_le SHORTEST_FRAME (length p.frame) && nat_le (length p.frame) LONGEST_OFFERED

-- The frames offered, in the order of their packets.
abbrev pub offered_frames : List Packet → List (List ℕ)
offered_frames ps = map (λ p. p.frame) (filter is_offered ps)

-- The weight of a frame: its number of words, and `FRAME_WEIGHT`.
abbrev pub weight : List ℕ → ℕ
weight frame = (length frame + 3) / 4 + FRAME_WEIGHT

-- The number of rounds.
abbrev pub round_count : List (List ℕ) → ℕ
round_count frames = FEED_ROUNDS + length frames / FRAMES_A_ROUND + sum_by weight frames / WEIGHT_A_ROUND

-- The number of acts of the scenario; a turn counts for its steps.
abbrev pub act_count : List (List ℕ) → ℕ
act_count frames = 2 + length frames + 2 * FEED_STEPS * round_count frames

-- The acts in which `peer` offers these frames, with the rounds for them.
abbrev pub feed_acts : (peer : ℕ) → List (List ℕ) → List Act
feed_acts peer frames = offering_acts peer frames FEED_STEPS (round_count frames)

-- The scenario in which `peer`, 0 or 1, offers these frames.
unfoldable pub feed_world : (peer : ℕ) → List (List ℕ) → World
feed_world peer frames = link_world FEED_OUT FEED_MTU (feed_acts peer frames)

-- The scenario has more acts than allowed, or a longer text than is read.
abbrev pub IsTooLarge : World → Type 0
IsTooLarge w = (MOST_ACTS < turns_of w.acts) ⊎ (LONGEST_TEXT < length (spelling w))
