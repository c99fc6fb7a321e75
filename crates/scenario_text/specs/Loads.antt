-- The scenarios of two honest link peers that choose their calls (profile): one peer offers frames,
-- and the other delivers them. A load is such a scenario.
use Rattle.std.specs.Prelude.{ℕ, ◌+◌, ◌-◌, ◌*◌, ◌/◌, ◌%◌, ◌<◌, ◌≤◌, true, List, [], ◌∷◌, ◌++◌, length, map, slice_index}
use Rattle.std.specs.List.{range_with_len, flat_map}
use Rattle.section_map.specs.declared.limits.TheConstants.{PAGE}
use Rattle.section_map.specs.Faults.{shape_of}
use Rattle.split_ring.specs.declared.sizes.TheConstants.{FRAME_OVERHEAD, LEAST_MTU, SHORTEST_FRAME}
use Rattle.pci_space.specs.declared.wiring.Wiring.TheVariants.{Msix}
use Rattle.scenario_text.specs.declared.acts.Act.{Act}
use Rattle.scenario_text.specs.declared.acts.Act.TheVariants.{Auto, Offer, Turn}
use Rattle.scenario_text.specs.declared.limits.TheConstants.{LOAD_OUT, LOAD_ROUNDS, LOAD_STEPS}
use Rattle.scenario_text.specs.Scenario.{World}

-- An offered frame: 14 to MTU + 18 bytes.
pub record IsFrame (mtu : ℕ) (frame : List ℕ) : Type 0 where
  pub least : SHORTEST_FRAME ≤ length frame
  pub most : length frame ≤ mtu + FRAME_OVERHEAD
  pub bytes : (i : ℕ) → slice_index frame i < 256

-- The offers of the frames, in their order.
abbrev pub offers_of : (peer : ℕ) → List (List ℕ) → List Act
offers_of peer frames = map (λ frame. Offer peer frame) frames

-- `count` rounds of one turn of each peer, with this number of steps.
unfoldable pub rounds : (steps count : ℕ) → List Act
rounds steps count = flat_map (λ _. Turn 0 steps ∷ Turn 1 steps ∷ []) (range_with_len 0 count)

-- Both peers choose their calls, `peer` until it has offered the frames, and the other until it has
-- delivered as many. After the offers come `count` rounds.
abbrev pub offering_acts : (peer : ℕ) → List (List ℕ) → (steps count : ℕ) → List Act
offering_acts peer frames steps count = Auto peer 0 ∷ Auto (1 - peer) (length frames) ∷ offers_of peer frames ++ rounds steps count

-- Two honest peers with these acts. Each has an output section of `out` bytes.
abbrev pub link_world : (out mtu : ℕ) → List Act → World
link_world out mtu acts = record {
  version = 1;
  geometry = shape_of 2 PAGE 0 out;
  queue = record { version = 1; out = out; mtu = mtu };
  wiring = Msix 2;
  honest = true ∷ true ∷ [];
  acts = acts;
}

-- ---- loads

-- Frame `k` of a load, from 0: each has 14 to 16 bytes.
abbrev pub load_frame : ℕ → List ℕ
load_frame k = map (λ j. (31 * k + 7 * j) % 256) (range_with_len 0 (SHORTEST_FRAME + k % 3))

unfoldable pub load_frames : ℕ → List (List ℕ)
load_frames count = map (λ k. load_frame k) (range_with_len 0 count)

-- Peer 0 offers `count` frames. There are `LOAD_ROUNDS` rounds, and one more for each three frames.
abbrev pub load_acts : ℕ → List Act
load_acts count = offering_acts 0 (load_frames count) LOAD_STEPS (LOAD_ROUNDS + (count + 2) / 3)

-- The scenario of a load of `count` frames, 1 to `MOST_LOAD`.
unfoldable pub load_world : ℕ → World
load_world count = link_world LOAD_OUT LEAST_MTU (load_acts count)
