-- The scenario of a load is a scenario.
use Rattle.std.proofs.Common.{◌≡◌, ℕ, zero, suc, ◌+◌, ◌*◌, ◌/◌, ◌%◌, ◌<◌, ◌≤◌, List, [], ◌∷◌, ◌++◌, length, get_or, map, refl, sym, ap, ◌∙◌, arith, zero-add}
use Rattle.std.specs.Prelude.{All}
use Rattle.std.specs.List.{range_with_len}
use Rattle.std.proofs.lemmas.List.Elements.{All-map}
use Rattle.std.proofs.lemmas.List.FromFn.{length-map-range_with_len, map-range_with_len_more}
use Rattle.std.proofs.lemmas.List.{append-nil}
use Rattle.split_ring.specs.declared.sizes.TheConstants.{LEAST_MTU, SHORTEST_FRAME}
use Rattle.split_ring.specs.Layout.{queue_size}
use Rattle.scenario_text.specs.declared.acts.Act.{Act}
use Rattle.scenario_text.specs.declared.acts.Act.TheVariants.{Offer}
use Rattle.scenario_text.specs.declared.limits.TheConstants.{LOAD_OUT, LOAD_ROUNDS, LOAD_STEPS, MOST_LOAD}
use Rattle.scenario_text.specs.Scenario.{IsWorld}
use Rattle.scenario_text.specs.Loads.{IsFrame, offers_of, link_world, load_frame, load_frames, load_acts, load_world}
use Rattle.scenario_text.specs.Sizes.{is_geometry, is_queue}
use Rattle.scenario_text.proofs.LinkIsScenario.{offering_turns, offering_is_world, offers_more}

-- ---- the frames

frame_length : (k : ℕ) → length (load_frame k) ≡ SHORTEST_FRAME + k % 3
frame_length k = length-map-range_with_len (λ j. (31 * k + 7 * j) % 256) 0 (SHORTEST_FRAME + k % 3)

frame_bytes : (k a n i : ℕ) → get_or (map (λ j. (31 * k + 7 * j) % 256) (range_with_len a n)) i 0 < 256
frame_bytes k a zero i = omega arith
frame_bytes k a (suc n) zero = omega arith
frame_bytes k a (suc n) (suc i) = frame_bytes k (a + 1) n i

pub is_frame : (k : ℕ) → IsFrame LEAST_MTU (load_frame k)
is_frame k = let size = frame_length k in record { least = omega arith; most = omega arith; bytes = λ i. frame_bytes k 0 (SHORTEST_FRAME + k % 3) i }

are_frames : (count : ℕ) → All (IsFrame LEAST_MTU) (load_frames count)
unfolding load_frames
are_frames count = All-map (IsFrame LEAST_MTU) (λ k. load_frame k) (range_with_len 0 count) (λ i d lt. is_frame _)

pub frames_length : (count : ℕ) → length (load_frames count) ≡ count
unfolding load_frames
frames_length count = length-map-range_with_len (λ k. load_frame k) 0 count

-- ---- the scenario

-- For every count from 1 to `MOST_LOAD`.
pub load_is_world : (count : ℕ) → count ≤ MOST_LOAD → IsWorld (load_world count)
unfolding load_world is_geometry is_queue queue_size
load_is_world count few =
    let turns = offering_turns 0 LOAD_STEPS (LOAD_ROUNDS + (count + 2) / 3) (load_frames count) in
    let size = frames_length count in
    offering_is_world LOAD_OUT LEAST_MTU 0 LOAD_STEPS (LOAD_ROUNDS + (count + 2) / 3) (load_frames count) refl refl (omega arith) (omega arith) (are_frames count) (omega arith)

pub load_made : (acts : List Act) (count : ℕ) → acts ≡ load_acts count → link_world LOAD_OUT LEAST_MTU acts ≡ load_world count
unfolding load_world
load_made acts count are = ap (λ (a : List Act). link_world LOAD_OUT LEAST_MTU a) are

-- ---- one more

frames_more : (count : ℕ) → load_frames (count + 1) ≡ load_frames count ++ load_frame count ∷ []
unfolding load_frames
frames_more count = map-range_with_len_more (λ k. load_frame k) 0 count count (zero-add count)

pub one_more : (acts front now : List Act) (count : ℕ) (frame : List ℕ) → acts ≡ front ++ offers_of 0 (load_frames count) → frame ≡ load_frame count → now ≡ acts ++ Offer 0 frame ∷ [] → now ≡ front ++ offers_of 0 (load_frames (count + 1))
one_more acts front now count frame before made pushed =
    offers_more 0 acts front now (load_frames count) frame before pushed
    ∙ ap (λ (fs : List (List ℕ)). front ++ offers_of 0 fs) (ap (λ (f : List ℕ). load_frames count ++ f ∷ []) made ∙ sym (frames_more count))

pub no_offers : (front : List Act) → front ≡ front ++ offers_of 0 (load_frames 0)
unfolding load_frames
no_offers front = sym (append-nil front)
