-- The acts of a load, by their positions in a shorter one.
use Rattle.std.proofs.Common.{◌≡◌, ◌≢◌, ℕ, zero, suc, ◌+◌, ◌-◌, ◌*◌, ◌/◌, ◌%◌, ◌<◌, ◌≤◌, List, [], ◌∷◌, ◌++◌, length, get_or, map, refl, sym, ap, ◌∙◌, arith, zero-add, take}
use Rattle.std.specs.List.{range_with_len, flat_map}
use Rattle.std.proofs.lemmas.List.{get_or_append_left, get_or-append-add, length-append}
use Rattle.std.proofs.lemmas.List.FromFn.{length-map-range_with_len, get_or-map-range_with_len}
use Rattle.std.proofs.lemmas.Simd.{map-map}
use Rattle.scenario_text.specs.declared.acts.Act.{Act}
use Rattle.scenario_text.specs.declared.acts.Act.TheVariants.{Auto, Offer, Turn}
use Rattle.scenario_text.specs.declared.limits.TheConstants.{LOAD_ROUNDS, LOAD_STEPS, MOST_LOAD}
use Rattle.scenario_text.specs.Loads.{offers_of, rounds, load_frame, load_frames, load_acts, load_world}
use Rattle.scenario_text.proofs.LoadIsScenario.{frames_length, load_is_world}
use Rattle.lawful_history.specs.declared.line.Line.{Line}
use Rattle.lawful_history.specs.Schedule.{Event, schedule}
use Rattle.lawful_history.specs.Sessions.{recorded_in}
use Rattle.lawful_history.specs.History.{history}
use Rattle.simulator.specs.Log.{no_output}
use Rattle.scenario_text.specs.Scenario.{World}
use Rattle.simulator.specs.Simulator.{RunsTo, IsAct, kept_lines}
use Rattle.simulator.proofs.OneMoreEvent.{act_at}
use Rattle.sim_world.specs.declared.loads.TheConstants.{PERIOD}
use Rattle.sim_world.specs.Playing.{output_of, HasStopped, StopsWithin}
use Rattle.sim_world.proofs.DrainedHistories.{received_whole}
use Rattle.sim_world.proofs.StoppedPlays.{stops_within}
use Rattle.simulator.specs.declared.simulator.Simulator.{Simulator}

-- the acts of one round
abbrev round : List Act
round = Turn 0 LOAD_STEPS ∷ Turn 1 LOAD_STEPS ∷ []

abbrev load_offers : ℕ → List Act
load_offers count = offers_of 0 (load_frames count)

-- the number of rounds of a load
abbrev round_count : ℕ → ℕ
round_count count = LOAD_ROUNDS + (count + 2) / 3

-- the rounds of a load
abbrev load_rounds : ℕ → List Act
load_rounds n = rounds LOAD_STEPS n

offers_are : (count : ℕ) → load_offers count ≡ map (λ k. Offer 0 (load_frame k)) (range_with_len 0 count)
unfolding load_frames
offers_are count = map-map (λ frame. Offer 0 frame) (λ k. load_frame k) (range_with_len 0 count)

offers_length : (count : ℕ) → length (load_offers count) ≡ count
offers_length count = ap length (offers_are count) ∙ length-map-range_with_len (λ k. Offer 0 (load_frame k)) 0 count

rounds_length_from : (a n : ℕ) → length (flat_map (λ _. round) (range_with_len a n)) ≡ 2 * n
rounds_length_from a zero = refl
rounds_length_from a (suc n) = let rest = rounds_length_from (a + 1) n in omega arith

rounds_length : (n : ℕ) → length (load_rounds n) ≡ 2 * n
unfolding rounds
rounds_length n = rounds_length_from 0 n

pub acts_length : (count : ℕ) → length (load_acts count) ≡ 2 + count + 2 * round_count count
acts_length count =
    let total = round_count count in
    let both = length-append (load_offers count) (load_rounds total) in
    let offers = offers_length count in
    let turns = rounds_length total in
    omega arith

-- ---- the act at a position

mapped : (f g : ℕ → ℕ) → ((j : ℕ) → f j ≡ g j) → (xs : List ℕ) → map f xs ≡ map g xs
mapped f g same [] = refl
mapped f g same (x ∷ xs) = rw (same x, mapped f g same xs) refl

-- the frames of a load repeat after `PERIOD`
frames_repeat : (k : ℕ) → load_frame (k % PERIOD) ≡ load_frame k
frames_repeat k =
    let size : 14 + (k % PERIOD) % 3 ≡ 14 + k % 3 = omega arith in
    ap (λ n. map (λ j. (31 * (k % PERIOD) + 7 * j) % 256) (range_with_len 0 n)) size
    ∙ mapped (λ j. (31 * (k % PERIOD) + 7 * j) % 256) (λ j. (31 * k + 7 * j) % 256) (λ j. omega arith) (range_with_len 0 (14 + k % 3))

past_autos : (count i : ℕ) (d : Act) → get_or (load_acts count) (suc (suc i)) d ≡ get_or (load_offers count ++ load_rounds (round_count count)) i d
past_autos count i d = refl

offer_at : (count k : ℕ) (d : Act) → k < count → get_or (load_acts count) (suc (suc k)) d ≡ Offer 0 (load_frame k)
offer_at count k d inside =
    let size = offers_length count in
    past_autos count k d
    ∙ get_or_append_left (load_offers count) (load_rounds (round_count count)) d k (omega arith)
    ∙ ap (λ (t : List Act). get_or t k d) (offers_are count) ∙ get_or-map-range_with_len (λ k. Offer 0 (load_frame k)) 0 count k k d inside (zero-add k)

round_at_from : (a n j : ℕ) (d : Act) → j < 2 * n → get_or (flat_map (λ _. round) (range_with_len a n)) j d ≡ get_or round (j % 2) d
round_at_from a zero j d inside = absurd (omega arith)
round_at_from a (suc n) zero d inside = refl
round_at_from a (suc n) (suc zero) d inside = refl
round_at_from a (suc n) (suc (suc j)) d inside =
    let same : j % 2 ≡ (suc (suc j)) % 2 = omega arith in
    round_at_from (a + 1) n j d (omega arith) ∙ ap (λ i. get_or round i d) same

turn_at : (count j : ℕ) (d : Act) → j < 2 * round_count count → get_or (load_acts count) (suc (suc (count + j))) d ≡ get_or round (j % 2) d
unfolding rounds
turn_at count j d inside =
    let size = offers_length count in
    let at : count + j ≡ length (load_offers count) + j = omega arith in
    past_autos count (count + j) d
    ∙ ap (λ i. get_or (load_offers count ++ load_rounds (round_count count)) i d) at
    ∙ get_or-append-add (load_offers count) (load_rounds (round_count count)) j d
    ∙ round_at_from 0 (round_count count) j d inside

pub expects : (count at : ℕ) (act : Act) → at ≢ 0 → at < 2 → act ≡ Auto 1 count → act ≡ get_or (load_acts count) at act
expects count zero act some few is = absurd (some refl)
expects count (suc zero) act some few is = is ∙ ap (λ n. Auto 1 n) (sym (frames_length count))
expects count (suc (suc at)) act some few is = absurd (omega arith)

-- An offer of any load is in the load of `PERIOD` frames.
pub offer_again : (count at : ℕ) (act : Act) → 2 ≤ at → at < 2 + count → act ≡ get_or (load_acts PERIOD) (2 + (at - 2) % PERIOD) act → act ≡ get_or (load_acts count) at act
offer_again count at act after before is =
    let k = at - 2 in
    let there : suc (suc k) ≡ at = omega arith in
    let place : 2 + k % PERIOD ≡ suc (suc (k % PERIOD)) = omega arith in
    is ∙ ap (λ i. get_or (load_acts PERIOD) i act) place ∙ offer_at PERIOD (k % PERIOD) act (omega arith) ∙ ap (λ (f : List ℕ). Offer 0 f) (frames_repeat k)
    ∙ sym (offer_at count k act (omega arith)) ∙ ap (λ i. get_or (load_acts count) i act) there

-- and so does a turn
pub turn_again : (count at : ℕ) (act : Act) → 2 + count ≤ at → at < length (load_acts count) → act ≡ get_or (load_acts PERIOD) (2 + PERIOD + (at - 2 - count) % 2) act → act ≡ get_or (load_acts count) at act
turn_again count at act after inside is =
    let j = at - 2 - count in
    let size = acts_length count in
    let there : suc (suc (count + j)) ≡ at = omega arith in
    let place : 2 + PERIOD + j % 2 ≡ suc (suc (PERIOD + j % 2)) = omega arith in
    let same : (j % 2) % 2 ≡ j % 2 = omega arith in
    is ∙ ap (λ i. get_or (load_acts PERIOD) i act) place ∙ turn_at PERIOD (j % 2) act (omega arith) ∙ ap (λ i. get_or round i act) same
    ∙ sym (turn_at count j act (omega arith)) ∙ ap (λ i. get_or (load_acts count) i act) there

-- ---- the start

-- at its start a simulator is that of each load
pub starts_alike : (some count version : ℕ) (s : Simulator) → count ≤ MOST_LOAD → RunsTo (load_world some) (no_output version) [] s → RunsTo (load_world count) (no_output version) [] s
unfolding load_world
starts_alike some count version s few runs = record {
  there = tt;
  geometry = runs.geometry;
  queue = runs.queue;
  after = record {
    is_world = load_is_world count few;
    shape = runs.after.shape;
    log = record {
      version = runs.after.log.version;
      honest = runs.after.log.honest;
      counts = runs.after.log.counts;
      lines = runs.after.log.lines;
      frames = runs.after.log.frames;
    };
    words = runs.after.words;
    devices = runs.after.devices;
    unspent = runs.after.unspent;
    peer_states = runs.after.peer_states;
  };
  count = runs.count;
  seated = runs.seated;
  refines = runs.refines;
  linked = runs.linked;
}

-- ---- the acts of its world

pub acts_of : (world : World) (count : ℕ) → world ≡ load_world count → world.acts ≡ load_acts count
unfolding load_world
acts_of world count is = ap (λ (w : World). w.acts) is

pub is_act : (count i : ℕ) (act : Act) → count ≤ MOST_LOAD → i < length (load_acts count) → act ≡ get_or (load_acts count) i act → IsAct (load_world count) act
unfolding load_world
is_act count i act few inside is = act_at (load_world count) i act (load_is_world count few) inside is

pub load_received : (count : ℕ) (gone : List Line) (i : ℕ) (s : Simulator) → length (load_acts count) ≤ i → RunsTo (load_world count) (output_of 2 gone) (schedule (take i (load_acts count))) s → gone ++ kept_lines s ≡ recorded_in (load_world count) 2 (history (load_world count))
unfolding load_world
load_received count gone i s whole runs = received_whole (load_world count) 2 gone i s whole runs

pub load_stops : (count : ℕ) (P : List Line → Type 0) (events more : List Event) → schedule (load_acts count) ≡ events ++ more → HasStopped (load_world count) 2 P events → StopsWithin (load_world count) 2 P
unfolding load_world
load_stops count P events more all stopped = stops_within (load_world count) 2 P events more all stopped
