-- The simulator refines the history after one more event.
use Rattle.std.proofs.Common.{◌≡◌, ◌≢◌, ℕ, zero, suc, ◌<◌, ◌≤◌, Bool, true, false, List, [], ◌∷◌, ◌++◌, length, get_or, take, replicate, ◌+◌, refl, sym, ◌∙◌, ap, subst, arith, length-set}
use Rattle.std.specs.Prelude.{◌==◌, ◌&&◌, Result, Ok, Err, OnOk, not, nat_lt, slice_index_or, if◌then◌else◌, Option, Some, None, reverse, slice_get, slice_set}
use Rattle.std.specs.List.{AllByRecursion}
use Rattle.std.proofs.lemmas.Bool.Decides.{nat_tests}
use Rattle.std.proofs.lemmas.Option.{slice_get-get_or, get_or_from_slice_get, same_Some}
use Rattle.std.proofs.lemmas.List.{append-nil, take_more, take_all, set-get_or, get_or-set_same, get_or-set_other, length-append, length-replicate, length-take}
use Rattle.std.proofs.lemmas.List.Concat.{flat_map-append}
use Rattle.std.proofs.lemmas.List.Elements.{All-append, recursion_from_All, All-from_recursion}
use Rattle.doorbell_irq.specs.Events as device
use Rattle.doorbell_irq.proofs.Lists.{slice_get-same, slice_get-set_same, slice_get-set_other}
use Rattle.scenario_text.specs.declared.acts.Act.{Act}
use Rattle.scenario_text.specs.Scenario.{World, IsWorld, is_link}
use Rattle.call_grammar.specs.Calls.{EndConfig}
use Rattle.call_grammar.specs.Permitted.{CallsArePermitted}
use Rattle.lawful_history.specs.declared.line.Line.{Line}
use Rattle.split_ring.specs.declared.steps.Access.TheVariants as access
use Rattle.section_map.specs.MayWrite.{may_write}
use Rattle.call_grammar.specs.Steps.{Step, step_of}
use Rattle.scenario_text.specs.declared.acts.Act.TheVariants as act
use Rattle.call_grammar.specs.Trees.{Ended}
use Rattle.lawful_history.specs.Schedule.{Event, TurnTaken, RegionAccessed, DeviceAccessed, InterruptDropped, WritesRegister, event_peer, register_event, events_of, schedule}
use Rattle.lawful_history.specs.Permitted.{IsPermittedEvent}
use Rattle.lawful_history.specs.Sides.{config_of}
use Rattle.lawful_history.specs.EventRecords.{region_access_lines, lines_by}
use Rattle.lawful_history.specs.Device.{interrupts_of_line, step_interrupts, device_lines, losses_with}
use Rattle.lawful_history.specs.Peers.{Peer, at_start}
use Rattle.lawful_history.specs.History.{HistoryState, acted_step, peer_at, peer_after, after_event, run, initial_state, history}
use Rattle.lawful_history.proofs.Owners.{is_same, is_other}
use Rattle.lawful_history.proofs.Few.{sessions_few}
use Rattle.lawful_history.specs.Sessions.{recorded_in}
use Rattle.lawful_history.proofs.EventsArePermitted.{there_below, act_there}
use Rattle.lawful_history.proofs.Exists.{IsFit, Good, good_on, good_at_first}
use Rattle.simulator.specs.Log.{Output, no_output, given, IsLogOf}
use Rattle.simulator.specs.WorldState.{WorldStateAfter, HasPeer, line_with_interrupts}
use Rattle.simulator.specs.PeerStates.{PeerStateRefines, PeerStateFits, is_honest}
use Rattle.simulator.specs.Simulator.{AreAtStart, IsLinked, history_state_after, kept_lines, RunsTo, IsAct, Happens, PlaysAct}
use Rattle.simulator.proofs.Openings.{link_fits}
use Rattle.simulator.specs.declared.peer_state.PeerState.{PeerState}
use Rattle.simulator.specs.declared.peer_state.PeerState.TheVariants.{Honest, Storm, Idle}
use Rattle.simulator.specs.declared.link.Link.{Link}
use Rattle.simulator.specs.declared.simulator.Simulator.{Simulator}

run-snoc : (world : World) (events : List Event) (event : Event) (so_far : HistoryState) → run world (events ++ event ∷ []) so_far ≡ after_event world (run world events so_far) event
run-snoc world [] event so_far = refl
run-snoc world (x ∷ events) event so_far = run-snoc world events event (after_event world so_far x)

run_count : (world : World) (events : List Event) (so_far : HistoryState) → length (run world events so_far).peers ≡ length so_far.peers
run_count world [] so_far = refl
run_count world (event ∷ events) so_far = run_count world events (after_event world so_far event) ∙ length-set so_far.peers (event_peer event) (peer_after world so_far event)

moment_count : (world : World) (events : List Event) → length (history_state_after world events).peers ≡ world.geometry.peers
moment_count world events = run_count world events (initial_state world) ∙ length-replicate world.geometry.peers at_start

good_run : CallsArePermitted → (world : World) (events : List Event) (so_far : HistoryState) → IsWorld world → AllByRecursion (IsPermittedEvent world) events → Good world so_far → Good world (run world events so_far)
good_run reach world [] so_far is there good = good
good_run reach world (event ∷ events) so_far is there good = good_run reach world events (after_event world so_far event) is there.1 (good_on reach world so_far event is there.0 good)

-- Each peer of a running simulator is fit for its calls.
pub fit_at : CallsArePermitted → (world : World) (events : List Event) (p : ℕ) → IsWorld world → AllByRecursion (IsPermittedEvent world) events → IsFit (config_of world p) (peer_at (history_state_after world events) p)
fit_at reach world events p is there = (good_run reach world events (initial_state world) is there (good_at_first world)).fits p

-- An element of a list with one more is one of the list, or the last.
last_or : (xs : List PeerState) (x : PeerState) (k : ℕ) (found : PeerState) → slice_get (xs ++ x ∷ []) k ≡ Some found → (P : ℕ → PeerState → Type 0) →
    ((q : ℕ) (s : PeerState) → slice_get xs q ≡ Some s → P q s) → P (length xs) x → P k found
last_or [] x zero found at P all here = subst (λ (s : PeerState). P 0 s) (same_Some x found at) here
last_or [] x (suc k) found at P all here = absurd (cc)
last_or (y ∷ xs) x zero found at P all here = all 0 found at
last_or (y ∷ xs) x (suc k) found at P all here = last_or xs x k found at (λ q s. P (suc q) s) (λ q s is. all (suc q) s is) here

-- One more initial peer state.
pub one_peer_state : (world : World) (count : ℕ) (peer_states : List PeerState) (peer_state : PeerState) → AreAtStart world count peer_states → PeerStateRefines (config_of world count) at_start peer_state → is_honest peer_state ≡ is_link world count →
    AreAtStart world (count + 1) (peer_states ++ peer_state ∷ [])
one_peer_state world count peer_states peer_state start refines linked =
    let length_is = start.length_is in
    record {
      length_is = simp length-append (omega arith);
      refines = λ p found at. (last_or peer_states peer_state p found at (λ q s. PeerStateRefines (config_of world q) at_start s) start.refines (rw length_is refines));
      linked = λ p found at. (last_or peer_states peer_state p found at (λ q s. is_honest s ≡ is_link world q) start.linked (rw length_is linked));
    }

-- The lines after an event in which this step was made.
abbrev pub past_of : World → List Line → (ℕ → ℕ) → Event → Option Step → List Line
past_of world past losses event went = reverse (lines_by event went (device_lines world past losses event went)) ++ past

-- The lines and losses after an event.
abbrev pub past_after : World → HistoryState → Event → List Line
past_after world so_far event = (after_event world so_far event).past

-- One event of a peer, with the peer state and the world state after it.
pub record OneMore (world : World) (output : Output) (so_far : HistoryState) (event : Event) (s s' : Simulator) (peer_state : PeerState) : Type 0 where
  pub items : s'.peer_states.items ≡ slice_set s.peer_states.items (event_peer event) peer_state
  pub sizes : s'.sizes ≡ s.sizes
  pub after : WorldStateAfter world output (past_after world so_far event) (losses_with event so_far.losses) s'.world_state
  pub seated : (p : ℕ) → HasPeer s.world_state p → HasPeer s'.world_state p
  pub refines : PeerStateRefines (config_of world (event_peer event)) (peer_after world so_far event) peer_state
  pub linked : is_honest peer_state ≡ is_link world (event_peer event)

stands_on : (world : World) (output : Output) (events : List Event) (event : Event) (s s' : Simulator) (peer_state : PeerState) → OneMore world output (history_state_after world events) event s s' peer_state → event_peer event < world.geometry.peers → RunsTo world output events s →
    (k : ℕ) (found : PeerState) (b : Bool) → (event_peer event == k) ≡ b → slice_get (slice_set s.peer_states.items (event_peer event) peer_state) k ≡ Some found →
    PeerStateRefines (config_of world k) (peer_at (after_event world (history_state_after world events) event) k) found × (is_honest found ≡ is_link world k)
stands_on world output events event s s' peer_state more inside runs k found true is at =
    let so_far = history_state_after world events in
    let p = event_peer event in
    let same : p ≡ k = is_same p k is in
    let here : peer_at (after_event world so_far event) p ≡ peer_after world so_far event = get_or-set_same so_far.peers p (peer_after world so_far event) at_start (omega (arith, moment_count world events)) in
    let items = slice_set s.peer_states.items p peer_state in
    let peer_state_is : peer_state ≡ found = slice_get-same items p peer_state found (slice_get-set_same s.peer_states.items p peer_state (omega (arith, inside, runs.count))) (ap (slice_get items) same ∙ at) in
    let P : ℕ → PeerState → Type 0 = λ q x. PeerStateRefines (config_of world q) (peer_at (after_event world so_far event) q) x × (is_honest x ≡ is_link world q) in
    let now : P p peer_state = (subst (λ (x : Peer). PeerStateRefines (config_of world p) x peer_state) (sym here) more.refines, more.linked) in
    subst (λ (q : ℕ). P q found) same (subst (λ (x : PeerState). P p x) peer_state_is now)
stands_on world output events event s s' peer_state more inside runs k found false is at =
    let so_far = history_state_after world events in
    let p = event_peer event in
    let other : k ≢ p = is_other p k is in
    let here : peer_at (after_event world so_far event) k ≡ peer_at so_far k = get_or-set_other so_far.peers p k (peer_after world so_far event) at_start other in
    let old : slice_get s.peer_states.items k ≡ Some found = sym (slice_get-set_other s.peer_states.items p k peer_state other) ∙ at in
    (subst (λ (x : Peer). PeerStateRefines (config_of world k) x found) (sym here) (runs.refines k found old), runs.linked k found old)

pub goes_on : (world : World) (output : Output) (events : List Event) (event : Event) (s s' : Simulator) (peer_state : PeerState) → IsPermittedEvent world event → OneMore world output (history_state_after world events) event s s' peer_state →
    RunsTo world output events s → RunsTo world output (events ++ event ∷ []) s'
goes_on world output events event s s' peer_state there more runs =
    let so_far = history_state_after world events in
    let inside = there_below world event there in
    let next : history_state_after world (events ++ event ∷ []) ≡ after_event world so_far event = run-snoc world events event (initial_state world) in
    let at = λ (k : ℕ) (found : PeerState) (is : slice_get s'.peer_states.items k ≡ Some found).
    stands_on world output events event s s' peer_state more inside runs k found (event_peer event == k) refl (subst (λ (xs : List PeerState). slice_get xs k ≡ Some found) more.items is) in
    record {
      there = let P = IsPermittedEvent world in let one = event ∷ [] in recursion_from_All P (events ++ one) (All-append P events one (All-from_recursion P events runs.there) (All-from_recursion P one (there, tt)));
      geometry = ap (λ g. g.geometry) more.sizes ∙ runs.geometry;
      queue = ap (λ g. g.queue) more.sizes ∙ runs.queue;
      after = subst (λ (m : HistoryState). WorldStateAfter world output m.past m.losses s'.world_state) (sym next) more.after;
      count = ap length more.items ∙ length-set s.peer_states.items (event_peer event) peer_state ∙ runs.count;
      seated = λ p below. more.seated p (runs.seated p below);
      refines = λ k found is. subst (λ (m : HistoryState). PeerStateRefines (config_of world k) (peer_at m k) found) (sym next) (at k found is).0;
      linked = λ k found is. (at k found is).1;
    }

-- An event of the world state alone.
get_set : (xs : List PeerState) (p : ℕ) (x : PeerState) → slice_get xs p ≡ Some x → slice_set xs p x ≡ xs
get_set xs p x is = ap (slice_set xs p) (sym (get_or_from_slice_get xs p x x is)) ∙ set-get_or xs p x

pub world_state_goes_on : (world : World) (output : Output) (events : List Event) (event : Event) (s s' : Simulator) → IsPermittedEvent world event → s'.peer_states ≡ s.peer_states → s'.sizes ≡ s.sizes →
    peer_after world (history_state_after world events) event ≡ peer_at (history_state_after world events) (event_peer event) →
    WorldStateAfter world output (past_after world (history_state_after world events) event) (losses_with event (history_state_after world events).losses) s'.world_state →
    ((p : ℕ) → HasPeer s.world_state p → HasPeer s'.world_state p) → RunsTo world output events s → RunsTo world output (events ++ event ∷ []) s'
world_state_goes_on world output events event s s' there peer_states sizes same after seated runs =
    let p = event_peer event in
    let below = there_below world event there in
    let count = runs.count in
    let peer_state = get_or s.peer_states.items p Idle in
    let here : slice_get s.peer_states.items p ≡ Some peer_state = slice_get-get_or s.peer_states.items p Idle (omega arith) in
    goes_on world output events event s s' peer_state there (record {
      items = ap (λ v. v.items) peer_states ∙ sym (get_set s.peer_states.items p peer_state here);
      sizes = sizes;
      after = after;
      seated = seated;
      refines = subst (λ (x : Peer). PeerStateRefines (config_of world p) x peer_state) (sym same) (runs.refines p peer_state here);
      linked = runs.linked p peer_state here;
    }) runs

-- An event that changes the world state alone happens if its call succeeds.
pub world_state_happens : {T E : Type 0} (r : Result T E) (event : Event) (s s' : Simulator) → s'.peer_states ≡ s.peer_states → s'.sizes ≡ s.sizes →
    ((world : World) (so_far : HistoryState) → peer_after world so_far event ≡ peer_at so_far (event_peer event)) →
    ((world : World) (output : Output) (so_far : HistoryState) → WorldStateAfter world output so_far.past so_far.losses s.world_state →
    OnOk r (WorldStateAfter world output (past_after world so_far event) (losses_with event so_far.losses) s'.world_state)) →
    ((p : ℕ) → HasPeer s.world_state p → HasPeer s'.world_state p) → OnOk r (Happens event s s')
world_state_happens (Ok v) event s s' peer_states sizes same on seated = λ world output events there runs.
    world_state_goes_on world output events event s s' there peer_states sizes (same world (history_state_after world events)) (on world output (history_state_after world events) runs.after) seated runs
world_state_happens (Err e) event s s' peer_states sizes same on seated = tt

-- An event of a peer state alone, or of a peer state and the world state.
pub peer_state_goes_on : (world : World) (output : Output) (events : List Event) (event : Event) (s s' : Simulator) (old peer_state : PeerState) → IsPermittedEvent world event → old ≡ get_or s.peer_states.items (event_peer event) old →
    s'.peer_states.items ≡ slice_set s.peer_states.items (event_peer event) peer_state → s'.sizes ≡ s.sizes →
    (PeerStateRefines (config_of world (event_peer event)) (peer_at (history_state_after world events) (event_peer event)) old →
    PeerStateRefines (config_of world (event_peer event)) (peer_after world (history_state_after world events) event) peer_state) →
    (is_honest old ≡ is_link world (event_peer event) → is_honest peer_state ≡ is_link world (event_peer event)) →
    WorldStateAfter world output (past_after world (history_state_after world events) event) (losses_with event (history_state_after world events).losses) s'.world_state →
    ((p : ℕ) → HasPeer s.world_state p → HasPeer s'.world_state p) → RunsTo world output events s → RunsTo world output (events ++ event ∷ []) s'
peer_state_goes_on world output events event s s' old peer_state there is items sizes refines kind after seated runs =
    let p = event_peer event in
    let below = there_below world event there in
    let count = runs.count in
    let here : slice_get s.peer_states.items p ≡ Some old = slice_get-get_or s.peer_states.items p old (omega arith) ∙ ap Some (sym is) in
    goes_on world output events event s s' peer_state there (record {
      items = items;
      sizes = sizes;
      after = after;
      seated = seated;
      refines = refines (runs.refines p old here);
      linked = kind (runs.linked p old here);
    }) runs

-- A poke causes no interrupt.
quiet_write : (world : World) (past : List Line) (losses : ℕ → ℕ) (p word value : ℕ) (b : Bool) → step_interrupts world past losses p (if b then Some (step_of (access.Write word value) 0 []) else None) ≡ []
quiet_write world past losses p word value true = refl
quiet_write world past losses p word value false = refl

pub poked : (world : World) (past : List Line) (losses : ℕ → ℕ) (p word value : ℕ) (P : List Line → Type 0) → P (reverse (region_access_lines p (access.Write word value) (acted_step world p (access.Write word value) past) []) ++ past) →
    P (past_of world past losses (RegionAccessed p (access.Write word value)) (acted_step world p (access.Write word value) past))
poked world past losses p word value P holds =
    subst (λ (dev : List Line). P (reverse (region_access_lines p (access.Write word value) (acted_step world p (access.Write word value) past) dev) ++ past))
    (sym (quiet_write world past losses p word value (may_write world.geometry p word))) holds

-- A line without marks.
pub recorded_alone : (world : World) (past : List Line) (losses : ℕ → ℕ) (line : Line) (P : List Line → Type 0) → P (reverse (line_with_interrupts world past losses line) ++ past) → P (reverse (line ∷ (interrupts_of_line world past losses line ++ [])) ++ past)
recorded_alone world past losses line P holds = subst (λ (ls : List Line). P (reverse (line ∷ ls) ++ past)) (sym (append-nil (interrupts_of_line world past losses line))) holds

-- The frames of a peer state fit its peer.
pub peer_state_fits : (config : EndConfig) (peer : Peer) (peer_state : PeerState) → PeerStateRefines config peer peer_state → IsFit config peer → PeerStateFits config peer_state
peer_state_fits config peer (Honest link) refines fit = link_fits config peer link refines fit
peer_state_fits config peer (Storm x) refines fit = tt
peer_state_fits config peer Idle refines fit = tt

-- An honest end of the link has its peer state in a running simulator.
honest_link : (peer_state : PeerState) → is_honest peer_state ≡ true → (link : Link) × (peer_state ≡ Honest link)
honest_link (Honest link) is = (link, refl)
honest_link (Storm x) is = absurd (cc)
honest_link Idle is = absurd (cc)

pub linked_there : (world : World) (output : Output) (events : List Event) (s : Simulator) (p : ℕ) → RunsTo world output events s → p < world.geometry.peers → is_link world p ≡ true → IsLinked s.peer_states.items p
linked_there world output events s p runs below is =
    let peer_state = get_or s.peer_states.items p Idle in
    let count = runs.count in
    let here : slice_get s.peer_states.items p ≡ Some peer_state = slice_get-get_or s.peer_states.items p Idle (omega arith) in
    let found = honest_link peer_state (runs.linked p peer_state here ∙ is) in
    (found.0, here ∙ ap Some found.1)

-- The events of the acts so far, and of one more.
pub schedule_more : (acts : List Act) (i : ℕ) (act : Act) → i < length acts → act ≡ get_or acts i act → schedule (take (i + 1) acts) ≡ schedule (take i acts) ++ events_of act
schedule_more acts i act inside is =
    ap (λ (xs : List Act). schedule xs) (take_more acts i act inside ∙ ap (λ (a : Act). take i acts ++ a ∷ []) (sym is)) ∙ flat_map-append events_of (take i acts) (act ∷ []) ∙ ap (λ es. schedule (take i acts) ++ es) (append-nil (events_of act))

pub one_act : (world : World) (output : Output) (acts : List Act) (i : ℕ) (act : Act) (s : Simulator) → i < length acts → act ≡ get_or acts i act → RunsTo world output (schedule (take i acts) ++ events_of act) s → RunsTo world output (schedule (take (i + 1) acts)) s
one_act world output acts i act s inside is runs = subst (λ (es : List Event). RunsTo world output es s) (sym (schedule_more acts i act inside is)) runs

-- In the middle of a scenario the drained lines and those in the log are the history's lines in a
-- record.
pub recorded_so_far : (world : World) (output : Output) (events more : List Event) (s : Simulator) → RunsTo world output events s → schedule world.acts ≡ events ++ more →
    output.drained ++ kept_lines s ≡ recorded_in world output.version (reverse (history_state_after world events).past)
recorded_so_far world output events more s runs all = runs.after.log.lines (sessions_few world events more runs.after.is_world all)

-- The lines of a simulator that played all acts are the history's lines in a record.
pub whole_history : (world : World) (version i : ℕ) (s : Simulator) → length world.acts ≤ i → RunsTo world (no_output version) (schedule (take i world.acts)) s → kept_lines s ≡ recorded_in world version (history world)
whole_history world version i s whole runs =
    let all = take_all i world.acts whole in
    recorded_so_far world (no_output version) (schedule (take i world.acts)) [] s runs (sym (append-nil (schedule (take i world.acts)) ∙ ap schedule all))
    ∙ ap (λ (xs : List Act). recorded_in world version (reverse (history_state_after world (schedule xs)).past)) all

-- The lines in the log are drained.
pub drained_on : (world : World) (output : Output) (events : List Event) (s s' : Simulator) → s'.sizes ≡ s.sizes → s'.peer_states.items ≡ s.peer_states.items → s'.world_state.region ≡ s.world_state.region → s'.world_state.device ≡ s.world_state.device →
    s'.world_state.unspent ≡ s.world_state.unspent → ((w : World) (o : Output) (past : List Line) → IsLogOf w o past s.world_state.log → IsLogOf w (given o (kept_lines s)) past s'.world_state.log) → RunsTo world output events s → RunsTo world (given output (kept_lines s)) events s'
drained_on world output events s s' sizes peer_states region device unspent log runs = record {
  there = runs.there;
  geometry = ap (λ g. g.geometry) sizes ∙ runs.geometry;
  queue = ap (λ g. g.queue) sizes ∙ runs.queue;
  after = record {
    is_world = runs.after.is_world;
    shape = ap (λ r. r.shape) region ∙ runs.after.shape;
    log = log world output (history_state_after world events).past runs.after.log;
    words = rw region runs.after.words;
    devices = rw device runs.after.devices;
    unspent = λ p. let u = runs.after.unspent p in rw unspent u;
    peer_states = rw unspent runs.after.peer_states;
  };
  count = ap length peer_states ∙ runs.count;
  seated = λ p below. let old = runs.seated p below in record {
    in_region = rw region old.in_region;
    in_devices = rw device old.in_devices;
    few = rw unspent old.few;
  };
  refines = λ p peer_state at. runs.refines p peer_state (subst (λ (xs : List PeerState). slice_get xs p ≡ Some peer_state) peer_states at);
  linked = λ p peer_state at. runs.linked p peer_state (subst (λ (xs : List PeerState). slice_get xs p ≡ Some peer_state) peer_states at);
}

-- A peer state of no honest end has no call.
pub sits_down : (config : EndConfig) (peer : Peer) (peer_state : PeerState) → is_honest peer_state ≡ false → PeerStateRefines config peer peer_state → (peer.left ≡ Ended) × (peer.waiting ≡ [])
sits_down config peer (Honest link) is refines = absurd (cc)
sits_down config peer (Storm x) is refines = (refines.left, refines.waiting)
sits_down config peer Idle is refines = (refines.left, refines.waiting)

-- A write of a register that is neither State nor the Doorbell.
not_same : (a b : ℕ) → a ≢ b → (a == b) ≡ false
not_same a b other = grind (arith, nat_tests)

pub is_reached : (p offset value : ℕ) → offset ≢ device.state_register → offset ≢ device.doorbell_register → register_event p offset value ≡ DeviceAccessed p (WritesRegister offset value)
is_reached p offset value state doorbell = rw (not_same offset device.state_register state, not_same offset device.doorbell_register doorbell) refl

pub is_set : (p offset value : ℕ) → offset ≡ device.state_register → register_event p offset value ≡ RegionAccessed p (access.State value)
is_set p offset value is = rw is refl

pub is_rung : (p offset value : ℕ) → offset ≡ device.doorbell_register → register_event p offset value ≡ RegionAccessed p (access.Ring (device.doorbell_target value) (device.doorbell_vector value))
is_rung p offset value is = rw is refl

pub below_peers : (p peers : ℕ) → nat_lt p peers ≡ true → p < peers
below_peers p peers is = grind (arith, nat_tests)

-- The events of an allowed act are permitted.
pub act_fits : (world : World) (act : Act) → IsWorld world → IsAct world act → AllByRecursion (IsPermittedEvent world) (events_of act ++ [])
act_fits world act is allowed = act_there world act [] is.geometry.two_peers allowed.1.peer allowed.1.frame tt

-- An act of one event is played if its event happens.
pub played_on : (a x : Act) (event : Event) (old new : Simulator) → a ≡ x → events_of x ≡ event ∷ [] → Happens event old new → PlaysAct a old new
played_on a x event old new is one after_event = λ world output events allowed runs.
    let fits = act_fits world x runs.after.is_world (subst (λ (b : Act). IsAct world b) is allowed) in
    let there : AllByRecursion (IsPermittedEvent world) ((event ∷ []) ++ []) = subst (λ (es : List Event). AllByRecursion (IsPermittedEvent world) (es ++ [])) one fits in
    subst (λ (b : Act). RunsTo world output (events ++ events_of b) new) (sym is)
    (subst (λ (es : List Event). RunsTo world output (events ++ es) new) (sym one) (after_event world output events there.0 runs))

pub played : {T E : Type 0} (result : Result T E) (a x : Act) (event : Event) (old new : Simulator) → a ≡ x → events_of x ≡ event ∷ [] → OnOk result (Happens event old new) → OnOk result (PlaysAct a old new)
played (Ok t) a x event old new is one after_event = played_on a x event old new is one after_event
played (Err e) a x event old new is one after_event = tt

-- Turns of a peer are played if each turn happens.
turns_on : (a : Act) (peer steps : ℕ) (old new : Simulator) → a ≡ act.Turn peer steps →
    ((world : World) (output : Output) (events : List Event) → IsPermittedEvent world (TurnTaken peer) → RunsTo world output events old → RunsTo world output (events ++ replicate steps (TurnTaken peer)) new) → PlaysAct a old new
turns_on a peer steps old new is turns = λ world output events allowed runs.
    let here : IsAct world (act.Turn peer steps) = subst (λ (b : Act). IsAct world b) is allowed in
    subst (λ (b : Act). RunsTo world output (events ++ events_of b) new) (sym is) (turns world output events (below_peers peer world.geometry.peers here.1.peer) runs)

pub played_turns : {T E : Type 0} (result : Result T E) (a : Act) (peer steps : ℕ) (old new : Simulator) → a ≡ act.Turn peer steps →
    OnOk result ((world : World) (output : Output) (events : List Event) → IsPermittedEvent world (TurnTaken peer) → RunsTo world output events old → RunsTo world output (events ++ replicate steps (TurnTaken peer)) new) →
    OnOk result (PlaysAct a old new)
played_turns (Ok t) a peer steps old new is turns = turns_on a peer steps old new is turns
played_turns (Err e) a peer steps old new is turns = tt

-- The number of losses that an act adds.
abbrev loses_by : Event → ℕ → ℕ
loses_by (InterruptDropped p) q = if p == q then 1 else 0
loses_by _ q = 0

abbrev loses_in : List Event → ℕ → ℕ
loses_in [] q = 0
loses_in (event ∷ events) q = loses_by event q + loses_in events q

one_loss : (p q n : ℕ) (b : Bool) → (if b then n + 1 else n) ≡ n + (if b then 1 else 0)
one_loss p q n true = refl
one_loss p q n false = omega arith

losses_by : (event : Event) (losses : ℕ → ℕ) (q : ℕ) → losses_with event losses q ≡ losses q + loses_by event q
losses_by (InterruptDropped p) losses q = one_loss p q (losses q) (p == q)
losses_by _ losses q = omega arith

losses_run : (world : World) (events : List Event) (so_far : HistoryState) (q : ℕ) → (run world events so_far).losses q ≡ so_far.losses q + loses_in events q
losses_run world [] so_far q = omega arith
losses_run world (event ∷ events) so_far q =
    let rest = losses_run world events (after_event world so_far event) q in
    let here = losses_by event so_far.losses q in omega arith

loses_append : (xs ys : List Event) (q : ℕ) → loses_in (xs ++ ys) q ≡ loses_in xs q + loses_in ys q
loses_append [] ys q = omega arith
loses_append (x ∷ xs) ys q = let rest = loses_append xs ys q in omega arith

turns_lose : (n p q : ℕ) → loses_in (replicate n (TurnTaken p)) q ≡ 0
turns_lose zero p q = refl
turns_lose (suc n) p q = let rest = turns_lose n p q in omega arith

at_most_one : (b : Bool) → (if b then 1 else 0) + 0 ≤ 1
at_most_one true = omega arith
at_most_one false = omega arith

register_loses : (p offset value q : ℕ) (b c : Bool) → (offset == 0x10) ≡ b → (offset == 0x0C) ≡ c → loses_in (register_event p offset value ∷ []) q ≤ 1
register_loses p offset value q true c is is' = rw is (omega arith)
register_loses p offset value q false true is is' = rw (is, is') (omega arith)
register_loses p offset value q false false is is' = rw (is, is') (omega arith)

act_loses : (act : Act) (q : ℕ) → loses_in (events_of act) q ≤ 1
act_loses (act.Turn p steps) q = let none = turns_lose steps p q in omega arith
act_loses (act.MmioWrite p offset value) q = register_loses p offset value q _ _ refl refl
act_loses (act.Lose p) q = at_most_one (p == q)
act_loses _ q = omega arith

acts_lose : (acts : List Act) (q : ℕ) → loses_in (schedule acts) q ≤ length acts
acts_lose [] q = omega arith
acts_lose (act ∷ acts) q =
    let whole = loses_append (events_of act) (schedule acts) q in
    let here = act_loses act q in
    let rest = acts_lose acts q in omega arith

-- The acts so far add no more losses than all.
pub losses_few : (world : World) (acts : List Act) (i : ℕ) (q : ℕ) → (history_state_after world (schedule (take i acts))).losses q ≤ i
losses_few world acts i q =
    let all = losses_run world (schedule (take i acts)) (initial_state world) q in
    let few = acts_lose (take i acts) q in
    let count = length-take i acts in omega arith

-- An element at a position in the list doesn't depend on the default.
pub same_or : (xs : List PeerState) (p : ℕ) (d : PeerState) → p < length xs → get_or xs p d ≡ get_or xs p (get_or xs p d)
same_or xs p d below = sym (get_or_from_slice_get xs p _ _ (slice_get-get_or xs p d below))

two_below : (p : ℕ) (flag : Bool) → (nat_lt p 2 && flag) ≡ true → p < 2
two_below p flag is = grind (arith, nat_tests)

-- An act of a call is for an honest end of the link, and a storm is for none.
pub call_linked : (world : World) (output : Output) (events : List Event) (s : Simulator) (p : ℕ) → RunsTo world output events s → (nat_lt p 2 && slice_index_or world.honest p false) ≡ true → IsLinked s.peer_states.items p
call_linked world output events s p runs is = let two = runs.after.is_world.geometry.two_peers in let below = two_below p _ is in linked_there world output events s p runs (omega arith) is

pub hostile_below : (p peers : ℕ) (flag : Bool) → (nat_lt p peers && not flag) ≡ true → p < peers
hostile_below p peers flag is = grind (arith, nat_tests)

last_false : (b : Bool) → (b && false) ≡ true → ⊥
last_false true is = cc
last_false false is = cc

and_false : (b : Bool) → (b && false) ≡ false
and_false true = refl
and_false false = refl

pub hostile_unlinked : (p peers : ℕ) (flag : Bool) → (nat_lt p peers && not flag) ≡ true → (nat_lt p 2 && flag) ≡ false
hostile_unlinked p peers true is = absurd (last_false (nat_lt p peers) is)
hostile_unlinked p peers false is = and_false (nat_lt p 2)

-- The act at an index of a scenario is one of the scenario.
pub act_at : (world : World) (i : ℕ) (a : Act) → IsWorld world → i < length world.acts → a ≡ get_or world.acts i a → IsAct world a
act_at world i a is inside at = (take i world.acts, is.allowed i a (slice_get-get_or world.acts i a inside ∙ ap Some (sym at)))
