-- Events of devices alone change nothing of the link.
use Rattle.std.proofs.Common.{◌≡◌, ℕ, List, [], ◌∷◌, ◌++◌, refl, sym, ◌∙◌, ap}
use Rattle.std.specs.Prelude.{Option, Some, reverse, slice_index_or, slice_set}
use Rattle.std.proofs.lemmas.List.{set-get_or}
use Rattle.split_ring.specs.declared.steps.Access.{Access}
use Rattle.split_ring.specs.declared.steps.Access.TheVariants as access
use Rattle.scenario_text.specs.declared.acts.Act.{Act}
use Rattle.scenario_text.specs.Scenario.{World}
use Rattle.call_grammar.specs.Steps.{Step, step_of}
use Rattle.call_grammar.specs.Trees.{CallTree, Ended, Does, Reads}
use Rattle.lawful_history.specs.declared.line.Line.{Line}
use Rattle.lawful_history.specs.Memory.{last_write}
use Rattle.lawful_history.specs.Sides.{config_of}
use Rattle.lawful_history.specs.Schedule.{Event, CallQueued, AutoStarted, StormStarted, TurnTaken, RegionAccessed, DeviceReset, DeviceAccessed, InterruptDropped, InterruptRepeated, DeviceAccess, event_peer, schedule}
use Rattle.lawful_history.specs.EventRecords.{lines_by, lines_of}
use Rattle.lawful_history.specs.Peers.{Driver, Peer, at_start, opened, stepped}
use Rattle.lawful_history.specs.Device.{device_lines}
use Rattle.lawful_history.specs.Lawful.{HasOneHistory}
use Rattle.lawful_history.specs.History.{HistoryState, step_by, moved_by, acted_step, step_in, peer_in, peer_at, step_of_event, entry_of, peer_after, after_event, run, initial_state, history, HistoryIsLawful}
use Rattle.history_laws.specs.Devices.{without_devices, without_device_events, DeviceActsChangeNothing}
use Rattle.history_laws.proofs.DeviceLines.{lines_of_devices, without_both, without_reverse, event_apart, same_written}

-- The effect of an event depends on the lines only through the words that they leave

abbrev SameWords : List Line → List Line → Type 0
SameWords past others = (at : ℕ) → last_write past at ≡ last_write others at

same_turn : (world : World) (p : ℕ) (driver : Driver) (left : CallTree) (past others : List Line) → SameWords past others → step_by world p driver left past ≡ step_by world p driver left others
same_turn world p driver Ended past others same = refl
same_turn world p driver (Does a marks rest) past others same = refl
same_turn world p driver (Reads word marks rest) past others same = ap (λ (value : ℕ). Some (step_of (access.Read word) value (marks value))) (same word)

same_move : (peer : Peer) (left : CallTree) (past others : List Line) → SameWords past others → moved_by peer left past ≡ moved_by peer left others
same_move peer Ended past others same = refl
same_move peer (Does a marks rest) past others same = refl
same_move peer (Reads word marks rest) past others same = ap (λ (value : ℕ). stepped peer (step_of (access.Read word) value (marks value)) (rest value)) (same word)

same_act : (world : World) (p : ℕ) (a : Access) (past others : List Line) → SameWords past others → acted_step world p a past ≡ acted_step world p a others
same_act world p (access.Read word) past others same = ap (λ (value : ℕ). Some (step_of (access.Read word) value [])) (same word)
same_act world p _ past others same = refl

same_step : (world : World) (peer : Peer) (past others : List Line) (event : Event) → SameWords past others → step_in world peer past event ≡ step_in world peer others event
same_step world peer past others (TurnTaken p) same = same_turn world p (opened (config_of world p) peer).driver (opened (config_of world p) peer).left past others same
same_step world peer past others (RegionAccessed p a) same = same_act world p a past others same
same_step world peer past others _ same = refl

same_peer : (world : World) (peer : Peer) (past others : List Line) (event : Event) → SameWords past others → peer_in world peer past event ≡ peer_in world peer others event
same_peer world peer past others (TurnTaken p) same = same_move (opened (config_of world p) peer) (opened (config_of world p) peer).left past others same
same_peer world peer past others _ same = refl

-- Two moments that differ in the devices alone

record AreAlike (a b : HistoryState) : Type 0 where
  lines : without_devices a.past ≡ without_devices b.past
  peers : a.peers ≡ b.peers

-- The lines after an event, without those of the devices.
new_lines : (world : World) (a : HistoryState) (event : Event) →
    without_devices (after_event world a event).past ≡ reverse (without_devices (lines_by event (step_of_event world a event) [])) ++ without_devices a.past
new_lines world a event =
    let lines = lines_of (entry_of world a event) in
    without_both (reverse lines) a.past ∙ ap (λ ls. ls ++ without_devices a.past)
    (without_reverse lines ∙ ap reverse (event_apart event (step_of_event world a event) (device_lines world a.past a.losses event (step_of_event world a event)) (lines_of_devices world a.past a.losses event (step_of_event world a event))))

-- An event of the link leaves the two moments alike.
goes_on : (world : World) (a b : HistoryState) (event : Event) → AreAlike a b → AreAlike (after_event world a event) (after_event world b event)
goes_on world a b event alike =
    let p = event_peer event in
    let same = same_written a.past b.past alike.lines in
    let peer : peer_at a p ≡ peer_at b p = ap (λ (ps : List Peer). slice_index_or ps p at_start) alike.peers in
    let step : step_of_event world a event ≡ step_of_event world b event = ap (λ (x : Peer). step_in world x a.past event) peer ∙ same_step world (peer_at b p) a.past b.past event same in
    let after : peer_after world a event ≡ peer_after world b event = ap (λ (x : Peer). peer_in world x a.past event) peer ∙ same_peer world (peer_at b p) a.past b.past event same in
    record {
      lines =
          new_lines world a event ∙ (ap (λ (went : Option Step). reverse (without_devices (lines_by event went [])) ++ without_devices a.past) step ∙
          (ap (λ ls. reverse (without_devices (lines_by event (step_of_event world b event) [])) ++ ls) alike.lines ∙ sym (new_lines world b event)));
      peers = ap (λ (ps : List Peer). slice_set ps p (peer_after world a event)) alike.peers ∙ ap (λ (x : Peer). slice_set b.peers p x) after;
    }

-- An event of the devices leaves the moment alike.
stays_reached : (world : World) (a b : HistoryState) (p : ℕ) (reach : DeviceAccess) → AreAlike a b → AreAlike (after_event world a (DeviceAccessed p reach)) b
stays_reached world a b p reach alike = record { lines = new_lines world a (DeviceAccessed p reach) ∙ alike.lines; peers = set-get_or a.peers p at_start ∙ alike.peers }

stays_loses : (world : World) (a b : HistoryState) (p : ℕ) → AreAlike a b → AreAlike (after_event world a (InterruptDropped p)) b
stays_loses world a b p alike = record { lines = new_lines world a (InterruptDropped p) ∙ alike.lines; peers = set-get_or a.peers p at_start ∙ alike.peers }

stays_repeated : (world : World) (a b : HistoryState) (p vector : ℕ) → AreAlike a b → AreAlike (after_event world a (InterruptRepeated p vector)) b
stays_repeated world a b p vector alike = record { lines = new_lines world a (InterruptRepeated p vector) ∙ alike.lines; peers = set-get_or a.peers p at_start ∙ alike.peers }

-- All events lead to the same as the link's events alone, for all acts of the world.
goes_apart : (world : World) (acts : List Act) (events : List Event) (a b : HistoryState) → AreAlike a b → AreAlike (run (record world { acts = acts }) events a) (run world (without_device_events events) b)
goes_apart world acts [] a b alike = alike
goes_apart world acts (CallQueued p call ∷ events) a b alike = goes_apart world acts events (after_event world a (CallQueued p call)) (after_event world b (CallQueued p call)) (goes_on world a b (CallQueued p call) alike)
goes_apart world acts (AutoStarted p expected ∷ events) a b alike =
    goes_apart world acts events (after_event world a (AutoStarted p expected)) (after_event world b (AutoStarted p expected)) (goes_on world a b (AutoStarted p expected) alike)
goes_apart world acts (StormStarted p seed ∷ events) a b alike = goes_apart world acts events (after_event world a (StormStarted p seed)) (after_event world b (StormStarted p seed)) (goes_on world a b (StormStarted p seed) alike)
goes_apart world acts (TurnTaken p ∷ events) a b alike = goes_apart world acts events (after_event world a (TurnTaken p)) (after_event world b (TurnTaken p)) (goes_on world a b (TurnTaken p) alike)
goes_apart world acts (RegionAccessed p act ∷ events) a b alike = goes_apart world acts events (after_event world a (RegionAccessed p act)) (after_event world b (RegionAccessed p act)) (goes_on world a b (RegionAccessed p act) alike)
goes_apart world acts (DeviceReset p ∷ events) a b alike = goes_apart world acts events (after_event world a (DeviceReset p)) (after_event world b (DeviceReset p)) (goes_on world a b (DeviceReset p) alike)
goes_apart world acts (DeviceAccessed p reach ∷ events) a b alike = goes_apart world acts events (after_event world a (DeviceAccessed p reach)) b (stays_reached world a b p reach alike)
goes_apart world acts (InterruptDropped p ∷ events) a b alike = goes_apart world acts events (after_event world a (InterruptDropped p)) b (stays_loses world a b p alike)
goes_apart world acts (InterruptRepeated p vector ∷ events) a b alike = goes_apart world acts events (after_event world a (InterruptRepeated p vector)) b (stays_repeated world a b p vector alike)

-- The history without the lines of the devices is the history of the link's events.
history_apart : (world : World) (acts : List Act) →
    without_devices (history (record world { acts = acts })) ≡ reverse (without_devices (run world (without_device_events (schedule acts)) (initial_state world)).past)
history_apart world acts =
    without_reverse (run (record world { acts = acts }) (schedule acts) (initial_state world)).past ∙
    ap reverse (goes_apart world acts (schedule acts) (initial_state world) (initial_state world) (record { lines = refl; peers = refl })).lines

pub device_acts_change_nothing : HasOneHistory → HistoryIsLawful → DeviceActsChangeNothing
device_acts_change_nothing one exists world others lines other_lines is other_is same lawful other_lawful =
    let other : World = record world { acts = others } in
    let first : lines ≡ history world = one world lines (history world) lawful (exists world is) in
    let second : other_lines ≡ history other = one other other_lines (history other) other_lawful (exists other other_is) in
    ap without_devices first ∙ (history_apart world world.acts ∙
    (ap (λ (events : List Event). reverse (without_devices (run world events (initial_state world)).past)) same ∙ (sym (history_apart world others) ∙ ap without_devices (sym second))))
