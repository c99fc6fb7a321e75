-- The number of a scenario's sessions is bounded: each event writes State at most once.
use Rattle.std.proofs.Common.{◌≡◌, ℕ, ◌+◌, ◌<◌, ◌≤◌, ◌^◌, Bool, true, false, List, [], ◌∷◌, ◌++◌, length, refl, ap, arith}
use Rattle.std.specs.Prelude.{if◌then◌else◌, Option, Some, None, map, reverse}
use Rattle.std.proofs.lemmas.List.{reverse-append, length-append, length-replicate}
use Rattle.std.proofs.lemmas.List.Sums.{sum_by-cons}
use Rattle.split_ring.specs.declared.steps.Access.{Access}
use Rattle.split_ring.specs.declared.steps.Access.TheVariants as access
use Rattle.scenario_text.specs.Scenario.{World, IsWorld}
use Rattle.scenario_text.specs.Acts.{cost, turns_of}
use Rattle.scenario_text.specs.declared.acts.Act.{Act}
use Rattle.scenario_text.specs.declared.acts.Act.TheVariants as act
use Rattle.call_grammar.specs.Steps.{Mark, Saw, Step}
use Rattle.lawful_history.specs.declared.line.Line.{Line}
use Rattle.lawful_history.specs.declared.line.Line.TheVariants as line
use Rattle.lawful_history.specs.Schedule.{Event, TurnTaken, RegionAccessed, DeviceAccess, ReadsConfig, events_of, schedule}
use Rattle.lawful_history.specs.EventRecords.{mark_line, access_lines, step_lines, turn_lines, denied_lines, region_access_lines, lines_by, lines_of}
use Rattle.lawful_history.specs.Device.{device_access_line}
use Rattle.lawful_history.specs.Sessions.{writes_state, opened_in}
use Rattle.lawful_history.specs.History.{HistoryState, entry_of, step_of_event, after_event, run, initial_state}
use Rattle.lawful_history.proofs.LinesOfDevices.{KeptByDevices, of_event}

-- The number of sessions that lines open

one_more : (b : Bool) (n m k : ℕ) → n ≡ m + k → (if b then n + 1 else n) ≡ (if b then m + 1 else m) + k
one_more true n m k is = omega arith
one_more false n m k is = is

opened_append : (p : ℕ) (a b : List Line) → opened_in (a ++ b) p ≡ opened_in a p + opened_in b p
opened_append p [] b = omega arith
opened_append p (x ∷ a) b = one_more (writes_state p 2 x) (opened_in (a ++ b) p) (opened_in a p) (opened_in b p) (opened_append p a b)

opened_cons : (p : ℕ) (x : Line) (a : List Line) → opened_in (x ∷ a) p ≡ opened_in (x ∷ []) p + opened_in a p
opened_cons p x a = opened_append p (x ∷ []) a

opened_reverse : (p : ℕ) (a : List Line) → opened_in (reverse a) p ≡ opened_in a p
opened_reverse p [] = refl
opened_reverse p (x ∷ a) =
    let back : opened_in (reverse (x ∷ a)) p ≡ opened_in (reverse a ++ x ∷ []) p = ap (λ ls. opened_in ls p) (reverse-append (x ∷ []) a) in
    let parts = opened_append p (reverse a) (x ∷ []) in
    let rest = opened_reverse p a in
    let here = opened_cons p x a in omega arith

-- Lines that open no session

abbrev OpensNone : ℕ → List Line → Type 0
OpensNone p lines = opened_in lines p ≡ 0

none_append : (p : ℕ) (a b : List Line) → OpensNone p a → OpensNone p b → OpensNone p (a ++ b)
none_append p a b first rest = let whole = opened_append p a b in omega arith

none_reached : (p : ℕ) (world : World) (older : List Line) (q : ℕ) (a : DeviceAccess) → OpensNone p (device_access_line world older q a ∷ [])
none_reached p world older q (ReadsConfig offset width) = refl
none_reached p world older q _ = refl

none_keeps : (p : ℕ) → KeptByDevices (OpensNone p)
none_keeps p = record { interrupts = record { none = refl; interrupt = λ q vector lines rest. rest; lost = λ q vector lines rest. rest }; reached = none_reached p }

none_mark : (p q : ℕ) (mark : Mark) (lines : List Line) → OpensNone p lines → OpensNone p (mark_line q mark ∷ lines)
none_mark p q (Saw value) lines rest = rest
none_mark p q _ lines rest = rest

none_marks : (p q : ℕ) (marks : List Mark) → OpensNone p (map (mark_line q) marks)
none_marks p q [] = refl
none_marks p q (mark ∷ marks) = none_mark p q mark (map (mark_line q) marks) (none_marks p q marks)

-- The lines of an event open at most one session

at_most_one : (b : Bool) → (if b then 0 + 1 else 0) ≤ 1
at_most_one true = omega arith
at_most_one false = omega arith

one_access : (p q : ℕ) (a : Access) (value : ℕ) → opened_in (access_lines q a value) p ≤ 1
one_access p q (access.State state) value = at_most_one (writes_state p 2 (line.State q state))
one_access p q _ value = omega arith

one_step : (p q : ℕ) (step : Step) (dev : List Line) → OpensNone p dev → opened_in (step_lines q step dev) p ≤ 1
one_step p q step dev none =
    let whole = opened_append p (access_lines q step.access step.value) (dev ++ map (mark_line q) step.marks) in
    let rest = none_append p dev (map (mark_line q) step.marks) none (none_marks p q step.marks) in
    let here = one_access p q step.access step.value in omega arith

one_turn : (p q : ℕ) (went : Option Step) (dev : List Line) → OpensNone p dev → opened_in (turn_lines q went dev) p ≤ 1
one_turn p q None dev none = omega arith
one_turn p q (Some step) dev none = one_step p q step dev none

none_denied : (p q : ℕ) (a : Access) → OpensNone p (denied_lines q a)
none_denied p q (access.Read word) = refl
none_denied p q _ = refl

one_acted : (p q : ℕ) (a : Access) (went : Option Step) (dev : List Line) → OpensNone p dev → opened_in (region_access_lines q a went dev) p ≤ 1
one_acted p q a None dev none = let whole = none_append p (denied_lines q a) dev (none_denied p q a) none in omega arith
one_acted p q a (Some step) dev none = one_step p q step dev none

one_by : (p : ℕ) (event : Event) (went : Option Step) (dev : List Line) → OpensNone p dev → opened_in (lines_by event went dev) p ≤ 1
one_by p (TurnTaken q) went dev none = one_turn p q went dev none
one_by p (RegionAccessed q a) went dev none = one_acted p q a went dev none
one_by p _ went dev none = omega arith

one_event : (p : ℕ) (world : World) (so_far : HistoryState) (event : Event) → opened_in (after_event world so_far event).past p ≤ opened_in so_far.past p + 1
one_event p world so_far event =
    let lines = lines_of (entry_of world so_far event) in
    let whole = opened_append p (reverse lines) so_far.past in
    let back = opened_reverse p lines in
    let one = one_by p event (step_of_event world so_far event) (entry_of world so_far event).device
    (of_event (OpensNone p) (none_keeps p) world so_far.past so_far.losses event (step_of_event world so_far event)) in omega arith

-- The number of sessions opened is at most the number of events.
pub opened_run : (p : ℕ) (world : World) (events : List Event) (so_far : HistoryState) → opened_in (run world events so_far).past p ≤ opened_in so_far.past p + length events
opened_run p world [] so_far = omega arith
opened_run p world (event ∷ events) so_far =
    let first = one_event p world so_far event in
    let rest = opened_run p world events (after_event world so_far event) in omega arith

-- The events of a scenario

cost_is : (a : Act) → length (events_of a) ≡ cost a
cost_is (act.Turn peer steps) = length-replicate steps (TurnTaken peer)
cost_is (act.MmioWrite peer offset value) = refl
cost_is _ = refl

count_is : (acts : List Act) → length (schedule acts) ≡ turns_of acts
count_is [] = refl
count_is (a ∷ acts) =
    let whole : length (schedule (a ∷ acts)) ≡ length (events_of a) + length (schedule acts) = length-append (events_of a) (schedule acts) in
    let sums : turns_of (a ∷ acts) ≡ cost a + turns_of acts = sum_by-cons cost a acts in
    let here = cost_is a in
    let rest = count_is acts in omega arith

-- After each beginning of a scenario's schedule the number of a peer's sessions has 32 bits.
pub sessions_few : (world : World) (events more : List Event) → IsWorld world → schedule world.acts ≡ events ++ more → (p : ℕ) → opened_in (run world events (initial_state world)).past p < 2 ^ 32
sessions_few world events more is all p =
    let opened = opened_run p world events (initial_state world) in
    let whole : length (schedule world.acts) ≡ length (events ++ more) = ap length all in
    let parts = length-append events more in
    let count = count_is world.acts in
    let few = is.turns in omega arith
