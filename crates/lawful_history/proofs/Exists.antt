-- The computed history is lawful.
use Rattle.std.proofs.Common.{◌≡◌, ◌≢◌, ℕ, ◌+◌, ◌*◌, ◌/◌, ◌%◌, ◌<◌, ◌≤◌, Bool, true, false, List, [], ◌∷◌, ◌++◌, length, refl, sym, ◌∙◌, ap, subst, arith, append_assoc, replicate, inl, length-set}
use Rattle.std.specs.Prelude.{◌==◌, nat_lt, if◌then◌else◌, Some, None, map, reverse}
use Rattle.std.specs.List.{flat_map, AllByRecursion}
use Rattle.std.proofs.lemmas.List.{reverse-append, reverse-reverse, append-nil, get_or-set_same, get_or-set_other, get_or-replicate, get_or_past, length-replicate}
use Rattle.std.proofs.lemmas.Bool.Decides.{nat_tests}
use Rattle.std.proofs.lemmas.List.Elements.{All-from_recursion}
use Rattle.std.proofs.Math.Nat.{mod-lt}
use Rattle.section_map.specs.Geometry.{Shape, section_start}
use Rattle.section_map.specs.MayWrite.{may_write}
use Rattle.split_ring.specs.declared.steps.Access.{Access}
use Rattle.split_ring.specs.declared.steps.Access.TheVariants as access
use Rattle.split_ring.specs.Layout.{Sizes, IsQueue, data_area_start}
use Rattle.split_ring.proofs.QueueHasBounds.{bounds}
use Rattle.scenario_text.specs.Scenario.{World, IsWorld}
use Rattle.call_grammar.specs.Steps.{Mark, step_of}
use Rattle.call_grammar.specs.Trees.{CallTree, Ended, Does, Reads}
use Rattle.call_grammar.specs.Calls.{EndConfig, Call, Tick, Offer, Poll}
use Rattle.call_grammar.specs.Automatic.{Choice, ChoosesTick, ChoosesOffer, ChoosesPoll, IsFinished}
use Rattle.call_grammar.specs.Permitted.{MayDo, IsPermittedTree, HasSections, IsPermittedCall, CallsArePermitted}
use Rattle.lawful_history.specs.declared.line.Line.{Line}
use Rattle.lawful_history.specs.declared.line.Line.TheVariants as line
use Rattle.lawful_history.specs.Memory.{MemoryLaw, last_write, memory_effect_of}
use Rattle.lawful_history.specs.Schedule.{Event, CallQueued, AutoStarted, StormStarted, TurnTaken, RegionAccessed, DeviceReset, event_peer, schedule, DeviceAccess, ReadsConfig}
use Rattle.lawful_history.specs.Sides.{config_of}
use Rattle.lawful_history.specs.Storm.{next_number, draw, drawn_access, storm_step}
use Rattle.lawful_history.specs.EventRecords.{EventRecord, event_of, owner, mark_line, step_lines, turn_lines, region_access_lines, lines_by, lines_of, own}
use Rattle.lawful_history.specs.Peers.{Auto, Driver, Waits, Chooses, Storms, Peer, at_start, with_call_by, cut, with_choice, chosen, opened_by, opened, driver_after}
use Rattle.lawful_history.specs.Order.{Progress, initial_progress, EventStep, noted, IsCallSequence}
use Rattle.lawful_history.specs.Device.{device_access_line, device_lines, DeviceRules}
use Rattle.lawful_history.specs.History.{HistoryState, driven_step, driven, step_by, moved_by, acted_step, step_in, peer_in, peer_at, step_of_event, entry_of, peer_after, peer_of_progress, IsWithin, after_event, run, initial_state, HistoryIsLawful}
use Rattle.lawful_history.proofs.PeersKeepOrder.{keeps_order}
use Rattle.lawful_history.proofs.Left.{HoldsOfOffer, choice_offers, left_keeps}
use Rattle.lawful_history.proofs.Owners.{is_same, is_other, not_below}
use Rattle.lawful_history.proofs.LinesOfDevices.{KeptByDevices, keeps_all, of_event}
use Rattle.lawful_history.proofs.MemoryLawLine.{Harmless, harmless_law, marks_harmless}
use Rattle.lawful_history.specs.Permitted.{IsPermittedEvent}
use Rattle.lawful_history.proofs.EventsArePermitted.{there_below, all_there}
use Rattle.section_map.proofs.TestDecidesWrites.{may_of_test, may_denies}

abbrev AllHarmless : Shape → List Line → Type 0
AllHarmless g lines = AllByRecursion (λ line. Harmless g (memory_effect_of line)) lines

all_harmless : (g : Shape) (lines others : List Line) → AllHarmless g lines → AllHarmless g others → AllHarmless g (lines ++ others)
all_harmless g [] others first rest = rest
all_harmless g (line ∷ lines) others first rest = (first.0, all_harmless g lines others first.1 rest)

-- The lines of the devices have no effect on a word

reached_harmless : (g : Shape) (world : World) (older : List Line) (p : ℕ) (a : DeviceAccess) → Harmless g (memory_effect_of (device_access_line world older p a))
reached_harmless g world older p (ReadsConfig offset width) = tt
reached_harmless g world older p _ = tt

harmless_keeps : (g : Shape) → KeptByDevices (AllHarmless g)
harmless_keeps g = keeps_all (λ line. Harmless g (memory_effect_of line)) (λ p vector. tt) (λ p vector. tt) (reached_harmless g)

-- Steps satisfy the memory law

-- The lines of an access without a value satisfy the law.
do_harmless : (world : World) (p : ℕ) (a : Access) (marks : List Mark) (dev : List Line) → MayDo (config_of world p) a → AllHarmless world.geometry dev →
    AllHarmless world.geometry (step_lines p (step_of a 0 marks) dev)
do_harmless world p (access.Read word) marks dev may harmless = absurd may
do_harmless world p (access.Write word written) marks dev may harmless = (inl may, all_harmless world.geometry dev _ harmless (marks_harmless world.geometry p marks))
do_harmless world p (access.State state) marks dev may harmless = (tt, all_harmless world.geometry dev _ harmless (marks_harmless world.geometry p marks))
do_harmless world p (access.Ring target vector) marks dev may harmless = (tt, all_harmless world.geometry dev _ harmless (marks_harmless world.geometry p marks))
do_harmless world p access.Nothing marks dev may harmless = all_harmless world.geometry dev _ harmless (marks_harmless world.geometry p marks)

-- A read of the last value written satisfies the law.
read_law : (g : Shape) (p word : ℕ) (others past : List Line) → AllHarmless g others → MemoryLaw g past → MemoryLaw g (reverse (line.Read p word (last_write past word) ∷ others) ++ past)
read_law g p word others past harmless law =
    let first = line.Read p word (last_write past word) in
    let e : reverse (first ∷ others) ++ past ≡ reverse others ++ (first ∷ past) =
    ap (λ r. r ++ past) (reverse-append (first ∷ []) others) ∙ append_assoc (reverse others) (first ∷ []) past in
    rw e (harmless_law g others (first ∷ past) harmless (refl, law))

-- A step of a storm, as an access of a call.
pub storm_does : (world : World) (p kind place value : ℕ) (b c d : Bool) → (kind % 4 == 0) ≡ b → (kind % 4 == 1) ≡ c → (kind % 4 == 2) ≡ d → 0 < world.geometry.out → 0 < data_area_start world.queue / 4 →
    data_area_start world.queue / 4 ≤ world.geometry.out → (P : Access → Type 0) →
    ((word : ℕ) → section_start world.geometry p ≤ word → word < section_start world.geometry p + world.geometry.out → P (access.Write word value)) → ((state : ℕ) → P (access.State state)) →
    ((target vector : ℕ) → P (access.Ring target vector)) → P (drawn_access world p kind place value)
storm_does world p kind place value true c d is is' is'' some ring within P writes states rings =
    let small : place % world.geometry.out < world.geometry.out = mod-lt place some in rw is (writes _ (omega arith) (omega arith))
storm_does world p kind place value false true d is is' is'' some ring within P writes states rings =
    let small : place % (data_area_start world.queue / 4) < data_area_start world.queue / 4 = mod-lt place ring in rw (is, is') (writes _ (omega arith) (omega arith))
storm_does world p kind place value false false true is is' is'' some ring within P writes states rings = rw (is, is', is'') (states _)
storm_does world p kind place value false false false is is' is'' some ring within P writes states rings = rw (is, is', is'') (rings _ _)

-- The descriptors and rings have a word, and are shorter than the section.
pub ring_words : (q : Sizes) → IsQueue q → (4 ≤ data_area_start q) × (8 * data_area_start q < q.out)
ring_words q is = let b = bounds q is in let least = b.size_least in (omega arith, b.rings)

storm_harmless : (world : World) (p kind place value : ℕ) (dev : List Line) → IsWorld world → AllHarmless world.geometry dev →
    AllHarmless world.geometry (step_lines p (step_of (drawn_access world p kind place value) 0 []) dev)
storm_harmless world p kind place value dev is harmless =
    let ring = ring_words world.queue is.queue in
    let least = ring.0 in
    let most = ring.1 in
    let out = is.out in
    let page = is.geometry.out_page in
    storm_does world p kind place value _ _ _ refl refl refl (omega arith) (omega arith) (omega arith)
    (λ (a : Access). AllHarmless world.geometry (step_lines p (step_of a 0 []) dev))
    (λ word low high. (inl (low, high), all_harmless world.geometry dev [] harmless tt)) (λ state. (tt, all_harmless world.geometry dev [] harmless tt)) (λ target vector. (tt, all_harmless world.geometry dev [] harmless tt))

driven_law : (world : World) (p : ℕ) (driver : Driver) (dev past : List Line) → IsWorld world → AllHarmless world.geometry dev → MemoryLaw world.geometry past →
    MemoryLaw world.geometry (reverse (turn_lines p (driven_step world p driver) dev) ++ past)
driven_law world p Waits dev past is harmless law = harmless_law world.geometry (line.Idle p ∷ dev) past (tt, harmless) law
driven_law world p (Chooses auto) dev past is harmless law = harmless_law world.geometry (line.Idle p ∷ dev) past (tt, harmless) law
driven_law world p (Storms x) dev past is harmless law = harmless_law world.geometry (step_lines p (storm_step world p x) dev) past (storm_harmless world p (draw (next_number x)) (draw (next_number (next_number x))) (draw (next_number (next_number (next_number x)))) dev is harmless) law

-- A turn of a call with permitted accesses satisfies the law.
turn_law : (world : World) (p : ℕ) (driver : Driver) (tree : CallTree) (dev past : List Line) → IsWorld world → IsPermittedTree (config_of world p) tree → AllHarmless world.geometry dev → MemoryLaw world.geometry past →
    MemoryLaw world.geometry (reverse (turn_lines p (step_by world p driver tree past) dev) ++ past)
turn_law world p driver Ended dev past is stays harmless law = driven_law world p driver dev past is harmless law
turn_law world p driver (Does a marks rest) dev past is stays harmless law = harmless_law world.geometry (step_lines p (step_of a 0 marks) dev) past (do_harmless world p a marks dev stays.0 harmless) law
turn_law world p driver (Reads word marks rest) dev past is stays harmless law =
    let v = last_write past word in
    read_law world.geometry p word (dev ++ map (mark_line p) (marks v)) past (all_harmless world.geometry dev _ harmless (marks_harmless world.geometry p (marks v))) law

-- An access outside a call satisfies the law: a write is denied exactly if it isn't permitted.
write_law : (world : World) (p word value : ℕ) (b : Bool) (dev past : List Line) → may_write world.geometry p word ≡ b → AllHarmless world.geometry dev → MemoryLaw world.geometry past →
    MemoryLaw world.geometry (reverse (region_access_lines p (access.Write word value) (if b then Some (step_of (access.Write word value) 0 []) else None) dev) ++ past)
write_law world p word value true dev past is harmless law =
    harmless_law world.geometry (line.Write p word value ∷ dev ++ []) past (may_of_test world.geometry p word is, all_harmless world.geometry dev [] harmless tt) law
write_law world p word value false dev past is harmless law = harmless_law world.geometry (line.Denied p word ∷ dev) past (may_denies world.geometry p word is, harmless) law

acted_law : (world : World) (p : ℕ) (a : Access) (dev past : List Line) → AllHarmless world.geometry dev → MemoryLaw world.geometry past →
    MemoryLaw world.geometry (reverse (region_access_lines p a (acted_step world p a past) dev) ++ past)
acted_law world p (access.Read word) dev past harmless law = read_law world.geometry p word (dev ++ []) past (all_harmless world.geometry dev [] harmless tt) law
acted_law world p (access.Write word value) dev past harmless law = write_law world p word value (may_write world.geometry p word) dev past refl harmless law
acted_law world p (access.State state) dev past harmless law = harmless_law world.geometry (line.State p state ∷ dev ++ []) past (tt, all_harmless world.geometry dev [] harmless tt) law
acted_law world p (access.Ring target vector) dev past harmless law = harmless_law world.geometry (line.Doorbell p target vector ∷ dev ++ []) past (tt, all_harmless world.geometry dev [] harmless tt) law
acted_law world p access.Nothing dev past harmless law = harmless_law world.geometry (dev ++ []) past (all_harmless world.geometry dev [] harmless tt) law

-- Permitted calls have permitted accesses only

pub has_sections : (world : World) (p : ℕ) → IsWorld world → HasSections (config_of world p)
has_sections world p is = record { queue = is.queue; words = is.out }

-- The frames of an automatic end may be offered.
abbrev pub AreGiven : EndConfig → Driver → Type 0
AreGiven config Waits = Unit {0}
AreGiven config (Chooses auto) = AllByRecursion (λ frame. IsPermittedCall config (Offer frame)) auto.frames
AreGiven config (Storms x) = Unit {0}

-- The invariant of a peer: its open call has permitted accesses only, and the calls to come are
-- permitted.
pub record IsFit (config : EndConfig) (peer : Peer) : Type 0 where
  pub stays : IsPermittedTree config peer.left
  pub given : AllByRecursion (IsPermittedCall config) peer.waiting
  pub frames : AreGiven config peer.driver

with_choice_fits : CallsArePermitted → (config : EndConfig) (peer : Peer) (auto : Auto) (choice : Choice) → HasSections config → HoldsOfOffer (λ frame. IsPermittedCall config (Offer frame)) choice → AllByRecursion (λ frame. IsPermittedCall config (Offer frame)) auto.frames → IsFit config peer →
    IsFit config (with_choice config peer auto choice)
with_choice_fits reach config peer auto ChoosesTick has fits given fit = record { stays = reach.calls config peer.end Tick has tt; given = fit.given; frames = given }
with_choice_fits reach config peer auto (ChoosesOffer frame) has fits given fit = record { stays = reach.calls config peer.end (Offer frame) has fits; given = fit.given; frames = given }
with_choice_fits reach config peer auto ChoosesPoll has fits given fit = record { stays = reach.calls config peer.end Poll has tt; given = fit.given; frames = given }
with_choice_fits reach config peer auto IsFinished has fits given fit = fit

chosen_fits : CallsArePermitted → (config : EndConfig) (peer : Peer) (driver : Driver) → HasSections config → AreGiven config driver → IsFit config peer → IsFit config (chosen config peer driver)
chosen_fits reach config peer Waits has given fit = fit
chosen_fits reach config peer (Chooses auto) has given fit =
    with_choice_fits reach config peer auto _ has (choice_offers (λ frame. IsPermittedCall config (Offer frame)) peer.end.handshake.phase auto.round auto.frames auto.delivered auto.expected given) given fit
chosen_fits reach config peer (Storms x) has given fit = fit

opened_by_fits : CallsArePermitted → (config : EndConfig) (peer : Peer) (tree : CallTree) (waiting : List Call) → HasSections config → AllByRecursion (IsPermittedCall config) waiting → IsFit config peer → IsFit config (opened_by config peer tree waiting)
opened_by_fits reach config peer Ended [] has given fit = chosen_fits reach config peer peer.driver has fit.frames fit
opened_by_fits reach config peer Ended (call ∷ waiting) has given fit = record { stays = reach.calls config peer.end call has given.0; given = given.1; frames = fit.frames }
opened_by_fits reach config peer (Does a marks rest) waiting has given fit = fit
opened_by_fits reach config peer (Reads word marks rest) waiting has given fit = fit

pub opened_fits : CallsArePermitted → (config : EndConfig) (peer : Peer) → HasSections config → IsFit config peer → IsFit config (opened config peer)
opened_fits reach config peer has fit = opened_by_fits reach config peer peer.left peer.waiting has fit.given fit

driver_given : (config : EndConfig) (driver : Driver) (marks : List Mark) → AreGiven config driver → AreGiven config (driver_after driver marks)
driver_given config Waits marks given = tt
driver_given config (Chooses auto) marks given = left_keeps (λ frame. IsPermittedCall config (Offer frame)) auto marks given
driver_given config (Storms x) marks given = tt

driven_fits : (config : EndConfig) (peer : Peer) (driver : Driver) → IsFit config peer → IsFit config (driven peer driver)
driven_fits config peer Waits fit = fit
driven_fits config peer (Chooses auto) fit = fit
driven_fits config peer (Storms x) fit = record { stays = fit.stays; given = fit.given; frames = tt }

moved_fits : (config : EndConfig) (peer : Peer) (tree : CallTree) (past : List Line) → IsPermittedTree config tree → IsFit config peer → IsFit config (moved_by peer tree past)
moved_fits config peer Ended past stays fit = driven_fits config peer peer.driver fit
moved_fits config peer (Does a marks rest) past stays fit = record { stays = stays.1; given = fit.given; frames = driver_given config peer.driver marks fit.frames }
moved_fits config peer (Reads word marks rest) past stays fit =
    let v = last_write past word in record { stays = stays.1 v; given = fit.given; frames = driver_given config peer.driver (marks v) fit.frames }

waiting_given : (config : EndConfig) (waiting : List Call) (call : Call) → AllByRecursion (IsPermittedCall config) waiting → IsPermittedCall config call → AllByRecursion (IsPermittedCall config) (waiting ++ call ∷ [])
waiting_given config [] call given this = (this, tt)
waiting_given config (other ∷ waiting) call given this = (given.0, waiting_given config waiting call given.1 this)

frames_given : (config : EndConfig) (frames : List (List ℕ)) (frame : List ℕ) → AllByRecursion (λ f. IsPermittedCall config (Offer f)) frames → IsPermittedCall config (Offer frame) → AllByRecursion (λ f. IsPermittedCall config (Offer f)) (frames ++ frame ∷ [])
frames_given config [] frame given this = (this, tt)
frames_given config (other ∷ frames) frame given this = (given.0, frames_given config frames frame given.1 this)

queued_fits : (config : EndConfig) (peer : Peer) (call : Call) → IsPermittedCall config call → IsFit config peer → IsFit config (record peer { waiting = peer.waiting ++ call ∷ [] })
queued_fits config peer call this fit = record { stays = fit.stays; given = waiting_given config peer.waiting call fit.given this; frames = fit.frames }

asked_fits : (config : EndConfig) (peer : Peer) (driver : Driver) (call : Call) → AreGiven config driver → IsPermittedCall config call → IsFit config peer → IsFit config (with_call_by peer driver call)
asked_fits config peer (Chooses auto) (Offer frame) given this fit = record { stays = fit.stays; given = fit.given; frames = frames_given config auto.frames frame given this }
asked_fits config peer driver call given this fit = queued_fits config peer call this fit

cut_given : (config : EndConfig) (driver : Driver) → AreGiven config driver → AreGiven config (cut driver)
cut_given config Waits given = tt
cut_given config (Chooses auto) given = given
cut_given config (Storms x) given = tt

-- The invariant of a moment.
pub record Good (world : World) (so_far : HistoryState) : Type 0 where
  pub law : MemoryLaw world.geometry so_far.past
  pub fits : (p : ℕ) → IsFit (config_of world p) (peer_at so_far p)
  pub count : length so_far.peers ≡ world.geometry.peers

-- The peer of an event after it, and the others.
pub peer_same : (world : World) (so_far : HistoryState) (event : Event) → event_peer event < length so_far.peers → peer_at (after_event world so_far event) (event_peer event) ≡ peer_after world so_far event
peer_same world so_far event below = get_or-set_same so_far.peers (event_peer event) (peer_after world so_far event) at_start below

pub peer_other : (world : World) (so_far : HistoryState) (event : Event) (q : ℕ) → q ≢ event_peer event → peer_at (after_event world so_far event) q ≡ peer_at so_far q
peer_other world so_far event q other = get_or-set_other so_far.peers (event_peer event) q (peer_after world so_far event) at_start other

lines_law : CallsArePermitted → (world : World) (peer : Peer) (past dev : List Line) (event : Event) → IsWorld world → IsFit (config_of world (event_peer event)) peer → AllHarmless world.geometry dev → MemoryLaw world.geometry past →
    MemoryLaw world.geometry (reverse (lines_by event (step_in world peer past event) dev) ++ past)
lines_law reach world peer past dev (TurnTaken p) is fit harmless law =
    let config = config_of world p in turn_law world p (opened config peer).driver (opened config peer).left dev past is (opened_fits reach config peer (has_sections world p is) fit).stays harmless law
lines_law reach world peer past dev (RegionAccessed p a) is fit harmless law = acted_law world p a dev past harmless law
lines_law reach world peer past dev (DeviceReset p) is fit harmless law = harmless_law world.geometry (line.Reset p ∷ dev) past (tt, harmless) law
lines_law reach world peer past dev _ is fit harmless law = harmless_law world.geometry dev past harmless law

event_law : CallsArePermitted → (world : World) (so_far : HistoryState) (event : Event) → IsWorld world → Good world so_far → MemoryLaw world.geometry (after_event world so_far event).past
event_law reach world so_far event is good =
    lines_law reach world (peer_at so_far (event_peer event)) so_far.past _ event is (good.fits (event_peer event)) (of_event (AllHarmless world.geometry) (harmless_keeps world.geometry) world so_far.past so_far.losses event (step_of_event world so_far event)) good.law

peer_fits : CallsArePermitted → (world : World) (peer : Peer) (past : List Line) (event : Event) → IsWorld world → IsPermittedEvent world event → IsFit (config_of world (event_peer event)) peer →
    IsFit (config_of world (event_peer event)) (peer_in world peer past event)
peer_fits reach world peer past (CallQueued p call) is there fit = asked_fits (config_of world p) peer peer.driver call fit.frames there.1 fit
peer_fits reach world peer past (AutoStarted p expected) is there fit = record { stays = fit.stays; given = fit.given; frames = tt }
peer_fits reach world peer past (StormStarted p seed) is there fit = record { stays = fit.stays; given = fit.given; frames = tt }
peer_fits reach world peer past (TurnTaken p) is there fit =
    let opened_fit = opened_fits reach (config_of world p) peer (has_sections world p is) fit in
    moved_fits (config_of world p) (opened (config_of world p) peer) (opened (config_of world p) peer).left past opened_fit.stays opened_fit
peer_fits reach world peer past (DeviceReset p) is there fit = record { stays = tt; given = tt; frames = cut_given (config_of world p) peer.driver fit.frames }
peer_fits reach world peer past _ is there fit = fit

-- A property of each peer is a property after an event.
pub stays_on : (P : ℕ → Peer → Type 0) (world : World) (so_far : HistoryState) (event : Event) → event_peer event < length so_far.peers → P (event_peer event) (peer_after world so_far event) →
    (q : ℕ) (b : Bool) → (event_peer event == q) ≡ b → P q (peer_at so_far q) → P q (peer_at (after_event world so_far event) q)
stays_on P world so_far event below here q true is there =
    let now : P (event_peer event) (peer_at (after_event world so_far event) (event_peer event)) = subst (λ (x : Peer). P (event_peer event) x) (sym (peer_same world so_far event below)) here in
    subst (λ (k : ℕ). P k (peer_at (after_event world so_far event) k)) (is_same (event_peer event) q is) now
stays_on P world so_far event below here q false is there = subst (λ (x : Peer). P q x) (sym (peer_other world so_far event q (is_other (event_peer event) q is))) there

pub good_on : CallsArePermitted → (world : World) (so_far : HistoryState) (event : Event) → IsWorld world → IsPermittedEvent world event → Good world so_far → Good world (after_event world so_far event)
good_on reach world so_far event is there good =
    let below : event_peer event < length so_far.peers = omega (arith, good.count, there_below world event there) in
    record {
      law = event_law reach world so_far event is good;
      fits = λ q.
          stays_on (λ k x. IsFit (config_of world k) x) world so_far event below (peer_fits reach world (peer_at so_far (event_peer event)) so_far.past event is there (good.fits (event_peer event))) q (event_peer event == q) refl (good.fits q);
      count = length-set so_far.peers (event_peer event) (peer_after world so_far event) ∙ good.count;
    }

-- The event records of events from a moment on.
abbrev entries_of : World → List Event → HistoryState → List EventRecord
entries_of world [] so_far = []
entries_of world (event ∷ events) so_far = entry_of world so_far event ∷ entries_of world events (after_event world so_far event)

-- The facts of these event records.
record Found (world : World) (events : List Event) (so_far : HistoryState) : Type 0 where
  scheduled : map event_of (entries_of world events so_far) ≡ events
  owners : AllByRecursion (λ entry. owner entry < world.geometry.peers) (entries_of world events so_far)
  lines : reverse (flat_map lines_of (entries_of world events so_far)) ++ so_far.past ≡ (run world events so_far).past
  law : MemoryLaw world.geometry (run world events so_far).past
  device : DeviceRules world so_far.past so_far.losses (entries_of world events so_far)

lines_go : (s new : List Line) (past all : List Line) → reverse new ++ (reverse s ++ past) ≡ all → reverse (s ++ new) ++ past ≡ all
lines_go s new past all is = ap (λ r. r ++ past) (reverse-append s new) ∙ append_assoc (reverse new) (reverse s) past ∙ is

-- The peer of a moment, and its stored state.
record Keeps (so_far : HistoryState) (q : ℕ) (peer : Progress) : Type 0 where
  is : peer_at so_far q ≡ peer_of_progress peer
  within : IsWithin peer

-- The event record of an event of the peer itself.
own_event : (world : World) (so_far : HistoryState) (event : Event) (peer : Progress) → event_peer event < length so_far.peers → Keeps so_far (event_peer event) peer →
    (mid : Progress) × EventStep world (event_peer event) peer event (step_of_event world so_far event) mid
    × Keeps (after_event world so_far event) (event_peer event) (noted mid (entry_of world so_far event))
own_event world so_far event peer below keeps =
    let p = event_peer event in
    let on = keeps_order world peer so_far.past event (device_lines world so_far.past so_far.losses event (step_in world (peer_of_progress peer) so_far.past event)) keeps.within in
    let here = subst (λ (x : Peer).
    (mid : Progress) × EventStep world p peer event (step_in world x so_far.past event) mid
    × (peer_in world x so_far.past event ≡ peer_of_progress (noted mid (record { event = event; went = step_in world x so_far.past event; device = device_lines world so_far.past so_far.losses event (step_in world x so_far.past event) })))
    × IsWithin (noted mid (record { event = event; went = step_in world x so_far.past event; device = device_lines world so_far.past so_far.losses event (step_in world x so_far.past event) }))) (sym keeps.is) on in
    (here.0, here.1, record { is = peer_same world so_far event below ∙ here.2; within = here.3 })

-- The event record of an event and those after it, for a peer.
serves_from : (world : World) (so_far : HistoryState) (event : Event) (others : List EventRecord) (q : ℕ) (peer : Progress) → event_peer event < length so_far.peers → Keeps so_far q peer →
    ((next : Progress) → Keeps (after_event world so_far event) q next → (end : Progress) × IsCallSequence world q next (own q others) end) → (b : Bool) → (event_peer event == q) ≡ b →
    (end : Progress) × IsCallSequence world q peer (if b then entry_of world so_far event ∷ own q others else own q others) end
serves_from world so_far event others q peer below keeps rest true is =
    let same : event_peer event ≡ q = is_same (event_peer event) q is in
    let on = subst (λ (k : ℕ). (mid : Progress) × EventStep world k peer event (step_of_event world so_far event) mid × Keeps (after_event world so_far event) k (noted mid (entry_of world so_far event))) same
    (own_event world so_far event peer below (subst (λ (k : ℕ). Keeps so_far k peer) (sym same) keeps)) in
    let others_served = rest (noted on.0 (entry_of world so_far event)) on.2 in
    (others_served.0, (on.0, on.1, others_served.1))
serves_from world so_far event others q peer below keeps rest false is =
    rest peer (record { is = peer_other world so_far event q (is_other (event_peer event) q is) ∙ keeps.is; within = keeps.within })

-- The event records of events from a moment on are a peer's calls in order.
served : (world : World) (events : List Event) (so_far : HistoryState) (q : ℕ) (peer : Progress) → AllByRecursion (IsPermittedEvent world) events → length so_far.peers ≡ world.geometry.peers → Keeps so_far q peer →
    (end : Progress) × IsCallSequence world q peer (own q (entries_of world events so_far)) end
served world [] so_far q peer there count keeps = (peer, refl)
served world (event ∷ events) so_far q peer there count keeps =
    serves_from world so_far event (entries_of world events (after_event world so_far event)) q peer (omega (arith, count, there_below world event there.0)) keeps
    (λ next kept. served world events (after_event world so_far event) q next there.1 (length-set so_far.peers (event_peer event) (peer_after world so_far event) ∙ count) kept) (event_peer event == q) refl

found : CallsArePermitted → (world : World) (events : List Event) (so_far : HistoryState) → IsWorld world → AllByRecursion (IsPermittedEvent world) events → Good world so_far → Found world events so_far
found reach world [] so_far is there good = record { scheduled = refl; owners = tt; lines = refl; law = good.law; device = tt }
found reach world (event ∷ events) so_far is there good =
    let rest = found reach world events (after_event world so_far event) is there.1 (good_on reach world so_far event is there.0 good) in
    let here : event_peer event < world.geometry.peers = there_below world event there.0 in
    record {
      scheduled = ap (λ es. event ∷ es) rest.scheduled;
      owners = (here, rest.owners);
      lines = lines_go (lines_of (entry_of world so_far event)) (flat_map lines_of (entries_of world events (after_event world so_far event))) so_far.past _ rest.lines;
      law = rest.law;
      device = (refl, rest.device);
    }

pub at_beginning : (world : World) (p : ℕ) (b : Bool) → nat_lt p world.geometry.peers ≡ b → peer_at (initial_state world) p ≡ at_start
at_beginning world p true is = get_or-replicate world.geometry.peers p at_start at_start (grind (arith, nat_tests))
at_beginning world p false is = get_or_past (replicate world.geometry.peers at_start) p at_start (omega (arith, length-replicate world.geometry.peers at_start, not_below p world.geometry.peers is))

pub good_at_first : (world : World) → Good world (initial_state world)
good_at_first world = record {
  law = tt;
  fits = λ p. subst (λ (x : Peer). IsFit (config_of world p) x) (sym (at_beginning world p (nat_lt p world.geometry.peers) refl)) (record { stays = tt; given = tt; frames = tt });
  count = length-replicate world.geometry.peers at_start;
}

pub history_is_lawful : CallsArePermitted → HistoryIsLawful
history_is_lawful reach world is =
    let events = schedule world.acts in
    let f = found reach world events (initial_state world) is (all_there world is) (good_at_first world) in
    let entries = entries_of world events (initial_state world) in (
      entries,
      record {
        events = f.scheduled;
        owners = All-from_recursion (λ (entry : EventRecord). owner entry < world.geometry.peers) entries f.owners;
        recorded = sym (reverse-reverse (flat_map lines_of entries)) ∙ ap reverse (sym (append-nil (reverse (flat_map lines_of entries))) ∙ f.lines);
        memory = rw reverse-reverse f.law;
        device = f.device;
        calls = λ p below. served world events (initial_state world) p initial_progress (all_there world is) (good_at_first world).count
            (record { is = at_beginning world p (nat_lt p world.geometry.peers) refl; within = omega arith });
      },
    )
