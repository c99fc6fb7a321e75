-- The turns of a running peer.
use Rattle.std.specs.Prelude.{ℕ, zero, suc, ◌≡◌, ◌≢◌, ◌+◌, ◌-◌, ◌==◌, ◌&&◌, nat_lt, Bool, true, false, if◌then◌else◌, Option, Some, None, List, [], ◌∷◌, ◌++◌, length, map, sum}
use Rattle.std.specs.List.{flat_map}
use Rattle.std.specs.Int.{bit_at}
use Rattle.split_ring.specs.declared.steps.Access.{Access}
use Rattle.split_ring.specs.declared.steps.Access.TheVariants as access
use Rattle.call_grammar.specs.Steps.{Mark, Saw, Reclaim, Full, Look, Done, Over, Step}
use Rattle.call_grammar.specs.Trees.{CallTree, Ended, Goes}
use Rattle.call_grammar.specs.Ends.{End}
use Rattle.call_grammar.specs.Calls.{EndConfig}
use Rattle.call_grammar.specs.Automatic.{Choice, IsFinished, is_empty, choice_of}
use Rattle.link_endpoint.specs.Refinement.{is_armed}
use Rattle.lawful_history.specs.declared.line.Line.{Line}
use Rattle.lawful_history.specs.declared.line.Line.TheVariants as line
use Rattle.lawful_history.specs.EventRecords.{access_lines, mark_line}
use Rattle.lawful_history.specs.Peers.{Auto, Driver, Chooses, Storms, Peer, opened, stepped, was_reset}
use Rattle.lawful_history.specs.Storm.{storm_after}
use Rattle.doorbell_irq.specs.declared.route.Route.{Route}
use Rattle.shared_words.specs.DerivedStates.{ObservedAccess, observed_access, MemoryOp, called, numbered, carried, restarted}
use Rattle.shared_words.specs.Actions.{Action, accessed, looked, cleared}
use Rattle.shared_words.specs.PeerRoutes.{route_to}
use Rattle.peer_runner.specs.DoorbellPaths.{doorbell_path_to, is_guarded, doorbell_path_in, rung_by}

-- A turn:
-- * `Looks`: a look, which finds the word `found`;
-- * `Makes`: a step with all that it does; `first` is whether it is the first of its call;
-- * `Clears`: the clear of the step of a doorbell at a peer in one-shot mode, which finds the word
--   `found`;
-- * `Rings`: the ring of such a step, after the clear;
-- * `Stores`: a store of `number` in the session word;
-- * `Loads`: a load of the other's session word, which finds `number`;
-- * `Enters`: the State step with 3 of an honest peer, which has opened `opened` sessions and
--   carries the number `other`;
-- * `Restarts`: the reset of the peer
pub data Turn : Type 0 where
  Looks : (found : ℕ) → Turn
  Makes : (first : Bool) → (step : Step) → Turn
  Clears : (step : Step) → (found : ℕ) → Turn
  Rings : (step : Step) → Turn
  Stores : (number : ℕ) → Turn
  Loads : (number : ℕ) → Turn
  Enters : (step : Step) → (opened other : ℕ) → Turn
  Restarts : Turn

-- A running peer between two turns:
-- * `peer`: its end, its calls and its driver;
-- * `looks`: the number of looks since its last step, or none if one of them found a bit;
-- * `ringing`: whether the ring of a doorbell is to come, whose clear found the bit;
-- * `opened`: the number of sessions that it opened;
-- * `met`: the number that it stored or loaded for the State step that comes next;
-- * `spans`: the turns left of its span, before those of the spans to come
pub record Running : Type 0 where
  pub peer : Peer
  pub looks : Option ℕ
  pub ringing : Bool
  pub opened : ℕ
  pub met : Option ℕ
  pub spans : List ℕ

abbrev pub comes_to : Peer → List ℕ → Running
comes_to peer spans = record { peer = peer; looks = Some 0; ringing = false; opened = 0; met = None; spans = spans }

-- All turns of a peer with these spans, and a reset between each two spans.
abbrev pub all_turns : List ℕ → ℕ
all_turns spans = sum spans + (length spans - 1)

-- A turn is left of the span. The spans after it.
abbrev pub has_turn_left : List ℕ → Bool
has_turn_left [] = false
has_turn_left (turns ∷ spans) = nat_lt 0 turns

abbrev pub spent : List ℕ → List ℕ
spent [] = []
spent (turns ∷ spans) = (turns - 1) ∷ spans

-- No turn is left of the span, and another span follows. The spans from that one on.
abbrev pub IsSpanSpent : List ℕ → Type 0
IsSpanSpent (zero ∷ next ∷ spans) = Unit {0}
IsSpanSpent spans = ⊥

abbrev pub later : List ℕ → List ℕ
later [] = []
later (turns ∷ spans) = spans

-- The next turn.

-- The next step: of the open call, of the call that an automatic peer chooses if none is open, or
-- of the storm.
abbrev pub TakesStep : EndConfig → (ℕ → Step) → Driver → Peer → Step → Peer → Type 0
TakesStep config storm (Storms x) peer step after = (step ≡ storm x) × (after ≡ record peer { driver = Storms (storm_after x) })
TakesStep config storm _ peer step after = (left : CallTree) × Goes (opened config peer).left step left × (after ≡ stepped (opened config peer) step left)

-- An automatic peer sleeps if it waits armed and no frame is left.
abbrev pub sleeps : EndConfig → End → Auto → Bool
sleeps config end auto = is_armed config end && is_empty auto.frames

-- A peer whose interrupts are enabled looks before each choice. It looks once or, if it sleeps,
-- until a look has found a bit, at most 64 times.
abbrev pub looks_due : EndConfig → End → CallTree → Driver → ℕ
looks_due config end Ended (Chooses auto) = if sleeps config end auto then 64 else 1
looks_due config end _ _ = 0

-- Fewer than this number of looks were taken, and none of them found a bit.
abbrev pub is_below : Option ℕ → ℕ → Bool
is_below None due = false
is_below (Some taken) due = nat_lt taken due

abbrev pub looks_after : (looks : Option ℕ) → (found : ℕ) → Option ℕ
looks_after None found = None
looks_after (Some taken) found = if found == 0 then Some (taken + 1) else None

abbrev pub looks_next : EndConfig → Route → Running → Bool
looks_next config own run = own.enabled && is_below run.looks (looks_due config run.peer.end run.peer.left run.peer.driver)

-- The next step leads the peer there. No look comes first. The doorbell of the step is to a peer in
-- one-shot mode with its ring left, or not.
pub record StepsTo (config : EndConfig) (storm : ℕ → Step) (routes : List Route) (run : Running)
    (ringing guarded : Bool) (step : Step) (after : Peer) : Type 0 where
  pub first : looks_next config (route_to routes config.me) run ≡ false
  pub rings : run.ringing ≡ ringing
  pub guards : is_guarded (doorbell_path_in routes step.access) ≡ guarded
  pub takes : TakesStep config storm run.peer.driver run.peer step after

-- The State step with this value, of a peer that chooses its calls.
abbrev pub sets : ℕ → Driver → Access → Bool
sets state (Chooses auto) (access.State value) = value == state
sets state _ _ = false

-- A State step with 2 opens a session.
abbrev pub opens : Access → ℕ
opens (access.State state) = if state == 2 then 1 else 0
opens _ = 0

-- The effect of a step with this access on the peer.
abbrev pub steps_on : Running → Access → Peer → Running
steps_on run a after = record { peer = after; looks = Some 0; ringing = false; opened = run.opened + opens a; met = None; spans = spent run.spans }

-- If a clear found the bit set, the step isn't done, and its ring is next.
abbrev pub is_set : ℕ → Bool
is_set found = bit_at found 0 == 1

abbrev pub cleared_to : (found : ℕ) → Running → Access → Peer → Running
cleared_to found run a after = if is_set found then record run { looks = Some 0; ringing = true; spans = spent run.spans } else steps_on run a after

-- A reset drops the open call, and the ring of a doorbell that is left. A storm continues with its
-- next step.
abbrev pub skipped : (ringing : Bool) → Driver → Driver
skipped true (Storms x) = Storms (storm_after x)
skipped _ driver = driver

abbrev pub restarts_to : Running → Running
restarts_to run = record {
  peer = was_reset (record (run.peer) { driver = skipped run.ringing run.peer.driver });
  looks = Some 0;
  ringing = false;
  opened = run.opened;
  met = None;
  spans = later run.spans;
}

-- No call is open.
abbrev pub has_ended : CallTree → Bool
has_ended Ended = true
has_ended _ = false

-- No call is open, and the automatic peer is finished.
abbrev pub is_end : Choice → Bool
is_end IsFinished = true
is_end _ = false

abbrev pub rests : End → Driver → Bool
rests end (Chooses auto) = is_end (choice_of end.handshake.phase auto.round auto.frames auto.delivered auto.expected)
rests end _ = false

abbrev pub is_finished : Peer → Bool
is_finished peer = has_ended peer.left && rests peer.end peer.driver

-- The next step sets this State. A number is met for it, or not.
pub record ComesToSet (config : EndConfig) (storm : ℕ → Step) (routes : List Route) (run : Running) (state : ℕ) (step : Step) (after : Peer) : Type 0 where
  pub step_is : StepsTo config storm routes run false false step after
  pub sets_it : sets state run.peer.driver step.access ≡ true

-- A look, a step and each part of a doorbell are turns of the span. A peer that chooses its calls
-- stores the number of the session that it opens right before its State step with 2. It loads the
-- other's number right before its State step with 3, which has both numbers. If the turns of a span
-- are taken and another span follows, the peer is reset, unless it is finished.
abbrev pub TakesTurn : EndConfig → (ℕ → Step) → List Route → Running → Turn → Running → Type 0
TakesTurn config storm routes run (Looks found) after = (has_turn_left run.spans ≡ true) × (looks_next config (route_to routes config.me) run ≡ true) ×
    (after ≡ record run { looks = looks_after run.looks found; spans = spent run.spans })
TakesTurn config storm routes run (Makes first step) after = (has_turn_left run.spans ≡ true) ×
    ((next : Peer) × StepsTo config storm routes run false false step next × (sets 2 run.peer.driver step.access ≡ true → run.met ≢ None) ×
    (sets 3 run.peer.driver step.access ≡ false) × (after ≡ steps_on run step.access next) × (first ≡ has_ended run.peer.left))
TakesTurn config storm routes run (Clears step found) after = (has_turn_left run.spans ≡ true) ×
    ((next : Peer) × StepsTo config storm routes run false true step next × (after ≡ cleared_to found run step.access next))
TakesTurn config storm routes run (Rings step) after = (has_turn_left run.spans ≡ true) ×
    ((next : Peer) × StepsTo config storm routes run true true step next × (after ≡ steps_on run step.access next))
TakesTurn config storm routes run (Stores number) after = (has_turn_left run.spans ≡ true) × (run.met ≡ None) × (number ≡ run.opened + 1) ×
    ((step : Step) × (next : Peer) × ComesToSet config storm routes run 2 step next) × (after ≡ record run { met = Some number; spans = spent run.spans })
TakesTurn config storm routes run (Loads number) after = (has_turn_left run.spans ≡ true) × (run.met ≡ None) ×
    ((step : Step) × (next : Peer) × ComesToSet config storm routes run 3 step next) × (after ≡ record run { met = Some number; spans = spent run.spans })
TakesTurn config storm routes run (Enters step opened other) after = (has_turn_left run.spans ≡ true) × (run.met ≡ Some other) × (run.opened ≡ opened) ×
    ((next : Peer) × ComesToSet config storm routes run 3 step next × (after ≡ steps_on run step.access next))
TakesTurn config storm routes run Restarts after = IsSpanSpent run.spans × (is_finished run.peer ≡ false) × (after ≡ restarts_to run)

unfoldable pub TakesTurns : EndConfig → (ℕ → Step) → List Route → Running → List Turn → Running → Type 0
TakesTurns config storm routes run [] after = after ≡ run
TakesTurns config storm routes run (turn ∷ turns) after = (mid : Running) × TakesTurn config storm routes run turn mid ×
    TakesTurns config storm routes mid turns after

-- The actions of a turn.

-- A step makes its access to the region, and a doorbell its ring, if any.
abbrev pub acted_by : List Route → Access → ℕ → List (Action (MemoryOp ObservedAccess))
acted_by routes (access.Read word) value = accessed (called (observed_access (access.Read word) value)) ∷ []
acted_by routes (access.Write word written) value = accessed (called (observed_access (access.Write word written) value)) ∷ []
acted_by routes (access.State state) value = accessed (called (observed_access (access.State state) value)) ∷ []
acted_by routes (access.Ring target vector) value = rung_by (doorbell_path_to routes target vector) target
acted_by routes access.Nothing value = []

abbrev pub cleared_by : {A : Type 0} → Access → ℕ → List (Action A)
cleared_by (access.Ring target vector) found = cleared target found ∷ []
cleared_by other found = []

abbrev pub acted_in : List Route → Turn → List (Action (MemoryOp ObservedAccess))
acted_in routes (Looks found) = looked found ∷ []
acted_in routes (Makes first step) = acted_by routes step.access step.value
acted_in routes (Clears step found) = cleared_by step.access found
acted_in routes (Rings step) = acted_by routes step.access step.value
acted_in routes (Stores number) = accessed (numbered number) ∷ []
acted_in routes (Loads number) = accessed (carried number) ∷ []
acted_in routes (Enters step opened other) = acted_by routes step.access step.value
acted_in routes Restarts = accessed restarted ∷ []

unfoldable pub actions_in : List Route → List Turn → List (Action (MemoryOp ObservedAccess))
actions_in routes turns = flat_map (acted_in routes) turns

-- The lines of a turn

-- The lines of a look: an interrupt for each bit below n that it found.
abbrev pub interrupt_line : ℕ → ℕ → ℕ → List Line
interrupt_line me bit found = if bit_at found bit == 0 then [] else line.Interrupt me bit ∷ []

unfoldable pub interrupt_lines : ℕ → ℕ → ℕ → List Line
interrupt_lines zero me found = []
interrupt_lines (suc n) me found = interrupt_lines n me found ++ interrupt_line me n found

-- A quiet call finds nothing, in one step, a read. Quiet calls are:
-- * a Tick that ends without a State step;
-- * a Poll that finds no frame and requests no doorbell;
-- * an Offer that reclaims none and meets a full ring
abbrev pub finds_nothing : List Mark → Bool
finds_nothing (Saw value ∷ Over ∷ []) = true
finds_nothing (Look zero ∷ Done ∷ []) = true
finds_nothing (Reclaim zero ∷ Full ∷ []) = true
finds_nothing _ = false

abbrev pub is_quiet : (first : Bool) → Access → List Mark → Bool
is_quiet first (access.Read word) marks = first && finds_nothing marks
is_quiet first other marks = false

-- The lines of a step are those of its access and of its marks. There are none if its call is
-- quiet.
abbrev pub lines_of : ℕ → (first : Bool) → Access → ℕ → List Mark → List Line
lines_of p first a value marks = if is_quiet first a marks then [] else access_lines p a value ++ map (mark_line p) marks

-- The doorbell's line is recorded at its clear, and the marks of the step at the end of the
-- doorbell.
abbrev pub marks_of : Turn → List Mark
marks_of (Makes first step) = step.marks
marks_of (Clears step found) = if is_set found then [] else step.marks
marks_of (Rings step) = step.marks
marks_of (Enters step opened other) = step.marks
marks_of _ = []

-- The lines of a turn. The numbers of a session are in the line after the State step with 3.
abbrev pub lines_in : ℕ → Turn → List Line
lines_in p (Looks found) = interrupt_lines 64 p found
lines_in p (Makes first step) = lines_of p first step.access step.value step.marks
lines_in p (Clears step found) = access_lines p step.access step.value ++ map (mark_line p) (marks_of (Clears step found))
lines_in p (Rings step) = map (mark_line p) step.marks
lines_in p (Stores number) = []
lines_in p (Loads number) = []
lines_in p (Enters step opened other) = access_lines p step.access step.value ++ line.Session p opened other ∷ map (mark_line p) step.marks
lines_in p Restarts = line.Reset p ∷ []

unfoldable pub lines_of_turns : ℕ → List Turn → List Line
lines_of_turns p turns = flat_map (lines_in p) turns
