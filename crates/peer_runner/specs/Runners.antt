-- An automatic peer between two turns, as the code steps it. A runner has its place in the open
-- call. The own record has the rest of the call instead.
use Rattle.std.specs.Prelude.{ℕ, ◌≡◌, ◌+◌, ◌<◌, ◌≤◌, ◌==◌, ◌&&◌, not, Bool, true, false, if◌then◌else◌, Option, Some, None, All, List, [], ◌∷◌, ◌++◌, length, map}
use Rattle.split_ring.specs.declared.sizes.TheConstants.{FRAME_OVERHEAD, SHORTEST_FRAME}
use Rattle.split_ring.specs.declared.steps.Access.{Access}
use Rattle.split_ring.specs.declared.steps.Access.TheVariants as access
use Rattle.section_map.specs.Geometry.{word_count}
use Rattle.section_map.specs.MayWrite.{MayWrite}
use Rattle.call_grammar.specs.Steps.{Mark, Step}
use Rattle.call_grammar.specs.Ends.{End, fresh, after_reset, end_after}
use Rattle.call_grammar.specs.Calls.{EndConfig, Call}
use Rattle.call_grammar.specs.Calls as calls
use Rattle.call_grammar.specs.Automatic.{Anew, AfterOffer, AfterPoll, choice_of}
use Rattle.call_grammar.specs.Automatic as automatic
use Rattle.pair_sessions.specs.Numbers.{Numbers, no_numbers, numbers_after, numbers_reset, with_stored, with_loaded}
use Rattle.call_grammar.specs.Places.{Place, Closed, WritingState, remaining, access_at, next_place, step_at, marks_at, is_open}
use Rattle.split_ring.specs.declared.steps.Note.{Note}
use Rattle.link_endpoint.specs.Engine.{Engine, is_busy, offered, delivered}
use Rattle.link_endpoint.specs.Refinement.{RefinesAt, marks_between}
use Rattle.link_endpoint.specs.Plan.{Matches, Closes, place_for}
use Rattle.link_endpoint.specs.declared.auto.Choice.{Choice}
use Rattle.lawful_history.specs.declared.line.Line.{Line}
use Rattle.lawful_history.specs.declared.line.Line.TheVariants as line
use Rattle.lawful_history.specs.EventRecords.{access_lines, mark_line}
use Rattle.lawful_history.specs.Peers.{Auto, Chooses, Peer, counted_all}
use Rattle.step_lines.specs.Plans.{IsPlanOf}
use Rattle.step_lines.specs.Places.{HasFrames}
use Rattle.shared_words.specs.declared.run_setup.RunSetup.{RunSetup}
use Rattle.shared_words.specs.PassView.{PassView}
use Rattle.shared_words.specs.RunSetups.{config_in}
use Rattle.shared_words.specs.DerivedStates.{CallAccess, call_access, MemoryOp, called, numbered, carried, restarted, lapsed, Wake, at_rest, wake_on, DerivedState, settled_place, derived_state}
use Rattle.shared_words.specs.Actions.{Action, accessed, looked, accesses_in}
use Rattle.shared_words.specs.Passes.{added}
use Rattle.peer_runner.specs.DoorbellPaths.{doorbell_path_to, is_guarded, rung_by}
use Rattle.shared_words.specs.Interrupts.{MayRing}
use Rattle.peer_runner.specs.Turns.{Turn, Looks, Makes, Clears, Rings, Stores, Loads, Enters, Restarts, Running, sleeps, is_below, looks_after, spent, later, is_end, is_set, cleared_by, is_quiet, lines_in}
use Rattle.shared_words.specs.declared.sessions.SessionWord.{SessionWord}
use Rattle.shared_words.specs.declared.sessions.SessionWord.TheVariants.{Own, Others}
use Rattle.peer_runner.specs.declared.doorbell_paths.Done.{Done}
use Rattle.peer_runner.specs.declared.turns.AutoPeer.{AutoPeer}
use Rattle.peer_runner.specs.declared.notes.RecordedStep.{RecordedStep}
use Rattle.peer_runner.specs.declared.doorbell_paths.Done.TheVariants.{Stepped, Cleared, Rung}
use Rattle.doorbell_irq.specs.declared.route.Route.{Route}

-- A frame that may be offered: 14 to MTU + 18 bytes.
abbrev pub IsFrame : ℕ → List ℕ → Type 0
IsFrame mtu frame = (SHORTEST_FRAME ≤ length frame) × (length frame ≤ mtu + FRAME_OVERHEAD) × All (λ byte. byte < 256) frame

-- A runner:
-- * `end`: its end;
-- * `place`: its place in the open call;
-- * `auto`: what it has to do;
-- * `looks`: the number of its looks since its last step;
-- * `ringing`: whether a ring is to come;
-- * `numbers`: its sessions by their numbers;
-- * `met`: the number that it stored or loaded for the State step that comes next;
-- * `spans`: the turns left of its span, and those of the spans to come;
-- * `actions`: its list of actions;
-- * `turns`: the turns that it took;
-- * `wake`: the doorbells that it requested and those that it didn't ring
pub record Runner : Type 0 where
  pub end : End
  pub place : Place
  pub auto : Auto
  pub looks : Option ℕ
  pub ringing : Bool
  pub numbers : Numbers
  pub met : Option ℕ
  pub spans : List ℕ
  pub actions : List (Action (MemoryOp CallAccess))
  pub turns : List Turn
  pub wake : Wake

abbrev pub start_auto : List (List ℕ) → ℕ → Auto
start_auto frames expected = record { frames = frames; expected = expected; delivered = 0; round = Anew }

abbrev pub initial_runner : List (List ℕ) → (expected : ℕ) → (spans : List ℕ) → Runner
initial_runner frames expected spans = record {
  end = fresh;
  place = Closed;
  auto = start_auto frames expected;
  looks = Some 0;
  ringing = false;
  numbers = no_numbers;
  met = None;
  spans = spans;
  actions = [];
  turns = [];
  wake = at_rest;
}

-- The peer of the own record that the runner represents.
abbrev pub peer_of : EndConfig → Runner → Peer
peer_of config r = record { end = r.end; left = remaining config r.place; waiting = []; driver = Chooses r.auto }

abbrev pub running_of : EndConfig → Runner → Running
running_of config r = record { peer = peer_of config r; looks = r.looks; ringing = r.ringing; opened = r.numbers.log.opened; met = r.met; spans = r.spans }

-- The choice if no call is open.

abbrev pub choice_at : End → Place → Auto → Option automatic.Choice
choice_at end place auto = if is_open place then None else Some (choice_of end.handshake.phase auto.round auto.frames auto.delivered auto.expected)

abbrev pub chosen : Runner → Option automatic.Choice
chosen r = choice_at r.end r.place r.auto

abbrev pub round_on : Auto → Option automatic.Choice → Auto
round_on auto None = auto
round_on auto (Some automatic.ChoosesTick) = record auto { round = Anew }
round_on auto (Some (automatic.ChoosesOffer frame)) = record auto { round = AfterOffer }
round_on auto (Some automatic.ChoosesPoll) = record auto { round = AfterPoll }
round_on auto (Some automatic.IsFinished) = auto

abbrev pub call_chosen : Option automatic.Choice → Option Call
call_chosen None = None
call_chosen (Some automatic.ChoosesTick) = Some calls.Tick
call_chosen (Some (automatic.ChoosesOffer frame)) = Some (calls.Offer frame)
call_chosen (Some automatic.ChoosesPoll) = Some calls.Poll
call_chosen (Some automatic.IsFinished) = None

abbrev pub finishes : Option automatic.Choice → Bool
finishes None = false
finishes (Some c) = is_end c

abbrev pub has_finished : Runner → Bool
has_finished r = finishes (chosen r)

-- The place of its next step.
abbrev pub place_in : EndConfig → Runner → Place
place_in config r = place_for config r.end r.place (call_chosen (chosen r))

-- Its actions

abbrev pub touches : Access → Bool
touches (access.Read word) = true
touches (access.Write word value) = true
touches (access.State state) = true
touches (access.Ring target vector) = false
touches access.Nothing = false

abbrev pub taken_of : List Route → Option Call → Access → ℕ → List (Action (MemoryOp CallAccess))
taken_of routes begins (access.Read word) value = accessed (called (call_access begins (access.Read word) value)) ∷ []
taken_of routes begins (access.Write word written) value = accessed (called (call_access begins (access.Write word written) value)) ∷ []
taken_of routes begins (access.State state) value = accessed (called (call_access begins (access.State state) value)) ∷ []
taken_of routes begins (access.Ring target vector) value = rung_by (doorbell_path_to routes target vector) target
taken_of routes begins access.Nothing value = []

-- The access reads a word of the region, or writes one of the peer's own.
abbrev pub MayMake : RunSetup → ℕ → Access → Type 0
MayMake key me (access.Read word) = word < word_count key.geometry
MayMake key me (access.Write word value) = MayWrite key.geometry me word
MayMake key me other = Unit {0}

-- The pass with these further actions, at most one.
abbrev pub made : PassView → List (Action (MemoryOp CallAccess)) → PassView
made h [] = h
made h (t ∷ more) = added h t

-- The part of a step that is done in a turn.

-- The value that a read returned.
abbrev pub value_done : Done → ℕ
value_done (Stepped value) = value
value_done other = 0

abbrev pub done_of : List Route → Option Call → Access → Done → List (Action (MemoryOp CallAccess))
done_of routes begins a (Stepped value) = taken_of routes begins a value
done_of routes begins a (Cleared found) = cleared_by a found
done_of routes begins a Rung = taken_of routes begins a 0

-- A State step with 3 has the number of sessions opened and the number that was loaded.
abbrev pub stepped_turn : (first : Bool) → (opened : ℕ) → (met : Option ℕ) → Step → Access → Turn
stepped_turn first opened (Some other) step (access.State state) = if state == 3 then Enters step opened other else Makes first step
stepped_turn first opened met step _ = Makes first step

abbrev pub turn_of : (first : Bool) → (opened : ℕ) → (met : Option ℕ) → Step → Done → Turn
turn_of first opened met step (Stepped value) = stepped_turn first opened met step step.access
turn_of first opened met step (Cleared found) = Clears step found
turn_of first opened met step Rung = Rings step

-- A doorbell to a peer in one-shot mode begins with a clear. The ring follows if the clear found
-- the bit set.
abbrev pub IsDone : (ringing guarded : Bool) → Done → Type 0
IsDone ringing guarded (Stepped value) = (ringing ≡ false) × (guarded ≡ false)
IsDone ringing guarded (Cleared found) = (ringing ≡ false) × (guarded ≡ true)
IsDone ringing guarded Rung = (ringing ≡ true) × (guarded ≡ true)

-- The lines of a turn, with these marks. If a State step with 3 met a number, the line of the
-- session, with `opened` and this number, follows the line of the step.
abbrev pub session_lines : ℕ → (opened : ℕ) → (met : Option ℕ) → Access → List Line
session_lines p opened (Some other) (access.State state) = if state == 3 then line.Session p opened other ∷ [] else []
session_lines p opened met _ = []

abbrev pub stepped_lines : ℕ → (first : Bool) → (opened : ℕ) → (met : Option ℕ) → Access → ℕ → List Mark → List Line
stepped_lines p first opened met a value marks =
    if is_quiet first a marks then [] else access_lines p a value ++ session_lines p opened met a ++ map (mark_line p) marks

abbrev pub done_lines : ℕ → (first : Bool) → (opened : ℕ) → (met : Option ℕ) → Access → Done → List Mark → List Line
done_lines p first opened met a (Stepped value) marks = stepped_lines p first opened met a value marks
done_lines p first opened met a (Cleared found) marks = access_lines p a 0 ++ map (mark_line p) marks
done_lines p first opened met a Rung marks = map (mark_line p) marks

-- The same, by the state that the code keeps of the step and by the endpoint's notes.
abbrev pub lines_stepped : ℕ → RecordedStep → ℕ → List Mark → List Line
lines_stepped p step value marks = stepped_lines p step.first step.opened step.met step.access value marks

abbrev pub lines_done : ℕ → RecordedStep → Done → List Mark → List Line
lines_done p step done marks = done_lines p step.first step.opened step.met step.access done marks

abbrev pub marks_of_notes : Engine → List Note → List Mark
marks_of_notes end notes = marks_between (offered end) (delivered end) notes

-- The same for a step without marks whose access is no read.
abbrev pub drawn_lines : ℕ → Access → Done → List Line
drawn_lines p a Rung = []
drawn_lines p a other = access_lines p a 0

-- The action was a clear that found the bit set, so the ring is next.
abbrev pub awaits_ring : Done → Bool
awaits_ring (Cleared found) = is_set found
awaits_ring other = false

-- The ring of this doorbell may be made.
abbrev pub MayRingBy : List Route → Access → List (Action (MemoryOp CallAccess)) → Type 0
MayRingBy routes (access.Ring target vector) list = (is_guarded (doorbell_path_to routes target vector) ≡ true) × MayRing target list
MayRingBy routes other list = ⊥

-- A turn

-- The number of looks due: none in an open call, 64 if the peer sleeps, otherwise 1. With `looks`
-- taken and `due` due, the peer looks first if its interrupts are enabled and `looks` is below
-- `due`.
abbrev pub due_at : EndConfig → End → Place → Auto → ℕ
due_at config end place auto = if is_open place then 0 else if sleeps config end auto then 64 else 1

abbrev pub due_of : EndConfig → Runner → ℕ
due_of config r = due_at config r.end r.place r.auto

abbrev pub looks_now : Route → (due : ℕ) → (looks : Option ℕ) → Bool
looks_now own due looks = own.enabled && is_below looks due

abbrev pub looked_on : Runner → ℕ → Runner
looked_on r found = record r {
  looks = looks_after r.looks found;
  spans = spent r.spans;
  actions = r.actions ++ looked found ∷ [];
  turns = r.turns ++ Looks found ∷ [];
}

-- The runner after a turn at a session word, for the State step that follows. It stores the number
-- of the session that it opens, or loads the other's.

-- The session word that is due before the State step with 2 or 3, if no number is stored or loaded
-- for that step yet.
abbrev pub due_word : Place → Option ℕ → Option SessionWord
due_word (WritingState state) None = if state == 2 then Some Own else if state == 3 then Some Others else None
due_word place met = None

abbrev pub state_for : SessionWord → ℕ
state_for Own = 2
state_for Others = 3

abbrev pub memory_op_met : {A : Type 0} → SessionWord → ℕ → MemoryOp A
memory_op_met Own number = numbered number
memory_op_met Others number = carried number

abbrev pub turn_met : SessionWord → ℕ → Turn
turn_met Own number = Stores number
turn_met Others number = Loads number

abbrev pub numbers_met : SessionWord → Numbers → ℕ → Numbers
numbers_met Own n number = with_stored n
numbers_met Others n number = with_loaded n number

abbrev pub met_on : SessionWord → Runner → ℕ → Runner
met_on word r number = record r {
  numbers = numbers_met word r.numbers number;
  met = Some number;
  spans = spent r.spans;
  actions = r.actions ++ accessed (memory_op_met word number) ∷ [];
  turns = r.turns ++ turn_met word number ∷ [];
}

-- The runner after a reset.
abbrev pub restarted_on : Runner → Runner
restarted_on r = record {
  end = after_reset r.end;
  place = Closed;
  auto = record (r.auto) { round = Anew };
  looks = Some 0;
  ringing = false;
  numbers = numbers_reset r.numbers r.end;
  met = None;
  spans = later r.spans;
  actions = r.actions ++ accessed restarted ∷ [];
  turns = r.turns ++ Restarts ∷ [];
  wake = record (r.wake) { asked = lapsed r.wake.asked };
}

-- Its step is the first of a call.
abbrev pub is_first : Runner → Bool
is_first r = not (is_open r.place)

-- The turn of a step.
abbrev pub turn_on : EndConfig → Runner → Done → Turn
turn_on config r done = turn_of (is_first r) r.numbers.log.opened r.met (step_at config (place_in config r) (value_done done)) done

-- The runner after a step, or with the step held for its ring.
abbrev pub held_on : List Route → EndConfig → Runner → Done → Runner
held_on routes config r done = record r {
  looks = Some 0;
  ringing = true;
  spans = spent r.spans;
  actions = r.actions ++ done_of routes (call_chosen (chosen r)) (access_at config (place_in config r)) done;
  turns = r.turns ++ turn_on config r done ∷ [];
}

abbrev pub woken_on : EndConfig → Runner → Done → Wake
woken_on config r done = wake_on config r.end r.numbers.log r.wake (access_at config (place_in config r))
    (marks_at config (place_in config r) (value_done done))

abbrev pub stepped_on : List Route → EndConfig → Runner → Done → Runner
stepped_on routes config r done = record {
  end = end_after r.end (step_at config (place_in config r) (value_done done));
  place = next_place config (place_in config r) (value_done done);
  auto = counted_all (round_on r.auto (chosen r)) (marks_at config (place_in config r) (value_done done));
  looks = Some 0;
  ringing = false;
  numbers = numbers_after r.numbers r.end (access_at config (place_in config r));
  met = None;
  spans = spent r.spans;
  actions = r.actions ++ done_of routes (call_chosen (chosen r)) (access_at config (place_in config r)) done;
  turns = r.turns ++ turn_on config r done ∷ [];
  wake = woken_on config r done;
}

abbrev pub turned : List Route → EndConfig → Runner → Done → Runner
turned routes config r done = if awaits_ring done then held_on routes config r done else stepped_on routes config r done

-- The lines of the turn.
abbrev pub lines_on : EndConfig → Runner → Done → List Line
lines_on config r done = lines_in config.me (turn_on config r done)

-- The derived state of the runner, by its list.
abbrev pub derived_state_of : Runner → DerivedState
derived_state_of r = record { end = r.end; place = settled_place r.place; numbers = r.numbers; wake = r.wake }

-- The number for the next State step is the one in its session word, or the one that it loaded.
pub record HasMet (r : Runner) : Type 0 where
  pub stored : (number : ℕ) → r.place ≡ WritingState 2 → r.met ≡ Some number → r.numbers.stored ≡ true
  pub loaded : (number : ℕ) → r.place ≡ WritingState 3 → r.met ≡ Some number → r.numbers.loaded ≡ Some number

-- The endpoint refines the runner, and so does its list. Its frames may be offered, and a ring that
-- is next may be made.
pub record RunnerRefines (key : RunSetup) (me : ℕ) (routes : List Route) (r : Runner) (end : Engine) : Type 0 where
  pub refines : RefinesAt end (config_in key me) r.end r.place
  pub derived_state : derived_state key me (accesses_in r.actions) ≡ derived_state_of r
  pub bytes : HasFrames r.place
  pub frames : All (IsFrame key.queue.mtu) r.auto.frames
  pub rings : r.ringing ≡ true → MayRingBy routes (access_at (config_in key me) r.place) r.actions
  pub met : HasMet r

-- The pass is of this peer alone, with its list.
pub record IsThere (key : RunSetup) (me : ℕ) (routes : List Route) (r : Runner) (pass : PassView) (end : Engine) : Type 0 where
  pub refines : RunnerRefines key me routes r end
  pub from : pass.from ≡ me
  pub lists : pass.lists ≡ r.actions ∷ []

-- The code's peer refines the runner.
pub record IsAutoPeer (auto_peer : AutoPeer) (r : Runner) : Type 0 where
  pub planned : IsPlanOf auto_peer.driven.auto r.auto
  pub looks : auto_peer.looks ≡ r.looks
  pub ringing : auto_peer.ringing ≡ r.ringing
  pub opened : auto_peer.opened ≡ r.numbers.log.opened
  pub met : auto_peer.met ≡ r.met

-- The next turn is neither a look nor at a session word. The call was chosen for it, and the round
-- is the one after that choice.
pub record Turns (key : RunSetup) (me : ℕ) (routes : List Route) (r : Runner) (choice : Option Choice) (pass : PassView) (auto_peer : AutoPeer) : Type 0 where
  pub there : IsThere key me routes r pass auto_peer.driven.end
  pub is : IsAutoPeer auto_peer (record r { auto = round_on r.auto (chosen r) })
  pub matches : Matches choice auto_peer.driven.auto.frames (chosen r)
  pub closes : Closes choice (is_busy auto_peer.driven.end)
  pub goes : has_finished r ≡ false
  pub word : due_word r.place r.met ≡ None
