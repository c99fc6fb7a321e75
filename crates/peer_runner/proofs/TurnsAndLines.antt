-- The trajectory of an automatic peer: its turns so far, what the turns did to the words, and the
-- lines that record the turns.
use Rattle.std.proofs.Common.{◌≡◌, ℕ, zero, suc, ◌+◌, ◌≤◌, inl, inr, ◌⊎◌, Bool, true, false, List, [], ◌∷◌, ◌++◌, length, refl, sym, ap, ◌∙◌, subst, arith, append-nil, eq-eqb, length-append}
use Rattle.std.specs.Prelude.{Option, Some, None, ◌-◌, ◌&&◌, ◌==◌, not, if◌then◌else◌, map, min, Result, Ok, Err, IsErr, IfOk}
use Rattle.std.specs.List.{list_all, list_any, flat_map}
use Rattle.std.proofs.lemmas.Bool.{eqb-true}
use Rattle.std.proofs.lemmas.List.{map-append}
use Rattle.std.proofs.lemmas.List.Sums.{sum_by-cons}
use Rattle.std.proofs.lemmas.Grind.{flat_map-append}
use Rattle.ivs_base.specs.declared.NoMemory.{NoMemory}
use Rattle.split_ring.specs.declared.steps.Access.{Access}
use Rattle.split_ring.specs.declared.steps.Access.TheVariants as access
use Rattle.call_grammar.specs.Steps.{Mark, Step, value_given}
use Rattle.call_grammar.specs.Steps as mark
use Rattle.call_grammar.specs.Trees.{CallTree, Ended, Does, Reads, Goes}
use Rattle.call_grammar.specs.Ends.{End}
use Rattle.call_grammar.specs.Calls.{EndConfig, Call}
use Rattle.call_grammar.specs.Calls as calls
use Rattle.call_grammar.specs.Automatic.{choice_of}
use Rattle.call_grammar.specs.Automatic as automatic
use Rattle.call_grammar.specs.Polls.{is_last}
use Rattle.call_grammar.specs.Places.{Place, Closed, WritingState, ReadingUsedIndex, ReadingAvailIndex, NotInRun, remaining, first_place, access_at, next_place, step_at, marks_at, is_open, PlacesFollowTrees}
use Rattle.link_endpoint.specs.Engine.{Engine, is_busy}
use Rattle.link_endpoint.specs.Plan.{Plan, IsChoice, fresh_plan, Matches, is_end_choice, place_for}
use Rattle.link_endpoint.specs.declared.auto.Choice.{Choice}
use Rattle.link_endpoint.specs.declared.auto.Choice.TheVariants.{Tick, Offer, Poll, Finished}
use Rattle.lawful_history.specs.declared.line.Line.{Line}
use Rattle.lawful_history.specs.declared.line.Line.TheVariants as line
use Rattle.std.specs.Int.{bit_at}
use Rattle.lawful_history.specs.EventRecords.{access_lines, mark_line}
use Rattle.lawful_history.specs.Frames.{has_frame, HaveFrames}
use Rattle.lawful_history.specs.Peers.{Auto, Chooses, Peer, with_choice, opened_by, opened, stepped, was_reset}
use Rattle.pair_sessions.specs.Numbers.{Numbers, numbers_after}
use Rattle.record_text.specs.OwnLines.{is_own, AreOwn}
use Rattle.step_lines.specs.Plans.{IsPlanOf}
use Rattle.step_lines.proofs.FramesOfMarks.{marks_frames}
use Rattle.shared_words.specs.declared.run_setup.RunSetup.{RunSetup}
use Rattle.shared_words.specs.declared.sessions.SessionWord.{SessionWord}
use Rattle.shared_words.specs.declared.sessions.SessionWord.TheVariants.{Own, Others}
use Rattle.shared_words.specs.PassView.{PassView}
use Rattle.shared_words.specs.RunSetups.{config_in}
use Rattle.shared_words.specs.DerivedStates.{event_word, CallAccess, MemoryOp, memory_op_by, observed_of, restarted, DerivedState, initial_derived_state, derived_state, NeverMarked}
use Rattle.shared_words.specs.Actions.{Action, accessed, looked, seen_by, accesses_in}
use Rattle.shared_words.specs.Passes.{shown, held}
use Rattle.doorbell_irq.specs.declared.route.Route.{Route}
use Rattle.peer_runner.specs.declared.doorbell_paths.DoorbellPath.{DoorbellPath}
use Rattle.peer_runner.specs.declared.doorbell_paths.DoorbellPath.TheVariants.{Silent, Direct, Guarded}
use Rattle.peer_runner.specs.declared.doorbell_paths.Done.{Done}
use Rattle.peer_runner.specs.declared.doorbell_paths.Done.TheVariants.{Stepped, Cleared, Rung}
use Rattle.shared_words.specs.PeerRoutes.{route_to}
use Rattle.peer_runner.specs.DoorbellPaths.{doorbell_path_to, is_guarded, doorbell_path_in, rung_by}
use Rattle.peer_runner.specs.Turns.{Turn, Looks, Makes, Clears, Enters, Restarts, Running, comes_to, all_turns, has_turn_left, spent, IsSpanSpent, later, TakesStep, StepsTo, ComesToSet, sleeps, is_below, looks_due, looks_next, sets, opens, steps_on, is_set, cleared_to, skipped, restarts_to, TakesTurn, TakesTurns, is_end, has_ended, is_finished, acted_by, cleared_by, acted_in, actions_in, interrupt_line, interrupt_lines, is_quiet, marks_of, lines_in, lines_of_turns}
use Rattle.peer_runner.specs.Runners.{Runner, start_auto, initial_runner, peer_of, running_of, chosen, round_on, call_chosen, finishes, has_finished, place_in, taken_of, value_done, done_of, stepped_turn, turn_of, IsDone, awaits_ring, due_of, looks_now, due_word, memory_op_met, turn_met, numbers_met, met_on, restarted_on, is_first, turn_on, held_on, stepped_on, turned, HasMet, MayRingBy, RunnerRefines, IsThere}
use Rattle.peer_runner.specs.Trajectories.{IsNoLook, GoesOn, by_look, by_word, by_step, by_reset, Trajectory, starts, follows}
use Rattle.peer_runner.specs.Drives.{storm_in, automatic, MayBeAuto, Did}
use Rattle.shared_words.proofs.FoldOfOperations.{standing_none}
use Rattle.shared_words.proofs.Actions.{accesses_none, accesses_both}
use Rattle.peer_runner.proofs.NoRefusalRecorded.{none_refused, refused_more}
use Rattle.shared_words.proofs.LinkOfSetup.{clash}
use Rattle.peer_runner.specs.RunningRecord.{refuses, initial_reader, reader_after_lines, reader_of_lines, ReaderMatches}
use Rattle.call_grammar.proofs.ReplaysAreCalls.{shut_place}
use Rattle.peer_runner.proofs.AutoChoices.{settled_closed}
use Rattle.peer_runner.proofs.AutoTurns.{met_place, met_before, IsEntering, IsMaking, stepped_kind}
use Rattle.peer_runner.proofs.LinesMatchState.{reports_none, reports_both, StateMatches, recorded_is, recorded_first, looked_recorded, met_recorded, restarted_recorded, turned_recorded}

-- One turn more

pub takes_none : (config : EndConfig) (storm : ℕ → Step) (routes : List Route) (run : Running) → TakesTurns config storm routes run [] run
unfolding TakesTurns
takes_none config storm routes run = refl

pub takes_snoc : (config : EndConfig) (storm : ℕ → Step) (routes : List Route) (turns : List Turn) (turn : Turn) (run mid after : Running) → TakesTurns config storm routes run turns mid → TakesTurn config storm routes mid turn after → TakesTurns config storm routes run (turns ++ turn ∷ []) after
unfolding TakesTurns
takes_snoc config storm routes [] turn run mid after took last = (after, subst (λ (m : Running). TakesTurn config storm routes m turn after) took last, refl)
takes_snoc config storm routes (t ∷ turns) turn run mid after took last = (took.0, took.1, takes_snoc config storm routes turns turn took.0 mid after took.2 last)

pub actions_none : (routes : List Route) → actions_in routes [] ≡ []
unfolding actions_in
actions_none routes = refl

pub actions_snoc : (routes : List Route) (turns : List Turn) (turn : Turn) → actions_in routes (turns ++ turn ∷ []) ≡ actions_in routes turns ++ acted_in routes turn
unfolding actions_in
actions_snoc routes turns turn = flat_map-append (acted_in routes) turns (turn ∷ []) ∙ ap (λ l. flat_map (acted_in routes) turns ++ l) (append-nil (acted_in routes turn))

pub recorded_none : (me : ℕ) → lines_of_turns me [] ≡ []
unfolding lines_of_turns
recorded_none me = refl

pub recorded_snoc : (me : ℕ) (turns : List Turn) (turn : Turn) → lines_of_turns me (turns ++ turn ∷ []) ≡ lines_of_turns me turns ++ lines_in me turn
unfolding lines_of_turns
recorded_snoc me turns turn = flat_map-append (lines_in me) turns (turn ∷ []) ∙ ap (λ l. flat_map (lines_in me) turns ++ l) (append-nil (lines_in me turn))

-- Lines of a peer are its own.

pub all_append : (f : Line → Bool) (xs ys : List Line) → list_all f xs ≡ true → list_all f ys ≡ true → list_all f (xs ++ ys) ≡ true
all_append f [] ys one other = other
all_append f (x ∷ xs) ys one other = both_true (f x) (list_all f (xs ++ ys)) (first_true (f x) (list_all f xs) one) (all_append f xs ys (rest_true (f x) (list_all f xs) one) other)
  where
    both_true : (a b : Bool) → a ≡ true → b ≡ true → (a && b) ≡ true
    both_true true true p q = refl
    both_true true false p q = q
    both_true false b p q = absurd (cc)

    first_true : (a b : Bool) → (a && b) ≡ true → a ≡ true
    first_true true b p = refl
    first_true false b p = absurd (cc)

    rest_true : (a b : Bool) → (a && b) ≡ true → b ≡ true
    rest_true true b p = p
    rest_true false b p = absurd (cc)

mine : (me : ℕ) → (me == me) ≡ true
mine me = eq-eqb me me refl

mine_and : (me : ℕ) (b : Bool) → b ≡ true → ((me == me) && b) ≡ true
mine_and me b is = ap (λ x. x && b) (mine me) ∙ is

pub access_own : (me : ℕ) (a : Access) (value : ℕ) → AreOwn me (access_lines me a value)
access_own me access.Nothing value = refl
access_own me _ value = mine_and me true refl

mark_own : (me : ℕ) (m : Mark) → is_own me (mark_line me m) ≡ has_frame (mark_line me m)
mark_own me (mark.Accept frame) = ap (λ x. x && not (length frame == 0)) (mine me)
mark_own me (mark.Deliver frame) = ap (λ x. x && not (length frame == 0)) (mine me)
mark_own me _ = mine me

mark_then : (me : ℕ) (m : Mark) (lines : List Line) (b : Bool) → has_frame (mark_line me m) ≡ b → (b && list_all has_frame lines) ≡ true → (list_all has_frame lines ≡ true → AreOwn me lines) → AreOwn me (mark_line me m ∷ lines)
mark_then me m lines true is has rest = ap (λ x. x && list_all (is_own me) lines) (mark_own me m ∙ is) ∙ rest has
mark_then me m lines false is has rest = absurd (cc)

marks_own : (me : ℕ) (marks : List Mark) → HaveFrames (map (mark_line me) marks) → AreOwn me (map (mark_line me) marks)
marks_own me [] has = refl
marks_own me (m ∷ marks) has = mark_then me m (map (mark_line me) marks) (has_frame (mark_line me m)) refl has (marks_own me marks)

-- The bits that a look found.
interrupt_own : (me bit found : ℕ) → AreOwn me (interrupt_line me bit found)
interrupt_own me bit found = elim (bit_at found bit == 0) as (λ b. AreOwn me (if b then [] else line.Interrupt me bit ∷ [])) [ true ↦ refl | false ↦ mine_and me true refl ]

found_own : (n me found : ℕ) → AreOwn me (interrupt_lines n me found)
unfolding interrupt_lines
found_own zero me found = refl
found_own (suc n) me found = all_append (is_own me) (interrupt_lines n me found) (interrupt_line me n found) (found_own n me found) (interrupt_own me n found)

marks_if : (me : ℕ) (b : Bool) (marks : List Mark) → AreOwn me (map (mark_line me) marks) → AreOwn me (map (mark_line me) (if b then [] else marks))
marks_if me true marks own = refl
marks_if me false marks own = own

made_own : (me : ℕ) (first : Bool) (step : Step) → HaveFrames (map (mark_line me) step.marks) → AreOwn me (lines_in me (Makes first step))
made_own me first step has = go (is_quiet first step.access step.marks)
  where
    go : (b : Bool) → AreOwn me (if b then [] else access_lines me step.access step.value ++ map (mark_line me) step.marks)
    go true = refl
    go false = all_append (is_own me) (access_lines me step.access step.value) (map (mark_line me) step.marks) (access_own me step.access step.value) (marks_own me step.marks has)

-- A State step with 3 records its session too.
entered_own : (me : ℕ) (first : Bool) (opened other : ℕ) (step : Step) (b : Bool) → HaveFrames (map (mark_line me) step.marks) → AreOwn me (lines_in me (if b then Enters step opened other else Makes first step))
entered_own me first opened other step true has = all_append (is_own me) (access_lines me step.access step.value) (line.Session me opened other ∷ map (mark_line me) step.marks) (access_own me step.access step.value)
    (mine_and me (list_all (is_own me) (map (mark_line me) step.marks)) (marks_own me step.marks has))
entered_own me first opened other step false has = made_own me first step has

stepped_own : (me : ℕ) (first : Bool) (opened : ℕ) (met : Option ℕ) (step : Step) (a : Access) → HaveFrames (map (mark_line me) step.marks) → AreOwn me (lines_in me (stepped_turn first opened met step a))
stepped_own me first opened (Some other) step (access.State state) has = entered_own me first opened other step (state == 3) has
stepped_own me first opened met step a has = made_own me first step has

pub turn_own : (me : ℕ) (first : Bool) (opened : ℕ) (met : Option ℕ) (step : Step) (done : Done) → HaveFrames (map (mark_line me) step.marks) → AreOwn me (lines_in me (turn_of first opened met step done))
turn_own me first opened met step (Stepped value) has = stepped_own me first opened met step step.access has
turn_own me first opened met step (Cleared found) has = all_append (is_own me) (access_lines me step.access step.value) (map (mark_line me) (marks_of (Clears step found))) (access_own me step.access step.value) (marks_if me (is_set found) step.marks (marks_own me step.marks has))
turn_own me first opened met step Rung has = marks_own me step.marks has

look_own : (me found : ℕ) → AreOwn me (lines_in me (Looks found))
look_own me found = found_own 64 me found

met_own : (me number : ℕ) (word : SessionWord) → AreOwn me (lines_in me (turn_met word number))
met_own me number Own = refl
met_own me number Others = refl

pub restart_own : (me : ℕ) → AreOwn me (lines_in me Restarts)
restart_own me = mine_and me true refl

-- A turn of the runner is a turn of its peer.

-- A call continues at an open place, and so it hasn't ended there.
goes_on : (tree new : CallTree) (step : Step) (config : EndConfig) (peer : Peer) → Goes tree step new → (opened_by config peer tree [] ≡ peer) × (has_ended tree ≡ false)
goes_on Ended new step config peer goes = absurd goes
goes_on (Does a marks rest) new step config peer goes = (refl, refl)
goes_on (Reads word marks rest) new step config peer goes = (refl, refl)

first_open : (config : EndConfig) (end : End) (call : Call) → is_open (first_place config end call) ≡ true
first_open config end calls.Tick = refl
first_open config end calls.Stop = refl
first_open config end (calls.Offer frame) = elim (calls.in_run end.handshake.phase) as (λ b. is_open (if b then ReadingUsedIndex (calls.pending_of config end frame) end.freed else NotInRun) ≡ true) [ true ↦ refl | false ↦ refl ]
first_open config end calls.Poll = elim (calls.in_run end.handshake.phase) as (λ b. is_open (if b then ReadingAvailIndex (length end.delivered) (is_last config end.found_none) else NotInRun) ≡ true) [ true ↦ refl | false ↦ refl ]

abbrev peer_at : End → CallTree → Auto → Peer
peer_at end left auto = record { end = end; left = left; waiting = []; driver = Chooses auto }

-- The call of a choice is opened.
with_is : PlacesFollowTrees → (config : EndConfig) (end : End) (auto : Auto) (c : automatic.Choice) → is_end c ≡ false →
    (with_choice config (peer_at end Ended auto) auto c ≡ peer_at end (remaining config (place_for config end Closed (call_chosen (Some c)))) (round_on auto (Some c))) × (is_open (place_for config end Closed (call_chosen (Some c))) ≡ true)
with_is follow config end auto automatic.ChoosesTick goes = (ap (λ t. peer_at end t (round_on auto (Some automatic.ChoosesTick))) (sym (follow.begins config end calls.Tick)), refl)
with_is follow config end auto (automatic.ChoosesOffer frame) goes = (ap (λ t. peer_at end t (round_on auto (Some (automatic.ChoosesOffer frame)))) (sym (follow.begins config end (calls.Offer frame))), first_open config end (calls.Offer frame))
with_is follow config end auto automatic.ChoosesPoll goes = (ap (λ t. peer_at end t (round_on auto (Some automatic.ChoosesPoll))) (sym (follow.begins config end calls.Poll)), first_open config end calls.Poll)
with_is follow config end auto automatic.IsFinished goes = absurd (cc)

choice_in : Runner → automatic.Choice
choice_in r = choice_of r.end.handshake.phase r.auto.round r.auto.frames r.auto.delivered r.auto.expected

-- The call of the turn is open.
pub turn_opens : PlacesFollowTrees → (config : EndConfig) (r : Runner) → has_finished r ≡ false →
    (opened config (peer_of config r) ≡ peer_at r.end (remaining config (place_in config r)) (round_on r.auto (chosen r))) × (is_open (place_in config r) ≡ true)
unfolding choice_in
turn_opens follow config r goes = by (is_open r.place) refl
  where
    by : (b : Bool) → is_open r.place ≡ b → (opened config (peer_of config r) ≡ peer_at r.end (remaining config (place_in config r)) (round_on r.auto (chosen r))) × (is_open (place_in config r) ≡ true)
    by true is = let none : chosen r ≡ None = ap (λ (b : Bool). if b then None else Some (choice_in r)) is in
        let here : place_in config r ≡ r.place = ap (λ (c : Option automatic.Choice). place_for config r.end r.place (call_chosen c)) none in (
          (goes_on (remaining config r.place) _ _ config (peer_of config r) (follow.comes config r.place 0 is)).0 ∙ (λ i. peer_at r.end (remaining config (sym here i)) (round_on r.auto (sym none i))),
          ap is_open here ∙ is,
        )
    by false is = let some : chosen r ≡ Some (choice_in r) = ap (λ (b : Bool). if b then None else Some (choice_in r)) is in let closed = shut_place r.place is in
        let with = with_is follow config r.end r.auto (choice_in r) (sym (ap finishes some) ∙ goes) in
        let here : place_for config r.end Closed (call_chosen (Some (choice_in r))) ≡ place_in config r = λ i. place_for config r.end (sym closed i) (call_chosen (sym some i)) in (
          ap (λ (p : Place). opened config (peer_at r.end (remaining config p) r.auto)) closed ∙ (with.0 ∙ (λ i. peer_at r.end (remaining config (here i)) (round_on r.auto (sym some i)))),
          ap is_open (sym here) ∙ with.1,
        )

step_takes : PlacesFollowTrees → (routes : List Route) (config : EndConfig) (storm : ℕ → Step) (r : Runner) (done : Done) → has_finished r ≡ false →
    TakesStep config storm (Chooses r.auto) (peer_of config r) (step_at config (place_in config r) (value_done done)) (peer_of config (stepped_on routes config r done))
step_takes follow routes config storm r done goes = let value = value_done done in let place = place_in config r in let opens = turn_opens follow config r goes in let left = remaining config (next_place config place value) in (
  left,
  subst (λ (x : Peer). Goes x.left (step_at config place value) left) (sym opens.0) (follow.comes config place value opens.1),
  ap (λ (x : Peer). stepped x (step_at config place value) left) (sym opens.0),
)

-- The own record has no open call if none is open.
first_place_is : PlacesFollowTrees → (config : EndConfig) (r : Runner) → has_ended (remaining config r.place) ≡ is_first r
first_place_is follow config r = by (is_open r.place) refl
  where
    by : (b : Bool) → is_open r.place ≡ b → has_ended (remaining config r.place) ≡ not (is_open r.place)
    by true is = (goes_on (remaining config r.place) _ _ config (peer_of config r) (follow.comes config r.place 0 is)).1 ∙ sym (ap not is)
    by false is = ap (λ (p : Place). has_ended (remaining config p)) (shut_place r.place is) ∙ sym (ap not is)

-- A look is next if the code says so.
due_tree : (config : EndConfig) (end : End) (tree : CallTree) (auto : Auto) → looks_due config end tree (Chooses auto) ≡ (if has_ended tree then (if sleeps config end auto then 64 else 1) else 0)
due_tree config end Ended auto = refl
due_tree config end (Does a marks rest) auto = refl
due_tree config end (Reads word marks rest) auto = refl

due_flip : (b : Bool) (n : ℕ) → (if not b then n else 0) ≡ (if b then 0 else n)
due_flip true n = refl
due_flip false n = refl

due_place : PlacesFollowTrees → (config : EndConfig) (r : Runner) → looks_due config r.end (remaining config r.place) (Chooses r.auto) ≡ due_of config r
due_place follow config r = due_tree config r.end (remaining config r.place) r.auto ∙ (ap (λ (b : Bool). if b then (if sleeps config r.end r.auto then 64 else 1) else 0) (first_place_is follow config r)
    ∙ due_flip (is_open r.place) (if sleeps config r.end r.auto then 64 else 1))

pub looks_same : PlacesFollowTrees → (config : EndConfig) (own : Route) (r : Runner) → looks_next config own (running_of config r) ≡ looks_now own (due_of config r) r.looks
looks_same follow config own r = ap (λ (n : ℕ). own.enabled && is_below r.looks n) (due_place follow config r)

-- A step opens a session if the numbers say so.
opened_on : (n : Numbers) (end : End) (a : Access) → (numbers_after n end a).log.opened ≡ n.log.opened + opens a
opened_on n end (access.Read word) = omega arith
opened_on n end (access.Write word value) = omega arith
opened_on n end (access.State state) = by (state == 2)
  where
    by : (b : Bool) → (if b then n.log.opened + 1 else n.log.opened) ≡ n.log.opened + (if b then 1 else 0)
    by true = refl
    by false = omega arith
opened_on n end (access.Ring target vector) = omega arith
opened_on n end access.Nothing = omega arith

abbrev step_of_turn : EndConfig → Runner → Done → Step
step_of_turn config r done = step_at config (place_in config r) (value_done done)

steps_same : (routes : List Route) (config : EndConfig) (r : Runner) (done : Done) → running_of config (stepped_on routes config r done) ≡ steps_on (running_of config r) (access_at config (place_in config r)) (peer_of config (stepped_on routes config r done))
steps_same routes config r done = λ i. record {
  peer = peer_of config (stepped_on routes config r done);
  looks = Some 0;
  ringing = false;
  opened = opened_on r.numbers r.end (access_at config (place_in config r)) i;
  met = None;
  spans = spent r.spans;
}

cleared_same : (routes : List Route) (config : EndConfig) (r : Runner) (found : ℕ) →
    running_of config (turned routes config r (Cleared found)) ≡ cleared_to found (running_of config r) (access_at config (place_in config r)) (peer_of config (stepped_on routes config r (Cleared found)))
cleared_same routes config r found = by (is_set found)
  where
    by : (b : Bool) → running_of config (if b then held_on routes config r (Cleared found) else stepped_on routes config r (Cleared found)) ≡
        (if b then record (running_of config r) { looks = Some 0; ringing = true; spans = spent r.spans } else steps_on (running_of config r) (access_at config (place_in config r)) (peer_of config (stepped_on routes config r (Cleared found))))
    by true = refl
    by false = steps_same routes config r (Cleared found)

-- The State that a step sets.
sets_is : (state : ℕ) (auto : Auto) (a : Access) → sets state (Chooses auto) a ≡ true → a ≡ access.State state
sets_is state auto (access.State value) is = ap access.State (eqb-true value state is)
sets_is state auto _ is = absurd (clash is)

sets_none : (state : ℕ) (auto : Auto) (a : Access) → ((value : ℕ) → a ≡ access.State value → (value == state) ≡ false) → sets state (Chooses auto) a ≡ false
sets_none state auto (access.State value) never = never value refl
sets_none state auto _ never = refl

steps_to : PlacesFollowTrees → (routes : List Route) (config : EndConfig) (storm : ℕ → Step) (r : Runner) (done : Done) (ringing guarded : Bool) → IsNoLook config routes r → has_finished r ≡ false → r.ringing ≡ ringing →
    is_guarded (doorbell_path_in routes (access_at config (place_in config r))) ≡ guarded → StepsTo config storm routes (running_of config r) ringing guarded (step_of_turn config r done) (peer_of config (stepped_on routes config r done))
steps_to follow routes config storm r done ringing guarded now goes rings guards = record {
  first = looks_same follow config (route_to routes config.me) r ∙ now.first;
  rings = rings;
  guards = guards;
  takes = step_takes follow routes config storm r done goes;
}

-- A step that is no doorbell at a peer in one-shot mode: the State step with 3, which has its
-- numbers, or another.
step_takes_turn : PlacesFollowTrees → (routes : List Route) (config : EndConfig) (storm : ℕ → Step) (r : Runner) (value : ℕ) → IsNoLook config routes r → has_finished r ≡ false → r.ringing ≡ false →
    is_guarded (doorbell_path_in routes (access_at config (place_in config r))) ≡ false → IsEntering config r value ⊎ IsMaking config r value → TakesTurn config storm routes (running_of config r) (turn_on config r (Stepped value)) (running_of config (stepped_on routes config r (Stepped value)))
step_takes_turn follow routes config storm r value now goes rings guards (inl e) = let step = step_of_turn config r (Stepped value) in let next = peer_of config (stepped_on routes config r (Stepped value)) in
    subst (λ (t : Turn). TakesTurn config storm routes (running_of config r) t (running_of config (stepped_on routes config r (Stepped value)))) (sym e.turn) (
      now.left,
      e.met,
      refl,
      (
        next,
        record {
          step_is = steps_to follow routes config storm r (Stepped value) false false now goes rings guards;
          sets_it = ap (λ (p : Place). sets 3 (Chooses r.auto) (access_at config p)) e.place;
        },
        steps_same routes config r (Stepped value),
      ),
    )
step_takes_turn follow routes config storm r value now goes rings guards (inr m) = let step = step_of_turn config r (Stepped value) in let next = peer_of config (stepped_on routes config r (Stepped value)) in
    subst (λ (t : Turn). TakesTurn config storm routes (running_of config r) t (running_of config (stepped_on routes config r (Stepped value)))) (sym m.turn) (
      now.left,
      (
        next,
        steps_to follow routes config storm r (Stepped value) false false now goes rings guards,
        (λ is. m.met (sets_is 2 r.auto (access_at config (place_in config r)) is)),
        sets_none 3 r.auto (access_at config (place_in config r)) m.never,
        steps_same routes config r (Stepped value),
        sym (first_place_is follow config r),
      ),
    )

turn_takes : PlacesFollowTrees → (routes : List Route) (config : EndConfig) (storm : ℕ → Step) (r : Runner) (done : Done) → HasMet r → due_word r.place r.met ≡ None → IsNoLook config routes r → has_finished r ≡ false →
    IsDone r.ringing (is_guarded (doorbell_path_in routes (access_at config (place_in config r)))) done → TakesTurn config storm routes (running_of config r) (turn_on config r done) (running_of config (turned routes config r done))
turn_takes follow routes config storm r (Stepped value) met due now goes is = step_takes_turn follow routes config storm r value now goes is.0 is.1 (stepped_kind config r value met due)
turn_takes follow routes config storm r (Cleared found) met due now goes is =
    (now.left, (peer_of config (stepped_on routes config r (Cleared found)), steps_to follow routes config storm r (Cleared found) false true now goes is.0 is.1, cleared_same routes config r found))
turn_takes follow routes config storm r Rung met due now goes is =
    (now.left, (peer_of config (stepped_on routes config r Rung), steps_to follow routes config storm r Rung true true now goes is.0 is.1, steps_same routes config r Rung))

-- A turn at a session word: the State step with 2 or with 3 comes next.

-- An open call continues.
pub goes_open : (r : Runner) → is_open r.place ≡ true → (has_finished r ≡ false) × (chosen r ≡ None)
unfolding choice_in
goes_open r is = let none : chosen r ≡ None = ap (λ (b : Bool). if b then None else Some (choice_in r)) is in (ap finishes none, none)

-- No ring is to come there.
still_set : (key : RunSetup) (me : ℕ) (routes : List Route) (r : Runner) (end : Engine) (state : ℕ) → RunnerRefines key me routes r end → r.place ≡ WritingState state → r.ringing ≡ false
still_set key me routes r end state refines place = by r.ringing refl
  where
    by : (b : Bool) → r.ringing ≡ b → r.ringing ≡ false
    by true e = absurd (subst (λ (p : Place). MayRingBy routes (access_at (config_in key me) p) r.actions) place (refines.rings e))
    by false e = e

comes_to_set : PlacesFollowTrees → (key : RunSetup) (me : ℕ) (routes : List Route) (r : Runner) (end : Engine) (state : ℕ) → RunnerRefines key me routes r end → IsNoLook (config_in key me) routes r → r.place ≡ WritingState state →
    (step : Step) × (next : Peer) × ComesToSet (config_in key me) (storm_in key me) routes (running_of (config_in key me) r) state step next
comes_to_set follow key me routes r end state refines now place = let config = config_in key me in let free = goes_open r (ap is_open place) in
    let here : place_in config r ≡ WritingState state = ap (λ (c : Option automatic.Choice). place_for config r.end r.place (call_chosen c)) free.1 ∙ place in (
      step_of_turn config r (Stepped 0),
      peer_of config (stepped_on routes config r (Stepped 0)),
      record {
        step_is = steps_to follow routes config (storm_in key me) r (Stepped 0) false false now free.0 (still_set key me routes r end state refines place) (ap (λ (p : Place). is_guarded (doorbell_path_in routes (access_at config p))) here);
        sets_it = ap (λ (p : Place). sets state (Chooses r.auto) (access_at config p)) here ∙ eq-eqb state state refl;
      },
    )

meet_takes : PlacesFollowTrees → (key : RunSetup) (me : ℕ) (routes : List Route) (r : Runner) (end : Engine) (word : SessionWord) (number : ℕ) → RunnerRefines key me routes r end → IsNoLook (config_in key me) routes r → due_word r.place r.met ≡ Some word →
    (word ≡ Own → number ≡ r.numbers.log.opened + 1) → TakesTurn (config_in key me) (storm_in key me) routes (running_of (config_in key me) r) (turn_met word number) (running_of (config_in key me) (met_on word r number))
meet_takes follow key me routes r end Own number refines now due is =
    (now.left, met_before Own r.place r.met due, is refl, comes_to_set follow key me routes r end 2 refines now (met_place Own r.place r.met due), refl)
meet_takes follow key me routes r end Others number refines now due is =
    (now.left, met_before Others r.place r.met due, comes_to_set follow key me routes r end 3 refines now (met_place Others r.place r.met due), refl)

-- A reset

pub finished_same : PlacesFollowTrees → (config : EndConfig) (r : Runner) → has_finished r ≡ is_finished (peer_of config r)
unfolding choice_in
finished_same follow config r = by (is_open r.place) refl
  where
    by : (b : Bool) → is_open r.place ≡ b → has_finished r ≡ is_finished (peer_of config r)
    by true is = ap (λ (b : Bool). finishes (if b then None else Some (choice_in r))) is ∙ sym (ap (λ (b : Bool). b && is_end (choice_in r)) (goes_on (remaining config r.place) _ _ config (peer_of config r) (follow.comes config r.place 0 is)).1)
    by false is = ap (λ (b : Bool). finishes (if b then None else Some (choice_in r))) is ∙ sym (ap (λ (p : Place). has_ended (remaining config p) && is_end (choice_in r)) (shut_place r.place is))

skips_none : (ringing : Bool) (auto : Auto) → Chooses auto ≡ skipped ringing (Chooses auto)
skips_none true auto = refl
skips_none false auto = refl

restarts_same : (config : EndConfig) (r : Runner) → running_of config (restarted_on r) ≡ restarts_to (running_of config r)
restarts_same config r = λ i. record {
  peer = was_reset (record (peer_of config r) { driver = skips_none r.ringing r.auto i });
  looks = Some 0;
  ringing = false;
  opened = r.numbers.log.opened;
  met = None;
  spans = later r.spans;
}

-- The effect of a turn on the words.

rung_shown : (doorbell_path : DoorbellPath) (target : ℕ) → shown (rung_by doorbell_path target) ≡ rung_by doorbell_path target
rung_shown Silent target = refl
rung_shown (Direct bit) target = refl
rung_shown (Guarded bit) target = refl

step_actions : (routes : List Route) (call : Option Call) (a : Access) (value : ℕ) → shown (taken_of routes call a value) ≡ acted_by routes a (value_given a value)
step_actions routes call (access.Ring target vector) value = rung_shown (doorbell_path_to routes target vector) target
step_actions routes call _ value = refl

cleared_shown : (a : Access) (found : ℕ) → shown (cleared_by a found) ≡ cleared_by a found
cleared_shown (access.Read word) found = refl
cleared_shown _ found = refl

entered_acted : (routes : List Route) (first : Bool) (opened other : ℕ) (step : Step) (b : Bool) → acted_by routes step.access step.value ≡ acted_in routes (if b then Enters step opened other else Makes first step)
entered_acted routes first opened other step true = refl
entered_acted routes first opened other step false = refl

stepped_acted : (routes : List Route) (first : Bool) (opened : ℕ) (met : Option ℕ) (step : Step) (a : Access) → acted_by routes step.access step.value ≡ acted_in routes (stepped_turn first opened met step a)
stepped_acted routes first opened (Some other) step (access.State state) = entered_acted routes first opened other step (state == 3)
stepped_acted routes first opened met step a = refl

done_actions : (routes : List Route) (call : Option Call) (first : Bool) (opened : ℕ) (met : Option ℕ) (a : Access) (done : Done) (marks : List Mark) →
    shown (done_of routes call a done) ≡ acted_in routes (turn_of first opened met (mark.step_of a (value_done done) marks) done)
done_actions routes call first opened met a (Stepped value) marks = step_actions routes call a value ∙ stepped_acted routes first opened met (mark.step_of a value marks) a
done_actions routes call first opened met a (Cleared found) marks = cleared_shown a found
done_actions routes call first opened met a Rung marks = step_actions routes call a 0

met_actions : (routes : List Route) (word : SessionWord) (number : ℕ) → shown (accessed (memory_op_met word number) ∷ []) ≡ acted_in routes (turn_met word number)
met_actions routes Own number = refl
met_actions routes Others number = refl

pub shown_on : (routes : List Route) (list acts : List (Action (MemoryOp CallAccess))) (turns : List Turn) (turn : Turn) → shown acts ≡ acted_in routes turn → shown list ≡ actions_in routes turns → shown (list ++ acts) ≡ actions_in routes (turns ++ turn ∷ [])
shown_on routes list acts turns turn is made = map-append (seen_by (memory_op_by observed_of)) list acts ∙ ((λ i. made i ++ is i) ∙ sym (actions_snoc routes turns turn))

pub actions_on : (routes : List Route) (list : List (Action (MemoryOp CallAccess))) (turns : List Turn) (call : Option Call) (first : Bool) (opened : ℕ) (met : Option ℕ) (a : Access) (done : Done) (marks : List Mark) → shown list ≡ actions_in routes turns →
    shown (list ++ done_of routes call a done) ≡ actions_in routes (turns ++ turn_of first opened met (mark.step_of a (value_done done) marks) done ∷ [])
actions_on routes list turns call first opened met a done marks made = shown_on routes list (done_of routes call a done) turns _ (done_actions routes call first opened met a done marks) made

-- The number of turns left

-- A turn of the span is one of all, and so is a reset.
pub all_spent : (spans : List ℕ) → has_turn_left spans ≡ true → all_turns spans ≡ all_turns (spent spans) + 1
all_spent [] left = absurd (clash left)
all_spent (zero ∷ spans) left = absurd (clash left)
all_spent (suc n ∷ spans) left = let more = sum_by-cons (λ (x : ℕ). x) (suc n) spans in let fewer = sum_by-cons (λ (x : ℕ). x) (suc n - 1) spans in omega arith

pub all_later : (spans : List ℕ) → IsSpanSpent spans → all_turns spans ≡ all_turns (later spans) + 1
all_later [] is = absurd is
all_later (zero ∷ []) is = absurd is
all_later (zero ∷ next ∷ spans) is = let all = sum_by-cons (λ (x : ℕ). x) zero (next ∷ spans) in omega arith
all_later (suc n ∷ spans) is = absurd is

-- A step opens one session at most.
opens_one : (a : Access) → opens a ≤ 1
opens_one (access.State state) = elim (state == 2) as (λ b. (if b then 1 else 0) ≤ 1) [ true ↦ omega arith | false ↦ omega arith ]
opens_one _ = omega arith

-- The facts of the turns so far.

-- The runner in a turn: its actions and its turns, and the rest.
record TurnsTo (key : RunSetup) (me : ℕ) (routes : List Route) (r next : Runner) : Type 0 where
  acts : List (Action (MemoryOp CallAccess))
  turn : Turn
  listed : next.actions ≡ r.actions ++ acts
  turned_to : next.turns ≡ r.turns ++ turn ∷ []
  shows : shown acts ≡ acted_in routes turn
  owned : AreOwn me (lines_in me turn)
  reports : StateMatches next (reader_after_lines (event_word (config_in key me)) (reader_of_lines (event_word (config_in key me)) (lines_of_turns me r.turns)) (lines_in me turn))
  takes : TakesTurn (config_in key me) (storm_in key me) routes (running_of (config_in key me) r) turn (running_of (config_in key me) next)

-- The turns of the runner are turns of its peer, and the actions of the runner are those of the
-- turns. The lines are the peer's own, and record the state of the runner.
pub record Far (key : RunSetup) (me : ℕ) (routes : List Route) (plan : Plan) (spans : List ℕ) (r : Runner) : Type 0 where
  pub takes : TakesTurns (config_in key me) (storm_in key me) routes (comes_to (automatic plan) spans) r.turns (running_of (config_in key me) r)
  pub made : shown r.actions ≡ actions_in routes r.turns
  pub own : AreOwn me (lines_of_turns me r.turns)
  pub recorded : StateMatches r (reader_of_lines (event_word (config_in key me)) (lines_of_turns me r.turns))

far_first : (key : RunSetup) (me : ℕ) (routes : List Route) (plan : Plan) (spans : List ℕ) → Far key me routes plan spans (initial_runner plan.frames plan.expected spans)
far_first key me routes plan spans = let first = initial_runner plan.frames plan.expected spans in record {
  takes = takes_none (config_in key me) (storm_in key me) routes (comes_to (automatic plan) spans);
  made = sym (actions_none routes);
  own = subst (AreOwn me) (sym (recorded_none me)) refl;
  recorded = subst (λ ls. StateMatches first (reader_of_lines (event_word (config_in key me)) ls)) (sym (recorded_none me)) (subst (StateMatches first) (sym (reports_none (event_word (config_in key me)) initial_reader)) (recorded_first plan.frames plan.expected spans));
}

far_on : (key : RunSetup) (me : ℕ) (routes : List Route) (plan : Plan) (spans : List ℕ) (r next : Runner) → TurnsTo key me routes r next → Far key me routes plan spans r → Far key me routes plan spans next
far_on key me routes plan spans r next g far = let config = config_in key me in let lines = ap (lines_of_turns me) g.turned_to ∙ recorded_snoc me r.turns g.turn in record {
  takes = subst (λ (ts : List Turn). TakesTurns config (storm_in key me) routes (comes_to (automatic plan) spans) ts (running_of config next)) (sym g.turned_to)
      (takes_snoc config (storm_in key me) routes r.turns g.turn (comes_to (automatic plan) spans) (running_of config r) (running_of config next) far.takes g.takes);
  made = ap shown g.listed ∙ (shown_on routes r.actions g.acts r.turns g.turn g.shows far.made ∙ ap (actions_in routes) (sym g.turned_to));
  own = subst (AreOwn me) (sym lines) (all_append (is_own me) (lines_of_turns me r.turns) (lines_in me g.turn) far.own g.owned);
  recorded = subst (λ ls. StateMatches next (reader_of_lines (event_word (config_in key me)) ls)) (sym lines) (subst (StateMatches next) (sym (reports_both (event_word (config_in key me)) initial_reader (lines_of_turns me r.turns) (lines_in me g.turn))) g.reports);
}

-- Whether the step is held or continues.
by_hold : (routes : List Route) (config : EndConfig) (r : Runner) (done : Done) (P : Runner → Type 0) → P (held_on routes config r done) → P (stepped_on routes config r done) → P (turned routes config r done)
by_hold routes config r done P held on = elim (awaits_ring done) as (λ b. P (if b then held_on routes config r done else stepped_on routes config r done)) [ true ↦ held | false ↦ on ]

pub turned_turns : (routes : List Route) (config : EndConfig) (r : Runner) (done : Done) → (turned routes config r done).turns ≡ r.turns ++ turn_on config r done ∷ []
turned_turns routes config r done = by_hold routes config r done (λ next. next.turns ≡ r.turns ++ turn_on config r done ∷ []) refl refl

pub turned_spans : (routes : List Route) (config : EndConfig) (r : Runner) (done : Done) → (turned routes config r done).spans ≡ spent r.spans
turned_spans routes config r done = by_hold routes config r done (λ next. next.spans ≡ spent r.spans) refl refl

turned_actions : (routes : List Route) (config : EndConfig) (r : Runner) (done : Done) → (turned routes config r done).actions ≡ r.actions ++ done_of routes (call_chosen (chosen r)) (access_at config (place_in config r)) done
turned_actions routes config r done = by_hold routes config r done (λ next. next.actions ≡ r.actions ++ done_of routes (call_chosen (chosen r)) (access_at config (place_in config r)) done) refl refl

turned_opens : (routes : List Route) (config : EndConfig) (r : Runner) (done : Done) → (turned routes config r done).numbers.log.opened ≤ r.numbers.log.opened + 1
turned_opens routes config r done = by_hold routes config r done (λ next. next.numbers.log.opened ≤ r.numbers.log.opened + 1) (omega arith)
    (let is = opened_on r.numbers r.end (access_at config (place_in config r)) in let most = opens_one (access_at config (place_in config r)) in omega arith)

-- Each turn goes so.
goes_so : PlacesFollowTrees → (key : RunSetup) (me : ℕ) (routes : List Route) (r next : Runner) (end : Engine) → RunnerRefines key me routes r end → StateMatches r (reader_of_lines (event_word (config_in key me)) (lines_of_turns me r.turns)) → GoesOn (config_in key me) routes r next → TurnsTo key me routes r next
goes_so follow key me routes r next end refines recorded (by_look found left now) = let config = config_in key me in record {
  acts = looked found ∷ [];
  turn = Looks found;
  listed = refl;
  turned_to = refl;
  shows = refl;
  owned = look_own me found;
  reports = looked_recorded me (event_word (config_in key me)) found r (reader_of_lines (event_word (config_in key me)) (lines_of_turns me r.turns)) recorded;
  takes = (left, looks_same follow config (route_to routes me) r ∙ now, refl);
}
goes_so follow key me routes r next end refines recorded (by_word word number now due is) = record {
  acts = accessed (memory_op_met word number) ∷ [];
  turn = turn_met word number;
  listed = refl;
  turned_to = refl;
  shows = met_actions routes word number;
  owned = met_own me number word;
  reports = met_recorded me (event_word (config_in key me)) number word r (reader_of_lines (event_word (config_in key me)) (lines_of_turns me r.turns)) recorded;
  takes = meet_takes follow key me routes r end word number refines now due is;
}
goes_so follow key me routes r next end refines recorded (by_step done now due goes is bytes) = let config = config_in key me in let place = place_in config r in record {
  acts = done_of routes (call_chosen (chosen r)) (access_at config place) done;
  turn = turn_on config r done;
  listed = turned_actions routes config r done;
  turned_to = turned_turns routes config r done;
  shows = done_actions routes (call_chosen (chosen r)) (is_first r) r.numbers.log.opened r.met (access_at config place) done (marks_at config place (value_done done));
  owned = turn_own me (is_first r) r.numbers.log.opened r.met (step_of_turn config r done) done (marks_frames me config place (value_done done) bytes);
  reports = turned_recorded routes config r done (reader_of_lines (event_word (config_in key me)) (lines_of_turns me r.turns)) recorded is refines.met due;
  takes = turn_takes follow routes config (storm_in key me) r done refines.met due now goes is;
}
goes_so follow key me routes r next end refines recorded (by_reset over goes) = let config = config_in key me in record {
  acts = accessed restarted ∷ [];
  turn = Restarts;
  listed = refl;
  turned_to = refl;
  shows = refl;
  owned = restart_own me;
  reports = restarted_recorded me (event_word (config_in key me)) r (reader_of_lines (event_word (config_in key me)) (lines_of_turns me r.turns)) recorded;
  takes = (over, sym (finished_same follow config r) ∙ goes, restarts_same config r);
}

-- Wherever the runner comes.
pub far_of : PlacesFollowTrees → (key : RunSetup) (me : ℕ) (routes : List Route) (plan : Plan) (spans : List ℕ) (r : Runner) → Trajectory key me routes plan spans r → Far key me routes plan spans r
far_of follow key me routes plan spans r starts = far_first key me routes plan spans
far_of follow key me routes plan spans r (follows before next end comes refines on) = let far = far_of follow key me routes plan spans before comes in
    far_on key me routes plan spans before next (goes_so follow key me routes before next end refines far.recorded on) far

-- The number of turns taken

-- Their number is that of all turns except those that are left, and at least one for each session.
pub record IsCounted (spans : List ℕ) (r : Runner) : Type 0 where
  pub count : length r.turns + all_turns r.spans ≡ all_turns spans
  pub opened : r.numbers.log.opened ≤ length r.turns

pub met_opened : (word : SessionWord) (n : Numbers) (number : ℕ) → (numbers_met word n number).log.opened ≡ n.log.opened
met_opened Own n number = refl
met_opened Others n number = refl

counted_on : (spans : List ℕ) (r next : Runner) (turn : Turn) → IsCounted spans r → next.turns ≡ r.turns ++ turn ∷ [] → all_turns r.spans ≡ all_turns next.spans + 1 → next.numbers.log.opened ≤ r.numbers.log.opened + 1 → IsCounted spans next
counted_on spans r next turn is grows leaves one = let size = ap length grows ∙ length-append r.turns (turn ∷ []) in let count = is.count in let opened' = is.opened in record { count = omega arith; opened = omega arith }

counted_so : (config : EndConfig) (routes : List Route) (spans : List ℕ) (r next : Runner) → GoesOn config routes r next → IsCounted spans r → IsCounted spans next
counted_so config routes spans r next (by_look found left now) is = counted_on spans r next (Looks found) is refl (all_spent r.spans left) (omega arith)
counted_so config routes spans r next (by_word word number now due number_is) is = let same = met_opened word r.numbers number in counted_on spans r next (turn_met word number) is refl (all_spent r.spans now.left) (omega arith)
counted_so config routes spans r next (by_step done now due goes done_is bytes) is =
    counted_on spans r next (turn_on config r done) is (turned_turns routes config r done) (all_spent r.spans now.left ∙ ap (λ s. all_turns s + 1) (sym (turned_spans routes config r done))) (turned_opens routes config r done)
counted_so config routes spans r next (by_reset over goes) is = counted_on spans r next Restarts is refl (all_later r.spans over) (omega arith)

pub counted_of : (key : RunSetup) (me : ℕ) (routes : List Route) (plan : Plan) (spans : List ℕ) (r : Runner) → Trajectory key me routes plan spans r → IsCounted spans r
counted_of key me routes plan spans r starts = record { count = omega arith; opened = omega arith }
counted_of key me routes plan spans r (follows before next end comes refines on) = counted_so (config_in key me) routes spans before next on (counted_of key me routes plan spans before comes)

-- The end

ends_choice : (answer : Choice) (frames : List (List ℕ)) (c : automatic.Choice) → IsChoice answer frames c → is_end c ≡ is_end_choice (Some answer)
ends_choice Tick frames c is = ap is_end is
ends_choice Offer [] c is = absurd is
ends_choice Offer (frame ∷ frames) c is = ap is_end is
ends_choice Poll frames c is = ap is_end is
ends_choice Finished frames c is = ap is_end is

pub ends_where : (answer : Option Choice) (frames : List (List ℕ)) (c : Option automatic.Choice) → Matches answer frames c → finishes c ≡ is_end_choice answer
ends_where None frames None is = refl
ends_where None frames (Some c) is = absurd is
ends_where (Some answer) frames None is = absurd is
ends_where (Some answer) frames (Some c) is = ends_choice answer frames c is

-- A call is open once the chosen call is opened, if the runner isn't finished.
pub opened_busy : (answer : Option Choice) (r : Runner) (frames : List (List ℕ)) (end : Engine) → Matches answer frames (chosen r) → has_finished r ≡ false → is_busy end ≡ not (is_end_choice answer) → is_busy end ≡ true
opened_busy answer r frames end matches goes opens = opens ∙ ap not (sym (ends_where answer frames (chosen r) matches) ∙ goes)

-- At the start.
pub there_first : (key : RunSetup) (me : ℕ) (routes : List Route) (pass : PassView) (plan : Plan) (spans : List ℕ) (end : Engine) → pass.from ≡ me → pass.lists ≡ [] ∷ [] → MayBeAuto key me plan end →
    IsThere key me routes (initial_runner plan.frames plan.expected spans) pass end
there_first key me routes pass plan spans end from lists may = record {
  refines = record {
    refines = may.refines;
    derived_state = ap (derived_state key me) accesses_none ∙ (standing_none key me ∙ ap (λ (p : Place). record initial_derived_state { place = p }) (sym settled_closed));
    bytes = tt;
    frames = may.frames;
    rings = λ e. absurd (clash e);
    met = record { stored = λ number place met. absurd (cc); loaded = λ number place met. absurd (cc) };
  };
  from = from;
  lists = lists;
}

pub plan_first : (plan : Plan) → plan ≡ record (fresh_plan plan.expected) { frames = plan.frames } → IsPlanOf plan (start_auto plan.frames plan.expected)
plan_first plan is = record {
  frames = refl;
  expected = refl;
  delivered = let d : plan.delivered ≡ 0 = ap (λ (p : Plan). p.delivered) is in let m : min 0 plan.expected ≡ 0 = grind arith in d ∙ sym m;
  round = ap (λ (p : Plan). p.round) is;
}

pub lent : (h : PassView) (me : ℕ) (l : List (Action (MemoryOp CallAccess))) → h.from ≡ me → h.lists ≡ l ∷ [] → h ≡ held h.table_id me (l ∷ [])
lent h me l from lists = λ k. record { table_id = h.table_id; from = from k; lists = lists k }

-- If no memory operation left the peer with the mark of a refusal, its lines record no refusal.
pub refused_of : PlacesFollowTrees → (key : RunSetup) (me : ℕ) (routes : List Route) (plan : Plan) (spans : List ℕ) (r : Runner) (end : Engine) → Trajectory key me routes plan spans r → RunnerRefines key me routes r end →
    NeverMarked key me (accesses_in r.actions) → list_any refuses (lines_of_turns me r.turns) ≡ false
refused_of follow key me routes plan spans r end starts refines = none_refused key me _
refused_of follow key me routes plan spans r end (follows before next was comes there on) refines = let config = config_in key me in let far = far_of follow key me routes plan spans before comes in
    let g = goes_so follow key me routes before next was there far.recorded on in
    subst (λ (ts : List Turn). NeverMarked key me (accesses_in next.actions) → list_any refuses (lines_of_turns me ts) ≡ false) (sym g.turned_to)
    (refused_more key config (storm_in key me) (λ x. refl) routes me before.turns g.turn (running_of config before) (running_of config next) (accesses_in before.actions) (accesses_in next.actions) (accesses_in g.acts)
    (ap accesses_in g.listed ∙ accesses_both before.actions g.acts) g.takes (ap (λ (x : DerivedState). x.end) refines.derived_state) (refused_of follow key me routes plan spans before was comes there))

abbrev pub did : (key : RunSetup) (me : ℕ) (routes : List Route) (plan : Plan) (spans : List ℕ) (r : Runner) (end : Engine) → Far key me routes plan spans r → RunnerRefines key me routes r end → (NeverMarked key me (accesses_in r.actions) → list_any refuses (lines_of_turns me r.turns) ≡ false) → Did key routes me (automatic plan) spans r.actions
did key me routes plan spans r end far refines refused = record {
  turns = r.turns;
  after = running_of (config_in key me) r;
  takes = far.takes;
  made = far.made;
  left = λ honest. record {
    end = ap (λ (s : DerivedState). s.end) refines.derived_state;
    recorded = subst (λ (s : DerivedState). ReaderMatches s (reader_of_lines (event_word (config_in key me)) (lines_of_turns me r.turns))) (sym refines.derived_state) (recorded_is r (reader_of_lines (event_word (config_in key me)) (lines_of_turns me r.turns)) far.recorded);
    refused = refused;
  };
}

-- An error says nothing of an answer.
pub err_free : {A : Type 0} → (P : A → Type 0) (r : Result A NoMemory) → IsErr r → IfOk r P
err_free P (Ok x) is = absurd (cc)
err_free P (Err e) is = tt
