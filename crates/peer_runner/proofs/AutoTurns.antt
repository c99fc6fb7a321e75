-- A turn of an automatic peer.
use Rattle.std.proofs.Common.{◌≡◌, ◌≢◌, ℕ, ◌+◌, ◌≤◌, ◌⊎◌, inl, inr, ⊎_elim, All, Bool, true, false, List, [], ◌∷◌, ◌++◌, length, refl, sym, ap, ◌∙◌, subst, arith, append-nil, ne_eqb, eqb-true}
use mathlib.Core.Logic.{dite}
use native.Mathlib.Decide.{ℕ_discrete}
use Rattle.std.specs.Prelude.{Option, Some, None, ◌==◌, is_some, not, map, if◌then◌else◌}
use Rattle.split_ring.specs.declared.steps.Access.{Access}
use Rattle.split_ring.specs.declared.steps.Access.TheVariants as access
use Rattle.split_ring.specs.declared.steps.Note.{Note}
use Rattle.call_grammar.specs.Steps.{Mark, Step, value_given, step_of}
use Rattle.call_grammar.specs.Ends.{End, after_reset}
use Rattle.call_grammar.specs.Calls.{EndConfig, Call}
use Rattle.call_grammar.specs.Calls as calls
use Rattle.call_grammar.specs.Automatic.{Anew, choice_of}
use Rattle.call_grammar.specs.Automatic as automatic
use Rattle.call_grammar.specs.Polls.{is_last}
use Rattle.call_grammar.specs.Places.{Place, Closed, WritingState, Refusing, NotInRun, RingingOffer, RingingPoll, ReadingUsedIndex, ReadingAvailIndex, first_place, access_at, next_place, step_at, marks_at, is_open}
use Rattle.call_grammar.proofs.ReplaysAreCalls.{shut_place}
use Rattle.link_endpoint.specs.Engine.{Engine, offered, delivered}
use Rattle.link_endpoint.specs.Refinement.{RefinesAt, Takes, marks_between}
use Rattle.link_endpoint.specs.Plan.{Plan, Closes, call_of, call_chosen_by, place_for}
use Rattle.link_endpoint.specs.declared.auto.Choice.{Choice}
use Rattle.link_endpoint.specs.declared.auto.Choice.TheVariants.{Tick, Offer, Poll, Finished}
use Rattle.lawful_history.specs.declared.line.Line.TheVariants as line
use Rattle.lawful_history.specs.EventRecords.{access_lines, mark_line}
use Rattle.lawful_history.specs.Peers.{Auto, counted_all}
use Rattle.pair_sessions.specs.Numbers.{Numbers, numbers_after}
use Rattle.step_lines.specs.Plans.{IsPlanOf}
use Rattle.step_lines.specs.Places.{HasFrames}
use Rattle.step_lines.proofs.FramesOfMarks.{first_frames, next_frames}
use Rattle.step_lines.proofs.NotesAreMarks.{busy_next, marks_now}
use Rattle.shared_words.specs.declared.run_setup.RunSetup.{RunSetup}
use Rattle.shared_words.specs.PassView.{PassView}
use Rattle.shared_words.specs.RunSetups.{config_in, honest_of}
use Rattle.shared_words.specs.DerivedStates.{CallAccess, MemoryOp, called, numbered, carried, restarted, call_access, Wake, DerivedState, begun_if, moved, settled_place, settled, after_access, after_memory_op, derived_state}
use Rattle.shared_words.specs.Actions.{Action, accessed, looked, accesses_in}
use Rattle.shared_words.specs.Passes.{added, held}
use Rattle.doorbell_irq.specs.declared.route.Route.{Route}
use Rattle.peer_runner.specs.declared.doorbell_paths.DoorbellPath.{DoorbellPath}
use Rattle.peer_runner.specs.declared.doorbell_paths.DoorbellPath.TheVariants.{Silent, Direct, Guarded}
use Rattle.peer_runner.specs.declared.doorbell_paths.Done.{Done}
use Rattle.peer_runner.specs.declared.doorbell_paths.Done.TheVariants.{Stepped, Cleared, Rung}
use Rattle.peer_runner.specs.DoorbellPaths.{doorbell_path_to, is_guarded, doorbell_path_in, rung_by}
use Rattle.shared_words.specs.Rules.{front}
use Rattle.peer_runner.specs.Turns.{Makes, Clears, Enters, opens, is_end, cleared_by, marks_of, lines_in}
use Rattle.peer_runner.specs.Runners.{Runner, IsFrame, chosen, round_on, call_chosen, finishes, has_finished, place_in, touches, taken_of, made, value_done, done_of, stepped_turn, turn_of, stepped_lines, done_lines, IsDone, awaits_ring, MayRingBy, looked_on, due_word, state_for, memory_op_met, met_on, restarted_on, is_first, turn_on, held_on, stepped_on, turned, lines_on, derived_state_of, HasMet, RunnerRefines, IsThere, IsAutoPeer, Turns}
use Rattle.shared_words.specs.declared.sessions.SessionWord.{SessionWord}
use Rattle.shared_words.specs.declared.sessions.SessionWord.TheVariants.{Own, Others}
use Rattle.peer_runner.specs.declared.turns.AutoPeer.{AutoPeer}
use Rattle.shared_words.proofs.FoldOfOperations.{standing_snoc, stand_honest}
use Rattle.shared_words.proofs.Actions.{accesses_none, accesses_both, accesses_snoc}
use Rattle.shared_words.proofs.LinkOfSetup.{clash}
use Rattle.peer_runner.proofs.AutoChoices.{recorded_call, untouching, settled_closed, Frames, first_frame, offered_counted, round_frames, at_none, settled_same, IsMet, met_in}

-- The call that is chosen offers a frame that may be offered.
abbrev Fits : ℕ → calls.Call → Type 0
Fits mtu (calls.Offer frame) = IsFrame mtu frame
Fits mtu call = Unit {0}

abbrev FitsIf : ℕ → Option calls.Call → Type 0
FitsIf mtu None = Unit {0}
FitsIf mtu (Some call) = Fits mtu call

touched : (routes : List Route) (call : Option Call) (a : Access) (value : ℕ) → touches a ≡ true → taken_of routes call a value ≡ accessed (called (call_access call a value)) ∷ []
touched routes call (access.Read word) value is = refl
touched routes call (access.Write word written) value is = refl
touched routes call (access.State state) value is = refl
touched routes call (access.Ring target vector) value is = absurd (cc)
touched routes call access.Nothing value is = absurd (cc)

-- A doorbell makes no access to the region.
rung_none : (doorbell_path : DoorbellPath) (target : ℕ) → accesses_in {A = MemoryOp CallAccess} (rung_by doorbell_path target) ≡ []
unfolding accesses_in
rung_none Silent target = refl
rung_none (Direct bit) target = refl
rung_none (Guarded bit) target = refl

taken_none : (routes : List Route) (call : Option Call) (a : Access) (value : ℕ) → touches a ≡ false → accesses_in (taken_of routes call a value) ≡ []
taken_none routes call (access.Read word) value is = absurd (cc)
taken_none routes call (access.Write word written) value is = absurd (cc)
taken_none routes call (access.State state) value is = absurd (cc)
taken_none routes call (access.Ring target vector) value is = rung_none (doorbell_path_to routes target vector) target
taken_none routes call access.Nothing value is = accesses_none

cleared_none : (a : Access) (found : ℕ) → accesses_in {A = MemoryOp CallAccess} (cleared_by a found) ≡ []
unfolding accesses_in
cleared_none (access.Read word) found = refl
cleared_none _ found = refl

not_touched : (routes : List Route) (call : Option Call) (a : Access) (done : Done) → touches a ≡ false → accesses_in (done_of routes call a done) ≡ []
not_touched routes call a (Stepped value) is = taken_none routes call a value is
not_touched routes call a (Cleared found) is = cleared_none a found
not_touched routes call a Rung is = taken_none routes call a 0 is

-- A doorbell alone is done in two turns.
guarded_still : (routes : List Route) (a : Access) → is_guarded (doorbell_path_in routes a) ≡ true → touches a ≡ false
guarded_still routes (access.Read word) is = absurd (cc)
guarded_still routes (access.Write word written) is = absurd (cc)
guarded_still routes (access.State state) is = absurd (cc)
guarded_still routes (access.Ring target vector) is = refl
guarded_still routes access.Nothing is = refl

touch_done : (routes : List Route) (ringing : Bool) (a : Access) (done : Done) → touches a ≡ true → IsDone ringing (is_guarded (doorbell_path_in routes a)) done → done ≡ Stepped (value_done done)
touch_done routes ringing a (Stepped value) touch is = refl
touch_done routes ringing a (Cleared found) touch is = absurd (clash (sym (guarded_still routes a is.1) ∙ touch))
touch_done routes ringing a Rung touch is = absurd (clash (sym (guarded_still routes a is.1) ∙ touch))

pub held_guards : (ringing guarded : Bool) (done : Done) → IsDone ringing guarded done → awaits_ring done ≡ true → guarded ≡ true
held_guards ringing guarded (Stepped value) is held = absurd (clash held)
held_guards ringing guarded (Cleared found) is held = is.1
held_guards ringing guarded Rung is held = absurd (clash held)

-- If the place of a turn is settled as closed, so was the place before.
settled_before : (config : EndConfig) (r : Runner) (b : Bool) → is_open r.place ≡ b → settled_place (place_in config r) ≡ Closed → settled_place r.place ≡ Closed
settled_before config r false is closed = ap settled_place (shut_place r.place is) ∙ settled_closed
settled_before config r true is closed =
    let none : call_chosen (chosen r) ≡ None = ap (λ (b : Bool). call_chosen (if b then None else Some (choice_of r.end.handshake.phase r.auto.round r.auto.frames r.auto.delivered r.auto.expected))) is in
    ap settled_place (sym (at_none config r.end r.place (call_chosen (chosen r)) none)) ∙ closed

by_touch : {P : Type 0} → (b : Bool) → (b ≡ true → P) → (b ≡ false → P) → P
by_touch true f g = f refl
by_touch false f g = g refl

-- The marks of a doorbell are at the end of its step.
cleared_marks : (step : Step) (found : ℕ) → awaits_ring (Cleared found) ≡ false → marks_of (Clears step found) ≡ step.marks
cleared_marks step found is = ap (λ (b : Bool). if b then [] else step.marks) is

held_marks : (step : Step) (found : ℕ) → awaits_ring (Cleared found) ≡ true → marks_of (Clears step found) ≡ []
held_marks step found is = ap (λ (b : Bool). if b then [] else step.marks) is

abbrev value_in : EndConfig → Runner → Done → Step
value_in config r done = step_at config (place_in config r) (value_done done)

abbrev at : End → Place → Numbers → Wake → DerivedState
at end place numbers wake = record { end = end; place = place; numbers = numbers; wake = wake }

-- The derived state after the turn.
begun_at : (config : EndConfig) (r : Runner) (call : Option Call) (place : Place) → (begun_if config (derived_state_of r) call).place ≡ place → begun_if config (derived_state_of r) call ≡ at r.end place r.numbers r.wake
begun_at config r None place is = ap (λ (p : Place). at r.end p r.numbers r.wake) is
begun_at config r (Some call) place is = ap (λ (p : Place). at r.end p r.numbers r.wake) is

after_touch : (routes : List Route) (config : EndConfig) (r : Runner) (value : ℕ) → touches (access_at config (place_in config r)) ≡ true →
    after_access config (derived_state_of r) (call_access (call_chosen (chosen r)) (access_at config (place_in config r)) value) ≡ derived_state_of (stepped_on routes config r (Stepped value))
after_touch routes config r value touch = let place = place_in config r in let here = begun_at config r (call_chosen (chosen r)) place (settled_same config r touch) in
    ap (λ (s : DerivedState). settled (moved config s value)) here

-- An access to the region leads the peer to the state after the turn.
stands_touched : (key : RunSetup) (me : ℕ) (routes : List Route) (value : ℕ) (r : Runner) → honest_of key me ≡ true → touches (access_at (config_in key me) (place_in (config_in key me) r)) ≡ true → derived_state key me (accesses_in r.actions) ≡ derived_state_of r →
    derived_state key me (accesses_in (stepped_on routes (config_in key me) r (Stepped value)).actions) ≡ derived_state_of (stepped_on routes (config_in key me) r (Stepped value))
stands_touched key me routes value r hp touch refines = let config = config_in key me in let a = access_at config (place_in config r) in let call = call_chosen (chosen r) in
    ap (λ l. derived_state key me (accesses_in (r.actions ++ l))) (touched routes call a value touch) ∙ (ap (derived_state key me) (accesses_snoc r.actions (accessed (called (call_access call a value)))) ∙ (standing_snoc key me (accesses_in r.actions) (called (call_access call a value))
    ∙ (stand_honest key me (derived_state key me (accesses_in r.actions)) (called (call_access call a value)) hp ∙ (ap (λ (s : DerivedState). after_access config s (call_access call a value)) refines ∙ after_touch routes config r value touch))))

-- An action that is no access to the region leaves the region as it is.
stays_standing : (key : RunSetup) (me : ℕ) (r : Runner) (acts : List (Action (MemoryOp CallAccess))) → accesses_in acts ≡ [] → derived_state key me (accesses_in r.actions) ≡ derived_state_of r → derived_state key me (accesses_in (r.actions ++ acts)) ≡ derived_state_of r
stays_standing key me r acts none refines = ap (derived_state key me) (accesses_both r.actions acts ∙ (ap (λ l. accesses_in r.actions ++ l) none ∙ append-nil (accesses_in r.actions))) ∙ refines

-- The longer list leads the peer to the state after the turn.
stands_stepped : (key : RunSetup) (me : ℕ) (routes : List Route) (ringing : Bool) (done : Done) (r : Runner) → honest_of key me ≡ true → is_open (place_in (config_in key me) r) ≡ true → IsDone ringing (is_guarded (doorbell_path_in routes (access_at (config_in key me) (place_in (config_in key me) r)))) done →
    awaits_ring done ≡ false → derived_state key me (accesses_in r.actions) ≡ derived_state_of r → derived_state key me (accesses_in (stepped_on routes (config_in key me) r done).actions) ≡ derived_state_of (stepped_on routes (config_in key me) r done)
stands_stepped key me routes ringing done r hp opens is goes refines = let config = config_in key me in let a = access_at config (place_in config r) in let call = call_chosen (chosen r) in let place = place_in config r in
    let P : Done → Type 0 = λ d. derived_state key me (accesses_in (stepped_on routes config r d).actions) ≡ derived_state_of (stepped_on routes config r d) in
    by_touch (touches a)
    (λ t. subst P (sym (touch_done routes ringing a done t is)) (stands_touched key me routes (value_done done) r hp t refines))
    (λ f. let u = untouching config r.end place (value_done done) opens f in
    let spot : settled_place r.place ≡ settled_place (next_place config place (value_done done)) = settled_before config r (is_open r.place) refl u.settles ∙ sym (ap settled_place u.next ∙ settled_closed) in
    stays_standing key me r (done_of routes call a done) (not_touched routes call a done f) refines
    ∙ (λ i. at (sym u.end_is i) (spot i) (sym (u.numbered r.numbers) i) (sym (u.wakes r.numbers.log r.wake) i)))

stands_held : (key : RunSetup) (me : ℕ) (routes : List Route) (done : Done) (r : Runner) → touches (access_at (config_in key me) (place_in (config_in key me) r)) ≡ false → awaits_ring done ≡ true → derived_state key me (accesses_in r.actions) ≡ derived_state_of r →
    derived_state key me (accesses_in (held_on routes (config_in key me) r done).actions) ≡ derived_state_of (held_on routes (config_in key me) r done)
stands_held key me routes done r still held refines = let config = config_in key me in let a = access_at config (place_in config r) in let call = call_chosen (chosen r) in
    stays_standing key me r (done_of routes call a done) (not_touched routes call a done still) refines

stands_looked : (key : RunSetup) (me : ℕ) (r : Runner) (found : ℕ) → derived_state key me (accesses_in r.actions) ≡ derived_state_of r → derived_state key me (accesses_in (looked_on r found).actions) ≡ derived_state_of (looked_on r found)
stands_looked key me r found refines = stays_standing key me r (looked found ∷ []) (looked_none found) refines
  where
    looked_none : (found : ℕ) → accesses_in {A = MemoryOp CallAccess} (looked found ∷ []) ≡ []
    looked_none found = accesses_snoc [] (looked found) ∙ ap (λ l. l ++ []) accesses_none

-- The actions of a peer outside its calls leave it in the runner's state.
stands_snoc : (key : RunSetup) (me : ℕ) (r : Runner) (d : MemoryOp CallAccess) → honest_of key me ≡ true → derived_state key me (accesses_in r.actions) ≡ derived_state_of r → derived_state key me (accesses_in (r.actions ++ accessed d ∷ [])) ≡ after_memory_op (config_in key me) (derived_state_of r) d
stands_snoc key me r d hp refines = ap (derived_state key me) (accesses_snoc r.actions (accessed d)) ∙ (standing_snoc key me (accesses_in r.actions) d
    ∙ (stand_honest key me (derived_state key me (accesses_in r.actions)) d hp ∙ ap (λ (s : DerivedState). after_memory_op (config_in key me) s d) refines))

stands_met : (key : RunSetup) (me : ℕ) (word : SessionWord) (r : Runner) (number : ℕ) → honest_of key me ≡ true → derived_state key me (accesses_in r.actions) ≡ derived_state_of r → derived_state key me (accesses_in (met_on word r number).actions) ≡ derived_state_of (met_on word r number)
stands_met key me Own r number hp refines = stands_snoc key me r (numbered number) hp refines
stands_met key me Others r number hp refines = stands_snoc key me r (carried number) hp refines

stands_restarted : (key : RunSetup) (me : ℕ) (r : Runner) → honest_of key me ≡ true → derived_state key me (accesses_in r.actions) ≡ derived_state_of r → derived_state key me (accesses_in (restarted_on r).actions) ≡ derived_state_of (restarted_on r)
stands_restarted key me r hp refines = let after = restarted_on r in stands_snoc key me r restarted hp refines ∙ (λ i. at after.end (sym settled_closed i) after.numbers after.wake)

-- The pass after a turn

rung_one : (doorbell_path : DoorbellPath) (target : ℕ) → length {A = Action (MemoryOp CallAccess)} (rung_by doorbell_path target) ≤ 1
rung_one Silent target = omega arith
rung_one (Direct bit) target = omega arith
rung_one (Guarded bit) target = omega arith

taken_one : (routes : List Route) (call : Option Call) (a : Access) (value : ℕ) → length (taken_of routes call a value) ≤ 1
taken_one routes call (access.Ring target vector) value = rung_one (doorbell_path_to routes target vector) target
taken_one routes call _ value = omega arith

pub done_one : (routes : List Route) (call : Option Call) (a : Access) (done : Done) → length (done_of routes call a done) ≤ 1
done_one routes call a (Stepped value) = taken_one routes call a value
done_one routes call (access.Ring target vector) (Cleared found) = omega arith
done_one routes call (access.Ring target vector) Rung = rung_one (doorbell_path_to routes target vector) target
done_one routes call _ _ = omega arith

made_lists : (h : PassView) (l acts : List (Action (MemoryOp CallAccess))) → length acts ≤ 1 → h.lists ≡ l ∷ [] → (made h acts).lists ≡ (l ++ acts) ∷ []
made_lists h l [] one is = is ∙ ap (λ m. m ∷ []) (sym (append-nil l))
made_lists h l (t ∷ []) one is = ap (λ ls. (added (record h { lists = ls }) t).lists) is
made_lists h l (t ∷ u ∷ acts) one is = absurd (omega arith)

pub made_from : (h : PassView) (acts : List (Action (MemoryOp CallAccess))) → (made h acts).from ≡ h.from
made_from h [] = refl
made_from h (t ∷ acts) = refl

pub made_id : (h : PassView) (acts : List (Action (MemoryOp CallAccess))) → (made h acts).table_id ≡ h.table_id
made_id h [] = refl
made_id h (t ∷ acts) = refl

pub made_held : (h : PassView) (l acts : List (Action (MemoryOp CallAccess))) → length acts ≤ 1 → h.lists ≡ l ∷ [] → made h acts ≡ held h.table_id h.from ((l ++ acts) ∷ [])
made_held h l acts one is = λ i. record { table_id = made_id h acts i; from = made_from h acts i; lists = made_lists h l acts one is i }

-- The frames of the place in a turn.
call_bytes : (config : EndConfig) (end : End) (call : calls.Call) (mtu : ℕ) → config.sizes.mtu ≡ mtu → Fits mtu call → HasFrames (first_place config end call)
call_bytes config end calls.Tick mtu same fits = first_frames config end calls.Tick tt
call_bytes config end calls.Stop mtu same fits = first_frames config end calls.Stop tt
call_bytes config end (calls.Offer frame) mtu same fits = first_frames config end (calls.Offer frame) (fits.0, let most = fits.1 in omega arith)
call_bytes config end calls.Poll mtu same fits = first_frames config end calls.Poll tt

fits_of : (mtu : ℕ) (answer : Choice) (frames : List (List ℕ)) → All (IsFrame mtu) frames → FitsIf mtu (call_of answer frames)
fits_of mtu Tick frames are = tt
fits_of mtu Offer [] are = tt
fits_of mtu Offer (frame ∷ frames) are = first_frame mtu frame frames are
fits_of mtu Poll frames are = tt
fits_of mtu Finished frames are = tt

fits_recorded : (mtu : ℕ) (answer : Option Choice) (frames : List (List ℕ)) → All (IsFrame mtu) frames → FitsIf mtu (call_chosen_by answer frames)
fits_recorded mtu None frames are = tt
fits_recorded mtu (Some answer) frames are = fits_of mtu answer frames are

place_bytes : (config : EndConfig) (end : End) (place : Place) (call : Option Call) → FitsIf config.sizes.mtu call → HasFrames place → HasFrames (place_for config end place call)
place_bytes config end place None fits has = has
place_bytes config end place (Some call) fits has = call_bytes config end call config.sizes.mtu refl fits

-- The frames of the place in a turn have their bytes.
pub bytes_in : (key : RunSetup) (me : ℕ) (routes : List Route) (r : Runner) (answer : Option Choice) (old : PassView) (p : AutoPeer) → Turns key me routes r answer old p → HasFrames (place_in (config_in key me) r)
bytes_in key me routes r answer old p turns = let plan = p.driven.auto in
    let frames : Frames key (round_on r.auto (chosen r)).frames = subst (Frames key) (sym (round_frames r.auto (chosen r))) turns.there.refines.frames in
    let planned : Frames key plan.frames = subst (Frames key) (sym turns.is.planned.frames) frames in
    let fits : FitsIf key.queue.mtu (call_chosen (chosen r)) = subst (FitsIf key.queue.mtu) (recorded_call answer plan.frames (chosen r) turns.matches) (fits_recorded key.queue.mtu answer plan.frames planned) in
    place_bytes (config_in key me) r.end r.place (call_chosen (chosen r)) fits turns.there.refines.bytes

-- If a doorbell takes two turns, its call is open.

first_silent : (routes : List Route) (config : EndConfig) (end : End) (call : Call) → is_guarded (doorbell_path_in routes (access_at config (first_place config end call))) ≡ false
first_silent routes config end calls.Tick = refl
first_silent routes config end calls.Stop = refl
first_silent routes config end (calls.Offer frame) = elim (calls.in_run end.handshake.phase) as (λ b. is_guarded (doorbell_path_in routes (access_at config (if b then ReadingUsedIndex (calls.pending_of config end frame) end.freed else NotInRun))) ≡ false) [ true ↦ refl | false ↦ refl ]
first_silent routes config end calls.Poll = elim (calls.in_run end.handshake.phase) as (λ b. is_guarded (doorbell_path_in routes (access_at config (if b then ReadingAvailIndex (length end.delivered) (is_last config end.found_none) else NotInRun))) ≡ false) [ true ↦ refl | false ↦ refl ]

begun_silent : (routes : List Route) (config : EndConfig) (end : End) (place : Place) (c : automatic.Choice) → is_end c ≡ false → is_guarded (doorbell_path_in routes (access_at config (place_for config end place (call_chosen (Some c))))) ≡ false
begun_silent routes config end place automatic.ChoosesTick goes = first_silent routes config end calls.Tick
begun_silent routes config end place (automatic.ChoosesOffer frame) goes = first_silent routes config end (calls.Offer frame)
begun_silent routes config end place automatic.ChoosesPoll goes = first_silent routes config end calls.Poll
begun_silent routes config end place automatic.IsFinished goes = absurd (clash (sym goes))

chosen_silent : (routes : List Route) (config : EndConfig) (r : Runner) (c : Option automatic.Choice) → finishes c ≡ false → is_guarded (doorbell_path_in routes (access_at config (place_for config r.end r.place (call_chosen c)))) ≡ true → c ≡ None
chosen_silent routes config r None goes guarded = refl
chosen_silent routes config r (Some c) goes guarded = absurd (clash (sym (begun_silent routes config r.end r.place c goes) ∙ guarded))

pub none_chosen : (routes : List Route) (config : EndConfig) (r : Runner) → has_finished r ≡ false → is_guarded (doorbell_path_in routes (access_at config (place_in config r))) ≡ true → chosen r ≡ None
none_chosen routes config r goes guarded = chosen_silent routes config r (chosen r) goes guarded

pub same_open : (config : EndConfig) (r : Runner) → chosen r ≡ None → place_in config r ≡ r.place
same_open config r none = ap (λ (c : Option automatic.Choice). place_for config r.end r.place (call_chosen c)) none

-- A ring that is to come may be made at the place of the turn.
pub may_come : (key : RunSetup) (me : ℕ) (routes : List Route) (ringing : Bool) (r : Runner) (end : Engine) (a : Access) → RunnerRefines key me routes r end → r.ringing ≡ ringing → a ≡ access_at (config_in key me) (place_in (config_in key me) r) → ringing ≡ true → MayRingBy routes a r.actions
may_come key me routes ringing r end a s same at is = let config = config_in key me in let may : MayRingBy routes (access_at config r.place) r.actions = s.rings (same ∙ is) in
    subst (λ (x : Access). MayRingBy routes x r.actions) (ap (access_at config) (sym (same_open config r (opened_none r (rings_open config r.place r.actions may)))) ∙ sym at) may
  where
    rings_open : (config : EndConfig) (place : Place) (list : List (Action (MemoryOp CallAccess))) → MayRingBy routes (access_at config place) list → is_open place ≡ true
    rings_open config RingingOffer list may = refl
    rings_open config RingingPoll list may = refl
    rings_open config place list may = absurd may

    opened_none : (r : Runner) → is_open r.place ≡ true → chosen r ≡ None
    opened_none r open_is = ap (λ (b : Bool). if b then None else Some (choice_of r.end.handshake.phase r.auto.round r.auto.frames r.auto.delivered r.auto.expected)) open_is

-- The list of the pass after a turn.
list_after : (old pass : PassView) (l acts : List (Action (MemoryOp CallAccess))) → length acts ≤ 1 → pass ≡ made old acts → old.lists ≡ l ∷ [] → pass.lists ≡ (l ++ acts) ∷ []
list_after old pass l acts one is was = ap (λ (h : PassView). h.lists) is ∙ made_lists old l acts one was

-- If no value is read, no session number is due.
none_met : (r : Runner) → r.met ≡ None → HasMet r
none_met r none = record { stored = λ number at is. none_some number (sym none ∙ is); loaded = λ number at is. none_some number (sym none ∙ is) }
  where
    none_some : {P : Type 0} → (number : ℕ) → None ≡ Some number → P
    none_some number e = absurd (cc)

-- A turn up to the end of its step: its call was opened, its step was done and taken, and its notes
-- were counted.
pub turn_taken : (key : RunSetup) (me : ℕ) (routes : List Route) (done : Done) (r : Runner) (answer : Option Choice) (old pass : PassView) (p : AutoPeer) (new : Plan) (e1 e2 : Engine) (a : Access) (notes : List Note) → honest_of key me ≡ true →
    Turns key me routes r answer old p → RefinesAt e1 (config_in key me) r.end (place_in (config_in key me) r) → is_open (place_in (config_in key me) r) ≡ true → a ≡ access_at (config_in key me) (place_in (config_in key me) r) →
    IsDone p.ringing (is_guarded (doorbell_path_in routes a)) done → awaits_ring done ≡ false → pass ≡ made old (done_of routes (call_chosen_by answer p.driven.auto.frames) a done) → Takes e1 (value_done done) notes e2 →
    ((auto : Auto) (one other : List ℕ) → IsPlanOf p.driven.auto auto → IsPlanOf new (counted_all auto (marks_between one other notes))) →
    IsThere key me routes (stepped_on routes (config_in key me) r done) pass e2 × IsPlanOf new (stepped_on routes (config_in key me) r done).auto
turn_taken key me routes done r answer old pass p new e1 e2 a notes hp turns refines opens at is_done goes is took counts = let config = config_in key me in let place = place_in config r in let value = value_done done in let frames_of = p.driven.auto.frames in
    let list : done_of routes (call_chosen_by answer frames_of) a done ≡ done_of routes (call_chosen (chosen r)) (access_at config place) done = (λ i. done_of routes (recorded_call answer frames_of (chosen r) turns.matches i) (at i) done) in
    let marked : marks_between (offered e1) (delivered e2) notes ≡ marks_at config place value = took.marked config r.end place refines in
    let frames : Frames key (round_on r.auto (chosen r)).frames = subst (Frames key) (sym (round_frames r.auto (chosen r))) turns.there.refines.frames in (
      record {
        refines = record {
          refines = took.refines config r.end place refines;
          derived_state = stands_stepped key me routes p.ringing done r hp opens (subst (λ (x : Access). IsDone p.ringing (is_guarded (doorbell_path_in routes x)) done) at is_done) goes turns.there.refines.derived_state;
          bytes = next_frames config place value (bytes_in key me routes r answer old p turns);
          frames = offered_counted key.queue.mtu (round_on r.auto (chosen r)) (marks_at config place value) frames;
          rings = λ e. absurd (clash e);
          met = none_met (stepped_on routes config r done) refl;
        };
        from = ap (λ (h : PassView). h.from) is ∙ (made_from old (done_of routes (call_chosen_by answer frames_of) a done) ∙ turns.there.from);
        lists = list_after old pass r.actions (done_of routes (call_chosen_by answer frames_of) a done) (done_one routes (call_chosen_by answer frames_of) a done) is turns.there.lists ∙ ap (λ l. (r.actions ++ l) ∷ []) list;
      },
      subst (λ ms. IsPlanOf new (counted_all (round_on r.auto (chosen r)) ms)) marked (counts (round_on r.auto (chosen r)) (offered e1) (delivered e2) turns.is.planned),
    )

-- A turn in which the clear of a doorbell found the bit.
pub turn_held : (key : RunSetup) (me : ℕ) (routes : List Route) (done : Done) (r : Runner) (answer : Option Choice) (old pass : PassView) (p : AutoPeer) (e1 : Engine) (a : Access) →
    Turns key me routes r answer old p → RefinesAt e1 (config_in key me) r.end (place_in (config_in key me) r) → a ≡ access_at (config_in key me) (place_in (config_in key me) r) →
    IsDone p.ringing (is_guarded (doorbell_path_in routes a)) done → awaits_ring done ≡ true → pass ≡ made old (done_of routes (call_chosen_by answer p.driven.auto.frames) a done) → MayRingBy routes a (front pass.lists) →
    IsThere key me routes (held_on routes (config_in key me) r done) pass e1 × IsPlanOf p.driven.auto (held_on routes (config_in key me) r done).auto
turn_held key me routes done r answer old pass p e1 a turns refines at is_done held is may = let config = config_in key me in let place = place_in config r in let frames_of = p.driven.auto.frames in
    let guarded : is_guarded (doorbell_path_in routes a) ≡ true = held_guards p.ringing (is_guarded (doorbell_path_in routes a)) done is_done held in
    let there : is_guarded (doorbell_path_in routes (access_at config place)) ≡ true = ap (λ (x : Access). is_guarded (doorbell_path_in routes x)) (sym at) ∙ guarded in
    let none : chosen r ≡ None = none_chosen routes config r turns.goes there in let spot : place ≡ r.place = same_open config r none in
    let list : done_of routes (call_chosen_by answer frames_of) a done ≡ done_of routes (call_chosen (chosen r)) (access_at config place) done = (λ i. done_of routes (recorded_call answer frames_of (chosen r) turns.matches i) (at i) done) in
    let lists : pass.lists ≡ (held_on routes config r done).actions ∷ [] = list_after old pass r.actions (done_of routes (call_chosen_by answer frames_of) a done) (done_one routes (call_chosen_by answer frames_of) a done) is turns.there.lists ∙ ap (λ l. (r.actions ++ l) ∷ []) list in (
      record {
        refines = record {
          refines = subst (λ (p : Place). RefinesAt e1 config r.end p) spot refines;
          derived_state = stands_held key me routes done r (guarded_still routes (access_at config place) there) held turns.there.refines.derived_state;
          bytes = turns.there.refines.bytes;
          frames = turns.there.refines.frames;
          rings = λ e. subst (λ (x : Access). MayRingBy routes x (held_on routes config r done).actions) (at ∙ ap (access_at config) spot) (subst (λ ls. MayRingBy routes a (front ls)) lists may);
          met = let was = turns.there.refines.met in record { stored = was.stored; loaded = was.loaded };
        };
        from = ap (λ (h : PassView). h.from) is ∙ (made_from old (done_of routes (call_chosen_by answer frames_of) a done) ∙ turns.there.from);
        lists = lists;
      },
      subst (λ (c : Option automatic.Choice). IsPlanOf p.driven.auto (round_on r.auto c)) none turns.is.planned,
    )

-- A look
pub turn_looked : (key : RunSetup) (me : ℕ) (routes : List Route) (r : Runner) (old pass : PassView) (end : Engine) (found : ℕ) → pass ≡ added old (looked found) → IsThere key me routes r old end → r.ringing ≡ false → IsThere key me routes (looked_on r found) pass end
turn_looked key me routes r old pass end found is there still = record {
  refines = record {
    refines = there.refines.refines;
    derived_state = stands_looked key me r found there.refines.derived_state;
    bytes = there.refines.bytes;
    frames = there.refines.frames;
    rings = λ e. absurd (clash (sym still ∙ e));
    met = let was = there.refines.met in record { stored = was.stored; loaded = was.loaded };
  };
  from = ap (λ (h : PassView). h.from) is ∙ there.from;
  lists = list_after old pass r.actions (looked found ∷ []) (omega arith) is there.lists;
}

-- A turn at a session word.

word_by : (state : ℕ) (word : SessionWord) (b c : Bool) → (state == 2) ≡ b → (state == 3) ≡ c → (if b then Some Own else if c then Some Others else None) ≡ Some word → state ≡ state_for word
word_by state Own true c two three is = eqb-true state 2 two
word_by state Others true c two three is = absurd (cc)
word_by state Own false true two three is = absurd (cc)
word_by state Others false true two three is = eqb-true state 3 three
word_by state word false false two three is = absurd (cc)

pub met_place : (word : SessionWord) (place : Place) (met : Option ℕ) → due_word place met ≡ Some word → place ≡ WritingState (state_for word)
met_place word (WritingState state) None is = ap WritingState (word_by state word (state == 2) (state == 3) refl refl is)
met_place word place met is = absurd (cc)

pub met_before : (word : SessionWord) (place : Place) (met : Option ℕ) → due_word place met ≡ Some word → met ≡ None
met_before word place None is = refl
met_before word (WritingState state) (Some number) is = absurd (cc)
met_before word place (Some number) is = absurd (cc)

-- The peer's list leads to the state that the pass has.
derived_state_in : (key : RunSetup) (me : ℕ) (routes : List Route) (r : Runner) (old : PassView) (end : Engine) → IsThere key me routes r old end → derived_state key me (accesses_in (front old.lists)) ≡ derived_state_of r
derived_state_in key me routes r old end there = ap (λ ls. derived_state key me (accesses_in (front ls))) there.lists ∙ there.refines.derived_state

pub meets_at : (key : RunSetup) (me : ℕ) (routes : List Route) (r : Runner) (old : PassView) (end : Engine) (word : SessionWord) → IsThere key me routes r old end → due_word r.place r.met ≡ Some word → (derived_state key me (accesses_in (front old.lists))).place ≡ WritingState (state_for word)
unfolding settled_place
meets_at key me routes r old end word there due = ap (λ (s : DerivedState). s.place) (derived_state_in key me routes r old end there) ∙ ap settled_place (met_place word r.place r.met due)

pub opened_at : (key : RunSetup) (me : ℕ) (routes : List Route) (r : Runner) (old : PassView) (end : Engine) → IsThere key me routes r old end → r.numbers.log.opened ≡ (derived_state key me (accesses_in (front old.lists))).numbers.log.opened
opened_at key me routes r old end there = ap (λ (s : DerivedState). s.numbers.log.opened) (sym (derived_state_in key me routes r old end there))

-- The number read is that of its session word, or the one that it loaded.
met_has : (word : SessionWord) (r : Runner) (number : ℕ) → r.place ≡ WritingState (state_for word) → HasMet (met_on word r number)
met_has Own r number place = record { stored = λ n at is. refl; loaded = λ n at is. absurd (two_three (sym place ∙ at)) }
  where
    two_three : WritingState 2 ≡ WritingState 3 → ⊥
    two_three e = cc
met_has Others r number place = record { stored = λ n at is. absurd (three_two (sym place ∙ at)); loaded = λ n at is. is }
  where
    three_two : WritingState 3 ≡ WritingState 2 → ⊥
    three_two e = cc

pub turn_met : (key : RunSetup) (me : ℕ) (routes : List Route) (word : SessionWord) (r : Runner) (old pass : PassView) (end : Engine) (number : ℕ) → honest_of key me ≡ true → pass ≡ added old (accessed (memory_op_met word number)) → IsThere key me routes r old end →
    due_word r.place r.met ≡ Some word → IsThere key me routes (met_on word r number) pass end
turn_met key me routes word r old pass end number hp is there due = let place = met_place word r.place r.met due in record {
  refines = record {
    refines = there.refines.refines;
    derived_state = stands_met key me word r number hp there.refines.derived_state;
    bytes = there.refines.bytes;
    frames = there.refines.frames;
    rings = λ e. absurd (subst (λ (p : Place). MayRingBy routes (access_at (config_in key me) p) r.actions) place (there.refines.rings e));
    met = met_has word r number place;
  };
  from = ap (λ (h : PassView). h.from) is ∙ there.from;
  lists = list_after old pass r.actions (accessed (memory_op_met word number) ∷ []) (omega arith) is there.lists;
}

-- A reset

pub turn_restarted : (key : RunSetup) (me : ℕ) (routes : List Route) (r : Runner) (old pass : PassView) (e0 e1 : Engine) → honest_of key me ≡ true → pass ≡ added old (accessed restarted) →
    ((config : EndConfig) (end : End) (place : Place) → RefinesAt e0 config end place → RefinesAt e1 config (after_reset end) Closed) → IsThere key me routes r old e0 → IsThere key me routes (restarted_on r) pass e1
turn_restarted key me routes r old pass e0 e1 hp is resets there = record {
  refines = record {
    refines = resets (config_in key me) r.end r.place there.refines.refines;
    derived_state = stands_restarted key me r hp there.refines.derived_state;
    bytes = tt;
    frames = there.refines.frames;
    rings = λ e. absurd (clash e);
    met = none_met (restarted_on r) refl;
  };
  from = ap (λ (h : PassView). h.from) is ∙ there.from;
  lists = list_after old pass r.actions (accessed restarted ∷ []) (omega arith) is there.lists;
}

pub plan_cut : (plan : Plan) (r : Runner) → IsPlanOf plan r.auto → IsPlanOf (record plan { round = Anew }) (restarted_on r).auto
plan_cut plan r is = record { frames = is.frames; expected = is.expected; delivered = is.delivered; round = refl }

-- The lines of a turn

-- The line of an access takes its value from a read alone.
given_line : (me : ℕ) (a : Access) (value : ℕ) → access_lines me a value ≡ access_lines me a (value_given a value)
given_line me (access.Read word) value = refl
given_line me _ value = refl

-- A choice is made before the first step of a call.
pub first_is : (choice : Option Choice) (busy : Bool) (r : Runner) → Closes choice busy → busy ≡ is_open r.place → is_some choice ≡ is_first r
first_is None busy r closes same = ap not (sym closes ∙ same)
first_is (Some answer) busy r closes same = ap not (sym closes ∙ same)

-- The recorded lines are the lines of the turn.
step_recorded : (me : ℕ) (first : Bool) (opened : ℕ) (met : Option ℕ) (a : Access) (value : ℕ) (marks : List Mark) → stepped_lines me first opened met a value marks ≡ lines_in me (stepped_turn first opened met (step_of a value marks) a)
step_recorded me first opened None (access.Read word) value marks = refl
step_recorded me first opened (Some other) (access.Read word) value marks = refl
step_recorded me first opened (Some other) (access.State state) value marks = elim (state == 3) as (λ b. (line.State me state ∷ (if b then line.Session me opened other ∷ [] else []) ++ map (mark_line me) marks) ≡ lines_in me (if b then Enters (step_of (access.State state) value marks) opened other else Makes first (step_of (access.State state) value marks))) [ true ↦ refl | false ↦ refl ]
step_recorded me first opened met a value marks = refl

done_recorded : (config : EndConfig) (first : Bool) (opened : ℕ) (met : Option ℕ) (place : Place) (done : Done) → awaits_ring done ≡ false →
    done_lines config.me first opened met (access_at config place) done (marks_at config place (value_done done)) ≡ lines_in config.me (turn_of first opened met (step_at config place (value_done done)) done)
done_recorded config first opened met place (Stepped value) goes = step_recorded config.me first opened met (access_at config place) value (marks_at config place value)
done_recorded config first opened met place (Cleared found) goes = (λ i. given_line config.me (access_at config place) 0 i ++ map (mark_line config.me) (sym (cleared_marks (step_at config place 0) found goes) i))
done_recorded config first opened met place Rung goes = refl

pub lines_recorded : (config : EndConfig) (r : Runner) (done : Done) (e1 e2 : Engine) (opened : ℕ) (met : Option ℕ) (a : Access) (notes : List Note) → awaits_ring done ≡ false → Takes e1 (value_done done) notes e2 → RefinesAt e1 config r.end (place_in config r) → a ≡ access_at config (place_in config r) →
    opened ≡ r.numbers.log.opened → met ≡ r.met → done_lines config.me (is_first r) opened met a done (marks_between (offered e2) (delivered e2) notes) ≡ lines_on config r done
lines_recorded config r done e1 e2 opened met a notes goes took refines at number is = let place = place_in config r in let value = value_done done in
    ap (λ ms. done_lines config.me (is_first r) opened met a done ms) (marks_now e1 e2 value notes config r.end place took refines (busy_next e1 e2 value notes config r.end place took refines))
    ∙ ((λ i. done_lines config.me (is_first r) (number i) (is i) (at i) done (marks_at config place value)) ∙ done_recorded config (is_first r) r.numbers.log.opened r.met place done goes)

pub held_line : (me : ℕ) (first : Bool) (opened : ℕ) (met : Option ℕ) (step : Step) (done : Done) → awaits_ring done ≡ true → lines_in me (turn_of first opened met step done) ≡ access_lines me step.access step.value
held_line me first opened met step (Stepped value) held = absurd (clash held)
held_line me first opened met step (Cleared found) held = ap (λ ms. access_lines me step.access step.value ++ map (mark_line me) ms) (held_marks step found held) ∙ append-nil (access_lines me step.access step.value)
held_line me first opened met step Rung held = absurd (clash held)

held_value : (done : Done) → awaits_ring done ≡ true → value_done done ≡ 0
held_value (Stepped value) held = absurd (clash held)
held_value (Cleared found) held = refl
held_value Rung held = absurd (clash held)

pub lines_held : (config : EndConfig) (r : Runner) (done : Done) (a : Access) → awaits_ring done ≡ true → a ≡ access_at config (place_in config r) → access_lines config.me a 0 ≡ lines_on config r done
lines_held config r done a held at = let place = place_in config r in ap (λ (x : Access). access_lines config.me x 0) at ∙ (given_line config.me (access_at config place) 0
    ∙ (ap (λ n. access_lines config.me (access_at config place) (value_given (access_at config place) n)) (sym (held_value done held)) ∙ sym (held_line config.me (is_first r) r.numbers.log.opened r.met (value_in config r done) done held)))

-- The kind of a step's turn: the State step with 3, which has the numbers of its session, or
-- another.

pub record IsEntering (config : EndConfig) (r : Runner) (value : ℕ) : Type 0 where
  pub other : ℕ
  pub place : place_in config r ≡ WritingState 3
  pub met : r.met ≡ Some other
  pub loaded : r.numbers.loaded ≡ Some other
  pub turn : turn_on config r (Stepped value) ≡ Enters (step_at config (place_in config r) value) r.numbers.log.opened other

pub record IsMaking (config : EndConfig) (r : Runner) (value : ℕ) : Type 0 where
  pub turn : turn_on config r (Stepped value) ≡ Makes (is_first r) (step_at config (place_in config r) value)
  pub never : (state : ℕ) → access_at config (place_in config r) ≡ access.State state → (state == 3) ≡ false
  pub met : access_at config (place_in config r) ≡ access.State 2 → r.met ≢ None

-- A State step is that of its place, or the one of a refusal.
state_at : (config : EndConfig) (place : Place) (state : ℕ) → access_at config place ≡ access.State state → (place ≡ WritingState state) ⊎ (state ≡ 0)
state_at config (WritingState value) state e = inl (ap WritingState (same e))
  where
    same : {n m : ℕ} → access.State n ≡ access.State m → n ≡ m
    same e = cc
state_at config Refusing state e = inr (sym (same e))
  where
    same : {n m : ℕ} → access.State n ≡ access.State m → n ≡ m
    same e = cc
state_at config place state e = absurd (cc)

setting_three : (place : Place) → (place ≡ WritingState 3) ⊎ (place ≢ WritingState 3)
setting_three (WritingState state) = dite (ℕ_discrete state 3) (λ e. inl (ap WritingState e)) (λ ne. inr (λ e. ne (same e)))
  where
    same : {n m : ℕ} → WritingState n ≡ WritingState m → n ≡ m
    same e = cc
setting_three place = inr (λ e. absurd (cc))

makes_at : (first : Bool) (opened : ℕ) (met : Option ℕ) (step : Step) (a : Access) → ((state : ℕ) → a ≡ access.State state → (state == 3) ≡ false) → stepped_turn first opened met step a ≡ Makes first step
makes_at first opened None step (access.State state) never = refl
makes_at first opened (Some other) step (access.State state) never = ap (λ (b : Bool). if b then Enters step opened other else Makes first step) (never state refl)
makes_at first opened met step a never = refl

pub stepped_kind : (config : EndConfig) (r : Runner) (value : ℕ) → HasMet r → due_word r.place r.met ≡ None → IsEntering config r value ⊎ IsMaking config r value
stepped_kind config r value has due = let is = met_in config r has due in ⊎_elim (λ three. inl (enters is three)) (λ ne. inr (makes is ne)) (setting_three (place_in config r))
  where
    step : Step
    step = step_at config (place_in config r) value

    enters : IsMet (place_in config r) r.met r.numbers → place_in config r ≡ WritingState 3 → IsEntering config r value
    enters is three = let t = is.three three in record {
      other = t.0;
      place = three;
      met = t.1;
      loaded = t.2;
      turn = λ i. stepped_turn (is_first r) r.numbers.log.opened (t.1 i) (step_at config (place_in config r) value) (access_at config (three i));
    }

    never_at : place_in config r ≢ WritingState 3 → (state : ℕ) → access_at config (place_in config r) ≡ access.State state → (state == 3) ≡ false
    never_at ne state e = ⊎_elim (λ at. ne_eqb state 3 (λ three. ne (at ∙ ap WritingState three))) (λ zero. ap (λ n. n == 3) zero) (state_at config (place_in config r) state e)

    makes : IsMet (place_in config r) r.met r.numbers → place_in config r ≢ WritingState 3 → IsMaking config r value
    makes is ne = record {
      turn = makes_at (is_first r) r.numbers.log.opened r.met (step_at config (place_in config r) value) (access_at config (place_in config r)) (never_at ne);
      never = never_at ne;
      met = λ e. ⊎_elim (λ at. (is.two at).0) (λ none. absurd (omega arith)) (state_at config (place_in config r) 2 e);
    }

-- The runner after a turn, as it was held or not.
pub turned_held : (routes : List Route) (config : EndConfig) (r : Runner) (done : Done) → awaits_ring done ≡ true → turned routes config r done ≡ held_on routes config r done
turned_held routes config r done is = ap (λ (b : Bool). if b then held_on routes config r done else stepped_on routes config r done) is

pub turned_stepped : (routes : List Route) (config : EndConfig) (r : Runner) (done : Done) → awaits_ring done ≡ false → turned routes config r done ≡ stepped_on routes config r done
turned_stepped routes config r done is = ap (λ (b : Bool). if b then held_on routes config r done else stepped_on routes config r done) is

-- A State step with 2 opens a session.
pub opened_on : (n : Numbers) (end : End) (a : Access) → n.log.opened + opens a ≡ (numbers_after n end a).log.opened
opened_on n end (access.State state) = elim (state == 2) as (λ b. n.log.opened + (if b then 1 else 0) ≡ (if b then n.log.opened + 1 else n.log.opened)) [ true ↦ refl | false ↦ omega arith ]
opened_on n end _ = omega arith

-- The same of the runner as it is turned.
module _ (key : RunSetup) (me : ℕ) (routes : List Route) (done : Done) (r : Runner) (answer : Option Choice) (old pass : PassView) (p : AutoPeer) (e1 : Engine) (a : Access) (turns : Turns key me routes r answer old p)
    (refines : RefinesAt e1 (config_in key me) r.end (place_in (config_in key me) r)) (at_is : a ≡ access_at (config_in key me) (place_in (config_in key me) r)) (is_done : IsDone p.ringing (is_guarded (doorbell_path_in routes a)) done) (is : pass ≡ made old (done_of routes (call_chosen_by answer p.driven.auto.frames) a done)) where
  pub done_there : IsDone p.ringing (is_guarded (doorbell_path_in routes (access_at (config_in key me) (place_in (config_in key me) r)))) done
  done_there = subst (λ (x : Access). IsDone p.ringing (is_guarded (doorbell_path_in routes x)) done) at_is is_done

  pub held_turn : (q : AutoPeer) → awaits_ring done ≡ true → (awaits_ring done ≡ true → MayRingBy routes a (front pass.lists)) → q.driven.auto ≡ p.driven.auto → q.looks ≡ Some 0 → q.ringing ≡ true → q.opened ≡ p.opened → q.met ≡ p.met →
      IsThere key me routes (turned routes (config_in key me) r done) pass e1 × IsAutoPeer q (turned routes (config_in key me) r done)
  held_turn q held may auto looks ringing opened met = let both = turn_held key me routes done r answer old pass p e1 a turns refines at_is is_done held is (may held) in let same = sym (turned_held routes (config_in key me) r done held) in (
    subst (λ (x : Runner). IsThere key me routes x pass e1) same both.0,
    subst (IsAutoPeer q) same (record {
      planned = subst (λ (plan : Plan). IsPlanOf plan (held_on routes (config_in key me) r done).auto) (sym auto) both.1;
      looks = looks;
      ringing = ringing;
      opened = opened ∙ turns.is.opened;
      met = met ∙ turns.is.met;
    }),
  )

  pub step_turn : (q : AutoPeer) (e2 : Engine) (notes : List Note) → honest_of key me ≡ true → is_open (place_in (config_in key me) r) ≡ true → awaits_ring done ≡ false → Takes e1 (value_done done) notes e2 →
      ((auto : Auto) (one other : List ℕ) → IsPlanOf p.driven.auto auto → IsPlanOf q.driven.auto (counted_all auto (marks_between one other notes))) → q.looks ≡ Some 0 → q.ringing ≡ false → q.opened ≡ p.opened + opens a → q.met ≡ None →
      IsThere key me routes (turned routes (config_in key me) r done) pass e2 × IsAutoPeer q (turned routes (config_in key me) r done)
  step_turn q e2 notes hp opens_is goes took counts looks ringing opened met = let both = turn_taken key me routes done r answer old pass p q.driven.auto e1 e2 a notes hp turns refines opens_is at_is is_done goes is took counts in let same = sym (turned_stepped routes (config_in key me) r done goes) in (
    subst (λ (x : Runner). IsThere key me routes x pass e2) same both.0,
    subst (IsAutoPeer q) same (record {
      planned = both.1;
      looks = looks;
      ringing = ringing;
      opened = opened ∙ ((λ i. turns.is.opened i + opens (at_is i)) ∙ opened_on r.numbers r.end (access_at (config_in key me) (place_in (config_in key me) r)));
      met = met;
    }),
  )
