-- What an automatic peer chooses, and the access that is its next one.
use Rattle.std.proofs.Common.{◌≡◌, ◌≢◌, ℕ, All, Bool, true, false, List, [], ◌∷◌, length, refl, sym, ap, ◌∙◌, subst}
use Rattle.std.specs.Prelude.{Option, Some, None, drop, if◌then◌else◌}
use Rattle.std.proofs.lemmas.List.Elements.{recursion_from_All, All-from_recursion}
use Rattle.split_ring.specs.declared.steps.Access.{Access}
use Rattle.call_grammar.specs.Steps.{Mark, Accept}
use Rattle.call_grammar.specs.Ends.{End, end_after}
use Rattle.call_grammar.specs.Calls.{EndConfig, Call}
use Rattle.call_grammar.specs.Calls as calls
use Rattle.call_grammar.specs.Automatic.{Round, choice_of}
use Rattle.call_grammar.specs.Automatic as automatic
use Rattle.call_grammar.specs.Polls.{is_last}
use Rattle.call_grammar.specs.Places.{Place, Closed, WritingState, Refusing, NotInRun, RingingOffer, RingingPoll, ReadingUsedIndex, ReadingAvailIndex, first_place, access_at, next_place, step_at, marks_at, is_open}
use Rattle.call_grammar.proofs.ReplaysAreCalls.{shut_place}
use Rattle.link_endpoint.specs.Engine.{Engine}
use Rattle.link_endpoint.specs.Refinement.{RefinesAt}
use Rattle.link_endpoint.specs.Plan as plans
use Rattle.link_endpoint.specs.Plan.{HasCounted, IsChoice, Matches, round_after, round_since, call_of, call_chosen_by, MayOpen, MayOpenIf, place_for}
use Rattle.link_endpoint.specs.declared.auto.Choice.{Choice}
use Rattle.link_endpoint.specs.declared.auto.Choice.TheVariants.{Tick, Offer, Poll, Finished}
use Rattle.link_endpoint.specs.declared.auto_endpoint.AutoEndpoint.{AutoEndpoint}
use Rattle.lawful_history.specs.Peers.{Auto, counted, counted_all}
use Rattle.link_invariant.specs.LinkConfig.{IsOffered}
use Rattle.link_machine.specs.LinkMachine.{Log}
use Rattle.pair_sessions.specs.Numbers.{Numbers, numbers_after, IsNumbered}
use Rattle.step_lines.specs.Plans.{IsPlanOf}
use Rattle.shared_words.specs.declared.run_setup.RunSetup.{RunSetup}
use Rattle.shared_words.specs.RunSetups.{config_in, link_config_of}
use Rattle.shared_words.specs.DerivedStates.{Wake, wake_on, DerivedState, begun_if, settled_place, derived_state, Begins, IsNext}
use Rattle.shared_words.specs.Actions.{accesses_in}
use Rattle.peer_runner.specs.Runners.{Runner, IsFrame, chosen, round_on, call_chosen, place_in, touches, due_word, derived_state_of, HasMet}

-- The reported call is the chosen call.
same_call : (answer : Choice) (frames : List (List ℕ)) (c : automatic.Choice) → IsChoice answer frames c → call_of answer frames ≡ call_chosen (Some c)
same_call Tick frames c is = sym (ap (λ (x : automatic.Choice). call_chosen (Some x)) is)
same_call Offer [] c is = absurd is
same_call Offer (frame ∷ frames) c is = sym (ap (λ (x : automatic.Choice). call_chosen (Some x)) is)
same_call Poll frames c is = sym (ap (λ (x : automatic.Choice). call_chosen (Some x)) is)
same_call Finished frames c is = sym (ap (λ (x : automatic.Choice). call_chosen (Some x)) is)

pub recorded_call : (answer : Option Choice) (frames : List (List ℕ)) (c : Option automatic.Choice) → Matches answer frames c → call_chosen_by answer frames ≡ call_chosen c
recorded_call None frames None is = refl
recorded_call None frames (Some c) is = absurd is
recorded_call (Some answer) frames None is = absurd is
recorded_call (Some answer) frames (Some c) is = same_call answer frames c is

-- A choice is made only if no call is open.
chosen_where : (b : Bool) (c : automatic.Choice) (answer : Choice) (frames : List (List ℕ)) → Matches (Some answer) frames (if b then None else Some c) → (b ≡ false) × IsChoice answer frames c
chosen_where true c answer frames is = absurd is
chosen_where false c answer frames is = (refl, is)

-- The call chosen is opened at the runner's place.
pub opened_in : (config : EndConfig) (r : Runner) (answer : Option Choice) (frames : List (List ℕ)) (end : Engine) → Matches answer frames (chosen r) →
    RefinesAt end config r.end (place_for config r.end r.place (call_chosen_by answer frames)) → RefinesAt end config r.end (place_in config r)
opened_in config r answer frames end is = subst (λ (c : Option Call). RefinesAt end config r.end (place_for config r.end r.place c)) (recorded_call answer frames (chosen r) is)

-- The facts of a choice of the code's peer at the runner's place: the end stays as it is.
pub record Chose (r : Runner) (old new : AutoEndpoint) (answer : Option Choice) : Type 0 where
  pub end : new.end ≡ old.end
  pub matches : Matches answer new.auto.frames (chosen r)
  pub planned : IsPlanOf new.auto (round_on r.auto (chosen r))

round_same : (auto : Auto) (answer : Choice) (frames : List (List ℕ)) (c : automatic.Choice) → IsChoice answer frames c → record auto { round = round_after answer auto.round } ≡ round_on auto (Some c)
round_same auto Tick frames c is = sym (ap (λ (x : automatic.Choice). round_on auto (Some x)) is)
round_same auto Offer [] c is = absurd is
round_same auto Offer (frame ∷ frames) c is = sym (ap (λ (x : automatic.Choice). round_on auto (Some x)) is)
round_same auto Poll frames c is = sym (ap (λ (x : automatic.Choice). round_on auto (Some x)) is)
round_same auto Finished frames c is = sym (ap (λ (x : automatic.Choice). round_on auto (Some x)) is)

rounds_same : (auto : Auto) (answer : Option Choice) (frames : List (List ℕ)) (c : Option automatic.Choice) → Matches answer frames c → record auto { round = round_since answer auto.round } ≡ round_on auto c
rounds_same auto None frames None is = refl
rounds_same auto None frames (Some c) is = absurd is
rounds_same auto (Some answer) frames None is = absurd is
rounds_same auto (Some answer) frames (Some c) is = round_same auto answer frames c is

pub chose : (config : EndConfig) (r : Runner) (old new : AutoEndpoint) (answer : Option Choice) → RefinesAt old.end config r.end r.place → IsPlanOf old.auto r.auto →
    ((w : EndConfig) (end : End) (place : Place) (count : ℕ) → RefinesAt old.end w end place → HasCounted old.auto count → Matches answer old.auto.frames (plans.choice_at end place old.auto count)) →
    new ≡ record old { auto = record (old.auto) { round = round_since answer old.auto.round } } → Chose r old new answer
chose config r old new answer refines planned chooses is =
    let At : List (List ℕ) → Round → ℕ → Type 0 = λ frames round expected.
    Matches answer old.auto.frames (if is_open r.place then None else Some (choice_of r.end.handshake.phase round frames r.auto.delivered expected)) in
    let matches : Matches answer old.auto.frames (chosen r) =
    subst (λ (frames : List (List ℕ)). At frames r.auto.round r.auto.expected) planned.frames
    (subst (λ (round : Round). At old.auto.frames round r.auto.expected) planned.round
    (subst (At old.auto.frames old.auto.round) planned.expected (chooses config r.end r.place r.auto.delivered refines planned.delivered))) in
    let plan : IsPlanOf (record (old.auto) { round = round_since answer old.auto.round }) (record (r.auto) { round = round_since answer r.auto.round }) =
    record { frames = planned.frames; expected = planned.expected; delivered = planned.delivered; round = ap (round_since answer) planned.round } in
    record {
      end = ap (λ (h : AutoEndpoint). h.end) is;
      matches = subst (λ (h : AutoEndpoint). Matches answer h.auto.frames (chosen r)) (sym is) matches;
      planned = subst (λ (h : AutoEndpoint). IsPlanOf h.auto (round_on r.auto (chosen r))) (sym is)
          (subst (IsPlanOf (record (old.auto) { round = round_since answer old.auto.round })) (rounds_same r.auto answer old.auto.frames (chosen r) matches) plan);
    }

-- An access to a word is made at a place that is not left by a doorbell.
unsettled : (config : EndConfig) (place : Place) → touches (access_at config place) ≡ true → settled_place place ≡ place
unfolding settled_place
unsettled config NotInRun is = absurd (cc)
unsettled config RingingOffer is = absurd (cc)
unsettled config RingingPoll is = absurd (cc)
unsettled config place is = refl

-- The other steps leave the end and its numbers, and their call is closed.
pub record Untouching (config : EndConfig) (end : End) (place : Place) (value : ℕ) : Type 0 where
  pub end_is : end_after end (step_at config place value) ≡ end
  pub next : next_place config place value ≡ Closed
  pub settles : settled_place place ≡ Closed
  pub numbered : (n : Numbers) → numbers_after n end (access_at config place) ≡ n
  pub wakes : (log : Log) (wake : Wake) → wake_on config end log wake (access_at config place) (marks_at config place value) ≡ wake

pub untouching : (config : EndConfig) (end : End) (place : Place) (value : ℕ) → is_open place ≡ true → touches (access_at config place) ≡ false → Untouching config end place value
unfolding settled_place
untouching config end Closed value is still = absurd (cc)
untouching config end NotInRun value is still = record { end_is = refl; next = refl; settles = refl; numbered = λ n. refl; wakes = λ log wake. refl }
untouching config end RingingOffer value is still = record { end_is = refl; next = refl; settles = refl; numbered = λ n. refl; wakes = λ log wake. refl }
untouching config end RingingPoll value is still = record { end_is = refl; next = refl; settles = refl; numbered = λ n. refl; wakes = λ log wake. refl }
untouching config end place value is still = absurd (cc)

pub settled_closed : settled_place Closed ≡ Closed
unfolding settled_place
settled_closed = refl

-- Frames that may be offered

abbrev pub Frames : RunSetup → List (List ℕ) → Type 0
Frames key frames = All (IsFrame key.queue.mtu) frames

pub first_frame : (mtu : ℕ) (frame : List ℕ) (frames : List (List ℕ)) → All (IsFrame mtu) (frame ∷ frames) → IsFrame mtu frame
first_frame mtu frame frames are = (recursion_from_All (IsFrame mtu) (frame ∷ frames) are).0

offered_rest : (mtu : ℕ) (frames : List (List ℕ)) → All (IsFrame mtu) frames → All (IsFrame mtu) (drop 1 frames)
offered_rest mtu [] are = are
offered_rest mtu (frame ∷ frames) are = All-from_recursion (IsFrame mtu) frames (recursion_from_All (IsFrame mtu) (frame ∷ frames) are).1

offered_once : (mtu : ℕ) (auto : Auto) (mark : Mark) → All (IsFrame mtu) auto.frames → All (IsFrame mtu) (counted auto mark).frames
offered_once mtu auto (Accept frame) are = offered_rest mtu auto.frames are
offered_once mtu auto mark are = are

pub offered_counted : (mtu : ℕ) (auto : Auto) (marks : List Mark) → All (IsFrame mtu) auto.frames → All (IsFrame mtu) (counted_all auto marks).frames
offered_counted mtu auto [] are = are
offered_counted mtu auto (mark ∷ marks) are = offered_counted mtu (counted auto mark) marks (offered_once mtu auto mark are)

pub round_frames : (auto : Auto) (c : Option automatic.Choice) → (round_on auto c).frames ≡ auto.frames
round_frames auto None = refl
round_frames auto (Some automatic.ChoosesTick) = refl
round_frames auto (Some (automatic.ChoosesOffer frame)) = refl
round_frames auto (Some automatic.ChoosesPoll) = refl
round_frames auto (Some automatic.IsFinished) = refl

-- A frame that was chosen may be offered.
may_open : (mtu : ℕ) (answer : Choice) (frames : List (List ℕ)) (c : automatic.Choice) → All (IsFrame mtu) frames → IsChoice answer frames c → MayOpen mtu answer frames
may_open mtu Tick frames c are is = tt
may_open mtu Offer [] c are is = absurd is
may_open mtu Offer (frame ∷ frames) c are is = let f = first_frame mtu frame frames are in (f.0, f.1)
may_open mtu Poll frames c are is = tt
may_open mtu Finished frames c are is = tt

pub may_open_if : (mtu : ℕ) (answer : Option Choice) (frames : List (List ℕ)) (c : Option automatic.Choice) → All (IsFrame mtu) frames → Matches answer frames c → MayOpenIf mtu answer frames
may_open_if mtu None frames c are is = tt
may_open_if mtu (Some answer) frames None are is = absurd is
may_open_if mtu (Some answer) frames (Some c) are is = may_open mtu answer frames c are is

-- The reported call begins if no call is open, and is no Stop.
may_offer : (key : RunSetup) (frame : List ℕ) → IsFrame key.queue.mtu frame → IsOffered (link_config_of key) frame
may_offer key frame f = record { least = f.0; most = f.1; bytes = f.2 }

begins_recorded : (key : RunSetup) (s : DerivedState) (answer : Choice) (frames : List (List ℕ)) → Frames key frames → s.place ≡ Closed → Begins (link_config_of key) s (call_of answer frames)
begins_recorded key s Tick frames are closed = (closed, λ e. absurd (cc), tt)
begins_recorded key s Offer [] are closed = tt
begins_recorded key s Offer (frame ∷ frames) are closed = (closed, λ e. absurd (cc), may_offer key frame (first_frame key.queue.mtu frame frames are))
begins_recorded key s Poll frames are closed = (closed, λ e. absurd (cc), tt)
begins_recorded key s Finished frames are closed = tt

begins_if : (key : RunSetup) (r : Runner) (s : DerivedState) (answer : Option Choice) (frames : List (List ℕ)) → Frames key frames → Matches answer frames (chosen r) → (r.place ≡ Closed → s.place ≡ Closed) → Begins (link_config_of key) s (call_chosen_by answer frames)
begins_if key r s None frames are is closed = tt
begins_if key r s (Some answer) frames are is closed = begins_recorded key s answer frames are (closed (shut_place r.place (chosen_where (is_open r.place) _ answer frames is).0))

-- The place of the access is the same for the derived state, if the place is settled.
same_place : (config : EndConfig) (r : Runner) (call : Option Call) → (call ≡ None → settled_place r.place ≡ r.place) → (begun_if config (derived_state_of r) call).place ≡ place_for config r.end r.place call
same_place config r None is = is refl
same_place config r (Some call) is = refl

pub at_none : (config : EndConfig) (end : End) (place : Place) (call : Option Call) → call ≡ None → place_for config end place call ≡ place
at_none config end place None is = refl
at_none config end place (Some call) is = absurd (cc)

-- The place of an access to a word, for the derived state.
pub settled_same : (config : EndConfig) (r : Runner) → touches (access_at config (place_in config r)) ≡ true → (begun_if config (derived_state_of r) (call_chosen (chosen r))).place ≡ place_in config r
settled_same config r touch = same_place config r (call_chosen (chosen r)) (λ none. let here : place_in config r ≡ r.place = at_none config r.end r.place (call_chosen (chosen r)) none in unsettled config r.place (subst (λ (p : Place). touches (access_at config p) ≡ true) here touch))

-- The number that is met for a State step.

-- At the place of such a turn no number is due. Before the step with 2 the session word is stored,
-- and before the step with 3 the other's number is loaded.
pub record IsMet (place : Place) (met : Option ℕ) (numbers : Numbers) : Type 0 where
  pub two : place ≡ WritingState 2 → (met ≢ None) × (numbers.stored ≡ true)
  pub three : place ≡ WritingState 3 → (other : ℕ) × (met ≡ Some other) × (numbers.loaded ≡ Some other)

met_two : (met : Option ℕ) → due_word (WritingState 2) met ≡ None → (number : ℕ) × (met ≡ Some number)
met_two None due = absurd (cc)
met_two (Some number) due = (number, refl)

met_three : (met : Option ℕ) → due_word (WritingState 3) met ≡ None → (number : ℕ) × (met ≡ Some number)
met_three None due = absurd (cc)
met_three (Some number) due = (number, refl)

is_met : (r : Runner) → HasMet r → due_word r.place r.met ≡ None → IsMet r.place r.met r.numbers
is_met r has due = record {
  two = λ at. let m = met_two r.met (subst (λ (p : Place). due_word p r.met ≡ None) at due) in (λ e. some_none m.0 (sym m.1 ∙ e), has.stored m.0 at m.1);
  three = λ at. let m = met_three r.met (subst (λ (p : Place). due_word p r.met ≡ None) at due) in (m.0, m.1, has.loaded m.0 at m.1);
}
  where
    some_none : (number : ℕ) → Some number ≡ None → ⊥
    some_none number e = cc

-- No call begins at a State step with 2 or 3.
first_met : (config : EndConfig) (end : End) (call : Call) (met : Option ℕ) (n : Numbers) → IsMet (first_place config end call) met n
first_met config end calls.Tick met n = record { two = λ e. absurd (cc); three = λ e. absurd (cc) }
first_met config end calls.Stop met n = record { two = λ e. absurd (cc); three = λ e. absurd (cc) }
first_met config end (calls.Offer frame) met n = elim (calls.in_run end.handshake.phase) as (λ b. IsMet (if b then ReadingUsedIndex (calls.pending_of config end frame) end.freed else NotInRun) met n) [ true ↦ record { two = λ e. absurd (cc); three = λ e. absurd (cc) } | false ↦ record { two = λ e. absurd (cc); three = λ e. absurd (cc) } ]
first_met config end calls.Poll met n = elim (calls.in_run end.handshake.phase) as (λ b. IsMet (if b then ReadingAvailIndex (length end.delivered) (is_last config end.found_none) else NotInRun) met n) [ true ↦ record { two = λ e. absurd (cc); three = λ e. absurd (cc) } | false ↦ record { two = λ e. absurd (cc); three = λ e. absurd (cc) } ]

met_for : (config : EndConfig) (end : End) (place : Place) (call : Option Call) (met : Option ℕ) (n : Numbers) → IsMet place met n → IsMet (place_for config end place call) met n
met_for config end place None met n is = is
met_for config end place (Some call) met n is = first_met config end call met n

pub met_in : (config : EndConfig) (r : Runner) → HasMet r → due_word r.place r.met ≡ None → IsMet (place_in config r) r.met r.numbers
met_in config r has due = met_for config r.end r.place (call_chosen (chosen r)) r.met r.numbers (is_met r has due)

numbered_at : (config : EndConfig) (place : Place) (met : Option ℕ) (n : Numbers) → IsMet place met n → IsNumbered n (access_at config place)
numbered_at config (WritingState state) met n is = (λ e. (is.two (ap WritingState e)).1, λ e none. let t = is.three (ap WritingState e) in some_none t.0 (sym t.2 ∙ none))
  where
    some_none : (number : ℕ) → Some number ≡ None → ⊥
    some_none number e = cc
numbered_at config Refusing met n is = (λ e. absurd (cc), λ e. absurd (cc))
numbered_at config place met n is = tt

-- The access to a word is the next one of the peer.
pub is_next : (key : RunSetup) (me : ℕ) (r : Runner) (answer : Option Choice) (frames : List (List ℕ)) (a : Access) → Frames key frames → Matches answer frames (chosen r) → derived_state key me (accesses_in r.actions) ≡ derived_state_of r → HasMet r → due_word r.place r.met ≡ None →
    is_open (place_in (config_in key me) r) ≡ true → a ≡ access_at (config_in key me) (place_in (config_in key me) r) → touches a ≡ true → IsNext key me (derived_state key me (accesses_in r.actions)) (call_chosen_by answer frames) a
is_next key me r answer frames a are is refines has due opens at touching = let config = config_in key me in
    let call_is : call_chosen_by answer frames ≡ call_chosen (chosen r) = recorded_call answer frames (chosen r) is in
    let touch : touches (access_at config (place_in config r)) ≡ true = ap touches (sym at) ∙ touching in
    let same : (begun_if config (derived_state_of r) (call_chosen_by answer frames)).place ≡ place_in config r = ap (λ (c : Option Call). (begun_if config (derived_state_of r) c).place) call_is ∙ settled_same config r touch in
    subst (λ (s : DerivedState). IsNext key me s (call_chosen_by answer frames) a) (sym refines) (record {
      at_call = begins_if key r (derived_state_of r) answer frames are is (λ closed. ap settled_place closed ∙ settled_closed);
      goes = subst (λ (p : Place). is_open p ≡ true) (sym same) opens;
      is = at ∙ ap (access_at config) (sym same);
      numbered = subst (IsNumbered r.numbers) (sym at) (numbered_at config (place_in config r) r.met r.numbers (met_in config r has due));
    })
