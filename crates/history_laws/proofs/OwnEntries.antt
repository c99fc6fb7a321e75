-- An honest link peer along its own event records: its permitted calls, its turns, and the
-- invariant of its end.
use Rattle.std.proofs.Common.{◌≡◌, ◌≢◌, ℕ, zero, suc, ◌<◌, ◌⊎◌, inl, inr, Bool, true, false, List, [], ◌∷◌, refl, sym, ap, ◌∙◌, subst}
use Rattle.std.specs.Prelude.{◌==◌, ◌&&◌, nat_le, if◌then◌else◌, Option, Some, None, slice_get}
use Rattle.std.specs.List.{AllByRecursion}
use Rattle.std.proofs.lemmas.Option.{same_Some}
use Rattle.split_ring.specs.declared.steps.Access.{Access}
use Rattle.split_ring.specs.declared.steps.Access.TheVariants as access
use Rattle.scenario_text.specs.Scenario.{World, IsWorld, is_link}
use Rattle.call_grammar.specs.Steps.{Mark, Accept, Step}
use Rattle.call_grammar.specs.Trees.{CallTree, Ended, Does, Reads, Goes}
use Rattle.call_grammar.specs.Ends.{End, fresh, after_reset, end_after}
use Rattle.call_grammar.specs.Calls.{EndConfig, Call, Tick, Offer, Poll, tree_of}
use Rattle.call_grammar.specs.Automatic.{Choice, ChoosesTick, ChoosesOffer, ChoosesPoll, IsFinished, is_anew, was_offer, is_empty, first_or_poll, choice_by_rule}
use Rattle.call_grammar.specs.Places.{Place, Closed, first_place, access_at, next_place, remaining}
use Rattle.call_grammar.specs.StepBounds.{HasFewInFlight}
use Rattle.call_grammar.proofs.PlacesFollowTrees.{following}
use Rattle.call_grammar.proofs.CallsAreLists.{takes_a_step}
use Rattle.link_invariant.specs.LinkConfig as pair
use Rattle.link_invariant.specs.LinkConfig.{IsOffered, IsGivenTo}
use Rattle.link_invariant.specs.Steps.{MemoryAfter}
use Rattle.link_invariant.specs.EndInvariant.{EndInvariant}
use Rattle.link_invariant.proofs.EndInvariantKept.{alone_kept}
use Rattle.link_invariant.proofs.PairKept.{starts_alone}
use Rattle.lawful_history.specs.Schedule.{Event, CallQueued, AutoStarted, StormStarted, TurnTaken, DeviceReset, event_peer}
use Rattle.lawful_history.specs.Sides.{config_of}
use Rattle.lawful_history.specs.EventRecords.{EventRecord}
use Rattle.lawful_history.specs.Order.{Chooser, Nobody, TheRule, TheStorm, chooser_after, chooser, queued_with, queued_after, queued_since_reset, marks_of, with_frame, without_accepted, without_all_accepted, frames_after, frames_left, delivered_in, Progress, chooses_by, chosen_next, queued_or_chosen, begins_by, GoesOn, CallStep, Turns}
use Rattle.history_laws.specs.Calls.{call_chosen, chosen_call, asked_or_chosen_call, next_call}
use Rattle.history_laws.proofs.PermittedEvents.{link_config_of, is_link_config, IsProper}
use Rattle.lawful_history.proofs.Left.{HoldsOfOffer, but_first}
use Rattle.history_laws.proofs.QueuedCalls.{waiting_given, frames_offered}
use Rattle.history_laws.proofs.OtherLines.{here_is}
use Rattle.history_laws.proofs.StepLines.{stored_at}
use Rattle.history_laws.proofs.Turns.{ended_is_closed, goes_is_open}

-- The permitted calls of a peer

abbrev pub IsCalm : Chooser → Type 0
IsCalm Nobody = Unit {0}
IsCalm (TheRule expected) = Unit {0}
IsCalm TheStorm = ⊥

-- The queued calls and the frames of an automatic end are permitted, and the peer has no storm.
pub record MayCall (world : World) (past : List EventRecord) : Type 0 where
  pub asked : AllByRecursion (IsGivenTo (link_config_of world)) (queued_since_reset past)
  pub frames : AllByRecursion (IsOffered (link_config_of world)) (frames_left past)
  pub calm : IsCalm (chooser past)

asked_with_given : (world : World) (c : Chooser) (call : Call) (calls : List Call) → IsGivenTo (link_config_of world) call → AllByRecursion (IsGivenTo (link_config_of world)) calls → AllByRecursion (IsGivenTo (link_config_of world)) (queued_with c call calls)
asked_with_given world (TheRule expected) (Offer frame) calls this given = given
asked_with_given world c call calls this given = waiting_given (IsGivenTo (link_config_of world)) calls call given this

asked_given : (world : World) (event : Event) (c : Chooser) (calls : List Call) → IsProper world event → AllByRecursion (IsGivenTo (link_config_of world)) calls → AllByRecursion (IsGivenTo (link_config_of world)) (queued_after event c calls)
asked_given world (CallQueued p call) c calls proper given = asked_with_given world c call calls proper.1 given
asked_given world (DeviceReset p) c calls proper given = tt
asked_given world event c calls proper given = given

with_frame_offered : (world : World) (call : Call) (frames : List (List ℕ)) → IsGivenTo (link_config_of world) call → AllByRecursion (IsOffered (link_config_of world)) frames → AllByRecursion (IsOffered (link_config_of world)) (with_frame call frames)
with_frame_offered world (Offer frame) frames this given = frames_offered world frames frame given this
with_frame_offered world call frames this given = given

accepted_offered : (world : World) (mark : Mark) (frames : List (List ℕ)) → AllByRecursion (IsOffered (link_config_of world)) frames → AllByRecursion (IsOffered (link_config_of world)) (without_accepted mark frames)
accepted_offered world (Accept frame) frames given = but_first (IsOffered (link_config_of world)) frames given
accepted_offered world mark frames given = given

all_accepted_offered : (world : World) (marks : List Mark) (frames : List (List ℕ)) → AllByRecursion (IsOffered (link_config_of world)) frames → AllByRecursion (IsOffered (link_config_of world)) (without_all_accepted marks frames)
all_accepted_offered world [] frames given = given
all_accepted_offered world (mark ∷ marks) frames given = all_accepted_offered world marks (without_accepted mark frames) (accepted_offered world mark frames given)

frames_given : (world : World) (event : Event) (went : Option Step) (frames : List (List ℕ)) → IsProper world event → AllByRecursion (IsOffered (link_config_of world)) frames → AllByRecursion (IsOffered (link_config_of world)) (frames_after event went frames)
frames_given world (CallQueued p call) went frames proper given = with_frame_offered world call frames proper.1 given
frames_given world (AutoStarted p expected) went frames proper given = tt
frames_given world (TurnTaken p) went frames proper given = all_accepted_offered world (marks_of went) frames given
frames_given world event went frames proper given = given

calm_after : (world : World) (event : Event) (c : Chooser) → is_link world (event_peer event) ≡ true → IsProper world event → IsCalm c → IsCalm (chooser_after event c)
calm_after world (AutoStarted p expected) c honest proper calm = tt
calm_after world (StormStarted p seed) c honest proper calm = let no : true ≡ false = sym honest ∙ proper in absurd (cc)
calm_after world event c honest proper calm = calm

pub may_call_on : (world : World) (entry : EventRecord) (past : List EventRecord) → is_link world (event_peer entry.event) ≡ true → IsProper world entry.event → MayCall world past → MayCall world (entry ∷ past)
may_call_on world entry past honest proper may = record {
  asked = asked_given world entry.event (chooser past) (queued_since_reset past) proper may.asked;
  frames = frames_given world entry.event entry.went (frames_left past) proper may.frames;
  calm = calm_after world entry.event (chooser past) honest proper may.calm;
}

-- The next call

rule_suits : (world : World) (finished outside anew offer : Bool) (frames : List (List ℕ)) → AllByRecursion (IsOffered (link_config_of world)) frames →
    HoldsOfOffer (IsOffered (link_config_of world)) (if finished then IsFinished else if outside then ChoosesTick else if anew then first_or_poll frames else if offer then ChoosesPoll else ChoosesTick)
rule_suits world true outside anew offer frames given = tt
rule_suits world false true anew offer frames given = tt
rule_suits world false false true offer [] given = tt
rule_suits world false false true offer (frame ∷ frames) given = given.0
rule_suits world false false false true frames given = tt
rule_suits world false false false false frames given = tt

choice_given : (world : World) (choice : Choice) (call : Call) → HoldsOfOffer (IsOffered (link_config_of world)) choice → call_chosen choice ≡ Some call → IsGivenTo (link_config_of world) call
choice_given world ChoosesTick call suits is = subst (IsGivenTo (link_config_of world)) (same_Some Tick call is) tt
choice_given world (ChoosesOffer frame) call suits is = subst (IsGivenTo (link_config_of world)) (same_Some (Offer frame) call is) suits
choice_given world ChoosesPoll call suits is = subst (IsGivenTo (link_config_of world)) (same_Some Poll call is) tt
choice_given world IsFinished call suits is = absurd (cc)

element_given : (P : Call → Type 0) (calls : List Call) (k : ℕ) (call : Call) → AllByRecursion P calls → slice_get calls k ≡ Some call → P call
element_given P [] k call given is = absurd (cc)
element_given P (first ∷ calls) zero call given is = subst P (same_Some first call is) given.0
element_given P (first ∷ calls) (suc k) call given is = element_given P calls k call given.1 is

chosen_given : (world : World) (peer : Progress) (c : Chooser) (call : Call) → MayCall world peer.past → chosen_call peer c ≡ Some call → IsGivenTo (link_config_of world) call
chosen_given world peer Nobody call may is = absurd (cc)
chosen_given world peer (TheRule expected) call may is =
    choice_given world (choice_by_rule peer.end.handshake.phase peer.before (frames_left peer.past) (delivered_in peer.past) expected) call
    (rule_suits world (is_empty (frames_left peer.past) && nat_le expected (delivered_in peer.past)) _ (is_anew peer.before) (was_offer peer.before) (frames_left peer.past) may.frames) is
chosen_given world peer TheStorm call may is = absurd (cc)

next_by_given : (world : World) (peer : Progress) (asked : Option Call) (call : Call) → slice_get (queued_since_reset peer.past) peer.begun ≡ asked → MayCall world peer.past → asked_or_chosen_call peer asked ≡ Some call → IsGivenTo (link_config_of world) call
next_by_given world peer None call at may is = chosen_given world peer (chooser peer.past) call may is
next_by_given world peer (Some first) call at may is = element_given (IsGivenTo (link_config_of world)) (queued_since_reset peer.past) peer.begun call may.asked (at ∙ is)

pub next_given : (world : World) (peer : Progress) (call : Call) → MayCall world peer.past → next_call peer ≡ Some call → IsGivenTo (link_config_of world) call
next_given world peer call may is = next_by_given world peer (slice_get (queued_since_reset peer.past) peer.begun) call refl may is

-- A turn

-- The peer makes this step of the call.
pub record TakesStep (tree : CallTree) (old : Progress) (went : Option Step) (new : Progress) : Type 0 where
  pub step : Step
  pub left : CallTree
  pub is : went ≡ Some step
  pub goes : Goes tree step left
  pub end_is : new.end ≡ end_after old.end step
  pub left_is : new.left ≡ left
  pub past_is : new.past ≡ old.past

-- The first step of the next call.
pub record BeginsNext (config : EndConfig) (old : Progress) (went : Option Step) (new : Progress) : Type 0 where
  pub call : Call
  pub next : next_call old ≡ Some call
  pub closed : old.left ≡ Ended
  pub takes : TakesStep (tree_of config old.end call) old went new

-- No step, the first step of the next call, or a step of the open call.
abbrev pub TurnIs : EndConfig → Progress → Option Step → Progress → Type 0
TurnIs config old went new = ((went ≡ None) × (new ≡ old)) ⊎ (BeginsNext config old went new ⊎ TakesStep old.left old went new)

-- There is no next call, or it is this one, which is open then.
abbrev Opens : EndConfig → Progress → Option Call → Progress → Type 0
Opens config old next new = ((new ≡ old)) ⊎ ((call : Call) × (next ≡ Some call) × (new.left ≡ tree_of config old.end call) × (new.end ≡ old.end) × (new.past ≡ old.past))

opens_choice : (config : EndConfig) (old : Progress) (choice : Choice) → Opens config old (call_chosen choice) (chooses_by config old choice)
opens_choice config old ChoosesTick = inr (Tick, refl, refl, refl, refl)
opens_choice config old (ChoosesOffer frame) = inr (Offer frame, refl, refl, refl, refl)
opens_choice config old ChoosesPoll = inr (Poll, refl, refl, refl, refl)
opens_choice config old IsFinished = inl refl

opens_chosen : (config : EndConfig) (old : Progress) (c : Chooser) → Opens config old (chosen_call old c) (chosen_next config old c)
opens_chosen config old Nobody = inl refl
opens_chosen config old (TheRule expected) = opens_choice config old (choice_by_rule old.end.handshake.phase old.before (frames_left old.past) (delivered_in old.past) expected)
opens_chosen config old TheStorm = inl refl

opens_next : (config : EndConfig) (old : Progress) (asked : Option Call) → Opens config old (asked_or_chosen_call old asked) (queued_or_chosen config old asked)
opens_next config old None = opens_chosen config old (chooser old.past)
opens_next config old (Some call) = inr (call, refl, refl, refl, refl)

goes_on : (old peer : Progress) (tree : CallTree) (went : Option Step) (new : Progress) → peer.end ≡ old.end → peer.past ≡ old.past → GoesOn peer tree went new → TakesStep tree old went new
goes_on old peer tree went new end_is past_is goes = record {
  step = goes.0;
  left = goes.1;
  is = goes.2;
  goes = goes.3;
  end_is = ap (λ (x : Progress). x.end) goes.4 ∙ ap (λ (e : End). end_after e goes.0) end_is;
  left_is = ap (λ (x : Progress). x.left) goes.4;
  past_is = ap (λ (x : Progress). x.past) goes.4 ∙ past_is;
}

moves_goes : (world : World) (p : ℕ) (peer : Progress) (tree : CallTree) (went : Option Step) (new : Progress) → tree ≢ Ended → CallStep world p peer tree went new → GoesOn peer tree went new
moves_goes world p peer Ended went new some moves = absurd (some refl)
moves_goes world p peer (Does a marks rest) went new some moves = moves
moves_goes world p peer (Reads word marks rest) went new some moves = moves

idles : (world : World) (p : ℕ) (peer : Progress) (c : Chooser) (went : Option Step) (new : Progress) → IsCalm c → chooser peer.past ≡ c → CallStep world p peer Ended went new → (went ≡ None) × (new ≡ peer)
idles world p peer Nobody went new calm is moves = let now = rw is at moves in now
idles world p peer (TheRule expected) went new calm is moves = let now = rw is at moves in now
idles world p peer TheStorm went new calm is moves = absurd calm

begins_turn : (world : World) (p : ℕ) (old mid : Progress) (went : Option Step) (new : Progress) → old.left ≡ Ended → IsCalm (chooser old.past) → Opens (config_of world p) old (next_call old) mid → CallStep world p mid mid.left went new → TurnIs (config_of world p) old went new
begins_turn world p old mid went new closed calm (inl none) moves =
    let now : CallStep world p old Ended went new = subst (λ (t : CallTree). CallStep world p old t went new) closed (subst (λ (x : Progress). CallStep world p x x.left went new) none moves) in
    inl (idles world p old (chooser old.past) went new calm refl now)
begins_turn world p old mid went new closed calm (inr opens) moves =
    let config = config_of world p in
    let now : CallStep world p mid (tree_of config old.end opens.0) went new = subst (λ (t : CallTree). CallStep world p mid t went new) opens.2 moves in
    inr (inl (record {
      call = opens.0;
      next = opens.1;
      closed = closed;
      takes = goes_on old mid (tree_of config old.end opens.0) went new opens.3 opens.4 (moves_goes world p mid (tree_of config old.end opens.0) went new (takes_a_step config old.end opens.0) now);
    }))

turn_by : (world : World) (p : ℕ) (old : Progress) (left : CallTree) (went : Option Step) (new : Progress) → old.left ≡ left → IsCalm (chooser old.past) →
    CallStep world p (begins_by (config_of world p) old left) (begins_by (config_of world p) old left).left went new → TurnIs (config_of world p) old went new
turn_by world p old Ended went new is calm moves = begins_turn world p old (queued_or_chosen (config_of world p) old (slice_get (queued_since_reset old.past) old.begun)) went new is calm (opens_next (config_of world p) old (slice_get (queued_since_reset old.past) old.begun)) moves
turn_by world p old (Does a marks rest) went new is calm moves = inr (inr (goes_on old old old.left went new refl refl (moves_goes world p old old.left went new (λ e. let no : Does a marks rest ≡ Ended = sym is ∙ e in cc) moves)))
turn_by world p old (Reads word marks rest) went new is calm moves = inr (inr (goes_on old old old.left went new refl refl (moves_goes world p old old.left went new (λ e. let no : Reads word marks rest ≡ Ended = sym is ∙ e in cc) moves)))

pub turn_is : (world : World) (p : ℕ) (old : Progress) (went : Option Step) (new : Progress) → IsCalm (chooser old.past) → Turns world p old went new → TurnIs (config_of world p) old went new
turn_is world p old went new calm turns = turn_by world p old old.left went new refl calm turns

-- The invariant of the end, over words of its own

pub record Keeps (world : World) (p : ℕ) (end : End) (left : CallTree) : Type 0 where
  pub memory : ℕ → ℕ
  pub place : Place
  pub alone : EndInvariant (link_config_of world) memory p end place
  pub rest : remaining (pair.config_of (link_config_of world) p) place ≡ left

pub few_in_flight : (world : World) (p : ℕ) (end : End) (left : CallTree) → Keeps world p end left → HasFewInFlight (config_of world p) end
few_in_flight world p end left k = k.alone.room

pub keeps_at_first : (world : World) (p : ℕ) → Keeps world p fresh Ended
keeps_at_first world p = record {
  memory = λ w. 0;
  place = Closed;
  alone = starts_alone (link_config_of world) (λ w. 0) (λ q. fresh) (λ q. Closed) (λ w. refl) (λ q. refl) (λ q. refl) p;
  rest = refl;
}

pub keeps_begun : (world : World) (p : ℕ) (end : End) (call : Call) → IsWorld world → IsGivenTo (link_config_of world) call → Keeps world p end Ended → Keeps world p end (tree_of (pair.config_of (link_config_of world) p) end call)
keeps_begun world p end call is given k =
    let config = pair.config_of (link_config_of world) p in
    let closed = ended_is_closed config k.place k.rest in
    record {
      memory = k.memory;
      place = first_place config end call;
      alone = alone_kept.begins (link_config_of world) p k.memory end call (is_link_config world is) given (subst (λ (x : Place). EndInvariant (link_config_of world) k.memory p end x) closed k.alone);
      rest = following.begins config end call;
    }

-- The words after an access of this end.
words_after : ℕ → (ℕ → ℕ) → Access → ℕ → ℕ
words_after p memory (access.Write word written) w = if word == w then written else memory w
words_after p memory (access.State state) w = if p == w then state else memory w
words_after p memory a w = memory w

leaves : (p : ℕ) (memory : ℕ → ℕ) (a : Access) → MemoryAfter p memory a (words_after p memory a)
unfolding words_after
leaves p memory (access.Write word written) = record { here = here_is word written (memory word); neighbour_word = λ w ne. stored_at word written memory w ne }
leaves p memory (access.State state) = record { here = here_is p state (memory p); neighbour_word = λ w ne. stored_at p state memory w ne }
leaves p memory (access.Read word) = refl
leaves p memory (access.Ring target vector) = refl
leaves p memory access.Nothing = refl

pub keeps_step : (world : World) (p : ℕ) (end : End) (left new : CallTree) (step : Step) → IsWorld world → p < 2 → Goes left step new → Keeps world p end left → Keeps world p (end_after end step) new
keeps_step world p end left new step is below goes k =
    let config = pair.config_of (link_config_of world) p in
    let here : Goes (remaining config k.place) step new = subst (λ (t : CallTree). Goes t step new) (sym k.rest) goes in
    let g = following.goes config k.place step new here in
    let after = words_after p k.memory (access_at config k.place) in
    record {
      memory = after;
      place = next_place config k.place g.0;
      alone = subst (λ (s : Step). EndInvariant (link_config_of world) after p (end_after end s) (next_place config k.place g.0)) (sym g.1)
          (alone_kept.steps (link_config_of world) p k.memory after end k.place g.0 (is_link_config world is) below (goes_is_open config k.place step new here) (leaves p k.memory (access_at config k.place)) k.alone);
      rest = sym g.2;
    }

pub keeps_reset : (world : World) (p : ℕ) (end : End) (left : CallTree) → IsWorld world → p < 2 → Keeps world p end left → Keeps world p (after_reset end) Ended
keeps_reset world p end left is below k =
    let after : ℕ → ℕ = λ w. if p == w then 0 else k.memory w in
    record {
      memory = after;
      place = Closed;
      alone = alone_kept.resets (link_config_of world) p k.memory after end k.place (is_link_config world is) below (record { here = here_is p 0 (k.memory p); neighbour_word = λ w ne. stored_at p 0 k.memory w ne }) k.alone;
      rest = refl;
    }
