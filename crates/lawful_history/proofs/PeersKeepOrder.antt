-- The stored states of the computed history follow the order of a peer's calls.
use Rattle.std.proofs.Common.{◌≡◌, ℕ, zero, suc, ◌+◌, ◌≤◌, Bool, true, false, List, [], ◌∷◌, length, drop, refl, sym, ◌∙◌, ap, subst, arith, inl, inr}
use Rattle.std.specs.Prelude.{◌&&◌, not, nat_le, if◌then◌else◌, Option, Some, None, slice_get}
use Rattle.std.proofs.lemmas.List.{drop-append-le, length-append}
use Rattle.std.proofs.lemmas.Option.{slice_get_within, same_Some}
use Rattle.split_ring.specs.declared.steps.Access.{Access}
use Rattle.split_ring.specs.declared.steps.Access.TheVariants as access
use Rattle.section_map.specs.MayWrite.{may_write}
use Rattle.scenario_text.specs.Scenario.{World}
use Rattle.call_grammar.specs.Steps.{Mark, Saw, Step, step_of}
use Rattle.call_grammar.specs.Trees.{CallTree, Ended, Does, Reads}
use Rattle.call_grammar.specs.Ends.{after_reset, end_after}
use Rattle.call_grammar.specs.Calls.{EndConfig, Call, Tick, Offer, Poll, in_run, tree_of}
use Rattle.call_grammar.specs.Automatic.{Chosen, Choice, ChoosesTick, ChoosesOffer, ChoosesPoll, IsFinished, Round, Anew, AfterOffer, AfterPoll, is_anew, was_offer, is_empty, first_or_poll, choice_by_rule, round_since}
use Rattle.call_grammar.proofs.AutomaticRounds.{rounds_keep_the_rule}
use Rattle.lawful_history.specs.declared.line.Line.{Line}
use Rattle.lawful_history.specs.Memory.{last_write}
use Rattle.lawful_history.specs.Schedule.{CallQueued, AutoStarted, StormStarted, TurnTaken, RegionAccessed, DeviceReset, DeviceAccessed, InterruptDropped, InterruptRepeated}
use Rattle.lawful_history.specs.Sides.{config_of}
use Rattle.lawful_history.specs.Storm.{storm_after}
use Rattle.lawful_history.specs.Peers.{Auto, Driver, Chooses, Peer, with_call_by, cut, with_choice, chosen, opened_by, opened, counted, counted_all, driver_after}
use Rattle.lawful_history.specs.Order.{Chooser, Nobody, TheRule, TheStorm, chooser, queued_with, queued_since_reset, with_frame, without_accepted, without_all_accepted, frames_left, with_delivered, with_all_delivered, delivered_in, Progress, chooses, chooses_by, chosen_next, queued_or_chosen, begins_by, begins, goes_to, IdleStep, CallStep, IsMade, cut_call, reset_progress, noted}
use Rattle.lawful_history.specs.History.{driven_step, driven, step_by, moved_by, acted_step, driver_of, peer_of_progress, IsWithin, GoesOnInOrder, PeersKeepOrder}

-- The waiting calls

drop_none : (calls : List Call) (n : ℕ) → slice_get calls n ≡ None → drop n calls ≡ []
drop_none [] zero is = refl
drop_none [] (suc n) is = refl
drop_none (call ∷ calls) zero is = absurd (cc)
drop_none (call ∷ calls) (suc n) is = drop_none calls n is

drop_some : (calls : List Call) (n : ℕ) (call : Call) → slice_get calls n ≡ Some call → drop n calls ≡ call ∷ drop (suc n) calls
drop_some [] zero call is = absurd (cc)
drop_some [] (suc n) call is = absurd (cc)
drop_some (first ∷ calls) zero call is = ap (λ (c : Call). c ∷ calls) (same_Some first call is)
drop_some (first ∷ calls) (suc n) call is = drop_some calls n call is

-- The call that a turn begins

-- An Offer or a Poll is chosen only in RUN.
offers_in_run : (b : Bool) (anew offer finished : Bool) (frames : List (List ℕ)) (frame : List ℕ) →
    (if finished then IsFinished else if not b then ChoosesTick else if anew then first_or_poll frames else if offer then ChoosesPoll else ChoosesTick) ≡ ChoosesOffer frame → b ≡ true
offers_in_run true anew offer finished frames frame is = refl
offers_in_run false anew offer true frames frame is = absurd (cc)
offers_in_run false anew offer false frames frame is = absurd (cc)

polls_in_run : (b : Bool) (anew offer finished : Bool) (frames : List (List ℕ)) →
    (if finished then IsFinished else if not b then ChoosesTick else if anew then first_or_poll frames else if offer then ChoosesPoll else ChoosesTick) ≡ ChoosesPoll → b ≡ true
polls_in_run true anew offer finished frames is = refl
polls_in_run false anew offer true frames is = absurd (cc)
polls_in_run false anew offer false frames is = absurd (cc)

-- The stored state of a peer, with this choice and this round.
abbrev with_rule : EndConfig → Progress → ℕ → Call → Round → Peer
with_rule config peer expected call round = record {
  end = peer.end;
  left = tree_of config peer.end call;
  waiting = drop peer.begun (queued_since_reset peer.past);
  driver = Chooses (record { frames = frames_left peer.past; expected = expected; delivered = delivered_in peer.past; round = round });
}

-- A choice is stored as its round.
chosen_kept : (config : EndConfig) (peer : Progress) (expected : ℕ) (call : Call) (round : Round) → chooser peer.past ≡ TheRule expected →
    round_since (Some (record { call = call; phase = peer.end.handshake.phase; was_reset = false })) ≡ round →
    with_rule config peer expected call round ≡ peer_of_progress (chooses config peer call)
chosen_kept config peer expected call round rule is =
    ap (λ (r : Round). with_rule config peer expected call r) (sym is) ∙
    ap (λ (c : Chooser). record {
      end = peer.end;
      left = tree_of config peer.end call;
      waiting = drop peer.begun (queued_since_reset peer.past);
      driver = driver_of (frames_left peer.past) (delivered_in peer.past) (Some (record { call = call; phase = peer.end.handshake.phase; was_reset = false })) peer.generator c;
    }) (sym rule)

opens_choice : (config : EndConfig) (peer : Progress) (expected : ℕ) (choice : Choice) → chooser peer.past ≡ TheRule expected →
    choice_by_rule peer.end.handshake.phase peer.before (frames_left peer.past) (delivered_in peer.past) expected ≡ choice →
    with_choice config (peer_of_progress peer) (record { frames = frames_left peer.past; expected = expected; delivered = delivered_in peer.past; round = round_since peer.before }) choice
    ≡ peer_of_progress (chooses_by config peer choice)
opens_choice config peer expected ChoosesTick rule is = chosen_kept config peer expected Tick Anew rule refl
opens_choice config peer expected (ChoosesOffer frame) rule is =
    let run = offers_in_run (in_run peer.end.handshake.phase) (is_anew peer.before) (was_offer peer.before) (is_empty (frames_left peer.past) && nat_le expected (delivered_in peer.past)) (frames_left peer.past) frame is in
    chosen_kept config peer expected (Offer frame) AfterOffer rule (ap (λ (b : Bool). if not b then Anew else AfterOffer) run)
opens_choice config peer expected ChoosesPoll rule is =
    let run = polls_in_run (in_run peer.end.handshake.phase) (is_anew peer.before) (was_offer peer.before) (is_empty (frames_left peer.past) && nat_le expected (delivered_in peer.past)) (frames_left peer.past) is in
    chosen_kept config peer expected Poll AfterPoll rule (ap (λ (b : Bool). if not b then Anew else AfterPoll) run)
opens_choice config peer expected IsFinished rule is = refl

opens_chosen : (config : EndConfig) (peer : Progress) (c : Chooser) → chooser peer.past ≡ c →
    chosen config (peer_of_progress peer) (driver_of (frames_left peer.past) (delivered_in peer.past) peer.before peer.generator c) ≡ peer_of_progress (chosen_next config peer c)
opens_chosen config peer Nobody is = refl
opens_chosen config peer (TheRule expected) is =
    ap (λ (choice : Choice). with_choice config (peer_of_progress peer) (record { frames = frames_left peer.past; expected = expected; delivered = delivered_in peer.past; round = round_since peer.before }) choice)
    (rounds_keep_the_rule peer.end.handshake.phase peer.before (frames_left peer.past) (delivered_in peer.past) expected)
    ∙ opens_choice config peer expected _ is refl
opens_chosen config peer TheStorm is = refl

opens_asked : (config : EndConfig) (peer : Progress) (call : Option Call) → slice_get (queued_since_reset peer.past) peer.begun ≡ call →
    opened_by config (peer_of_progress peer) Ended (drop peer.begun (queued_since_reset peer.past)) ≡ peer_of_progress (queued_or_chosen config peer call)
opens_asked config peer None is =
    ap (λ (calls : List Call). opened_by config (peer_of_progress peer) Ended calls) (drop_none (queued_since_reset peer.past) peer.begun is) ∙ opens_chosen config peer (chooser peer.past) refl
opens_asked config peer (Some call) is =
    let next : suc peer.begun ≡ peer.begun + 1 = omega arith in
    ap (λ (calls : List Call). opened_by config (peer_of_progress peer) Ended calls) (drop_some (queued_since_reset peer.past) peer.begun call is) ∙
    ap (λ (n : ℕ). record {
      end = peer.end;
      left = tree_of config peer.end call;
      waiting = drop n (queued_since_reset peer.past);
      driver = driver_of (frames_left peer.past) (delivered_in peer.past) peer.before peer.generator (chooser peer.past);
    }) next

opens_by : (config : EndConfig) (peer : Progress) (left : CallTree) → opened_by config (peer_of_progress peer) left (drop peer.begun (queued_since_reset peer.past)) ≡ peer_of_progress (begins_by config peer left)
opens_by config peer Ended = opens_asked config peer _ refl
opens_by config peer (Does a marks rest) = refl
opens_by config peer (Reads word marks rest) = refl

opens : (config : EndConfig) (peer : Progress) → opened config (peer_of_progress peer) ≡ peer_of_progress (begins config peer)
opens config peer = opens_by config peer peer.left

choice_within : (config : EndConfig) (peer : Progress) (choice : Choice) → IsWithin peer → IsWithin (chooses_by config peer choice)
choice_within config peer ChoosesTick within = within
choice_within config peer (ChoosesOffer frame) within = within
choice_within config peer ChoosesPoll within = within
choice_within config peer IsFinished within = within

chosen_within : (config : EndConfig) (peer : Progress) (c : Chooser) → IsWithin peer → IsWithin (chosen_next config peer c)
chosen_within config peer Nobody within = within
chosen_within config peer (TheRule expected) within = choice_within config peer _ within
chosen_within config peer TheStorm within = within

asked_within : (config : EndConfig) (peer : Progress) (call : Option Call) → slice_get (queued_since_reset peer.past) peer.begun ≡ call → IsWithin peer → IsWithin (queued_or_chosen config peer call)
asked_within config peer None is within = chosen_within config peer (chooser peer.past) within
asked_within config peer (Some call) is within = let below = slice_get_within (queued_since_reset peer.past) peer.begun call is in omega arith

begins_within : (config : EndConfig) (peer : Progress) (left : CallTree) → IsWithin peer → IsWithin (begins_by config peer left)
begins_within config peer Ended within = asked_within config peer _ refl within
begins_within config peer (Does a marks rest) within = within
begins_within config peer (Reads word marks rest) within = within

-- A turn

one_counted : (auto : Auto) (mark : Mark) → counted auto mark ≡ record auto { frames = without_accepted mark auto.frames; delivered = with_delivered mark auto.delivered }
one_counted auto (Saw value) = refl
one_counted auto _ = refl

all_counted : (auto : Auto) (marks : List Mark) → counted_all auto marks ≡ record auto { frames = without_all_accepted marks auto.frames; delivered = with_all_delivered marks auto.delivered }
all_counted auto [] = refl
all_counted auto (mark ∷ marks) =
    ap (λ (a : Auto). counted_all a marks) (one_counted auto mark) ∙ all_counted (record auto { frames = without_accepted mark auto.frames; delivered = with_delivered mark auto.delivered }) marks

driver_kept : (frames : List (List ℕ)) (delivered : ℕ) (before : Option Chosen) (generator : ℕ) (c : Chooser) (marks : List Mark) →
    driver_after (driver_of frames delivered before generator c) marks ≡ driver_of (without_all_accepted marks frames) (with_all_delivered marks delivered) before generator c
driver_kept frames delivered before generator Nobody marks = refl
driver_kept frames delivered before generator (TheRule expected) marks =
    ap (λ (a : Auto). Chooses a) (all_counted (record { frames = frames; expected = expected; delivered = delivered; round = round_since before }) marks)
driver_kept frames delivered before generator TheStorm marks = refl

-- The driver after a step of a call.
stepped_kept : (peer : Progress) (step : Step) (left : CallTree) →
    record (peer_of_progress peer) { end = end_after peer.end step; left = left; driver = driver_after (peer_of_progress peer).driver step.marks }
    ≡ record {
      end = end_after peer.end step;
      left = left;
      waiting = drop peer.begun (queued_since_reset peer.past);
      driver = driver_of (without_all_accepted step.marks (frames_left peer.past)) (with_all_delivered step.marks (delivered_in peer.past)) peer.before peer.generator (chooser peer.past);
    }
stepped_kept peer step left =
    ap (λ (d : Driver). record { end = end_after peer.end step; left = left; waiting = drop peer.begun (queued_since_reset peer.past); driver = d })
    (driver_kept (frames_left peer.past) (delivered_in peer.past) peer.before peer.generator (chooser peer.past) step.marks)

-- A turn of this driver without a call.
abbrev IdlesOn : World → ℕ → Progress → List Line → Chooser → Driver → Type 0
IdlesOn world p peer device c driver =
    (mid : Progress) × IdleStep world p peer c (driven_step world p driver) mid
    × (driven (peer_of_progress peer) driver ≡ peer_of_progress (noted mid (record { event = TurnTaken p; went = driven_step world p driver; device = device })))
    × IsWithin (noted mid (record { event = TurnTaken p; went = driven_step world p driver; device = device }))

idles_on : (world : World) (p : ℕ) (peer : Progress) (device : List Line) (c : Chooser) → chooser peer.past ≡ c → IsWithin peer →
    IdlesOn world p peer device c (driver_of (frames_left peer.past) (delivered_in peer.past) peer.before peer.generator c)
idles_on world p peer device Nobody is within = (peer, (refl, refl), refl, within)
idles_on world p peer device (TheRule expected) is within = (peer, (refl, refl), refl, within)
idles_on world p peer device TheStorm is within = (
  record peer { generator = storm_after peer.generator },
  (refl, refl),
  ap (λ (c : Chooser). record {
    end = peer.end;
    left = peer.left;
    waiting = drop peer.begun (queued_since_reset peer.past);
    driver = driver_of (frames_left peer.past) (delivered_in peer.past) peer.before (storm_after peer.generator) c;
  }) (sym is),
  within,
)

abbrev MovesOn : World → ℕ → Progress → List Line → List Line → CallTree → Type 0
MovesOn world p peer past device left =
    (mid : Progress) × CallStep world p peer left (step_by world p (peer_of_progress peer).driver left past) mid
    × (moved_by (peer_of_progress peer) left past ≡ peer_of_progress (noted mid (record { event = TurnTaken p; went = step_by world p (peer_of_progress peer).driver left past; device = device })))
    × IsWithin (noted mid (record { event = TurnTaken p; went = step_by world p (peer_of_progress peer).driver left past; device = device }))

moves_on : (world : World) (p : ℕ) (peer : Progress) (past device : List Line) (left : CallTree) → IsWithin peer → MovesOn world p peer past device left
moves_on world p peer past device Ended within = idles_on world p peer device (chooser peer.past) refl within
moves_on world p peer past device (Does a marks rest) within =
    let step = step_of a 0 marks in (goes_to peer step rest, (step, rest, refl, (refl, refl), refl), stepped_kept peer step rest, within)
moves_on world p peer past device (Reads word marks rest) within =
    let value = last_write past word in
    let step = step_of (access.Read word) value (marks value) in
    (goes_to peer step (rest value), (step, rest value, refl, (value, refl, refl), refl), stepped_kept peer step (rest value), within)

-- The other events

-- A queued call waits, but a frame for an automatic end is one of its frames.
asked_kept : (peer : Progress) (c : Chooser) (call : Call) (calls : List Call) (frames : List (List ℕ)) → peer.begun ≤ length calls →
    with_call_by (record { end = peer.end; left = peer.left; waiting = drop peer.begun calls; driver = driver_of frames (delivered_in peer.past) peer.before peer.generator c })
    (driver_of frames (delivered_in peer.past) peer.before peer.generator c) call
    ≡ record {
      end = peer.end;
      left = peer.left;
      waiting = drop peer.begun (queued_with c call calls);
      driver = driver_of (with_frame call frames) (delivered_in peer.past) peer.before peer.generator c;
    }
asked_kept peer (TheRule expected) (Offer frame) calls frames within = refl
asked_kept peer c call calls frames within = rw (drop-append-le peer.begun calls (call ∷ []) within) refl

more_asked : (begun : ℕ) (c : Chooser) (call : Call) (calls : List Call) → begun ≤ length calls → begun ≤ length (queued_with c call calls)
more_asked begun (TheRule expected) (Offer frame) calls within = within
more_asked begun c call calls within = omega (arith, length-append calls (call ∷ []))

cut_kept : (frames : List (List ℕ)) (delivered : ℕ) (before : Option Chosen) (generator : ℕ) (c : Chooser) →
    cut (driver_of frames delivered before generator c) ≡ driver_of frames delivered (cut_call before) generator c
cut_kept frames delivered before generator Nobody = refl
cut_kept frames delivered None generator (TheRule expected) = refl
cut_kept frames delivered (Some before) generator (TheRule expected) = refl
cut_kept frames delivered before generator TheStorm = refl

write_made : (word value : ℕ) (b : Bool) → IsMade (access.Write word value) (if b then Some (step_of (access.Write word value) 0 []) else None)
write_made word value true = inl refl
write_made word value false = inr refl

acted_made : (world : World) (p : ℕ) (a : Access) (past : List Line) → IsMade a (acted_step world p a past)
acted_made world p (access.Read word) past = (_, refl)
acted_made world p (access.Write word value) past = write_made word value (may_write world.geometry p word)
acted_made world p (access.State state) past = refl
acted_made world p (access.Ring target vector) past = refl
acted_made world p access.Nothing past = refl

-- A turn of a peer with a stored state.
turn_kept : (world : World) (p : ℕ) (peer : Progress) (past device : List Line) → IsWithin peer → GoesOnInOrder world peer past (TurnTaken p) device
turn_kept world p peer past device within =
    let config = config_of world p in
    let on = moves_on world p (begins config peer) past device (begins config peer).left (begins_within config peer peer.left within) in
    subst (λ (x : Peer).
    (mid : Progress) × CallStep world p (begins config peer) (begins config peer).left (step_by world p x.driver x.left past) mid
    × (moved_by x x.left past ≡ peer_of_progress (noted mid (record { event = TurnTaken p; went = step_by world p x.driver x.left past; device = device })))
    × IsWithin (noted mid (record { event = TurnTaken p; went = step_by world p x.driver x.left past; device = device }))) (sym (opens config peer)) on

pub keeps_order : PeersKeepOrder
keeps_order world peer past (CallQueued p call) device within =
    (peer, (refl, refl), asked_kept peer (chooser peer.past) call (queued_since_reset peer.past) (frames_left peer.past) within, more_asked peer.begun (chooser peer.past) call (queued_since_reset peer.past) within)
keeps_order world peer past (AutoStarted p expected) device within = (record peer { before = None }, (refl, refl), refl, within)
keeps_order world peer past (StormStarted p seed) device within = (record peer { generator = seed }, (refl, refl), refl, within)
keeps_order world peer past (TurnTaken p) device within = turn_kept world p peer past device within
keeps_order world peer past (RegionAccessed p a) device within = (peer, (acted_made world p a past, refl), refl, within)
keeps_order world peer past (DeviceReset p) device within = (
  reset_progress peer,
  (refl, refl),
  ap (λ (d : Driver). record { end = after_reset peer.end; left = Ended; waiting = []; driver = d })
      (cut_kept (frames_left peer.past) (delivered_in peer.past) peer.before peer.generator (chooser peer.past)),
  omega arith,
)
keeps_order world peer past (DeviceAccessed p a) device within = (peer, (refl, refl), refl, within)
keeps_order world peer past (InterruptDropped p) device within = (peer, (refl, refl), refl, within)
keeps_order world peer past (InterruptRepeated p vector) device within = (peer, (refl, refl), refl, within)
