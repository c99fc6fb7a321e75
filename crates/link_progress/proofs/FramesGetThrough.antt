-- Along the rounds of calls: with each round more frames are accepted and returned.
use Rattle.std.proofs.Common.{◌≡◌, ◌≢◌, ℕ, zero, suc, ◌+◌, ◌-◌, ◌*◌, ◌<◌, ◌≤◌, ◌⊎◌, inl, inr, ⊎_elim, Bool, true, false, List, length, refl, sym, ap, ◌∙◌, subst, arith}
use Rattle.std.specs.Prelude.{if◌then◌else◌}
use Rattle.link_handshake.specs.declared.Phase.{Phase}
use Rattle.link_handshake.specs.declared.Phase.TheVariants.{Init, Run}
use Rattle.link_handshake.specs.PhaseTable.{phase_move, state_of}
use Rattle.call_grammar.specs.Ends.{End, end_after}
use Rattle.call_grammar.specs.Ticks.{EndConfig}
use Rattle.call_grammar.specs.Polls.{is_last}
use Rattle.call_grammar.specs.Calls.{Call, Tick, Stop, Offer, Poll, in_run, pending_of}
use Rattle.call_grammar.specs.Places.{Place, Closed, ReadingOtherState, Clearing, WritingState, NotInRun, ReadingUsedIndex, ReadingAvailIndex, first_place, next_place, step_at}
use Rattle.link_invariant.specs.LinkConfig.{LinkConfig, IsLinkConfig, config_of}
use Rattle.link_invariant.specs.EndInvariant.{EndInvariant, counts}
use Rattle.link_invariant.specs.Pair.{Pair}
use Rattle.link_invariant.proofs.EndObligations.{opened}
use Rattle.link_invariant.proofs.PairKept.{pair_kept}
use Rattle.link_invariant.proofs.PairObligations.{facing}
use Rattle.link_progress.specs.Handshake.{Doing, Rests, Reads, Writes, doing_of, next_phase, next_doing, rests}
use Rattle.link_progress.specs.Rounds.{IsUp}
use Rattle.link_progress.specs.Polls.{AlwaysFits}
use Rattle.link_progress.specs.Frames.{Part, Waits, Opens, Ended, begun, ended, CallCount, no_calls, round_with, sender_begins_in, receiver_begins_in, sender_steps_in, receiver_steps_in, CallRounds, starts, sender_begins, sender_steps, receiver_begins, receiver_steps, others, FramesGetThrough}
use Rattle.link_progress.proofs.Machine.{writes}
use Rattle.link_progress.proofs.ComeUp.{doing_at, LeavesMachine, FollowsMachine, step_moves, first_moves}
use Rattle.link_progress.proofs.PollsDeliver.{Reaches, step_reaches, reaches_on, step_grows, opens_none}
use Rattle.link_progress.proofs.OffersFindRoom.{Offers, step_offers, offers_on, step_returns, offers_find_room}

-- An end that stays in RUN

abbrev StaysUp : End → Place → Type 0
StaysUp end place = (end.handshake.phase ≡ Run) × (writes (doing_at place) ≡ false)

never_clears : (link_config : LinkConfig) (memory : ℕ → ℕ) (p : ℕ) (end : End) (place : Place) → EndInvariant link_config memory p end place → IsUp end place → writes (doing_at place) ≡ false
never_clears link_config memory p end (Clearing at more state) a up = let e : Init ≡ Run = sym a.holds.0 ∙ up.0 in absurd (let g : ⊥ = cc in g)
never_clears link_config memory p end (WritingState state) a up = absurd (up.1 state refl)
never_clears link_config memory p end (ReadingOtherState handshake) a up = refl
never_clears link_config memory p end place a up = refl

begins_up : (config : EndConfig) (end : End) (call : Call) → call ≢ Stop → end.handshake.phase ≡ Run → StaysUp end (first_place config end call)
begins_up config end call ne run = (run, ⊎_elim (λ e. ap writes e) (λ e. ap writes e.1) (first_moves config end call Run ne))

reads_state : (doing : Doing) → rests doing ≡ false → writes doing ≡ false → doing ≡ Reads
reads_state Rests h k = let f : true ≡ false = h in absurd (let g : ⊥ = cc in g)
reads_state Reads h k = refl
reads_state (Writes to) h k = let f : true ≡ false = k in absurd (let g : ⊥ = cc in g)

steps_up : (end after : End) (place next : Place) (other : Phase) → LeavesMachine end after place next ⊎ FollowsMachine end after place next other → other ≡ Run → StaysUp end place → StaysUp after next
steps_up end after place next other (inl s) run up = (s.phase ∙ up.0, ap writes s.doing ∙ up.1)
steps_up end after place next other (inr s) run up = let reads = reads_state (doing_at place) s.busy up.1 in (
  s.phase ∙ ap (λ d. next_phase end.handshake.phase d) reads ∙ up.0,
  ap writes (s.doing ∙ ap (λ d. next_doing phase_move end.handshake.phase d other) reads ∙ ap (λ x. doing_of (phase_move x (state_of other))) up.0 ∙ ap (λ x. doing_of (phase_move Run (state_of x))) run),
)

not_init : (phase : Phase) → phase ≡ Run → phase ≢ Init
not_init phase run e = let f : Run ≡ Init = sym run ∙ e in absurd (let g : ⊥ = cc in g)

at_or_above : (a b : ℕ) → (a ≤ b) ⊎ (b < a)
at_or_above zero b = inl (omega arith)
at_or_above (suc a) zero = inr (omega arith)
at_or_above (suc a) (suc b) = ⊎_elim (λ h. inl (omega arith)) (λ h. inr (omega arith)) (at_or_above a b)

-- The number of frames, after those accepted at the start, that are accepted after each round. A
-- round later they are returned.
record Pace (out : ℕ) (pace : ℕ → ℕ) : Type 0 where
  at_start : pace 0 ≡ 0
  at_one : pace 1 ≡ 0
  step : (r : ℕ) → pace (suc r) ≤ pace r + 1
  room : (r : ℕ) → pace (suc (suc r)) ≤ pace r + out + 1

module _ (out base : ℕ) (pace : ℕ → ℕ) where
  -- The offer leads to this number of accepted frames, and the poll to this number of returned
  -- ones.
  abbrev OffersTo : ℕ → Place → End → ℕ → Type 0
  OffersTo target place end returned = (target ≤ length end.accepted) ⊎ ((n : ℕ) × (target ≤ n + 1) × Offers out n place end returned)

  abbrev PollsTo : ℕ → Place → List (List ℕ) → End → Type 0
  PollsTo target w accepted u = (target ≤ u.returned) ⊎ Reaches target w accepted u.delivered

  abbrev OfferPart : Part → ℕ → Place → End → ℕ → Type 0
  OfferPart Waits r place end returned = Unit {0}
  OfferPart Opens r place end returned = OffersTo (base + pace (suc r)) place end returned
  OfferPart Ended r place end returned = base + pace (suc r) ≤ length end.accepted

  abbrev PollPart : Part → ℕ → Place → List (List ℕ) → End → Type 0
  PollPart Waits r w accepted u = Unit {0}
  PollPart Opens r w accepted u = PollsTo (base + pace r) w accepted u
  PollPart Ended r w accepted u = base + pace r ≤ u.returned

  record Held (place : Place) (end : End) (w : Place) (u : End) (count : CallCount) : Type 0 where
    sender_up : StaysUp end place
    receiver_up : StaysUp u w
    accepted : base + pace count.rounds ≤ length end.accepted
    returned : (k : ℕ) → count.rounds ≡ suc k → base + pace k ≤ u.returned
    offer : OfferPart count.offer count.rounds place end u.returned
    poll : PollPart count.poll count.rounds w end.accepted u

  held_as : {place place' w w' : Place} {end end' u u' : End} {count count' : CallCount} → place' ≡ place → end' ≡ end → w' ≡ w → u' ≡ u → count' ≡ count → Held place end w u count → Held place' end' w' u' count'
  held_as {place} {place'} {w} {w'} {end} {end'} {u} {u'} {count} {count'} a b c d e h =
      subst (λ x. Held x end' w' u' count') (sym a) (subst (λ x. Held place x w' u' count') (sym b) (subst (λ x. Held place end x u' count') (sym c) (subst (λ x. Held place end w x count') (sym d) (subst (λ x. Held place end w u x) (sym e) h))))

  -- The offer

  closed_offer : (part : Part) (r : ℕ) (end : End) (returned : ℕ) (place : Place) → OfferPart part r Closed end returned → OfferPart part r place end returned
  closed_offer Waits r end returned place h = tt
  closed_offer Opens r end returned place (inl h) = inl h
  closed_offer Opens r end returned place (inr h) = let e = h.2 in let le = h.1 in inl (omega arith)
  closed_offer Ended r end returned place h = h

  ended_offer : (part : Part) (r : ℕ) (end : End) (returned : ℕ) → OfferPart part r Closed end returned → OfferPart (ended part) r Closed end returned
  ended_offer Waits r end returned h = tt
  ended_offer Opens r end returned (inl h) = h
  ended_offer Opens r end returned (inr h) = let e = h.2 in let le = h.1 in omega arith
  ended_offer Ended r end returned h = h

  offer_step : (part : Part) (r : ℕ) (place next : Place) (end after : End) (returned : ℕ) → length end.accepted ≤ length after.accepted → ((n : ℕ) → Offers out n place end returned → Offers out n next after returned) →
      OfferPart part r place end returned → OfferPart part r next after returned
  offer_step Waits r place next end after returned le goes h = tt
  offer_step Opens r place next end after returned le goes (inl h) = inl (omega arith)
  offer_step Opens r place next end after returned le goes (inr h) = inr (h.0, h.1, goes h.0 h.2)
  offer_step Ended r place next end after returned le goes h = omega arith

  offer_on : (part : Part) (r : ℕ) (place : Place) (end : End) (returned after : ℕ) → returned ≤ after → OfferPart part r place end returned → OfferPart part r place end after
  offer_on Waits r place end returned after le h = tt
  offer_on Opens r place end returned after le (inl h) = inl h
  offer_on Opens r place end returned after le (inr h) = inr (h.0, h.1, offers_on out h.0 place end returned after le h.2)
  offer_on Ended r place end returned after le h = h

  -- The poll

  closed_poll : (part : Part) (r : ℕ) (accepted : List (List ℕ)) (u : End) (w : Place) → length u.delivered ≡ u.returned → PollPart part r Closed accepted u → PollPart part r w accepted u
  closed_poll Waits r accepted u w level h = tt
  closed_poll Opens r accepted u w level (inl h) = inl h
  closed_poll Opens r accepted u w level (inr h) = inl (omega arith)
  closed_poll Ended r accepted u w level h = h

  ended_poll : (part : Part) (r : ℕ) (accepted : List (List ℕ)) (u : End) → length u.delivered ≡ u.returned → PollPart part r Closed accepted u → PollPart (ended part) r Closed accepted u
  ended_poll Waits r accepted u level h = tt
  ended_poll Opens r accepted u level (inl h) = h
  ended_poll Opens r accepted u level (inr h) = omega arith
  ended_poll Ended r accepted u level h = h

  poll_step : (part : Part) (r : ℕ) (w next : Place) (accepted : List (List ℕ)) (u after : End) → u.returned ≤ after.returned → ((n : ℕ) → Reaches n w accepted u.delivered → Reaches n next accepted after.delivered) →
      PollPart part r w accepted u → PollPart part r next accepted after
  poll_step Waits r w next accepted u after le goes h = tt
  poll_step Opens r w next accepted u after le goes (inl h) = inl (omega arith)
  poll_step Opens r w next accepted u after le goes (inr h) = inr (goes (base + pace r) h)
  poll_step Ended r w next accepted u after le goes h = omega arith

  poll_on : (part : Part) (r : ℕ) (w : Place) (accepted after : List (List ℕ)) (u : End) → length accepted ≤ length after → PollPart part r w accepted u → PollPart part r w after u
  poll_on Waits r w accepted after u le h = tt
  poll_on Opens r w accepted after u le (inl h) = inl h
  poll_on Opens r w accepted after u le (inr h) = inr (reaches_on (base + pace r) w accepted after u.delivered le h)
  poll_on Ended r w accepted after u le h = h

  -- A call that begins

  new_offer : Pace out pace → (r : ℕ) (accepted returned : ℕ) → base + pace r ≤ accepted → ((k : ℕ) → r ≡ suc k → base + pace k ≤ returned) → returned + out < accepted → base + pace (suc r) ≤ accepted
  new_offer paced zero accepted returned a b few = let x = paced.at_start in let y = paced.at_one in omega arith
  new_offer paced (suc k) accepted returned a b few = let x = paced.room k in let y = b k refl in omega arith

  opened_offer : Pace out pace → (part : Part) (r : ℕ) (config : EndConfig) (frame : List ℕ) (place : Place) (end : End) (returned : ℕ) → place ≡ ReadingUsedIndex (pending_of config end frame) end.freed → base + pace r ≤ length end.accepted →
      ((k : ℕ) → r ≡ suc k → base + pace k ≤ returned) → OfferPart part r Closed end returned → OfferPart (begun part) r place end returned
  opened_offer paced Waits r config frame place end returned e a b h = let up = paced.step r in ⊎_elim
      (λ few. inr (length end.accepted, omega arith, subst (λ x. Offers out (length end.accepted) x end returned) (sym e) (refl, few)))
      (λ many. inl (new_offer paced r (length end.accepted) returned a b many)) (at_or_above (length end.accepted) (returned + out))
  opened_offer paced Opens r config frame place end returned e a b h = closed_offer Opens r end returned place h
  opened_offer paced Ended r config frame place end returned e a b h = h

  opened_poll : (part : Part) (r taken : ℕ) (last : Bool) (accepted : List (List ℕ)) (u : End) (w : Place) → w ≡ ReadingAvailIndex taken last → length u.delivered ≡ u.returned → base + pace r ≤ length accepted →
      PollPart part r Closed accepted u → PollPart (begun part) r w accepted u
  opened_poll Waits r taken last accepted u w e level a h = inr (subst (λ x. Reaches (base + pace r) x accepted u.delivered) (sym e) a)
  opened_poll Opens r taken last accepted u w e level a h = closed_poll Opens r accepted u w level h
  opened_poll Ended r taken last accepted u w e level a h = h

  sender_begun : Pace out pace → (config : EndConfig) (call : Call) (end : End) (w : Place) (u : End) (count : CallCount) → call ≢ Stop → Held Closed end w u count → Held (first_place config end call) end w u (sender_begins_in call count)
  sender_begun paced config (Offer frame) end w u count ne h = record {
    sender_up = begins_up config end (Offer frame) ne h.sender_up.0;
    receiver_up = h.receiver_up;
    accepted = h.accepted;
    returned = h.returned;
    offer = opened_offer paced count.offer count.rounds config frame _ end u.returned (ap (λ x. if in_run x then ReadingUsedIndex (pending_of config end frame) end.freed else NotInRun) h.sender_up.0) h.accepted h.returned h.offer;
    poll = h.poll;
  }
  sender_begun paced config Tick end w u count ne h = record { sender_up = begins_up config end Tick ne h.sender_up.0; receiver_up = h.receiver_up; accepted = h.accepted; returned = h.returned; offer = closed_offer count.offer count.rounds end u.returned _ h.offer; poll = h.poll }
  sender_begun paced config Stop end w u count ne h = absurd (ne refl)
  sender_begun paced config Poll end w u count ne h = record { sender_up = begins_up config end Poll ne h.sender_up.0; receiver_up = h.receiver_up; accepted = h.accepted; returned = h.returned; offer = closed_offer count.offer count.rounds end u.returned _ h.offer; poll = h.poll }

  receiver_begun : (config : EndConfig) (call : Call) (place : Place) (end u : End) (count : CallCount) → call ≢ Stop → length u.delivered ≡ u.returned → Held place end Closed u count → Held place end (first_place config u call) u (receiver_begins_in call count)
  receiver_begun config Poll place end u count ne level h = record {
    sender_up = h.sender_up;
    receiver_up = begins_up config u Poll ne h.receiver_up.0;
    accepted = h.accepted;
    returned = h.returned;
    offer = h.offer;
    poll = opened_poll count.poll count.rounds (length u.delivered) (is_last config u.found_none) end.accepted u _ (ap (λ x. if in_run x then ReadingAvailIndex (length u.delivered) (is_last config u.found_none) else NotInRun) h.receiver_up.0) level h.accepted h.poll;
  }
  receiver_begun config Tick place end u count ne level h = record { sender_up = h.sender_up; receiver_up = begins_up config u Tick ne h.receiver_up.0; accepted = h.accepted; returned = h.returned; offer = h.offer; poll = closed_poll count.poll count.rounds end.accepted u _ level h.poll }
  receiver_begun config Stop place end u count ne level h = absurd (ne refl)
  receiver_begun config (Offer frame) place end u count ne level h = record { sender_up = h.sender_up; receiver_up = begins_up config u (Offer frame) ne h.receiver_up.0; accepted = h.accepted; returned = h.returned; offer = h.offer; poll = closed_poll count.poll count.rounds end.accepted u _ level h.poll }

  -- The end of a call, and of a round

  round_over : (place : Place) (end : End) (w : Place) (u : End) (r : ℕ) (offer poll : Part) → Held place end w u record { rounds = r; offer = offer; poll = poll } → Held place end w u (round_with r offer poll)
  round_over place end w u r Waits poll h = h
  round_over place end w u r Opens poll h = h
  round_over place end w u r Ended Waits h = h
  round_over place end w u r Ended Opens h = h
  round_over place end w u r Ended Ended h = record {
    sender_up = h.sender_up;
    receiver_up = h.receiver_up;
    accepted = subst (λ j. base + pace j ≤ length end.accepted) (let same : suc r ≡ r + 1 = omega arith in same) h.offer;
    returned = λ k e. subst (λ j. base + pace j ≤ u.returned) (let same : r ≡ k = omega arith in same) h.poll;
    offer = tt;
    poll = tt;
  }

  sender_over : (place : Place) (end : End) (w : Place) (u : End) (count : CallCount) → Held place end w u count → Held place end w u (sender_steps_in place count)
  sender_over Closed end w u count h = round_over Closed end w u count.rounds (ended count.offer) count.poll record { sender_up = h.sender_up; receiver_up = h.receiver_up; accepted = h.accepted; returned = h.returned; offer = ended_offer count.offer count.rounds end u.returned h.offer; poll = h.poll }
  sender_over place end w u count h = h

  receiver_over : (place : Place) (end : End) (w : Place) (u : End) (count : CallCount) → (w ≡ Closed → length u.delivered ≡ u.returned) → Held place end w u count → Held place end w u (receiver_steps_in w count)
  receiver_over place end Closed u count level h = round_over place end Closed u count.rounds count.offer (ended count.poll) record { sender_up = h.sender_up; receiver_up = h.receiver_up; accepted = h.accepted; returned = h.returned; offer = h.offer; poll = ended_poll count.poll count.rounds end.accepted u (level refl) h.poll }
  receiver_over place end w u count level h = h

level_at : (link_config : LinkConfig) (memory : ℕ → ℕ) (q : ℕ) (u : End) (w : Place) → EndInvariant link_config memory q u w → u.handshake.phase ≡ Run → w ≡ Closed → length u.delivered ≡ u.returned
level_at link_config memory q u w a run closed = let level = a.level (opened run) in let none : (counts w).0 ≡ 0 = ap (λ x. (counts x).0) closed in omega arith

module _ (link_config : LinkConfig) (is : IsLinkConfig link_config) (p : ℕ) (p2 : p < 2) (out : ℕ) (fits : AlwaysFits link_config out) (base : ℕ) (pace : ℕ → ℕ) (paced : Pace out pace) where
  record Kept (now : ℕ → ℕ) (ends : ℕ → End) (places : ℕ → Place) (count : CallCount) : Type 0 where
    pair : Pair link_config now ends places
    held : Held out base pace (places p) (ends p) (places (1 - p)) (ends (1 - p)) count

  back : 1 - (1 - p) ≡ p
  back = omega arith

  apart : 1 - p ≢ p
  apart e = omega arith

  kept : (memory : ℕ → ℕ) (ends : ℕ → End) (places : ℕ → Place) (now : ℕ → ℕ) (now_ends : ℕ → End) (now_places : ℕ → Place) (count : CallCount) → Kept memory ends places no_calls → CallRounds link_config p memory ends places now now_ends now_places count → Kept now now_ends now_places count
  kept memory ends places _ _ _ _ start starts = start
  kept memory ends places _ _ _ _ start (sender_begins now now_ends after_ends now_places after_places count call run ne begins) =
      let a = kept memory ends places now now_ends now_places count start run in record {
        pair = pair_kept.begins link_config now now_ends after_ends now_places after_places p call is p2 begins a.pair;
        held = held_as out base pace begins.comes.place_is begins.comes.end_is (begins.comes.places_stay (1 - p) apart) (begins.comes.ends_stay (1 - p) apart) refl
            (sender_begun out base pace paced (config_of link_config p) call (now_ends p) (now_places (1 - p)) (now_ends (1 - p)) count ne (held_as out base pace (sym begins.closed) refl refl refl refl a.held));
      }
  kept memory ends places _ _ _ _ start (receiver_begins now now_ends after_ends now_places after_places count call run ne begins) =
      let a = kept memory ends places now now_ends now_places count start run in let stays : p ≢ 1 - p = λ e. omega arith in record {
        pair = pair_kept.begins link_config now now_ends after_ends now_places after_places (1 - p) call is (omega arith) begins a.pair;
        held = held_as out base pace (begins.comes.places_stay p stays) (begins.comes.ends_stay p stays) begins.comes.place_is begins.comes.end_is refl
            (receiver_begun out base pace (config_of link_config (1 - p)) call (now_places p) (now_ends p) (now_ends (1 - p)) count ne
            (level_at link_config now (1 - p) (now_ends (1 - p)) (now_places (1 - p)) (a.pair.alone (1 - p) (omega arith)) a.held.receiver_up.0 begins.closed) (held_as out base pace refl refl (sym begins.closed) refl refl a.held));
      }
  kept memory ends places _ _ _ _ start (sender_steps now after now_ends after_ends now_places after_places count value run step) =
      let a = kept memory ends places now now_ends now_places count start run in
      let pair = pair_kept.steps link_config now after now_ends after_ends now_places after_places p value is p2 step a.pair in
      let h = a.held in let mine = a.pair.alone p p2 in let config = config_of link_config p in
      let grows = step_grows config (now_ends p) (now_places p) value (opens_none link_config now p (now_ends p) (now_places p) mine (not_init _ h.sender_up.0)) in record {
        pair = pair;
        held = held_as out base pace step.comes.place_is step.comes.end_is (step.comes.places_stay (1 - p) apart) (step.comes.ends_stay (1 - p) apart) (ap (λ x. sender_steps_in x count) step.comes.place_is)
            (sender_over out base pace (next_place config (now_places p) value) (end_after (now_ends p) (step_at config (now_places p) value)) (now_places (1 - p)) (now_ends (1 - p)) count record {
              sender_up = steps_up (now_ends p) _ (now_places p) _ (now_ends (1 - p)).handshake.phase
                  (step_moves link_config p now (now_ends p) (now_ends (1 - p)) (now_places (1 - p)) (now_places p) value (a.pair.sound p p2).1 mine (a.pair.alone (1 - p) (omega arith)) (a.pair.sound p p2).0 step.meets) h.receiver_up.0 h.sender_up;
              receiver_up = h.receiver_up;
              accepted = let low = h.accepted in omega arith;
              returned = h.returned;
              offer = offer_step out base pace count.offer count.rounds (now_places p) _ (now_ends p) _ (now_ends (1 - p)).returned grows
                  (λ n. step_offers out link_config is fits p now (now_ends p) (now_ends (1 - p)) (now_places (1 - p)) n (now_places p) value (a.pair.sound p p2).0 (λ e. let f = step.opened in cc)
                  (λ e. (pair.sound p p2).1 (step.comes.place_is ∙ e)) mine (facing link_config now now_ends now_places p p2 a.pair (inl (inl h.sender_up.0))) step.meets) h.offer;
              poll = poll_on out base pace count.poll count.rounds (now_places (1 - p)) (now_ends p).accepted _ (now_ends (1 - p)) grows h.poll;
            });
      }
  kept memory ends places _ _ _ _ start (receiver_steps now after now_ends after_ends now_places after_places count value run step) =
      let a = kept memory ends places now now_ends now_places count start run in
      let q2 : 1 - p < 2 = omega arith in let pair = pair_kept.steps link_config now after now_ends after_ends now_places after_places (1 - p) value is q2 step a.pair in
      let h = a.held in let mine = a.pair.alone (1 - p) q2 in let config = config_of link_config (1 - p) in let stays : p ≢ 1 - p = λ e. omega arith in let o2 : 1 - (1 - p) < 2 = omega arith in
      let other_run : (now_ends (1 - (1 - p))).handshake.phase ≡ Run = ap (λ k. (now_ends k).handshake.phase) back ∙ h.sender_up.0 in
      let gives = step_returns config (now_ends (1 - p)) (now_places (1 - p)) value (opens_none link_config now (1 - p) (now_ends (1 - p)) (now_places (1 - p)) mine (not_init _ h.receiver_up.0)) in
      let up = steps_up (now_ends (1 - p)) (end_after (now_ends (1 - p)) (step_at config (now_places (1 - p)) value)) (now_places (1 - p)) (next_place config (now_places (1 - p)) value) (now_ends (1 - (1 - p))).handshake.phase
      (step_moves link_config (1 - p) now (now_ends (1 - p)) (now_ends (1 - (1 - p))) (now_places (1 - (1 - p))) (now_places (1 - p)) value (a.pair.sound (1 - p) q2).1 mine (a.pair.alone (1 - (1 - p)) o2) (a.pair.sound (1 - p) q2).0 step.meets) other_run h.receiver_up in
      let goes : (n : ℕ) → Reaches n (now_places (1 - p)) (now_ends (1 - (1 - p))).accepted (now_ends (1 - p)).delivered → Reaches n (next_place config (now_places (1 - p)) value) (now_ends (1 - (1 - p))).accepted (end_after (now_ends (1 - p)) (step_at config (now_places (1 - p)) value)).delivered =
      λ n. step_reaches link_config is (1 - p) now (now_ends (1 - p)) (now_ends (1 - (1 - p))) (now_places (1 - (1 - p))) n (now_places (1 - p)) value (a.pair.sound (1 - p) q2).0 (λ e. let f = step.opened in cc)
      (λ e. (pair.sound (1 - p) q2).1 (step.comes.place_is ∙ e)) mine (a.pair.alone (1 - (1 - p)) o2) (facing link_config now now_ends now_places (1 - p) q2 a.pair (inl (inl h.receiver_up.0))) step.meets h.receiver_up.0 in record {
        pair = pair;
        held = held_as out base pace (step.comes.places_stay p stays) (step.comes.ends_stay p stays) step.comes.place_is step.comes.end_is (ap (λ x. receiver_steps_in x count) step.comes.place_is)
            (receiver_over out base pace (now_places p) (now_ends p) (next_place config (now_places (1 - p)) value) (end_after (now_ends (1 - p)) (step_at config (now_places (1 - p)) value)) count
            (λ closed. level_at link_config after (1 - p) _ (next_place config (now_places (1 - p)) value) (subst (λ (x : End). EndInvariant link_config after (1 - p) x (next_place config (now_places (1 - p)) value)) step.comes.end_is
            (subst (EndInvariant link_config after (1 - p) (after_ends (1 - p))) step.comes.place_is (pair.alone (1 - p) q2))) up.0 closed) record {
              sender_up = h.sender_up;
              receiver_up = up;
              accepted = h.accepted;
              returned = λ k e. let low = h.returned k e in omega arith;
              offer = offer_on out base pace count.offer count.rounds (now_places p) (now_ends p) (now_ends (1 - p)).returned _ gives h.offer;
              poll = poll_step out base pace count.poll count.rounds (now_places (1 - p)) _ (now_ends p).accepted (now_ends (1 - p)) _ gives
                  (λ n. subst (λ k. Reaches n (now_places (1 - p)) (now_ends k).accepted (now_ends (1 - p)).delivered → Reaches n (next_place config (now_places (1 - p)) value) (now_ends k).accepted (end_after (now_ends (1 - p)) (step_at config (now_places (1 - p)) value)).delivered) back (goes n)) h.poll;
            });
      }
  kept memory ends places _ _ _ _ start (others now after now_ends now_places count run keep) =
      let a = kept memory ends places now now_ends now_places count start run in record { pair = pair_kept.others link_config now after now_ends now_places is keep a.pair; held = a.held }

  -- The frames that are delivered at the end of a round.
  delivered_at : (memory now : ℕ → ℕ) (ends now_ends : ℕ → End) (places now_places : ℕ → Place) (count : CallCount) (k : ℕ) → Pair link_config memory ends places → ((q : ℕ) → q < 2 → IsUp (ends q) (places q)) → length (ends p).accepted ≡ base →
      CallRounds link_config p memory ends places now now_ends now_places count → count.rounds ≡ suc k → base + pace k ≤ length (now_ends (1 - p)).delivered
  delivered_at memory now ends now_ends places now_places count k m up at run e =
      let start : Kept memory ends places no_calls = record {
        pair = m;
        held = record {
          sender_up = ((up p p2).0, never_clears link_config memory p (ends p) (places p) (m.alone p p2) (up p p2));
          receiver_up = ((up (1 - p) (omega arith)).0, never_clears link_config memory (1 - p) (ends (1 - p)) (places (1 - p)) (m.alone (1 - p) (omega arith)) (up (1 - p) (omega arith)));
          accepted = let none = paced.at_start in omega arith;
          returned = λ k f. let g : 0 ≡ suc k = f in absurd (omega arith);
          offer = tt;
          poll = tt;
        };
      } in
      let a = kept memory ends places now now_ends now_places count start run in let low = a.held.returned k e in
      let level = (a.pair.alone (1 - p) (omega arith)).level (opened a.held.receiver_up.0) in omega arith

-- The two paces

abbrev half : ℕ → ℕ
half zero = 0
half (suc zero) = 0
half (suc (suc r)) = suc (half r)

half_step : (r : ℕ) → half (suc r) ≤ half r + 1
half_step zero = omega arith
half_step (suc zero) = omega arith
half_step (suc (suc r)) = let h = half_step r in omega arith

half_most : (n k : ℕ) → 2 * n ≤ k → n ≤ half k
half_most zero k h = omega arith
half_most (suc n) zero h = absurd (omega arith)
half_most (suc n) (suc zero) h = absurd (omega arith)
half_most (suc n) (suc (suc k)) h = let a = half_most n k (omega arith) in omega arith

one_by_one : Pace 0 half
one_by_one = record { at_start = refl; at_one = refl; step = half_step; room = λ r. omega arith }

two_at_once : Pace 1 (λ r. r - 1)
two_at_once = record { at_start = refl; at_one = refl; step = λ r. omega arith; room = λ r. omega arith }

after_round : (rounds : ℕ) → 1 ≤ rounds → (k : ℕ) × (rounds ≡ suc k)
after_round zero h = absurd (omega arith)
after_round (suc k) h = (k, refl)

pub frames_get_through : FramesGetThrough
frames_get_through = record {
  one = λ link_config memory now ends now_ends places now_places count p n is p2 m up run over.
      let k = after_round count.rounds (omega arith) in let same = k.1 in
      let a = delivered_at link_config is p p2 0 (offers_find_room.empty link_config is) (length (ends p).accepted) half one_by_one memory now ends now_ends places now_places count k.0 m up refl run k.1 in
      let b = half_most n k.0 (omega arith) in omega arith;
  two = λ link_config memory now ends now_ends places now_places count p n is p2 m up run over fits.
      let k = after_round count.rounds (omega arith) in let same = k.1 in
      let a = delivered_at link_config is p p2 1 fits (length (ends p).accepted) (λ r. r - 1) two_at_once memory now ends now_ends places now_places count k.0 m up refl run k.1 in omega arith;
}
