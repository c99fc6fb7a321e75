-- Of two honest running ends, the other doesn't miss a frame that one requests.
use Rattle.std.proofs.Common.{◌≡◌, ◌≢◌, ℕ, ◌+◌, ◌-◌, ◌<◌, ◌≤◌, ◌⊎◌, inl, inr, ⊎_elim, Bool, true, List, [], length, refl, sym, ap, ◌∙◌, subst, arith, ne_eqb}
use mathlib.Core.Logic.{dite}
use native.Mathlib.Decide.{ℕ_discrete}
use Rattle.std.specs.Prelude.{if◌then◌else◌, Contains}
use Rattle.split_ring.specs.declared.steps.Access.{Access}
use Rattle.split_ring.specs.declared.steps.Access.TheVariants as access
use Rattle.split_ring.specs.Layout.{has_events}
use Rattle.split_ring.specs.Spelling.{low_half}
use Rattle.link_handshake.specs.declared.Phase.{Phase}
use Rattle.link_handshake.specs.declared.Phase.TheVariants.{Run}
use Rattle.link_handshake.specs.PhaseTable.{state_of}
use Rattle.call_grammar.specs.Ends.{End}
use Rattle.call_grammar.specs.Steps.{Mark}
use Rattle.call_grammar.specs.Calls.{EndConfig, Call}
use Rattle.call_grammar.specs.Offers.{wants_doorbell}
use Rattle.call_grammar.specs.Places.{Place, Closed, ReadingAvailEvent, RingingOffer, ReadingAvailIndex, first_place, access_at, next_place, marks_at}
use Rattle.link_invariant.specs.Fields as field
use Rattle.link_invariant.specs.Fields.{part_of}
use Rattle.link_invariant.specs.LinkConfig.{LinkConfig, IsLinkConfig, section_of, config_of, fields}
use Rattle.link_invariant.specs.Steps.{Stored, IsUntouched, MemoryAfter, TakesStep}
use Rattle.link_invariant.specs.EndInvariant.{PlaceInvariant}
use Rattle.link_invariant.specs.Pair.{Pair}
use Rattle.link_invariant.specs.Wake.{EventIndexIs, Asks}
use Rattle.link_invariant.proofs.Fields.{fields_same, theirs_stay}
use Rattle.link_invariant.proofs.EndInvariantKept.{alone_kept}
use Rattle.link_invariant.proofs.RunsKept.{runs_keep_invariant}
use Rattle.link_invariant.proofs.DoorbellIsRung.{asked_doorbell_is_rung}
use Rattle.pair_sessions.specs.Numbers.{Numbers, no_numbers, numbers_after}
use Rattle.pair_sessions.proofs.SessionsArePaired.{sessions_are_paired}
use Rattle.shared_words.specs.DerivedStates.{FrameNumber, accepted_last, delivered_next, DoorbellRequest, Nowhere, At, event_word, Wake, wake_after, DerivedState, begun, moved, derived_state_after_reset}
use Rattle.shared_words.proofs.PeersRun.{OnlyComes, Reached}
use Rattle.shared_words.proofs.PeersRun as reaches
use Rattle.shared_words.proofs.RunsOfEnds.{ends_of, places_of, numbers_of, both_honest, comes, reached_runs, reached_numbered}
use Rattle.shared_words.proofs.LinkOfSetup.{clash}
use Rattle.shared_words.proofs.RequestsAreRung.{unpublished, AsksAt, free_asks, IsNew, LeavesEvent, lapsed_not, lapsed_at, next_still, first_pending, still_pending, asks_on, asked_from, missed_from, rings_from, bound_on, event_accepted}

-- The frame was accepted, and its event was read, or its session is over.
abbrev pub IsOver : DerivedState → FrameNumber → Type 0
IsOver s f = (f.session < s.numbers.log.opened) ⊎ ((f.session ≡ s.numbers.log.opened) × (f.number + 1 + unpublished s.place ≤ length s.end.accepted))

-- And it isn't missed.
abbrev pub IsPast : DerivedState → FrameNumber → Type 0
IsPast s f = IsOver s f × ¬ Contains s.wake.missed f

-- One end by itself.
record Own (link_config : LinkConfig) (memory : ℕ → ℕ) (p : ℕ) (s : DerivedState) : Type 0 where
  asks : AsksAt (EventIndexIs link_config memory p) s.wake.asked s.place
  missed : (f : FrameNumber) → Contains s.wake.missed f → IsOver s f

-- The frame is of the other's present session, and the words request it.
abbrev AsksFor : LinkConfig → (ℕ → ℕ) → (ℕ → DerivedState) → ℕ → FrameNumber → Type 0
AsksFor link_config memory st p f = (f.session ≡ (st (1 - p)).numbers.log.opened) × Asks link_config memory (ends_of st) (places_of st) p f.number

abbrev Waits : LinkConfig → (ℕ → ℕ) → (ℕ → DerivedState) → ℕ → FrameNumber → Type 0
Waits link_config memory st p f = AsksFor link_config memory st p f ⊎ IsPast (st (1 - p)) f

record Watched (link_config : LinkConfig) (memory : ℕ → ℕ) (st : ℕ → DerivedState) : Type 0 where
  own : (p : ℕ) → p < 2 → Own link_config memory p (st p)
  wakes : (p : ℕ) (f : FrameNumber) → p < 2 → (st p).wake.asked ≡ At f → Waits link_config memory st p f

-- Words that aren't the end's.
asks_same : (link_config : LinkConfig) (memory after : ℕ → ℕ) (p : ℕ) (a : DoorbellRequest) (place : Place) → fields link_config after p field.AvailEvent ≡ fields link_config memory p field.AvailEvent → AsksAt (EventIndexIs link_config memory p) a place → AsksAt (EventIndexIs link_config after p) a place
asks_same link_config memory after p a (ReadingAvailIndex taken last) same h = λ e. same ∙ h e
asks_same link_config memory after p a place same h = h

own_same : (link_config : LinkConfig) (memory after : ℕ → ℕ) (p : ℕ) (s : DerivedState) → fields link_config after p field.AvailEvent ≡ fields link_config memory p field.AvailEvent → Own link_config memory p s → Own link_config after p s
own_same link_config memory after p s same o = record { asks = asks_same link_config memory after p s.wake.asked s.place same o.asks; missed = o.missed }

waits_same : (link_config : LinkConfig) (memory after : ℕ → ℕ) (st : ℕ → DerivedState) (p : ℕ) (f : FrameNumber) → fields link_config after p field.AvailEvent ≡ fields link_config memory p field.AvailEvent → Waits link_config memory st p f → Waits link_config after st p f
waits_same link_config memory after st p f same (inl asks) = inl (asks.0, record { event = same ∙ asks.1.event; ahead = asks.1.ahead })
waits_same link_config memory after st p f same (inr past) = inr past

-- Words and an end for which the other's doorbell reports nothing new.
waits_on : (link_config : LinkConfig) (memory after : ℕ → ℕ) (st next : ℕ → DerivedState) (p : ℕ) (f : FrameNumber) → fields link_config after p field.AvailEvent ≡ fields link_config memory p field.AvailEvent → next (1 - p) ≡ st (1 - p) → Waits link_config memory st p f → Waits link_config after next p f
waits_on link_config memory after st next p f same other (inl asks) = inl (
  subst (λ (s : DerivedState). f.session ≡ s.numbers.log.opened) (sym other) asks.0,
  record {
    event = same ∙ asks.1.event;
    ahead = subst (λ (s : DerivedState). (length s.end.accepted ≤ f.number) ⊎ (s.place ≡ ReadingAvailEvent f.number)) (sym other) asks.1.ahead;
  },
)
waits_on link_config memory after st next p f same other (inr past) = inr (subst (λ (s : DerivedState). IsPast s f) (sym other) past)

none_in : (f : FrameNumber) → Contains [] f → ⊥
none_in f (i, lt, e) = omega arith

-- The words after an access that leaves the own event word.
event_stays : (link_config : LinkConfig) (memory after : ℕ → ℕ) (p : ℕ) (a : Access) → IsLinkConfig link_config → p < 2 → MemoryAfter p memory a after → LeavesEvent (event_word (config_of link_config p)) a → fields link_config after p field.AvailEvent ≡ fields link_config memory p field.AvailEvent
unfolding fields
event_stays link_config memory after p (access.Write word written) is p2 stored ne = ap (part_of field.AvailEvent) (stored.neighbour_word (event_word (config_of link_config p)) (λ e. ne (sym e)))
event_stays link_config memory after p (access.State state) is p2 stored ne = let two = is.first in ap (part_of field.AvailEvent) (stored.neighbour_word (event_word (config_of link_config p)) (λ e. omega arith))
event_stays link_config memory after p (access.Read word) is p2 same ne = ap (λ (m : ℕ → ℕ). fields link_config m p field.AvailEvent) same
event_stays link_config memory after p (access.Ring target vector) is p2 same ne = ap (λ (m : ℕ → ℕ). fields link_config m p field.AvailEvent) same
event_stays link_config memory after p access.Nothing is p2 same ne = ap (λ (m : ℕ → ℕ). fields link_config m p field.AvailEvent) same

-- A frame that the words request is none that the other missed.
not_missed : (link_config : LinkConfig) (memory : ℕ → ℕ) (st : ℕ → DerivedState) (p : ℕ) (f : FrameNumber) → PlaceInvariant link_config memory (1 - p) (st (1 - p)).end (st (1 - p)).place → Own link_config memory (1 - p) (st (1 - p)) → AsksFor link_config memory st p f → ¬ Contains (st (1 - p)).wake.missed f
not_missed link_config memory st p f holds o asks c = ⊎_elim (λ over. let here = asks.0 in omega arith)
    (λ over. ⊎_elim (λ few. let h = over.1 in omega arith)
    (λ at. let one : unpublished (st (1 - p)).place ≡ 1 = ap unpublished at in let held : PlaceInvariant link_config memory (1 - p) (st (1 - p)).end (ReadingAvailEvent f.number) = subst (λ (x : Place). PlaceInvariant link_config memory (1 - p) (st (1 - p)).end x) at holds in
    let n = held.1 in let h = over.1 in omega arith) asks.1.ahead)
    (o.missed f c)

-- A call begins

module _ (link_config : LinkConfig) (memory : ℕ → ℕ) (st next : ℕ → DerivedState) (p : ℕ) (call : Call) (p2 : p < 2) (closed : (st p).place ≡ Closed) (only : OnlyComes st next p (begun (config_of link_config p) (st p) call)) (was : Watched link_config memory st) where
  begun_over : (f : FrameNumber) → IsOver (st p) f → IsOver (begun (config_of link_config p) (st p) call) f
  begun_over f (inl old) = inl old
  begun_over f (inr here) = let none = first_pending (config_of link_config p) (st p).end call in let h = here.1 in inr (here.0, omega arith)

  begun_own : Own link_config memory p (begun (config_of link_config p) (st p) call)
  begun_own = let o = was.own p p2 in record {
    asks = free_asks (EventIndexIs link_config memory p) (st p).wake.asked (first_place (config_of link_config p) (st p).end call) (subst (AsksAt (EventIndexIs link_config memory p) (st p).wake.asked) closed o.asks);
    missed = λ f c. begun_over f (o.missed f c);
  }

  -- Of the other, for which this end is to ring.
  begun_waits : (q : ℕ) (f : FrameNumber) → 1 - q ≡ p → Waits link_config memory st q f → Waits link_config memory next q f
  begun_waits q f other (inr past) = let had : IsPast (st p) f = subst (λ (x : ℕ). IsPast (st x) f) other past in
      inr (subst (λ (x : ℕ). IsPast (next x) f) (sym other) (subst (λ (s : DerivedState). IsPast s f) (sym only.here) (begun_over f had.0, had.1)))
  begun_waits q f other (inl asks) = inl (
    subst (λ (x : ℕ). f.session ≡ (next x).numbers.log.opened) (sym other) (subst (λ (s : DerivedState). f.session ≡ s.numbers.log.opened) (sym only.here) (subst (λ (x : ℕ). f.session ≡ (st x).numbers.log.opened) other asks.0)),
    record { event = asks.1.event; ahead = ahead asks.1.ahead },
  )
    where
      end_is : (next (1 - q)).end ≡ (st (1 - q)).end
      end_is = ap (λ (x : ℕ). (next x).end) other ∙ (ap (λ (s : DerivedState). s.end) only.here ∙ sym (ap (λ (x : ℕ). (st x).end) other))

      ahead : (length (st (1 - q)).end.accepted ≤ f.number) ⊎ ((st (1 - q)).place ≡ ReadingAvailEvent f.number) → (length (next (1 - q)).end.accepted ≤ f.number) ⊎ ((next (1 - q)).place ≡ ReadingAvailEvent f.number)
      ahead (inl few) = let same = ap (λ (e : End). length e.accepted) end_is in inl (omega arith)
      ahead (inr at) = let e : Closed ≡ ReadingAvailEvent f.number = sym closed ∙ (sym (ap (λ (x : ℕ). (st x).place) other) ∙ at) in absurd (cc)

  watched_begun : Watched link_config memory next
  watched_begun = record {
    own = λ q q2. dite (ℕ_discrete q p) (λ e. subst (λ x. Own link_config memory x (next x)) (sym e) (subst (Own link_config memory p) (sym only.here) begun_own)) (λ ne. subst (Own link_config memory q) (sym (only.neighbour_word q ne)) (was.own q q2));
    wakes = λ q f q2 asked. dite (ℕ_discrete q p)
        (λ e. subst (λ x. Waits link_config memory next x f) (sym e) (let ne : 1 - p ≢ p = λ e. omega arith in waits_on link_config memory memory st next p f refl (only.neighbour_word (1 - p) ne) (was.wakes p f p2 (sym (ap (λ (s : DerivedState). s.wake.asked) only.here) ∙ subst (λ x. (next x).wake.asked ≡ At f) e asked))))
        (λ ne. begun_waits q f (omega arith) (was.wakes q f q2 (sym (ap (λ (s : DerivedState). s.wake.asked) (only.neighbour_word q ne)) ∙ asked)));
  }

-- A step

at_event : {m k : ℕ} → ReadingAvailEvent m ≡ ReadingAvailEvent k → m ≡ k
at_event e = cc

state_is : {m n : ℕ} → access.State m ≡ access.State n → m ≡ n
state_is e = cc

opens_or : (a : Access) → (a ≡ access.State 2) ⊎ (a ≢ access.State 2)
opens_or (access.State state) = dite (ℕ_discrete state 2) (λ e. inl (ap access.State e)) (λ ne. inr (λ e. ne (state_is e)))
opens_or (access.Read word) = inr (λ e. cc)
opens_or (access.Write word written) = inr (λ e. cc)
opens_or (access.Ring target vector) = inr (λ e. cc)
opens_or access.Nothing = inr (λ e. cc)

opened_same : (n : Numbers) (end : End) (a : Access) → a ≢ access.State 2 → (numbers_after n end a).log.opened ≡ n.log.opened
opened_same n end (access.State state) ne = ap (λ (b : Bool). if b then n.log.opened + 1 else n.log.opened) (ne_eqb state 2 (λ e. ne (ap access.State e)))
opened_same n end (access.Read word) ne = refl
opened_same n end (access.Write word written) ne = refl
opened_same n end (access.Ring target vector) ne = refl
opened_same n end access.Nothing ne = refl

opened_next : (n : Numbers) (end : End) (a : Access) → a ≡ access.State 2 → (numbers_after n end a).log.opened ≡ n.log.opened + 1
opened_next n end a e = ap (λ (x : Access). (numbers_after n end x).log.opened) e

missed_same : (event : ℕ) (n m : FrameNumber) (w : Wake) (a : Access) (marks : List Mark) → a ≡ access.State 2 → (wake_after event n m w a marks).missed ≡ w.missed
missed_same event n m w a marks e = ap (λ (x : Access). (wake_after event n m w x marks).missed) e

run_is : (phase : Phase) → phase ≡ Run → state_of phase ≡ 3
run_is phase e = ap state_of e

module _ (link_config : LinkConfig) (is : IsLinkConfig link_config) (ev : has_events link_config.sizes ≡ true) (memory after : ℕ → ℕ) (st next : ℕ → DerivedState) (p value : ℕ) (p2 : p < 2) (step : TakesStep link_config memory after (ends_of st) (ends_of next) (places_of st) (places_of next) p value)
    (only : OnlyComes st next p (moved (config_of link_config p) (st p) value)) (pair : Pair link_config memory (ends_of st) (places_of st)) (carries : state_of (st p).end.handshake.phase ≡ 3 → (st p).numbers.log.carried ≡ (st (1 - p)).numbers.log.opened) (was : Watched link_config memory st) where
  holds : PlaceInvariant link_config memory p (st p).end (st p).place
  holds = (pair.alone p p2).holds

  abbrev config : EndConfig
  config = config_of link_config p

  abbrev event : ℕ
  event = event_word config

  abbrev n : FrameNumber
  n = accepted_last (st p).numbers.log (st p).end.accepted

  abbrev m : FrameNumber
  m = delivered_next (st p).numbers.log (st p).end.delivered

  abbrev a : Access
  a = access_at config (st p).place

  abbrev after_p : DerivedState
  after_p = moved config (st p) value

  -- At the read of the event.
  at_size : (number : ℕ) → (st p).place ≡ ReadingAvailEvent number → number + 1 ≡ length (st p).end.accepted
  at_size number at = let h : PlaceInvariant link_config memory p (st p).end (ReadingAvailEvent number) = subst (PlaceInvariant link_config memory p (st p).end) at holds in h.1

  -- A frame that is over stays so.
  moved_over : (f : FrameNumber) → IsOver (st p) f → IsOver after_p f
  moved_over f over = ⊎_elim (λ opens. let more = opened_next (st p).numbers (st p).end a opens in inl (⊎_elim (λ old. omega arith) (λ here. let e = here.0 in omega arith) over))
      (λ ne. let same = opened_same (st p).numbers (st p).end a ne in ⊎_elim (λ old. inl (omega arith)) (λ here. inr (here.0 ∙ sym same, bound_on config (st p).end (st p).place value f.number ne here.1)) over) (opens_or a)

  -- The read of the event accepts no frame.
  event_same : (number : ℕ) → (st p).place ≡ ReadingAvailEvent number → after_p.end.accepted ≡ (st p).end.accepted
  event_same number at = subst (λ (x : Place). (moved config (record (st p) { place = x }) value).end.accepted ≡ (st p).end.accepted) (sym at) (event_accepted config (st p).end number value)

  event_opens : (number : ℕ) → (st p).place ≡ ReadingAvailEvent number → after_p.numbers.log.opened ≡ (st p).numbers.log.opened
  event_opens number at = opened_same (st p).numbers (st p).end a (λ e. let r : access_at config (ReadingAvailEvent number) ≡ access.State 2 = sym (ap (access_at config) at) ∙ e in absurd (cc))

  -- After the read of the event of the frame accepted last.
  read_over : (number : ℕ) (f : FrameNumber) → (st p).place ≡ ReadingAvailEvent number → f ≡ n → IsOver after_p f
  read_over number f at is_last = let size = at_size number at in let k = ap length (event_same number at) in let last : f.number ≡ length (st p).end.accepted - 1 = ap (λ (x : FrameNumber). x.number) is_last in
      let none : unpublished (next_place config (st p).place value) ≡ 0 = subst (λ (x : Place). unpublished (next_place config x value) ≡ 0) (sym at) (still_pending (next_place config (ReadingAvailEvent number) value) (next_still config (ReadingAvailEvent number) value refl)) in
      inr (ap (λ (x : FrameNumber). x.session) is_last ∙ sym (event_opens number at), omega arith)

  moved_own : Own link_config after p after_p
  moved_own = record {
    asks = asks_on config (EventIndexIs link_config after p) event n m value (st p).wake (EventIndexIs link_config memory p) (st p).place (λ taken at. asked_doorbell_is_rung.arms link_config memory after (ends_of st) (ends_of next) (places_of st) (places_of next) p taken value is p2 pair step at) (was.own p p2).asks;
    missed = λ f c. ⊎_elim (λ h. moved_over f ((was.own p p2).missed f h)) (λ h. read_over h.0 f h.1 h.3) (missed_from config event n m f value (st p).wake (st p).place c);
  }

  moved_past : (f : FrameNumber) → IsPast (st p) f → IsPast after_p f
  moved_past f past = (
    moved_over f past.0,
    λ c. ⊎_elim past.1 (λ h. let one : unpublished (st p).place ≡ 1 = ap unpublished h.1 in let e : f.number ≡ length (st p).end.accepted - 1 = ap (λ (x : FrameNumber). x.number) h.3 in let s : f.session ≡ (st p).numbers.log.opened = ap (λ (x : FrameNumber). x.session) h.3 in
        ⊎_elim (λ old. omega arith) (λ here. let k = here.1 in omega arith) past.0) (missed_from config event n m f value (st p).wake (st p).place c),
  )

  -- The words of the other.
  keep : (q : ℕ) → 1 - p ≡ q → fields link_config after q field.AvailEvent ≡ fields link_config memory q field.AvailEvent
  keep q e = let untouched : IsUntouched link_config memory after q = subst (IsUntouched link_config memory after) e (theirs_stay link_config memory after p is p2 (alone_kept.own link_config p memory after (st p).end (st p).place is p2 step.leaves (pair.alone p p2))) in
      fields_same link_config memory after q is untouched.section field.AvailEvent

  -- The requests of this end.
  moved_mine : (f : FrameNumber) → after_p.wake.asked ≡ At f → Waits link_config after next p f
  moved_mine f e = ⊎_elim since looks (asked_from config event n m f value (st p).wake (st p).place e)
    where
      other_is : next (1 - p) ≡ st (1 - p)
      other_is = only.neighbour_word (1 - p) (λ e. omega arith)

      since : ((st p).wake.asked ≡ At f) × LeavesEvent event a → Waits link_config after next p f
      since h = waits_on link_config memory after st next p f (event_stays link_config memory after p a is p2 step.leaves h.1) other_is (was.wakes p f p2 h.0)

      looks : IsNew m value f (st p).wake.asked (st p).place → Waits link_config after next p f
      looks new = let taken = new.0 in let at = new.2 in
          let stands = subst (AsksAt (EventIndexIs link_config memory p) (st p).wake.asked) at (was.own p p2).asks new.4 in
          let held : PlaceInvariant link_config memory p (st p).end (ReadingAvailIndex taken new.1) = subst (λ (x : Place). PlaceInvariant link_config memory p (st p).end x) at holds in
          let number : taken ≡ f.number = held.1 ∙ sym (ap (λ (x : FrameNumber). x.number) new.5) in
          let session : f.session ≡ (st (1 - p)).numbers.log.opened = ap (λ (x : FrameNumber). x.session) new.5 ∙ carries (run_is (st p).end.handshake.phase held.0) in
          let asks = subst (Asks link_config memory (ends_of st) (places_of st) p) number (asked_doorbell_is_rung.looks link_config memory (ends_of st) (places_of st) p taken value new.1 is p2 pair at step.meets new.3 stands) in
          waits_on link_config memory after st next p f (event_stays link_config memory after p a is p2 step.leaves (subst (λ (x : Place). LeavesEvent event (access_at config x)) (sym at) tt)) other_is (inl (session, asks))

  -- And the requests of the other.
  rings_at : (q : ℕ) (f : FrameNumber) → 1 - q ≡ p → AsksFor link_config memory st q f → fields link_config after q field.AvailEvent ≡ fields link_config memory q field.AvailEvent → (number : ℕ) → (st p).place ≡ ReadingAvailEvent number → wants_doorbell (low_half value) number ≡ true →
      next_place config (st p).place value ≡ RingingOffer → ¬ Contains (st p).wake.missed f → Waits link_config after next q f
  rings_at q f other asks same number at asks_it rings free = ⊎_elim few here (subst (λ x. (length (st x).end.accepted ≤ f.number) ⊎ ((st x).place ≡ ReadingAvailEvent f.number)) other asks.1.ahead)
    where
      session : f.session ≡ after_p.numbers.log.opened
      session = subst (λ x. f.session ≡ (st x).numbers.log.opened) other asks.0 ∙ sym (event_opens number at)

      few : length (st p).end.accepted ≤ f.number → Waits link_config after next q f
      few most = let end_is : (next p).end.accepted ≡ (st p).end.accepted = ap (λ (s : DerivedState). s.end.accepted) only.here ∙ event_same number at in
          inl (
            subst (λ x. f.session ≡ (next x).numbers.log.opened) (sym other) (session ∙ sym (ap (λ (s : DerivedState). s.numbers.log.opened) only.here)),
            record { event = same ∙ asks.1.event; ahead = inl (subst (λ x. length (next x).end.accepted ≤ f.number) (sym other) (let e = ap length end_is in omega arith)) },
          )

      here : (st p).place ≡ ReadingAvailEvent f.number → Waits link_config after next q f
      here spot = let size = at_size f.number spot in let k = ap length (event_same number at) in let none : unpublished (next_place config (st p).place value) ≡ 0 = ap unpublished rings in
          inr (subst (λ x. IsPast (next x) f) (sym other) (subst (λ (s : DerivedState). IsPast s f) (sym only.here) (
            inr (session, omega arith),
            λ c. ⊎_elim free (λ h. absurd (clash (sym h.2 ∙ (ap (λ n. wants_doorbell (low_half value) n) (at_event (sym h.1 ∙ at)) ∙ asks_it))))
                (missed_from config event n m f value (st p).wake (st p).place c),
          )))

  moved_waits : (q : ℕ) (f : FrameNumber) → q < 2 → 1 - q ≡ p → Waits link_config memory st q f → Waits link_config after next q f
  moved_waits q f q2 other (inr past) = inr (subst (λ x. IsPast (next x) f) (sym other) (subst (λ (s : DerivedState). IsPast s f) (sym only.here) (moved_past f (subst (λ x. IsPast (st x) f) other past))))
  moved_waits q f q2 other (inl asks) = ⊎_elim opens stays (opens_or a)
    where
      back : 1 - p ≡ q
      back = omega arith

      session : f.session ≡ (st p).numbers.log.opened
      session = subst (λ x. f.session ≡ (st x).numbers.log.opened) other asks.0

      free : ¬ Contains (st p).wake.missed f
      free = subst (λ x. ¬ Contains (st x).wake.missed f) other (not_missed link_config memory st q f (subst (λ x. PlaceInvariant link_config memory x (st x).end (st x).place) (sym other) holds) (subst (λ x. Own link_config memory x (st x)) (sym other) (was.own p p2)) asks)

      -- It opens another session.
      opens : a ≡ access.State 2 → Waits link_config after next q f
      opens two = let more = opened_next (st p).numbers (st p).end a two in inr (subst (λ x. IsPast (next x) f) (sym other) (subst (λ (s : DerivedState). IsPast s f) (sym only.here) (
        inl (let e = session in omega arith),
        subst (λ l. ¬ Contains l f) (sym (missed_same event n m (st p).wake a (marks_at config (st p).place value) two)) free,
      )))

      stays : a ≢ access.State 2 → Waits link_config after next q f
      stays ne = ⊎_elim
          (λ h. inl (subst (λ x. f.session ≡ (next x).numbers.log.opened) (sym other) (session ∙ sym (ap (λ (s : DerivedState). s.numbers.log.opened) only.here ∙ opened_same (st p).numbers (st p).end a ne)), h))
          (λ h. let rings = sym (ap (λ (s : DerivedState). s.place) only.here) ∙ (ap (λ x. (next x).place) (sym other) ∙ h) in
          let from = rings_from config (st p).place value ev step.opened rings in rings_at q f other asks (keep q back) from.0 from.1 from.2 rings free)
          (asked_doorbell_is_rung.others link_config memory after (ends_of st) (ends_of next) (places_of st) (places_of next) q f.number value is q2 pair (subst (λ x. TakesStep link_config memory after (ends_of st) (ends_of next) (places_of st) (places_of next) x value) (sym other) step) asks.1)

  watched_moved : Watched link_config after next
  watched_moved = record {
    own = λ q q2. dite (ℕ_discrete q p) (λ e. subst (λ x. Own link_config after x (next x)) (sym e) (subst (Own link_config after p) (sym only.here) moved_own))
        (λ ne. subst (Own link_config after q) (sym (only.neighbour_word q ne)) (own_same link_config memory after q (st q) (keep q (omega arith)) (was.own q q2)));
    wakes = λ q f q2 asked. dite (ℕ_discrete q p)
        (λ e. subst (λ x. Waits link_config after next x f) (sym e) (moved_mine f (sym (ap (λ (s : DerivedState). s.wake.asked) only.here) ∙ subst (λ x. (next x).wake.asked ≡ At f) e asked)))
        (λ ne. moved_waits q f q2 (omega arith) (was.wakes q f q2 (sym (ap (λ (s : DerivedState). s.wake.asked) (only.neighbour_word q ne)) ∙ asked)));
  }

-- A reset

own_event : (link_config : LinkConfig) (memory after : ℕ → ℕ) (p q : ℕ) → IsLinkConfig link_config → p < 2 → Stored memory after p 0 → fields link_config after q field.AvailEvent ≡ fields link_config memory q field.AvailEvent
own_event link_config memory after p q is p2 st = fields_same link_config memory after q is (λ j lt. st.neighbour_word (section_of link_config q + j) (λ e. let two = is.first in omega arith)) field.AvailEvent

module _ (link_config : LinkConfig) (is : IsLinkConfig link_config) (memory after : ℕ → ℕ) (st next : ℕ → DerivedState) (p : ℕ) (p2 : p < 2) (stored : Stored memory after p 0) (only : OnlyComes st next p (derived_state_after_reset (st p))) (pair : Pair link_config memory (ends_of st) (places_of st)) (was : Watched link_config memory st) where
  -- An offer that is cut at the read of the event has its frame accepted.
  reset_over : (f : FrameNumber) → IsOver (st p) f → IsOver (derived_state_after_reset (st p)) f
  reset_over f (inl old) = inl old
  reset_over f (inr here) = inr (here.0, let h = here.1 in omega arith)

  reset_own : Own link_config after p (derived_state_after_reset (st p))
  reset_own = record { asks = lapsed_not (st p).wake.asked; missed = λ f c. reset_over f ((was.own p p2).missed f c) }

  reset_waits : (q : ℕ) (f : FrameNumber) → 1 - q ≡ p → Waits link_config memory st q f → Waits link_config after next q f
  reset_waits q f other (inr past) = let had : IsPast (st p) f = subst (λ x. IsPast (st x) f) other past in
      inr (subst (λ x. IsPast (next x) f) (sym other) (subst (λ (s : DerivedState). IsPast s f) (sym only.here) (reset_over f had.0, had.1)))
  reset_waits q f other (inl asks) = ⊎_elim few at (subst (λ x. (length (st x).end.accepted ≤ f.number) ⊎ ((st x).place ≡ ReadingAvailEvent f.number)) other asks.1.ahead)
    where
      session : f.session ≡ (st p).numbers.log.opened
      session = subst (λ x. f.session ≡ (st x).numbers.log.opened) other asks.0

      few : length (st p).end.accepted ≤ f.number → Waits link_config after next q f
      few most = inl (
        subst (λ x. f.session ≡ (next x).numbers.log.opened) (sym other) (session ∙ sym (ap (λ (s : DerivedState). s.numbers.log.opened) only.here)),
        record {
          event = own_event link_config memory after p q is p2 stored ∙ asks.1.event;
          ahead = inl (subst (λ x. length (next x).end.accepted ≤ f.number) (sym other) (subst (λ (s : DerivedState). length s.end.accepted ≤ f.number) (sym only.here) most));
        },
      )

      at : (st p).place ≡ ReadingAvailEvent f.number → Waits link_config after next q f
      at spot = let size : f.number + 1 ≡ length (st p).end.accepted = (subst (λ (x : Place). PlaceInvariant link_config memory p (st p).end x) spot (pair.alone p p2).holds).1 in
          let free : ¬ Contains (st p).wake.missed f = subst (λ x. ¬ Contains (st x).wake.missed f) other (not_missed link_config memory st q f (subst (λ x. PlaceInvariant link_config memory x (st x).end (st x).place) (sym other) (pair.alone p p2).holds) (subst (λ x. Own link_config memory x (st x)) (sym other) (was.own p p2)) asks) in
          inr (subst (λ x. IsPast (next x) f) (sym other) (subst (λ (s : DerivedState). IsPast s f) (sym only.here) (inr (session, omega arith), free)))

  watched_reset : Watched link_config after next
  watched_reset = record {
    own = λ q q2. dite (ℕ_discrete q p) (λ e. subst (λ x. Own link_config after x (next x)) (sym e) (subst (Own link_config after p) (sym only.here) reset_own))
        (λ ne. subst (Own link_config after q) (sym (only.neighbour_word q ne)) (own_same link_config memory after q (st q) (own_event link_config memory after p q is p2 stored) (was.own q q2)));
    wakes = λ q f q2 asked. dite (ℕ_discrete q p)
        (λ e. subst (λ x. Waits link_config after next x f) (sym e) (waits_on link_config memory after st next p f (own_event link_config memory after p p is p2 stored) (only.neighbour_word (1 - p) (λ e. omega arith))
        (was.wakes p f p2 (lapsed_at f (st p).wake.asked (sym (ap (λ (s : DerivedState). s.wake.asked) only.here) ∙ subst (λ x. (next x).wake.asked ≡ At f) e asked)))))
        (λ ne. reset_waits q f (omega arith) (was.wakes q f q2 (sym (ap (λ (s : DerivedState). s.wake.asked) (only.neighbour_word q ne)) ∙ asked)));
  }

-- Numbers alone

abbrev bare : DerivedState → DerivedState
bare s = record s { numbers = record no_numbers { log = s.numbers.log } }

own_bare : (link_config : LinkConfig) (memory : ℕ → ℕ) (p : ℕ) (s : DerivedState) → Own link_config memory p s → Own link_config memory p (bare s)
own_bare link_config memory p s o = record { asks = o.asks; missed = o.missed }

own_numbered : (link_config : LinkConfig) (memory : ℕ → ℕ) (p : ℕ) (s : DerivedState) → Own link_config memory p (bare s) → Own link_config memory p s
own_numbered link_config memory p s o = record { asks = o.asks; missed = o.missed }

-- An end whose log stays.
watched_numbers : (link_config : LinkConfig) (memory : ℕ → ℕ) (st next : ℕ → DerivedState) (p : ℕ) (s : DerivedState) → OnlyComes st next p s → bare s ≡ bare (st p) → Watched link_config memory st → Watched link_config memory next
watched_numbers link_config memory st next p s only log was = record {
  own = λ q q2. own_numbered link_config memory q (next q) (subst (Own link_config memory q) (sym (same q)) (own_bare link_config memory q (st q) (was.own q q2)));
  wakes = λ q f q2 asked. waits q f (was.wakes q f q2 (sym (ap (λ (s : DerivedState). s.wake.asked) (same q)) ∙ asked));
}
  where
    same : (q : ℕ) → bare (next q) ≡ bare (st q)
    same q = dite (ℕ_discrete q p) (λ e. ap bare (ap next e ∙ only.here) ∙ (log ∙ ap (λ x. bare (st x)) (sym e))) (λ ne. ap bare (only.neighbour_word q ne))

    waits : (q : ℕ) (f : FrameNumber) → Waits link_config memory st q f → Waits link_config memory next q f
    waits q f (inl asks) = inl (subst (λ (s : DerivedState). f.session ≡ s.numbers.log.opened) (sym (same (1 - q))) asks.0, record { event = asks.1.event; ahead = subst (λ (s : DerivedState). (length s.end.accepted ≤ f.number) ⊎ (s.place ≡ ReadingAvailEvent f.number)) (sym (same (1 - q))) asks.1.ahead })
    waits q f (inr past) = inr (subst (λ (s : DerivedState). IsPast s f) (sym (same (1 - q))) past)

-- Wherever two honest ends come

module _ (link_config : LinkConfig) (is : IsLinkConfig link_config) (ev : has_events link_config.sizes ≡ true) (honest : ℕ → Bool) (a : honest 0 ≡ true) (b : honest 1 ≡ true) where
  pair_at : (memory words : ℕ → ℕ) (st : ℕ → DerivedState) → Reached link_config honest memory words st → Pair link_config memory (ends_of st) (places_of st)
  pair_at memory words st r = (runs_keep_invariant link_config honest memory (ends_of st) (places_of st) is (reached_runs link_config honest memory words st r)).pair a b

  -- In RUN an end carries the session that the other opened last.
  carries_at : (memory words : ℕ → ℕ) (st : ℕ → DerivedState) → Reached link_config honest memory words st → (p : ℕ) → p < 2 → state_of (st p).end.handshake.phase ≡ 3 → (st p).numbers.log.carried ≡ (st (1 - p)).numbers.log.opened
  carries_at memory words st r p p2 run = (((sessions_are_paired link_config memory words (ends_of st) (places_of st) (numbers_of st) is (reached_numbered link_config honest is a b memory words st r)).1.3 p p2).2.deliver.present run).0

  watched : (memory words : ℕ → ℕ) (st : ℕ → DerivedState) → Reached link_config honest memory words st → Watched link_config memory st
  watched memory words st (reaches.starts _ _ _ zeros none at) = record {
    own = λ p p2. subst (Own link_config memory p) (sym (at p)) (record { asks = λ e. cc; missed = λ f c. absurd (none_in f c) });
    wakes = λ p f p2 asked. let e : Nowhere ≡ At f = sym (ap (λ (s : DerivedState). s.wake.asked) (at p)) ∙ asked in absurd (cc);
  }
  watched memory words next (reaches.begins _ _ st _ p call k p2 hp closed going given only) = watched_begun link_config memory st next p call p2 closed only (watched memory words st k)
  watched after words next (reaches.steps memory _ _ st _ p value k p2 hp goes meets leaves numbered only) =
      watched_moved link_config is ev memory after st next p value p2 (record { opened = goes; meets = meets; leaves = leaves; comes = comes st next p _ only }) only (pair_at memory words st k) (carries_at memory words st k p p2) (watched memory words st k)
  watched after words next (reaches.resets memory _ _ st _ p k p2 hp stored only) = watched_reset link_config is memory after st next p p2 stored only (pair_at memory words st k) (watched memory words st k)
  watched memory now next (reaches.stores _ words _ st _ p k p2 hp at stored only) = watched_numbers link_config memory st next p _ only refl (watched memory words st k)
  watched memory words next (reaches.loads _ _ st _ p k p2 hp at only) = watched_numbers link_config memory st next p _ only refl (watched memory words st k)
  watched after words st (reaches.others memory _ _ _ k untouched) = let was = watched memory words st k in record {
    own = λ p p2. own_same link_config memory after p (st p) (same p p2) (was.own p p2);
    wakes = λ p f p2 asked. waits_same link_config memory after st p f (same p p2) (was.wakes p f p2 asked);
  }
    where
      same : (p : ℕ) → p < 2 → fields link_config after p field.AvailEvent ≡ fields link_config memory p field.AvailEvent
      same p p2 = fields_same link_config memory after p is (untouched p p2 (both_honest honest a b p p2)).section field.AvailEvent

  -- The other hasn't missed a requested frame.
  pub never_missed : (memory words : ℕ → ℕ) (st : ℕ → DerivedState) → Reached link_config honest memory words st → (p : ℕ) (f : FrameNumber) → p < 2 → (st p).wake.asked ≡ At f → ¬ Contains (st (1 - p)).wake.missed f
  never_missed memory words st r p f p2 asked = let w = watched memory words st r in let q2 : 1 - p < 2 = omega arith in
      ⊎_elim (λ asks. not_missed link_config memory st p f ((pair_at memory words st r).alone (1 - p) q2).holds (w.own (1 - p) q2) asks) (λ past. past.1) (w.wakes p f p2 asked)
