-- Runs of two honest ends without stops and resets.
use Rattle.std.proofs.Common.{◌≡◌, ◌≢◌, ℕ, zero, suc, ◌+◌, ◌-◌, ◌%◌, ◌<◌, ◌≤◌, ◌⊎◌, inl, inr, ⊎_elim, Bool, true, false, List, [], ◌∷◌, ◌++◌, length, map, refl, sym, ap, ◌∙◌, subst, arith}
use mathlib.Core.Logic.{dite}
use native.Mathlib.Decide.{ℕ_discrete}
use Rattle.std.specs.Prelude.{◌==◌, if◌then◌else◌, Option}
use Rattle.std.specs.List.{AllByRecursion}
use Rattle.split_ring.specs.declared.steps.Access.{Access}
use Rattle.split_ring.specs.declared.steps.Access.TheVariants as access
use Rattle.split_ring.specs.Layout.{Sizes, has_events, size_of, limit_of}
use Rattle.split_ring.specs.Spelling.{low_half, entry_half, high_half, desc_flags}
use Rattle.split_ring.specs.Ranges.{is_avail_entry, is_desc_address, is_desc_length, is_avail_index, is_desc_flags, is_used_index, is_used_id}
use Rattle.link_handshake.specs.declared.Phase.{Phase}
use Rattle.link_handshake.specs.declared.Phase.TheVariants.{Reset, Init, Ready, Run}
use Rattle.link_handshake.specs.declared.Move.TheVariants.{Stay}
use Rattle.link_handshake.specs.PhaseTable.{phase_move, state_of}
use Rattle.link_handshake.specs.HandshakeState.{HandshakeState, move_of}
use Rattle.call_grammar.specs.Steps.{Mark, Saw, Reclaim, Full, Accept, Look, Deliver, Return, Done, Down, Refuse, Over}
use Rattle.call_grammar.specs.Ends.{End, fresh}
use Rattle.call_grammar.specs.Words.{words_for, address_of}
use Rattle.call_grammar.specs.Rows.{MovesTo}
use Rattle.call_grammar.specs.Calls.{Call, Tick, Stop, Offer, Poll, in_run, pending_of}
use Rattle.call_grammar.specs.Ticks.{EndConfig}
use Rattle.call_grammar.specs.Offers.{PendingOffer, frame_fits, descriptor_of, wants_doorbell, returned_by}
use Rattle.call_grammar.specs.Polls.{is_last, published_by}
use Rattle.call_grammar.specs.Places.{Place, Closed, ReadingOtherState, Clearing, WritingState, Refusing, NotInRun, ReadingUsedIndex, ReadingUsedId, WritingFrameWord, WritingDescAddressLow, WritingDescAddressHigh, WritingDescLength, WritingDescFlags, WritingAvailEntry, WritingAvailIndex, ReadingAvailEvent, RingingOffer, ReadingAvailIndex, WritingAvailEvent, ReadingAvailEntry, ReadingDescAddressLow, ReadingDescAddressHigh, ReadingDescLength, ReadingDescFlags, ReadingFrameWord, WritingUsedId, WritingUsedLength, WritingUsedIndex, RingingPoll, clear_place, tick_place, fill_place, ids_place, none_place, items_place, words_place, first_place, access_at, next_place, step_at}
use Rattle.link_machine.specs.LinkMachine.{Side, initial_side, SideEvent, Gave, Wrote, Marked, WasReset, MarkRow, Row, Log, no_sessions, log_after, MachineRuns}
use Rattle.link_machine.specs.LinkMachine as machine
use Rattle.link_machine.proofs.DeliversInOrder.{SawSome, Half, Kind, falls_to, inits, opens, runs, sees, accepts, delivers, counts, kind_of, half_of}
use Rattle.link_invariant.specs.LinkConfig.{LinkConfig, IsLinkConfig, config_of}
use Rattle.link_invariant.specs.Steps.{OnlyEndChanges, ReadsMemory}
use Rattle.link_invariant.specs.EndInvariant.{PlaceInvariant}
use Rattle.link_invariant.specs.Sides.{side_events_of, side_events_by, FollowsRows, SawFor, CallIs, SideIs}
use Rattle.link_invariant.specs.Runs.{HonestRuns}
use Rattle.link_invariant.specs.Runs as honest
use Rattle.link_invariant.proofs.RowsKept.{steps_follow_rows}
use Rattle.link_invariant.proofs.RunsKept.{runs_keep_invariant, Stepped, row_step, rows_on, side_like}
use Rattle.pair_sessions.specs.CalmRuns.{CalmRuns, starts, begins, steps, others, IsStill, OpensOnce, CalmRunsDeliver}
use Rattle.pair_sessions.proofs.SessionNumbers.{state_at}

-- Sides

-- The invariant of a side p and its log in addition to that of every run, against the other side q.
record Calm (p q : Side) (l : Log) : Type 0 where
  most : l.opened ≤ 1
  stays : 1 ≤ l.opened → 2 ≤ p.state
  none : l.opened ≡ 0 → (p.accepted ≡ []) × (p.delivered ≡ [])
  low : p.state ≡ 0 → (q.state ≡ 0) ⊎ ((q.state ≡ 1) × ¬ SawSome q.seen)

own_calm_kept : (p q new : Side) (l m l' : Log) → Kind p q l m new l' → (new.state ≡ 0 → p.state ≡ 0) → Half p q l m → Calm p q l → Calm new q l'
own_calm_kept p q new l m l' (falls_to s n k ks ended) up h c = let z = up s in let o = ks.opened in record {
  most = let most = c.most in omega arith;
  stays = λ one. absurd (let two = c.stays (omega arith) in omega arith);
  none = λ e. let old = c.none (sym o ∙ e) in (k.accepted ∙ old.0, k.delivered ∙ old.1);
  low = λ e. c.low z;
}
own_calm_kept p q new l m l' (inits z low s n k ks ended) up h c = let o = ks.opened in record {
  most = let most = c.most in omega arith;
  stays = λ one. absurd (let two = c.stays (omega arith) in omega arith);
  none = λ e. let old = c.none (sym o ∙ e) in (k.accepted ∙ old.0, k.delivered ∙ old.1);
  low = λ e. absurd (omega arith);
}
own_calm_kept p q new l m l' (opens z some s n a d opened carried earlier ended) up h c = record {
  most = let most = c.most in dite (ℕ_discrete l.opened 1) (λ e. absurd (let two = c.stays (omega arith) in omega arith)) (λ ne. omega arith);
  stays = λ one. omega arith;
  none = λ e. absurd (omega arith);
  low = λ e. absurd (omega arith);
}
own_calm_kept p q new l m l' (runs z high s n k opened carried earlier ended) up h c = record {
  most = let most = c.most in omega arith;
  stays = λ one. omega arith;
  none = λ e. absurd (let one = h.one (omega arith) in omega arith);
  low = λ e. absurd (omega arith);
}
own_calm_kept p q new l m l' (sees s n k same) up h c = subst (Calm new q) (sym same) record {
  most = c.most;
  stays = λ one. let two = c.stays one in let e = s in omega arith;
  none = λ e. let old = c.none e in (k.accepted ∙ old.0, k.delivered ∙ old.1);
  low = λ e. c.low (sym s ∙ e);
}
own_calm_kept p q new l m l' (accepts z frame s n a d same) up h c = subst (Calm new q) (sym same) record {
  most = c.most;
  stays = λ one. omega arith;
  none = λ e. absurd (let one = h.one (omega arith) in omega arith);
  low = λ e. absurd (omega arith);
}
own_calm_kept p q new l m l' (delivers z frame s n a d next same) up h c = subst (Calm new q) (sym same) record {
  most = c.most;
  stays = λ one. omega arith;
  none = λ e. absurd (let one = h.one (omega arith) in omega arith);
  low = λ e. absurd (omega arith);
}
own_calm_kept p q new l m l' (counts s n k same) up h c = subst (Calm new q) (sym same) record {
  most = c.most;
  stays = λ one. let two = c.stays one in let e = s in omega arith;
  none = λ e. let old = c.none e in (k.accepted ∙ old.0, k.delivered ∙ old.1);
  low = λ e. c.low (sym s ∙ e);
}

-- While the other is in RESET, the side that makes the step doesn't leave INIT.
side_stays_low : (p q new : Side) (l m l' : Log) → Kind p q l m new l' → q.state ≡ 0 → (p.state ≡ 0) ⊎ ((p.state ≡ 1) × ¬ SawSome p.seen) → (new.state ≡ 0) ⊎ ((new.state ≡ 1) × ¬ SawSome new.seen)
side_stays_low p q new l m l' (falls_to s n k ks ended) z old = inl s
side_stays_low p q new l m l' (inits was low s n k ks ended) z old = inr (s, λ some. subst SawSome n some)
side_stays_low p q new l m l' (opens was some s n a d opened carried earlier ended) z (inl e) = absurd (omega arith)
side_stays_low p q new l m l' (opens was some s n a d opened carried earlier ended) z (inr e) = absurd (e.1 some)
side_stays_low p q new l m l' (runs was high s n k opened carried earlier ended) z (inl e) = absurd (omega arith)
side_stays_low p q new l m l' (runs was high s n k opened carried earlier ended) z (inr e) = absurd (let f = e.0 in omega arith)
side_stays_low p q new l m l' (sees s n k same) z (inl e) = inl (s ∙ e)
side_stays_low p q new l m l' (sees s n k same) z (inr e) = inr (s ∙ e.0, λ some. let one : 1 ≤ q.state = subst SawSome n some in omega arith)
side_stays_low p q new l m l' (accepts was frame s n a d same) z (inl e) = absurd (omega arith)
side_stays_low p q new l m l' (accepts was frame s n a d same) z (inr e) = absurd (let f = e.0 in omega arith)
side_stays_low p q new l m l' (delivers was frame s n a d next same) z (inl e) = absurd (omega arith)
side_stays_low p q new l m l' (delivers was frame s n a d next same) z (inr e) = absurd (let f = e.0 in omega arith)
side_stays_low p q new l m l' (counts s n k same) z (inl e) = inl (s ∙ e)
side_stays_low p q new l m l' (counts s n k same) z (inr e) = inr (s ∙ e.0, λ some. e.1 (subst SawSome n some))

other_calm_kept : (p q new : Side) (l m l' : Log) → Kind p q l m new l' → Calm q p m → Calm q new m
other_calm_kept p q new l m l' kind o = record { most = o.most; stays = o.stays; none = o.none; low = λ z. side_stays_low p q new l m l' kind z (o.low z) }

-- Side events

-- The event is neither a write of 0 nor a reset.
abbrev IsUp : SideEvent → Type 0
IsUp (Gave value) = Unit {0}
IsUp (Wrote zero) = ⊥
IsUp (Wrote (suc n)) = Unit {0}
IsUp (Marked mark) = Unit {0}
IsUp WasReset = ⊥

mark_state : (sizes : Sizes) (p q : Side) (mark : Mark) (new : Side) → MarkRow sizes true p q mark new → new.state ≡ p.state
mark_state sizes p q (Saw value) new row = ap (λ (s : Side). s.state) row.2
mark_state sizes p q (Accept frame) new row = ap (λ (s : Side). s.state) row.2
mark_state sizes p q (Reclaim count) new row = ap (λ (s : Side). s.state) row.3
mark_state sizes p q Full new row = ap (λ (s : Side). s.state) row.2
mark_state sizes p q (Look count) new row = ap (λ (s : Side). s.state) row.3
mark_state sizes p q (Deliver frame) new row = ap (λ (s : Side). s.state) row.3
mark_state sizes p q Return new row = ap (λ (s : Side). s.state) row.2
mark_state sizes p q Done new row = ap (λ (s : Side). s.state) row.2
mark_state sizes p q Down new row = ap (λ (s : Side). s.state) row.1
mark_state sizes p q (Refuse refused) new row = ap (λ (s : Side). s.state) row.3
mark_state sizes p q Over new row = ap (λ (s : Side). s.state) row

stays_up : (sizes : Sizes) (p q : Side) (side_event : SideEvent) (new : Side) → Row sizes true true p q side_event new → IsUp side_event → new.state ≡ 0 → p.state ≡ 0
stays_up sizes p q (Gave value) new row up e = sym (ap (λ (s : Side). s.state) row) ∙ e
stays_up sizes p q (Wrote zero) new row up e = absurd up
stays_up sizes p q (Wrote (suc n)) new row up e = absurd (let s = ap (λ (x : Side). x.state) row.1 in omega arith)
stays_up sizes p q (Marked mark) new row up e = sym (mark_state sizes p q mark new row.1) ∙ e
stays_up sizes p q WasReset new row up e = absurd up

-- The sides and logs after the events of p.
record Along (sizes : Sizes) (sides : ℕ → Side) (p : ℕ) (new : Side) : Type 0 where
  sides' : ℕ → Side
  logs' : ℕ → Log
  run : MachineRuns sizes (λ p. true) sides' logs'
  calm : (q : ℕ) → q < 2 → Calm (sides' q) (sides' (1 - q)) (logs' q)
  side_is : sides' p ≡ new
  sides_stay : (q : ℕ) → q ≢ p → sides' q ≡ sides q

calm_like : (p p' q q' : Side) (l l' : Log) → p' ≡ p → q' ≡ q → l' ≡ l → Calm p q l → Calm p' q' l'
calm_like p p' q q' l l' e f g c = subst (λ x. Calm x q' l') (sym e) (subst (λ x. Calm p x l') (sym f) (subst (Calm p q) (sym g) c))

module _ (sizes : Sizes) (p : ℕ) (p2 : p < 2) where
  calm_step : (sides : ℕ → Side) (logs : ℕ → Log) (side_event : SideEvent) (new : Side) → MachineRuns sizes (λ p. true) sides logs → ((q : ℕ) → q < 2 → Calm (sides q) (sides (1 - q)) (logs q)) → IsUp side_event → Row sizes true true (sides p) (sides (1 - p)) side_event new →
      (a : Stepped sizes sides logs p new (log_after (logs p) (logs (1 - p)) (sides p) side_event)) → (q : ℕ) → q < 2 → Calm (a.sides' q) (a.sides' (1 - q)) (a.logs' q)
  calm_step sides logs side_event new r calm up row a q q2 = let l = log_after (logs p) (logs (1 - p)) (sides p) side_event in let ne : 1 - p ≢ p = λ e. omega arith in let o2 : 1 - p < 2 = omega arith in let back : 1 - (1 - p) ≡ p = omega arith in
      let kind = kind_of sizes (sides p) (sides (1 - p)) (logs p) (logs (1 - p)) side_event new row in
      let mine = own_calm_kept (sides p) (sides (1 - p)) new (logs p) (logs (1 - p)) l kind (stays_up sizes (sides p) (sides (1 - p)) side_event new row up) (half_of sizes (λ p. true) sides logs refl refl r p p2) (calm p p2) in
      let opposite = other_calm_kept (sides p) (sides (1 - p)) new (logs p) (logs (1 - p)) l kind (subst (λ k. Calm (sides (1 - p)) (sides k) (logs (1 - p))) back (calm (1 - p) o2)) in
      dite (ℕ_discrete q p)
      (λ e. let f : 1 - q ≡ 1 - p = omega arith in calm_like new (a.sides' q) (sides (1 - p)) (a.sides' (1 - q)) l (a.logs' q) (ap a.sides' e ∙ a.side_is) (ap a.sides' f ∙ a.sides_stay (1 - p) ne) (ap a.logs' e ∙ a.log_is) mine)
      (λ other. let e : q ≡ 1 - p = omega arith in let f : 1 - q ≡ p = omega arith in calm_like (sides (1 - p)) (a.sides' q) new (a.sides' (1 - q)) (logs (1 - p)) (a.logs' q) (ap a.sides' e ∙ a.sides_stay (1 - p) ne) (ap a.sides' f ∙ a.side_is) (ap a.logs' e ∙ a.logs_stay (1 - p) ne) opposite)

  along : (tolds : List SideEvent) (sides : ℕ → Side) (logs : ℕ → Log) (new : Side) → MachineRuns sizes (λ p. true) sides logs → ((q : ℕ) → q < 2 → Calm (sides q) (sides (1 - q)) (logs q)) → AllByRecursion IsUp tolds → FollowsRows sizes true (sides (1 - p)) (sides p) tolds new → Along sizes sides p new
  along [] sides logs new r calm up rows = record { sides' = sides; logs' = logs; run = r; calm = calm; side_is = sym rows; sides_stay = λ q ne. refl }
  along (side_event ∷ tolds) sides logs new r calm up rows = let a = row_step sizes p p2 sides logs side_event rows.0 r rows.1 in
      let b = along tolds a.sides' a.logs' new a.run (calm_step sides logs side_event rows.0 r calm up.0 rows.1 a) up.1 (rows_on sizes p p2 tolds sides logs rows.0 new _ a rows.2) in record {
        sides' = b.sides';
        logs' = b.logs';
        run = b.run;
        calm = b.calm;
        side_is = b.side_is;
        sides_stay = λ q ne. b.sides_stay q ne ∙ a.sides_stay q ne;
      }

-- Places

-- The end is about to set 0, by a Tick or a Stop.
abbrev IsDown : Place → Type 0
IsDown (WritingState zero) = Unit {0}
IsDown place = ⊥

marks_up : (marks : List Mark) → AllByRecursion IsUp (map Marked marks)
marks_up [] = tt
marks_up (mark ∷ marks) = (tt, marks_up marks)

access_up : (a : Access) (value : ℕ) (marks : List Mark) → (a ≡ access.State 0 → ⊥) → AllByRecursion IsUp (side_events_of a value ++ map Marked marks)
access_up (access.Read word) value marks up = (tt, marks_up marks)
access_up (access.Write word written) value marks up = marks_up marks
access_up (access.State zero) value marks up = absurd (up refl)
access_up (access.State (suc n)) value marks up = (tt, marks_up marks)
access_up (access.Ring target vector) value marks up = marks_up marks
access_up access.Nothing value marks up = marks_up marks

tolds_up : (config : EndConfig) (place : Place) (value : ℕ) → ¬ IsDown place → place ≢ Refusing → AllByRecursion IsUp (side_events_by (step_at config place value))
tolds_up config place value up sound = access_up (access_at config place) (step_at config place value).value (step_at config place value).marks (λ e. ⊎_elim (λ is. up (subst IsDown (sym is) tt)) (λ is. sound is.0) (state_at config place 0 e))

test_up : (b : Bool) (x y : Place) → ¬ IsDown x → ¬ IsDown y → ¬ IsDown (if b then x else y)
test_up true x y mine opposite = mine
test_up false x y mine opposite = opposite

clear_up : (at count state : ℕ) → state ≡ 2 → ¬ IsDown (clear_place at count state)
clear_up at zero state is down = let e : IsDown (WritingState 2) = subst (λ k. IsDown (WritingState k)) is down in e
clear_up at (suc more) state is down = down

fill_up : (pending : PendingOffer) (at count : ℕ) → ¬ IsDown (fill_place pending at count)
fill_up pending at zero down = down
fill_up pending at (suc more) down = down

ids_up : (config : EndConfig) (pending : PendingOffer) (freed count : ℕ) → ¬ IsDown (ids_place config pending freed count)
ids_up config pending freed zero = test_up (frame_fits config pending freed) (fill_place pending 0 (words_for (length pending.frame))) Closed (fill_up pending 0 (words_for (length pending.frame))) (λ d. d)
ids_up config pending freed (suc more) = λ d. d

none_up : (taken : ℕ) (last : Bool) → ¬ IsDown (none_place taken last)
none_up taken last = test_up last Closed (WritingAvailEvent taken) (λ d. d) (λ d. d)

items_up : (number count : ℕ) → ¬ IsDown (items_place number count)
items_up number zero down = down
items_up number (suc more) down = down

words_up : (number more entry address bytes : ℕ) (read : List ℕ) (count : ℕ) → ¬ IsDown (words_place number more entry address bytes read count)
words_up number more entry address bytes read zero down = down
words_up number more entry address bytes read (suc words) down = down

-- Only a Tick that read 0 in READY or RUN leads to such a place.
next_up : (link_config : LinkConfig) (p : ℕ) (memory : ℕ → ℕ) (end : End) (place : Place) (value : ℕ) → PlaceInvariant link_config memory p end place → ((handshake : HandshakeState) → place ≡ ReadingOtherState handshake → ¬ IsDown (tick_place (config_of link_config p) (move_of handshake value))) → ¬ IsDown (next_place (config_of link_config p) place value)
next_up link_config p memory end Closed value h tick = λ d. d
next_up link_config p memory end (ReadingOtherState handshake) value h tick = tick handshake refl
next_up link_config p memory end (Clearing at more state) value h tick = clear_up (at + 1) more state h.1
next_up link_config p memory end (WritingState state) value h tick = λ d. d
next_up link_config p memory end Refusing value h tick = λ d. d
next_up link_config p memory end NotInRun value h tick = λ d. d
next_up link_config p memory end (ReadingUsedIndex pending freed) value h tick = test_up (is_used_index (freed % 65536) (high_half value) (pending.number - freed)) (ids_place (config_of link_config p) pending freed (returned_by freed value)) Refusing (ids_up (config_of link_config p) pending freed (returned_by freed value)) (λ d. d)
next_up link_config p memory end (ReadingUsedId pending freed more) value h tick = test_up (is_used_id (descriptor_of (config_of link_config p) freed) value) (ids_place (config_of link_config p) pending (freed + 1) more) Refusing (ids_up (config_of link_config p) pending (freed + 1) more) (λ d. d)
next_up link_config p memory end (WritingFrameWord pending at more) value h tick = fill_up pending (at + 1) more
next_up link_config p memory end (WritingDescAddressLow pending) value h tick = λ d. d
next_up link_config p memory end (WritingDescAddressHigh pending) value h tick = λ d. d
next_up link_config p memory end (WritingDescLength pending) value h tick = λ d. d
next_up link_config p memory end (WritingDescFlags pending) value h tick = λ d. d
next_up link_config p memory end (WritingAvailEntry pending) value h tick = λ d. d
next_up link_config p memory end (WritingAvailIndex pending) value h tick = test_up (has_events link_config.sizes) (ReadingAvailEvent pending.number) RingingOffer (λ d. d) (λ d. d)
next_up link_config p memory end (ReadingAvailEvent number) value h tick = test_up (wants_doorbell (low_half value) number) RingingOffer Closed (λ d. d) (λ d. d)
next_up link_config p memory end RingingOffer value h tick = λ d. d
next_up link_config p memory end (ReadingAvailIndex taken last) value h tick = test_up (is_avail_index link_config.sizes (taken % 65536) (high_half value)) (if published_by taken value == 0 then none_place taken last else items_place taken (published_by taken value)) Refusing
    (test_up (published_by taken value == 0) (none_place taken last) (items_place taken (published_by taken value)) (none_up taken last) (items_up taken (published_by taken value))) (λ d. d)
next_up link_config p memory end (WritingAvailEvent taken) value h tick = λ d. d
next_up link_config p memory end (ReadingAvailEntry number more) value h tick = let e = entry_half (number % size_of link_config.sizes) value in test_up (is_avail_entry link_config.sizes e) (ReadingDescAddressLow number more e) Refusing (λ d. d) (λ d. d)
next_up link_config p memory end (ReadingDescAddressLow number more entry) value h tick = λ d. d
next_up link_config p memory end (ReadingDescAddressHigh number more entry low) value h tick = test_up (is_desc_address link_config.sizes (address_of low value)) (ReadingDescLength number more entry (address_of low value)) Refusing (λ d. d) (λ d. d)
next_up link_config p memory end (ReadingDescLength number more entry address) value h tick = test_up (is_desc_length link_config.sizes address value) (ReadingDescFlags number more entry address value) Refusing (λ d. d) (λ d. d)
next_up link_config p memory end (ReadingDescFlags number more entry address bytes) value h tick = test_up (is_desc_flags (desc_flags value)) (words_place number more entry address bytes [] (words_for bytes)) Refusing (words_up number more entry address bytes [] (words_for bytes)) (λ d. d)
next_up link_config p memory end (ReadingFrameWord number more entry address bytes read words) value h tick = words_up number more entry address bytes (read ++ value ∷ []) words
next_up link_config p memory end (WritingUsedId number more entry) value h tick = λ d. d
next_up link_config p memory end (WritingUsedLength number more) value h tick = λ d. d
next_up link_config p memory end (WritingUsedIndex number more) value h tick = items_up (number + 1) more
next_up link_config p memory end RingingPoll value h tick = λ d. d

tick_up : (config : EndConfig) (phase : Phase) (value : ℕ) → (2 ≤ state_of phase → 1 ≤ value) → ¬ IsDown (tick_place config (phase_move phase value))
tick_up config Reset zero some = λ d. d
tick_up config Reset (suc zero) some = λ d. d
tick_up config Reset (suc (suc more)) some = λ d. d
tick_up config Init zero some = λ d. d
tick_up config Init (suc more) some = clear_up config.own config.words 2 refl
tick_up config Ready zero some = λ d. let one : 1 ≤ 0 = some (omega arith) in omega arith
tick_up config Ready (suc zero) some = λ d. d
tick_up config Ready (suc (suc more)) some = λ d. d
tick_up config Run zero some = λ d. let one : 1 ≤ 0 = some (omega arith) in omega arith
tick_up config Run (suc more) some = λ d. d

move_up : (config : EndConfig) (handshake : HandshakeState) (value : ℕ) → (2 ≤ state_of handshake.phase → 1 ≤ value) → ¬ IsDown (tick_place config (move_of handshake value))
move_up config handshake value some = by_mark handshake.mark
  where
    by_mark : (b : Bool) → ¬ IsDown (tick_place config (if b then Stay else phase_move handshake.phase value))
    by_mark true = λ d. d
    by_mark false = tick_up config handshake.phase value some

first_up : (config : EndConfig) (end : End) (call : Call) → call ≢ Stop → ¬ IsDown (first_place config end call)
first_up config end Tick ne = λ d. d
first_up config end Stop ne = absurd (ne refl)
first_up config end (Offer frame) ne = test_up (in_run end.handshake.phase) (ReadingUsedIndex (pending_of config end frame) end.freed) NotInRun (λ d. d) (λ d. d)
first_up config end Poll ne = test_up (in_run end.handshake.phase) (ReadingAvailIndex (length end.delivered) (is_last config end.found_none)) NotInRun (λ d. d) (λ d. d)

-- Runs

calm_runs_are_honest : (link_config : LinkConfig) (memory : ℕ → ℕ) (ends : ℕ → End) (places : ℕ → Place) → CalmRuns link_config memory ends places → HonestRuns link_config memory ends places
calm_runs_are_honest link_config _ _ _ (starts memory ends places none new closed) = honest.starts memory ends places none new closed
calm_runs_are_honest link_config _ _ _ (begins memory ends after_ends places after_places p call run p2 ne begun) = honest.begins memory ends after_ends places after_places p call (calm_runs_are_honest link_config memory ends places run) p2 refl begun
calm_runs_are_honest link_config _ _ _ (steps memory after ends after_ends places after_places p value run p2 step) = honest.steps memory after ends after_ends places after_places p value (calm_runs_are_honest link_config memory ends places run) p2 refl step
calm_runs_are_honest link_config _ _ _ (others memory after ends places run keep) = honest.others memory after ends places (calm_runs_are_honest link_config memory ends places run) (λ q q2 _. keep q q2)

-- The ends are calm sides, and none is about to set 0.
record AreCalm (link_config : LinkConfig) (ends : ℕ → End) (places : ℕ → Place) : Type 0 where
  sides : ℕ → Side
  logs : ℕ → Log
  run : MachineRuns link_config.sizes (λ p. true) sides logs
  are : (p : ℕ) → p < 2 → SideIs (ends p) (places p) (sides p)
  calm : (p : ℕ) → p < 2 → Calm (sides p) (sides (1 - p)) (logs p)
  up : (p : ℕ) → p < 2 → ¬ IsDown (places p)

moved : (link_config : LinkConfig) (ends after_ends : ℕ → End) (places after_places : ℕ → Place) (p : ℕ) (end : End) (place : Place) (new : Side) → p < 2 → (r : AreCalm link_config ends places) → Along link_config.sizes r.sides p new → SideIs end place new → ¬ IsDown place →
    OnlyEndChanges ends after_ends places after_places p end place → AreCalm link_config after_ends after_places
moved link_config ends after_ends places after_places p end place new p2 r x is up only = record {
  sides = x.sides';
  logs = x.logs';
  run = x.run;
  calm = x.calm;
  are = λ q q2. dite (ℕ_discrete q p)
      (λ e. side_like end (after_ends q) place (after_places q) new (x.sides' q) (ap after_ends e ∙ only.end_is) (ap after_places e ∙ only.place_is) (ap x.sides' e ∙ x.side_is) is)
      (λ ne. side_like (ends q) (after_ends q) (places q) (after_places q) (r.sides q) (x.sides' q) (only.ends_stay q ne) (only.places_stay q ne) (x.sides_stay q ne) (r.are q q2));
  up = λ q q2. dite (ℕ_discrete q p)
      (λ e. subst (λ x. ¬ IsDown x) (sym (ap after_places e ∙ only.place_is)) up)
      (λ ne. subst (λ x. ¬ IsDown x) (sym (only.places_stay q ne)) (r.up q q2));
}

calm_runs_are_calm : (link_config : LinkConfig) (memory : ℕ → ℕ) (ends : ℕ → End) (places : ℕ → Place) → IsLinkConfig link_config → CalmRuns link_config memory ends places → AreCalm link_config ends places
calm_runs_are_calm link_config _ _ _ is (starts memory ends places none new closed) = record {
  sides = λ p. initial_side;
  logs = λ p. no_sessions;
  run = machine.starts (λ p. initial_side) (λ p. no_sessions) (λ p. refl) (λ p. refl);
  are = λ p p2. side_like fresh (ends p) Closed (places p) initial_side initial_side (new p) (closed p) refl steps_follow_rows.starts;
  calm = λ p p2. record { most = omega arith; stays = λ one. absurd (omega arith); none = λ e. (refl, refl); low = λ e. inl refl };
  up = λ p p2 d. subst IsDown (closed p) d;
}
calm_runs_are_calm link_config _ _ _ is (begins memory ends after_ends places after_places p call run p2 ne begun) = let r = calm_runs_are_calm link_config memory ends places is run in
    moved link_config ends after_ends places after_places p (ends p) (first_place (config_of link_config p) (ends p) call) (r.sides p) p2 r
    record { sides' = r.sides; logs' = r.logs; run = r.run; calm = r.calm; side_is = refl; sides_stay = λ q ne. refl }
    (steps_follow_rows.begins (config_of link_config p) (ends p) call (r.sides p) (subst (λ (x : Place). SideIs (ends p) x (r.sides p)) begun.closed (r.are p p2))) (first_up (config_of link_config p) (ends p) call ne) begun.comes
calm_runs_are_calm link_config _ _ _ is (steps memory after ends after_ends places after_places p value run p2 step) = let r = calm_runs_are_calm link_config memory ends places is run in let o2 : 1 - p < 2 = omega arith in
    let held = runs_keep_invariant link_config (λ p. true) memory ends places is (calm_runs_are_honest link_config memory ends places run) in let config = config_of link_config p in
    let state : (r.sides (1 - p)).state ≡ memory (1 - p) = (r.are (1 - p) o2).state ∙ sym (held.alone (1 - p) o2 refl).state in
    let f = steps_follow_rows.steps link_config (λ p. true) memory ends places p value (r.sides p) (r.sides (1 - p)) is p2 refl held (r.are p p2) state (λ _. r.are (1 - p) o2) step.opened step.meets in
    moved link_config ends after_ends places after_places p _ (next_place config (places p) value) f.0 p2 r
    (along link_config.sizes p p2 (side_events_by (step_at config (places p) value)) r.sides r.logs f.0 r.run r.calm (tolds_up config (places p) value (r.up p p2) ((held.pair refl refl).sound p p2).1) f.1) f.2
    (next_up link_config p memory (ends p) (places p) value (held.alone p p2 refl).holds (λ handshake at. move_up config handshake value (λ high. some r handshake at (subst (λ x. PlaceInvariant link_config memory p (ends p) x) at (held.alone p p2 refl).holds) state (subst (λ x. ReadsMemory memory (access_at config x) value) at step.meets) high))) step.comes
  where
    some : (r : AreCalm link_config ends places) (handshake : HandshakeState) → places p ≡ ReadingOtherState handshake → handshake ≡ (ends p).handshake → (r.sides (1 - p)).state ≡ memory (1 - p) → value ≡ memory (1 - p) → 2 ≤ state_of handshake.phase → 1 ≤ value
    some r handshake at same state met high = let o2 : 1 - p < 2 = omega arith in let back : 1 - (1 - p) ≡ p = omega arith in
        let mine : (r.sides p).state ≡ state_of handshake.phase = (r.are p p2).state ∙ ap (λ (h : HandshakeState). state_of h.phase) (sym same) in
        dite (ℕ_discrete value 0)
        (λ e. let low : ((r.sides p).state ≡ 0) ⊎ (((r.sides p).state ≡ 1) × ¬ SawSome (r.sides p).seen) = subst (λ k. ((r.sides k).state ≡ 0) ⊎ (((r.sides k).state ≡ 1) × ¬ SawSome (r.sides k).seen)) back ((r.calm (1 - p) o2).low (state ∙ (sym met ∙ e))) in
        ⊎_elim (λ z. absurd (omega arith)) (λ z. absurd (let one = z.0 in omega arith)) low)
        (λ ne. omega arith)
calm_runs_are_calm link_config _ _ _ is (others memory after ends places run keep) = calm_runs_are_calm link_config memory ends places is run

-- The consequences

phase_reset : (phase : Phase) → state_of phase ≡ 0 → phase ≡ Reset
phase_reset Reset e = refl
phase_reset Init e = absurd (omega arith)
phase_reset Ready e = absurd (omega arith)
phase_reset Run e = absurd (omega arith)

phase_init : (phase : Phase) → state_of phase ≡ 1 → phase ≡ Init
phase_init Reset e = absurd (omega arith)
phase_init Init e = refl
phase_init Ready e = absurd (omega arith)
phase_init Run e = absurd (omega arith)

-- In INIT a Tick that moves read a State of at least 1.
saw_some : (value state : ℕ) → MovesTo Init value state → 1 ≤ value
saw_some zero state (inl e) = absurd (cc)
saw_some zero state (inr e) = absurd (cc)
saw_some (suc n) state moves = omega arith

saw_for : (end : End) (seen : Option ℕ) (state : ℕ) → end.handshake.phase ≡ Init → SawFor end seen state → SawSome seen
saw_for end seen state init saw = subst SawSome (sym saw.1) (saw_some saw.0 state (subst (λ x. MovesTo x saw.0 state) init saw.2))

still_is : (end : End) (place : Place) (side : Side) → end.handshake.phase ≡ Init → SideIs end place side → ¬ SawSome side.seen → IsStill place
still_is end place side init si none = record {
  clears = λ at more state e. none (saw_for end side.seen state init (subst (λ x. CallIs end x side) e si.call).0);
  sets = λ e. ⊎_elim (λ z. absurd (let two : 2 ≡ 0 = z in omega arith)) (λ saw. none (saw_for end side.seen 2 init saw)) (subst (λ x. CallIs end x side) e si.call).0;
}

pub calm_runs_deliver : CalmRunsDeliver
calm_runs_deliver link_config memory ends places is run = let r = calm_runs_are_calm link_config memory ends places is run in (r.sides, r.logs, r.run, λ p p2. (r.are p p2, once r p p2, prefix r p p2))
  where
    once : (r : AreCalm link_config ends places) (p : ℕ) → p < 2 → OpensOnce (ends p) (ends (1 - p)) (places p) (places (1 - p)) (r.logs p)
    once r p p2 = let o2 : 1 - p < 2 = omega arith in let c = r.calm p p2 in let mine = r.are p p2 in let opposite = r.are (1 - p) o2 in record {
      most = c.most;
      stays = λ one. let two = c.stays one in let s = mine.state in omega arith;
      counted = λ two. (half_of link_config.sizes (λ p. true) r.sides r.logs refl refl r.run p p2).one (let s = mine.state in omega arith);
      none = λ e. let old = c.none e in (sym mine.accepted ∙ old.0, sym mine.delivered ∙ old.1);
      up = λ e. r.up p p2 (subst IsDown (sym e) tt);
      low = λ reset. ⊎_elim (λ z. inl (phase_reset (ends (1 - p)).handshake.phase (sym opposite.state ∙ z)))
          (λ z. let init = phase_init (ends (1 - p)).handshake.phase (sym opposite.state ∙ z.0) in inr (init, still_is (ends (1 - p)) (places (1 - p)) (r.sides (1 - p)) init opposite z.1))
          (c.low (mine.state ∙ ap state_of reset));
    }

    prefix : (r : AreCalm link_config ends places) (p : ℕ) → p < 2 → (rest : List (List ℕ)) × ((ends p).accepted ≡ (ends (1 - p)).delivered ++ rest)
    prefix r p p2 = let o2 : 1 - p < 2 = omega arith in let back : 1 - (1 - p) ≡ p = omega arith in let s = r.sides (1 - p) in
        let h = half_of link_config.sizes (λ p. true) r.sides r.logs refl refl r.run (1 - p) o2 in let few = h.few in let c = r.calm (1 - p) o2 in
        let mine = r.are p p2 in let opposite = r.are (1 - p) o2 in
        dite (ℕ_discrete s.state 3)
        (λ e. let f = h.prefix (inl (inl e)) in (f.0, sym mine.accepted ∙ (ap (λ k. (r.sides k).accepted) (sym back) ∙ (f.1 ∙ ap (λ (x : List (List ℕ)). x ++ f.0) opposite.delivered))))
        (λ ne. let none : s.delivered ≡ [] = dite (ℕ_discrete s.state 2) (λ e. (h.ready e).1) (λ other. (c.none (dite (ℕ_discrete (r.logs (1 - p)).opened 0) (λ z. z) (λ some. absurd (let two = c.stays (omega arith) in omega arith)))).1) in
        ((ends p).accepted, ap (λ (x : List (List ℕ)). x ++ (ends p).accepted) (sym none ∙ opposite.delivered)))
