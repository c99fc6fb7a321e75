-- Two honest sides deliver in order, through all sessions.
use Rattle.std.proofs.Common.{◌≡◌, ◌≢◌, ℕ, zero, suc, ◌+◌, ◌-◌, ◌<◌, ◌≤◌, ◌⊎◌, inl, inr, ⊎_elim, Bool, true, false, List, [], ◌∷◌, ◌++◌, length, refl, sym, ap, ◌∙◌, subst, arith, append_assoc, eq-eqb, ne_eqb, length-append}
use mathlib.Core.Logic.{dite}
use native.Mathlib.Decide.{ℕ_discrete}
use Rattle.std.specs.Prelude.{◌==◌, if◌then◌else◌, Option, Some, None, slice_get, get_or}
use Rattle.std.proofs.lemmas.Option.{slice_get_within, get_or_from_slice_get}
use Rattle.std.proofs.Math.Seq.{get_or-append_seam}
use Rattle.link_handshake.specs.declared.Phase.{Phase}
use Rattle.link_handshake.specs.declared.Phase.TheVariants.{Reset, Init, Ready, Run}
use Rattle.link_handshake.specs.PhaseTable.{phase_of_state}
use Rattle.split_ring.specs.Layout.{Sizes}
use Rattle.call_grammar.specs.Steps.{Mark, Saw, Reclaim, Full, Accept, Look, Deliver, Return, Done, Down, Refuse, Over}
use Rattle.call_grammar.specs.Rows.{MovesTo}
use Rattle.call_grammar.proofs.OfferLists.{yes, no}
use Rattle.link_machine.specs.LinkMachine.{Side, initial_side, SideEvent, Gave, Wrote, Marked, WasReset, side_with, MarkRow, Row, Ended, Log, no_sessions, accepted_in, ended_with, log_after, MachineRuns, starts, goes, AreBeginnings, CarriedFall, MachineDelivers}

abbrev pub SawLow : Option ℕ → Type 0
SawLow None = ⊥
SawLow (Some v) = v ≤ 1

abbrev pub SawSome : Option ℕ → Type 0
SawSome None = ⊥
SawSome (Some v) = 1 ≤ v

abbrev pub SawHigh : Option ℕ → Type 0
SawHigh None = ⊥
SawHigh (Some v) = 2 ≤ v

-- The side is attached: in RUN, or in READY and about to set RUN.
abbrev pub Attends : Side → Type 0
Attends p = (p.state ≡ 3) ⊎ ((p.state ≡ 2) × SawHigh p.seen)

-- The side opens no session: it is neither in INIT nor about to set it.
abbrev pub OpensNone : Side → Type 0
OpensNone q = (q.state ≢ 1) × (q.state ≡ 0 → ¬ SawLow q.seen)

-- The side is about to open a session or to enter RUN.
abbrev pub Begins : Side → Type 0
Begins p = (p.state ≡ 1) ⊎ ((p.state ≡ 2) ⊎ ((p.state ≡ 0) × SawLow p.seen))

abbrev pub bound : Side → Log → ℕ
bound p l = if p.state == 3 then l.carried else l.carried + 1

pub record Half (p q : Side) (l m : Log) : Type 0 where
  pub few : p.state ≤ 3
  pub ready : p.state ≡ 2 → (p.accepted ≡ []) × (p.delivered ≡ [])
  pub cross : Attends p → OpensNone q
  pub prefix : Attends p ⊎ Attends q → (rest : List (List ℕ)) × (q.accepted ≡ p.delivered ++ rest)
  pub one : 2 ≤ p.state → 1 ≤ l.opened
  pub risen : l.carried ≤ m.opened
  pub run : p.state ≡ 3 → l.carried ≡ m.opened
  pub begins : Begins p → 2 ≤ q.state → l.carried < m.opened
  pub attends : p.state ≡ 2 → SawHigh p.seen → l.carried < m.opened
  pub past : AreBeginnings m q l.ended
  pub falls : CarriedFall (bound p l) l.ended

-- The effect of a step on a side and its log

pub record KeepsSessions (l l' : Log) : Type 0 where
  pub opened : l'.opened ≡ l.opened
  pub carried : l'.carried ≡ l.carried
  pub earlier : (k : ℕ) → l'.earlier k ≡ l.earlier k

pub record Keeps (p new : Side) : Type 0 where
  pub accepted : new.accepted ≡ p.accepted
  pub delivered : new.delivered ≡ p.delivered

pub data Kind (p q : Side) (l m : Log) (new : Side) (l' : Log) : Type 0 where
  falls_to : new.state ≡ 0 → new.seen ≡ None → Keeps p new → KeepsSessions l l' → l'.ended ≡ ended_with l p → Kind p q l m new l'
  inits : p.state ≡ 0 → SawLow p.seen → new.state ≡ 1 → new.seen ≡ None → Keeps p new → KeepsSessions l l' → l'.ended ≡ l.ended → Kind p q l m new l'
  opens : p.state ≡ 1 → SawSome p.seen → new.state ≡ 2 → new.seen ≡ None → new.accepted ≡ [] → new.delivered ≡ [] → l'.opened ≡ l.opened + 1 → l'.carried ≡ l.carried → ((k : ℕ) → l'.earlier k ≡ accepted_in l p k) → l'.ended ≡ l.ended → Kind p q l m new l'
  runs : p.state ≡ 2 → SawHigh p.seen → new.state ≡ 3 → new.seen ≡ None → Keeps p new → l'.opened ≡ l.opened → l'.carried ≡ m.opened → ((k : ℕ) → l'.earlier k ≡ l.earlier k) → l'.ended ≡ l.ended → Kind p q l m new l'
  sees : new.state ≡ p.state → new.seen ≡ Some q.state → Keeps p new → l' ≡ l → Kind p q l m new l'
  accepts : p.state ≡ 3 → (frame : List ℕ) → new.state ≡ 3 → new.seen ≡ p.seen → new.accepted ≡ p.accepted ++ frame ∷ [] → new.delivered ≡ p.delivered → l' ≡ l → Kind p q l m new l'
  delivers : p.state ≡ 3 → (frame : List ℕ) → new.state ≡ 3 → new.seen ≡ p.seen → new.accepted ≡ p.accepted → new.delivered ≡ p.delivered ++ frame ∷ [] → slice_get q.accepted (length p.delivered) ≡ Some frame → l' ≡ l → Kind p q l m new l'
  counts : new.state ≡ p.state → new.seen ≡ p.seen → Keeps p new → l' ≡ l → Kind p q l m new l'

-- The moves of the phase table.
pub table : (phase : Phase) (v n : ℕ) → MovesTo phase v n → (n ≡ 0) ⊎ (((phase ≡ Reset) × (v ≤ 1) × (n ≡ 1)) ⊎ (((phase ≡ Init) × (1 ≤ v) × (n ≡ 2)) ⊎ ((phase ≡ Ready) × (2 ≤ v) × (n ≡ 3))))
table Reset zero n (inl e) = inr (inl (refl, omega arith, (cc)))
table Reset (suc zero) n (inl e) = inr (inl (refl, omega arith, (cc)))
table Reset (suc (suc v)) n (inl e) = absurd (cc)
table Reset zero n (inr e) = absurd (cc)
table Reset (suc zero) n (inr e) = absurd (cc)
table Reset (suc (suc v)) n (inr e) = absurd (cc)
table Init zero n (inl e) = absurd (cc)
table Init (suc v) n (inl e) = absurd (cc)
table Init zero n (inr e) = absurd (cc)
table Init (suc v) n (inr e) = inr (inr (inl (refl, omega arith, (cc))))
table Ready zero n (inl e) = inl (cc)
table Ready (suc zero) n (inl e) = absurd (cc)
table Ready (suc (suc v)) n (inl e) = inr (inr (inr (refl, omega arith, (cc))))
table Ready zero n (inr e) = absurd (cc)
table Ready (suc zero) n (inr e) = absurd (cc)
table Ready (suc (suc v)) n (inr e) = absurd (cc)
table Run zero n (inl e) = inl (cc)
table Run (suc v) n (inl e) = absurd (cc)
table Run zero n (inr e) = absurd (cc)
table Run (suc v) n (inr e) = absurd (cc)

is_reset : (s : ℕ) → phase_of_state s ≡ Reset → s ≡ 0
is_reset zero e = refl
is_reset (suc zero) e = absurd (cc)
is_reset (suc (suc zero)) e = absurd (cc)
is_reset (suc (suc (suc v))) e = absurd (cc)

is_init : (s : ℕ) → phase_of_state s ≡ Init → s ≡ 1
is_init zero e = absurd (cc)
is_init (suc zero) e = refl
is_init (suc (suc zero)) e = absurd (cc)
is_init (suc (suc (suc v))) e = absurd (cc)

is_ready : (s : ℕ) → phase_of_state s ≡ Ready → s ≡ 2
is_ready zero e = absurd (cc)
is_ready (suc zero) e = absurd (cc)
is_ready (suc (suc zero)) e = refl
is_ready (suc (suc (suc v))) e = absurd (cc)

-- A write of the State, by the State that it writes.
wrote_zero : (p q : Side) (l m : Log) → Kind p q l m (side_with p 0) (log_after l m p (Wrote 0))
wrote_zero p q l m = falls_to refl refl record { accepted = refl; delivered = refl } record { opened = refl; carried = refl; earlier = λ k. refl } refl

not_run : (p : Side) (l : Log) → p.state ≢ 3 → ended_with l p ≡ l.ended
not_run p l ne = no (p.state == 3) _ l.ended (ne_eqb p.state 3 ne)

wrote_kind : (p q : Side) (l m : Log) (v n : ℕ) → p.seen ≡ Some v → MovesTo (phase_of_state p.state) v n → Kind p q l m (side_with p n) (log_after l m p (Wrote n))
wrote_kind p q l m v n seen moves = by_table (table (phase_of_state p.state) v n moves)
  where
    by_table : (n ≡ 0) ⊎ (((phase_of_state p.state ≡ Reset) × (v ≤ 1) × (n ≡ 1)) ⊎ (((phase_of_state p.state ≡ Init) × (1 ≤ v) × (n ≡ 2)) ⊎ ((phase_of_state p.state ≡ Ready) × (2 ≤ v) × (n ≡ 3)))) → Kind p q l m (side_with p n) (log_after l m p (Wrote n))
    by_table (inl e) = subst (λ k. Kind p q l m (side_with p k) (log_after l m p (Wrote k))) (sym e) (wrote_zero p q l m)
    by_table (inr (inl h)) = let s = is_reset p.state h.0 in subst (λ k. Kind p q l m (side_with p k) (log_after l m p (Wrote k))) (sym h.2)
        (inits s (subst SawLow (sym seen) h.1) refl refl record { accepted = refl; delivered = refl } record { opened = refl; carried = refl; earlier = λ k. refl } (not_run p l (λ e. omega arith)))
    by_table (inr (inr (inl h))) = let s = is_init p.state h.0 in subst (λ k. Kind p q l m (side_with p k) (log_after l m p (Wrote k))) (sym h.2)
        (opens s (subst SawSome (sym seen) h.1) refl refl refl refl refl refl (λ k. refl) (not_run p l (λ e. omega arith)))
    by_table (inr (inr (inr h))) = let s = is_ready p.state h.0 in subst (λ k. Kind p q l m (side_with p k) (log_after l m p (Wrote k))) (sym h.2)
        (runs s (subst SawHigh (sym seen) h.1) refl refl record { accepted = refl; delivered = refl } refl refl (λ k. refl) (not_run p l (λ e. omega arith)))

mark_kind : (sizes : Sizes) (p q : Side) (l m : Log) (mark : Mark) (new : Side) → MarkRow sizes true p q mark new → Kind p q l m new l
mark_kind sizes p q l m (Saw value) new row = subst (λ (s : Side). Kind p q l m s l) (sym row.2) (sees refl (ap Some row.1) record { accepted = refl; delivered = refl } refl)
mark_kind sizes p q l m (Reclaim count) new row = subst (λ (s : Side). Kind p q l m s l) (sym row.3) (counts refl refl record { accepted = refl; delivered = refl } refl)
mark_kind sizes p q l m Full new row = subst (λ (s : Side). Kind p q l m s l) (sym row.2) (counts refl refl record { accepted = refl; delivered = refl } refl)
mark_kind sizes p q l m (Accept frame) new row = subst (λ (s : Side). Kind p q l m s l) (sym row.2) (accepts row.0 frame row.0 refl refl refl refl)
mark_kind sizes p q l m (Look count) new row = subst (λ (s : Side). Kind p q l m s l) (sym row.3) (counts refl refl record { accepted = refl; delivered = refl } refl)
mark_kind sizes p q l m (Deliver frame) new row = subst (λ (s : Side). Kind p q l m s l) (sym row.3) (delivers row.0 frame row.0 refl refl refl row.2 refl)
mark_kind sizes p q l m Return new row = subst (λ (s : Side). Kind p q l m s l) (sym row.2) (counts refl refl record { accepted = refl; delivered = refl } refl)
mark_kind sizes p q l m Done new row = subst (λ (s : Side). Kind p q l m s l) (sym row.2) (counts refl refl record { accepted = refl; delivered = refl } refl)
mark_kind sizes p q l m Down new row = subst (λ (s : Side). Kind p q l m s l) (sym row.1) (counts refl refl record { accepted = refl; delivered = refl } refl)
mark_kind sizes p q l m (Refuse refused) new row = let f : true ≡ false = row.0 in absurd (cc)
mark_kind sizes p q l m Over new row = subst (λ (s : Side). Kind p q l m s l) (sym row) (counts refl refl record { accepted = refl; delivered = refl } refl)

pub kind_of : (sizes : Sizes) (p q : Side) (l m : Log) (side_event : SideEvent) (new : Side) → Row sizes true true p q side_event new → Kind p q l m new (log_after l m p side_event)
kind_of sizes p q l m (Gave value) new is = subst (λ (s : Side). Kind p q l m s l) (sym is) (counts refl refl record { accepted = refl; delivered = refl } refl)
kind_of sizes p q l m (Wrote n) new (inl e, is) = subst (λ (s : Side). Kind p q l m s (log_after l m p (Wrote n))) (sym is) (subst (λ k. Kind p q l m (side_with p k) (log_after l m p (Wrote k))) (sym e) (wrote_zero p q l m))
kind_of sizes p q l m (Wrote n) new (inr h, is) = subst (λ (s : Side). Kind p q l m s (log_after l m p (Wrote n))) (sym is) (wrote_kind p q l m h.1.0 n h.1.1 h.1.2)
kind_of sizes p q l m (Marked mark) new row = mark_kind sizes p q l m mark new row.1
kind_of sizes p q l m WasReset new is = subst (λ (s : Side). Kind p q l m s (log_after l m p WasReset)) (sym is) (falls_to refl refl record { accepted = refl; delivered = refl } record { opened = refl; carried = refl; earlier = λ k. refl } refl)

-- The deliveries of sessions that are over stay beginnings if the accepted lists that they carried
-- only grow.

beginnings_kept : (m m' : Log) (q q' : Side) (sessions : List Ended) → ((k : ℕ) → k ≤ m.opened → (k ≤ m'.opened) × ((more : List (List ℕ)) × (accepted_in m' q' k ≡ accepted_in m q k ++ more))) → AreBeginnings m q sessions → AreBeginnings m' q' sessions
beginnings_kept m m' q q' [] grow h = tt
beginnings_kept m m' q q' (session ∷ sessions) grow h = let g = grow session.carried h.0 in
    (g.0, (h.1.0 ++ g.1.0, g.1.1 ∙ (ap (λ (x : List (List ℕ)). x ++ g.1.0) h.1.1 ∙ append_assoc session.delivered h.1.0 g.1.0)), beginnings_kept m m' q q' sessions grow h.2)

fall_from : (a b : ℕ) (sessions : List Ended) → a ≤ b → CarriedFall a sessions → CarriedFall b sessions
fall_from a b [] le h = tt
fall_from a b (session ∷ sessions) le h = (let lt = h.0 in omega arith, h.1)

bound_run : (p : Side) (l : Log) → p.state ≡ 3 → bound p l ≡ l.carried
bound_run p l e = yes (p.state == 3) l.carried (l.carried + 1) (eq-eqb p.state 3 e)

bound_else : (p : Side) (l : Log) → p.state ≢ 3 → bound p l ≡ l.carried + 1
bound_else p l ne = no (p.state == 3) l.carried (l.carried + 1) (ne_eqb p.state 3 ne)

nil_append : (xs : List (List ℕ)) → xs ++ [] ≡ xs
nil_append [] = refl
nil_append (x ∷ xs) = ap (λ (l : List (List ℕ)). x ∷ l) (nil_append xs)

-- A session in RUN that ends

ended_past : (p q : Side) (l m : Log) → Half p q l m → AreBeginnings m q (ended_with l p)
ended_past p q l m h = dite (ℕ_discrete p.state 3)
    (λ e. let r = h.prefix (inl (inl e)) in let run = h.run e in
    subst (AreBeginnings m q) (sym (yes (p.state == 3) (record { carried = l.carried; delivered = p.delivered } ∷ l.ended) l.ended (eq-eqb p.state 3 e)))
    (omega arith, (r.0, yes (l.carried == m.opened) q.accepted (m.earlier l.carried) (eq-eqb l.carried m.opened run) ∙ r.1), h.past))
    (λ ne. subst (AreBeginnings m q) (sym (not_run p l ne)) h.past)

ended_falls : (p q : Side) (l m : Log) → Half p q l m → CarriedFall (l.carried + 1) (ended_with l p)
ended_falls p q l m h = dite (ℕ_discrete p.state 3)
    (λ e. subst (CarriedFall (l.carried + 1)) (sym (yes (p.state == 3) (record { carried = l.carried; delivered = p.delivered } ∷ l.ended) l.ended (eq-eqb p.state 3 e)))
    (omega arith, subst (λ b. CarriedFall b l.ended) (bound_run p l e) h.falls))
    (λ ne. subst (CarriedFall (l.carried + 1)) (sym (not_run p l ne)) (subst (λ b. CarriedFall b l.ended) (bound_else p l ne) h.falls))

-- A side below RUN that saw no State of 2 or more isn't attached.
idle : (p : Side) → p.state ≢ 3 → (p.state ≡ 2 → ¬ SawHigh p.seen) → Attends p → ⊥
idle p ne low (inl e) = ne e
idle p ne low (inr h) = low h.0 h.1

-- A side to which the other is attached doesn't begin a session.
steady : (p q : Side) (l m : Log) → Half q p m l → Attends q → p.state ≡ 0 → SawLow p.seen → ⊥
steady p q l m o a e low = (o.cross a).1 e low

attends_high : (q : Side) → Attends q → 2 ≤ q.state
attends_high q (inl e) = omega arith
attends_high q (inr h) = let e = h.0 in omega arith

same_attends : (p new : Side) → new.state ≡ p.state → new.seen ≡ p.seen → Attends new → Attends p
same_attends p new s n (inl e) = inl (sym s ∙ e)
same_attends p new s n (inr h) = inr (sym s ∙ h.0, subst SawHigh n h.1)

-- The next frame of a list that begins with `done`.
next_is : (frames done rest : List (List ℕ)) (frame : List ℕ) → frames ≡ done ++ rest → slice_get frames (length done) ≡ Some frame → (more : List (List ℕ)) × (frames ≡ (done ++ frame ∷ []) ++ more)
next_is frames done [] frame is next = absurd (let lt = slice_get_within frames (length done) frame next in omega (arith, ap length is, length-append done []))
next_is frames done (g ∷ rest) frame is next =
    let same : g ≡ frame = sym (get_or-append_seam done g rest []) ∙ (ap (λ (l : List (List ℕ)). get_or l (length done) []) (sym is) ∙ get_or_from_slice_get frames (length done) frame [] next) in
    (rest, is ∙ (ap (λ (x : List ℕ). done ++ x ∷ rest) same ∙ sym (append_assoc done (frame ∷ []) rest)))

-- The side that makes the step

own_half_kept : (p q new : Side) (l m l' : Log) → Kind p q l m new l' → Half p q l m → Half q p m l → Half new q l' m
own_half_kept p q new l m l' (falls_to s n k ks ended) h o = let none : Attends new → ⊥ = idle new (λ e. omega arith) (λ e. absurd (omega arith)) in record {
  few = omega arith;
  ready = λ e. absurd (omega arith);
  cross = λ a. absurd (none a);
  prefix = λ a. ⊎_elim (λ x. absurd (none x)) (λ y. let r = h.prefix (inr y) in (r.0, r.1 ∙ ap (λ (d : List (List ℕ)). d ++ r.0) (sym k.delivered))) a;
  one = λ e. absurd (omega arith);
  risen = let c = ks.carried in let r = h.risen in omega arith;
  run = λ e. absurd (omega arith);
  begins = λ b two. ⊎_elim (λ e. absurd (omega arith)) (λ c. ⊎_elim (λ e. absurd (omega arith)) (λ z. absurd (subst SawLow n z.1)) c) b;
  attends = λ e. absurd (omega arith);
  past = subst (AreBeginnings m q) (sym ended) (ended_past p q l m h);
  falls = subst (CarriedFall (bound new l')) (sym ended) (subst (λ b. CarriedFall b (ended_with l p)) (ap (λ c. c + 1) (sym ks.carried) ∙ sym (bound_else new l' (λ e. omega arith))) (ended_falls p q l m h));
}
own_half_kept p q new l m l' (inits z low s n k ks ended) h o = let none : Attends new → ⊥ = idle new (λ e. omega arith) (λ e. absurd (omega arith)) in record {
  few = omega arith;
  ready = λ e. absurd (omega arith);
  cross = λ a. absurd (none a);
  prefix = λ a. ⊎_elim (λ x. absurd (none x)) (λ y. absurd (steady p q l m o y z low)) a;
  one = λ e. absurd (omega arith);
  risen = let c = ks.carried in let r = h.risen in omega arith;
  run = λ e. absurd (omega arith);
  begins = λ b two. let lt = h.begins (inr (inr (z, low))) two in let c = ks.carried in omega arith;
  attends = λ e. absurd (omega arith);
  past = subst (AreBeginnings m q) (sym ended) h.past;
  falls = subst (CarriedFall (bound new l')) (sym ended) (subst (λ b. CarriedFall b l.ended) (bound_else p l (λ e. omega arith) ∙ (ap (λ c. c + 1) (sym ks.carried) ∙ sym (bound_else new l' (λ e. omega arith)))) h.falls);
}
own_half_kept p q new l m l' (opens z some s n a d opened carried earlier ended) h o = let none : Attends new → ⊥ = idle new (λ e. omega arith) (λ _ high. subst SawHigh n high) in record {
  few = omega arith;
  ready = λ e. (a, d);
  cross = λ a. absurd (none a);
  prefix = λ x. ⊎_elim (λ y. absurd (none y)) (λ y. absurd ((o.cross y).0 z)) x;
  one = λ e. omega arith;
  risen = let r = h.risen in omega arith;
  run = λ e. absurd (omega arith);
  begins = λ b two. let lt = h.begins (inl z) two in omega arith;
  attends = λ _ high. absurd (subst SawHigh n high);
  past = subst (AreBeginnings m q) (sym ended) h.past;
  falls = subst (CarriedFall (bound new l')) (sym ended) (subst (λ b. CarriedFall b l.ended) (bound_else p l (λ e. omega arith) ∙ (ap (λ c. c + 1) (sym carried) ∙ sym (bound_else new l' (λ e. omega arith)))) h.falls);
}
own_half_kept p q new l m l' (runs z high s n k opened carried earlier ended) h o = record {
  few = omega arith;
  ready = λ e. absurd (omega arith);
  cross = λ _. h.cross (inr (z, high));
  prefix = λ _. let r = h.prefix (inl (inr (z, high))) in (r.0, r.1 ∙ ap (λ (d : List (List ℕ)). d ++ r.0) (sym k.delivered));
  one = λ e. let k = h.one (omega arith) in omega arith;
  risen = omega arith;
  run = λ e. carried;
  begins = λ b two. ⊎_elim (λ e. absurd (omega arith)) (λ c. ⊎_elim (λ e. absurd (omega arith)) (λ z. absurd (let e = z.0 in omega arith)) c) b;
  attends = λ e. absurd (omega arith);
  past = subst (AreBeginnings m q) (sym ended) h.past;
  falls = subst (CarriedFall (bound new l')) (sym ended) (subst (λ b. CarriedFall b l.ended) (sym carried ∙ sym (bound_run new l' s))
      (fall_from (l.carried + 1) m.opened l.ended (let lt = h.attends z high in omega arith) (subst (λ b. CarriedFall b l.ended) (bound_else p l (λ e. omega arith)) h.falls)));
}
own_half_kept p q new l m l' (sees s n k same) h o = subst (λ (x : Log). Half new q x m) (sym same) record {
  few = let f = h.few in omega arith;
  ready = λ e. let r = h.ready (sym s ∙ e) in (k.accepted ∙ r.0, k.delivered ∙ r.1);
  cross = λ a. ⊎_elim (λ e. h.cross (inl (sym s ∙ e))) (λ x. let two : 2 ≤ q.state = subst SawHigh n x.1 in ((λ e. omega arith), (λ e. absurd (omega arith)))) a;
  prefix = λ a. ⊎_elim (λ x. ⊎_elim (λ e. let r = h.prefix (inl (inl (sym s ∙ e))) in (r.0, r.1 ∙ ap (λ (d : List (List ℕ)). d ++ r.0) (sym k.delivered)))
      (λ y. let r = h.ready (sym s ∙ y.0) in (q.accepted, sym (ap (λ (d : List (List ℕ)). d ++ q.accepted) (k.delivered ∙ r.1)))) x)
      (λ y. let r = h.prefix (inr y) in (r.0, r.1 ∙ ap (λ (d : List (List ℕ)). d ++ r.0) (sym k.delivered))) a;
  one = λ e. h.one (let f = s in omega arith);
  risen = h.risen;
  run = λ e. h.run (sym s ∙ e);
  begins = λ b two. ⊎_elim (λ e. h.begins (inl (sym s ∙ e)) two) (λ c. ⊎_elim (λ e. h.begins (inr (inl (sym s ∙ e))) two) (λ z. absurd (let low : q.state ≤ 1 = subst SawLow n z.1 in omega arith)) c) b;
  attends = λ e high. h.begins (inr (inl (sym s ∙ e))) (subst SawHigh n high);
  past = h.past;
  falls = subst (λ k. CarriedFall (if k == 3 then l.carried else l.carried + 1) l.ended) (sym s) h.falls;
}
own_half_kept p q new l m l' (accepts z frame s n a d same) h o = subst (λ (x : Log). Half new q x m) (sym same) record {
  few = omega arith;
  ready = λ e. absurd (omega arith);
  cross = λ _. h.cross (inl z);
  prefix = λ _. let r = h.prefix (inl (inl z)) in (r.0, r.1 ∙ ap (λ (x : List (List ℕ)). x ++ r.0) (sym d));
  one = λ e. h.one (omega arith);
  risen = h.risen;
  run = λ e. h.run z;
  begins = λ b two. ⊎_elim (λ e. absurd (omega arith)) (λ c. ⊎_elim (λ e. absurd (omega arith)) (λ x. absurd (let e = x.0 in omega arith)) c) b;
  attends = λ e. absurd (omega arith);
  past = h.past;
  falls = subst (λ k. CarriedFall (if k == 3 then l.carried else l.carried + 1) l.ended) (z ∙ sym s) h.falls;
}
own_half_kept p q new l m l' (delivers z frame s n a d next same) h o = subst (λ (x : Log). Half new q x m) (sym same) record {
  few = omega arith;
  ready = λ e. absurd (omega arith);
  cross = λ _. h.cross (inl z);
  prefix = λ _. let r = h.prefix (inl (inl z)) in let x = next_is q.accepted p.delivered r.0 frame r.1 next in (x.0, x.1 ∙ ap (λ (y : List (List ℕ)). y ++ x.0) (sym d));
  one = λ e. h.one (omega arith);
  risen = h.risen;
  run = λ e. h.run z;
  begins = λ b two. ⊎_elim (λ e. absurd (omega arith)) (λ c. ⊎_elim (λ e. absurd (omega arith)) (λ x. absurd (let e = x.0 in omega arith)) c) b;
  attends = λ e. absurd (omega arith);
  past = h.past;
  falls = subst (λ k. CarriedFall (if k == 3 then l.carried else l.carried + 1) l.ended) (z ∙ sym s) h.falls;
}
own_half_kept p q new l m l' (counts s n k same) h o = subst (λ (x : Log). Half new q x m) (sym same) record {
  few = let f = h.few in omega arith;
  ready = λ e. let r = h.ready (sym s ∙ e) in (k.accepted ∙ r.0, k.delivered ∙ r.1);
  cross = λ a. h.cross (same_attends p new s n a);
  prefix = λ a. let r = h.prefix (⊎_elim (λ x. inl (same_attends p new s n x)) inr a) in (r.0, r.1 ∙ ap (λ (d : List (List ℕ)). d ++ r.0) (sym k.delivered));
  one = λ e. h.one (let f = s in omega arith);
  risen = h.risen;
  run = λ e. h.run (sym s ∙ e);
  begins = λ b two. h.begins (⊎_elim (λ e. inl (sym s ∙ e)) (λ c. ⊎_elim (λ e. inr (inl (sym s ∙ e))) (λ z. inr (inr (sym s ∙ z.0, subst SawLow n z.1))) c) b) two;
  attends = λ e high. h.attends (sym s ∙ e) (subst SawHigh n high);
  past = h.past;
  falls = subst (λ k. CarriedFall (if k == 3 then l.carried else l.carried + 1) l.ended) (sym s) h.falls;
}

-- The other side

grows : (l l' : Log) (p new : Side) → l'.opened ≡ l.opened → ((k : ℕ) → l'.earlier k ≡ l.earlier k) → (more : List (List ℕ)) → new.accepted ≡ p.accepted ++ more → (k : ℕ) → k ≤ l.opened →
    (k ≤ l'.opened) × ((more : List (List ℕ)) × (accepted_in l' new k ≡ accepted_in l p k ++ more))
grows l l' p new opened earlier more accepted k le = (
  omega arith,
  dite (ℕ_discrete k l.opened)
      (λ e. (more, yes (k == l'.opened) new.accepted (l'.earlier k) (eq-eqb k l'.opened (e ∙ sym opened)) ∙ (accepted ∙ ap (λ (x : List (List ℕ)). x ++ more) (sym (yes (k == l.opened) p.accepted (l.earlier k) (eq-eqb k l.opened e))))))
      (λ ne. ([], no (k == l'.opened) new.accepted (l'.earlier k) (ne_eqb k l'.opened (λ e. ne (e ∙ opened))) ∙ (earlier k ∙ (sym (no (k == l.opened) p.accepted (l.earlier k) (ne_eqb k l.opened ne)) ∙ sym (nil_append (accepted_in l p k)))))),
)

opens_grows : (l l' : Log) (p new : Side) → l'.opened ≡ l.opened + 1 → ((k : ℕ) → l'.earlier k ≡ accepted_in l p k) → (k : ℕ) → k ≤ l.opened → (k ≤ l'.opened) × ((more : List (List ℕ)) × (accepted_in l' new k ≡ accepted_in l p k ++ more))
opens_grows l l' p new opened earlier k le = (omega arith, ([], no (k == l'.opened) new.accepted (l'.earlier k) (ne_eqb k l'.opened (λ e. omega arith)) ∙ (earlier k ∙ sym (nil_append (accepted_in l p k)))))

still : (p new : Side) → Keeps p new → new.accepted ≡ p.accepted ++ []
still p new k = k.accepted ∙ sym (nil_append p.accepted)

other_half_kept : (p q new : Side) (l m l' : Log) → Kind p q l m new l' → Half p q l m → Half q p m l → Half q new m l'
other_half_kept p q new l m l' (falls_to s n k ks ended) h o = let none : Attends new → ⊥ = idle new (λ e. omega arith) (λ e. absurd (omega arith)) in record {
  few = o.few;
  ready = o.ready;
  cross = λ a. ((λ e. omega arith), (λ _ low. subst SawLow n low));
  prefix = λ a. ⊎_elim (λ y. let r = o.prefix (inl y) in (r.0, k.accepted ∙ r.1)) (λ x. absurd (none x)) a;
  one = o.one;
  risen = let c = ks.opened in let r = o.risen in omega arith;
  run = λ e. o.run e ∙ sym ks.opened;
  begins = λ b two. absurd (omega arith);
  attends = λ e high. let lt = o.attends e high in let c = ks.opened in omega arith;
  past = beginnings_kept l l' p new m.ended (grows l l' p new ks.opened ks.earlier [] (still p new k)) o.past;
  falls = o.falls;
}
other_half_kept p q new l m l' (inits z low s n k ks ended) h o = let none : Attends new → ⊥ = idle new (λ e. omega arith) (λ e. absurd (omega arith)) in record {
  few = o.few;
  ready = o.ready;
  cross = λ a. absurd (steady p q l m o a z low);
  prefix = λ a. ⊎_elim (λ y. absurd (steady p q l m o y z low)) (λ x. absurd (none x)) a;
  one = o.one;
  risen = let c = ks.opened in let r = o.risen in omega arith;
  run = λ e. o.run e ∙ sym ks.opened;
  begins = λ b two. absurd (omega arith);
  attends = λ e high. let lt = o.attends e high in let c = ks.opened in omega arith;
  past = beginnings_kept l l' p new m.ended (grows l l' p new ks.opened ks.earlier [] (still p new k)) o.past;
  falls = o.falls;
}
other_half_kept p q new l m l' (opens z some s n a d opened carried earlier ended) h o = let none : Attends new → ⊥ = idle new (λ e. omega arith) (λ _ high. subst SawHigh n high) in record {
  few = o.few;
  ready = o.ready;
  cross = λ x. absurd ((o.cross x).0 z);
  prefix = λ x. ⊎_elim (λ y. absurd ((o.cross y).0 z)) (λ y. absurd (none y)) x;
  one = o.one;
  risen = let r = o.risen in omega arith;
  run = λ e. absurd ((o.cross (inl e)).0 z);
  begins = λ b two. let r = o.risen in omega arith;
  attends = λ e high. let lt = o.attends e high in omega arith;
  past = beginnings_kept l l' p new m.ended (opens_grows l l' p new opened earlier) o.past;
  falls = o.falls;
}
other_half_kept p q new l m l' (runs z high s n k opened carried earlier ended) h o = record {
  few = o.few;
  ready = o.ready;
  cross = λ a. ((λ e. omega arith), (λ e. absurd (omega arith)));
  prefix = λ a. let r = o.prefix (⊎_elim inl (λ _. inr (inr (z, high))) a) in (r.0, k.accepted ∙ r.1);
  one = o.one;
  risen = let r = o.risen in omega arith;
  run = λ e. o.run e ∙ sym opened;
  begins = λ b two. let lt = o.begins b (omega arith) in omega arith;
  attends = λ e high. let lt = o.attends e high in omega arith;
  past = beginnings_kept l l' p new m.ended (grows l l' p new opened earlier [] (still p new k)) o.past;
  falls = o.falls;
}
other_half_kept p q new l m l' (sees s n k same) h o = subst (λ (x : Log). Half q new m x) (sym same) record {
  few = o.few;
  ready = o.ready;
  cross = λ a. ((λ e. (o.cross a).0 (sym s ∙ e)), (λ _ low. let up : 2 ≤ q.state = attends_high q a in let down : q.state ≤ 1 = subst SawLow n low in absurd (omega arith)));
  prefix = λ a. ⊎_elim (λ y. let r = o.prefix (inl y) in (r.0, k.accepted ∙ r.1))
      (λ x. ⊎_elim (λ e. let r = o.prefix (inr (inl (sym s ∙ e))) in (r.0, k.accepted ∙ r.1))
      (λ y. let up : 2 ≤ q.state = subst SawHigh n y.1 in dite (ℕ_discrete q.state 3)
      (λ e. let r = o.prefix (inl (inl e)) in (r.0, k.accepted ∙ r.1))
      (λ ne. let few = o.few in let r = o.ready (omega arith) in (new.accepted, sym (ap (λ (d : List (List ℕ)). d ++ new.accepted) r.1)))) x) a;
  one = o.one;
  risen = o.risen;
  run = o.run;
  begins = λ b two. o.begins b (let e = s in omega arith);
  attends = o.attends;
  past = beginnings_kept l l p new m.ended (grows l l p new refl (λ k. refl) [] (still p new k)) o.past;
  falls = o.falls;
}
other_half_kept p q new l m l' (accepts z frame s n a d same) h o = subst (λ (x : Log). Half q new m x) (sym same) record {
  few = o.few;
  ready = o.ready;
  cross = λ x. ((λ e. omega arith), (λ e. absurd (omega arith)));
  prefix = λ x. let r = o.prefix (⊎_elim inl (λ _. inr (inl z)) x) in (r.0 ++ frame ∷ [], a ∙ (ap (λ (y : List (List ℕ)). y ++ frame ∷ []) r.1 ∙ append_assoc q.delivered r.0 (frame ∷ [])));
  one = o.one;
  risen = o.risen;
  run = o.run;
  begins = λ b two. o.begins b (omega arith);
  attends = o.attends;
  past = beginnings_kept l l p new m.ended (grows l l p new refl (λ k. refl) (frame ∷ []) a) o.past;
  falls = o.falls;
}
other_half_kept p q new l m l' (delivers z frame s n a d next same) h o = subst (λ (x : Log). Half q new m x) (sym same) record {
  few = o.few;
  ready = o.ready;
  cross = λ x. ((λ e. omega arith), (λ e. absurd (omega arith)));
  prefix = λ x. let r = o.prefix (⊎_elim inl (λ _. inr (inl z)) x) in (r.0, a ∙ r.1);
  one = o.one;
  risen = o.risen;
  run = o.run;
  begins = λ b two. o.begins b (omega arith);
  attends = o.attends;
  past = beginnings_kept l l p new m.ended (grows l l p new refl (λ k. refl) [] (a ∙ sym (nil_append p.accepted))) o.past;
  falls = o.falls;
}
other_half_kept p q new l m l' (counts s n k same) h o = subst (λ (x : Log). Half q new m x) (sym same) record {
  few = o.few;
  ready = o.ready;
  cross = λ a. ((λ e. (o.cross a).0 (sym s ∙ e)), (λ e low. (o.cross a).1 (sym s ∙ e) (subst SawLow n low)));
  prefix = λ a. let r = o.prefix (⊎_elim inl (λ x. inr (same_attends p new s n x)) a) in (r.0, k.accepted ∙ r.1);
  one = o.one;
  risen = o.risen;
  run = o.run;
  begins = λ b two. o.begins b (omega arith);
  attends = o.attends;
  past = beginnings_kept l l p new m.ended (grows l l p new refl (λ k. refl) [] (still p new k)) o.past;
  falls = o.falls;
}

-- All steps of a run

fresh_half : Half initial_side initial_side no_sessions no_sessions
fresh_half = record {
  few = omega arith;
  ready = λ e. absurd (omega arith);
  cross = λ a. absurd (idle initial_side (λ e. omega arith) (λ e. absurd (omega arith)) a);
  prefix = λ a. ([], refl);
  one = λ e. absurd (omega arith);
  risen = omega arith;
  run = λ e. absurd (omega arith);
  begins = λ b two. absurd (omega arith);
  attends = λ e. absurd (omega arith);
  past = tt;
  falls = tt;
}

half_like : (p p' q q' : Side) (l l' m m' : Log) → p' ≡ p → q' ≡ q → l' ≡ l → m' ≡ m → Half p q l m → Half p' q' l' m'
half_like p p' q q' l l' m m' e f g k h = subst (λ x. Half x q' l' m') (sym e) (subst (λ x. Half p x l' m') (sym f) (subst (λ x. Half p q x m') (sym g) (subst (λ x. Half p q l x) (sym k) h)))

honest_all : (honest : ℕ → Bool) (s : ℕ) → s < 2 → honest 0 ≡ true → honest 1 ≡ true → honest s ≡ true
honest_all honest s s2 h0 h1 = dite (ℕ_discrete s 0) (λ e. ap honest e ∙ h0) (λ ne. let e : s ≡ 1 = omega arith in ap honest e ∙ h1)

pub half_of : (sizes : Sizes) (honest : ℕ → Bool) (sides : ℕ → Side) (logs : ℕ → Log) → honest 0 ≡ true → honest 1 ≡ true → MachineRuns sizes honest sides logs → (p : ℕ) → p < 2 → Half (sides p) (sides (1 - p)) (logs p) (logs (1 - p))
half_of sizes honest _ _ h0 h1 (starts sides logs new none) p p2 = half_like initial_side (sides p) initial_side (sides (1 - p)) no_sessions (logs p) no_sessions (logs (1 - p)) (new p) (new (1 - p)) (none p) (none (1 - p)) fresh_half
half_of sizes honest _ _ h0 h1 (goes sides after logs new_logs s side_event r s2 row still log still_log) p p2 =
    let o2 : 1 - s < 2 = omega arith in let back : 1 - (1 - s) ≡ s = omega arith in
    let mine = half_of sizes honest sides logs h0 h1 r s s2 in
    let other_half : Half (sides (1 - s)) (sides s) (logs (1 - s)) (logs s) = subst (λ k. Half (sides (1 - s)) (sides k) (logs (1 - s)) (logs k)) back (half_of sizes honest sides logs h0 h1 r (1 - s) o2) in
    let row_is : Row sizes true true (sides s) (sides (1 - s)) side_event (after s) = subst (λ b. Row sizes b true (sides s) (sides (1 - s)) side_event (after s)) (honest_all honest s s2 h0 h1) (subst (λ b. Row sizes (honest s) b (sides s) (sides (1 - s)) side_event (after s)) (honest_all honest (1 - s) o2 h0 h1) row) in
    let kind = kind_of sizes (sides s) (sides (1 - s)) (logs s) (logs (1 - s)) side_event (after s) row_is in
    dite (ℕ_discrete p s)
    (λ e. let f : 1 - p ≡ 1 - s = omega arith in half_like (after s) (after p) (sides (1 - s)) (after (1 - p)) (log_after (logs s) (logs (1 - s)) (sides s) side_event) (new_logs p) (logs (1 - s)) (new_logs (1 - p))
    (ap after e) (ap after f ∙ still) (ap new_logs e ∙ log) (ap new_logs f ∙ still_log) (own_half_kept (sides s) (sides (1 - s)) (after s) (logs s) (logs (1 - s)) _ kind mine other_half))
    (λ ne. let e : p ≡ 1 - s = omega arith in let f : 1 - p ≡ s = omega arith in half_like (sides (1 - s)) (after p) (after s) (after (1 - p)) (logs (1 - s)) (new_logs p) (log_after (logs s) (logs (1 - s)) (sides s) side_event) (new_logs (1 - p))
    (ap after e ∙ still) (ap after f) (ap new_logs e ∙ still_log) (ap new_logs f ∙ log) (other_half_kept (sides s) (sides (1 - s)) (after s) (logs s) (logs (1 - s)) _ kind mine other_half))

pub machine : MachineDelivers
machine sizes honest sides logs h0 h1 r p p2 = let h = half_of sizes honest sides logs h0 h1 r p p2 in record {
  present = λ e. (h.run e, h.prefix (inl (inl e)), subst (λ b. CarriedFall b (logs p).ended) (bound_run (sides p) (logs p) e) h.falls);
  past = h.past;
  once = dite (ℕ_discrete (sides p).state 3)
      (λ e. fall_from (logs p).carried ((logs p).carried + 1) (logs p).ended (omega arith) (subst (λ b. CarriedFall b (logs p).ended) (bound_run (sides p) (logs p) e) h.falls))
      (λ ne. subst (λ b. CarriedFall b (logs p).ended) (bound_else (sides p) (logs p) ne) h.falls);
}
