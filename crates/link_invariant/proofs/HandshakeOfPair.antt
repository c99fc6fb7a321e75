-- The handshake, stops and resets, between two honest ends.
use Rattle.std.proofs.Common.{◌≡◌, ◌≢◌, ℕ, zero, suc, ◌+◌, ◌-◌, ◌<◌, ◌≤◌, ◌⊎◌, inl, inr, ⊎_elim, false, List, [], ◌++◌, length, refl, sym, ap, ◌∙◌, subst, arith}
use Rattle.std.specs.Prelude.{◌==◌, if◌then◌else◌}
use Rattle.link_handshake.specs.declared.Phase.{Phase}
use Rattle.link_handshake.specs.declared.Phase.TheVariants.{Reset, Init, Ready, Run}
use Rattle.link_handshake.specs.declared.Move.{Move}
use Rattle.link_handshake.specs.declared.Move.TheVariants.{Stay}
use Rattle.link_handshake.specs.PhaseTable.{phase_move, state_of}
use Rattle.link_handshake.specs.HandshakeState.{HandshakeState, move_of}
use Rattle.call_grammar.specs.Ends.{End, with_marks, end_after}
use Rattle.call_grammar.specs.Ticks.{tick_marks}
use Rattle.call_grammar.specs.Places.{Place, Closed, ReadingOtherState, Clearing, WritingState, Refusing, NotInRun, ReadingUsedId, ReadingAvailEntry, ReadingDescAddressLow, ReadingDescAddressHigh, ReadingDescLength, ReadingDescFlags, ReadingFrameWord, WritingUsedId, WritingUsedLength, WritingUsedIndex, clear_place, tick_place, next_place, step_at}
use Rattle.call_grammar.proofs.OfferLists.{no}
use Rattle.link_invariant.specs.Fields.{Field}
use Rattle.link_invariant.specs.LinkConfig.{LinkConfig, IsLinkConfig, section_of, config_of, fields}
use Rattle.link_invariant.specs.Steps.{Stored}
use Rattle.link_invariant.specs.EndInvariant.{Opened, PlaceInvariant, IsBlank, OwnSection, EndInvariant}
use Rattle.link_invariant.specs.Pair.{freed_at, Polls, InFlight, IsAttached}
use Rattle.link_invariant.proofs.Fields.{fields_same}
use Rattle.link_invariant.proofs.EndObligations.{sent_same}
use Rattle.link_invariant.proofs.TickSteps.{not_phase, tick_quiet}
use Rattle.link_invariant.proofs.PairObligations.{Facing, takes_on, polls_kept, Before, Leads}

-- Places of no offer and no poll.
abbrev pub IsIdle : Place → Type 0
IsIdle Closed = Unit {0}
IsIdle (ReadingOtherState handshake) = Unit {0}
IsIdle (Clearing at more state) = Unit {0}
IsIdle (WritingState state) = Unit {0}
IsIdle NotInRun = Unit {0}
IsIdle place = ⊥

idle_polls : (link_config : LinkConfig) (field : Field → ℕ) (frames : List (List ℕ)) (place : Place) → IsIdle place → Polls link_config field frames place
idle_polls link_config field frames Closed h = tt
idle_polls link_config field frames (ReadingOtherState handshake) h = tt
idle_polls link_config field frames (Clearing at more state) h = tt
idle_polls link_config field frames (WritingState state) h = tt
idle_polls link_config field frames NotInRun h = tt
idle_polls link_config field frames place h = absurd h

idle_freed : (freed : ℕ) (place : Place) → IsIdle place → freed_at freed place ≡ freed
idle_freed freed (ReadingUsedId pending number more) h = absurd h
idle_freed freed place h = refl

not_refusing : (place : Place) → IsIdle place → place ≢ Refusing
not_refusing place h e = subst IsIdle e h

pub freed_low : (link_config : LinkConfig) (memory : ℕ → ℕ) (p : ℕ) (end : End) (place : Place) → EndInvariant link_config memory p end place → freed_at end.freed place ≤ end.freed
freed_low link_config memory p end (ReadingUsedId pending freed more) a = let all = a.holds.2 in omega arith
freed_low link_config memory p end place a = omega arith

abbrev pub state_at : Place → ℕ
state_at (WritingState state) = state
state_at place = 9

pub set_apart : {place : Place} {m n : ℕ} → state_at place ≡ m → m ≢ n → place ≢ WritingState n
set_apart e ne f = ne (sym e ∙ ap state_at f)

-- Outside RUN no poll is open.
quiet_polls : (link_config : LinkConfig) (memory : ℕ → ℕ) (p : ℕ) (end : End) (place : Place) (field : Field → ℕ) (frames : List (List ℕ)) → (end.handshake.phase ≡ Run → ⊥) → PlaceInvariant link_config memory p end place → Polls link_config field frames place
quiet_polls link_config memory p end (ReadingAvailEntry number more) field frames ne h = absurd (ne h.0)
quiet_polls link_config memory p end (ReadingDescAddressLow number more entry) field frames ne h = absurd (ne h.0)
quiet_polls link_config memory p end (ReadingDescAddressHigh number more entry low) field frames ne h = absurd (ne h.0)
quiet_polls link_config memory p end (ReadingDescLength number more entry address) field frames ne h = absurd (ne h.0)
quiet_polls link_config memory p end (ReadingDescFlags number more entry address bytes) field frames ne h = absurd (ne h.0)
quiet_polls link_config memory p end (ReadingFrameWord number more entry address bytes read words) field frames ne h = absurd (ne h.0)
quiet_polls link_config memory p end (WritingUsedId number more entry) field frames ne h = absurd (ne h.0)
quiet_polls link_config memory p end (WritingUsedLength number more) field frames ne h = absurd (ne h.0)
quiet_polls link_config memory p end (WritingUsedIndex number more) field frames ne h = absurd (ne h.0)
quiet_polls link_config memory p end place field frames ne h = tt

-- Two sessions without any frame.
link_blank : (link_config : LinkConfig) (memory now : ℕ → ℕ) (p q : ℕ) (end u : End) (field : Field → ℕ) (read : ℕ) (w : Place) → IsBlank link_config memory p end → IsBlank link_config now q u → Polls link_config field end.accepted w → InFlight link_config field end.accepted end.freed read u.delivered u.returned w
link_blank link_config memory now p q end u field read w b c polls = let f0 = b.freed in let r0 = c.returned in record {
  returns = omega arith;
  delivers = omega arith;
  prefix = ([], b.accepted ∙ sym (ap (λ (l : List (List ℕ)). l ++ []) c.delivered));
  named = λ k from below. absurd (omega arith);
  polls = polls;
}

phases : (x : Phase) → (x ≡ Run) ⊎ ((x ≡ Ready) ⊎ (state_of x < 2))
phases Reset = inr (inr (omega arith))
phases Init = inr (inr (omega arith))
phases Ready = inr (inl refl)
phases Run = inl refl

pub attends_high : (end : End) (place : Place) → IsAttached end place → 2 ≤ state_of end.handshake.phase
attends_high end place (inl e) = let s = ap state_of e in omega arith
attends_high end place (inr h) = let s = ap state_of h.0 in omega arith

module _ (link_config : LinkConfig) (memory : ℕ → ℕ) (p : ℕ) (end : End) (u : End) (w : Place) where
  -- The end moves to another idle place with the same words and lists.
  pub idles : (place next : Place) → IsIdle place → IsIdle next → next ≢ WritingState 3 → (IsAttached u w → next ≢ WritingState 1) → Before link_config memory p end place u w → Leads link_config memory p u w end next
  idles place next was idle three one b = record {
    sound = (b.mark, not_refusing next idle);
    from = λ a. b.from (earlier a);
    back = λ a. ((b.back a).0, one a);
    faces = λ a. let f = b.faces (⊎_elim (λ x. inl (earlier x)) inr a) in record {
      mine = f.mine;
      opposite = f.opposite;
      sends = subst (λ k. InFlight link_config (fields link_config memory (1 - p)) end.accepted end.freed k u.delivered u.returned w) (idle_freed end.freed place was ∙ sym (idle_freed end.freed next idle)) f.sends;
      takes = takes_on next (λ k. refl) (idle_polls link_config (fields link_config memory p) u.accepted next idle) f.takes;
    };
  }
    where
      earlier : IsAttached end next → IsAttached end place
      earlier (inl e) = inl e
      earlier (inr h) = absurd (three h.1)

  -- The end is about to set RUN.
  rises : (place : Place) (value : ℕ) → IsIdle place → end.handshake.phase ≡ Ready → 2 ≤ value → value ≡ state_of u.handshake.phase → Before link_config memory p end place u w → Leads link_config memory p u w end (WritingState 3)
  rises place value was ready high seen b = record {
    sound = (b.mark, not_refusing (WritingState 3) tt);
    from = λ a. ((λ e. let s = ap state_of e in omega arith), λ e. let low : u.handshake.phase ≡ Reset = subst (PlaceInvariant link_config memory (1 - p) u) e b.opposite.holds in let s = ap state_of low in omega arith);
    back = λ a. (not_phase {a = Ready} {b = Init} (λ f. omega arith) ready, set_apart refl (λ e. omega arith));
    faces = λ a. ⊎_elim (λ run. old (b.faces (inr (inl run)))) (⊎_elim new (λ low. absurd (omega arith))) (phases u.handshake.phase);
  }
    where
      old : Facing link_config memory p end place u w → Facing link_config memory p end (WritingState 3) u w
      old f = record { mine = f.mine; opposite = f.opposite; sends = subst (λ k. InFlight link_config (fields link_config memory (1 - p)) end.accepted end.freed k u.delivered u.returned w) (idle_freed end.freed place was) f.sends; takes = takes_on (WritingState 3) (λ k. refl) tt f.takes }

      new : u.handshake.phase ≡ Ready → Facing link_config memory p end (WritingState 3) u w
      new they = let x = b.mine.ready ready in let y = b.opposite.ready they in record {
        mine = b.mine.sent (subst Opened (sym ready) tt);
        opposite = b.opposite.sent (subst Opened (sym they) tt);
        sends = link_blank link_config memory memory p (1 - p) end u (fields link_config memory (1 - p)) end.freed w x y (quiet_polls link_config memory (1 - p) u w (fields link_config memory (1 - p)) end.accepted (not_phase {a = Ready} {b = Run} (λ f. omega arith) they) b.opposite.holds);
        takes = link_blank link_config memory memory (1 - p) p u end (fields link_config memory p) (freed_at u.freed w) (WritingState 3) y x tt;
      }

  ticks : (handshake : HandshakeState) (phase : Phase) (value : ℕ) → end.handshake.phase ≡ phase → value ≡ state_of u.handshake.phase → Before link_config memory p end (ReadingOtherState handshake) u w → Leads link_config memory p u w end (tick_place (config_of link_config p) (phase_move phase value))
  ticks h Reset zero is seen b = idles (ReadingOtherState h) (WritingState 1) tt tt (set_apart refl (λ e. omega arith)) (λ a. let high = attends_high u w a in absurd (omega arith)) b
  ticks h Reset (suc zero) is seen b = idles (ReadingOtherState h) (WritingState 1) tt tt (set_apart refl (λ e. omega arith)) (λ a. let high = attends_high u w a in absurd (omega arith)) b
  ticks h Reset (suc (suc more)) is seen b = idles (ReadingOtherState h) Closed tt tt (set_apart refl (λ e. omega arith)) (λ a. set_apart refl (λ e. omega arith)) b
  ticks h Init zero is seen b = idles (ReadingOtherState h) Closed tt tt (set_apart refl (λ e. omega arith)) (λ a. set_apart refl (λ e. omega arith)) b
  ticks h Init (suc more) is seen b = cleared (section_of link_config p) link_config.words
    where
      cleared : (at count : ℕ) → Leads link_config memory p u w end (clear_place at count 2)
      cleared at zero = idles (ReadingOtherState h) (WritingState 2) tt tt (set_apart refl (λ e. omega arith)) (λ a. set_apart refl (λ e. omega arith)) b
      cleared at (suc n) = idles (ReadingOtherState h) (Clearing at n 2) tt tt (set_apart refl (λ e. omega arith)) (λ a. set_apart refl (λ e. omega arith)) b
  ticks h Ready zero is seen b = idles (ReadingOtherState h) (WritingState 0) tt tt (set_apart refl (λ e. omega arith)) (λ a. set_apart refl (λ e. omega arith)) b
  ticks h Ready (suc zero) is seen b = idles (ReadingOtherState h) Closed tt tt (set_apart refl (λ e. omega arith)) (λ a. set_apart refl (λ e. omega arith)) b
  ticks h Ready (suc (suc more)) is seen b = rises (ReadingOtherState h) (suc (suc more)) tt is (omega arith) seen b
  ticks h Run zero is seen b = idles (ReadingOtherState h) (WritingState 0) tt tt (set_apart refl (λ e. omega arith)) (λ a. set_apart refl (λ e. omega arith)) b
  ticks h Run (suc more) is seen b = idles (ReadingOtherState h) Closed tt tt (set_apart refl (λ e. omega arith)) (λ a. set_apart refl (λ e. omega arith)) b

  pub leads_state : (handshake : HandshakeState) (value : ℕ) → value ≡ memory (1 - p) → Before link_config memory p end (ReadingOtherState handshake) u w → Leads link_config memory p u w (end_after end (step_at (config_of link_config p) (ReadingOtherState handshake) value)) (next_place (config_of link_config p) (ReadingOtherState handshake) value)
  leads_state handshake value met b =
      let same : move_of handshake value ≡ phase_move end.handshake.phase value = ap (λ (h : HandshakeState). move_of h value) b.mine.holds ∙ no end.handshake.mark Stay (phase_move end.handshake.phase value) b.mark in
      subst (λ (m : Move). Leads link_config memory p u w (with_marks end (tick_marks value m)) (tick_place (config_of link_config p) m)) (sym same)
      (subst (λ (e : End). Leads link_config memory p u w e (tick_place (config_of link_config p) (phase_move end.handshake.phase value))) (sym (tick_quiet end value (phase_move end.handshake.phase value)))
      (ticks handshake end.handshake.phase value refl (met ∙ b.opposite.state) b))

module _ (link_config : LinkConfig) (memory after : ℕ → ℕ) (p : ℕ) (end : End) (u : End) (w : Place) where
  -- No end is attached.
  alone_leads : (now : End) (next : Place) → now.handshake.mark ≡ false → IsIdle next → (IsAttached now next → ⊥) → (IsAttached u w → ⊥) → Leads link_config after p u w now next
  alone_leads now next mark idle mine opposite = record { sound = (mark, not_refusing next idle); from = λ a. absurd (mine a); back = λ a. absurd (opposite a); faces = λ a. absurd (⊎_elim mine opposite a) }

  pub leads_clear : (at more state value : ℕ) → Before link_config memory p end (Clearing at more state) u w → Leads link_config after p u w (end_after end (step_at (config_of link_config p) (Clearing at more state) value)) (next_place (config_of link_config p) (Clearing at more state) value)
  leads_clear at more state value b = cleared more
    where
      init : end.handshake.phase ≡ Init
      init = b.mine.holds.0

      now : End
      now = record end { written = λ w. if w == at then 0 else end.written w }

      lone : IsAttached u w → ⊥
      lone a = (b.back a).0 init

      low : {next : Place} → IsAttached now next → ⊥
      low {next} a = let high = attends_high now next a in let s = ap state_of init in omega arith

      cleared : (count : ℕ) → Leads link_config after p u w now (clear_place (at + 1) count state)
      cleared zero = alone_leads now (WritingState state) b.mark tt low lone
      cleared (suc n) = alone_leads now (Clearing (at + 1) n state) b.mark tt low lone

  -- The same lists at another phase, if no word of a section changed.
  same_faces : (now : End) (place next : Place) → IsIdle next → now.accepted ≡ end.accepted → now.freed ≡ end.freed → now.delivered ≡ end.delivered → now.returned ≡ end.returned → ((q : ℕ) (f : Field) → q < 2 → fields link_config after q f ≡ fields link_config memory q f) → p < 2 →
      EndInvariant link_config memory p end place → Facing link_config memory p end place u w → Facing link_config after p now next u w
  same_faces now place next idle ac fr de re same p2 a f = record {
    mine = subst (λ x. OwnSection link_config (fields link_config after p) x now.freed now.returned) (sym ac) (subst (λ x. OwnSection link_config (fields link_config after p) end.accepted x now.returned) (sym fr) (subst (λ x. OwnSection link_config (fields link_config after p) end.accepted end.freed x) (sym re) (sent_same (λ g. same p g p2) f.mine)));
    opposite = sent_same (λ g. same (1 - p) g (omega arith)) f.opposite;
    sends = let l = f.sends in record { returns = let r = l.returns in omega arith; delivers = l.delivers; prefix = (l.prefix.0, ac ∙ l.prefix.1); named = λ k from below. same (1 - p) _ (omega arith) ∙ l.named k (let read = idle_freed now.freed next idle in let low = freed_low link_config memory p end place a in omega arith) below; polls = subst (λ x. Polls link_config (fields link_config after (1 - p)) x w) (sym ac) (polls_kept link_config (fields link_config memory (1 - p)) (fields link_config after (1 - p)) end.accepted w (λ g. same (1 - p) g (omega arith)) l.polls) };
    takes = let t = f.takes in record { returns = let r = t.returns in omega arith; delivers = let v = t.delivers in let e = ap length de in omega arith; prefix = (t.prefix.0, t.prefix.1 ∙ ap (λ (x : List (List ℕ)). x ++ t.prefix.0) (sym de)); named = λ k from below. same p _ p2 ∙ t.named k from (omega arith); polls = idle_polls link_config (fields link_config after p) u.accepted next idle };
  }

  -- A write of the State leaves both sections.
  fields_stay : (n : ℕ) → IsLinkConfig link_config → p < 2 → Stored memory after p n → (q : ℕ) (f : Field) → q < 2 → fields link_config after q f ≡ fields link_config memory q f
  fields_stay n is p2 stored q f q2 = fields_same link_config memory after q is (λ j lt. stored.neighbour_word (section_of link_config q + j) (λ e. let first = is.first in omega arith)) f

  -- Stop, a reset, and a move to RESET.
  pub leads_reset : (place : Place) → IsLinkConfig link_config → p < 2 → Stored memory after p 0 → Before link_config memory p end place u w → Leads link_config after p u w (record end { handshake = record { phase = Reset; mark = false } }) Closed
  leads_reset place is p2 stored b = let now : End = record end { handshake = record { phase = Reset; mark = false } } in record {
    sound = (refl, not_refusing Closed tt);
    from = λ a. absurd (gone a);
    back = λ a. (not_phase {a = Reset} {b = Init} (λ f. omega arith) refl, set_apart refl (λ e. omega arith));
    faces = λ a. same_faces now place Closed tt refl refl refl refl (fields_stay 0 is p2 stored) p2 b.mine (b.faces (inr (⊎_elim (λ x. absurd (gone x)) (λ x. x) a)));
  }
    where
      gone : IsAttached (record end { handshake = record { phase = Reset; mark = false } }) Closed → ⊥
      gone (inl e) = let s = ap state_of e in omega arith
      gone (inr h) = let s = ap state_of h.0 in omega arith

  pub leads_set : (state value : ℕ) → IsLinkConfig link_config → p < 2 → Stored memory after p state → Before link_config memory p end (WritingState state) u w → Leads link_config after p u w (end_after end (step_at (config_of link_config p) (WritingState state) value)) Closed
  leads_set zero value is p2 stored b = subst (λ m. Leads link_config after p u w (record end { handshake = record { phase = Reset; mark = m } }) Closed) (sym b.mark) (leads_reset (WritingState 0) is p2 stored b)
  leads_set (suc zero) value is p2 stored b = alone_leads _ Closed b.mark tt low (λ a. (b.back a).1 refl)
    where
      low : IsAttached (end_after end (step_at (config_of link_config p) (WritingState 1) value)) Closed → ⊥
      low (inl e) = let s = ap state_of e in omega arith
      low (inr h) = let s = ap state_of h.0 in omega arith
  leads_set (suc (suc zero)) value is p2 stored b = alone_leads _ Closed b.mark tt ready (λ a. (b.back a).0 b.mine.holds.0)
    where
      ready : IsAttached (end_after end (step_at (config_of link_config p) (WritingState 2) value)) Closed → ⊥
      ready (inl e) = let s = ap state_of e in omega arith
      ready (inr h) = set_apart {place = Closed} {m = 9} {n = 3} refl (λ e. omega arith) h.1
  leads_set (suc (suc (suc zero))) value is p2 stored b = let attended : IsAttached end (WritingState 3) = inr (b.mine.holds, refl) in record {
    sound = (b.mark, not_refusing Closed tt);
    from = λ a. b.from attended;
    back = λ a. (not_phase {a = Run} {b = Init} (λ f. omega arith) refl, set_apart refl (λ e. omega arith));
    faces = λ a. same_faces _ (WritingState 3) Closed tt refl refl refl refl (fields_stay 3 is p2 stored) p2 b.mine (b.faces (inl attended));
  }
  leads_set (suc (suc (suc (suc more)))) value is p2 stored b = absurd b.mine.holds
