-- The handshake, stops and resets: the invariant of one end.
use Rattle.std.proofs.Common.{◌≡◌, ◌≢◌, ℕ, zero, suc, ◌+◌, ◌<◌, Bool, true, false, refl, sym, ap, ◌∙◌, subst, arith}
use mathlib.Core.Logic.{dite}
use native.Mathlib.Decide.{ℕ_discrete}
use Rattle.std.specs.Prelude.{◌==◌, if◌then◌else◌}
use Rattle.link_handshake.specs.declared.Phase.{Phase}
use Rattle.link_handshake.specs.declared.Phase.TheVariants.{Reset, Init, Ready, Run}
use Rattle.link_handshake.specs.declared.Move.{Move}
use Rattle.link_handshake.specs.declared.Move.TheVariants.{Stay, Set, ClearThenSet}
use Rattle.link_handshake.specs.PhaseTable.{phase_move, state_of}
use Rattle.link_handshake.specs.HandshakeState.{HandshakeState, move_of}
use Rattle.call_grammar.specs.Ends.{End, with_marks}
use Rattle.call_grammar.specs.Ticks.{tick_marks}
use Rattle.call_grammar.specs.Places.{Place, Closed, ReadingOtherState, Clearing, WritingState, clear_place, tick_place}
use Rattle.link_invariant.specs.Fields.{Field}
use Rattle.link_invariant.specs.Fields as field
use Rattle.link_invariant.specs.LinkConfig.{LinkConfig, IsLinkConfig, section_of, config_of}
use Rattle.link_invariant.specs.Steps.{Stored}
use Rattle.link_invariant.specs.EndInvariant.{Opened, IsClear, PlaceInvariant, counts, RefusalIsFinal, EndInvariant}
use Rattle.link_invariant.proofs.Fields.{fields_same, fields_blank, written_kept}
use Rattle.link_invariant.proofs.EndObligations.{free, comes, sent_same}
use Rattle.link_invariant.proofs.ReadSteps.{StepsTo}

pub not_phase : {a b c : Phase} → state_of a ≢ state_of b → c ≡ a → c ≡ b → ⊥
not_phase ne e f = ne (sym (ap state_of e) ∙ ap state_of f)

-- The place after the words that are clear.
clear_holds : (link_config : LinkConfig) (memory : ℕ → ℕ) (p : ℕ) (end : End) (at count done : ℕ) → end.handshake.phase ≡ Init → at ≡ section_of link_config p + done → done + count ≡ link_config.words → IsClear link_config memory p done →
    PlaceInvariant link_config memory p end (clear_place at count 2) × (counts (clear_place at count 2) ≡ (0, 0))
clear_holds link_config memory p end at zero done init here all clear = let e : done ≡ link_config.words = omega arith in ((init, subst (IsClear link_config memory p) e clear), refl)
clear_holds link_config memory p end at (suc more) done init here all clear = ((init, refl, (done, here, all, clear)), refl)

-- The next places of a tick, by the phase table.
tick_holds : (link_config : LinkConfig) (memory : ℕ → ℕ) (p : ℕ) (end : End) (phase : Phase) (value : ℕ) → end.handshake.phase ≡ phase → PlaceInvariant link_config memory p end (tick_place (config_of link_config p) (phase_move phase value)) × (counts (tick_place (config_of link_config p) (phase_move phase value)) ≡ (0, 0))
tick_holds link_config memory p end Reset zero is = (is, refl)
tick_holds link_config memory p end Reset (suc zero) is = (is, refl)
tick_holds link_config memory p end Reset (suc (suc more)) is = (tt, refl)
tick_holds link_config memory p end Init zero is = (tt, refl)
tick_holds link_config memory p end Init (suc more) is = clear_holds link_config memory p end (section_of link_config p) link_config.words 0 is (omega arith) (omega arith) record { none = λ j lt. absurd (omega arith) }
tick_holds link_config memory p end Ready zero is = (tt, refl)
tick_holds link_config memory p end Ready (suc zero) is = (tt, refl)
tick_holds link_config memory p end Ready (suc (suc more)) is = (is, refl)
tick_holds link_config memory p end Run zero is = (tt, refl)
tick_holds link_config memory p end Run (suc more) is = (tt, refl)

move_holds : (link_config : LinkConfig) (memory : ℕ → ℕ) (p : ℕ) (end : End) (value : ℕ) (mark : Bool) → PlaceInvariant link_config memory p end (tick_place (config_of link_config p) (if mark then Stay else phase_move end.handshake.phase value)) × (counts (tick_place (config_of link_config p) (if mark then Stay else phase_move end.handshake.phase value)) ≡ (0, 0))
move_holds link_config memory p end value true = (tt, refl)
move_holds link_config memory p end value false = tick_holds link_config memory p end end.handshake.phase value refl

ticked : (link_config : LinkConfig) (p : ℕ) (end : End) (value : ℕ) (b : Bool) → end.handshake.mark ≡ b → RefusalIsFinal end Closed → RefusalIsFinal end (tick_place (config_of link_config p) (if b then Stay else phase_move end.handshake.phase value))
ticked link_config p end value true e rests = rests
ticked link_config p end value false e rests = free end _ e

pub tick_quiet : (end : End) (value : ℕ) (move : Move) → with_marks end (tick_marks value move) ≡ end
tick_quiet end value Stay = refl
tick_quiet end value (Set n) = refl
tick_quiet end value (ClearThenSet n) = refl

module _ (link_config : LinkConfig) (p : ℕ) (memory after : ℕ → ℕ) (end : End) where
  pub reads_state : (handshake : HandshakeState) (value : ℕ) → EndInvariant link_config memory p end (ReadingOtherState handshake) → StepsTo link_config p memory end (ReadingOtherState handshake) value
  reads_state handshake value a = subst (λ (h : HandshakeState). EndInvariant link_config memory p (with_marks end (tick_marks value (move_of h value))) (tick_place (config_of link_config p) (move_of h value))) (sym a.holds)
      (subst (λ (e : End). EndInvariant link_config memory p e (tick_place (config_of link_config p) (move_of end.handshake value))) (sym (tick_quiet end value (move_of end.handshake value)))
      (let x = move_holds link_config memory p end value end.handshake.mark in comes _ x.0 x.1 (ticked link_config p end value end.handshake.mark refl a.rests) a))

  pub clears : (at more state value : ℕ) → IsLinkConfig link_config → p < 2 → Stored memory after at 0 → EndInvariant link_config memory p end (Clearing at more state) → StepsTo link_config p after end (Clearing at more state) value
  clears at more state value is p2 stored a = let h = a.holds in let init = h.0 in let done = h.2.0 in let at_is = h.2.1 in let all = h.2.2 in let now : End = record end { written = λ w. if w == at then 0 else end.written w } in
      let x = clear_holds link_config after p now (at + 1) more (done + 1) init (omega arith) (omega arith) record { none = λ j lt. dite (ℕ_discrete j done) (λ e. ap after (let f : section_of link_config p + j ≡ at = omega arith in f) ∙ stored.here) (λ ne. stored.neighbour_word (section_of link_config p + j) (λ e. omega arith) ∙ h.2.3.none j (omega arith)) } in
      subst (λ n. EndInvariant link_config after p now (clear_place (at + 1) more n)) (sym h.1) record {
        state = stored.neighbour_word p (λ e. let first = is.first in omega arith) ∙ a.state;
        written = written_kept memory after (section_of link_config p) at 0 link_config.words end.written stored a.written;
        holds = x.0;
        rests = free now (clear_place (at + 1) more 2) a.rests;
        ready = λ e. absurd (not_phase (λ f. omega arith) init e);
        level = λ o. absurd (subst Opened init o);
        sent = λ o. absurd (subst Opened init o);
        freed = a.freed;
        room = a.room;
      }

  -- A write of the State leaves the section.
  section_stays : (n : ℕ) → IsLinkConfig link_config → p < 2 → Stored memory after p n → (j : ℕ) → j < link_config.words → after (section_of link_config p + j) ≡ memory (section_of link_config p + j)
  section_stays n is p2 stored j lt = stored.neighbour_word (section_of link_config p + j) (λ e. let first = is.first in omega arith)

  -- A write of State 0 leads to RESET.
  pub falls : (place : Place) (mark : Bool) → IsLinkConfig link_config → p < 2 → Stored memory after p 0 → EndInvariant link_config memory p end place → EndInvariant link_config after p (record end { handshake = record { phase = Reset; mark = mark } }) Closed
  falls place mark is p2 stored a = record { state = stored.here; written = λ j lt. section_stays 0 is p2 stored j lt ∙ a.written j lt; holds = tt; rests = λ t. refl; ready = λ e. absurd (not_phase {a = Reset} {b = Ready} (λ f. omega arith) refl e); level = λ o. absurd o; sent = λ o. absurd o; freed = a.freed; room = a.room }

  pub sets : (state value : ℕ) → IsLinkConfig link_config → p < 2 → Stored memory after p state → EndInvariant link_config memory p end (WritingState state) → StepsTo link_config p after end (WritingState state) value
  sets zero value is p2 stored a = falls (WritingState zero) end.handshake.mark is p2 stored a
  sets (suc zero) value is p2 stored a = record { state = stored.here; written = λ j lt. section_stays 1 is p2 stored j lt ∙ a.written j lt; holds = tt; rests = λ t. let f : true ≡ false = sym t ∙ a.rests in cc; ready = λ e. absurd (not_phase {a = Init} {b = Ready} (λ f. omega arith) refl e); level = λ o. absurd o; sent = λ o. absurd o; freed = a.freed; room = a.room }
  sets (suc (suc zero)) value is p2 stored a = let clear : IsClear link_config after p link_config.words = record { none = λ j lt. section_stays 2 is p2 stored j lt ∙ a.holds.1.none j lt } in record {
    state = stored.here;
    written = λ j lt. section_stays 2 is p2 stored j lt ∙ a.written j lt;
    holds = tt;
    rests = λ t. let f : true ≡ false = sym t ∙ a.rests in cc;
    ready = λ e. record { section = clear; accepted = refl; freed = refl; delivered = refl; returned = refl };
    level = λ o. refl;
    sent = λ o. record { available = fields_blank link_config after p field.AvailIndex is clear.none; used = fields_blank link_config after p field.UsedIndex is clear.none; spelled = λ k from below. absurd (omega arith) };
    freed = omega arith;
    room = omega arith;
  }
  sets (suc (suc (suc zero))) value is p2 stored a = let ready : Opened end.handshake.phase = subst Opened (sym a.holds) tt in record {
    state = stored.here;
    written = λ j lt. section_stays 3 is p2 stored j lt ∙ a.written j lt;
    holds = tt;
    rests = λ t. let f : true ≡ false = sym t ∙ a.rests in cc;
    ready = λ e. absurd (not_phase {a = Run} {b = Ready} (λ f. omega arith) refl e);
    level = λ o. a.level ready;
    sent = λ o. sent_same (λ f. fields_same link_config memory after p is (section_stays 3 is p2 stored) f) (a.sent ready);
    freed = a.freed;
    room = a.room;
  }
  sets (suc (suc (suc (suc more)))) value is p2 stored a = absurd a.holds
