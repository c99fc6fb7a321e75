-- The session word is the number of sessions: through an access of a call, a reset, and a store of
-- the session word.
use Rattle.std.proofs.Common.{◌≡◌, ℕ, zero, suc, ◌+◌, ◌≤◌, ◌⊎◌, inl, inr, ⊎_elim, Bool, true, false, refl, sym, ap, ◌∙◌, subst, arith, eq-eqb, ne_eqb}
use mathlib.Core.Logic.{dite}
use native.Mathlib.Decide.{ℕ_discrete}
use Rattle.std.specs.Prelude.{◌==◌}
use Rattle.split_ring.specs.declared.steps.Access.{Access}
use Rattle.split_ring.specs.declared.steps.Access.TheVariants as access
use Rattle.link_handshake.specs.declared.Phase.{Phase}
use Rattle.link_handshake.specs.PhaseTable.{phase_of_state, state_of}
use Rattle.call_grammar.specs.Ends.{End, after_reset, end_after}
use Rattle.call_grammar.specs.Ticks.{EndConfig}
use Rattle.call_grammar.specs.Places.{Place, Closed, ReadingOtherState, Clearing, WritingState, Refusing, NotInRun, ReadingUsedIndex, ReadingUsedId, WritingFrameWord, WritingDescAddressLow, WritingDescAddressHigh, WritingDescLength, WritingDescFlags, WritingAvailEntry, WritingAvailIndex, ReadingAvailEvent, RingingOffer, ReadingAvailIndex, WritingAvailEvent, ReadingAvailEntry, ReadingDescAddressLow, ReadingDescAddressHigh, ReadingDescLength, ReadingDescFlags, ReadingFrameWord, WritingUsedId, WritingUsedLength, WritingUsedIndex, RingingPoll, access_at, step_at}
use Rattle.call_grammar.proofs.OfferLists.{yes, no}
use Rattle.call_grammar.proofs.Phases.{phases}
use Rattle.link_invariant.specs.LinkConfig.{LinkConfig}
use Rattle.link_invariant.specs.EndInvariant.{MaySet, PlaceInvariant}
use Rattle.pair_sessions.specs.Numbers.{Numbers, numbers_after, numbers_reset, with_stored, IsNumbered, WordIs}

-- The State that an access writes.
abbrev pub state_in : Access → ℕ
state_in (access.State state) = state
state_in _ = 0

-- A State step belongs to an open Tick or Stop, or follows a refusal.
pub state_at : (config : EndConfig) (place : Place) (state : ℕ) → access_at config place ≡ access.State state → (place ≡ WritingState state) ⊎ ((place ≡ Refusing) × (state ≡ 0))
state_at config Closed state e = absurd (cc)
state_at config (ReadingOtherState handshake) state e = absurd (cc)
state_at config (Clearing at more s) state e = absurd (cc)
state_at config (WritingState s) state e = inl (ap WritingState (ap state_in e))
state_at config Refusing state e = inr (refl, sym (ap state_in e))
state_at config NotInRun state e = absurd (cc)
state_at config (ReadingUsedIndex pending freed) state e = absurd (cc)
state_at config (ReadingUsedId pending freed more) state e = absurd (cc)
state_at config (WritingFrameWord pending at more) state e = absurd (cc)
state_at config (WritingDescAddressLow pending) state e = absurd (cc)
state_at config (WritingDescAddressHigh pending) state e = absurd (cc)
state_at config (WritingDescLength pending) state e = absurd (cc)
state_at config (WritingDescFlags pending) state e = absurd (cc)
state_at config (WritingAvailEntry pending) state e = absurd (cc)
state_at config (WritingAvailIndex pending) state e = absurd (cc)
state_at config (ReadingAvailEvent number) state e = absurd (cc)
state_at config RingingOffer state e = absurd (cc)
state_at config (ReadingAvailIndex taken last) state e = absurd (cc)
state_at config (WritingAvailEvent taken) state e = absurd (cc)
state_at config (ReadingAvailEntry number more) state e = absurd (cc)
state_at config (ReadingDescAddressLow number more entry) state e = absurd (cc)
state_at config (ReadingDescAddressHigh number more entry low) state e = absurd (cc)
state_at config (ReadingDescLength number more entry address) state e = absurd (cc)
state_at config (ReadingDescFlags number more entry address bytes) state e = absurd (cc)
state_at config (ReadingFrameWord number more entry address bytes read words) state e = absurd (cc)
state_at config (WritingUsedId number more entry) state e = absurd (cc)
state_at config (WritingUsedLength number more) state e = absurd (cc)
state_at config (WritingUsedIndex number more) state e = absurd (cc)
state_at config RingingPoll state e = absurd (cc)

-- An end in RESET or INIT writes at most 2.
low_at : (link_config : LinkConfig) (p : ℕ) (memory : ℕ → ℕ) (phase : Phase) (state : ℕ) → MaySet link_config memory p phase state → state_of phase ≤ 1 → state ≤ 2
low_at link_config p memory phase zero may low = omega arith
low_at link_config p memory phase (suc zero) may low = omega arith
low_at link_config p memory phase (suc (suc zero)) may low = omega arith
low_at link_config p memory phase (suc (suc (suc zero))) may low = let s = ap state_of may in absurd (omega arith)
low_at link_config p memory phase (suc (suc (suc (suc more)))) may low = absurd may

pub low_writes : (link_config : LinkConfig) (p : ℕ) (memory : ℕ → ℕ) (end : End) (config : EndConfig) (place : Place) (state : ℕ) → PlaceInvariant link_config memory p end place → access_at config place ≡ access.State state → state_of end.handshake.phase ≤ 1 → state ≤ 2
low_writes link_config p memory end config place state holds e low = ⊎_elim (λ is. low_at link_config p memory end.handshake.phase state (subst (PlaceInvariant link_config memory p end) is holds) low) (λ z. let none = z.1 in omega arith) (state_at config place state e)

low_state : (state : ℕ) → state ≤ 1 → state_of (phase_of_state state) ≤ 1
low_state zero h = h
low_state (suc zero) h = h
low_state (suc (suc n)) h = absurd (omega arith)

abbrev number : Bool → ℕ
number true = 1
number false = 0

pub clash : false ≡ true → ⊥
clash e = let h : number false ≡ number true = ap number e in omega arith

-- An access that writes no State leaves the numbers.
word_else : (end end' : End) (n : Numbers) (word : ℕ) → end'.handshake.phase ≡ end.handshake.phase → WordIs end n word → WordIs end' n word
word_else end end' n word same (inl h) = inl h
word_else end end' n word same (inr h) = inr (h.0, h.1, subst (λ x. state_of x ≤ 1) (sym same) h.2)

word_state : (end end' : End) (n : Numbers) (word state : ℕ) → end'.handshake.phase ≡ phase_of_state state → (state_of end.handshake.phase ≤ 1 → state ≤ 2) → IsNumbered n (access.State state) → WordIs end n word → WordIs end' (numbers_after n end (access.State state)) word
word_state end end' n word state same low is w = dite (ℕ_discrete state 2)
    (λ e. let b = eq-eqb state 2 e in let s = is.0 e in inl (yes (state == 2) false n.stored b, ⊎_elim (λ h. absurd (clash (sym h.0 ∙ s))) (λ h. h.1) w ∙ sym (yes (state == 2) (n.log.opened + 1) n.log.opened b)))
    (λ ne. let b = ne_eqb state 2 ne in let st = no (state == 2) false n.stored b in let op = no (state == 2) (n.log.opened + 1) n.log.opened b in ⊎_elim
    (λ h. inl (st ∙ h.0, h.1 ∙ sym op))
    (λ h. inr (st ∙ h.0, h.1 ∙ ap (λ k. k + 1) (sym op), let two = low h.2 in subst (λ x. state_of x ≤ 1) (sym same) (low_state state (omega arith)))) w)

word_by : (config : EndConfig) (place : Place) (end : End) (n : Numbers) (word value : ℕ) (a : Access) → access_at config place ≡ a → ((state : ℕ) → a ≡ access.State state → state_of end.handshake.phase ≤ 1 → state ≤ 2) → IsNumbered n a → WordIs end n word →
    WordIs (end_after end (step_at config place value)) (numbers_after n end a) word
word_by config place end n word value (access.State state) is low numbered w = word_state end (end_after end (step_at config place value)) n word state (phases.written end (step_at config place value) state is) (low state refl) numbered w
word_by config place end n word value (access.Read r) is low numbered w = word_else end (end_after end (step_at config place value)) n word (phases.kept end (step_at config place value) (λ state e. let h = sym is ∙ e in absurd (cc))) w
word_by config place end n word value (access.Write r v) is low numbered w = word_else end (end_after end (step_at config place value)) n word (phases.kept end (step_at config place value) (λ state e. let h = sym is ∙ e in absurd (cc))) w
word_by config place end n word value (access.Ring t v) is low numbered w = word_else end (end_after end (step_at config place value)) n word (phases.kept end (step_at config place value) (λ state e. let h = sym is ∙ e in absurd (cc))) w
word_by config place end n word value access.Nothing is low numbered w = word_else end (end_after end (step_at config place value)) n word (phases.kept end (step_at config place value) (λ state e. let h = sym is ∙ e in absurd (cc))) w

-- A step of an end at a place.
pub word_step : (config : EndConfig) (place : Place) (end : End) (n : Numbers) (word value : ℕ) → ((state : ℕ) → access_at config place ≡ access.State state → state_of end.handshake.phase ≤ 1 → state ≤ 2) → IsNumbered n (access_at config place) → WordIs end n word →
    WordIs (end_after end (step_at config place value)) (numbers_after n end (access_at config place)) word
word_step config place end n word value low numbered w = word_by config place end n word value (access_at config place) refl low numbered w

pub word_reset : (end : End) (n : Numbers) (word : ℕ) → WordIs end n word → WordIs (after_reset end) (numbers_reset n end) word
word_reset end n word (inl h) = inl h
word_reset end n word (inr h) = inr (h.0, h.1, omega arith)

pub word_stored : (end : End) (n : Numbers) (now : ℕ) → state_of end.handshake.phase ≡ 1 → now ≡ n.log.opened + 1 → WordIs end (with_stored n) now
word_stored end n now init is = inr (refl, is, omega arith)

pub word_like : (end end' : End) (n n' : Numbers) (w w' : ℕ) → end' ≡ end → n' ≡ n → w' ≡ w → WordIs end n w → WordIs end' n' w'
word_like end end' n n' w w' e f g h = subst (λ x. WordIs x n' w') (sym e) (subst (λ x. WordIs end x w') (sym f) (subst (WordIs end n) (sym g) h))
