-- The rows of a tick and of a State step, and of a step without a side event.
use Rattle.std.proofs.Common.{◌≡◌, ℕ, zero, suc, ◌⊎◌, inl, inr, Bool, false, true, List, [], ◌∷◌, ◌++◌, refl, sym, ap, ◌∙◌, subst}
use Rattle.std.specs.Prelude.{◌==◌, if◌then◌else◌, Some, map}
use Rattle.link_handshake.specs.declared.Phase.{Phase}
use Rattle.link_handshake.specs.declared.Phase.TheVariants.{Reset, Init, Ready, Run}
use Rattle.link_handshake.specs.declared.Move.{Move}
use Rattle.link_handshake.specs.declared.Move.TheVariants.{Stay, Set, ClearThenSet}
use Rattle.link_handshake.specs.PhaseTable.{phase_of_state, state_of}
use Rattle.call_grammar.specs.Steps.{Over}
use Rattle.call_grammar.specs.Ends.{End, with_state, with_marks}
use Rattle.call_grammar.specs.Rows.{MovesTo}
use Rattle.call_grammar.specs.Ticks.{EndConfig, tick_marks}
use Rattle.call_grammar.specs.Places.{Place, Closed, clear_place, tick_place}
use Rattle.link_machine.specs.LinkMachine.{Side, SideEvent, Gave, Wrote, Marked, side_with, MayWriteState}
use Rattle.link_invariant.specs.LinkConfig.{LinkConfig}
use Rattle.link_invariant.specs.Sides.{FollowsRows, SawFor, CallIs, SideIs}

-- The machine's side after a step.
abbrev pub Follows : LinkConfig → Bool → Side → Side → List SideEvent → End → Place → Type 0
Follows link_config other_honest other side side_events end place = (new : Side) × FollowsRows link_config.sizes other_honest other side side_events new × SideIs end place new

-- The end and the side agree, for every call.
pub record Same (end : End) (side : Side) : Type 0 where
  pub state : side.state ≡ state_of end.handshake.phase
  pub refused : side.refused ≡ end.handshake.mark
  pub accepted : side.accepted ≡ end.accepted
  pub delivered : side.delivered ≡ end.delivered
  pub returned : side.returned ≡ end.returned
  pub freed : side.freed ≡ end.freed

pub same_of : {end : End} {place : Place} {side : Side} → SideIs end place side → Same end side
same_of si = record { state = si.state; refused = si.refused; accepted = si.accepted; delivered = si.delivered; returned = si.returned; freed = si.freed }

pub side_is : {end : End} {place : Place} {side : Side} → Same end side → CallIs end place side → SideIs end place side
side_is same call = record { state = same.state; refused = same.refused; accepted = same.accepted; delivered = same.delivered; returned = same.returned; freed = same.freed; call = call }

-- No row, and the same side.
pub silent : (link_config : LinkConfig) (other_honest : Bool) (other side : Side) {end : End} {place : Place} → Same end side → CallIs end place side → Follows link_config other_honest other side [] end place
silent link_config other_honest other side same call = (side, refl, side_is same call)

-- The event of a read comes before the marks of its step.
abbrev pub with_read : Side → ℕ → Side
with_read side value = record side { read = side.read ++ value ∷ [] }

abbrev pub anew : Side → Side
anew side = record side { read = [] }

pub same_with_read : {end : End} {side : Side} (value : ℕ) → Same end side → Same end (with_read side value)
same_with_read value same = record { state = same.state; refused = same.refused; accepted = same.accepted; delivered = same.delivered; returned = same.returned; freed = same.freed }

pub same_anew : {end : End} {side : Side} → Same end side → Same end (anew side)
same_anew same = record { state = same.state; refused = same.refused; accepted = same.accepted; delivered = same.delivered; returned = same.returned; freed = same.freed }

-- A read of the available index.
pub same_looked : {end : End} {side : Side} (none : Bool) (looked : ℕ) (read : List ℕ) → Same end side → Same (record end { found_none = none }) (record side { looked = looked; read = read })
same_looked none looked read same = record { state = same.state; refused = same.refused; accepted = same.accepted; delivered = same.delivered; returned = same.returned; freed = same.freed }

-- A write of a word.
pub wrote : {end : End} {side : Side} (written : ℕ → ℕ) → Same end side → Same (record end { written = written }) side
wrote written same = record { state = same.state; refused = same.refused; accepted = same.accepted; delivered = same.delivered; returned = same.returned; freed = same.freed }

pub read_rows : (link_config : LinkConfig) (other_honest : Bool) (other side : Side) (side_events : List SideEvent) {end : End} {place : Place} (value : ℕ) → Follows link_config other_honest other (with_read side value) side_events end place → Follows link_config other_honest other side (Gave value ∷ side_events) end place
read_rows link_config other_honest other side side_events value f = (f.0, (with_read side value, refl, f.1), f.2)

-- Ticks

phase_back : (phase : Phase) → phase_of_state (state_of phase) ≡ phase
phase_back Reset = refl
phase_back Init = refl
phase_back Ready = refl
phase_back Run = refl

moves_few : (phase : Phase) (v n : ℕ) → MovesTo phase v n → state_of (phase_of_state n) ≡ n
moves_few Reset zero n (inl e) = let z : 1 ≡ n = cc in subst (λ k. state_of (phase_of_state k) ≡ k) z refl
moves_few Reset (suc zero) n (inl e) = let z : 1 ≡ n = cc in subst (λ k. state_of (phase_of_state k) ≡ k) z refl
moves_few Reset (suc (suc v)) n (inl e) = absurd (cc)
moves_few Reset zero n (inr e) = absurd (cc)
moves_few Reset (suc zero) n (inr e) = absurd (cc)
moves_few Reset (suc (suc v)) n (inr e) = absurd (cc)
moves_few Init zero n (inl e) = absurd (cc)
moves_few Init (suc v) n (inl e) = absurd (cc)
moves_few Init zero n (inr e) = absurd (cc)
moves_few Init (suc v) n (inr e) = let z : 2 ≡ n = cc in subst (λ k. state_of (phase_of_state k) ≡ k) z refl
moves_few Ready zero n (inl e) = let z : 0 ≡ n = cc in subst (λ k. state_of (phase_of_state k) ≡ k) z refl
moves_few Ready (suc zero) n (inl e) = absurd (cc)
moves_few Ready (suc (suc v)) n (inl e) = let z : 3 ≡ n = cc in subst (λ k. state_of (phase_of_state k) ≡ k) z refl
moves_few Ready zero n (inr e) = absurd (cc)
moves_few Ready (suc zero) n (inr e) = absurd (cc)
moves_few Ready (suc (suc v)) n (inr e) = absurd (cc)
moves_few Run zero n (inl e) = let z : 0 ≡ n = cc in subst (λ k. state_of (phase_of_state k) ≡ k) z refl
moves_few Run (suc v) n (inl e) = absurd (cc)
moves_few Run zero n (inr e) = absurd (cc)
moves_few Run (suc v) n (inr e) = absurd (cc)

pub clear_call : (end : End) (at count state : ℕ) (side : Side) → SawFor end side.seen state → side.read ≡ [] → CallIs end (clear_place at count state) side
clear_call end at zero state side saw none = (inr saw, none)
clear_call end at (suc more) state side saw none = (saw, none)

pub saw : (link_config : LinkConfig) (other_honest : Bool) (other side : Side) (end : End) (config : EndConfig) (value : ℕ) (m : Move) → Same end side → side.read ≡ value ∷ [] → value ≡ other.state → ((n : ℕ) → m ≡ Set n → MovesTo end.handshake.phase value n) → ((n : ℕ) → m ≡ ClearThenSet n → MovesTo end.handshake.phase value n) →
    Follows link_config other_honest other side (map Marked (tick_marks value m)) (with_marks end (tick_marks value m)) (tick_place config m)
saw link_config other_honest other side end config value Stay same read met set clears = let new = record side { seen = Some value; read = [] } in
    (new, (new, (refl, (read, met, refl)), (new, (refl, refl), refl)), record { state = same.state; refused = same.refused; accepted = same.accepted; delivered = same.delivered; returned = same.returned; freed = same.freed; call = refl })
saw link_config other_honest other side end config value (Set n) same read met set clears = let new = record side { seen = Some value; read = [] } in
    (new, (new, (refl, (read, met, refl)), refl), record { state = same.state; refused = same.refused; accepted = same.accepted; delivered = same.delivered; returned = same.returned; freed = same.freed; call = (inr (value, refl, set n refl), refl) })
saw link_config other_honest other side end config value (ClearThenSet n) same read met set clears = let new = record side { seen = Some value; read = [] } in (
  new,
  (new, (refl, (read, met, refl)), refl),
  record { state = same.state; refused = same.refused; accepted = same.accepted; delivered = same.delivered; returned = same.returned; freed = same.freed; call = clear_call end config.own config.words n new (value, refl, clears n refl) refl },
)

-- a State step.
pub wrote_state : (link_config : LinkConfig) (other_honest : Bool) (other side : Side) (end : End) (n : ℕ) → Same end side → (n ≡ 0) ⊎ ((end.handshake.mark ≡ false) × SawFor end side.seen n) → Follows link_config other_honest other side (Wrote n ∷ Marked Over ∷ []) (with_state end n) Closed
wrote_state link_config other_honest other side end n same may = (
  anew (side_with side n),
  (side_with side n, (allowed may, refl), (anew (side_with side n), (refl, refl), refl)),
  record {
    state = sym (few may);
    refused = same.refused;
    accepted = ap (λ (x : List (List ℕ)). if n == 2 then [] else x) same.accepted;
    delivered = ap (λ (x : List (List ℕ)). if n == 2 then [] else x) same.delivered;
    returned = ap (λ x. if n == 2 then 0 else x) same.returned;
    freed = ap (λ x. if n == 2 then 0 else x) same.freed;
    call = refl;
  },
)
  where
    phase_is : phase_of_state side.state ≡ end.handshake.phase
    phase_is = ap phase_of_state same.state ∙ phase_back end.handshake.phase

    few : (n ≡ 0) ⊎ ((end.handshake.mark ≡ false) × SawFor end side.seen n) → state_of (phase_of_state n) ≡ n
    few (inl e) = subst (λ k. state_of (phase_of_state k) ≡ k) (sym e) refl
    few (inr h) = moves_few end.handshake.phase h.1.0 n h.1.2

    allowed : (n ≡ 0) ⊎ ((end.handshake.mark ≡ false) × SawFor end side.seen n) → MayWriteState true side n
    allowed (inl e) = inl e
    allowed (inr h) = inr (same.refused ∙ h.0, (h.1.0, h.1.1, subst (λ x. MovesTo x h.1.0 n) (sym phase_is) h.1.2))
