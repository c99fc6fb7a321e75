-- A call from place to place and as a list.
use Rattle.std.proofs.Common.{◌≡◌, List, [], ◌∷◌, length, refl, sym, subst}
use Rattle.std.specs.Prelude.{ℕ, true, false, if◌then◌else◌}
use Rattle.link_handshake.specs.declared.Phase.{Phase}
use Rattle.link_handshake.specs.declared.Phase.TheVariants.{Reset, Init, Ready, Run}
use Rattle.link_handshake.specs.declared.Move.{Move}
use Rattle.link_handshake.specs.declared.Move.TheVariants.{Stay, Set, ClearThenSet}
use Rattle.link_handshake.specs.HandshakeState.{HandshakeState, move_of}
use Rattle.call_grammar.specs.Steps.{Step}
use Rattle.call_grammar.specs.Ends.{End}
use Rattle.call_grammar.specs.Ticks.{EndConfig, tick_steps, saw_step, tick_marks}
use Rattle.call_grammar.specs.Offers.{IsOffer}
use Rattle.call_grammar.specs.Polls.{is_last, IsPoll}
use Rattle.call_grammar.specs.Calls.{Call, Tick, Stop, Offer, Poll, in_run, pending_of, RunsOrIsDown, IsCall}
use Rattle.call_grammar.specs.Tasks.{WritingState, NotInRun}
use Rattle.call_grammar.specs.PlaceTable.{Place, Closed, ReadingOtherState, ReadingUsedIndex, ReadingAvailIndex, begin, tick_place, first_place}
use Rattle.call_grammar.specs.Paths.{Leads, PathsAreCalls}
use Rattle.call_grammar.proofs.Tasks.{ended, closing_listed, closing_path}
use Rattle.call_grammar.proofs.OfferPaths.{offer_listed, offer_path}
use Rattle.call_grammar.proofs.PollPaths.{poll_listed, poll_path}

-- A Tick, by its move.
tick_listed : (config : EndConfig) (value : ℕ) (move : Move) (step : Step) (steps : List Step) → step ≡ saw_step config value (tick_marks value move) → Leads config (tick_place move) steps Closed → step ∷ steps ≡ tick_steps config value move
tick_listed config value Stay step steps is leads = let none = ended config steps leads in cc
tick_listed config value (Set state) step steps is leads = let rest = closing_listed config (WritingState false state) steps refl leads in cc
tick_listed config value (ClearThenSet state) step steps is leads = let rest = closing_listed config (WritingState true state) steps refl leads in cc

tick_rest : (config : EndConfig) (value : ℕ) (move : Move) → (rest : List Step) × (tick_steps config value move ≡ saw_step config value (tick_marks value move) ∷ rest) × Leads config (tick_place move) rest Closed
tick_rest config value Stay = ([], refl, refl)
tick_rest config value (Set state) = (_, refl, closing_path config (WritingState false state) refl)
tick_rest config value (ClearThenSet state) = (_, refl, closing_path config (WritingState true state) refl)

tick_path : (config : EndConfig) (handshake : HandshakeState) (value : ℕ) → Leads config (ReadingOtherState handshake) (tick_steps config value (move_of handshake value)) Closed
tick_path config handshake value = let r = tick_rest config value (move_of handshake value) in
    subst (λ (l : List Step). Leads config (ReadingOtherState handshake) l Closed) (sym r.1) (refl, refl, r.2)

-- By the phase: the steps in RUN, or the only step of a call that is down.
by_phase : (config : EndConfig) (phase : Phase) (place : Place) (Runs : Type 0) (steps : List Step) → (Leads config place steps Closed → Runs) → Leads config (if in_run phase then place else begin NotInRun) steps Closed → RunsOrIsDown phase Runs steps
by_phase config Reset place Runs steps listed leads = closing_listed config NotInRun steps refl leads
by_phase config Init place Runs steps listed leads = closing_listed config NotInRun steps refl leads
by_phase config Ready place Runs steps listed leads = closing_listed config NotInRun steps refl leads
by_phase config Run place Runs steps listed leads = listed leads

from_phase : (config : EndConfig) (phase : Phase) (place : Place) (Runs : Type 0) (steps : List Step) → (Runs → Leads config place steps Closed) → RunsOrIsDown phase Runs steps → Leads config (if in_run phase then place else begin NotInRun) steps Closed
from_phase config Reset place Runs steps path is = subst (λ (l : List Step). Leads config (begin NotInRun) l Closed) (sym is) (closing_path config NotInRun refl)
from_phase config Init place Runs steps path is = subst (λ (l : List Step). Leads config (begin NotInRun) l Closed) (sym is) (closing_path config NotInRun refl)
from_phase config Ready place Runs steps path is = subst (λ (l : List Step). Leads config (begin NotInRun) l Closed) (sym is) (closing_path config NotInRun refl)
from_phase config Run place Runs steps path is = path is

call_listed : (config : EndConfig) (end : End) (call : Call) (steps : List Step) → Leads config (first_place config end call) steps Closed → IsCall config end call steps
call_listed config end Tick [] leads = absurd (cc)
call_listed config end Tick (step ∷ steps) leads = (step.value, tick_listed config step.value (move_of end.handshake step.value) step steps leads.1 leads.2)
call_listed config end Stop steps leads = closing_listed config (WritingState false 0) steps refl leads
call_listed config end (Offer frame) steps leads = by_phase config end.handshake.phase (ReadingUsedIndex (pending_of config end frame) end.freed) (IsOffer config (pending_of config end frame) end.freed steps) steps (offer_listed config (pending_of config end frame) end.freed steps) leads
call_listed config end Poll steps leads = by_phase config end.handshake.phase (ReadingAvailIndex (length end.delivered) (is_last config end.found_none)) (IsPoll config (length end.delivered) (is_last config end.found_none) steps) steps (poll_listed config (length end.delivered) (is_last config end.found_none) steps) leads

call_path : (config : EndConfig) (end : End) (call : Call) (steps : List Step) → IsCall config end call steps → Leads config (first_place config end call) steps Closed
call_path config end Tick steps is = subst (λ (l : List Step). Leads config (ReadingOtherState end.handshake) l Closed) (sym is.1) (tick_path config end.handshake is.0)
call_path config end Stop steps is = subst (λ (l : List Step). Leads config (begin (WritingState false 0)) l Closed) (sym is) (closing_path config (WritingState false 0) refl)
call_path config end (Offer frame) steps is = from_phase config end.handshake.phase (ReadingUsedIndex (pending_of config end frame) end.freed) (IsOffer config (pending_of config end frame) end.freed steps) steps (offer_path config (pending_of config end frame) end.freed steps) is
call_path config end Poll steps is = from_phase config end.handshake.phase (ReadingAvailIndex (length end.delivered) (is_last config end.found_none)) (IsPoll config (length end.delivered) (is_last config end.found_none) steps) steps (poll_path config (length end.delivered) (is_last config end.found_none) steps) is

pub calls : PathsAreCalls
calls = record { call = call_listed; path = call_path }
