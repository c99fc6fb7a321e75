-- A call as a tree and as a list.
use Rattle.std.proofs.Common.{◌≡◌, ℕ, List, [], ◌∷◌, refl, sym, subst, length}
use Rattle.link_handshake.specs.declared.Phase.{Phase}
use Rattle.link_handshake.specs.declared.Phase.TheVariants.{Reset, Init, Ready, Run}
use Rattle.link_handshake.specs.HandshakeState.{move_of}
use Rattle.std.specs.Prelude.{◌≢◌, Bool, true, false, if◌then◌else◌}
use Rattle.call_grammar.specs.Steps.{Step}
use Rattle.call_grammar.specs.Trees.{CallTree, Ended, Makes}
use Rattle.call_grammar.specs.Ends.{End}
use Rattle.call_grammar.specs.Ticks.{EndConfig, set_state, tick_steps}
use Rattle.call_grammar.specs.Offers.{offer, IsOffer}
use Rattle.call_grammar.specs.Polls.{is_last, poll, IsPoll}
use Rattle.call_grammar.specs.Calls.{Call, Tick, Stop, Offer, Poll, in_run, pending_of, down, down_step, tree_of, RunsOrIsDown, IsCall, CallsAreLists, CallsTakeAStep}
use Rattle.call_grammar.proofs.TickLists.{set_listed, tick_listed, ticks_by, tick_made}
use Rattle.call_grammar.proofs.OfferLists.{offer_listed, offer_made}
use Rattle.call_grammar.proofs.PollLists.{poll_listed, poll_made}

down_listed : (steps : List Step) → Makes down steps → steps ≡ down_step ∷ []
down_listed [] makes = absurd makes
down_listed (step ∷ steps) makes = let first = makes.0 in let none = makes.1 in cc

-- By the phase: the steps in RUN, or the only step of a call that is down.
by_phase : (phase : Phase) (tree : CallTree) (Runs : Type 0) (steps : List Step) → (Makes tree steps → Runs) → Makes (if in_run phase then tree else down) steps → RunsOrIsDown phase Runs steps
by_phase Reset tree Runs steps listed makes = down_listed steps makes
by_phase Init tree Runs steps listed makes = down_listed steps makes
by_phase Ready tree Runs steps listed makes = down_listed steps makes
by_phase Run tree Runs steps listed makes = listed makes

from_phase : (phase : Phase) (tree : CallTree) (Runs : Type 0) (steps : List Step) → (Runs → Makes tree steps) → RunsOrIsDown phase Runs steps → Makes (if in_run phase then tree else down) steps
from_phase Reset tree Runs steps made is = subst (λ (list : List Step). Makes down list) (sym is) (refl, refl)
from_phase Init tree Runs steps made is = subst (λ (list : List Step). Makes down list) (sym is) (refl, refl)
from_phase Ready tree Runs steps made is = subst (λ (list : List Step). Makes down list) (sym is) (refl, refl)
from_phase Run tree Runs steps made is = made is

made_is_call : (config : EndConfig) (end : End) (call : Call) (steps : List Step) → Makes (tree_of config end call) steps → IsCall config end call steps
made_is_call config end Tick [] makes = absurd makes
made_is_call config end Tick (step ∷ steps) makes = (makes.0, tick_listed config makes.0 (move_of end.handshake makes.0) step steps makes.1 makes.2)
made_is_call config end Stop steps makes = set_listed 0 steps makes
made_is_call config end (Offer frame) steps makes = by_phase end.handshake.phase (offer config (pending_of config end frame) end.freed) (IsOffer config (pending_of config end frame) end.freed steps) steps (offer_listed config (pending_of config end frame) end.freed steps) makes
made_is_call config end Poll steps makes = by_phase end.handshake.phase (poll config (length end.delivered) (is_last config end.found_none)) (IsPoll config (length end.delivered) (is_last config end.found_none) steps) steps (poll_listed config (length end.delivered) (is_last config end.found_none) steps) makes

call_is_made : (config : EndConfig) (end : End) (call : Call) (steps : List Step) → IsCall config end call steps → Makes (tree_of config end call) steps
call_is_made config end Tick steps is =
    subst (λ (list : List Step). Makes (tree_of config end Tick) list) (sym is.1) (tick_made config end is.0 (tick_steps config is.0 (move_of end.handshake is.0)) (ticks_by config is.0 (move_of end.handshake is.0)))
call_is_made config end Stop steps is = subst (λ (list : List Step). Makes (set_state 0) list) (sym is) (refl, refl)
call_is_made config end (Offer frame) steps is = from_phase end.handshake.phase (offer config (pending_of config end frame) end.freed) (IsOffer config (pending_of config end frame) end.freed steps) steps (offer_made config (pending_of config end frame) end.freed steps) is
call_is_made config end Poll steps is = from_phase end.handshake.phase (poll config (length end.delivered) (is_last config end.found_none)) (IsPoll config (length end.delivered) (is_last config end.found_none) steps) steps (poll_made config (length end.delivered) (is_last config end.found_none) steps) is

pub lists : CallsAreLists
lists = record { listed = made_is_call; made = call_is_made }

-- Either of two calls has a step.
either_steps : (b : Bool) (tree other : CallTree) → tree ≢ Ended → other ≢ Ended → (if b then tree else other) ≢ Ended
either_steps true tree other more more' = more
either_steps false tree other more more' = more'

poll_steps : (config : EndConfig) (taken : ℕ) (last : Bool) → poll config taken last ≢ Ended
poll_steps config taken true = λ is. cc
poll_steps config taken false = λ is. cc

pub takes_a_step : CallsTakeAStep
takes_a_step config end Tick = λ is. cc
takes_a_step config end Stop = λ is. cc
takes_a_step config end (Offer frame) = either_steps (in_run end.handshake.phase) (offer config (pending_of config end frame) end.freed) down (λ is. cc) (λ is. cc)
takes_a_step config end Poll = either_steps (in_run end.handshake.phase) (poll config (length end.delivered) (is_last config end.found_none)) down (poll_steps config (length end.delivered) (is_last config end.found_none)) (λ is. cc)
