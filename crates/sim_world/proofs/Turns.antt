-- The turns that a listener receives are those of an act.
use Rattle.std.proofs.Common.{◌≡◌, ℕ, List, ◌++◌, sym, subst, replicate}
use Rattle.std.specs.Prelude.{Result, Ok, Err, OnOk}
use Rattle.scenario_text.specs.declared.acts.Act.{Act}
use Rattle.scenario_text.specs.declared.acts.Act.TheVariants as act
use Rattle.scenario_text.specs.Scenario.{World}
use Rattle.lawful_history.specs.declared.line.Line.{Line}
use Rattle.lawful_history.specs.Schedule.{Event, TurnTaken, events_of}
use Rattle.lawful_history.specs.Permitted.{IsPermittedEvent}
use Rattle.simulator.specs.Simulator.{IsAct}
use Rattle.simulator.specs.declared.simulator.Simulator.{Simulator}
use Rattle.simulator.proofs.OneMoreEvent.{below_peers}
use Rattle.sim_world.specs.Playing.{HasReceived, HasStopped}
use Rattle.sim_world.proofs.StoppedPlays.{WhereStopped}
use Rattle.sim_world.specs.declared.playing.Stopped.{Stopped}

module _ {L : Type 0} (before after : L → List Line → Type 0) (a : Act) (peer steps : ℕ) (old new : Simulator) (is : a ≡ act.Turn peer steps) where
  turns_received : ((began : L) (world : World) (version : ℕ) (events : List Event) → IsPermittedEvent world (TurnTaken peer) → HasReceived world version (before began) events old → HasReceived world version (after began) (events ++ replicate steps (TurnTaken peer)) new) →
      (began : L) (world : World) (version : ℕ) (events : List Event) → IsAct world a → HasReceived world version (before began) events old → HasReceived world version (after began) (events ++ events_of a) new
  turns_received turns = λ began world version events allowed received.
      let here : IsAct world (act.Turn peer steps) = subst (λ (b : Act). IsAct world b) is allowed in
      subst (λ (b : Act). HasReceived world version (after began) (events ++ events_of b) new) (sym is) (turns began world version events (below_peers peer world.geometry.peers here.1.peer) received)

  pub act_received : {T E : Type 0} (result : Result T E) →
      OnOk result ((began : L) (world : World) (version : ℕ) (events : List Event) → IsPermittedEvent world (TurnTaken peer) → HasReceived world version (before began) events old → HasReceived world version (after began) (events ++ replicate steps (TurnTaken peer)) new) →
      OnOk result ((began : L) (world : World) (version : ℕ) (events : List Event) → IsAct world a → HasReceived world version (before began) events old → HasReceived world version (after began) (events ++ events_of a) new)
  act_received (Ok t) turns = turns_received turns
  act_received (Err e) turns = tt

-- A stop within the turns is a stop within the act's turns.
module _ {L : Type 0} (before after : L → List Line → Type 0) (a : Act) (peer steps : ℕ) (old : Simulator) (is : a ≡ act.Turn peer steps) where
  pub act_stopped : {T : Type 0} (result : Result T Stopped) →
      ((began : L) (world : World) (version : ℕ) (events : List Event) → IsPermittedEvent world (TurnTaken peer) → HasReceived world version (before began) events old → WhereStopped result (HasStopped world version (after began) (events ++ replicate steps (TurnTaken peer)))) →
      (began : L) (world : World) (version : ℕ) (events : List Event) → IsAct world a → HasReceived world version (before began) events old → WhereStopped result (HasStopped world version (after began) (events ++ events_of a))
  act_stopped result turns = λ began world version events allowed received.
      let here : IsAct world (act.Turn peer steps) = subst (λ (b : Act). IsAct world b) is allowed in
      subst (λ (b : Act). WhereStopped result (HasStopped world version (after began) (events ++ events_of b))) (sym is) (turns began world version events (below_peers peer world.geometry.peers here.1.peer) received)
