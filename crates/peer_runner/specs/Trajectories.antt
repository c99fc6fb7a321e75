-- The trajectory of an automatic peer, as the code drives it: one turn after another, from its
-- start.
use Rattle.std.specs.Prelude.{ℕ, ◌≡◌, ◌+◌, Bool, true, false, Some, None, List}
use Rattle.atomic_table.specs.Seated.{TableId}
use Rattle.call_grammar.specs.Calls.{EndConfig}
use Rattle.call_grammar.specs.Places.{access_at}
use Rattle.link_endpoint.specs.Engine.{Engine}
use Rattle.link_endpoint.specs.Plan.{Plan}
use Rattle.step_lines.specs.Places.{HasFrames}
use Rattle.doorbell_irq.specs.declared.route.Route.{Route}
use Rattle.shared_words.specs.declared.run_setup.RunSetup.{RunSetup}
use Rattle.shared_words.specs.declared.sessions.SessionWord.{SessionWord}
use Rattle.shared_words.specs.declared.sessions.SessionWord.TheVariants.{Own}
use Rattle.peer_runner.specs.declared.turns.AutoPeer.{AutoPeer}
use Rattle.peer_runner.specs.declared.doorbell_paths.Done.{Done}
use Rattle.shared_words.specs.PassView.{PassView}
use Rattle.shared_words.specs.RunSetups.{config_in}
use Rattle.shared_words.specs.Passes.{IsPassOf}
use Rattle.shared_words.specs.PeerRoutes.{route_to}
use Rattle.peer_runner.specs.DoorbellPaths.{is_guarded, doorbell_path_in}
use Rattle.peer_runner.specs.Turns.{has_turn_left, IsSpanSpent}
use Rattle.peer_runner.specs.Runners.{Runner, initial_runner, has_finished, place_in, IsDone, due_of, looks_now, looked_on, due_word, met_on, restarted_on, turned, RunnerRefines, IsThere, IsAutoPeer}

-- A turn of the runner that is no look.
pub record IsNoLook (config : EndConfig) (routes : List Route) (r : Runner) : Type 0 where
  pub left : has_turn_left r.spans ≡ true
  pub first : looks_now (route_to routes config.me) (due_of config r) r.looks ≡ false

-- One turn leads from r to the next state. It is a look, an access to a session word, a step, a
-- part of a doorbell, or a reset.
pub data GoesOn (config : EndConfig) (routes : List Route) (r : Runner) : Runner → Type 0 where
  by_look : (found : ℕ) → has_turn_left r.spans ≡ true → looks_now (route_to routes config.me) (due_of config r) r.looks ≡ true →
      GoesOn config routes r (looked_on r found)
  by_word : (word : SessionWord) (number : ℕ) → IsNoLook config routes r → due_word r.place r.met ≡ Some word →
      (word ≡ Own → number ≡ r.numbers.log.opened + 1) →
      GoesOn config routes r (met_on word r number)
  by_step : (done : Done) → IsNoLook config routes r → due_word r.place r.met ≡ None → has_finished r ≡ false →
      IsDone r.ringing (is_guarded (doorbell_path_in routes (access_at config (place_in config r)))) done →
      HasFrames (place_in config r) →
      GoesOn config routes r (turned routes config r done)
  by_reset : IsSpanSpent r.spans → has_finished r ≡ false → GoesOn config routes r (restarted_on r)

-- With this plan and these spans the runner comes there, turn by turn. In each of these states it
-- is refined by an endpoint.
pub data Trajectory (key : RunSetup) (me : ℕ) (routes : List Route) (plan : Plan) (spans : List ℕ) : Runner → Type 0 where
  starts : Trajectory key me routes plan spans (initial_runner plan.frames plan.expected spans)
  follows : (r next : Runner) (end : Engine) → Trajectory key me routes plan spans r → RunnerRefines key me routes r end →
      GoesOn (config_in key me) routes r next →
      Trajectory key me routes plan spans next

-- The code's peer, with its pass of these words, refines a state of the trajectory.
pub record IsOnTrajectory (id : TableId) (key : RunSetup) (me : ℕ) (routes : List Route) (plan : Plan) (spans : List ℕ)
    (r : Runner) (pass : PassView) (auto_peer : AutoPeer) : Type 0 where
  pub comes : Trajectory key me routes plan spans r
  pub of : IsPassOf id key pass
  pub there : IsThere key me routes r pass auto_peer.driven.end
  pub is : IsAutoPeer auto_peer r

-- The peer continued and has these spans now, or it is finished and unchanged.
abbrev pub WentTo : List ℕ → Runner → Runner → Bool → Type 0
WentTo spans r next true = next.spans ≡ spans
WentTo spans r next false = (next ≡ r) × (has_finished r ≡ true)
