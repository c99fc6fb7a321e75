use Rattle.sim_world.specs.Playing.{output_of}
use Rattle.sim_world.proofs.Turns.{act_received, act_stopped}
use Rattle.sim_world.proofs.StoppedPlays.{passed_on, by_memory}
use Rattle.sim_world.proofs.playing.play_act.Goals as goal

pub returns-in-Turn-clause-received : goal.returns-in-Turn-clause-received
returns-in-Turn-clause-received g c =
    act_received (λ began. g.L.Listener.received began c.args.listener.now) (λ began. g.L.Listener.received began c.play_turns.new.listener) c.args.act.now c.in-Turn.peer c.in-Turn.steps c.args.simulator.now c.play_turns.new.simulator c.in-Turn.is c.play_turns.result c.play_turns.ensures.received

pub returns-in-Turn-clause-stopped : goal.returns-in-Turn-clause-stopped
returns-in-Turn-clause-stopped g c =
    act_stopped (λ began. g.L.Listener.received began c.args.listener.now) (λ began. g.L.Listener.stopped_after began c.play_turns.new.listener) c.args.act.now c.in-Turn.peer c.in-Turn.steps c.args.simulator.now c.in-Turn.is c.play_turns.result c.play_turns.ensures.stopped

pub returns-in_ok-pass_on_many-in_default-clause-received : goal.returns-in_ok-pass_on_many-in_default-clause-received
returns-in_ok-pass_on_many-in_default-clause-received g c = λ began world version events is received.
    c.in_ok-pass_on_many-in_default.ensures.received began world version _ (record { gone = received.gone; runs = c.in_ok-act-in_default.ensures world (output_of version received.gone) events is received.runs; lines = received.lines })

pub returns-in_err-act-in_default-clause-stopped : goal.returns-in_err-act-in_default-clause-stopped
returns-in_err-act-in_default-clause-stopped g c = λ began world version events is received. by_memory c.from_residual.result _ c.from_residual.ensures.1

pub returns-in_err-pass_on_many-in_default-clause-stopped : goal.returns-in_err-pass_on_many-in_default-clause-stopped
returns-in_err-pass_on_many-in_default-clause-stopped g c = λ began world version events is received.
    passed_on c.in_err-pass_on_many-in_default.field-0.0 c.from_residual-in_err-pass_on_many-in_default.result _ c.from_residual-in_err-pass_on_many-in_default.ensures.1
    (c.in_err-pass_on_many-in_default.ensures.stopped began world version _ (record { gone = received.gone; runs = c.in_ok-act-in_default.ensures world (output_of version received.gone) events is received.runs; lines = received.lines }))
