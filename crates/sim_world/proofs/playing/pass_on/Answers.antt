use Rattle.std.proofs.Common.{List, [], ◌++◌, sym, subst}
use Rattle.std.proofs.lemmas.List.{append-nil}
use Rattle.lawful_history.specs.declared.line.Line.{Line}
use Rattle.lawful_history.specs.Frames.{HaveFrames}
use Rattle.simulator.specs.Simulator.{kept_lines}
use Rattle.sim_world.specs.Playing.{output_of}
use Rattle.sim_world.proofs.StoppedPlays.{passed_on}
use Rattle.sim_world.proofs.playing.pass_on.Goals as goal

pub returns-clause-received : goal.returns-clause-received
returns-clause-received g c = λ began world version events received.
    let frames = subst (λ (ls : List Line). HaveFrames ls) (sym c.lines.ensures) received.runs.after.log.frames in
    record {
      gone = received.gone ++ kept_lines c.args.simulator.now;
      runs = c.drain.ensures.on world (output_of version received.gone) events received.runs;
      lines = subst (λ (ls : List Line). g.L.Listener.received began c.take_lines.new.self (received.gone ++ ls)) c.lines.ensures (c.in_ok-take_lines.ensures.received began received.gone received.lines frames);
    }

pub returns-in_err-take_lines-clause-stopped : goal.returns-in_err-take_lines-clause-stopped
returns-in_err-take_lines-clause-stopped g c = λ began world version events received.
    let frames = subst (λ (ls : List Line). HaveFrames ls) (sym c.lines.ensures) received.runs.after.log.frames in
    passed_on c.in_err-take_lines.field-0.0 c.from_residual.result _ c.from_residual.ensures.1
    (λ is. record {
      before = events;
      rest = [];
      events_are = sym (append-nil events);
      simulator = c.args.simulator.now;
      gone = received.gone;
      runs = received.runs;
      lines = subst (λ (ls : List Line). g.L.Listener.stopped_after began c.take_lines.new.self (received.gone ++ ls)) c.lines.ensures (c.in_err-take_lines.ensures.stopped began received.gone received.lines frames is);
    })
