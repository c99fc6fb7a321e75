use Rattle.std.proofs.Common.{take}
use Rattle.port_text.specs.Spelling.{world_of}
use Rattle.sampling_port.specs.Schedule.{schedule}
use Rattle.sampling_port.specs.Simulator.{RunsTo}
use Rattle.sampling_port.proofs.OneMoreEvent.{front_of}
use Rattle.sampling_port.proofs.run.record.Given as goal

abbrev pub invariant-loop-act : goal.invariant-loop-act
invariant-loop-act l = RunsTo (world_of l.scenario) (front_of (world_of l.scenario)) (schedule (take l.act-index l.scenario.acts)) l.simulator
