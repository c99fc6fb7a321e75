use Rattle.std.proofs.Common.{take}
use Rattle.scenario_text.specs.Spelling.{world_of}
use Rattle.lawful_history.specs.Schedule.{schedule}
use Rattle.simulator.specs.Log.{no_output}
use Rattle.simulator.specs.Simulator.{RunsTo}
use Rattle.ivshm_explain.proofs.differences.lawful_lines.Given as goal

abbrev pub invariant-loop-act : goal.invariant-loop-act
invariant-loop-act l = RunsTo (world_of l.scenario) (no_output l.version) (schedule (take l.act-index l.scenario.acts)) l.simulator
