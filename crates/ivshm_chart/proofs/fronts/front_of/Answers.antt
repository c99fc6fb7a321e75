use Rattle.scenario_text.specs.Spelling.{world_of}
use Rattle.ivshm_chart.proofs.fronts.front_of.Goals as goal

pub invariant_of-result : goal.invariant_of-result
invariant_of-result c =
    let front = c.in_ok-lines.ensures.read c.args.bytes.now c.in_ok-version.version (world_of c.in_ok-version.scenario) c.in_ok-version.ensures.begun in
    record { versioned = c.in_ok-version.ensures.known; frames = front.frames }
