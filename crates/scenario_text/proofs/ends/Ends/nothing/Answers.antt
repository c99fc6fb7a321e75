use Rattle.scenario_text.proofs.LastActs.{turns_behind, resets_behind, others_behind}
use Rattle.scenario_text.proofs.ends.Ends.nothing.Goals as goal

pub returns : goal.returns
returns c = record {
  others = others_behind;
  turns = turns_behind;
  resets = resets_behind;
}
