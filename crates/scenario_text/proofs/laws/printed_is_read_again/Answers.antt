use Rattle.std.proofs.Common.{refl}
use Rattle.scenario_text.specs.Spelling.{world_of}
use Rattle.scenario_text.proofs.SpelledIsRead.{is_answered}
use Rattle.scenario_text.proofs.laws.printed_is_read_again.Goals as goal

pub returns : goal.returns
returns c = λ scenario. is_answered (world_of scenario) _ (scenario.world, refl)
