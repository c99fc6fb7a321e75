use Rattle.std.proofs.Common.{refl}
use Rattle.line_format.proofs.LawsOfTexts.{spelled_is_read}
use Rattle.port_text.specs.Spelling.{world_of}
use Rattle.port_text.proofs.SpelledIsRead.{is_forward}
use Rattle.port_text.proofs.laws.printed_is_read_again.Goals as goal

pub returns : goal.returns
returns c = λ scenario. spelled_is_read is_forward (world_of scenario) _ (scenario.world, refl)
