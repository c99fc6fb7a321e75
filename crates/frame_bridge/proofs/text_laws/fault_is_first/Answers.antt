use Rattle.line_format.proofs.LawsOfTexts.{fault_is_first}
use Rattle.frame_bridge.specs.Judge.{machine, sense}
use Rattle.frame_bridge.proofs.text_laws.fault_is_first.Goals as goal

pub returns : goal.returns
returns c = fault_is_first machine sense
