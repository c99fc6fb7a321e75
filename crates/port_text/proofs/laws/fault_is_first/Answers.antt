use Rattle.line_format.proofs.LawsOfTexts.{fault_is_first}
use Rattle.port_text.specs.Judge.{machine, sense}
use Rattle.port_text.proofs.laws.fault_is_first.Goals as goal

pub returns : goal.returns
returns c = fault_is_first machine sense
