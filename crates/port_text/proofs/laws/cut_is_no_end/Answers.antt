use Rattle.line_format.proofs.LawsOfTexts.{cut_is_no_end}
use Rattle.port_text.proofs.SpelledIsRead.{is_forward}
use Rattle.port_text.proofs.laws.cut_is_no_end.Goals as goal

pub returns : goal.returns
returns c = cut_is_no_end is_forward
