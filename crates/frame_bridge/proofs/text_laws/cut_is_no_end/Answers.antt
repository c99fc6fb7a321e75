use Rattle.line_format.proofs.LawsOfTexts.{cut_is_no_end}
use Rattle.frame_bridge.proofs.SpelledIsRead.{is_forward}
use Rattle.frame_bridge.proofs.text_laws.cut_is_no_end.Goals as goal

pub returns : goal.returns
returns c = cut_is_no_end is_forward
