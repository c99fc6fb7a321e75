use Rattle.line_format.proofs.LawsOfTexts.{spelled_is_read}
use Rattle.frame_bridge.proofs.SpelledIsRead.{is_forward}
use Rattle.frame_bridge.proofs.text_laws.spelled_is_read.Goals as goal

pub returns : goal.returns
returns c = spelled_is_read is_forward
