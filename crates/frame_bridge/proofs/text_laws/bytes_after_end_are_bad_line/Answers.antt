use Rattle.line_format.proofs.LawsOfTexts.{bytes_after_end_are_a_line}
use Rattle.frame_bridge.proofs.SpelledIsRead.{is_forward}
use Rattle.frame_bridge.proofs.text_laws.bytes_after_end_are_bad_line.Goals as goal

pub returns : goal.returns
returns c = bytes_after_end_are_a_line is_forward
