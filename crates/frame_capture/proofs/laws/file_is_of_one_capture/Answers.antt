use Rattle.frame_capture.proofs.OneFile.{one_file}
use Rattle.frame_capture.proofs.laws.file_is_of_one_capture.Goals as goal

pub returns : goal.returns
returns c = one_file
