use Rattle.ivshm_cli.proofs.Captured.{short_lines}
use Rattle.ivshm_cli.proofs.captures.capture_file.Goals as goal

pub captured-requires-clause-short : goal.captured-requires-clause-short
captured-requires-clause-short c = short_lines c.delivered_frames_are_read.ensures _ _ _ c.requires.world c.requires.lawful
