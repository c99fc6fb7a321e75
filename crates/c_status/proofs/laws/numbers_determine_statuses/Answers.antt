use Rattle.c_status.proofs.NumbersDetermineStatuses.{numbers_determine}
use Rattle.c_status.proofs.laws.numbers_determine_statuses.Goals as goal

pub returns : goal.returns
returns c = numbers_determine
