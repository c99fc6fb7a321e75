use Rattle.record_text.proofs.TextByParts.{parts_are, lines_follow}
use Rattle.record_text.proofs.laws.parts_are_the_record.Goals as goal

pub returns-clause-parts : goal.returns-clause-parts
returns-clause-parts c = parts_are

pub returns-clause-lines : goal.returns-clause-lines
returns-clause-lines c = lines_follow
