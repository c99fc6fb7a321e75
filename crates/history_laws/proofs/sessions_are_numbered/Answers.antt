use Rattle.history_laws.proofs.SessionMarks.{sessions_are_numbered}
use Rattle.history_laws.proofs.sessions_are_numbered.Goals as goal

pub returns : goal.returns
returns c = sessions_are_numbered c.versions_differ_in_marks.ensures.second
