use Rattle.lawful_history.proofs.SessionMarks.{has_no_marks_in_one, has_marks_in_two, has_record_in_two}
use Rattle.lawful_history.proofs.laws.versions_differ_in_marks.Goals as goal

pub returns : goal.returns
returns c = record { first = has_no_marks_in_one; second = has_marks_in_two; each = has_record_in_two }
