-- The forms of a running record's lines are a table.
use Rattle.std.proofs.Common.{◌≡◌, Some, refl}
use Rattle.std.specs.Prelude.{slice_get}
use Rattle.line_format.proofs.FormsOfRows.{IsTable, place_of, table}
use Rattle.record_text.specs.declared.forms.LineForm.{LineForm}
use Rattle.record_text.specs.declared.forms.LineForm.TheVariants.{Read}
use Rattle.record_text.specs.declared.run_forms.RunForm.{RunForm}
use Rattle.record_text.specs.declared.run_forms.RunForm.TheVariants.{Own, Peer, Turns, Finished, Spent}
use Rattle.record_text.specs.RunTable.{run_pieces_of, all_run_forms}

own_listed : (form : LineForm) → slice_get all_run_forms (place_of run_pieces_of all_run_forms (Own form)) ≡ Some (Own form)
own_listed Read = refl
own_listed _ = refl

listed : (form : RunForm) → slice_get all_run_forms (place_of run_pieces_of all_run_forms form) ≡ Some form
listed Peer = refl
listed Turns = refl
listed Finished = refl
listed Spent = refl
listed (Own form) = own_listed form

pub is_run_table : IsTable run_pieces_of all_run_forms
is_run_table = table run_pieces_of all_run_forms listed refl refl
