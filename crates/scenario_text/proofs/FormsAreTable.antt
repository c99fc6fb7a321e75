-- The forms of a scenario's lines are a table.
use Rattle.std.proofs.Common.{◌≡◌, Some, refl}
use Rattle.std.specs.Prelude.{slice_get}
use Rattle.line_format.proofs.FormsOfRows.{IsTable, place_of, table}
use Rattle.scenario_text.specs.declared.forms.Form.{Form}
use Rattle.scenario_text.specs.declared.forms.Form.TheVariants.{Version}
use Rattle.scenario_text.specs.Table.{pieces_of, all_forms}

listed : (form : Form) → slice_get all_forms (place_of pieces_of all_forms form) ≡ Some form
listed Version = refl
listed _ = refl

pub is_table : IsTable pieces_of all_forms
is_table = table pieces_of all_forms listed refl refl
