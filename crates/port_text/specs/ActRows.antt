-- Acts as rows of the table of forms.
use Rattle.std.specs.Prelude.{[], ◌∷◌}
use Rattle.line_format.specs.Rows.{Row, row}
use Rattle.port_text.specs.declared.acts.Act.{Act}
use Rattle.port_text.specs.declared.acts.Act.TheVariants as acts
use Rattle.port_text.specs.declared.forms.Form.{Form}
use Rattle.port_text.specs.declared.forms.Form.TheVariants.{Publish, Sample, Turn, Poke}

-- The row whose line is the act's.
abbrev pub row_of_act : Act → Row Form
row_of_act (acts.Publish peer message) = row Publish (peer ∷ []) message
row_of_act (acts.Sample peer from) = row Sample (peer ∷ from ∷ []) []
row_of_act (acts.Turn peer steps) = row Turn (peer ∷ steps ∷ []) []
row_of_act (acts.Poke peer word value) = row Poke (peer ∷ word ∷ value ∷ []) []
