-- Acts as rows of the table of forms.
use Rattle.std.specs.Prelude.{[], ◌∷◌}
use Rattle.line_format.specs.Rows.{Row, row}
use Rattle.scenario_text.specs.declared.acts.Act.{Act}
use Rattle.scenario_text.specs.declared.acts.Act.TheVariants as acts
use Rattle.scenario_text.specs.declared.forms.Form.{Form}
use Rattle.scenario_text.specs.declared.forms.Form.TheVariants.{Tick, Offer, Poll, Stop, Auto, Storm, Turn, Reset, Poke, Peek, Set, Ring, CfgRead, CfgWrite, MmioRead, MmioWrite, MsixRead, MsixWrite, Lose, Again}

-- The row whose line is the act's.
abbrev pub row_of_act : Act → Row Form
row_of_act (acts.Tick p) = row Tick (p ∷ []) []
row_of_act (acts.Offer p frame) = row Offer (p ∷ []) frame
row_of_act (acts.Poll p) = row Poll (p ∷ []) []
row_of_act (acts.Stop p) = row Stop (p ∷ []) []
row_of_act (acts.Auto p expect) = row Auto (p ∷ expect ∷ []) []
row_of_act (acts.Storm p seed) = row Storm (p ∷ seed ∷ []) []
row_of_act (acts.Turn p k) = row Turn (p ∷ k ∷ []) []
row_of_act (acts.Reset p) = row Reset (p ∷ []) []
row_of_act (acts.Poke p word value) = row Poke (p ∷ word ∷ value ∷ []) []
row_of_act (acts.Peek p word) = row Peek (p ∷ word ∷ []) []
row_of_act (acts.Set p value) = row Set (p ∷ value ∷ []) []
row_of_act (acts.Ring p target vector) = row Ring (p ∷ target ∷ vector ∷ []) []
row_of_act (acts.CfgRead p offset width) = row CfgRead (p ∷ offset ∷ width ∷ []) []
row_of_act (acts.CfgWrite p offset width value) = row CfgWrite (p ∷ offset ∷ width ∷ value ∷ []) []
row_of_act (acts.MmioRead p offset) = row MmioRead (p ∷ offset ∷ []) []
row_of_act (acts.MmioWrite p offset value) = row MmioWrite (p ∷ offset ∷ value ∷ []) []
row_of_act (acts.MsixRead p offset) = row MsixRead (p ∷ offset ∷ []) []
row_of_act (acts.MsixWrite p offset value) = row MsixWrite (p ∷ offset ∷ value ∷ []) []
row_of_act (acts.Lose p) = row Lose (p ∷ []) []
row_of_act (acts.Again p vector) = row Again (p ∷ vector ∷ []) []
