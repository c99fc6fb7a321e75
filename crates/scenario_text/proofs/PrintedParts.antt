-- The text of a scenario, appended part by part.
use Rattle.std.proofs.Common.{◌≡◌, ℕ, List, [], ◌∷◌, ◌++◌, map, refl}
use Rattle.line_format.specs.Rows.{row, line_of_row, text_of, flag_rows}
use Rattle.line_format.proofs.PartLaws.{text-push, text-on}
use Rattle.scenario_text.specs.Table.{pieces_of}
use Rattle.scenario_text.specs.declared.forms.Form.TheVariants.{Begin, End, Honest, Hostile}
use Rattle.scenario_text.specs.ActRows.{row_of_act}
use Rattle.scenario_text.specs.Scenario.{World}
use Rattle.scenario_text.specs.Spelling.{row_of_wiring, sizes_rows, spelling}

-- The parts of a scenario's text, one after the other.
pub parts : (front : List ℕ) (w : World) → (((((front ++ text_of pieces_of (sizes_rows w)) ++ line_of_row pieces_of (row_of_wiring w.wiring)) ++ text_of pieces_of (flag_rows Honest Hostile 0 w.honest)) ++ line_of_row pieces_of (row Begin [] [])) ++ text_of pieces_of (map row_of_act w.acts)) ++ line_of_row pieces_of (row End [] []) ≡ front ++ spelling w
parts front w =
    let sizes = sizes_rows w in
    let peers = flag_rows Honest Hostile 0 w.honest in
    let acts = map row_of_act w.acts in
    let wired = text-push pieces_of front sizes (row_of_wiring w.wiring) in
    let flagged = text-on pieces_of front (sizes ++ row_of_wiring w.wiring ∷ []) peers in
    let begun = text-push pieces_of front ((sizes ++ row_of_wiring w.wiring ∷ []) ++ peers) (row Begin [] []) in
    let acted = text-on pieces_of front (((sizes ++ row_of_wiring w.wiring ∷ []) ++ peers) ++ row Begin [] [] ∷ []) acts in
    let ended = text-push pieces_of front ((((sizes ++ row_of_wiring w.wiring ∷ []) ++ peers) ++ row Begin [] [] ∷ []) ++ acts) (row End [] []) in
    rw (wired, flagged, begun, acted, ended) refl
