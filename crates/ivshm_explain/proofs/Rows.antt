-- The number of lines of a scenario.
use Rattle.std.proofs.Common.{◌≡◌, ℕ, ◌+◌, List, [], ◌∷◌, ◌++◌, Bool, map, length, refl, ◌∙◌, arith, length-append}
use Rattle.std.proofs.lemmas.List.{length-map}
use Rattle.line_format.specs.Rows.{Row, row, flag_rows}
use Rattle.scenario_text.specs.declared.forms.Form.{Form}
use Rattle.scenario_text.specs.declared.forms.Form.TheVariants.{Begin, End, Honest, Hostile}
use Rattle.scenario_text.specs.ActRows.{row_of_act}
use Rattle.scenario_text.specs.Scenario.{World}
use Rattle.scenario_text.specs.Spelling.{head_rows, rows_of}

peer_count : (p : ℕ) (honest : List Bool) → length (flag_rows Honest Hostile p honest) ≡ length honest
peer_count p [] = refl
peer_count p (b ∷ bs) = let rest = peer_count (p + 1) bs in omega (arith, rest)

-- A row between two parts, and one after them.
parts : (first later : List (Row Form)) (between last : Row Form) → length (first ++ between ∷ [] ++ later ++ last ∷ []) ≡ length first + length later + 2
parts first later between last =
    let one = length-append ((first ++ between ∷ []) ++ later) (last ∷ []) in
    let two = length-append (first ++ between ∷ []) later in
    let three = length-append first (between ∷ []) in
    let four = length-append first (between ∷ (later ++ last ∷ [])) in
    let five = length-append later (last ∷ []) in
    omega (arith, one, two, three, four, five)

-- Seven lines of sizes and interrupts, the peers', `begin`, the acts', and `end`.
pub row_count : (w : World) → length (rows_of w) ≡ length w.honest + length w.acts + 9
row_count w =
    let peers = peer_count 0 w.honest in
    let acts = length-map w.acts row_of_act in
    parts (head_rows w) (map row_of_act w.acts) (row Begin [] []) (row End [] []) ∙ omega (arith, peers, acts)
