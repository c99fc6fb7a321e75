-- The forms of the lines after a running record's scenario, by words and numbers (profile).
use Rattle.std.specs.Prelude.{List, [], ◌∷◌, map, codes}
use Rattle.line_format.specs.Forms.{Piece, Word}
use Rattle.record_text.specs.declared.forms.LineForm.{LineForm}
use Rattle.record_text.specs.declared.run_forms.RunForm.{RunForm}
use Rattle.record_text.specs.declared.run_forms.RunForm.TheVariants.{Own, Peer, Turns, Finished, Spent}
use Rattle.record_text.specs.Table.{pieces_of, all_forms, any_number, u32_number}

-- The fields of a line of this form.
abbrev pub run_pieces_of : RunForm → List Piece
run_pieces_of (Own form) = pieces_of form
run_pieces_of Peer = Word (codes "peer") ∷ u32_number ∷ []
run_pieces_of Turns = Word (codes "turns") ∷ any_number ∷ []
run_pieces_of Finished = Word (codes "finished") ∷ []
run_pieces_of Spent = Word (codes "spent") ∷ []

abbrev pub all_run_forms : List RunForm
all_run_forms = Peer ∷ Turns ∷ Finished ∷ Spent ∷ map (λ (form : LineForm). Own form) all_forms
