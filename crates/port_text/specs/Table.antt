-- The forms of the lines of a text of ports, by words and numbers (profile).
use Rattle.std.specs.Prelude.{List, [], ◌∷◌, codes}
use Rattle.line_format.specs.Forms.{Piece, Word, Number, Hex}
use Rattle.scenario_text.specs.Table.{any_number, u32_number}
use Rattle.port_text.specs.declared.limits.TheConstants.{MOST_TURNS}
use Rattle.port_text.specs.declared.forms.Form.{Form}
use Rattle.port_text.specs.declared.forms.Form.TheVariants.{Version, Peers, Out, Longest, Honest, Hostile, Begin, Publish, Sample, Turn, Poke, End}

-- The fields of a line of this form.
abbrev pub pieces_of : Form → List Piece
pieces_of Version = Word (codes "ports") ∷ Number 1 1 ∷ []
pieces_of Peers = Word (codes "peers") ∷ Number 2 8 ∷ []
pieces_of Out = Word (codes "out") ∷ any_number ∷ []
pieces_of Longest = Word (codes "message") ∷ u32_number ∷ []
pieces_of Honest = Word (codes "peer") ∷ any_number ∷ Word (codes "honest") ∷ []
pieces_of Hostile = Word (codes "peer") ∷ any_number ∷ Word (codes "hostile") ∷ []
pieces_of Begin = Word (codes "begin") ∷ []
pieces_of Publish = Word (codes "publish") ∷ any_number ∷ Hex ∷ []
pieces_of Sample = Word (codes "sample") ∷ any_number ∷ any_number ∷ []
pieces_of Turn = Word (codes "turn") ∷ any_number ∷ Number 0 MOST_TURNS ∷ []
pieces_of Poke = Word (codes "poke") ∷ any_number ∷ u32_number ∷ u32_number ∷ []
pieces_of End = Word (codes "end") ∷ []

abbrev pub all_forms : List Form
all_forms = Version ∷ Peers ∷ Out ∷ Longest ∷ Honest ∷ Hostile ∷ Begin ∷ Publish ∷ Sample ∷ Turn ∷ Poke ∷ End ∷ []
