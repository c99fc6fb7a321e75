-- The forms of the lines of a text of a bridge, by words and numbers (profile).
use Rattle.std.specs.Prelude.{List, [], ◌∷◌, codes}
use Rattle.line_format.specs.Forms.{Piece, Word, Number, Hex}
use Rattle.frame_bridge.specs.declared.limits.TheConstants.{MOST_ROUNDS}
use Rattle.frame_bridge.specs.declared.forms.Form.{Form}
use Rattle.frame_bridge.specs.declared.forms.Form.TheVariants.{Version, Ports, Rounds, Begin, Frame, End}

-- The fields of a line of this form.
abbrev pub pieces_of : Form → List Piece
pieces_of Version = Word (codes "bridge") ∷ Number 1 1 ∷ []
pieces_of Ports = Word (codes "ports") ∷ Number 2 8 ∷ []
pieces_of Rounds = Word (codes "rounds") ∷ Number 0 MOST_ROUNDS ∷ []
pieces_of Begin = Word (codes "begin") ∷ []
pieces_of Frame = Word (codes "frame") ∷ Number 0 18446744073709551615 ∷ Hex ∷ []
pieces_of End = Word (codes "end") ∷ []

abbrev pub all_forms : List Form
all_forms = Version ∷ Ports ∷ Rounds ∷ Begin ∷ Frame ∷ End ∷ []
