-- The lines of a record of ports as rows of a table of forms (profile).
use Rattle.std.specs.Prelude.{List, [], ◌∷◌, codes}
use Rattle.line_format.specs.Forms.{Piece, Word, Number, Hex}
use Rattle.line_format.specs.Rows.{Row, row}
use Rattle.scenario_text.specs.Table.{any_number, u32_number}
use Rattle.sampling_port.specs.declared.lines.Form.{Form}
use Rattle.sampling_port.specs.declared.lines.Form.TheVariants as form
use Rattle.sampling_port.specs.declared.notes.PortField.{PortField}
use Rattle.sampling_port.specs.declared.notes.PortField.TheVariants.{Sequence, Length}
use Rattle.sampling_port.specs.Marks as mark
use Rattle.sampling_port.specs.EventRecords.{Line, Read, Wrote, Denied, Idle, Marked}

-- The fields of a line of this form.
abbrev pub pieces_of_line : Form → List Piece
pieces_of_line form.Head = Word (codes "portrecord") ∷ Number 1 1 ∷ []
pieces_of_line form.Read = Word (codes "r") ∷ u32_number ∷ u32_number ∷ u32_number ∷ []
pieces_of_line form.Wrote = Word (codes "w") ∷ u32_number ∷ u32_number ∷ u32_number ∷ []
pieces_of_line form.Denied = Word (codes "denied") ∷ u32_number ∷ u32_number ∷ []
pieces_of_line form.Idle = Word (codes "idle") ∷ u32_number ∷ []
pieces_of_line form.Publish = Word (codes "publish") ∷ u32_number ∷ u32_number ∷ []
pieces_of_line form.Nothing = Word (codes "none") ∷ u32_number ∷ u32_number ∷ []
pieces_of_line form.Got = Word (codes "got") ∷ u32_number ∷ u32_number ∷ u32_number ∷ Hex ∷ []
pieces_of_line form.Again = Word (codes "again") ∷ u32_number ∷ u32_number ∷ u32_number ∷ u32_number ∷ []
pieces_of_line form.RefuseSequence = Word (codes "refuse") ∷ u32_number ∷ Word (codes "Sequence") ∷ u32_number ∷ []
pieces_of_line form.RefuseLength = Word (codes "refuse") ∷ u32_number ∷ Word (codes "Length") ∷ u32_number ∷ []
pieces_of_line form.End = Word (codes "end") ∷ any_number ∷ []

-- The form of a refusal, by its field.
abbrev pub refusal_form : PortField → Form
refusal_form Sequence = form.RefuseSequence
refusal_form Length = form.RefuseLength

-- The row of a line.
abbrev pub row_of_line : Line → Row Form
row_of_line (Read peer word value) = row form.Read (peer ∷ word ∷ value ∷ []) []
row_of_line (Wrote peer word value) = row form.Wrote (peer ∷ word ∷ value ∷ []) []
row_of_line (Denied peer word) = row form.Denied (peer ∷ word ∷ []) []
row_of_line (Idle peer) = row form.Idle (peer ∷ []) []
row_of_line (Marked peer (mark.Publish number)) = row form.Publish (peer ∷ number ∷ []) []
row_of_line (Marked peer (mark.Nothing from)) = row form.Nothing (peer ∷ from ∷ []) []
row_of_line (Marked peer (mark.Got from number message)) = row form.Got (peer ∷ from ∷ number ∷ []) message
row_of_line (Marked peer (mark.Again from first second)) = row form.Again (peer ∷ from ∷ first ∷ second ∷ []) []
row_of_line (Marked peer (mark.Refuse from field value)) = row (refusal_form field) (peer ∷ value ∷ []) []
