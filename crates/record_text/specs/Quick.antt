-- A line in its one spelling.
use Rattle.std.specs.Prelude.{◌≡◌, ℕ, true, List}
use Rattle.line_format.specs.Forms.{line_of}
use Rattle.line_format.specs.Rows.{fields_of_row}
use Rattle.lawful_history.specs.declared.line.Line.{Line}
use Rattle.lawful_history.specs.Frames.{has_frame}
use Rattle.record_text.specs.Table.{pieces_of}
use Rattle.record_text.specs.LineRows.{row_of_line}
use Rattle.record_text.specs.Spelling.{Fits}

-- The bytes are the history line without its newline.
pub record IsLineOf (line : Line) (bytes : List ℕ) : Type 0 where
  pub text : bytes ≡ line_of (fields_of_row pieces_of (row_of_line line))
  pub fits : Fits line
  pub framed : has_frame line ≡ true
