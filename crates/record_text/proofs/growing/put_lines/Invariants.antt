use Rattle.std.proofs.Common.{◌≡◌, ◌++◌, take, map}
use Rattle.line_format.specs.Rows.{text_of}
use Rattle.record_text.specs.Table.{pieces_of}
use Rattle.record_text.specs.LineRows.{row_of_line}
use Rattle.record_text.specs.Spelling.{AllFit}
use Rattle.record_text.proofs.growing.put_lines.Given as goal

pub record IsPut (Text Fit : Type 0) : Type 0 where
  pub put : Text
  pub fits : Fit

abbrev pub invariant-loop-line : goal.invariant-loop-line
invariant-loop-line l = IsPut (l.out.items ≡ l.fn.out.items ++ text_of pieces_of (map row_of_line (take l.line-index l.lines))) (AllFit (take l.line-index l.lines))
