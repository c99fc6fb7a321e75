use Rattle.std.proofs.Common.{◌≡◌, ◌++◌, take, map}
use Rattle.line_format.specs.Rows.{text_of}
use Rattle.line_format.proofs.writing.put_rows.Given as goal

abbrev pub invariant-loop-value : goal.invariant-loop-value
invariant-loop-value r l = l.out.items ≡ l.fn.out.items ++ text_of r.R.HasRow.pieces_of (map r.R.HasRow.row_of (take l.value-index l.values))
