use Rattle.std.proofs.Common.{◌≡◌, ◌++◌, take, map}
use Rattle.line_format.specs.Rows.{text_of}
use Rattle.record_text.specs.RunTable.{run_pieces_of}
use Rattle.record_text.specs.RunSpelling.{own_row}
use Rattle.record_text.specs.Spelling.{AllFit}
use Rattle.record_text.proofs.run_printing.put_own_lines.Given as goal

-- The lines so far.
abbrev pub invariant-loop-line : goal.invariant-loop-line
invariant-loop-line l = record { put : l.out.items ≡ l.fn.out.items ++ text_of run_pieces_of (map own_row (take l.line-index l.lines)); fits : AllFit (take l.line-index l.lines) }
