use Rattle.std.proofs.Common.{◌≡◌, ◌++◌, take, map, length}
use Rattle.std.specs.Prelude.{All}
use Rattle.line_format.specs.Rows.{text_of}
use Rattle.record_text.specs.OwnParts.{part_of}
use Rattle.record_text.specs.RunTable.{run_pieces_of}
use Rattle.record_text.specs.RunSpelling.{IsPart, rows_of_parts}
use Rattle.record_text.proofs.run_printing.put_parts.Given as goal

-- The parts so far.
abbrev pub invariant-loop-trace : goal.invariant-loop-trace
invariant-loop-trace l = record {
  put : l.out.items ≡ l.fn.out.items ++ text_of run_pieces_of (rows_of_parts (map part_of (take l.trace-index l.traces)));
  are : All IsPart (map part_of (take l.trace-index l.traces));
  count : l.count ≡ length (rows_of_parts (map part_of (take l.trace-index l.traces)));
}
