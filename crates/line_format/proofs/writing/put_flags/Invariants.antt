use Rattle.std.proofs.Common.{◌≡◌, ◌++◌, take}
use Rattle.line_format.specs.Rows.{flag_row, numbered, text_of}
use Rattle.line_format.proofs.writing.put_flags.Given as goal

abbrev pub invariant-loop-number : goal.invariant-loop-number
invariant-loop-number g l = l.out.items ≡ l.fn.out.items ++ text_of g.G.Grammar.rules.pieces_of (numbered (flag_row l.set l.clear) 0 (take l.number l.flags))
