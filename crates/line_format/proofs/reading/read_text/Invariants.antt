use Rattle.std.proofs.Common.{◌≡◌, ◌+◌, ◌≤◌, length}
use Rattle.line_format.specs.Forms.{cuts}
use Rattle.line_format.specs.Machine.{read, read_pieces}
use Rattle.line_format.proofs.reading.read_text.Given as goal

-- The rest gives what the text gives.
abbrev pub invariant-loop-line : goal.invariant-loop-line
invariant-loop-line g l =
    (read_pieces g.D.TakeLines.machine (g.D.TakeLines.draft_view l.draft) l.number (cuts 10 l.rest) ≡ read g.D.TakeLines.machine (g.D.TakeLines.draft_view l.fn.draft) l.bytes)
    × (l.number + length l.rest ≤ length l.bytes)

abbrev pub decreases-loop-line : goal.decreases-loop-line
decreases-loop-line g l = length l.rest
