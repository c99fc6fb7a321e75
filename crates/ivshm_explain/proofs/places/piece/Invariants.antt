use Rattle.std.proofs.Common.{◌≡◌, []}
use Rattle.std.specs.Prelude.{slice_index_or}
use Rattle.line_format.specs.Forms.{cuts}
use Rattle.ivshm_explain.proofs.places.piece.Given as goal

-- The wanted piece of the bytes left.
abbrev pub invariant-loop-left : goal.invariant-loop-left
invariant-loop-left l = slice_index_or (cuts 10 l.bytes) l.before [] ≡ slice_index_or (cuts 10 l.rest) l.left []

abbrev pub decreases-loop-left : goal.decreases-loop-left
decreases-loop-left l = l.left
