use Rattle.std.proofs.Common.{length, ◌≡◌, ◌++◌, ◌≤◌}
use Rattle.line_format.specs.Forms.{texts, fields_of}
use Rattle.line_format.proofs.forms.fields.Given as goal

abbrev pub invariant-loop-field : goal.invariant-loop-field
invariant-loop-field l = (texts l.fields.items ++ fields_of l.rest ≡ fields_of l.line) × (length l.fields.items ≤ 5)

abbrev pub decreases-loop-field : goal.decreases-loop-field
decreases-loop-field l = length l.rest
