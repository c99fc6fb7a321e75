use Rattle.std.proofs.Common.{length}
use Rattle.line_format.proofs.forms.+hex_field.Given as goal

abbrev pub decreases-hex_field : goal.decreases-hex_field
decreases-hex_field l = length l.slots.now
