use Rattle.std.proofs.Common.{length}
use Rattle.line_format.proofs.forms.+read_numbers.Given as goal

abbrev pub decreases-read_numbers : goal.decreases-read_numbers
decreases-read_numbers l = length l.slots.now
