use Rattle.line_format.specs.Forms.{pieces, texts, numbers_of}
use Rattle.line_format.proofs.FormNumbers.{numbers_in_range, all_read}
use Rattle.line_format.proofs.forms.numbers_in.Goals as goal

pub returns-clause-limits : goal.returns-clause-limits
returns-clause-limits c =
    numbers_in_range (pieces c.args.slots.now) (texts c.args.fields.now) c.read_numbers.new.numbers.items
    (all_read (numbers_of (pieces c.args.slots.now) (texts c.args.fields.now)) c.new-numbers.result.items c.read_numbers.new.numbers.items c.new-numbers.ensures c.if-not-read_numbers.ensures)
