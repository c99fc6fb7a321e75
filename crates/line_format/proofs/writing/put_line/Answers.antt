use Rattle.std.proofs.Common.{refl}
use Rattle.line_format.specs.Forms.{pieces, spell}
use Rattle.line_format.proofs.WrittenFields.{spaced_first}
use Rattle.line_format.proofs.writing.put_line.Goals as goal

pub returns : goal.returns
returns c = rw (c.in_ok-push.ensures.items, c.in_ok-put_fields.ensures, spaced_first (spell (pieces c.args.slots.now) c.args.numbers.now c.args.bytes.now)) refl
