use Rattle.std.proofs.Common.{ap, length, length-drop, arith}
use Rattle.line_format.proofs.Digits.{at_most_20}
use Rattle.line_format.proofs.line_tail.LineTail.long_number.Goals as goal

pub write_digits-self-inside-requires : goal.write_digits-self-inside-requires
write_digits-self-inside-requires c =
    let few = at_most_20 c.args.number (omega arith) in
    let room = length-drop c.self.inside.start c.self.inside.bytes in (
      omega (arith, ap length c.self.view_is),
      omega (arith, ap length c.self.view_is),
    )

pub byte-requires : goal.byte-requires
byte-requires c =
    let few = at_most_20 c.args.number (omega arith) in
    let room = length-drop c.self.inside.start c.self.inside.bytes in
    let now = length-drop c.write_digits-self-inside.result c.write_digits-self-inside.new.buf in
    omega (arith, ap length c.self.view_is)

pub returns-clause-short : goal.returns-clause-short
returns-clause-short c =
    let few = at_most_20 c.args.number (omega arith) in
    let room = length-drop c.self.inside.start c.self.inside.bytes in
    let now = length-drop c.write_digits-self-inside.result c.write_digits-self-inside.new.buf in
    omega (arith, ap length c.self.view_is, ap length c.byte.ensures)
