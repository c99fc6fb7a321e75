use Rattle.std.proofs.Common.{sym, refl}
use Rattle.line_format.specs.Forms.{fields_of}
use Rattle.line_format.specs.Grammar.{step}
use Rattle.line_format.proofs.FormsOfRows.{no_form_of_few}
use Rattle.line_format.proofs.grammar.take_line.Goals as goal

pub returns-in_default : goal.returns-in_default
unfolding step
returns-in_default g c =
    rw (sym c.is_printable.ensures, c.if-not-is_printable.false, no_form_of_few g.G.Grammar.rules.pieces_of g.G.Grammar.rules.forms g.met.G.Grammar.few (fields_of c.args.line.now) c.in_default.ensures, c.cause-in_default.ensures) refl
