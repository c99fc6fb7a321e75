use Rattle.std.proofs.Common.{sym, refl}
use Rattle.line_format.specs.Forms.{fields_of}
use Rattle.line_format.proofs.FormsOfRows.{no_form}
use Rattle.record_text.specs.Table.{pieces_of, all_forms}
use Rattle.record_text.specs.Judge.{history_step}
use Rattle.record_text.proofs.FormsAreTable.{is_table}
use Rattle.record_text.proofs.taking.read_by_table.Goals as goal

pub returns-in_default-clause-has_content : goal.returns-in_default-clause-has_content
unfolding history_step
returns-in_default-clause-has_content c = λ before. rw (sym c.is_printable.ensures, c.if-not-is_printable.false, no_form pieces_of all_forms is_table (fields_of c.args.line.now) c.in_default.ensures) refl
