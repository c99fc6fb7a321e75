use Rattle.call_grammar.proofs.FieldsAreReadOnce.{distinct}
use Rattle.call_grammar.proofs.fields_are_read_once.Goals as goal

pub returns : goal.returns
returns c = distinct
