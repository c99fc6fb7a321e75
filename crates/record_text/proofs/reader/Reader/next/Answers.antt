use Rattle.std.proofs.Common.{◌+◌, [], ◌∷◌, arith, length-append}
use Rattle.std.proofs.lemmas.Grind.{common_steps}
use Rattle.line_format.specs.declared.reading.TextFault.TheVariants as texts
use Rattle.line_format.proofs.ReadingLoop.{no_end}
use Rattle.record_text.specs.declared.faults.RecordCause.TheVariants.{BadCount}
use Rattle.record_text.specs.Judge.{InHistory, machine, reading}
use Rattle.record_text.proofs.ReaderContinues.{refused, is_record, wrong_there, one_more, ends_there, goes_on_after, right_count, wrong_count}
use Rattle.record_text.proofs.reader.Reader.next.Goals as goal

pub returns-in_default-clause-reads : goal.returns-in_default-clause-reads
returns-in_default-clause-reads c = λ bytes version world lines is.
    refused bytes texts.NoEnd (no_end machine (InHistory version world lines) c.args.self.now.number c.args.self.now.rest.now (reading bytes) c.in_default.ensures.cuts is.comes)

pub returns-in-Err-Wrong-clause-reads : goal.returns-in-Err-Wrong-clause-reads
returns-in-Err-Wrong-clause-reads c = λ bytes version world lines is.
    let wrong = wrong_there bytes version world lines c.args.self.now.number c.args.self.now.rest.now c.in-Some.line.now c.in-Some.more.now is.comes c.in-Some.ensures.cuts c.in-Err-Wrong.cause (rw c.in-Err-Wrong.field-0-is at (c.in-Err-Wrong.ensures.has_content lines)) in
    rw c.at.ensures (rw c.in-Err-Wrong.cause-is (refused bytes (texts.At c.in-Err-Wrong.cause (c.args.self.now.number + 1)) wrong))

pub returns-then-kept-found-clause-reads : goal.returns-then-kept-found-clause-reads
returns-then-kept-found-clause-reads c = λ bytes version world lines is.
    let number = c.args.self.now.number in
    let count = wrong_count lines c.in-Ok-Count.kept c.args.self.now.count _ (rw c.in-Ok-Count.field-0-is at (c.in-Ok-Count.ensures.has_content lines)) is.count c.if-kept-found.true in
    let wrong = wrong_there bytes version world lines number c.args.self.now.rest.now c.in-Some.line.now c.in-Some.more.now is.comes c.in-Some.ensures.cuts (BadCount c.in-Ok-Count.kept c.args.self.now.count) count in
    refused bytes (texts.At (BadCount c.in-Ok-Count.kept c.args.self.now.count) (number + 1)) wrong

pub returns-then-not-is_empty-clause-reads : goal.returns-then-not-is_empty-clause-reads
returns-then-not-is_empty-clause-reads c = λ bytes version world lines is.
    let number = c.args.self.now.number in
    let count = right_count lines c.in-Ok-Count.kept c.args.self.now.count _ (rw c.in-Ok-Count.field-0-is at (c.in-Ok-Count.ensures.has_content lines)) is.count c.if-kept-found.false in
    let after = goes_on_after bytes version world lines number c.args.self.now.rest.now c.in-Some.line.now c.in-Some.more.now is.comes c.in-Some.ensures.cuts count (grind (arith, common_steps)) in
    refused bytes (texts.After (number + 2)) after

pub returns-else-not-is_empty-clause-reads : goal.returns-else-not-is_empty-clause-reads
returns-else-not-is_empty-clause-reads c = λ bytes version world lines is.
    let count = right_count lines c.in-Ok-Count.kept c.args.self.now.count _ (rw c.in-Ok-Count.field-0-is at (c.in-Ok-Count.ensures.has_content lines)) is.count c.if-kept-found.false in
    (is_record bytes version world lines (ends_there bytes version world lines c.args.self.now.number c.args.self.now.rest.now c.in-Some.line.now c.in-Some.more.now is.comes c.in-Some.ensures.cuts count (grind (arith, common_steps))), is.count)

pub returns-in-Ok-Line-clause-reads : goal.returns-in-Ok-Line-clause-reads
returns-in-Ok-Line-clause-reads c = λ bytes version world lines is. (
  record {
    comes = one_more bytes version world lines c.args.self.now.number c.args.self.now.rest.now c.in-Some.line.now c.in-Some.more.now is.comes c.in-Some.ensures.cuts c.in-Ok-Line.found (rw c.in-Ok-Line.field-0-is at (c.in-Ok-Line.ensures.has_content lines));
    count = omega (arith, is.count, length-append lines (c.in-Ok-Line.found ∷ []));
  },
  rw c.in-Ok-Line.field-0-is at c.in-Ok-Line.ensures.frames,
)
