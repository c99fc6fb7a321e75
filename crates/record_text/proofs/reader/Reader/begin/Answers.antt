use Rattle.std.proofs.Common.{◌≡◌, ◌+◌, true, false, arith}
use Rattle.line_format.specs.declared.reading.TextFault.TheVariants as texts
use Rattle.line_format.proofs.ReadingLoop.{no_end, wrong_line, good_line}
use Rattle.scenario_text.specs.Drafts.{draft_view}
use Rattle.record_text.specs.Judge.{machine, reading}
use Rattle.record_text.specs.Drafts.{part_view}
use Rattle.record_text.proofs.ReadIsSpelled.{after}
use Rattle.record_text.proofs.ReaderContinues.{refused, leads, stands_before}
use Rattle.record_text.proofs.reader.Reader.begin.Goals as goal

pub returns-in_default-clause-refused : goal.returns-in_default-clause-refused
returns-in_default-clause-refused c =
    let part = part_view c.loop-rest.draft in
    refused c.args.bytes.now texts.NoEnd (no_end machine part c.loop-rest.number c.loop-rest.rest.now (reading c.args.bytes.now) c.in_default.ensures.cuts c.loop-rest.invariant.comes)

pub returns-in-Err-Wrong-clause-refused : goal.returns-in-Err-Wrong-clause-refused
returns-in-Err-Wrong-clause-refused c =
    let part = part_view c.loop-rest.draft in
    let wrong = wrong_line machine part c.loop-rest.number c.loop-rest.rest.now c.in-Some.line.now c.in-Some.more.now c.in-Err-Wrong.cause (reading c.args.bytes.now) c.in-Some.ensures.cuts (rw c.in-Err-Wrong.field-0-is at c.in-Err-Wrong.ensures) c.loop-rest.invariant.comes in
    rw c.at.ensures (rw c.in-Err-Wrong.cause-is (refused c.args.bytes.now (texts.At c.in-Err-Wrong.cause (c.loop-rest.number + 1)) wrong))

pub loop-rest-preserved : goal.loop-rest-preserved
loop-rest-preserved c =
    let old = c.loop-rest.draft in
    let now = c.take.new.self in
    let part = part_view old in
    let before = stands_before old.position old.version (draft_view old.head) old.lines c.loop-rest.invariant.goes_on (λ same. let no : true ≡ false = rw same at c.loop-rest-test.ensures in cc) in
    let led = leads old.position old.version (draft_view old.head) old.lines c.in-Some.line.now now.position now.version (draft_view now.head) now.lines before now.fresh c.in-Ok.ensures in
    record {
      comes = good_line machine part (part_view now) c.loop-rest.number c.loop-rest.rest.now c.in-Some.line.now c.in-Some.more.now (reading c.args.bytes.now) c.in-Some.ensures.cuts c.in-Ok.ensures led.goes_on c.loop-rest.invariant.comes;
      within = omega (arith, c.in-Some.ensures.shorter, c.loop-rest.invariant.within);
      good = (after part c.in-Some.line.now (part_view now) c.loop-rest.invariant.good c.in-Ok.ensures).good;
      goes_on = led.goes_on;
      none = led.none;
    }
