use Rattle.std.proofs.Common.{◌≡◌, ◌+◌, ◌≤◌, [], length, false}
use Rattle.line_format.specs.Forms.{cuts}
use Rattle.line_format.specs.Machine.{read_pieces}
use Rattle.record_text.specs.Judge.{is_whole, machine, reading}
use Rattle.record_text.specs.Drafts.{part_view}
use Rattle.record_text.proofs.ReadIsSpelled.{GoodPart}
use Rattle.record_text.proofs.reader.Reader.begin.Given as goal

-- The rest of the text gives the record of the text, and no line of the history was read.
abbrev pub invariant-loop-rest : goal.invariant-loop-rest
invariant-loop-rest l = record {
  comes : read_pieces machine (part_view l.draft) l.number (cuts 10 l.rest) ≡ reading l.bytes;
  within : l.number + length l.rest ≤ length l.bytes;
  good : GoodPart (part_view l.draft);
  goes_on : is_whole (part_view l.draft) ≡ false;
  none : l.draft.lines ≡ [];
}

abbrev pub decreases-loop-rest : goal.decreases-loop-rest
decreases-loop-rest l = length l.rest
