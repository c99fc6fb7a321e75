use Rattle.std.proofs.Common.{sym, ◌∙◌}
use Rattle.sampling_port.specs.EventRecords.{Wrote}
use Rattle.sampling_port.proofs.RecordedLines.{wrote_recorded}
use Rattle.sampling_port.proofs.world_state.WorldState.write.Goals as goal

pub returns-clause-after : goal.returns-clause-after
returns-clause-after c = λ front past after.
    wrote_recorded c.record_line.result front past c.args.peer c.args.word c.args.value c.args.self.now _ _ _ c.write.ensures.written (sym c.is_err.ensures.value ∙ c.if-is_err.false) after (c.record_line.ensures.recorded front past (Wrote c.args.peer c.args.word c.args.value) (cc) after.recorded)
