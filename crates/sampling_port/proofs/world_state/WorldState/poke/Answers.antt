use Rattle.std.proofs.Common.{refl}
use Rattle.sampling_port.specs.EventRecords.{Wrote, Denied}
use Rattle.sampling_port.proofs.RecordedLines.{quiet_recorded, stored_recorded, may_true, may_false}
use Rattle.sampling_port.proofs.world_state.WorldState.poke.Goals as goal

pub returns-in-Ok-clause-after : goal.returns-in-Ok-clause-after
returns-in-Ok-clause-after c = λ front past after.
    rw (may_true c.args.self.now.region.shape c.args.peer c.args.word c.in-Ok.ensures.allowed)
    (stored_recorded c.record_line.result front past c.args.peer c.args.word c.args.value c.args.self.now _ _ c.in-Ok.ensures.written after (c.record_line.ensures.recorded front past (Wrote c.args.peer c.args.word c.args.value) (cc) after.recorded))

pub returns-in-Err-clause-after : goal.returns-in-Err-clause-after
returns-in-Err-clause-after c = λ front past after.
    rw (may_false c.args.self.now.region.shape c.args.peer c.args.word c.in-Err.ensures.denied.0, c.in-Err.ensures.unchanged)
    (quiet_recorded c.record_line-in-Err.result front past (Denied c.args.peer c.args.word) c.args.self.now _ (λ at before. refl) after (c.record_line-in-Err.ensures.recorded front past (Denied c.args.peer c.args.word) (cc) after.recorded))
