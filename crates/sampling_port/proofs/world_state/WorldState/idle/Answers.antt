use Rattle.std.proofs.Common.{refl}
use Rattle.sampling_port.specs.EventRecords.{Idle}
use Rattle.sampling_port.proofs.RecordedLines.{quiet_recorded}
use Rattle.sampling_port.proofs.world_state.WorldState.idle.Goals as goal

pub returns-clause-after : goal.returns-clause-after
returns-clause-after c = λ front past after.
    quiet_recorded c.record_line.result front past (Idle c.args.peer) c.args.self.now _ (λ at before. refl) after (c.record_line.ensures.recorded front past (Idle c.args.peer) (cc) after.recorded)
