use Rattle.std.proofs.Common.{refl}
use Rattle.sampling_port.specs.Marks.{Publish, Got, Nothing, Again, Refuse}
use Rattle.sampling_port.specs.EventRecords.{Marked}
use Rattle.sampling_port.proofs.RecordedLines.{quiet_recorded}
use Rattle.sampling_port.proofs.world_state.WorldState.mark.Goals as goal

pub returns-in-Publish-clause-after : goal.returns-in-Publish-clause-after
returns-in-Publish-clause-after c = λ front past after.
    let line = Marked c.args.peer (Publish c.in-Publish.number) in
    rw c.in-Publish.is (quiet_recorded c.record_line.result front past line c.args.self.now _ (λ at before. refl) after (c.record_line.ensures.recorded front past line (cc) after.recorded))

pub returns-in-Got-clause-after : goal.returns-in-Got-clause-after
returns-in-Got-clause-after c = λ front past after.
    let line = Marked c.args.peer (Got c.args.from c.in-Got.number c.args.message.now) in
    rw c.in-Got.is (quiet_recorded c.record_line-in-Got.result front past line c.args.self.now _ (λ at before. refl) after (c.record_line-in-Got.ensures.recorded front past line (cc) after.recorded))

pub returns-in-Nothing-clause-after : goal.returns-in-Nothing-clause-after
returns-in-Nothing-clause-after c = λ front past after.
    let line = Marked c.args.peer (Nothing c.args.from) in
    rw c.in-Nothing.is (quiet_recorded c.record_line-in-Nothing.result front past line c.args.self.now _ (λ at before. refl) after (c.record_line-in-Nothing.ensures.recorded front past line (cc) after.recorded))

pub returns-in-Again-clause-after : goal.returns-in-Again-clause-after
returns-in-Again-clause-after c = λ front past after.
    let line = Marked c.args.peer (Again c.args.from c.in-Again.first c.in-Again.second) in
    rw c.in-Again.is (quiet_recorded c.record_line-in-Again.result front past line c.args.self.now _ (λ at before. refl) after (c.record_line-in-Again.ensures.recorded front past line (cc) after.recorded))

pub returns-in-Refuse-clause-after : goal.returns-in-Refuse-clause-after
returns-in-Refuse-clause-after c = λ front past after.
    let line = Marked c.args.peer (Refuse c.args.from c.in-Refuse.field c.in-Refuse.value) in
    rw c.in-Refuse.is (quiet_recorded c.record_line-in-Refuse.result front past line c.args.self.now _ (λ at before. refl) after (c.record_line-in-Refuse.ensures.recorded front past line (cc) after.recorded))
