use Rattle.std.proofs.Common.{ap, arith}
use Rattle.std.proofs.lemmas.Grind.{common_steps}
use Rattle.rx_engine.specs.Receiver.{is_open_at}
use Rattle.rx_engine.specs.Refinement.{CountsMatch}
use Rattle.rx_engine.proofs.receiver.Rx.took_high.Goals as goal

pub returns-in-Err-clause-steps : goal.returns-in-Err-clause-steps
returns-in-Err-clause-steps c = λ config end place refines.
    let counts : CountsMatch c.args.self.now end = refines.busy (ap is_open_at c.requires.place) in
    grind (arith, common_steps)
