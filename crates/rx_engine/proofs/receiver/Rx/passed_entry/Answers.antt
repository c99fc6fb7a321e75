use Rattle.std.proofs.Common.{◌≡◌, ◌%◌, ap, arith}
use Rattle.std.proofs.lemmas.Grind.{common_steps}
use Rattle.split_ring.specs.Layout.{size_of}
use Rattle.rx_engine.specs.Receiver.{is_open_at}
use Rattle.rx_engine.specs.Refinement.{CountsMatch}
use Rattle.rx_engine.proofs.ModularNumbers.{ring_parity}
use Rattle.rx_engine.proofs.receiver.Rx.passed_entry.Goals as goal

pub returns-in-Ok : goal.returns-in-Ok
returns-in-Ok c = record {
  step = (
    λ config end place refines.
        let counts : CountsMatch c.args.self.now end = refines.busy (ap is_open_at c.requires.place) in
        let parity : end.returned % 65536 % 2 ≡ end.returned % size_of c.self.inside.queue % 2 = ring_parity end.returned _ c.self.invariant.bounds.size_whole in
        grind (arith, common_steps),
    grind (arith, common_steps),
  );
  access = grind (arith, common_steps);
  count = grind (arith, common_steps);
  refused = λ none. absurd (cc);
  unchanged = λ none. absurd (cc);
  kept = grind (arith, common_steps);
}

pub returns-in-Err : goal.returns-in-Err
returns-in-Err c = record {
  step = tt;
  access = tt;
  count = tt;
  refused = λ none field config end place refines.
      let counts : CountsMatch c.args.self.now end = refines.busy (ap is_open_at c.requires.place) in
      let parity : end.returned % 65536 % 2 ≡ end.returned % size_of c.self.inside.queue % 2 = ring_parity end.returned _ c.self.invariant.bounds.size_whole in
      grind (arith, common_steps);
  unchanged = λ none. grind (arith, common_steps);
  kept = grind (arith, common_steps);
}
