use Rattle.std.proofs.Common.{◌≡◌, ◌+◌, ◌-◌, ◌≤◌, suc, arith}
use Rattle.std.proofs.lemmas.Grind.{common_steps}
use Rattle.split_ring.specs.declared.sizes.TheConstants.{SHORTEST_FRAME}
use Rattle.call_grammar.specs.Words.{words_for}
use Rattle.rx_engine.proofs.receiver.Rx.passed_flags.Goals as goal

pub returns-in-Ok : goal.returns-in-Ok
returns-in-Ok c = record {
  step = (
    λ config end place refines.
        let least : SHORTEST_FRAME ≤ c.args.bytes = grind (arith, common_steps) in
        let some : words_for c.args.bytes ≡ suc (words_for c.args.bytes - (0 + 1)) = omega arith in
        grind (arith, common_steps),
    grind (arith, common_steps),
  );
  access = grind (arith, common_steps);
  count = grind (arith, common_steps);
  refused = λ none. absurd (cc);
  unchanged = λ none. absurd (cc);
  kept = grind (arith, common_steps);
}
