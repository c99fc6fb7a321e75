use Rattle.std.proofs.Common.{ap, subst}
use Rattle.scenario_text.specs.Scenario.{World}
use Rattle.scenario_text.specs.Spelling.{world_of}
use Rattle.record_text.specs.RunSpelling.{IsRunSpelling}
use Rattle.ivshm_cli.proofs.runs.run.Goals as goal

pub returns-clause-run : goal.returns-clause-run
returns-clause-run g c =
    let parts = c.in_ok-trace.trace.peers in
    let text = c.in_ok-text.text.items in
    record {
      spells = record {
        world = world_of c.in_ok-scenario.scenario;
        spelled = c.in_ok-scenario.ensures.spelled;
        running = c.in_ok-scenario.ensures.running;
      };
      parts = parts;
      whole = c.run_peers.ensures.whole;
      run = c.in_ok-trace.ensures.run;
      printed = subst (λ (w : World). IsRunSpelling (record { world = w; parts = parts }) text) (ap world_of c.in_ok-trace.ensures.scenario) c.in_ok-text.ensures.text;
    }
