use Rattle.std.proofs.Common.{◌∙◌, ap, arith, length, inl, inr}
use Rattle.link_model.proofs.PlayedActs.{played_on}
use Rattle.link_model.proofs.expected_run.ExpectedRun.settle.Goals as goal

pub play_next-requires : goal.play_next-requires
play_next-requires c =
    let some = c.loop-self.invariant.some in
    let along = c.drain.ensures.along some.0 some.1 in
    (along.output, along.played)

pub returns-then-not-branch-clause-on : goal.returns-then-not-branch-clause-on
returns-then-not-branch-clause-on c = λ lines along.
    let cleared = c.drain.ensures.along lines (c.loop-self.invariant.along lines along) in
    record {
      along = played_on lines c.drain.new.self c.play_next.new.self cleared c.drain.ensures.passed c.in_ok-play_next.ensures.passed (c.in_ok-play_next.ensures.played cleared.output cleared.played);
      settled = inr (c.in_ok-play_next.ensures.over c.if-not-branch.true);
    }

pub returns-clause-on : goal.returns-clause-on
returns-clause-on c = λ lines along.
    let on = c.loop-self.invariant.along lines along in
    let passed = on.passed in
    let waits = c.loop-self-test.false in
    record { along = on; settled = inl (omega (arith, ap length c.lines.ensures)) }

pub loop-self-preserved : goal.loop-self-preserved
loop-self-preserved c =
    let some = c.loop-self.invariant.some in
    let cleared = c.drain.ensures.along some.0 some.1 in
    record {
      along = λ lines along.
          let drained = c.drain.ensures.along lines (c.loop-self.invariant.along lines along) in
          played_on lines c.drain.new.self c.play_next.new.self drained c.drain.ensures.passed c.in_ok-play_next.ensures.passed (c.in_ok-play_next.ensures.played drained.output drained.played);
      some = (some.0, played_on some.0 c.drain.new.self c.play_next.new.self cleared c.drain.ensures.passed c.in_ok-play_next.ensures.passed (c.in_ok-play_next.ensures.played cleared.output cleared.played));
      scenario = c.in_ok-play_next.ensures.scenario ∙ c.drain.ensures.scenario ∙ c.loop-self.invariant.scenario;
      version = c.in_ok-play_next.ensures.version ∙ c.drain.ensures.version ∙ c.loop-self.invariant.version;
    }
