use Rattle.std.proofs.Common.{◌∙◌, ap, refl, arith, length, inl, inr}
use Rattle.link_model.proofs.PlayedActs.{played_on}
use Rattle.link_model.proofs.expected_run.ExpectedRun.play_part.Goals as goal

pub loop-self-init : goal.loop-self-init
loop-self-init c = record {
  along = λ lines along. along;
  some = (c.requires.along.0, c.drain.ensures.along c.requires.along.0 c.requires.along.1);
  none = c.drain.ensures.passed;
  scenario = refl;
  version = refl;
}

pub play_next-requires : goal.play_next-requires
play_next-requires c =
    let along = c.loop-self.invariant.some.1 in
    (along.output, along.played)

pub returns-then-not-branch-clause-on : goal.returns-then-not-branch-clause-on
returns-then-not-branch-clause-on c = λ lines along.
    let so_far = c.loop-self.invariant.along lines (c.drain.ensures.along lines along) in
    record {
      along = played_on lines c.loop-self.self c.play_next.new.self so_far c.loop-self.invariant.none c.in_ok-play_next.ensures.passed (c.in_ok-play_next.ensures.played so_far.output so_far.played);
      settled = inr (c.in_ok-play_next.ensures.over c.if-not-branch.true);
    }

pub returns-clause-on : goal.returns-clause-on
returns-clause-on c = λ lines along.
    let so_far = c.loop-self.invariant.along lines (c.drain.ensures.along lines along) in
    record { along = so_far; settled = inl (omega (arith, ap length c.lines.ensures, c.loop-self-test.false, c.loop-self.invariant.none)) }

pub loop-self-preserved : goal.loop-self-preserved
loop-self-preserved c =
    let some = c.loop-self.invariant.some in
    record {
      along = λ lines along.
          let so_far = c.loop-self.invariant.along lines along in
          played_on lines c.loop-self.self c.play_next.new.self so_far c.loop-self.invariant.none c.in_ok-play_next.ensures.passed (c.in_ok-play_next.ensures.played so_far.output so_far.played);
      some = (some.0, played_on some.0 c.loop-self.self c.play_next.new.self some.1 c.loop-self.invariant.none c.in_ok-play_next.ensures.passed (c.in_ok-play_next.ensures.played some.1.output some.1.played));
      none = c.in_ok-play_next.ensures.passed ∙ c.loop-self.invariant.none;
      scenario = c.in_ok-play_next.ensures.scenario ∙ c.loop-self.invariant.scenario;
      version = c.in_ok-play_next.ensures.version ∙ c.loop-self.invariant.version;
    }
