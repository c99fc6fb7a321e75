use Rattle.trace_replay.proofs.TextAndHistory.{nothing_read}
use Rattle.trace_replay.proofs.replay_text.Goals as goal

pub pass_alike-requires : goal.pass_alike-requires
pass_alike-requires c = (
  c.args.bytes.now,
  nothing_read c.args.bytes.now c.in_ok-version.version c.in_ok-version.scenario c.in-Ok.expected_run c.in_ok-version.reader c.in_ok-version.ensures.begun c.in-Ok.ensures,
)

pub judge-requires : goal.judge-requires
judge-requires c = (
  c.args.bytes.now,
  c.in-Ok-pass_alike.ensures c.args.bytes.now
      (nothing_read c.args.bytes.now c.in_ok-version.version c.in_ok-version.scenario c.in-Ok.expected_run c.in_ok-version.reader c.in_ok-version.ensures.begun c.in-Ok.ensures),
)

pub returns-clause-verdict : goal.returns-clause-verdict
returns-clause-verdict c =
    c.judge.ensures.verdict c.args.bytes.now
    (c.in-Ok-pass_alike.ensures c.args.bytes.now
    (nothing_read c.args.bytes.now c.in_ok-version.version c.in_ok-version.scenario c.in-Ok.expected_run c.in_ok-version.reader c.in_ok-version.ensures.begun c.in-Ok.ensures))

pub returns-clause-refused : goal.returns-clause-refused
returns-clause-refused c =
    c.judge.ensures.refused c.args.bytes.now
    (c.in-Ok-pass_alike.ensures c.args.bytes.now
    (nothing_read c.args.bytes.now c.in_ok-version.version c.in_ok-version.scenario c.in-Ok.expected_run c.in_ok-version.reader c.in_ok-version.ensures.begun c.in-Ok.ensures))
