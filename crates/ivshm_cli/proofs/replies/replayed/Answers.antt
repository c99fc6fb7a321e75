use Rattle.std.proofs.Common.{ap}
use Rattle.record_text.proofs.SpelledIsRead.{is_answered}
use Rattle.ivshm_cli.specs.Forms.{record_fault}
use Rattle.ivshm_cli.proofs.replies.replayed.Goals as goal

pub returns-clause-accepted : goal.returns-clause-accepted
returns-clause-accepted c =
    let found = c.in-Ok.ensures.verdict in
    ap record_fault (is_answered (record { version = found.version; world = found.world; lines = found.lines }) c.args.bytes.now found.spelled)
