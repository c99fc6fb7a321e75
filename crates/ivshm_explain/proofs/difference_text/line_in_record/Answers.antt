use Rattle.std.proofs.Common.{arith}
use Rattle.scenario_text.specs.Spelling.{world_of}
use Rattle.ivshm_explain.proofs.Rows.{row_count}
use Rattle.ivshm_explain.proofs.difference_text.line_in_record.Goals as goal

pub returns : goal.returns
returns c =
    let rows = row_count (world_of c.args.difference.now.trace.scenario) in
    omega (arith, rows, c.in-Some.ensures, c.peer_count.ensures, c.act_count.ensures)
