use Rattle.port_text.specs.Spelling.{world_of}
use Rattle.port_text.proofs.PrintedParts.{parts}
use Rattle.port_text.proofs.printing.put_scenario.Goals as goal

pub returns : goal.returns
returns c =
    let all = parts c.args.out.now.items (world_of c.args.scenario.now) in
    rw (c.in_ok-put-2.ensures, c.in_ok-put_rows.ensures, c.items-2.ensures, c.in_ok-put.ensures, c.in_ok-put_flags.ensures, c.items.ensures, c.in_ok-put_sizes.ensures) all
