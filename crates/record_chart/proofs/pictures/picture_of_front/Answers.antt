use Rattle.std.proofs.Common.{◌-◌, length, ap, arith, length-take}
use Rattle.scenario_text.specs.Spelling.{world_of}
use Rattle.record_chart.proofs.StablePictures.{more_left_out}
use Rattle.record_chart.proofs.pictures.picture_of_front.Goals as goal

pub returns : goal.returns
returns c =
    let front = c.args.trace.now.lines in
    let size = ap length c.items.ensures in
    more_left_out (world_of c.args.trace.now.scenario) front c.args.first c.args.last c.in_ok-picture.picture c.in_ok-picture.ensures c.args.others c.in-Some.left_out
    (omega (arith, c.if-picture-eq0.false)) (omega (arith, c.if-last-kept.false, size))
    (λ others number. omega (arith, c.in-Some.ensures, c.min.ensures, length-take (c.args.last - length front) others, number, size))
