use Rattle.std.proofs.Common.{◌≡◌, length, sym, ◌∙◌, arith}
use Rattle.std.proofs.lemmas.Bool.{le-ltb}
use Rattle.std.proofs.lemmas.List.{length-take}
use Rattle.ivshm_c.proofs.AnswerCauses.{frame_is_published, frame_is_left}
use Rattle.ivshm_c.proofs.calls.publish.Goals as goal

pub returns-in-Some-clause-step : goal.returns-in-Some-clause-step
returns-in-Some-clause-step c =
    let sized : length c.publish.new.tail ≡ 20 = omega (arith, c.publish.ensures.sized, length-take 20 c.args.room.now, c.if-room-le19.false) in
    frame_is_published c.args.port.now c.publish.new.self c.gone_on.new.port c.args.made.now c.publication_crossed.result c.args.room.now c.publish.new.tail c.args.access.now c.gone_on.result c.in-Some.published (sym c.busy.ensures.value ∙ c.if-not-busy.false)
    (le-ltb _ _ (omega (arith, c.if-room-le19.false))) sized c.publication_crossed.ensures c.in-Some.ensures.steps.0 c.in-Some.ensures.steps.1 c.gone_on.ensures

pub returns-in-None-clause-step : goal.returns-in-None-clause-step
returns-in-None-clause-step c =
    let same = c.publish.ensures.unchanged c.in-None.is in
    frame_is_left c.args.port.now c.publish.new.self c.args.made.now c.args.room.now c.publish.new.tail c.args.access.now (sym c.busy.ensures.value ∙ c.if-not-busy.false) (c.publish.ensures.other c.in-None.is) same.0 same.1
