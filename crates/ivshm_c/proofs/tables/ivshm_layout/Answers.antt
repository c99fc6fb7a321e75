use Rattle.ivshm_c.specs.Sizes.{refused}
use Rattle.c_status.specs.declared.status.Status.TheVariants.{Done}
use Rattle.ivshm_c.proofs.AnswerCauses.{words_are_those}
use Rattle.ivshm_c.proofs.tables.ivshm_layout.Goals as goal

pub returns-in-Ok : goal.returns-in-Ok
returns-in-Ok c =
    let reported = c.in-Ok.ensures in
    (Done, c.number.ensures, words_are_those c.args.found.now c.args.peers c.args.mtu c.args.layout.now _ _ _ reported.shape.0 reported.sizes reported.queue.0 reported.queue.1 c.layout_of.ensures)

pub returns-in-Err : goal.returns-in-Err
returns-in-Err c = (c.in-Err.status, c.number-in-Err.ensures, refused c.in-Err.status c.in-Err.ensures.fault)
