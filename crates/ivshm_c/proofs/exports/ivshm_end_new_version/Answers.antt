use Rattle.std.proofs.Common.{sym, ◌∙◌}
use Rattle.c_status.specs.declared.status.Status.TheVariants.{Done, HasEnd}
use Rattle.ivshm_c.proofs.AnswerCauses.{holds_one, new_one, none_made}
use Rattle.ivshm_c.proofs.exports.ivshm_end_new_version.Goals as goal

pub returns-in-Some : goal.returns-in-Some
returns-in-Some c =
    (HasEnd, c.number.ensures, holds_one c.args.found.now c.args.version c.args.peers c.args.me c.args.mtu c.args.vector _ _ c.in-Some.port.value c.in-Some.ensures.port c.put.ensures)

pub returns-in-Ok : goal.returns-in-Ok
returns-in-Ok c =
    (Done, c.number-in-Ok.ensures, new_one c.args.found.now c.args.version c.args.peers c.args.me c.args.mtu c.args.vector _ _ c.in-Ok.port.value c.in_default.ensures.port c.in-Ok.ensures.right c.in-Ok.ensures.made c.put-in-Ok.ensures)

pub returns-in-Err : goal.returns-in-Err
returns-in-Err c = (
  c.in-Err.status,
  c.number-in-Err.ensures,
  none_made c.args.found.now c.args.version c.args.peers c.args.me c.args.mtu c.args.vector _ _ c.in-Err.status c.in-Err.ensures.refused c.in_default.ensures.port
      (c.in_default.ensures.port ∙ sym c.in_default.ensures.empty),
)
