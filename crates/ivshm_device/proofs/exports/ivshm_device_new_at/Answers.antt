use Rattle.std.proofs.Common.{sym, ◌∙◌}
use Rattle.c_status.specs.declared.status.Status.TheVariants.{Done, HasDevice}
use Rattle.ivshm_device.proofs.AnswerCauses.{holds_one, new_one, none_made}
use Rattle.ivshm_device.proofs.exports.ivshm_device_new_at.Goals as goal

pub returns-in-Some : goal.returns-in-Some
returns-in-Some c = (HasDevice, c.number.ensures, holds_one c.args.world.now _ _ c.in-Some.state.value c.in-Some.ensures.state c.put.ensures)

pub returns-in-Ok : goal.returns-in-Ok
returns-in-Ok c = (Done, c.number-in-Ok.ensures, new_one c.args.world.now _ _ c.in-Ok.state.value c.in_default.ensures.state c.in-Ok.ensures.made c.put-in-Ok.ensures)

pub returns-in-Err : goal.returns-in-Err
returns-in-Err c = (
  c.in-Err.status,
  c.number-in-Err.ensures,
  none_made c.args.world.now _ _ c.in-Err.status c.in_default.ensures.state c.in-Err.ensures.refused (c.in_default.ensures.state ∙ sym c.in_default.ensures.empty),
)
