use Rattle.std.proofs.Common.{rules}
use Rattle.ivshm_device.specs.Answers.{access_answer}
use Rattle.ivshm_device.proofs.AnswerCauses.{done}
use Rattle.ivshm_device.proofs.calls.config_write.Goals as goal

pub returns-in-Ok-clause-step : goal.returns-in-Ok-clause-step
returns-in-Ok-clause-step c = done (access_answer c.args.peer c.args.offset c.args.width c.args.state.now) _ _ (search rules) c.in-Ok.ensures.written
