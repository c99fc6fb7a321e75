use Rattle.std.proofs.Common.{rules}
use Rattle.ivshm_device.specs.Answers.{access_answer}
use Rattle.ivshm_device.proofs.AnswerCauses.{done}
use Rattle.ivshm_device.proofs.calls.config_read.Goals as goal

pub returns-in-Ok-clause-value : goal.returns-in-Ok-clause-value
returns-in-Ok-clause-value c = done (access_answer c.args.peer c.args.offset c.args.width c.args.state.now) _ _ (search rules) c.in-Ok.ensures.value
