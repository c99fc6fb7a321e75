use Rattle.std.proofs.Common.{rules, ap, ◌∙◌, ℕ}
use Rattle.doorbell_irq.specs.DeviceRules.{bytes_after}
use Rattle.ivshm_device.specs.Windows.{read_at}
use Rattle.ivshm_device.specs.Answers.{window_answer}
use Rattle.ivshm_device.proofs.AnswerCauses.{done}
use Rattle.ivshm_device.proofs.calls.window_read.Goals as goal

pub returns-clause-value : goal.returns-clause-value
returns-clause-value c = done (window_answer c.args.peer c.args.access.now c.args.state.now) _ _ (search rules) (λ w events refines.
    ap (λ (v : ℕ). record c.args.access.now { value = v })
    (c.read_window-access.ensures w events refines
    ∙ ap (λ window. read_at w.wiring (bytes_after w events c.args.peer) window c.args.access.now.offset c.args.access.now.width) c.window_of-window.ensures))
