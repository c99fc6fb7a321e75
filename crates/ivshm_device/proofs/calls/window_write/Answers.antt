use Rattle.std.proofs.Common.{ℕ, ◌≡◌, List, ◌∷◌, rules, sym, subst, ap, ◌∙◌, ◌++◌}
use Rattle.doorbell_irq.specs.Events.{Devices, Event, RegisterWritten}
use Rattle.doorbell_irq.specs.DeviceRules.{effect_of}
use Rattle.doorbell_irq.specs.Refinement.{Refines}
use Rattle.ivshm_device.specs.declared.crossing.Effect.{Effect}
use Rattle.ivshm_device.specs.declared.device_state.DeviceState.{DeviceState}
use Rattle.c_status.specs.declared.status.Status.TheVariants.{Done}
use Rattle.ivshm_device.specs.Crossing.{CrossesEffect}
use Rattle.ivshm_device.specs.Windows.{window_of, low_word, page_events, page_effect, events_of, effect_at}
use Rattle.ivshm_device.specs.Answers.{peer_answer, window_answer, Acts}
use Rattle.ivshm_device.proofs.AnswerCauses.{done, undone}
use Rattle.ivshm_device.proofs.calls.window_write.Goals as goal

-- A word that is written to the register page.
word_written : (peer offset value word : ℕ) (old new : DeviceState) (before after : Effect) (window width : ℕ) → window ≡ 1 → width ≡ 4 → word ≡ low_word value →
    peer_answer peer old ≡ Done → Acts peer (RegisterWritten peer offset word) before after old new →
    (w : Devices) (events : List Event) → Refines w events old.device →
    Refines w (events_of peer (window_of window) offset width value ++ events) new.device × CrossesEffect (effect_at w events peer (window_of window) offset width value) after
word_written peer offset value word old new before after window width is_page is_word is_low is_done acts w events refines =
    let step = undone (peer_answer peer old) _ _ is_done acts in
    subst (λ (n : ℕ). Refines w (events_of peer (window_of n) offset width value ++ events) new.device × CrossesEffect (effect_at w events peer (window_of n) offset width value) after) (sym is_page)
    (subst (λ (n : ℕ). Refines w (page_events peer offset n value ++ events) new.device × CrossesEffect (page_effect w events peer offset n value) after) (sym is_word)
    (subst (λ (v : ℕ). Refines w (RegisterWritten peer offset v ∷ events) new.device × CrossesEffect (effect_of w events (RegisterWritten peer offset v)) after) is_low
    (step.0 w events refines, step.1 w events refines)))

pub returns-clause-step : goal.returns-clause-step
returns-clause-step c = done (window_answer c.args.peer c.args.access.now c.args.state.now) _ _ (search rules) (λ w events refines. (
  subst (λ window. Refines w (events_of c.args.peer window c.args.access.now.offset c.args.access.now.width c.args.access.now.value ++ events) c.write_window-effect.new.devices)
      c.window_of-window.ensures (c.write_window-effect.ensures.refines w events refines),
  subst (λ effect. CrossesEffect effect c.cross_effect.new.crossed)
      (c.write_window-effect.ensures.effect w events refines
      ∙ ap (λ window. effect_at w events c.args.peer window c.args.access.now.offset c.args.access.now.width c.args.access.now.value) c.window_of-window.ensures)
      c.cross_effect.ensures,
))

pub returns-then-access-eq4-clause-step : goal.returns-then-access-eq4-clause-step
returns-then-access-eq4-clause-step c = done (window_answer c.args.peer c.args.access.now c.args.state.now) _ _ (search rules)
    (word_written c.args.peer c.args.access.now.offset c.args.access.now.value c.low_word-word.result c.args.state.now c.register_write.new.state c.args.crossed.now
    c.register_write.new.crossed c.args.access.now.window c.args.access.now.width c.if-access-eq-REGISTER_PAGE.true c.if-access-eq4.true c.low_word-word.ensures (search rules)
    c.register_write.ensures.step)
