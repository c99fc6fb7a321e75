use Rattle.std.proofs.Common.{sym, ◌∙◌}
use Rattle.scenario_text.proofs.OneMoreAct.{no_flags, no_autos, no_storms}
use Rattle.scenario_text.proofs.LastActs.{no_turns}
use Rattle.scenario_text.proofs.RunningForm.{none_last, no_settings}
use Rattle.scenario_text.proofs.running.Before.nothing.Goals as goal

pub returns : goal.returns
returns c = record {
  autos = λ p. no_flags p ∙ sym (no_autos p);
  storms = λ p. no_flags p ∙ sym (no_storms p);
  turns = λ p. no_flags p ∙ sym (no_turns p);
  resets = λ p. no_flags p ∙ sym (none_last p);
  settings = λ p. no_flags p ∙ sym (no_settings p);
}
