use Rattle.std.proofs.Common.{ℕ, List, ◌≡◌, ◌∙◌, ap, refl}
use Rattle.scenario_text.specs.Scenario.{World}
use Rattle.scenario_text.specs.Spelling.{world_of}
use Rattle.scenario_text.specs.Loads.{load_world}
use Rattle.scenario_text.proofs.LoadIsScenario.{load_is_world}
use Rattle.lawful_history.specs.declared.line.Line.{Line}
use Rattle.lawful_history.specs.Sessions.{recorded_in}
use Rattle.lawful_history.specs.History.{history}
use Rattle.ivshm_cli.specs.Counted.{none_of}
use Rattle.ivshm_cli.proofs.Counted.{counted}
use Rattle.ivshm_cli.proofs.replies.loaded.Goals as goal

-- the word that is watched is that of each load
same_word : (some count : ℕ) → none_of (load_world some) ≡ none_of (load_world count)
unfolding load_world
same_word some count = refl

pub returns : goal.returns
returns c =
    let count = c.args.count in
    let world = load_world count in
    let lines : List Line = recorded_in world 2 (history world) in
    let none = c.none-counts.ensures ∙ ap (λ (w : World). none_of w) c.in_ok-least.ensures ∙ same_word 1 count in
    record {
      history = lines;
      lawful = c.records_hold_one_history.ensures.recorded world 2 (load_is_world count c.requires.few);
      printed = c.in_ok-summary.ensures ∙ counted count world c.none-counts.result c.play_load.new.listener lines none c.in-Ok.ensures.received;
    }
