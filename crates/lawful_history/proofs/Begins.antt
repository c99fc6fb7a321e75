-- Of two lawful histories one begins the other if one is cut.
use Rattle.std.proofs.Common.{◌≡◌, List, [], ◌∷◌, ◌++◌, refl, sym, ◌∙◌, ap, append_assoc}
use Rattle.std.specs.Prelude.{reverse}
use Rattle.std.proofs.lemmas.List.{reverse-append}
use Rattle.scenario_text.specs.declared.acts.Act.{Act}
use Rattle.scenario_text.specs.Scenario.{World}
use Rattle.lawful_history.specs.declared.line.Line.{Line}
use Rattle.lawful_history.specs.Schedule.{Event, schedule}
use Rattle.lawful_history.specs.EventRecords.{lines_of}
use Rattle.lawful_history.specs.Lawful.{HasOneHistory}
use Rattle.lawful_history.specs.History.{HistoryState, entry_of, after_event, run, initial_state, history, HistoryIsLawful, CutHistoriesBegin}

-- The effect of events doesn't depend on the acts to come.
run_same : (world : World) (acts : List Act) (events : List Event) (so_far : HistoryState) → run (record world { acts = acts }) events so_far ≡ run world events so_far
run_same world acts [] so_far = refl
run_same world acts (event ∷ events) so_far = run_same world acts events (after_event world so_far event)

pub run_on : (world : World) (events more : List Event) (so_far : HistoryState) → run world (events ++ more) so_far ≡ run world more (run world events so_far)
run_on world [] more so_far = refl
run_on world (event ∷ events) more so_far = run_on world events more (after_event world so_far event)

-- The lines only grow.
pub grows : (world : World) (events : List Event) (so_far : HistoryState) → (new : List Line) × ((run world events so_far).past ≡ new ++ so_far.past)
grows world [] so_far = ([], refl)
grows world (event ∷ events) so_far =
    let rest = grows world events (after_event world so_far event) in
    let lines = reverse (lines_of (entry_of world so_far event)) in
    (rest.0 ++ lines, rest.1 ∙ sym (append_assoc rest.0 lines so_far.past))

pub cut_histories_begin : HasOneHistory → HistoryIsLawful → CutHistoriesBegin
cut_histories_begin one exists world acts more lines others is longer_is scheduled lawful longer_lawful =
    let longer : World = record world { acts = acts } in
    let short = run world (schedule world.acts) (initial_state world) in
    let new = grows world more short in
    let first : lines ≡ reverse short.past = one world lines (history world) lawful (exists world is) in
    let whole : others ≡ history longer = one longer others (history longer) longer_lawful (exists longer longer_is) in
    let runs : run longer (schedule acts) (initial_state longer) ≡ run world more short =
    run_same world acts (schedule acts) (initial_state world) ∙ ap (λ es. run world es (initial_state world)) scheduled ∙ run_on world (schedule world.acts) more (initial_state world) in
    (reverse new.0, whole ∙ ap (λ (m : HistoryState). reverse m.past) runs ∙ ap reverse new.1 ∙ reverse-append new.0 short.past ∙ ap (λ ls. ls ++ reverse new.0) (sym first))
