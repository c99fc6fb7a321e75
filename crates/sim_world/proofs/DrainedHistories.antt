-- The history of a simulator whose lines were drained, and its text.
use Rattle.std.proofs.Common.{◌≡◌, ℕ, ◌+◌, ◌≤◌, ◌<◌, ◌^◌, true, zero-add, List, [], ◌++◌, length, take, sym, ap, subst, ◌∙◌}
use Rattle.std.specs.Prelude.{reverse}
use Rattle.std.proofs.lemmas.List.{append-nil, take_all}
use Rattle.scenario_text.specs.declared.acts.Act.{Act}
use Rattle.scenario_text.specs.Scenario.{World, IsWorld}
use Rattle.lawful_history.specs.declared.line.Line.{Line}
use Rattle.lawful_history.specs.Schedule.{schedule}
use Rattle.lawful_history.specs.Sessions.{recorded_in}
use Rattle.lawful_history.specs.Versions.{is_version}
use Rattle.lawful_history.specs.History.{history}
use Rattle.record_text.specs.Spelling.{IsSpelling}
use Rattle.record_text.specs.Growing.{front_text, history_text, count_text, PartsAreSpelling}
use Rattle.simulator.specs.Simulator.{RunsTo, history_state_after, kept_lines}
use Rattle.simulator.specs.declared.simulator.Simulator.{Simulator}
use Rattle.simulator.proofs.OneMoreEvent.{recorded_so_far}
use Rattle.sim_world.specs.Playing.{output_of}
use Rattle.sim_world.specs.RecordWriting.{HasRecorded}
use Rattle.sim_world.specs.declared.record_writer.RecordWriter.{RecordWriter}

-- The lines that were drained from a simulator that took all acts, with those that it keeps, are
-- what a record has of the history.
pub received_whole : (world : World) (version : ℕ) (gone : List Line) (i : ℕ) (s : Simulator) → length world.acts ≤ i → RunsTo world (output_of version gone) (schedule (take i world.acts)) s → gone ++ kept_lines s ≡ recorded_in world version (history world)
received_whole world version gone i s whole runs =
    let all = take_all i world.acts whole in
    recorded_so_far world (output_of version gone) (schedule (take i world.acts)) [] s runs (sym (append-nil (schedule (take i world.acts)) ∙ ap schedule all))
    ∙ ap (λ (xs : List Act). recorded_in world version (reverse (history_state_after world (schedule xs)).past)) all

-- After the front, with the count of the lines, the text is the record's.
pub ended : PartsAreSpelling → (world : World) (version : ℕ) (began recorded : RecordWriter) (out : List ℕ) (lines : List Line) → is_version version ≡ true → IsWorld world → began.text.items ≡ front_text version world → began.count ≡ 0 → HasRecorded began recorded lines → out ≡ recorded.text.items ++ count_text recorded.count → IsSpelling (record { version = version; world = world; lines = lines }) out
ended parts world version began recorded out lines known is_world front none is last =
    let count : recorded.count ≡ length lines = is.count ∙ ap (λ n. n + length lines) none ∙ zero-add (length lines) in (
      record { version = known; world = is_world; fits = is.fits; frames = is.frames; count = subst (λ (n : ℕ). n < 2 ^ 64) count is.few },
      last
          ∙ ap (λ (t : List ℕ). t ++ count_text recorded.count) (is.text ∙ ap (λ (t : List ℕ). t ++ history_text lines) front)
          ∙ ap (λ (n : ℕ). (front_text version world ++ history_text lines) ++ count_text n) count
          ∙ parts (record { version = version; world = world; lines = lines }),
    )
