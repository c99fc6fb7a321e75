-- The lawful history after the lines that an expected run took.
use Rattle.std.proofs.Common.{◌≡◌, ◌≢◌, ℕ, Bool, true, false, zero, suc, ◌<◌, ◌≤◌, ◌+◌, ◌-◌, List, [], ◌∷◌, ◌++◌, length, get_or, take, drop, replicate, refl, sym, ◌∙◌, ap, subst, arith, append_assoc, inl, inr}
use Rattle.std.specs.Prelude.{◌⊎◌, ◌&&◌, ◌==◌, if◌then◌else◌, Some, None, reverse, slice_get}
use Rattle.std.proofs.lemmas.List.{append-nil, length-append, reverse-append, take-append-drop, take_all, take_more}
use Rattle.std.proofs.lemmas.List.Concat.{flat_map-append}
use Rattle.std.proofs.lemmas.Option.{slice_get-get_or, slice_get_within, same_Some}
use Rattle.std.proofs.Math.Seq.{take-append_seam}
use Rattle.scenario_text.specs.declared.acts.Act.{Act}
use Rattle.scenario_text.specs.Scenario.{World}
use Rattle.lawful_history.specs.declared.line.Line.{Line}
use Rattle.lawful_history.specs.Schedule.{Event, TurnTaken, events_of, schedule}
use Rattle.lawful_history.specs.Lawful.{IsLawfulIn, HasOneHistoryIn}
use Rattle.lawful_history.specs.History.{HistoryState, run, initial_state, history, HistoryIsLawfulIn}
use Rattle.lawful_history.proofs.Begins.{run_on, grows}
use Rattle.lawful_history.specs.Frames.{has_frame, HaveFrames}
use Rattle.lawful_history.specs.Sessions.{with_sessions, recorded_in}
use Rattle.lawful_history.proofs.SessionMarks.{with_sessions-append}
use Rattle.simulator.proofs.OneMoreEvent.{recorded_so_far}
use Rattle.simulator.specs.Log.{Output}
use Rattle.simulator.specs.Simulator.{history_state_after, RunsTo, kept_lines}
use Rattle.simulator.specs.declared.simulator.Simulator.{Simulator}
use Rattle.link_model.specs.declared.expected_run.ExpectedRun.{ExpectedRun}
use Rattle.link_model.specs.declared.fault.Law.TheVariants.{Order}
use Rattle.link_model.specs.declared.fault.Unlawful.{Unlawful}
use Rattle.link_model.specs.BrokenLaw.{law_between}
use Rattle.link_model.specs.Difference.{head_of, Begins, Differs, Leaves}
use Rattle.link_model.specs.ExpectedRun.{world_in, recorded_of, IsPlayed, IsAlong, IsOver, GoesOn}
use Rattle.link_model.proofs.DifferingLines.{none_begins}
use Rattle.link_model.proofs.PlayedActs.{no_turns}

-- The lines that a record has begin with those of the first part.
begins_by_test : (world : World) (a b : List Line) (test : Bool) →
    (more : List Line) × ((if test then with_sessions world [] (a ++ b) else a ++ b) ≡ (if test then with_sessions world [] a else a) ++ more)
begins_by_test world a b true = (with_sessions world (reverse a ++ []) b, with_sessions-append world [] a b)
begins_by_test world a b false = (b, refl)

recorded_begins : (world : World) (version : ℕ) (a b : List Line) → (more : List Line) × (recorded_in world version (a ++ b) ≡ recorded_in world version a ++ more)
recorded_begins world version a b = begins_by_test world a b (version == 2)

-- The part of the history in a record continues from the lines of a simulator that hasn't played
-- all events.
follows : (world : World) (output : Output) (events rest : List Event) (s : Simulator) → RunsTo world output events s → events ++ rest ≡ schedule world.acts →
    (more : List Line) × (recorded_in world output.version (history world) ≡ (output.drained ++ kept_lines s) ++ more)
follows world output events rest s runs all =
    let new = grows world rest (history_state_after world events) in
    let whole : history world ≡ reverse (history_state_after world events).past ++ reverse new.0 =
    ap (λ (es : List Event). reverse (run world es (initial_state world)).past) (sym all) ∙ ap (λ (m : HistoryState). reverse m.past) (run_on world events rest (initial_state world))
    ∙ ap reverse new.1 ∙ reverse-append new.0 (history_state_after world events).past in
    let more = recorded_begins world output.version (reverse (history_state_after world events).past) (reverse new.0) in
    (more.0, ap (recorded_in world output.version) whole ∙ more.1 ∙ ap (λ ls. ls ++ more.0) (sym (recorded_so_far world output events rest s runs (sym all))))

-- The events that are left.
split_at : (acts : List Act) (at : ℕ) → schedule (take at acts) ++ schedule (drop at acts) ≡ schedule acts
split_at acts at = sym (flat_map-append events_of (take at acts) (drop at acts)) ∙ ap (λ (xs : List Act). schedule xs) (take-append-drop at acts)

rest_is : (output : Output) (c : ExpectedRun) (played : IsPlayed output c) →
    played.events ++ (replicate c.left (TurnTaken c.peer) ++ schedule (drop c.at (world_in c).acts)) ≡ schedule (world_in c).acts
rest_is output c played =
    let acts = (world_in c).acts in
    sym (append_assoc played.events (replicate c.left (TurnTaken c.peer)) (schedule (drop c.at acts))) ∙ ap (λ es. es ++ schedule (drop c.at acts)) played.scheduled ∙ split_at acts c.at

-- The lines that weren't taken are after those that were.
untaken : (drained kept_lines lines : List Line) (passed : ℕ) → drained ++ take passed kept_lines ≡ lines → drained ++ kept_lines ≡ lines ++ drop passed kept_lines
untaken drained kept_lines lines passed taken =
    ap (λ ls. drained ++ ls) (sym (take-append-drop passed kept_lines)) ∙ sym (append_assoc drained (take passed kept_lines) (drop passed kept_lines)) ∙ ap (λ ls. ls ++ drop passed kept_lines) taken

head_of_drop : (xs : List Line) (p : ℕ) → head_of (drop p xs) ≡ slice_get xs p
head_of_drop [] zero = refl
head_of_drop [] (suc p) = refl
head_of_drop (x ∷ xs) zero = refl
head_of_drop (x ∷ xs) (suc p) = head_of_drop xs p

head_of_more : (xs more : List Line) (p : ℕ) → p < length xs → head_of (drop p xs ++ more) ≡ slice_get xs p
head_of_more [] more p inside = absurd (omega arith)
head_of_more (x ∷ xs) more zero inside = refl
head_of_more (x ∷ xs) more (suc p) inside = head_of_more xs more p (omega arith)

-- The record continues after the lines taken: its next line is the one that waits on the simulator.
abbrev GoesOnBy : List Line → ExpectedRun → Type 0
GoesOnBy lines c = (after : List Line) × (recorded_of c ≡ lines ++ after) × (head_of after ≡ slice_get (kept_lines c.simulator) c.passed)

waits : (lines : List Line) (c : ExpectedRun) → IsAlong lines c → c.passed < length (kept_lines c.simulator) → GoesOnBy lines c
waits lines c along waiting =
    let here = kept_lines c.simulator in
    let played = along.played in
    let more = follows (world_in c) along.output played.events _ c.simulator played.runs (rest_is along.output c played) in (
      drop c.passed here ++ more.0,
      ap (λ v. recorded_in (world_in c) v (history (world_in c))) (sym played.version) ∙ more.1 ∙ ap (λ ls. ls ++ more.0) (untaken along.output.drained here lines c.passed along.taken)
          ∙ append_assoc lines (drop c.passed here) more.0,
      head_of_more here more.0 c.passed waiting,
    )

is_over : (lines : List Line) (c : ExpectedRun) → IsAlong lines c → IsOver c → GoesOnBy lines c
is_over lines c along over =
    let world = world_in c in
    let here = kept_lines c.simulator in
    let played = along.played in
    let all : played.events ≡ schedule world.acts =
    no_turns played.events _ (TurnTaken c.peer) c.left over.0 played.scheduled ∙ ap (λ (xs : List Act). schedule xs) (take_all c.at world.acts over.1) in
    let runs = subst (λ (es : List Event). RunsTo world along.output es c.simulator) all played.runs in (
      drop c.passed here,
      ap (λ v. recorded_in world v (history world)) (sym played.version) ∙ sym (recorded_so_far world along.output (schedule world.acts) [] c.simulator runs (sym (append-nil (schedule world.acts))))
          ∙ untaken along.output.drained here lines c.passed along.taken,
      head_of_drop here c.passed,
    )

expects_by : (lines : List Line) (c : ExpectedRun) → IsAlong lines c → (c.passed < length (kept_lines c.simulator)) ⊎ IsOver c → GoesOnBy lines c
expects_by lines c along (inl waiting) = waits lines c along waiting
expects_by lines c along (inr over) = is_over lines c along over

pub expects : (lines : List Line) (c : ExpectedRun) → GoesOn lines c → GoesOnBy lines c
expects lines c goes = expects_by lines c goes.along goes.settled

-- Each lawful history is the one that is expected.
lawful_is : HasOneHistoryIn → HistoryIsLawfulIn → (lines : List Line) (c : ExpectedRun) (goes : GoesOn lines c) (lawful : List Line) → IsLawfulIn (world_in c) c.version lawful → lawful ≡ lines ++ (expects lines c goes).0
lawful_is one exists lines c goes lawful is =
    one (world_in c) c.version lawful (recorded_of c) is (exists (world_in c) c.version goes.along.played.runs.after.is_world) ∙ (expects lines c goes).1

pub begins : HasOneHistoryIn → HistoryIsLawfulIn → (lines : List Line) (c : ExpectedRun) → GoesOn lines c → Begins (world_in c) c.version lines
begins one exists lines c goes = λ lawful is. ((expects lines c goes).0, lawful_is one exists lines c goes lawful is)

-- Another line than the one that waits leaves the history.
pub breaks : HasOneHistoryIn → HistoryIsLawfulIn → (lines : List Line) (c : ExpectedRun) (line : Line) (fault : Unlawful) → GoesOn lines c → slice_get (kept_lines c.simulator) c.passed ≢ Some line →
    fault.line ≡ length lines + 1 → fault.law ≡ law_between (slice_get (kept_lines c.simulator) c.passed) (Some line) → Leaves (world_in c) c.version (lines ++ line ∷ []) fault
breaks one exists lines c line fault goes other number law =
    let after = expects lines c goes in
    let within : fault.line ≤ length (lines ++ line ∷ []) = omega (arith, length-append lines (line ∷ [])) in
    let differs : Differs (world_in c) c.version (lines ++ line ∷ []) fault = λ lawful is. record {
      before = lines;
      due = after.0;
      given = line ∷ [];
      lawful_is = lawful_is one exists lines c goes lawful is;
      found_is = refl;
      differ = λ same. other (sym after.2 ∙ same);
      line = number;
      law = law ∙ ap (λ h. law_between h (Some line)) (sym after.2);
    } in
    record { none = none_begins (world_in c) c.version (lines ++ line ∷ []) fault differs within; differs = differs; within = within }

-- A line that waits is missing if no more lines are taken.
pub misses : HasOneHistoryIn → HistoryIsLawfulIn → (lines : List Line) (c : ExpectedRun) (due : Line) (fault : Unlawful) → GoesOn lines c → slice_get (kept_lines c.simulator) c.passed ≡ Some due →
    fault.line ≡ length lines + 1 → fault.law ≡ Order → Differs (world_in c) c.version lines fault
misses one exists lines c due fault goes is number law = λ lawful lawful_too.
    let after = expects lines c goes in
    let head : head_of after.0 ≡ Some due = after.2 ∙ is in
    record {
      before = lines;
      due = after.0;
      given = [];
      lawful_is = lawful_is one exists lines c goes lawful lawful_too;
      found_is = sym (append-nil lines);
      differ = λ same. let none : Some due ≡ None = sym head ∙ same in cc;
      line = number;
      law = law ∙ ap (λ h. law_between h None) (sym head);
    }

no_head : (lines : List Line) → head_of lines ≡ None → lines ≡ []
no_head [] none = refl
no_head (line ∷ lines) none = absurd (cc)

-- If no line waits, the lines taken are the history.
pub is_whole : HistoryIsLawfulIn → (lines : List Line) (c : ExpectedRun) → GoesOn lines c → slice_get (kept_lines c.simulator) c.passed ≡ None → IsLawfulIn (world_in c) c.version lines
is_whole exists lines c goes none =
    let after = expects lines c goes in
    let all : recorded_of c ≡ lines = after.1 ∙ ap (λ ls. lines ++ ls) (no_head after.0 (after.2 ∙ none)) ∙ append-nil lines in
    subst (λ ls. IsLawfulIn (world_in c) c.version ls) all (exists (world_in c) c.version goes.along.played.runs.after.is_world)

-- The line that waits is taken.
pub one_taken : (lines : List Line) (c : ExpectedRun) (line : Line) → IsAlong lines c → slice_get (kept_lines c.simulator) c.passed ≡ Some line → IsAlong (lines ++ line ∷ []) (record c { passed = c.passed + 1 })
one_taken lines c line along is =
    let waiting = kept_lines c.simulator in
    let inside = slice_get_within waiting c.passed line is in
    let here : get_or waiting c.passed line ≡ line = same_Some (get_or waiting c.passed line) line (sym (slice_get-get_or waiting c.passed line inside) ∙ is) in
    let played = along.played in
    record {
      output = along.output;
      played = record { events = played.events; version = played.version; runs = played.runs; at = played.at; scheduled = played.scheduled; peer = played.peer };
      passed = omega arith;
      taken = ap (λ ls. along.output.drained ++ ls) (take_more waiting c.passed line inside ∙ ap (λ (l : Line). take c.passed waiting ++ l ∷ []) here)
          ∙ sym (append_assoc along.output.drained (take c.passed waiting) (line ∷ [])) ∙ ap (λ ls. ls ++ line ∷ []) along.taken;
    }

-- All lines that wait are taken.
pub all_taken : (lines : List Line) (c : ExpectedRun) → IsAlong lines c → IsAlong (lines ++ drop c.passed (kept_lines c.simulator)) (record c { passed = length (kept_lines c.simulator) })
all_taken lines c along =
    let waiting = kept_lines c.simulator in
    let played = along.played in
    record {
      output = along.output;
      played = record { events = played.events; version = played.version; runs = played.runs; at = played.at; scheduled = played.scheduled; peer = played.peer };
      passed = omega arith;
      taken = ap (λ ls. along.output.drained ++ ls) (take_all (length waiting) waiting (omega arith)) ∙ untaken along.output.drained waiting lines c.passed along.taken;
    }

second_true : (a b : Bool) → (a && b) ≡ true → b ≡ true
second_true true b e = e
second_true false b e = absurd cc

drop_frames : (lines : List Line) (n : ℕ) → HaveFrames lines → HaveFrames (drop n lines)
drop_frames lines zero frames = frames
drop_frames [] (suc n) frames = frames
drop_frames (line ∷ lines) (suc n) frames = drop_frames lines n (second_true (has_frame line) _ frames)

-- The lines that wait have their frames.
pub frames_wait : (lines : List Line) (c : ExpectedRun) → GoesOn lines c → HaveFrames (drop c.passed (kept_lines c.simulator))
frames_wait lines c goes = drop_frames (kept_lines c.simulator) c.passed goes.along.played.runs.after.log.frames

-- The lines taken are the first ones of the record.
pub counted : (lines : List Line) (c : ExpectedRun) (next : ℕ) → GoesOn lines c → next ≡ length lines + 1 → take (next - 1) (recorded_of c) ≡ lines
counted lines c next goes number =
    let after = expects lines c goes in
    let count : next - 1 ≡ length lines = omega arith in
    ap (λ n. take n (recorded_of c)) count ∙ ap (λ ls. take (length lines) ls) after.1 ∙ take-append_seam lines after.0
