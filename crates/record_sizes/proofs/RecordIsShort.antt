-- A record with a lawful history is short.
use Rattle.std.proofs.Common.{◌≡◌, ℕ, ◌*◌, ◌^◌, ◌<◌, ◌≤◌, Bool, true, false, List, [], ◌∷◌, ◌++◌, length, refl, sym, ap, subst, ◌∙◌, arith, length-append}
use Rattle.std.specs.Prelude.{◌==◌, if◌then◌else◌, All}
use Rattle.std.specs.List.{AllByRecursion, flat_map}
use Rattle.std.proofs.lemmas.Fmt.{length-decimal-le}
use Rattle.std.proofs.lemmas.List.{length-map, length-replicate}
use Rattle.std.proofs.lemmas.List.Concat.{flat_map-cons}
use Rattle.std.proofs.lemmas.List.Elements.{All-head, All-tail}
use Rattle.std.proofs.lemmas.List.Sums.{sum_by-cons}
use Rattle.line_format.specs.Rows.{row, text_of}
use Rattle.line_format.proofs.LinesOfRows.{bare, text-cons}
use Rattle.scenario_text.specs.declared.acts.Act.{Act}
use Rattle.scenario_text.specs.declared.acts.Act.TheVariants as act
use Rattle.scenario_text.specs.Acts.{cost, turns_of}
use Rattle.scenario_text.specs.Scenario.{World, IsWorld}
use Rattle.scenario_text.specs.Spelling as scenario
use Rattle.lawful_history.specs.declared.line.Line.{Line}
use Rattle.lawful_history.specs.Schedule.{Event, TurnTaken, events_of, schedule}
use Rattle.lawful_history.specs.EventRecords.{EventRecord, event_of, owner, lines_of, own}
use Rattle.lawful_history.specs.Lawful.{IsLawful}
use Rattle.record_text.specs.declared.forms.LineForm.TheVariants.{Count}
use Rattle.record_text.specs.Table.{pieces_of}
use Rattle.record_text.specs.Versions.{first_line}
use Rattle.record_text.specs.Spelling.{Fits, history_rows}
use Rattle.record_sizes.specs.Sizes.{RecordsAreShort, RecordsAreWithinLimit}
use Rattle.record_sizes.proofs.LineBytes.{lines_bytes, lines_cost, row_bytes, text_bytes}
use Rattle.record_sizes.proofs.EventsPay.{AreFitting, parts_fit, cost-append, IsRoomy, all_roomy, entries_cost, own_bytes}
use Rattle.record_sizes.proofs.MarksPay.{recorded_paid}
use Rattle.record_sizes.proofs.Sharing.{all_pay}

-- An act counts for the number of its events

act_events : (a : Act) → length (events_of a) ≡ cost a
act_events (act.Turn peer steps) = length-replicate steps (TurnTaken peer)
act_events (act.Tick peer) = refl
act_events _ = refl

all_events : (acts : List Act) → length (schedule acts) ≡ turns_of acts
all_events [] = refl
all_events (a ∷ acts) =
    let events = ap (λ (es : List Event). length es) (flat_map-cons events_of a acts) in
    omega (arith, events, sum_by-cons cost a acts, length-append (events_of a) (schedule acts), act_events a, all_events acts)

-- The event records of a history whose lines fit

by_recursion : {X : Type 0} (P : X → Type 0) (xs : List X) → All P xs → AllByRecursion P xs
by_recursion P [] all = tt
by_recursion P (x ∷ xs) all = (All-head P x xs all, by_recursion P xs (All-tail P x xs all))

entries_fit : (entries : List EventRecord) → AreFitting (flat_map lines_of entries) → AllByRecursion (λ entry. AreFitting (lines_of entry)) entries
entries_fit [] fits = tt
entries_fit (entry ∷ entries) fits = let parts = parts_fit (lines_of entry) (flat_map lines_of entries) fits in (parts.0, entries_fit entries parts.1)

recorded_cost : (entries : List EventRecord) → lines_cost (flat_map lines_of entries) ≡ entries_cost entries
recorded_cost [] = refl
recorded_cost (entry ∷ entries) = omega (arith, cost-append (lines_of entry) (flat_map lines_of entries), recorded_cost entries)

own_roomy : (peer : ℕ) (entries : List EventRecord) → AllByRecursion IsRoomy entries → AllByRecursion IsRoomy (own peer entries)
own_roomy peer [] roomy = tt
own_roomy peer (entry ∷ entries) roomy = own_by (owner entry == peer) roomy.0 (own_roomy peer entries roomy.1)
  where
    own_by : (b : Bool) → IsRoomy entry → AllByRecursion IsRoomy (own peer entries) → AllByRecursion IsRoomy (if b then entry ∷ own peer entries else own peer entries)
    own_by true here others = (here, others)
    own_by false here others = others

history_cost : (world : World) (lines : List Line) → IsWorld world → AreFitting lines → IsLawful world lines → lines_cost lines ≤ 200 * turns_of world.acts
history_cost world lines is fits (entries, by) =
    let fitting = subst AreFitting (sym by.recorded) fits in
    let owners = by_recursion (λ (entry : EventRecord). owner entry < world.geometry.peers) entries by.owners in
    let roomy = all_roomy world is.few [] (λ peer. 0) entries by.device owners (entries_fit entries fitting) in
    let each : (peer : ℕ) → peer < world.geometry.peers → entries_cost (own peer entries) ≤ 200 * length (own peer entries) =
    λ peer below. let calls = by.calls peer below in own_bytes world peer calls.0 (own peer entries) (own_roomy peer entries roomy) calls.1 in
    let all = all_pay world.geometry.peers entries owners each in
    let recorded = ap lines_cost by.recorded in
    let count : length entries ≡ length (schedule world.acts) = sym (length-map entries event_of) ∙ ap (λ (events : List Event). length events) by.events in
    omega (arith, all, recorded, recorded_cost entries, count, all_events world.acts)

-- The text

count_bytes : (count : ℕ) → count < 2 ^ 64 → length (text_of pieces_of (row Count (count ∷ []) [] ∷ [])) ≤ 25
count_bytes count small =
    let r = row Count (count ∷ []) [] in
    let text = ap (λ (t : List ℕ). length t) (text-cons pieces_of r []) in
    omega (arith, text, length-append (bare pieces_of r) (10 ∷ text_of pieces_of []), row_bytes r (omega arith, omega (arith, small), tt), length-decimal-le 20 count (omega arith) (omega (arith, small)) small)

pub records_are_short : RecordsAreShort
records_are_short r is (history, lawful, recorded) =
    let fitting = by_recursion Fits r.lines is.fits in
    let paid = recorded_paid r.world history (r.version == 2) (subst AreFitting recorded fitting) in
    let cost = history_cost r.world history is.world paid.fits lawful in
    let bytes = ap lines_bytes recorded in
    let lines = text_bytes r.lines (row Count (length r.lines ∷ []) [] ∷ []) fitting in
    let count = count_bytes (length r.lines) is.count in
    let parts = length-append (first_line r.version) (10 ∷ (scenario.spelling r.world ++ text_of pieces_of (history_rows r.lines))) in
    let rest = length-append (scenario.spelling r.world) (text_of pieces_of (history_rows r.lines)) in
    omega (arith, cost, paid.few, bytes, lines, count, parts, rest)

pub records_are_within_limit : RecordsAreWithinLimit
records_are_within_limit r is lawful few = let bound = records_are_short r is lawful in let most = is.world.turns in omega (arith, bound, most, few)
