-- A play that the listener stopped.
use Rattle.std.proofs.Common.{◌≡◌, ℕ, ◌+◌, ◌-◌, ◌≤◌, ◌<◌, List, [], ◌∷◌, ◌++◌, length, get_or, take, drop, replicate, append_assoc, arith, sym, ◌∙◌, ap, subst}
use Rattle.std.specs.Prelude.{Result, Ok, Err, IfErr}
use Rattle.std.specs.Result.{IsErrAnd}
use Rattle.std.proofs.lemmas.List.{append-nil, replicate-append-replicate, take-append-drop, take_all}
use Rattle.std.proofs.lemmas.List.Concat.{flat_map-append}
use Rattle.scenario_text.specs.declared.acts.Act.{Act}
use Rattle.scenario_text.specs.Scenario.{World}
use Rattle.lawful_history.specs.declared.line.Line.{Line}
use Rattle.lawful_history.specs.Schedule.{Event, events_of, schedule}
use Rattle.simulator.proofs.OneMoreEvent.{schedule_more, recorded_so_far}
use Rattle.sim_world.specs.declared.playing.Stopped.{Stopped}
use Rattle.sim_world.specs.declared.playing.Stopped.TheVariants.{NoMemory, HasEnough}
use Rattle.sim_world.specs.Playing.{output_of, HasStopped, StopsWithin}

-- A fact of a play that the listener stopped.
abbrev pub WhereStopped : {T : Type 0} → Result T Stopped → Type 0 → Type 0
WhereStopped result P = IfErr result (λ why. why ≡ HasEnough → P)

-- An error that is passed on has the same cause.
pub passed_on : {T : Type 0} (why : Stopped) (result : Result T Stopped) (P : Type 0) → IsErrAnd result (λ e. e ≡ why) → (why ≡ HasEnough → P) → WhereStopped result P
passed_on why (Ok value) P gives so = tt
passed_on why (Err e) P gives so = λ is. so (sym gives ∙ is)

-- If memory ran out, the listener didn't stop the play.
pub by_memory : {T : Type 0} (result : Result T Stopped) (P : Type 0) → IsErrAnd result (λ e. e ≡ NoMemory) → WhereStopped result P
by_memory (Ok value) P gives = tt
by_memory (Err e) P gives = λ is. let same : NoMemory ≡ HasEnough = sym gives ∙ is in absurd cc

-- A stop within the first of some events is a stop within all of them.
pub stops_later : (world : World) (version : ℕ) (P : List Line → Type 0) (events more all : List Event) → events ++ more ≡ all → HasStopped world version P events → HasStopped world version P all
stops_later world version P events more all is stopped = record {
  before = stopped.before;
  rest = stopped.rest ++ more;
  events_are = sym is ∙ ap (λ es. es ++ more) stopped.events_are ∙ append_assoc stopped.before stopped.rest more;
  simulator = stopped.simulator;
  gone = stopped.gone;
  runs = stopped.runs;
  lines = stopped.lines;
}

-- The turns that were played and those that are left.
pub turns_left : (events : List Event) (turn : Event) (k steps : ℕ) → k < steps → ((events ++ replicate k turn) ++ turn ∷ []) ++ replicate (steps - (k + 1)) turn ≡ events ++ replicate steps turn
turns_left events turn k steps inside =
    let left = steps - (k + 1) in
    let count : k + 1 + left ≡ steps = omega arith in
    let played : (events ++ replicate k turn) ++ turn ∷ [] ≡ events ++ replicate (k + 1) turn = append_assoc events (replicate k turn) (turn ∷ []) ∙ ap (λ r. events ++ r) (replicate-append-replicate k 1 turn) in
    ap (λ es. es ++ replicate left turn) played ∙ append_assoc events (replicate (k + 1) turn) (replicate left turn)
    ∙ ap (λ r. events ++ r) (replicate-append-replicate (k + 1) left turn) ∙ ap (λ n. events ++ replicate n turn) count

-- A stop within the first events of the schedule.
pub stops_within : (world : World) (version : ℕ) (P : List Line → Type 0) (events more : List Event) → schedule world.acts ≡ events ++ more → HasStopped world version P events → StopsWithin world version P
stops_within world version P events more all stopped =
    let scheduled : schedule world.acts ≡ stopped.before ++ (stopped.rest ++ more) = all ∙ ap (λ es. es ++ more) stopped.events_are ∙ append_assoc stopped.before stopped.rest more in
    record {
      before = stopped.before;
      rest = stopped.rest ++ more;
      scheduled = scheduled;
      lines = subst P (recorded_so_far world (output_of version stopped.gone) stopped.before (stopped.rest ++ more) stopped.simulator stopped.runs scheduled) stopped.lines;
    }

-- The events up to an act, and those after them.
pub acts_left : (acts : List Act) (i : ℕ) (a : Act) → i < length acts → a ≡ get_or acts i a → schedule acts ≡ (schedule (take i acts) ++ events_of a) ++ schedule (drop (i + 1) acts)
acts_left acts i a inside is =
    ap (λ (xs : List Act). schedule xs) (sym (take-append-drop (i + 1) acts)) ∙ flat_map-append events_of (take (i + 1) acts) (drop (i + 1) acts)
    ∙ ap (λ es. es ++ schedule (drop (i + 1) acts)) (schedule_more acts i a inside is)

-- After all acts no event is left.
pub none_left : (acts : List Act) (i : ℕ) → length acts ≤ i → schedule acts ≡ schedule (take i acts) ++ []
none_left acts i whole = ap (λ (xs : List Act). schedule xs) (sym (take_all i acts whole)) ∙ sym (append-nil (schedule (take i acts)))
