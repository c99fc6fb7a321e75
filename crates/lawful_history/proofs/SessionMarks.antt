-- The marks of sessions along a history, and the lines of a record of each version.
use Rattle.std.proofs.Common.{◌≡◌, ℕ, Bool, true, false, List, [], ◌∷◌, ◌++◌, refl, sym, ◌∙◌, ap, subst, append_assoc}
use Rattle.std.specs.Prelude.{◌==◌, ◌&&◌, not, cond, if◌then◌else◌, Option, Some, None, map, reverse}
use Rattle.std.specs.List.{flat_map}
use Rattle.std.proofs.lemmas.List.{reverse-append, reverse-reverse, append-nil}
use Rattle.std.proofs.lemmas.List.Elements.{filter-append}
use Rattle.split_ring.specs.declared.steps.Access.{Access}
use Rattle.split_ring.specs.declared.steps.Access.TheVariants as access
use Rattle.scenario_text.specs.Scenario.{World, is_link}
use Rattle.call_grammar.specs.Steps.{Mark, Saw, Reclaim, Full, Accept, Look, Deliver, Return, Done, Down, Refuse, Over, Step}
use Rattle.lawful_history.specs.declared.line.Line.{Line}
use Rattle.lawful_history.specs.declared.line.Line.TheVariants as line
use Rattle.lawful_history.specs.Schedule.{Event, TurnTaken, RegionAccessed, DeviceReset, DeviceAccess, ReadsConfig}
use Rattle.lawful_history.specs.EventRecords.{EventRecord, mark_line, access_lines, step_lines, turn_lines, denied_lines, region_access_lines, lines_by, lines_of}
use Rattle.lawful_history.specs.Device.{device_access_line, losses_with, DeviceRules}
use Rattle.lawful_history.specs.Sessions.{enters_run, session_mark, marks_before, with_sessions, recorded_line, recorded_in, without_sessions, is_session}
use Rattle.lawful_history.specs.Lawful.{IsLawful, HasOneHistory, HasOneHistoryIn, HasNoMarksInOne, HasMarksInTwo, HasRecordInTwo}
use Rattle.lawful_history.specs.History.{history, HistoryIsLawful, HistoryIsLawfulIn}
use Rattle.lawful_history.proofs.LinesOfDevices.{KeptByDevices, of_event}

-- The marks of one list after another

pub with_sessions-append : (world : World) (older a b : List Line) → with_sessions world older (a ++ b) ≡ with_sessions world older a ++ with_sessions world (reverse a ++ older) b
with_sessions-append world older [] b = refl
with_sessions-append world older (line ∷ a) b =
    let e : reverse (line ∷ a) ++ older ≡ reverse a ++ (line ∷ older) = ap (λ r. r ++ older) (reverse-append (line ∷ []) a) ∙ append_assoc (reverse a) (line ∷ []) older in
    let rest : with_sessions world (line ∷ older) (a ++ b) ≡ with_sessions world (line ∷ older) a ++ with_sessions world (reverse (line ∷ a) ++ older) b =
    with_sessions-append world (line ∷ older) a b ∙ ap (λ o. with_sessions world (line ∷ older) a ++ with_sessions world o b) (sym e) in
    ap (λ ls. marks_before world older line ++ line ∷ ls) rest ∙ sym (append_assoc (marks_before world older line) (line ∷ with_sessions world (line ∷ older) a) (with_sessions world (reverse (line ∷ a) ++ older) b))

-- One line more.
recorded_by_test : (world : World) (past : List Line) (line : Line) (b : Bool) →
    (if b then with_sessions world [] (reverse (line ∷ past)) else reverse (line ∷ past)) ≡
    (if b then with_sessions world [] (reverse past) else reverse past) ++ (if b then marks_before world past line ++ line ∷ [] else line ∷ [])
recorded_by_test world past line true =
    ap (with_sessions world []) (reverse-append (line ∷ []) past) ∙ with_sessions-append world [] (reverse past) (line ∷ [])
    ∙ ap (λ o. with_sessions world [] (reverse past) ++ with_sessions world o (line ∷ [])) (append-nil (reverse (reverse past)) ∙ reverse-reverse past)
recorded_by_test world past line false = reverse-append (line ∷ []) past

-- The lines of a record grow by the lines that it has for the newest line.
pub recorded_in-more : (world : World) (version : ℕ) (past : List Line) (line : Line) →
    recorded_in world version (reverse (line ∷ past)) ≡ recorded_in world version (reverse past) ++ recorded_line world version past line
recorded_in-more world version past line = recorded_by_test world past line (version == 2)

-- A record without its marks of sessions

abbrev IsBare : List Line → Type 0
IsBare lines = without_sessions lines ≡ lines

bare_append : (a b : List Line) → IsBare a → IsBare b → IsBare (a ++ b)
bare_append a b first rest = filter-append (λ l. not (is_session l)) a b ∙ ap (λ ls. ls ++ without_sessions b) first ∙ ap (λ ls. a ++ ls) rest

mark_vanishes : (world : World) (older : List Line) (peer : ℕ) (b : Bool) → without_sessions (if b then session_mark world older peer ∷ [] else []) ≡ []
mark_vanishes world older peer true = refl
mark_vanishes world older peer false = refl

marks_vanish : (world : World) (older : List Line) (line : Line) → without_sessions (marks_before world older line) ≡ []
marks_vanish world older (line.Over peer) = mark_vanishes world older peer (is_link world peer && enters_run older peer)
marks_vanish world older _ = refl

one_by_test : (line : Line) (others lines : List Line) → others ≡ lines → (b : Bool) → cond b (line ∷ others) others ≡ cond b (line ∷ lines) lines
one_by_test line others lines same b = ap (λ ls. cond b (line ∷ ls) ls) same

without_with : (world : World) (older lines : List Line) → without_sessions (with_sessions world older lines) ≡ without_sessions lines
without_with world older [] = refl
without_with world older (line ∷ lines) =
    filter-append (λ l. not (is_session l)) (marks_before world older line) (line ∷ with_sessions world (line ∷ older) lines)
    ∙ ap (λ ls. ls ++ without_sessions (line ∷ with_sessions world (line ∷ older) lines)) (marks_vanish world older line)
    ∙ one_by_test line (without_sessions (with_sessions world (line ∷ older) lines)) (without_sessions lines) (without_with world (line ∷ older) lines) (not (is_session line))

-- A lawful history has no mark of a session

bare_reached : (world : World) (older : List Line) (p : ℕ) (a : DeviceAccess) → IsBare (device_access_line world older p a ∷ [])
bare_reached world older p (ReadsConfig offset width) = refl
bare_reached world older p _ = refl

bare_keeps : KeptByDevices IsBare
bare_keeps = record {
  interrupts = record {
    none = refl;
    interrupt = λ p vector lines rest. ap (λ ls. line.Interrupt p vector ∷ ls) rest;
    lost = λ p vector lines rest. ap (λ ls. line.Lost p vector ∷ ls) rest;
  };
  reached = bare_reached;
}

bare_mark : (p : ℕ) (mark : Mark) (lines : List Line) → IsBare lines → IsBare (mark_line p mark ∷ lines)
bare_mark p (Saw value) lines rest = ap (λ ls. line.Saw p value ∷ ls) rest
bare_mark p (Reclaim count) lines rest = ap (λ ls. line.Reclaim p count ∷ ls) rest
bare_mark p Full lines rest = ap (λ ls. line.Full p ∷ ls) rest
bare_mark p (Accept frame) lines rest = ap (λ ls. line.Accept p frame ∷ ls) rest
bare_mark p (Look count) lines rest = ap (λ ls. line.Look p count ∷ ls) rest
bare_mark p (Deliver frame) lines rest = ap (λ ls. line.Deliver p frame ∷ ls) rest
bare_mark p Return lines rest = ap (λ ls. line.Return p ∷ ls) rest
bare_mark p Done lines rest = ap (λ ls. line.Done p ∷ ls) rest
bare_mark p Down lines rest = ap (λ ls. line.Down p ∷ ls) rest
bare_mark p (Refuse refused) lines rest = ap (λ ls. line.Refuse p refused ∷ ls) rest
bare_mark p Over lines rest = ap (λ ls. line.Over p ∷ ls) rest

bare_marks : (p : ℕ) (marks : List Mark) → IsBare (map (mark_line p) marks)
bare_marks p [] = refl
bare_marks p (mark ∷ marks) = bare_mark p mark (map (mark_line p) marks) (bare_marks p marks)

bare_access : (p : ℕ) (a : Access) (value : ℕ) → IsBare (access_lines p a value)
bare_access p (access.Read word) value = refl
bare_access p _ value = refl

bare_step : (p : ℕ) (step : Step) (dev : List Line) → IsBare dev → IsBare (step_lines p step dev)
bare_step p step dev bare =
    bare_append (access_lines p step.access step.value) (dev ++ map (mark_line p) step.marks) (bare_access p step.access step.value)
    (bare_append dev (map (mark_line p) step.marks) bare (bare_marks p step.marks))

bare_turn : (p : ℕ) (went : Option Step) (dev : List Line) → IsBare dev → IsBare (turn_lines p went dev)
bare_turn p None dev bare = ap (λ ls. line.Idle p ∷ ls) bare
bare_turn p (Some step) dev bare = bare_step p step dev bare

bare_denied : (p : ℕ) (a : Access) → IsBare (denied_lines p a)
bare_denied p (access.Read word) = refl
bare_denied p _ = refl

bare_acted : (p : ℕ) (a : Access) (went : Option Step) (dev : List Line) → IsBare dev → IsBare (region_access_lines p a went dev)
bare_acted p a None dev bare = bare_append (denied_lines p a) dev (bare_denied p a) bare
bare_acted p a (Some step) dev bare = bare_step p step dev bare

bare_by : (event : Event) (went : Option Step) (dev : List Line) → IsBare dev → IsBare (lines_by event went dev)
bare_by (TurnTaken p) went dev bare = bare_turn p went dev bare
bare_by (RegionAccessed p a) went dev bare = bare_acted p a went dev bare
bare_by (DeviceReset p) went dev bare = ap (λ ls. line.Reset p ∷ ls) bare
bare_by _ went dev bare = bare

bare_entries : (world : World) (older : List Line) (losses : ℕ → ℕ) (entries : List EventRecord) → DeviceRules world older losses entries → IsBare (flat_map lines_of entries)
bare_entries world older losses [] rules = refl
bare_entries world older losses (entry ∷ entries) rules =
    let dev : IsBare entry.device = subst IsBare (sym rules.0) (of_event IsBare bare_keeps world older losses entry.event entry.went) in
    bare_append (lines_of entry) (flat_map lines_of entries) (bare_by entry.event entry.went entry.device dev)
    (bare_entries world (reverse (lines_of entry) ++ older) (losses_with entry.event losses) entries rules.1)

-- A lawful history has no mark of a session.
pub lawful_is_bare : (world : World) (lines : List Line) → IsLawful world lines → without_sessions lines ≡ lines
lawful_is_bare world lines lawful = subst IsBare lawful.1.recorded (bare_entries world [] (λ p. 0) lawful.0 lawful.1.device)

-- The laws

pub has_one_history_in : HasOneHistory → HasOneHistoryIn
has_one_history_in one world version lines others first second =
    first.2 ∙ ap (recorded_in world version) (one world first.0 second.0 first.1 second.1) ∙ sym second.2

pub history_is_lawful_in : HistoryIsLawful → HistoryIsLawfulIn
history_is_lawful_in exists world version is = (history world, exists world is, refl)

pub has_no_marks_in_one : HasNoMarksInOne
has_no_marks_in_one world lines = ((λ is. subst (IsLawful world) (sym is.2) is.1, λ lawful. (lines, lawful, refl)), lawful_is_bare world lines)

pub has_marks_in_two : HasMarksInTwo
has_marks_in_two world lines is =
    let bare : without_sessions lines ≡ is.0 = ap without_sessions is.2 ∙ without_with world [] is.0 ∙ lawful_is_bare world is.0 is.1 in
    (subst (IsLawful world) (sym bare) is.1, is.2 ∙ ap (with_sessions world []) (sym bare))

pub has_record_in_two : HasRecordInTwo
has_record_in_two world lines lawful = ((lines, lawful, refl), without_with world [] lines ∙ lawful_is_bare world lines lawful)
