-- The marks of sessions, and the lines that a record of each version has of a history. Lines are
-- listed newest first.
use Rattle.std.specs.Prelude.{ℕ, ◌+◌, ◌==◌, ◌&&◌, not, if◌then◌else◌, Bool, true, false, List, [], ◌∷◌, ◌++◌}
use Rattle.std.specs.List.{filter}
use Rattle.scenario_text.specs.Scenario.{World, is_link}
use Rattle.lawful_history.specs.declared.line.Line.{Line}
use Rattle.lawful_history.specs.declared.line.Line.TheVariants as line
use Rattle.lawful_history.specs.Sides.{partner}

-- Whether the line is the peer's write of this State.
abbrev pub writes_state : (peer state : ℕ) → Line → Bool
writes_state peer state (line.State p value) = p == peer && value == state
writes_state peer state _ = false

-- The number of sessions that a peer opened: the number of its writes of State 2.
abbrev pub opened_in : List Line → ℕ → ℕ
opened_in [] peer = 0
opened_in (line ∷ older) peer = if writes_state peer 2 line then opened_in older peer + 1 else opened_in older peer

-- Whether the line is an interrupt delivered or lost. These lines are between the line of a step
-- and its marks.
abbrev pub is_interrupt : Line → Bool
is_interrupt (line.Interrupt peer vector) = true
is_interrupt (line.Lost peer vector) = true
is_interrupt _ = false

-- Whether the peer enters RUN: the newest line, except interrupts, is its write of State 3.
abbrev pub enters_run : List Line → ℕ → Bool
enters_run [] peer = false
enters_run (line ∷ older) peer = if is_interrupt line then enters_run older peer else writes_state peer 3 line

-- The mark of the session that a link peer enters: the number of its own session and that of the
-- other's. The latter is 0 if the other is hostile.
abbrev pub session_mark : World → List Line → ℕ → Line
session_mark world older peer = line.Session peer (opened_in older peer) (if is_link world (partner peer) then opened_in older (partner peer) else 0)

-- The mark is directly before the mark that ends the step of an honest link peer.
abbrev pub marks_before : World → List Line → Line → List Line
marks_before world older (line.Over peer) = if is_link world peer && enters_run older peer then session_mark world older peer ∷ [] else []
marks_before world older _ = []

-- These lines with the marks of sessions, after older ones.
abbrev pub with_sessions : World → (older lines : List Line) → List Line
with_sessions world older [] = []
with_sessions world older (line ∷ lines) = marks_before world older line ++ line ∷ with_sessions world (line ∷ older) lines

-- The lines of a history in a record of this version. Version 2 also has the marks of sessions.
abbrev pub recorded_in : World → (version : ℕ) → List Line → List Line
recorded_in world version lines = if version == 2 then with_sessions world [] lines else lines

-- The lines that the record has for the newest line, after these older ones.
abbrev pub recorded_line : World → (version : ℕ) → List Line → Line → List Line
recorded_line world version older line = if version == 2 then marks_before world older line ++ line ∷ [] else line ∷ []

-- Whether the line is the mark of a session.
abbrev pub is_session : Line → Bool
is_session (line.Session peer opened other) = true
is_session _ = false

-- The lines without the marks of sessions.
abbrev pub without_sessions : List Line → List Line
without_sessions lines = filter (λ line. not (is_session line)) lines
