-- The lawful histories of a scenario, and the lines that a record has of them. `ivshm`'s headline
-- and `simulate` cite `IsLawfulIn`.
use Rattle.std.specs.Prelude.{ℕ, ◌≡◌, ◌↔◌, ◌<◌, List, [], ◌++◌, ◌∷◌, map, reverse, All}
use Rattle.std.specs.List.{flat_map}
use Rattle.section_map.specs.MayWrite.{MayWrite}
use Rattle.scenario_text.specs.Scenario.{World}
use Rattle.lawful_history.specs.declared.line.Line.{Line}
use Rattle.lawful_history.specs.declared.line.Line.TheVariants.{Read, Write}
use Rattle.lawful_history.specs.Memory.{MemoryLaw, WasWrittenLast}
use Rattle.lawful_history.specs.Schedule.{schedule}
use Rattle.lawful_history.specs.EventRecords.{EventRecord, event_of, owner, lines_of, own}
use Rattle.lawful_history.specs.Order.{Progress, initial_progress, IsCallSequence}
use Rattle.lawful_history.specs.Device.{DeviceRules}
use Rattle.lawful_history.specs.Sessions.{recorded_in, with_sessions, without_sessions}

-- These event records are a lawful history of the scenario. Their events are the schedule, each
-- belongs to a peer of the world, and the lines are theirs. Reads and writes satisfy the memory
-- law, the device's rules hold, and each peer's event records are its calls in order.
pub record IsLawfulBy (world : World) (lines : List Line) (entries : List EventRecord) : Type 0 where
  pub events : map event_of entries ≡ schedule world.acts
  pub owners : All (λ entry. owner entry < world.geometry.peers) entries
  pub recorded : flat_map lines_of entries ≡ lines
  pub memory : MemoryLaw world.geometry (reverse lines)
  pub device : DeviceRules world [] (λ peer. 0) entries
  pub calls : (peer : ℕ) → peer < world.geometry.peers → (end : Progress) × IsCallSequence world peer initial_progress (own peer entries) end

-- The lines are a lawful history of the scenario: there are event records for them.
abbrev pub IsLawful : World → List Line → Type 0
IsLawful world lines = (entries : List EventRecord) × IsLawfulBy world lines entries

-- The lines are a record's lines, in this version, of a lawful history of the scenario.
abbrev pub IsLawfulIn : World → (version : ℕ) → List Line → Type 0
IsLawfulIn world version lines = (history : List Line) × IsLawful world history × (lines ≡ recorded_in world version history)

-- A scenario has at most one lawful history.
abbrev pub HasOneHistory : Type 0
HasOneHistory = (world : World) (lines others : List Line) → IsLawful world lines → IsLawful world others → lines ≡ others

-- A record of each version has at most one list of lines.
abbrev pub HasOneHistoryIn : Type 0
HasOneHistoryIn = (world : World) (version : ℕ) (lines others : List Line) → IsLawfulIn world version lines → IsLawfulIn world version others
    → lines ≡ others

-- A record of version 1 has the lawful history, which has no mark of a session.
abbrev pub HasNoMarksInOne : Type 0
HasNoMarksInOne = (world : World) (lines : List Line) → (IsLawfulIn world 1 lines ↔ IsLawful world lines) × (IsLawful world lines → without_sessions lines ≡ lines)

-- A record of version 2 without its marks of sessions is the lawful history, and the marks are
-- those of its sessions.
abbrev pub HasMarksInTwo : Type 0
HasMarksInTwo = (world : World) (lines : List Line) → IsLawfulIn world 2 lines →
    IsLawful world (without_sessions lines) × (lines ≡ with_sessions world [] (without_sessions lines))

-- Each lawful history has a record of version 2.
abbrev pub HasRecordInTwo : Type 0
HasRecordInTwo = (world : World) (history : List Line) → IsLawful world history →
    IsLawfulIn world 2 (with_sessions world [] history) × (without_sessions (with_sessions world [] history) ≡ history)

-- The value of a read in a lawful history is the last value written.
abbrev pub ReadsWhatWasWritten : Type 0
ReadsWhatWasWritten = (world : World) (before after : List Line) (peer word value : ℕ) → IsLawful world (before ++ Read peer word value ∷ after)
    → WasWrittenLast before word value

-- A write in a lawful history is to a word that its peer may write.
abbrev pub WritesWhereItMay : Type 0
WritesWhereItMay = (world : World) (before after : List Line) (peer word value : ℕ) → IsLawful world (before ++ Write peer word value ∷ after)
    → MayWrite world.geometry peer word
