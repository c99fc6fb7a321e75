-- The lawful histories of a schedule of ports. The contract of `ports` cites `IsLawful`.
use Rattle.std.specs.Prelude.{ℕ, ◌≡◌, List, map, reverse}
use Rattle.std.specs.List.{flat_map}
use Rattle.port_text.specs.Scenario.{World}
use Rattle.sampling_port.specs.Schedule.{schedule}
use Rattle.sampling_port.specs.EventRecords.{Line, EventRecord, event_of, lines_of, own_entries}
use Rattle.sampling_port.specs.Memory.{MemoryLaw}
use Rattle.sampling_port.specs.Order.{Progress, initial_progress, IsCallSequence}

-- These event records make up a lawful history: their events are the schedule and the lines are
-- theirs. Reads and writes keep the memory law, and each peer's event records are its calls in
-- their order.
pub record IsLawfulBy (world : World) (lines : List Line) (entries : List EventRecord) : Type 0 where
  pub events : map event_of entries ≡ schedule world.acts
  pub recorded : flat_map lines_of entries ≡ lines
  pub memory : MemoryLaw world.geometry (reverse lines)
  pub calls : (peer : ℕ) → (end : Progress) × IsCallSequence world peer initial_progress (own_entries peer entries) end

-- The lines are a lawful history: there are event records that make them up.
abbrev pub IsLawful : World → List Line → Type 0
IsLawful world lines = (entries : List EventRecord) × IsLawfulBy world lines entries

-- A schedule has at most one lawful history.
abbrev pub HasOneHistory : Type 0
HasOneHistory = (world : World) (lines others : List Line) → IsLawful world lines → IsLawful world others → lines ≡ others
