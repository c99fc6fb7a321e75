-- A draft as what its lines say.
use Rattle.std.specs.Prelude.{ℕ, List}
use Rattle.lawful_history.specs.declared.line.Line.{Line}
use Rattle.scenario_text.specs.Judge.{DraftView, world_of_draft}
use Rattle.scenario_text.specs.Drafts.{draft_view}
use Rattle.record_text.specs.declared.drafts.RecordPosition.{RecordPosition}
use Rattle.record_text.specs.declared.drafts.RecordPosition.TheVariants.{AtFirst, AtScenario, AtHistory, Ended}
use Rattle.record_text.specs.declared.drafts.RecordDraft.{RecordDraft}
use Rattle.record_text.specs.Judge as parts
use Rattle.record_text.specs.Judge.{Part}

abbrev pub part_at : RecordPosition → (version : ℕ) → DraftView → List Line → Part
part_at AtFirst version head lines = parts.AtFirst
part_at AtScenario version head lines = parts.InScenario version head
part_at AtHistory version head lines = parts.InHistory version (world_of_draft head) lines
part_at Ended version head lines = parts.Whole version (world_of_draft head) lines

abbrev pub part_view : RecordDraft → Part
part_view d = part_at d.position d.version (draft_view d.head) d.lines
