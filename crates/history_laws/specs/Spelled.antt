-- The words of a section hold each frame that its peer accepts.
use Rattle.std.specs.Prelude.{ℕ, ◌+◌, ◌%◌, List, ◌∷◌, ◌++◌, length, reverse}
use Rattle.section_map.specs.Geometry.{section_start}
use Rattle.split_ring.specs.Layout.{limit_of}
use Rattle.split_ring.specs.Spelling.{Spells}
use Rattle.scenario_text.specs.Scenario.{World, IsWorld}
use Rattle.lawful_history.specs.declared.line.Line.{Line}
use Rattle.lawful_history.specs.declared.line.Line.TheVariants.{Accept}
use Rattle.lawful_history.specs.Memory.{last_write}
use Rattle.lawful_history.specs.Lawful.{IsLawful}
use Rattle.history_laws.specs.SideEvents.{side_of}

-- The words of the output section of peer p after these lines, which are listed newest first.
abbrev pub section_words : World → List Line → ℕ → ℕ → ℕ
section_words world past p word = last_write past (section_start world.geometry p + word)

-- The words hold this frame at the position after the frames accepted, in the next descriptor.
abbrev pub SpellsNext : World → List Line → ℕ → List ℕ → Type 0
SpellsNext world past p frame = Spells world.queue (section_words world past p) (length (side_of past p).accepted)
    (length (side_of past p).accepted % limit_of world.queue) frame

-- After the access that accepts a frame, which has the mark, the section holds it, for all writes
-- of the other side.
abbrev pub HistoriesSpellAccepted : Type 0
HistoriesSpellAccepted = (world : World) (before after : List Line) (p : ℕ) (frame : List ℕ) → IsWorld world →
    IsLawful world (before ++ Accept p frame ∷ after) → SpellsNext world (reverse before) p frame
