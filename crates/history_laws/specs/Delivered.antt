-- The values that a peer reads for an item hold the frame that it delivers. Lines are listed newest
-- first.
use Rattle.std.specs.Prelude.{ℕ, ◌+◌, ◌==◌, if◌then◌else◌, List, [], ◌∷◌, ◌++◌, length, map, reverse}
use Rattle.split_ring.specs.Spelling.{Spells}
use Rattle.scenario_text.specs.Scenario.{World, IsWorld}
use Rattle.call_grammar.specs.Calls.{EndConfig}
use Rattle.call_grammar.specs.ReadsOnce.{AreDistinct}
use Rattle.lawful_history.specs.declared.line.Line.{Line}
use Rattle.lawful_history.specs.declared.line.Line.TheVariants.{Deliver}
use Rattle.lawful_history.specs.Sides.{config_of}
use Rattle.lawful_history.specs.Lawful.{IsLawful}
use Rattle.history_laws.specs.SideEvents.{side_of}
use Rattle.history_laws.specs.Reads.{Got, reads_of}

-- The values that these reads met, as the words of the other's section, by their numbers from its
-- start. A word that wasn't read counts as 0.
abbrev pub words_read : EndConfig → List Got → ℕ → ℕ
words_read config [] word = 0
words_read config (read ∷ reads) word = if read.word == config.other_start + word then read.value else words_read config reads word

-- No word was read twice, and the values read hold the frame at this position of the other's
-- section.
pub record IsSpelledByReads (config : EndConfig) (number : ℕ) (reads : List Got) (frame : List ℕ) : Type 0 where
  pub once : AreDistinct (map (λ read. read.word) reads)
  pub entry : ℕ
  pub spelled : Spells config.sizes (words_read config reads) number entry frame

-- Each delivered frame and the reads of its item satisfy this, for all writes of the other side in
-- between.
abbrev pub DeliveredFramesAreSpelled : Type 0
DeliveredFramesAreSpelled = (world : World) (before after : List Line) (p : ℕ) (frame : List ℕ) → IsWorld world →
    IsLawful world (before ++ Deliver p frame ∷ after) →
    IsSpelledByReads (config_of world p) (length (side_of (reverse before) p).delivered) (reads_of (reverse before) p) frame
