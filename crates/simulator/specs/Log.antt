-- The log of a world state: the lines that were recorded and not drained, and the counts for the
-- session marks.
use Rattle.std.specs.Prelude.{ℕ, ◌≡◌, ◌<◌, ◌^◌, ◌==◌, Bool, false, true, Option, Some, None, List, [], ◌∷◌, ◌++◌, reverse, slice_index, slice_index_or, if◌then◌else◌}
use Rattle.scenario_text.specs.Scenario.{World, is_link}
use Rattle.lawful_history.specs.declared.line.Line.{Line}
use Rattle.lawful_history.specs.Frames.{has_frame, HaveFrames}
use Rattle.lawful_history.specs.Sessions.{opened_in, enters_run, marks_before, recorded_in}
use Rattle.simulator.specs.declared.log.Log.{Log}

-- The output of a record of this version: the lines that were drained.
pub record Output : Type 0 where
  pub version : ℕ
  pub drained : List Line

-- A record of this version that got no line.
abbrev pub no_output : (version : ℕ) → Output
no_output version = record { version = version; drained = [] }

-- The output with these lines appended.
abbrev pub given : Output → List Line → Output
given output lines = record output { drained = output.drained ++ lines }

-- The number of each peer's sessions fits into 32 bits.
abbrev pub AreFew : List Line → Type 0
AreFew past = (p : ℕ) → opened_in past p < 2 ^ 32

-- Whether this is the peer that enters RUN.
abbrev pub is_entering : Option ℕ → ℕ → Bool
is_entering None p = false
is_entering (Some entering) p = entering == p

-- The log counts the sessions of peers 0 and 1 as long as they are few, and has the peer that
-- enters RUN.
pub record Counts (past : List Line) (log : Log) : Type 0 where
  pub opened : AreFew past → (p : ℕ) → p < 2 → slice_index log.opened p ≡ opened_in past p
  pub entering : (p : ℕ) → enters_run past p ≡ is_entering log.entering p

-- The log after the lines `past`, newest first, of which the oldest were drained into `output`. The
-- output and the lines in the log are the lines of this history in a record of its version.
pub record IsLogOf (world : World) (output : Output) (past : List Line) (log : Log) : Type 0 where
  pub version : log.version ≡ output.version
  pub honest : (p : ℕ) → p < 2 → slice_index_or log.honest p false ≡ is_link world p
  pub counts : Counts past log
  pub lines : AreFew past → output.drained ++ log.lines ≡ recorded_in world output.version (reverse past)
  pub frames : HaveFrames log.lines

-- The marks before a line in a record of this version.
abbrev pub marks_in : World → (version : ℕ) → List Line → Line → List Line
marks_in world version past line = if version == 2 then marks_before world past line else []

-- The log records this line after its other lines.
abbrev pub Records : Line → Log → Log → Type 0
Records line old new = (world : World) (output : Output) (past : List Line) → has_frame line ≡ true → IsLogOf world output past old
    → IsLogOf world output (line ∷ past) new
