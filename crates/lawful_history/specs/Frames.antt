-- The histories that have a spelling.
use Rattle.std.specs.Prelude.{◌≡◌, ◌==◌, not, Bool, true, List, length}
use Rattle.std.specs.List.{list_all}
use Rattle.lawful_history.specs.declared.line.Line.{Line}
use Rattle.lawful_history.specs.declared.line.Line.TheVariants.{Accept, Deliver}

-- The frame of the line, if it has one, has at least one byte.
abbrev pub has_frame : Line → Bool
has_frame (Accept peer frame) = not (length frame == 0)
has_frame (Deliver peer frame) = not (length frame == 0)
has_frame _ = true

-- Every frame of the history has at least one byte. The line of an empty frame has no spelling.
abbrev pub HaveFrames : List Line → Type 0
HaveFrames lines = list_all has_frame lines ≡ true
