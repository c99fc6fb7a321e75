-- The content of one line, whatever the lines before it are.
use Rattle.std.specs.Prelude.{◌≡◌, ◌==◌, if◌then◌else◌, true, List, [], ◌∷◌, ◌++◌, length, Result, Ok, Err}
use Rattle.line_format.specs.declared.reading.LineFault.{LineFault}
use Rattle.line_format.specs.Reading.{Fails}
use Rattle.lawful_history.specs.declared.line.Line as lines
use Rattle.lawful_history.specs.Frames.{has_frame}
use Rattle.record_text.specs.declared.faults.RecordCause.{RecordCause}
use Rattle.record_text.specs.declared.faults.RecordCause.TheVariants.{BadCount}
use Rattle.record_text.specs.declared.taking.LineContent.{LineContent}
use Rattle.record_text.specs.declared.taking.LineContent.TheVariants.{Line, Count}
use Rattle.record_text.specs.Judge.{History, Longer, Counted}

-- The history after a line: the line is appended, and the count has to be the number of lines.
abbrev pub history_after : LineContent → List lines.Line → Result History RecordCause
history_after (Line line) before = Ok (Longer (before ++ line ∷ []))
history_after (Count kept) before = if kept == length before then Ok (Counted before) else Err (BadCount kept (length before))

-- After each history the line has this content, or the line is wrong, unless memory ran out.
abbrev pub HasContent : Result LineContent (LineFault RecordCause) → (List lines.Line → Result History RecordCause) → Type 0
HasContent (Ok content) said = (before : List lines.Line) → said before ≡ history_after content before
HasContent (Err fault) said = (before : List lines.Line) → Fails fault (said before)

-- The frame of a line, if it has one, has at least one byte.
abbrev pub HasFrame : LineContent → Type 0
HasFrame (Line line) = has_frame line ≡ true
HasFrame (Count kept) = Unit {0}
