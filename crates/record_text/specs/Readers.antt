-- Reading a record's text line by line.
use Rattle.std.specs.Prelude.{◌≡◌, ℕ, Bool, true, false, List, [], ◌∷◌, ◌++◌, length, Option, Some, None, Result, Ok, Err}
use Rattle.line_format.specs.Forms.{cuts}
use Rattle.line_format.specs.Machine.{read_pieces}
use Rattle.scenario_text.specs.Scenario.{World}
use Rattle.lawful_history.specs.declared.line.Line.{Line}
use Rattle.lawful_history.specs.Frames.{has_frame}
use Rattle.record_text.specs.declared.faults.RecordFault.{RecordFault}
use Rattle.record_text.specs.declared.reader.Reader.{Reader}
use Rattle.record_text.specs.Spelling.{IsSpelling}
use Rattle.record_text.specs.Growing.{history_text}
use Rattle.record_text.specs.Judge.{InHistory, machine, reading, answer}
use Rattle.record_text.specs.Answers.{Refuses}

-- The text is of this version and this scenario, and these lines of its history were read and
-- counted. The bytes left decide whether the text is a record.
pub record IsReading (bytes : List ℕ) (version : ℕ) (world : World) (lines : List Line) (reader : Reader) : Type 0 where
  pub comes : read_pieces machine (InHistory version world lines) reader.number (cuts 10 reader.rest.now) ≡ reading bytes
  pub count : reader.count ≡ length lines

-- This holds for each text, version, scenario and lines that the reader may have read so far.
abbrev pub InEachReading : Reader → (List ℕ → ℕ → World → List Line → Type 0) → Type 0
InEachReading reader holds =
    (bytes : List ℕ) (version : ℕ) (world : World) (lines : List Line) → IsReading bytes version world lines reader → holds bytes version world lines

-- The next line was read, or the text is the record of the lines read. Otherwise the error is the
-- text's first fault, unless memory ran out.
abbrev pub ReadsOn : (bytes : List ℕ) (version : ℕ) (world : World) (lines : List Line) → Result (Option Line) RecordFault → Reader → Type 0
ReadsOn bytes version world lines (Ok (Some line)) now = IsReading bytes version world (lines ++ line ∷ []) now × (has_frame line ≡ true)
ReadsOn bytes version world lines (Ok None) now = IsSpelling (record { version = version; world = world; lines = lines }) bytes × (now.count ≡ length lines)
ReadsOn bytes version world lines (Err fault) now = Refuses fault (answer bytes)

-- The bytes begin with the text of these lines.
abbrev pub BeginWith : List ℕ → List Line → Type 0
BeginWith bytes lines = (rest : List ℕ) × (bytes ≡ history_text lines ++ rest)

-- These lines were read, or none.
abbrev pub GoesPast : (bytes : List ℕ) (version : ℕ) (world : World) (before lines : List Line) → (is : Bool) → Reader → Type 0
GoesPast bytes version world before lines true now = IsReading bytes version world (before ++ lines) now
GoesPast bytes version world before lines false now = IsReading bytes version world before now
