-- Why the capture of a lawful record can be written: it has fewer lines than bytes, and no frame
-- longer than a packet may be.
use Rattle.std.proofs.Common.{◌≡◌, ℕ, ◌≤◌, ◌+◌, List, [], ◌∷◌, ◌++◌, length, sym, ap, subst, arith, length-append, take}
use Rattle.std.specs.Prelude.{All, map, Bool, true, false, if◌then◌else◌, ◌==◌, ◌&&◌}
use Rattle.std.proofs.lemmas.List.{length-take, length-map, length_push, append_assoc}
use Rattle.std.proofs.lemmas.List.Elements.{All-nil, All-cons, All-head, All-tail, All-append}
use Rattle.line_format.specs.Forms.{Piece, line_of}
use Rattle.line_format.specs.Rows.{Row, fields_of_row, row, line_of_row, text_of}
use Rattle.split_ring.specs.declared.sizes.TheConstants.{LONGEST_FRAME}
use Rattle.scenario_text.specs.Scenario.{World, IsWorld, is_link}
use Rattle.scenario_text.specs.Spelling as scenario
use Rattle.lawful_history.specs.declared.line.Line.{Line}
use Rattle.lawful_history.specs.declared.line.Line.TheVariants.{Deliver, Over}
use Rattle.lawful_history.specs.Sessions.{enters_run, session_mark, marks_before, with_sessions, recorded_in}
use Rattle.lawful_history.specs.Lawful.{IsLawful, IsLawfulIn}
use Rattle.history_laws.specs.Reads.{DeliveredFramesAreRead}
use Rattle.record_text.specs.declared.forms.LineForm.TheVariants.{Count}
use Rattle.record_text.specs.Table.{pieces_of}
use Rattle.record_text.specs.LineRows.{row_of_line}
use Rattle.record_text.specs.Versions.{first_line}
use Rattle.record_text.specs.Spelling.{history_rows}
use Rattle.frame_capture.specs.declared.reading.TheConstants.{LONGEST_CAPTURED}
use Rattle.frame_capture.specs.Deliveries.{IsShortLine}
use Rattle.ivshm_cli.specs.Replay.{Spells}

-- ---- lines

row_has_a_byte : {F : Type 0} (pieces : F → List Piece) (r : Row F) → 1 ≤ length (line_of_row pieces r)
unfolding line_of_row
row_has_a_byte pieces r = omega (arith, length-append (line_of (fields_of_row pieces r)) (10 ∷ []))

rows_within : {F : Type 0} (pieces : F → List Piece) (rows : List (Row F)) → length rows ≤ length (text_of pieces rows)
rows_within pieces [] = omega arith
rows_within pieces (r ∷ rows) =
    let first = row_has_a_byte pieces r in
    let rest = rows_within pieces rows in
    omega (arith, length-append (line_of_row pieces r) (text_of pieces rows))

-- A record has fewer lines than bytes.
pub lines_within : (bytes : List ℕ) (world : World) (version : ℕ) (history : List Line) → Spells bytes world version history → length history ≤ length bytes
lines_within bytes world version history spelled =
    let rows = rows_within pieces_of (history_rows history) in
    let text = text_of pieces_of (history_rows history) in
    let counted = length_push (map row_of_line history) (row Count (length history ∷ []) []) in
    let inner = length-append (scenario.spelling world) text in
    let outer = length-append (first_line version) (10 ∷ scenario.spelling world ++ text) in
    omega (arith, length-map history row_of_line, ap length spelled.1)

-- ---- frames

cut_short : (n : ℕ) (bytes frame : List ℕ) → frame ≡ take n bytes → n ≤ LONGEST_FRAME → length frame ≤ LONGEST_CAPTURED
cut_short n bytes frame is few = omega (arith, ap length is, length-take n bytes)

short_line : DeliveredFramesAreRead → (world : World) → IsWorld world → (before after : List Line) (line : Line) → IsLawful world (before ++ line ∷ after) → IsShortLine line
short_line read world is before after (Deliver peer frame) lawful =
    let r = read world before after peer frame is lawful in
    cut_short _ _ frame r.frame_is r.good.bytes.1
short_line read world is before after _ lawful = tt

short_rest : DeliveredFramesAreRead → (world : World) → IsWorld world → (before after : List Line) → IsLawful world (before ++ after) → All IsShortLine after
short_rest read world is before [] lawful = All-nil IsShortLine
short_rest read world is before (line ∷ after) lawful =
    All-cons IsShortLine line after (short_line read world is before after line lawful)
    (short_rest read world is (before ++ line ∷ []) after (subst (λ (ls : List Line). IsLawful world ls) (sym (append_assoc before (line ∷ []) after)) lawful))

short_marks : (world : World) (older : List Line) (line : Line) → All IsShortLine (marks_before world older line)
short_marks world older (Over peer) = from (is_link world peer && enters_run older peer) where
  from : (enters : Bool) → All IsShortLine (if enters then session_mark world older peer ∷ [] else [])
  from true = All-cons IsShortLine (session_mark world older peer) [] tt (All-nil IsShortLine)
  from false = All-nil IsShortLine
short_marks world older _ = All-nil IsShortLine

short_recorded : (world : World) (older history : List Line) → All IsShortLine history → All IsShortLine (with_sessions world older history)
short_recorded world older [] short = All-nil IsShortLine
short_recorded world older (line ∷ history) short =
    All-append IsShortLine (marks_before world older line) (line ∷ with_sessions world (line ∷ older) history) (short_marks world older line)
    (All-cons IsShortLine line (with_sessions world (line ∷ older) history) (All-head IsShortLine line history short)
    (short_recorded world (line ∷ older) history (All-tail IsShortLine line history short)))

-- Each frame that a lawful history delivers fits into a packet.
pub short_lines : DeliveredFramesAreRead → (world : World) (version : ℕ) (lines : List Line) → IsWorld world → IsLawfulIn world version lines → All IsShortLine lines
short_lines read world version lines is lawful =
    subst (λ (ls : List Line). All IsShortLine ls) (sym lawful.2) (from (version == 2)) where
      short : All IsShortLine lawful.0
      short = short_rest read world is [] lawful.0 lawful.1

      from : (marked : Bool) → All IsShortLine (if marked then with_sessions world [] lawful.0 else lawful.0)
      from true = short_recorded world [] lawful.0 short
      from false = short
