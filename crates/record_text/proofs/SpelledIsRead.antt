-- The spelling of a record is read as the record.
use Rattle.std.proofs.Common.{◌≡◌, ℕ, suc, ◌+◌, ◌^◌, ◌<◌, true, false, eqb, List, [], ◌∷◌, ◌++◌, length, map, Some, None, Result, Ok, refl, sym, ap, subst, ◌∙◌, append_assoc, arith, eq-eqb}
use Rattle.std.specs.List.{list_all}
use Rattle.std.proofs.lemmas.List.{append-nil, map-append, length-append, length-map}
use Rattle.std.proofs.lemmas.List.Concat.{flat_map-append}
use Rattle.line_format.specs.Forms.{numbers_of, hex_of, hex_bytes, is_printable}
use Rattle.line_format.specs.Rows.{Row, row, text_of, fields_of_row}
use Rattle.line_format.specs.Machine.{Leads, HasNoNewline, text_of_lines}
use Rattle.line_format.proofs.SpellingsAreRead.{both_true, numbers_of-spell}
use Rattle.line_format.proofs.LinesAreCut.{free_of}
use Rattle.line_format.proofs.ReadingLines.{Goes, goes-append, goes-leads}
use Rattle.line_format.proofs.FormsOfRows.{finds}
use Rattle.line_format.proofs.LinesOfRows.{IsRow, bare, row_plain, row_printable, row_cut, hex_of-spell, text_is_lines}
use Rattle.line_format.proofs.LawsOfTexts.{IsForward, spelled_is_read}
use Rattle.line_format.proofs.RowTexts.{line-cons}
use Rattle.lawful_history.specs.declared.line.Line.{Line}
use Rattle.scenario_text.specs.Scenario.{World}
use Rattle.scenario_text.specs.Table as scenario_table
use Rattle.scenario_text.specs.Spelling as scenario
use Rattle.scenario_text.specs.Judge as scenario_judge
use Rattle.scenario_text.specs.Judge.{DraftView, at_start, world_of_draft}
use Rattle.scenario_text.proofs.SpelledIsRead as scenario_laws
use Rattle.record_text.specs.declared.faults.RecordCause.{RecordCause}
use Rattle.record_text.specs.declared.forms.LineForm.{LineForm}
use Rattle.record_text.specs.declared.forms.LineForm.TheVariants.{Count}
use Rattle.lawful_history.specs.Frames.{has_frame, HaveFrames}
use Rattle.record_text.specs.Versions.{first_line}
use Rattle.record_text.specs.Table.{pieces_of, all_forms}
use Rattle.record_text.specs.LineRows.{row_of_line, entry_of, is_frame}
use Rattle.record_text.specs.Spelling.{Record, Fits, AllFit, IsRecord, history_rows, spelling, IsSpelling, line_count}
use Rattle.record_text.specs.Judge.{AtFirst, InScenario, InHistory, Whole, History, Longer, Counted, put, judge, history_step, step, machine, sense, answer}
use Rattle.record_text.proofs.VersionLines.{IsOneOrTwo, One, Two, one_or_two}
use Rattle.record_text.proofs.FormsAreTable.{is_table}
use Rattle.record_text.proofs.RowsOfLines.{entry_of-row, frame_is}

-- ---- the scenario's lines

pub goes_on : (version : ℕ) (d now : DraftView) (line : List ℕ) → scenario_judge.step d line ≡ Ok now → scenario_judge.has_ended now ≡ false → step (InScenario version d) line ≡ Ok (InScenario version now)
goes_on version d now line is on = rw (is, on) refl

pub goes_over : (version : ℕ) (d now : DraftView) (line : List ℕ) → scenario_judge.step d line ≡ Ok now → scenario_judge.has_ended now ≡ true → step (InScenario version d) line ≡ Ok (InHistory version (world_of_draft now) [])
goes_over version d now line is over = rw (is, over) refl

-- The lines of a scenario are the lines of a record's scenario part.
pub scenario_goes : (version : ℕ) (d e : DraftView) (lines : List (List ℕ)) → Leads scenario_judge.machine d lines e → Goes machine (InScenario version d) lines (InHistory version (world_of_draft e) [])
scenario_goes version d e [] leads = absurd leads
scenario_goes version d e (line ∷ []) leads = (InHistory version (world_of_draft e) [], leads.0, goes_over version d e line leads.1 leads.2, refl, refl)
scenario_goes version d e (line ∷ next ∷ more) leads = (InScenario version leads.0, leads.1, goes_on version d leads.0 line leads.2 leads.3, refl, scenario_goes version leads.0 e (next ∷ more) leads.4)

-- ---- the history's lines

judge-row : (lines : List Line) (r : Row LineForm) (said : Result History RecordCause) → IsRow pieces_of r → is_frame r.form r.frame ≡ true → put lines r.numbers (entry_of r.form r.numbers r.frame) ≡ said → judge lines r.form (fields_of_row pieces_of r) ≡ said
unfolding judge
judge-row lines r said is framed puts =
    let ns : numbers_of (pieces_of r.form) (fields_of_row pieces_of r) ≡ Some r.numbers = numbers_of-spell (pieces_of r.form) r.numbers r.frame (is_table.good r.form) is.values in
    let bs : hex_bytes (hex_of (pieces_of r.form) (fields_of_row pieces_of r)) ≡ Some r.frame = hex_of-spell (pieces_of r.form) r.numbers r.frame is.values is.hex in
    rw (ns, bs, framed) puts

history-row : (lines : List Line) (r : Row LineForm) (said : Result History RecordCause) → IsRow pieces_of r → is_frame r.form r.frame ≡ true → put lines r.numbers (entry_of r.form r.numbers r.frame) ≡ said → history_step lines (bare pieces_of r) ≡ said
unfolding history_step
history-row lines r said is framed puts =
    rw (row_printable pieces_of all_forms is_table r is, row_cut pieces_of all_forms is_table r is, finds pieces_of all_forms is_table r.form r.numbers r.frame is.values) (judge-row lines r said is framed puts)

row_fits : (line : Line) → Fits line → IsRow pieces_of (row_of_line line)
row_fits line fits = record { values = fits.values; hex = fits.bytes }

-- A line in its one spelling is read as itself.
pub line_is_recorded : (lines : List Line) (line : Line) → Fits line → has_frame line ≡ true → history_step lines (bare pieces_of (row_of_line line)) ≡ Ok (Longer (lines ++ line ∷ []))
line_is_recorded lines line fits framed =
    let puts : put lines (row_of_line line).numbers (entry_of (row_of_line line).form (row_of_line line).numbers (row_of_line line).frame) ≡ Ok (Longer (lines ++ line ∷ [])) = rw (entry_of-row line) refl in
    history-row lines (row_of_line line) (Ok (Longer (lines ++ line ∷ []))) (row_fits line fits) (frame_is line ∙ framed) puts

line_step : (version : ℕ) (w : World) (lines : List Line) (line : Line) → Fits line → has_frame line ≡ true → step (InHistory version w lines) (bare pieces_of (row_of_line line)) ≡ Ok (InHistory version w (lines ++ line ∷ []))
line_step version w lines line fits framed = rw (line_is_recorded lines line fits framed) refl

pub history_goes : (version : ℕ) (w : World) (front rest : List Line) → AllFit rest → HaveFrames rest → Goes machine (InHistory version w front) (map (bare pieces_of) (map row_of_line rest)) (InHistory version w (front ++ rest))
history_goes version w front [] fits frames = ap (λ (ls : List Line). InHistory version w ls) (sym (append-nil front))
history_goes version w front (line ∷ rest) fits frames =
    let here : Fits line = fits 0 line (omega arith) in
    let later : AllFit rest = λ k d lt. fits (suc k) d (omega arith) in
    let framed = both_true (has_frame line) (list_all has_frame rest) frames in
    let goes = subst (λ (ls : List Line). Goes machine (InHistory version w (front ++ line ∷ [])) (map (bare pieces_of) (map row_of_line rest)) (InHistory version w ls)) (append_assoc front (line ∷ []) rest)
    (history_goes version w (front ++ line ∷ []) rest later framed.1) in
    (InHistory version w (front ++ line ∷ []), row_plain pieces_of all_forms is_table (row_of_line line) (row_fits line here), line_step version w front line here framed.0, refl, goes)

-- ---- the whole text

abbrev pub scenario_lines : World → List (List ℕ)
scenario_lines w = map (bare scenario_table.pieces_of) (scenario.rows_of w)

abbrev pub history_lines : List Line → List (List ℕ)
history_lines lines = map (bare pieces_of) (map row_of_line lines)

abbrev pub count_line : List Line → List ℕ
count_line lines = bare pieces_of (row Count (length lines ∷ []) [])

-- The lines before the count.
abbrev pub body : Record → List (List ℕ)
body r = first_line r.version ∷ (scenario_lines r.world ++ history_lines r.lines)

count_row : (lines : List Line) → length lines < 2 ^ 64 → IsRow pieces_of (row Count (length lines ∷ []) [])
count_row lines few = record { values = (omega arith, omega arith, tt); hex = refl }

count_step : (version : ℕ) (w : World) (lines : List Line) → length lines < 2 ^ 64 → step (InHistory version w lines) (count_line lines) ≡ Ok (Whole version w lines)
count_step version w lines few =
    let same : eqb (length lines) (length lines) ≡ true = eq-eqb _ _ refl in
    let puts : put lines (length lines ∷ []) None ≡ Ok (Counted lines) = rw same refl in
    rw (history-row lines (row Count (length lines ∷ []) []) (Ok (Counted lines)) (count_row lines few) refl puts) refl

first_plain : (version : ℕ) → IsOneOrTwo version → HasNoNewline (first_line version)
first_plain version (One is) = subst (λ (v : ℕ). HasNoNewline (first_line v)) (sym is) (free_of is_printable 10 (λ e. cc) (first_line 1) refl)
first_plain version (Two is) = subst (λ (v : ℕ). HasNoNewline (first_line v)) (sym is) (free_of is_printable 10 (λ e. cc) (first_line 2) refl)

first_step : (version : ℕ) → IsOneOrTwo version → step AtFirst (first_line version) ≡ Ok (InScenario version at_start)
first_step version (One is) = subst (λ (v : ℕ). step AtFirst (first_line v) ≡ Ok (InScenario v at_start)) (sym is) refl
first_step version (Two is) = subst (λ (v : ℕ). step AtFirst (first_line v) ≡ Ok (InScenario v at_start)) (sym is) refl

-- The lines of a record lead to its end.
pub spelled_leads : (r : Record) → IsRecord r → Leads machine AtFirst (body r ++ count_line r.lines ∷ []) (Whole r.version r.world r.lines)
spelled_leads r is =
    let v = r.version in
    let w = r.world in
    let one = one_or_two v is.version in
    let part = scenario_goes v at_start (scenario_laws.at_end w) (scenario_lines w) (scenario_laws.spelled_leads w is.world) in
    let world : world_of_draft (scenario_laws.at_end w) ≡ w = scenario_laws.world_is w w.acts is.world in
    let part' = subst (λ (x : World). Goes machine (InScenario v at_start) (scenario_lines w) (InHistory v x [])) world part in
    let all = goes-append machine (InScenario v at_start) (scenario_lines w) (history_lines r.lines) (InHistory v w []) (InHistory v w r.lines) part' (history_goes v w [] r.lines is.fits is.frames) in
    let whole : Goes machine AtFirst (body r) (InHistory v w r.lines) = (InScenario v at_start, first_plain v one, first_step v one, refl, all) in
    goes-leads machine AtFirst (body r) (InHistory v w r.lines) (count_line r.lines) (Whole v w r.lines) whole (row_plain pieces_of all_forms is_table (row Count (length r.lines ∷ []) []) (count_row r.lines is.count)) (count_step v w r.lines is.count) refl

lines-append : (ls ms : List (List ℕ)) → text_of_lines (ls ++ ms) ≡ text_of_lines ls ++ text_of_lines ms
lines-append ls ms = flat_map-append (λ l. l ++ 10 ∷ []) ls ms

pub text_is : (r : Record) → spelling r ≡ text_of_lines (body r ++ count_line r.lines ∷ [])
text_is r =
    let history : text_of pieces_of (history_rows r.lines) ≡ text_of_lines (history_lines r.lines ++ count_line r.lines ∷ []) = text_is_lines pieces_of (history_rows r.lines) ∙ ap text_of_lines (map-append (bare pieces_of) (map row_of_line r.lines) (row Count (length r.lines ∷ []) [] ∷ [])) in
    let parts : scenario.spelling r.world ++ text_of pieces_of (history_rows r.lines) ≡ text_of_lines (scenario_lines r.world ++ history_lines r.lines ++ count_line r.lines ∷ []) =
    rw (scenario_laws.text_is r.world, history) (sym (lines-append (scenario_lines r.world) (history_lines r.lines ++ count_line r.lines ∷ [])) ∙ ap text_of_lines (sym (append_assoc (scenario_lines r.world) (history_lines r.lines) (count_line r.lines ∷ [])))) in
    let first = first_line r.version in
    append_assoc first (10 ∷ scenario.spelling r.world) (text_of pieces_of (history_rows r.lines)) ∙ ap (λ (t : List ℕ). first ++ 10 ∷ t) parts ∙ sym (line-cons first (scenario_lines r.world ++ history_lines r.lines ++ count_line r.lines ∷ []))

counted : (r : Record) → 0 + length (body r ++ count_line r.lines ∷ []) + 1 ≡ line_count r + 1
counted r =
    let all : length (body r ++ count_line r.lines ∷ []) ≡ length (body r) + 1 = length-append (body r) (count_line r.lines ∷ []) in
    let two : length (scenario_lines r.world ++ history_lines r.lines) ≡ length (scenario_lines r.world) + length (history_lines r.lines) = length-append (scenario_lines r.world) (history_lines r.lines) in
    let rows : length (scenario_lines r.world) ≡ length (scenario.rows_of r.world) = length-map (scenario.rows_of r.world) (bare scenario_table.pieces_of) in
    let lines : length (history_lines r.lines) ≡ length r.lines = length-map (map row_of_line r.lines) (bare pieces_of) ∙ length-map r.lines row_of_line in
    omega arith

pub is_forward : IsForward machine sense IsSpelling line_count
is_forward = record {
  has = λ r bytes is. record {
    lines = body r ++ count_line r.lines ∷ [];
    at_end = Whole r.version r.world r.lines;
    text = is.1 ∙ text_is r;
    leads = spelled_leads r is.0;
    says = refl;
    counted = counted r;
  };
}

pub is_answered : (r : Record) (bytes : List ℕ) → IsSpelling r bytes → answer bytes ≡ Ok r
is_answered r bytes is = spelled_is_read is_forward r bytes is
