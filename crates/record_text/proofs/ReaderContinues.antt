-- A text that is read on from a line of its history.
use Rattle.std.proofs.Common.{◌≡◌, ℕ, ◌+◌, ◌<◌, ◌≤◌, Bool, true, false, cond, eqb, List, [], ◌∷◌, ◌++◌, length, map, Option, Some, None, Result, Ok, Err, refl, sym, ap, subst, ◌∙◌, append_assoc, length-append, arith, eq-eqb}
use Rattle.std.proofs.lemmas.Bool.{ne_eqb}
use Rattle.std.proofs.lemmas.List.{length-map}
use Rattle.std.proofs.lemmas.List.Concat.{flat_map-cons}
use Rattle.std.proofs.lemmas.List.Splits.{slice_split_at}
use Rattle.line_format.specs.declared.reading.TextFault.{TextFault}
use Rattle.line_format.specs.Reading.{Reads}
use Rattle.line_format.specs.Forms.{cuts}
use Rattle.line_format.specs.Machine.{Machine, Wrong, At, After, read_pieces, text_of_lines}
use Rattle.line_format.proofs.ReadingLines.{Goes, good, some_piece}
use Rattle.line_format.proofs.ReadingLoop.{wrong_line, good_line, last_line, after_end}
use Rattle.line_format.proofs.LinesOfRows.{bare, text_is_lines, text-cons}
use Rattle.lawful_history.specs.declared.line.Line.{Line}
use Rattle.lawful_history.specs.Frames.{HaveFrames}
use Rattle.scenario_text.specs.declared.faults.Cause.{Cause}
use Rattle.scenario_text.specs.Scenario.{World}
use Rattle.scenario_text.specs.Judge as scenario_judge
use Rattle.scenario_text.specs.Judge.{DraftView, at_start, world_of_draft}
use Rattle.line_format.proofs.AnswerLaws.{refuses}
use Rattle.record_text.specs.declared.drafts.RecordPosition.{RecordPosition}
use Rattle.record_text.specs.declared.drafts.RecordPosition.TheVariants.{AtFirst, AtScenario, AtHistory, Ended}
use Rattle.record_text.specs.declared.faults.RecordCause.{RecordCause}
use Rattle.record_text.specs.declared.faults.RecordCause.TheVariants.{BadCount}
use Rattle.record_text.specs.Table.{pieces_of}
use Rattle.record_text.specs.LineRows.{row_of_line}
use Rattle.record_text.specs.Spelling.{Record, AllFit, IsSpelling}
use Rattle.record_text.specs.Growing.{history_text}
use Rattle.record_text.specs.Positions.{is_before_history}
use Rattle.record_text.specs.Drafts.{part_at}
use Rattle.record_text.specs.Judge as parts
use Rattle.record_text.specs.Judge.{Part, InHistory, Whole, is_whole, History, Longer, Counted, after_first, after_scenario, history_step, with_world, step, machine, reading, answer, sense}
use Rattle.record_text.specs.Answers.{Refuses, fault_of_text}
use Rattle.record_text.proofs.SpelledIsRead.{history_goes}
use Rattle.record_text.proofs.ReadIsSpelled.{is_read, Reads as HasSpelling}

-- The fault of the lines is the fault that is returned.
pub refused : (bytes : List ℕ) (fault : TextFault RecordCause) → Reads (λ (p : Part). p) (Err fault) (reading bytes) → Refuses (fault_of_text fault) (answer bytes)
refused bytes fault is = refuses sense refl (λ (p : Part). p) fault (reading bytes) is

abbrev whole_record : Part → Record
whole_record (Whole version w lines) = record { version = version; world = w; lines = lines }
whole_record p = record { version = 0; world = world_of_draft at_start; lines = [] }

-- A text that is read to its end is a record.
pub is_record : (bytes : List ℕ) (version : ℕ) (world : World) (lines : List Line) → reading bytes ≡ Ok (Whole version world lines) → IsSpelling (record { version = version; world = world; lines = lines }) bytes
is_record bytes version world lines is = elim (is_read bytes (Whole version world lines) is) [ HasSpelling n w ls same spelled ↦ subst (λ (r : Record). IsSpelling r bytes) (sym (ap whole_record same)) spelled ]

module _ (bytes : List ℕ) (version : ℕ) (world : World) (lines : List Line) (number : ℕ) (rest line more : List ℕ)
    (comes : read_pieces machine (InHistory version world lines) number (cuts 10 rest) ≡ reading bytes) (cut : cuts 10 rest ≡ line ∷ cuts 10 more) where
  -- The line is wrong.
  pub wrong_there : (cause : RecordCause) → history_step lines line ≡ Err cause → reading bytes ≡ Err (At cause (number + 1))
  wrong_there cause is = wrong_line machine (InHistory version world lines) number rest line more cause (reading bytes) cut (ap (with_world version world) is) comes

  -- The line is one of the history.
  pub one_more : (found : Line) → history_step lines line ≡ Ok (Longer (lines ++ found ∷ [])) → read_pieces machine (InHistory version world (lines ++ found ∷ [])) (number + 1) (cuts 10 more) ≡ reading bytes
  one_more found is =
      good_line machine (InHistory version world lines) (InHistory version world (lines ++ found ∷ [])) number rest line more (reading bytes) cut (ap (with_world version world) is) refl comes

  -- The line is the count, and nothing is after it.
  pub ends_there : history_step lines line ≡ Ok (Counted lines) → length more ≡ 0 → reading bytes ≡ Ok (Whole version world lines)
  ends_there is none = last_line machine (InHistory version world lines) (Whole version world lines) number rest line more (reading bytes) cut (ap (with_world version world) is) refl none comes

  -- Something is after it.
  pub goes_on_after : history_step lines line ≡ Ok (Counted lines) → 0 < length more → reading bytes ≡ Err (After (number + 2))
  goes_on_after is some = after_end machine (InHistory version world lines) (Whole version world lines) number rest line more (reading bytes) cut (ap (with_world version world) is) refl some comes

-- The count is right, or it isn't.
pub right_count : (lines : List Line) (kept count : ℕ) (said : Result History RecordCause) → said ≡ cond (eqb kept (length lines)) (Ok (Counted lines)) (Err (BadCount kept (length lines))) → count ≡ length lines → kept ≡ count → said ≡ Ok (Counted lines)
right_count lines kept count said is number same = let test : eqb kept (length lines) ≡ true = eq-eqb _ _ (same ∙ number) in is ∙ rw test refl

pub wrong_count : (lines : List Line) (kept count : ℕ) (said : Result History RecordCause) → said ≡ cond (eqb kept (length lines)) (Ok (Counted lines)) (Err (BadCount kept (length lines))) → count ≡ length lines → (kept ≡ count → ⊥) → said ≡ Err (BadCount kept count)
wrong_count lines kept count said is number other =
    let test : eqb kept (length lines) ≡ false = ne_eqb kept (length lines) (λ same. other (same ∙ sym number)) in
    is ∙ rw test (ap (λ n. Err (BadCount kept n)) (sym number))

-- ---- lines that are passed over

one_line : (line rest : List ℕ) (lines : List (List ℕ)) → text_of_lines (line ∷ lines) ++ rest ≡ line ++ 10 ∷ (text_of_lines lines ++ rest)
one_line line rest lines =
    ap (λ (t : List ℕ). t ++ rest) (flat_map-cons (λ l. l ++ 10 ∷ []) line lines ∙ append_assoc line (10 ∷ []) (text_of_lines lines)) ∙ append_assoc line (10 ∷ text_of_lines lines) rest

same_place : {S C : Type 0} (m : Machine S C) (e : S) (a b : ℕ) (pieces : List (List ℕ)) → a ≡ b → read_pieces m e a pieces ≡ read_pieces m e b pieces
same_place m e a b pieces is = ap (λ n. read_pieces m e n pieces) is

-- Good lines lead to what comes after them.
pub goes_past : {S C : Type 0} (m : Machine S C) (d : S) (n : ℕ) (lines : List (List ℕ)) (e : S) (rest : List ℕ) → Goes m d lines e
    → read_pieces m d n (cuts 10 (text_of_lines lines ++ rest)) ≡ read_pieces m e (n + length lines) (cuts 10 rest)
goes_past m d n [] e rest goes = ap (λ x. read_pieces m x n (cuts 10 rest)) goes ∙ same_place m e n (n + length {A = List ℕ} []) (cuts 10 rest) (omega arith)
goes_past m d n (line ∷ lines) e rest goes =
    let later = text_of_lines lines ++ rest in
    let cut = ap (cuts 10) (one_line line rest lines) ∙ slice_split_at (λ b. eqb b 10) line 10 later goes.1 refl in
    ap (read_pieces m d n) cut ∙ good m d goes.0 n line (cuts 10 later) (some_piece later) goes.2 goes.3 ∙ goes_past m goes.0 (n + 1) lines e rest goes.4
    ∙ same_place m e (n + 1 + length lines) (n + length (line ∷ lines)) (cuts 10 rest) (omega arith)

-- A history's text is at least as long as its lines are many.
pub are_few : (lines : List Line) → length lines ≤ length (history_text lines)
are_few [] = omega arith
are_few (line ∷ lines) =
    let row = row_of_line line in
    let rows = map row_of_line lines in
    let long = ap length (text-cons pieces_of row rows) ∙ length-append (bare pieces_of row) (10 ∷ history_text lines) in
    omega (arith, long, are_few lines)

-- History lines in their one spelling are passed over.
pub passed : (version : ℕ) (world : World) (before lines : List Line) (number : ℕ) (old rest : List ℕ) (said : Result Part (Wrong RecordCause)) → AllFit lines → HaveFrames lines
    → read_pieces machine (InHistory version world before) number (cuts 10 old) ≡ said → old ≡ history_text lines ++ rest
    → read_pieces machine (InHistory version world (before ++ lines)) (number + length lines) (cuts 10 rest) ≡ said
passed version world before lines number old rest said fits frames comes is =
    let texts = map (bare pieces_of) (map row_of_line lines) in
    let text : old ≡ text_of_lines texts ++ rest = is ∙ ap (λ (t : List ℕ). t ++ rest) (text_is_lines pieces_of (map row_of_line lines)) in
    let count : length texts ≡ length lines = length-map (map row_of_line lines) (bare pieces_of) ∙ length-map lines row_of_line in
    sym (ap (λ (t : List ℕ). read_pieces machine (InHistory version world before) number (cuts 10 t)) text
    ∙ goes_past machine (InHistory version world before) number texts (InHistory version world (before ++ lines)) rest (history_goes version world before lines fits frames)
    ∙ same_place machine (InHistory version world (before ++ lines)) (number + length texts) (number + length lines) (cuts 10 rest) (ap (λ k. number + k) count)) ∙ comes

-- ---- before the history

-- The text hasn't ended, and no line of the history was read.
pub record Led (position : RecordPosition) (version : ℕ) (head : DraftView) (lines : List Line) : Type 0 where
  pub goes_on : is_whole (part_at position version head lines) ≡ false
  pub none : lines ≡ []

first_leads : (o : Option ℕ) (position : RecordPosition) (version : ℕ) (head : DraftView) (lines : List Line) → (is_before_history position ≡ true → lines ≡ []) → after_first o ≡ Ok (part_at position version head lines)
    → Led position version head lines
first_leads None position version head lines fresh is = absurd cc
first_leads (Some v) AtFirst version head lines fresh is = absurd cc
first_leads (Some v) AtScenario version head lines fresh is = record { goes_on = refl; none = fresh refl }
first_leads (Some v) AtHistory version head lines fresh is = absurd cc
first_leads (Some v) Ended version head lines fresh is = absurd cc

abbrev lines_of : Part → List Line
lines_of (InHistory version w lines) = lines
lines_of p = []

abbrev part_of : Result Part RecordCause → Part
part_of (Ok p) = p
part_of (Err cause) = parts.AtFirst

scenario_leads : (b : Bool) (v : ℕ) (w : World) (d : DraftView) (position : RecordPosition) (version : ℕ) (head : DraftView) (lines : List Line) → (is_before_history position ≡ true → lines ≡ [])
    → ◌≡◌ {A = Result Part RecordCause} (Ok (cond b (InHistory v w []) (parts.InScenario v d))) (Ok (part_at position version head lines)) → Led position version head lines
scenario_leads b v w d AtFirst version head lines fresh is = record { goes_on = refl; none = fresh refl }
scenario_leads b v w d AtScenario version head lines fresh is = record { goes_on = refl; none = fresh refl }
scenario_leads true v w d AtHistory version head lines fresh is = record { goes_on = refl; none = sym (ap (λ r. lines_of (part_of r)) is) }
scenario_leads false v w d AtHistory version head lines fresh is = absurd cc
scenario_leads true v w d Ended version head lines fresh is = absurd cc
scenario_leads false v w d Ended version head lines fresh is = absurd cc

head_leads : (v : ℕ) (r : Result DraftView Cause) (position : RecordPosition) (version : ℕ) (head : DraftView) (lines : List Line) → (is_before_history position ≡ true → lines ≡ [])
    → after_scenario v r ≡ Ok (part_at position version head lines) → Led position version head lines
head_leads v (Err cause) position version head lines fresh is = absurd cc
head_leads v (Ok d) position version head lines fresh is = scenario_leads (scenario_judge.has_ended d) v (world_of_draft d) d position version head lines fresh is

-- A line before the history
pub leads : (at : RecordPosition) (v : ℕ) (h : DraftView) (ls : List Line) (line : List ℕ) (position : RecordPosition) (version : ℕ) (head : DraftView) (lines : List Line) → is_before_history at ≡ true
    → (is_before_history position ≡ true → lines ≡ []) → step (part_at at v h ls) line ≡ Ok (part_at position version head lines) → Led position version head lines
leads AtFirst v h ls line position version head lines before fresh is = first_leads _ position version head lines fresh is
leads AtScenario v h ls line position version head lines before fresh is = head_leads v (scenario_judge.step h line) position version head lines fresh is
leads AtHistory v h ls line position version head lines before fresh is = absurd cc
leads Ended v h ls line position version head lines before fresh is = absurd cc

-- The lines that aren't in the history yet are before it.
pub stands_before : (position : RecordPosition) (version : ℕ) (head : DraftView) (lines : List Line) → is_whole (part_at position version head lines) ≡ false → (position ≡ AtHistory → ⊥) → is_before_history position ≡ true
stands_before AtFirst version head lines goes_on other = refl
stands_before AtScenario version head lines goes_on other = refl
stands_before AtHistory version head lines goes_on other = absurd (other refl)
stands_before Ended version head lines goes_on other = absurd cc

-- At the first line nothing was read.
pub is_first : (position : RecordPosition) (version : ℕ) (head : DraftView) (lines : List Line) → part_at position version head lines ≡ parts.AtFirst → is_before_history position ≡ true
is_first AtFirst version head lines is = refl
is_first AtScenario version head lines is = absurd cc
is_first AtHistory version head lines is = absurd cc
is_first Ended version head lines is = absurd cc
