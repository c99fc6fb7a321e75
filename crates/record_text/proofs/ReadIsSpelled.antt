-- What is read is a record, and the text is its spelling.
use Rattle.std.proofs.Common.{◌≡◌, ℕ, ◌^◌, ◌<◌, Bool, true, false, cond, eqb, List, [], ◌∷◌, ◌++◌, length, get_or, map, Some, None, Result, Ok, Err, refl, sym, ap, subst, ◌∙◌, append_assoc, arith}
use Rattle.std.specs.List.{list_all}
use Rattle.std.specs.Str.{bytes_eq}
use Rattle.std.proofs.lemmas.Bool.{eqb-true}
use Rattle.std.proofs.lemmas.Slice.Eq.{bytes_eq-Decides}
use Rattle.std.proofs.lemmas.Option.{option_and_then_some}
use Rattle.std.proofs.lemmas.List.{append-nil, map-append}
use Rattle.std.proofs.lemmas.List.Elements.{All-append}
use Rattle.std.proofs.lemmas.List.Concat.{flat_map-append, flat_map-cons}
use Rattle.std.proofs.lemmas.List.Folds.{list_all-append}
use Rattle.line_format.specs.Forms.{matches, numbers_of, hex_of, hex_bytes, fields_of, is_printable, Fit, FitBytes}
use Rattle.line_format.specs.Rows.{Row, row, line_of_row, text_of, find_form}
use Rattle.line_format.specs.Steps.{◌>>=◌, some_or}
use Rattle.line_format.specs.Machine.{Leads, text_of_lines}
use Rattle.line_format.proofs.SpellingsAreRead.{IsSpelled, spelled}
use Rattle.line_format.proofs.LinesAreCut.{are_true}
use Rattle.line_format.proofs.TestChains.{bind_ok, pass_ok, some_or-ok, if_some, same_ok}
use Rattle.line_format.proofs.FormsOfRows.{found}
use Rattle.line_format.proofs.LinesOfRows.{bare, text-cons, line_is}
use Rattle.line_format.proofs.ReadingLines.{read_is_lines}
use Rattle.lawful_history.specs.declared.line.Line.{Line}
use Rattle.scenario_text.specs.declared.faults.Cause.{Cause}
use Rattle.scenario_text.specs.declared.positions.Position.{Position}
use Rattle.scenario_text.specs.declared.positions.Position.TheVariants.{Ended}
use Rattle.scenario_text.specs.Scenario.{World, IsWorld}
use Rattle.scenario_text.specs.Table as scenario_table
use Rattle.scenario_text.specs.Spelling as scenario
use Rattle.scenario_text.specs.Judge as scenario_judge
use Rattle.scenario_text.specs.Judge.{DraftView, at_start, world_of_draft}
use Rattle.scenario_text.proofs.PositionInvariant.{PositionHolds, rows_before}
use Rattle.scenario_text.proofs.ReadIsSpelled as scenario_laws
use Rattle.record_text.specs.declared.faults.RecordCause.{RecordCause}
use Rattle.record_text.specs.declared.faults.RecordCause.TheVariants.{BadLine, BadNumber, BadCount}
use Rattle.record_text.specs.declared.forms.LineForm.{LineForm}
use Rattle.record_text.specs.declared.forms.LineForm.TheVariants.{Count}
use Rattle.lawful_history.specs.Frames.{has_frame, HaveFrames}
use Rattle.lawful_history.specs.Versions.{is_version}
use Rattle.record_text.specs.Versions.{first_line}
use Rattle.record_text.specs.Table.{pieces_of, all_forms}
use Rattle.record_text.specs.LineRows.{row_of_line, entry_of, is_frame}
use Rattle.record_text.specs.Spelling.{Fits, AllFit, spelling, IsSpelling}
use Rattle.record_text.specs.Judge.{Part, AtFirst, InScenario, InHistory, Whole, is_whole, History, Longer, Counted, after_first, after_scenario, put, frame_in, judge, history_step, with_world, step, machine, reading}
use Rattle.record_text.proofs.FormsAreTable.{is_table}
use Rattle.record_text.proofs.RowsOfLines.{IsLine, IsCount, entry_row, frame_is}

-- ---- a line of the history that is taken

-- The row of the line, and what it adds.
record Taken (lines : List Line) (line : List ℕ) (said : History) : Type 0 where
  taken : Row LineForm
  line_is_row : line ≡ bare pieces_of taken
  values : Fit (pieces_of taken.form) taken.numbers
  bytes : FitBytes (pieces_of taken.form) taken.frame
  framed : is_frame taken.form taken.frame ≡ true
  puts : put lines taken.numbers (entry_of taken.form taken.numbers taken.frame) ≡ Ok said

judge-ok : (lines : List Line) (form : LineForm) (line : List ℕ) (said : History) → matches (pieces_of form) (fields_of line) ≡ true → judge lines form (fields_of line) ≡ Ok said → Taken lines line said
unfolding judge
judge-ok lines form line said has is =
    let fs = fields_of line in
    let b = bind_ok (some_or BadNumber (numbers_of (pieces_of form) fs)) _ said is in
    let f = bind_ok (some_or BadNumber (frame_in form fs)) _ said b.2 in
    option_and_then_some (λ bytes. cond (is_frame form bytes) (Some bytes) None) (hex_bytes (hex_of (pieces_of form) fs)) f.0 (some_or-ok BadNumber _ f.0 f.1) (λ bytes hex rest.
    let u = if_some (is_frame form bytes) bytes f.0 rest in
    let sp : IsSpelled (pieces_of form) fs b.0 f.0 = spelled (pieces_of form) fs b.0 f.0 (is_table.good form) has (some_or-ok BadNumber _ b.0 b.1) (hex ∙ ap (λ (x : List ℕ). Some x) u.1) in
    record {
      taken = row form b.0 f.0;
      line_is_row = line_is line _ sp.fields;
      values = sp.numbers;
      bytes = sp.hex;
      framed = rw (← u.1) u.0;
      puts = f.2;
    })

formed : (lines : List Line) (line : List ℕ) (said : History) → (some_or BadLine (find_form pieces_of all_forms (fields_of line)) >>= λ form. judge lines form (fields_of line)) ≡ Ok said → Taken lines line said
formed lines line said is =
    let b = bind_ok (some_or BadLine (find_form pieces_of all_forms (fields_of line))) (λ form. judge lines form (fields_of line)) said is in
    judge-ok lines b.0 line said (found pieces_of all_forms (fields_of line) b.0 (some_or-ok BadLine _ b.0 b.1)) b.2

history-ok : (lines : List Line) (line : List ℕ) (said : History) → history_step lines line ≡ Ok said → Taken lines line said
unfolding history_step
history-ok lines line said is = formed lines line said (pass_ok (list_all is_printable line) BadLine _ said is).1

-- ---- what holds of the lines so far, and their text

pub record IsPart (version : ℕ) (w : World) (lines : List Line) : Type 0 where
  pub versioned : is_version version ≡ true
  pub world : IsWorld w
  pub fits : AllFit lines
  pub frames : HaveFrames lines

abbrev pub GoodPart : Part → Type 0
GoodPart AtFirst = Unit {0}
GoodPart (InScenario version d) = (is_version version ≡ true) × PositionHolds d.position d
GoodPart (InHistory version w lines) = IsPart version w lines
GoodPart (Whole version w lines) = IsPart version w lines × (length lines < 2 ^ 64)

abbrev pub text_before : Part → List ℕ
text_before AtFirst = []
text_before (InScenario version d) = first_line version ++ 10 ∷ text_of scenario_table.pieces_of (rows_before d.position d)
text_before (InHistory version w lines) = first_line version ++ 10 ∷ scenario.spelling w ++ text_of pieces_of (map row_of_line lines)
text_before (Whole version w lines) = spelling (record { version = version; world = w; lines = lines })

pub record After (p : Part) (line : List ℕ) (q : Part) : Type 0 where
  pub good : GoodPart q
  pub text : (rest : List ℕ) → text_before p ++ (line ++ 10 ∷ rest) ≡ text_before q ++ rest

-- ---- the first line

named : (version : ℕ) (line : List ℕ) (q : Part) → is_version version ≡ true → bytes_eq line (first_line version) ≡ true → ◌≡◌ {A = Result Part RecordCause} (Ok (InScenario version at_start)) (Ok q) → After AtFirst line q
named version line q known is e =
    let same : line ≡ first_line version = (bytes_eq-Decides line (first_line version)).0 is in
    subst (λ (x : Part). After AtFirst line x) (same_ok {E = RecordCause} (InScenario version at_start) q e)
    (record { good = (known, record { honest_none = refl; acts_none = refl }); text = λ rest. ap (λ (l : List ℕ). l ++ 10 ∷ rest) same ∙ sym (append_assoc (first_line version) (10 ∷ []) rest) })

first_is : (b c : Bool) (line : List ℕ) (q : Part) → bytes_eq line (first_line 1) ≡ b → bytes_eq line (first_line 2) ≡ c → after_first (cond b (Some 1) (cond c (Some 2) None)) ≡ Ok q → After AtFirst line q
first_is true c line q is other e = named 1 line q refl is e
first_is false true line q is other e = named 2 line q refl other e
first_is false false line q is other e = absurd cc

-- ---- the scenario

taken_scenario : (version : ℕ) (r : Result DraftView Cause) (q : Part) → after_scenario version r ≡ Ok q → (d : DraftView) × (r ≡ Ok d) × (cond (scenario_judge.has_ended d) (InHistory version (world_of_draft d) []) (InScenario version d) ≡ q)
taken_scenario version (Ok d) q e = (d, refl, same_ok _ q e)
taken_scenario version (Err cause) q e = absurd cc

in_front : (first t line rest t' : List ℕ) → t ++ (line ++ 10 ∷ rest) ≡ t' ++ rest → (first ++ 10 ∷ t) ++ (line ++ 10 ∷ rest) ≡ (first ++ 10 ∷ t') ++ rest
in_front first t line rest t' is = append_assoc first (10 ∷ t) (line ++ 10 ∷ rest) ∙ ap (λ (x : List ℕ). first ++ 10 ∷ x) is ∙ sym (append_assoc first (10 ∷ t') rest)

scenario_line : (version : ℕ) (d now : DraftView) (line : List ℕ) (b : Bool) → is_version version ≡ true → PositionHolds d.position d → scenario_judge.step d line ≡ Ok now → scenario_judge.has_ended now ≡ b →
    After (InScenario version d) line (cond b (InHistory version (world_of_draft now) []) (InScenario version now))
scenario_line version d now line false known good is ended =
    let s = scenario_laws.after d line now good is in
    record { good = (known, s.good); text = λ rest. in_front (first_line version) _ line rest _ (s.text rest) }
scenario_line version d now line true known good is ended =
    let s = scenario_laws.after d line now good is in
    let at = scenario_laws.ended_is now ended in
    let whole : PositionHolds Ended now = subst (λ (t : Position). PositionHolds t now) at s.good in
    let rows : text_of scenario_table.pieces_of (rows_before now.position now) ≡ scenario.spelling (world_of_draft now) = ap (λ (t : Position). text_of scenario_table.pieces_of (rows_before t now)) at ∙ ap (text_of scenario_table.pieces_of) (scenario_laws.rows_are now whole) in
    record {
      good = record { versioned = known; world = scenario_laws.is_world now whole; fits = λ k e lt. absurd (omega arith); frames = refl };
      text = λ rest. in_front (first_line version) _ line rest _ (s.text rest) ∙ ap (λ (t : List ℕ). (first_line version ++ 10 ∷ t) ++ rest) rows ∙ ap (λ (t : List ℕ). t ++ rest) (sym (append-nil (first_line version ++ 10 ∷ scenario.spelling (world_of_draft now))));
    }

-- ---- the history

taken_history : (version : ℕ) (w : World) (r : Result History RecordCause) (q : Part) → with_world version w r ≡ Ok q → (h : History) × (r ≡ Ok h) × (with_world version w (Ok h) ≡ Ok q)
taken_history version w (Ok h) q e = (h, refl, e)
taken_history version w (Err cause) q e = absurd cc

text_row : (t : List ℕ) (rs : List (Row LineForm)) (r : Row LineForm) (line rest : List ℕ) → line ≡ bare pieces_of r → (t ++ text_of pieces_of rs) ++ (line ++ 10 ∷ rest) ≡ (t ++ text_of pieces_of (rs ++ r ∷ [])) ++ rest
text_row t rs r line rest is =
    let one : text_of pieces_of (r ∷ []) ++ rest ≡ line ++ 10 ∷ rest = ap (λ (x : List ℕ). x ++ rest) (text-cons pieces_of r []) ∙ append_assoc (bare pieces_of r) (10 ∷ []) rest ∙ ap (λ (x : List ℕ). x ++ 10 ∷ rest) (sym is) in
    let two : text_of pieces_of (rs ++ r ∷ []) ++ rest ≡ text_of pieces_of rs ++ (line ++ 10 ∷ rest) = ap (λ (x : List ℕ). x ++ rest) (flat_map-append (line_of_row pieces_of) rs (r ∷ [])) ∙ append_assoc (text_of pieces_of rs) (text_of pieces_of (r ∷ [])) rest ∙ ap (λ (x : List ℕ). text_of pieces_of rs ++ x) one in
    append_assoc t (text_of pieces_of rs) (line ++ 10 ∷ rest) ∙ ap (λ (x : List ℕ). t ++ x) (sym two) ∙ sym (append_assoc t (text_of pieces_of (rs ++ r ∷ [])) rest)

one_fits : (line : Line) → Fits line → AllFit (line ∷ [])
one_fits line fits k d lt = let z : k ≡ 0 = omega arith in subst (λ (i : ℕ). Fits (get_or (line ∷ []) i d)) (sym z) fits

longer : (version : ℕ) (w : World) (lines : List Line) (line : List ℕ) (t : Row LineForm) (l : Line) → IsPart version w lines → line ≡ bare pieces_of t → Fit (pieces_of t.form) t.numbers → FitBytes (pieces_of t.form) t.frame → is_frame t.form t.frame ≡ true → row_of_line l ≡ t → After (InHistory version w lines) line (InHistory version w (lines ++ l ∷ []))
longer version w lines line t l part is values bytes framed same =
    let fit : Fits l = record { values = subst (λ (r : Row LineForm). Fit (pieces_of r.form) r.numbers) (sym same) values; bytes = subst (λ (r : Row LineForm). FitBytes (pieces_of r.form) r.frame) (sym same) bytes } in
    let framed' : has_frame l ≡ true = sym (frame_is l) ∙ subst (λ (r : Row LineForm). is_frame r.form r.frame ≡ true) (sym same) framed in
    let rows : map row_of_line (lines ++ l ∷ []) ≡ map row_of_line lines ++ t ∷ [] = map-append row_of_line lines (l ∷ []) ∙ ap (λ (r : Row LineForm). map row_of_line lines ++ r ∷ []) same in
    record {
      good = record { versioned = part.versioned; world = part.world; fits = All-append Fits lines (l ∷ []) part.fits (one_fits l fit); frames = list_all-append has_frame lines (l ∷ []) ∙ are_true _ _ part.frames (are_true _ _ framed' refl) };
      text = λ rest. text_row (first_line version ++ 10 ∷ scenario.spelling w) (map row_of_line lines) t line rest is ∙ ap (λ (rs : List (Row LineForm)). (first_line version ++ 10 ∷ scenario.spelling w ++ text_of pieces_of rs) ++ rest) (sym rows);
    }

counted : (version : ℕ) (w : World) (lines : List Line) (line : List ℕ) (t : Row LineForm) (n : ℕ) → IsPart version w lines → line ≡ bare pieces_of t → Fit (pieces_of t.form) t.numbers → row Count (n ∷ []) [] ≡ t → n ≡ length lines → After (InHistory version w lines) line (Whole version w lines)
counted version w lines line t n part is values same number =
    let fit : Fit (pieces_of Count) (n ∷ []) = subst (λ (r : Row LineForm). Fit (pieces_of r.form) r.numbers) (sym same) values in
    let few : length lines < 2 ^ 64 = omega (arith, fit.1) in
    let row_is : t ≡ row Count (length lines ∷ []) [] = sym same ∙ ap (λ (k : ℕ). row Count (k ∷ []) []) number in
    record {
      good = (part, few);
      text = λ rest. text_row (first_line version ++ 10 ∷ scenario.spelling w) (map row_of_line lines) t line rest is ∙ ap (λ (r : Row LineForm). (first_line version ++ 10 ∷ scenario.spelling w ++ text_of pieces_of (map row_of_line lines ++ r ∷ [])) ++ rest) row_is;
    }

count_ok : (lines : List Line) (n found_ : ℕ) (said : History) (b : Bool) → eqb n (length lines) ≡ b → ◌≡◌ {A = Result History RecordCause} (cond b (Ok (Counted lines)) (Err (BadCount n found_))) (Ok said) → (n ≡ length lines) × (Counted lines ≡ said)
count_ok lines n found_ said true is e = (eqb-true _ _ is, same_ok {E = RecordCause} (Counted lines) said e)
count_ok lines n found_ said false is e = absurd cc

history_line : (version : ℕ) (w : World) (lines : List Line) (line : List ℕ) (said : History) (q : Part) → IsPart version w lines → Taken lines line said → with_world version w (Ok said) ≡ Ok q → After (InHistory version w lines) line q
history_line version w lines line said q part t e =
    elim (entry_row t.taken.form t.taken.numbers t.taken.frame t.values t.bytes) [
      | IsLine l is same ↦
          let said_is : Longer (lines ++ l ∷ []) ≡ said = same_ok {E = RecordCause} _ said (ap (put lines t.taken.numbers) (sym is) ∙ t.puts) in
          let q_is : InHistory version w (lines ++ l ∷ []) ≡ q = same_ok {E = RecordCause} _ q (ap (λ (h : History). with_world version w (Ok h)) said_is ∙ e) in
          subst (λ (x : Part). After (InHistory version w lines) line x) q_is (longer version w lines line t.taken l part t.line_is_row t.values t.bytes t.framed same)
      | IsCount is form same ↦
          let n = get_or t.taken.numbers 0 0 in
          let c = count_ok lines n (length lines) said (eqb n (length lines)) refl (ap (put lines t.taken.numbers) (sym is) ∙ t.puts) in
          let q_is : Whole version w lines ≡ q = same_ok {E = RecordCause} _ q (ap (λ (h : History). with_world version w (Ok h)) c.1 ∙ e) in
          subst (λ (x : Part). After (InHistory version w lines) line x) q_is (counted version w lines line t.taken n part t.line_is_row t.values same c.0)
    ]

-- ---- each line

pub after : (p : Part) (line : List ℕ) (q : Part) → GoodPart p → step p line ≡ Ok q → After p line q
after AtFirst line q good is = first_is (bytes_eq line (first_line 1)) (bytes_eq line (first_line 2)) line q refl refl is
after (InScenario version d) line q good is =
    let t = taken_scenario version (scenario_judge.step d line) q is in
    subst (λ (x : Part). After (InScenario version d) line x) t.2 (scenario_line version d t.0 line (scenario_judge.has_ended t.0) good.0 good.1 t.1 refl)
after (InHistory version w lines) line q good is =
    let t = taken_history version w (history_step lines line) q is in
    history_line version w lines line t.0 q good (history-ok lines line t.0 t.1) t.2
after (Whole version w lines) line q good is = absurd cc

-- ---- the whole text

record IsEnd (p : Part) (lines : List (List ℕ)) (q : Part) : Type 0 where
  good : GoodPart q
  ended : is_whole q ≡ true
  text : text_before p ++ text_of_lines lines ≡ text_before q

line-cons : (line : List ℕ) (lines : List (List ℕ)) → text_of_lines (line ∷ lines) ≡ line ++ 10 ∷ text_of_lines lines
line-cons line lines = flat_map-cons (λ l. l ++ 10 ∷ []) line lines ∙ append_assoc line (10 ∷ []) (text_of_lines lines)

whole : (p : Part) (lines : List (List ℕ)) (q : Part) → GoodPart p → Leads machine p lines q → IsEnd p lines q
whole p [] q good leads = absurd leads
whole p (line ∷ []) q good leads =
    let b = after p line q good leads.1 in
    record { good = b.good; ended = leads.2; text = ap (λ (t : List ℕ). text_before p ++ t) (line-cons line []) ∙ b.text [] ∙ append-nil _ }
whole p (line ∷ next ∷ more) q good leads =
    let b = after p line leads.0 good leads.2 in
    let w = whole leads.0 (next ∷ more) q b.good leads.4 in
    record { good = w.good; ended = w.ended; text = ap (λ (t : List ℕ). text_before p ++ t) (line-cons line (next ∷ more)) ∙ b.text (text_of_lines (next ∷ more)) ∙ w.text }

-- What is read is a record, and the text is its spelling.
pub data IsRead (bytes : List ℕ) (q : Part) : Type 0 where
  Reads : (version : ℕ) (w : World) (lines : List Line) → q ≡ Whole version w lines → IsSpelling (record { version = version; world = w; lines = lines }) bytes → IsRead bytes q

at_end : (bytes : List ℕ) (q : Part) → GoodPart q → is_whole q ≡ true → bytes ≡ text_before q → IsRead bytes q
at_end bytes AtFirst good ended text = absurd cc
at_end bytes (InScenario version d) good ended text = absurd cc
at_end bytes (InHistory version w lines) good ended text = absurd cc
at_end bytes (Whole version w lines) good ended text = Reads version w lines refl (record { version = good.0.versioned; world = good.0.world; fits = good.0.fits; frames = good.0.frames; count = good.1 }, text)

pub is_read : (bytes : List ℕ) (q : Part) → reading bytes ≡ Ok q → IsRead bytes q
is_read bytes q is =
    let l = read_is_lines machine AtFirst q bytes is in
    let w = whole AtFirst l.0 q tt l.2 in
    at_end bytes q w.good w.ended (l.1 ∙ w.text)
