-- The text of a running record determines the record.
use Rattle.std.proofs.Common.{◌≡◌, ℕ, suc, ◌^◌, ◌<◌, Bool, true, false, List, [], ◌∷◌, ◌++◌, length, get_or, take, drop, map, None, Ok, Err, refl, sym, ap, subst, ◌∙◌, append_assoc, arith}
use mathlib.Core.Logic.{dite}
use native.Mathlib.Decide.{ℕ_discrete, dec_lt}
use Rattle.std.specs.Prelude.{All, Option, Result, if◌then◌else◌}
use Rattle.std.proofs.Math.Seq.{take-append_seam, drop-append_seam}
use Rattle.std.proofs.lemmas.List.{take-append-le}
use Rattle.std.proofs.lemmas.List.Concat.{flat_map-cons}
use Rattle.std.proofs.lemmas.List.Elements.{All-append, All-cons}
use Rattle.line_format.specs.Rows.{Row, row, text_of}
use Rattle.line_format.proofs.LinesOfRows.{IsRow}
use Rattle.line_format.proofs.TestChains.{same_some}
use Rattle.line_format.proofs.LawsOfTexts.{cut_is_no_end}
use Rattle.lawful_history.specs.declared.line.Line.{Line}
use Rattle.scenario_text.specs.declared.faults.ScenarioFault.{ScenarioFault}
use Rattle.scenario_text.specs.Scenario.{World, IsWorld}
use Rattle.scenario_text.specs.Judge as scenario_judge
use Rattle.scenario_text.specs.Spelling as scenario
use Rattle.scenario_text.proofs.SpelledIsRead as scenario_laws
use Rattle.record_text.specs.declared.forms.LineForm.TheVariants.{Count}
use Rattle.record_text.specs.declared.run_forms.RunForm.{RunForm}
use Rattle.record_text.specs.declared.run_forms.RunForm.TheVariants.{Own, Peer, Turns, Finished, Spent}
use Rattle.record_text.specs.LineRows.{entry_of}
use Rattle.record_text.specs.Spelling.{Fits, AllFit}
use Rattle.record_text.specs.Parts.{Part}
use Rattle.record_text.specs.RunTable.{run_pieces_of, all_run_forms}
use Rattle.record_text.specs.RunSpelling.{IsPart, RunRecord, IsRunRecord, own_row, rows_of_part, rows_of_parts, run_rows, run_spelling, IsRunSpelling}
use Rattle.record_text.proofs.RowsOfLines.{entry_of-row}
use Rattle.record_text.proofs.RunFormsAreTable.{is_run_table}
use Rattle.record_text.proofs.TextDeterminesRows.{rows_same}

-- ---- the scenario's text is no beginning of another one's

ok_same : (w v : World) → ◌≡◌ {A = Result World ScenarioFault} (Ok w) (Ok v) → w ≡ v
ok_same w v e = let P : Result World ScenarioFault → Type 0 = in_ok w in subst P e refl
  where
    in_ok : World → Result World ScenarioFault → Type 0
    in_ok w (Ok x) = w ≡ x
    in_ok w (Err f) = ⊥

no_beginning : (w v : World) (s t : List ℕ) → IsWorld w → IsWorld v → scenario.spelling w ++ s ≡ scenario.spelling v ++ t → length (scenario.spelling w) < length (scenario.spelling v) → ⊥
no_beginning w v s t is is' e lt = let a = scenario.spelling w in let b = scenario.spelling v in
    let cut : a ≡ take (length a) b = sym (take-append_seam a s) ∙ (ap (take (length a)) e ∙ take-append-le (length a) b t (omega arith)) in
    let read : scenario_judge.answer a ≡ Ok w = scenario_laws.is_answered w a (is, refl) in
    let none = cut_is_no_end scenario_laws.is_forward v b (length a) (is', refl) lt in
    let clash = sym read ∙ (ap scenario_judge.answer cut ∙ none) in absurd cc

-- The text of a scenario and the text after it.
pub scenario_same : (w v : World) (s t : List ℕ) → IsWorld w → IsWorld v → scenario.spelling w ++ s ≡ scenario.spelling v ++ t → (w ≡ v) × (s ≡ t)
scenario_same w v s t is is' e = let a = scenario.spelling w in let b = scenario.spelling v in
    dite (ℕ_discrete (length a) (length b))
    (λ same.
    let cut : a ≡ b = sym (take-append_seam a s) ∙ (ap (take (length a)) e ∙ (ap (λ n. take n (b ++ t)) same ∙ take-append_seam b t)) in
    let rest : s ≡ t = sym (drop-append_seam a s) ∙ (ap (drop (length a)) e ∙ (ap (λ n. drop n (b ++ t)) same ∙ drop-append_seam b t)) in
    (ok_same w v (sym (scenario_laws.is_answered w a (is, refl)) ∙ (ap scenario_judge.answer cut ∙ scenario_laws.is_answered v b (is', refl))), rest))
    (λ differ. dite (dec_lt (length a) (length b)) (λ lt. absurd (no_beginning w v s t is is' e lt)) (λ ge. absurd (no_beginning v w t s is' is (sym e) (omega arith))))

-- ---- Rows determine parts

-- The text after a part's own lines.
abbrev rest_of : ℕ → Bool → List (Row RunForm)
rest_of turns finished = row Turns (turns ∷ []) [] ∷ row (if finished then Finished else Spent) [] [] ∷ []

abbrev number_in : Row RunForm → ℕ
number_in r = get_or r.numbers 0 0

abbrev is_count : RunForm → Bool
is_count (Own form) = true
is_count _ = false

abbrev is_turns : RunForm → Bool
is_turns Turns = true
is_turns _ = false

abbrev is_finished : RunForm → Bool
is_finished Finished = true
is_finished _ = false

head_row : (r s : Row RunForm) (rs ss : List (Row RunForm)) → r ∷ rs ≡ s ∷ ss → r ≡ s
head_row r s rs ss e = cc

tail_rows : (r s : Row RunForm) (rs ss : List (Row RunForm)) → r ∷ rs ≡ s ∷ ss → rs ≡ ss
tail_rows r s rs ss e = cc

abbrev entry_in : Row RunForm → Option Line
entry_in r = entry_at r.form r.numbers r.frame
  where
    entry_at : RunForm → List ℕ → List ℕ → Option Line
    entry_at (Own form) ns frame = entry_of form ns frame
    entry_at _ ns frame = None

-- A line's row determines the line.
line_same : (l m : Line) → own_row l ≡ own_row m → l ≡ m
line_same l m e = same_some l m (sym (entry_of-row l) ∙ (ap entry_in e ∙ entry_of-row m))

finished_same : (b c : Bool) → is_finished (if b then Finished else Spent) ≡ is_finished (if c then Finished else Spent) → b ≡ c
finished_same true true e = refl
finished_same false false e = refl
finished_same true false e = absurd cc
finished_same false true e = absurd cc

-- The own lines, the turns and the end of a part, and the text after it.
record Same (ls ms : List Line) (t u : ℕ) (b c : Bool) (rs ss : List (Row RunForm)) : Type 0 where
  lines : ls ≡ ms
  turns : t ≡ u
  finished : b ≡ c
  rest : rs ≡ ss

clash : false ≡ true → ⊥
clash e = absurd cc

own_same : (ls ms : List Line) (t u : ℕ) (b c : Bool) (rs ss : List (Row RunForm)) → map own_row ls ++ (rest_of t b ++ rs) ≡ map own_row ms ++ (rest_of u c ++ ss) → Same ls ms t u b c rs ss
own_same [] [] t u b c rs ss e = let first = head_row _ _ _ _ e in let later = tail_rows _ _ _ _ e in let last = head_row _ _ _ _ later in record {
  lines = refl;
  turns = ap number_in first;
  finished = finished_same b c (ap (λ (r : Row RunForm). is_finished r.form) last);
  rest = tail_rows _ _ _ _ later;
}
own_same [] (m ∷ ms) t u b c rs ss e = absurd (clash (sym (ap (λ (r : Row RunForm). is_turns r.form) (head_row _ _ _ _ e))))
own_same (l ∷ ls) [] t u b c rs ss e = absurd (clash (ap (λ (r : Row RunForm). is_turns r.form) (head_row _ _ _ _ e)))
own_same (l ∷ ls) (m ∷ ms) t u b c rs ss e = let s = own_same ls ms t u b c rs ss (tail_rows _ _ _ _ e) in let here = line_same l m (head_row _ _ _ _ e) in
    record { lines = λ k. here k ∷ s.lines k; turns = s.turns; finished = s.finished; rest = s.rest }

-- A part's rows, with the text after them.
opened : (p : Part) (ps : List Part) (end : List (Row RunForm)) → rows_of_parts (p ∷ ps) ++ end ≡ row Peer (p.peer ∷ []) [] ∷ (map own_row p.lines ++ (rest_of p.turns p.finished ++ (rows_of_parts ps ++ end)))
opened p ps end = let own = map own_row p.lines in let rest = rest_of p.turns p.finished in
    ap (λ rs. rs ++ end) (flat_map-cons rows_of_part p ps) ∙ (append_assoc (row Peer (p.peer ∷ []) [] ∷ own ++ rest) (rows_of_parts ps) end ∙ ap (λ rs. row Peer (p.peer ∷ []) [] ∷ rs) (append_assoc own rest (rows_of_parts ps ++ end)))

-- The rows of parts, with the count after them, determine the parts.
parts_same : (ps qs : List Part) (m n : ℕ) → rows_of_parts ps ++ row (Own Count) (m ∷ []) [] ∷ [] ≡ rows_of_parts qs ++ row (Own Count) (n ∷ []) [] ∷ [] → ps ≡ qs
parts_same [] [] m n e = refl
parts_same [] (q ∷ qs) m n e = absurd (clash (sym (ap (λ (r : Row RunForm). is_count r.form) (head_row _ _ _ _ (e ∙ opened q qs (row (Own Count) (n ∷ []) [] ∷ []))))))
parts_same (p ∷ ps) [] m n e = absurd (clash (ap (λ (r : Row RunForm). is_count r.form) (head_row _ _ _ _ (sym (opened p ps (row (Own Count) (m ∷ []) [] ∷ [])) ∙ e))))
parts_same (p ∷ ps) (q ∷ qs) m n e =
    let both = sym (opened p ps (row (Own Count) (m ∷ []) [] ∷ [])) ∙ (e ∙ opened q qs (row (Own Count) (n ∷ []) [] ∷ [])) in
    let peer : p.peer ≡ q.peer = ap number_in (head_row _ _ _ _ both) in
    let s = own_same p.lines q.lines p.turns q.turns p.finished q.finished _ _ (tail_rows _ _ _ _ both) in
    let later = parts_same ps qs m n s.rest in
    λ k. record { peer = peer k; lines = s.lines k; turns = s.turns k; finished = s.finished k } ∷ later k

-- ---- each row of a running record is one of its form

own_is : (line : Line) → Fits line → IsRow run_pieces_of (own_row line)
own_is line fits = record { values = fits.values; hex = fits.bytes }

end_is : (b : Bool) → IsRow run_pieces_of (row (if b then Finished else Spent) [] [])
end_is true = record { values = tt; hex = refl }
end_is false = record { values = tt; hex = refl }

all_less : {X : Type 0} (P : X → Type 0) (x : X) (xs : List X) → All P (x ∷ xs) → P x × All P xs
all_less P x xs all = (all 0 x (omega arith), λ k d lt. all (suc k) d (omega arith))

all_none : {X : Type 0} (P : X → Type 0) → All P []
all_none P k d lt = absurd (omega arith)

own_are : (lines : List Line) (rest : List (Row RunForm)) → AllFit lines → All (IsRow run_pieces_of) rest → All (IsRow run_pieces_of) (map own_row lines ++ rest)
own_are [] rest fits all = all
own_are (l ∷ ls) rest fits all = let f = all_less Fits l ls fits in All-cons (IsRow run_pieces_of) (own_row l) (map own_row ls ++ rest) (own_is l f.0) (own_are ls rest f.1 all)

peer_row : (peer : ℕ) → peer < 2 ^ 32 → IsRow run_pieces_of (row Peer (peer ∷ []) [])
peer_row peer lt = record { values = (omega arith, omega arith, tt); hex = refl }

turns_row : (turns : ℕ) → turns < 2 ^ 64 → IsRow run_pieces_of (row Turns (turns ∷ []) [])
turns_row turns lt = record { values = (omega arith, omega arith, tt); hex = refl }

count_row : (count : ℕ) → count < 2 ^ 64 → IsRow run_pieces_of (row (Own Count) (count ∷ []) [])
count_row count lt = record { values = (omega arith, omega arith, tt); hex = refl }

part_is : (p : Part) → IsPart p → All (IsRow run_pieces_of) (rows_of_part p)
part_is p is = let P = IsRow run_pieces_of in let turns = row Turns (p.turns ∷ []) [] in let end = row (if p.finished then Finished else Spent) [] [] in
    All-cons P _ _ (peer_row p.peer is.peer) (own_are p.lines (turns ∷ end ∷ []) is.fits (All-cons P turns (end ∷ []) (turns_row p.turns is.turns) (All-cons P end [] (end_is p.finished) (all_none P))))

parts_are : (ps : List Part) → All IsPart ps → All (IsRow run_pieces_of) (rows_of_parts ps)
parts_are [] all = all_none (IsRow run_pieces_of)
parts_are (p ∷ ps) all = let a = all_less IsPart p ps all in subst (All (IsRow run_pieces_of)) (sym (flat_map-cons rows_of_part p ps)) (All-append (IsRow run_pieces_of) (rows_of_part p) (rows_of_parts ps) (part_is p a.0) (parts_are ps a.1))

run_are : (r : RunRecord) → IsRunRecord r → All (IsRow run_pieces_of) (run_rows r.parts)
run_are r is = let P = IsRow run_pieces_of in All-append P (rows_of_parts r.parts) (row (Own Count) (length (rows_of_parts r.parts) ∷ []) [] ∷ []) (parts_are r.parts is.parts) (All-cons P (row (Own Count) (length (rows_of_parts r.parts) ∷ []) []) [] (count_row (length (rows_of_parts r.parts)) is.count) (all_none P))

-- No other running record has the text of one.
pub run_same : (r s : RunRecord) → IsRunRecord r → IsRunRecord s → run_spelling r ≡ run_spelling s → r ≡ s
run_same r s is is' e =
    let texts = scenario_same r.world s.world (text_of run_pieces_of (run_rows r.parts)) (text_of run_pieces_of (run_rows s.parts)) is.world is'.world (ap (drop 6) e) in
    let rows = rows_same run_pieces_of all_run_forms is_run_table (run_rows r.parts) (run_rows s.parts) (run_are r is) (run_are s is') texts.1 in
    let parts = parts_same r.parts s.parts (length (rows_of_parts r.parts)) (length (rows_of_parts s.parts)) rows in
    λ k. record { world = texts.0 k; parts = parts k }

pub alone : (r : RunRecord) (text : List ℕ) → IsRunSpelling r text → (other : RunRecord) → IsRunSpelling other text → other ≡ r
alone r text is other is' = run_same other r is'.0 is.0 (sym is'.1 ∙ is.1)
