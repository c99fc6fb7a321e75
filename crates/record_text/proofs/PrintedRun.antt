-- Writing a running record part by part.
use Rattle.std.proofs.Common.{◌≡◌, ℕ, ◌+◌, ◌<◌, ◌≤◌, List, [], ◌∷◌, ◌++◌, length, get_or, take, map, refl, sym, ap, subst, ◌∙◌, append_assoc, arith, length-append}
use Rattle.std.specs.Prelude.{if◌then◌else◌, All, codes}
use Rattle.std.proofs.lemmas.List.{append-nil, take_more, map-append, length-map}
use Rattle.std.proofs.lemmas.List.Concat.{flat_map-append, flat_map-cons}
use Rattle.std.proofs.lemmas.List.Elements.{All-append}
use Rattle.line_format.specs.Forms.{line_of}
use Rattle.line_format.specs.Rows.{Row, row, fields_of_row, line_of_row, text_of}
use Rattle.line_format.proofs.PartLaws.{text-push}
use Rattle.lawful_history.specs.declared.line.Line.{Line}
use Rattle.scenario_text.specs.Spelling as scenario
use Rattle.record_text.specs.declared.run_forms.RunForm.{RunForm}
use Rattle.record_text.specs.declared.run_forms.RunForm.TheVariants.{Own, Peer, Turns, Finished, Spent}
use Rattle.record_text.specs.declared.forms.LineForm.TheVariants.{Count}
use Rattle.record_text.specs.declared.own_trace.OwnTrace.{OwnTrace}
use Rattle.record_text.specs.Table.{pieces_of}
use Rattle.record_text.specs.LineRows.{row_of_line}
use Rattle.record_text.specs.Parts.{Part}
use Rattle.record_text.specs.OwnParts.{part_of}
use Rattle.record_text.specs.RunTable.{run_pieces_of}
use Rattle.record_text.specs.RunSpelling.{IsPart, RunRecord, own_row, rows_of_part, rows_of_parts, run_rows, run_spelling}

one_text : (r : Row RunForm) → text_of run_pieces_of (r ∷ []) ≡ line_of_row run_pieces_of r
one_text r = flat_map-cons (line_of_row run_pieces_of) r [] ∙ append-nil (line_of_row run_pieces_of r)

text-append : (rs ss : List (Row RunForm)) → text_of run_pieces_of (rs ++ ss) ≡ text_of run_pieces_of rs ++ text_of run_pieces_of ss
text-append rs ss = flat_map-append (line_of_row run_pieces_of) rs ss

-- a history line's row is spelled alike in both tables
own_line : (line : Line) → line_of_row run_pieces_of (own_row line) ≡ line_of_row pieces_of (row_of_line line)
unfolding line_of_row
own_line line = refl

pub own_more : (front : List ℕ) (lines : List Line) (i : ℕ) (line : Line) → i < length lines → line ≡ get_or lines i line
    → front ++ text_of run_pieces_of (map own_row (take i lines)) ++ line_of_row pieces_of (row_of_line line) ≡ front ++ text_of run_pieces_of (map own_row (take (i + 1) lines))
own_more front lines i line lt is =
    let more : take (i + 1) lines ≡ take i lines ++ line ∷ [] = take_more lines i line lt ∙ ap (λ (l : Line). take i lines ++ l ∷ []) (sym is) in
    let rows : map own_row (take (i + 1) lines) ≡ map own_row (take i lines) ++ own_row line ∷ [] = ap (λ (ls : List Line). map own_row ls) more ∙ map-append own_row (take i lines) (line ∷ []) in
    ap (λ (t : List ℕ). front ++ text_of run_pieces_of (map own_row (take i lines)) ++ t) (sym (own_line line))
    ∙ text-push run_pieces_of front (map own_row (take i lines)) (own_row line) ∙ ap (λ (rs : List (Row RunForm)). front ++ text_of run_pieces_of rs) (sym rows)

-- A part's text, row by row.
pub part_put : (front : List ℕ) (p : Part) → (((front ++ line_of_row run_pieces_of (row Peer (p.peer ∷ []) [])) ++ text_of run_pieces_of (map own_row p.lines)) ++ line_of_row run_pieces_of (row Turns (p.turns ∷ []) []))
    ++ line_of_row run_pieces_of (row (if p.finished then Finished else Spent) [] []) ≡ front ++ text_of run_pieces_of (rows_of_part p)
part_put front p = let L = line_of_row run_pieces_of in let T = text_of run_pieces_of in let peer = row Peer (p.peer ∷ []) [] in let turns = row Turns (p.turns ∷ []) [] in let last = row (if p.finished then Finished else Spent) [] [] in
    let own = map own_row p.lines in
    ap (λ (t : List ℕ). (((front ++ t) ++ T own) ++ L turns) ++ L last) (sym (one_text peer))
    ∙ (ap (λ (t : List ℕ). (t ++ L turns) ++ L last) (append_assoc front (T (peer ∷ [])) (T own) ∙ ap (λ (t : List ℕ). front ++ t) (sym (text-append (peer ∷ []) own)))
    ∙ (ap (λ (t : List ℕ). t ++ L last) (text-push run_pieces_of front (peer ∷ own) turns) ∙ (text-push run_pieces_of front ((peer ∷ own) ++ turns ∷ []) last
    ∙ ap (λ (rs : List (Row RunForm)). front ++ T rs) (append_assoc (peer ∷ own) (turns ∷ []) (last ∷ [])))))

-- A part more
parts_more : (parts : List Part) (p : Part) → rows_of_parts (parts ++ p ∷ []) ≡ rows_of_parts parts ++ rows_of_part p
parts_more parts p = flat_map-append rows_of_part parts (p ∷ []) ∙ ap (λ (rs : List (Row RunForm)). rows_of_parts parts ++ rs) (flat_map-cons rows_of_part p [] ∙ append-nil (rows_of_part p))

traces_more : (traces : List OwnTrace) (i : ℕ) (t : OwnTrace) → i < length traces → t ≡ get_or traces i t → map part_of (take (i + 1) traces) ≡ map part_of (take i traces) ++ part_of t ∷ []
traces_more traces i t lt is = ap (λ (ts : List OwnTrace). map part_of ts) (take_more traces i t lt ∙ ap (λ (x : OwnTrace). take i traces ++ x ∷ []) (sym is)) ∙ map-append part_of (take i traces) (t ∷ [])

pub parts_put : (front : List ℕ) (traces : List OwnTrace) (i : ℕ) (t : OwnTrace) → i < length traces → t ≡ get_or traces i t
    → front ++ text_of run_pieces_of (rows_of_parts (map part_of (take i traces))) ++ text_of run_pieces_of (rows_of_part (part_of t)) ≡ front ++ text_of run_pieces_of (rows_of_parts (map part_of (take (i + 1) traces)))
parts_put front traces i t lt is = let T = text_of run_pieces_of in let before = map part_of (take i traces) in
    append_assoc front (T (rows_of_parts before)) (T (rows_of_part (part_of t))) ∙ ap (λ (x : List ℕ). front ++ x)
    (sym (text-append (rows_of_parts before) (rows_of_part (part_of t))) ∙ ap T (sym (parts_more before (part_of t)) ∙ ap rows_of_parts (sym (traces_more traces i t lt is))))

one_part : (p : Part) → IsPart p → All IsPart (p ∷ [])
one_part p is zero_ d lt = let z : zero_ ≡ 0 = omega arith in subst (λ (k : ℕ). IsPart (get_or (p ∷ []) k d)) (sym z) is

pub parts_are : (traces : List OwnTrace) (i : ℕ) (t : OwnTrace) → i < length traces → t ≡ get_or traces i t → All IsPart (map part_of (take i traces)) → IsPart (part_of t) → All IsPart (map part_of (take (i + 1) traces))
parts_are traces i t lt is all one = subst (All IsPart) (sym (traces_more traces i t lt is)) (All-append IsPart (map part_of (take i traces)) (part_of t ∷ []) all (one_part (part_of t) one))

pub rows_in_part : (p : Part) → length (rows_of_part p) ≡ length p.lines + 3
rows_in_part p = let end = row Turns (p.turns ∷ []) [] ∷ row (if p.finished then Finished else Spent) [] [] ∷ [] in omega (arith, length-append (map own_row p.lines) end, length-map p.lines own_row)

pub parts_count : (traces : List OwnTrace) (i : ℕ) (t : OwnTrace) → i < length traces → t ≡ get_or traces i t → length (rows_of_parts (map part_of (take (i + 1) traces))) ≡ length (rows_of_parts (map part_of (take i traces))) + (length t.lines + 3)
parts_count traces i t lt is = let before = map part_of (take i traces) in
    ap (λ (ps : List Part). length (rows_of_parts ps)) (traces_more traces i t lt is) ∙ (ap length (parts_more before (part_of t)) ∙ omega (arith, length-append (rows_of_parts before) (rows_of_part (part_of t)), rows_in_part (part_of t)))

-- Each row is a byte at least.
rows_least : (rs : List (Row RunForm)) → length rs ≤ length (text_of run_pieces_of rs)
unfolding line_of_row
rows_least [] = omega arith
rows_least (r ∷ rs) = let bare = line_of (fields_of_row run_pieces_of r) in omega (arith, length-append (bare ++ 10 ∷ []) (text_of run_pieces_of rs), length-append bare (10 ∷ []), rows_least rs)

-- So there are fewer lines than bytes.
pub count_small : (traces : List OwnTrace) (i : ℕ) (t : OwnTrace) (front out : List ℕ) (count n : ℕ) → i < length traces → t ≡ get_or traces i t → count ≡ length (rows_of_parts (map part_of (take i traces))) →
    out ≡ front ++ text_of run_pieces_of (rows_of_parts (map part_of (take i traces))) → n ≡ length t.lines → count + (n + 3) ≤ length (out ++ text_of run_pieces_of (rows_of_part (part_of t)))
count_small traces i t front out count n lt is counted put lines = let before = rows_of_parts (map part_of (take i traces)) in let new = text_of run_pieces_of (rows_of_part (part_of t)) in
    omega (arith, length-append out new, ap length put, length-append front (text_of run_pieces_of before), rows_least before, rows_least (rows_of_part (part_of t)), rows_in_part (part_of t), counted, lines)

pub run_put : (front : List ℕ) (r : RunRecord) → (((front ++ (codes "run 2" ++ 10 ∷ [])) ++ scenario.spelling r.world) ++ text_of run_pieces_of (rows_of_parts r.parts)) ++ line_of_row run_pieces_of (row (Own Count) (length (rows_of_parts r.parts) ∷ []) []) ≡ front ++ run_spelling r
run_put front r = let all = rows_of_parts r.parts in let first = codes "run 2" in let count = row (Own Count) (length all ∷ []) [] in
    text-push run_pieces_of ((front ++ (first ++ 10 ∷ [])) ++ scenario.spelling r.world) all count
    ∙ (ap (λ (t : List ℕ). t ++ text_of run_pieces_of (run_rows r.parts)) (append_assoc front (first ++ 10 ∷ []) (scenario.spelling r.world))
    ∙ append_assoc front ((first ++ 10 ∷ []) ++ scenario.spelling r.world) (text_of run_pieces_of (run_rows r.parts)))
