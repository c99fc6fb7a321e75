-- The laws of reading line by line, for every machine.
use Rattle.std.proofs.Common.{◌≡◌, ℕ, zero, suc, ◌+◌, ◌-◌, ◌<◌, ◌≤◌, Bool, true, false, cond, eqb, not, List, [], ◌∷◌, ◌++◌, length, get_or, take, Result, Ok, Err, refl, sym, ap, subst, ◌∙◌, append_assoc, arith, ◌⊎◌, inl, inr}
use Rattle.std.specs.List.{join_with_byte, onto_first}
use Rattle.std.proofs.Math.Seq.{take-append-add}
use Rattle.std.proofs.lemmas.Bool.{cases_lt}
use Rattle.std.proofs.lemmas.List.{length-append, length-take, get_or-take, take-append-le}
use Rattle.std.proofs.lemmas.List.Concat.{flat_map-cons}
use Rattle.std.proofs.lemmas.List.Splits.{slice_split_at, slice_split_none, length-slice_split, join_with_byte-slice_split}
use Rattle.line_format.specs.Forms.{cuts}
use Rattle.line_format.specs.Machine.{Machine, Wrong, At, After, NoEnd, is_nothing, bytes_after_line, read_pieces, read, text_of_lines, HasNoNewline, Leads, Passes, IsFirstWrong}

pub some_piece : (bytes : List ℕ) → 0 < length (cuts 10 bytes)
some_piece bytes = omega (arith, length-slice_split (λ b. eqb b 10) bytes)

empty_first : (pieces : List (List ℕ)) → 0 < length pieces → is_nothing ([] ∷ pieces) ≡ false
empty_first [] some = absurd (omega arith)
empty_first (p ∷ ps) some = refl

put_first : (b : ℕ) (pieces : List (List ℕ)) → is_nothing (onto_first b pieces) ≡ false
put_first b [] = refl
put_first b (p ∷ ps) = refl

pub some_after : (more : List ℕ) → 0 < length more → is_nothing (cuts 10 more) ≡ false
some_after [] some = absurd (omega arith)
some_after (b ∷ more) some =
    elim (eqb b 10) as (λ t. is_nothing (cond t ([] ∷ cuts 10 more) (onto_first b (cuts 10 more))) ≡ false) [
      | true ↦ empty_first (cuts 10 more) (some_piece more)
      | false ↦ put_first b (cuts 10 more)
    ]

pub good : {S C : Type 0} (m : Machine S C) (d now : S) (n : ℕ) (line : List ℕ) (more : List (List ℕ)) → 0 < length more → m.step d line ≡ Ok now → m.ended now ≡ false → read_pieces m d n (line ∷ more) ≡ read_pieces m now (n + 1) more
unfolding read_pieces
good m d now n line [] some is goes_on = absurd (omega arith)
good m d now n line (next ∷ more) some is goes_on = rw (is, goes_on) refl

pub last : {S C : Type 0} (m : Machine S C) (d now : S) (n : ℕ) (line : List ℕ) (more : List (List ℕ)) → 0 < length more → m.step d line ≡ Ok now → m.ended now ≡ true → is_nothing more ≡ true → read_pieces m d n (line ∷ more) ≡ Ok now
unfolding read_pieces
last m d now n line [] some is ended none = absurd (omega arith)
last m d now n line (next ∷ more) some is ended none = rw (is, ended, none) refl

pub after : {S C : Type 0} (m : Machine S C) (d now : S) (n : ℕ) (line : List ℕ) (more : List (List ℕ)) → 0 < length more → m.step d line ≡ Ok now → m.ended now ≡ true → is_nothing more ≡ false → read_pieces m d n (line ∷ more) ≡ Err (After (n + 2))
unfolding read_pieces
after m d now n line [] some is ended more' = absurd (omega arith)
after m d now n line (next ∷ more) some is ended more' = rw (is, ended, more') refl

text-cons : (line : List ℕ) (lines : List (List ℕ)) → text_of_lines (line ∷ lines) ≡ line ++ 10 ∷ text_of_lines lines
text-cons line lines = flat_map-cons (λ l. l ++ 10 ∷ []) line lines ∙ append_assoc line (10 ∷ []) (text_of_lines lines)

cuts-line : (line rest : List ℕ) → HasNoNewline line → cuts 10 (line ++ 10 ∷ rest) ≡ line ∷ cuts 10 rest
cuts-line line rest plain = slice_split_at (λ b. eqb b 10) line 10 rest plain refl

-- ---- lines that lead to the end are read

pub reads : {S C : Type 0} (m : Machine S C) (d : S) (n : ℕ) (lines : List (List ℕ)) (e : S) → Leads m d lines e → read_pieces m d n (cuts 10 (text_of_lines lines)) ≡ Ok e
reads m d n [] e leads = absurd leads
reads m d n (line ∷ []) e leads =
    let cut = ap (cuts 10) (text-cons line []) ∙ cuts-line line [] leads.0 in
    rw cut (last m d e n line (cuts 10 []) (some_piece []) leads.1 leads.2 refl)
reads m d n (line ∷ next ∷ more) e leads =
    let rest = text_of_lines (next ∷ more) in
    let cut = ap (cuts 10) (text-cons line (next ∷ more)) ∙ cuts-line line rest leads.1 in
    rw cut (good m d leads.0 n line (cuts 10 rest) (some_piece rest) leads.2 leads.3 ∙ reads m leads.0 (n + 1) (next ∷ more) e leads.4)

same_number : {S C : Type 0} (a b : ℕ) → a ≡ b → ◌≡◌ {A = Result S (Wrong C)} (Err (After a)) (Err (After b))
same_number a b e = ap (λ k. Err (After k)) e

-- ---- bytes after the end

pub reads_after : {S C : Type 0} (m : Machine S C) (d : S) (n : ℕ) (lines : List (List ℕ)) (e : S) (bytes : List ℕ) → Leads m d lines e → 0 < length bytes → read_pieces m d n (cuts 10 (text_of_lines lines ++ bytes)) ≡ Err (After (n + length lines + 1))
reads_after m d n [] e bytes leads some = absurd leads
reads_after m d n (line ∷ []) e bytes leads some =
    let part : text_of_lines (line ∷ []) ++ bytes ≡ line ++ 10 ∷ bytes = rw text-cons (append_assoc line (10 ∷ []) bytes) in
    let number : n + 2 ≡ n + 1 + 1 = omega arith in
    rw (part, cuts-line line bytes leads.0) (after m d e n line (cuts 10 bytes) (some_piece bytes) leads.1 leads.2 (some_after bytes some) ∙ same_number _ _ number)
reads_after m d n (line ∷ next ∷ more) e bytes leads some =
    let rest = text_of_lines (next ∷ more) ++ bytes in
    let part : text_of_lines (line ∷ next ∷ more) ++ bytes ≡ line ++ 10 ∷ rest = rw text-cons (append_assoc line (10 ∷ text_of_lines (next ∷ more)) bytes) in
    let number : n + 1 + length (next ∷ more) + 1 ≡ n + length (line ∷ next ∷ more) + 1 = omega arith in
    rw (part, cuts-line line rest leads.1) (good m d leads.0 n line (cuts 10 rest) (some_piece rest) leads.2 leads.3 ∙ reads_after m leads.0 (n + 1) (next ∷ more) e bytes leads.4 some ∙ same_number _ _ number)

-- ---- what is read is lines that lead to the end

nothing-is : (more : List (List ℕ)) → is_nothing more ≡ true → more ≡ [] ∷ []
nothing-is [] e = absurd cc
nothing-is ([] ∷ []) e = refl
nothing-is ((b ∷ bs) ∷ ps) e = absurd cc
nothing-is ([] ∷ p ∷ ps) e = absurd cc

ends : {S C : Type 0} (b c : Bool) (n : ℕ) (later : S → Result S (Wrong C)) (now e : S) → cond (not b) (later now) (cond c (Ok now) (Err (After (n + 2)))) ≡ Ok e
    → ((b ≡ false) × (later now ≡ Ok e)) ⊎ ((b ≡ true) × (c ≡ true) × (now ≡ e))
ends false c n later now e is = inl (refl, is)
ends true true n later now e is = inr (refl, refl, cc)
ends true false n later now e is = absurd cc

after_ok : {S C : Type 0} (ended : S → Bool) (n : ℕ) (more : List (List ℕ)) (later : S → Result S (Wrong C)) (r : Result S C) (e : S) → bytes_after_line ended n more later r ≡ Ok e
    → (now : S) × (r ≡ Ok now) × (((ended now ≡ false) × (later now ≡ Ok e)) ⊎ ((ended now ≡ true) × (is_nothing more ≡ true) × (now ≡ e)))
after_ok ended n more later (Err cause) e is = absurd cc
after_ok ended n more later (Ok now) e is = (now, refl, ends (ended now) (is_nothing more) n later now e is)

abbrev AllPlain : List (List ℕ) → Type 0
AllPlain [] = Unit {0}
AllPlain (line ∷ lines) = HasNoNewline line × AllPlain lines

leads-cons : {S C : Type 0} (m : Machine S C) (d now : S) (line : List ℕ) (lines : List (List ℕ)) (e : S) → HasNoNewline line → m.step d line ≡ Ok now → m.ended now ≡ false → Leads m now lines e → Leads m d (line ∷ lines) e
leads-cons m d now line [] e plain is goes_on leads = absurd leads
leads-cons m d now line (next ∷ more) e plain is goes_on leads = (now, plain, is, goes_on, leads)

pub lines_back : {S C : Type 0} (m : Machine S C) (d : S) (n : ℕ) (pieces : List (List ℕ)) (e : S) → AllPlain pieces → read_pieces m d n pieces ≡ Ok e → (lines : List (List ℕ)) × (join_with_byte 10 pieces ≡ text_of_lines lines) × Leads m d lines e
unfolding read_pieces
lines_back m d n [] e plain is = absurd cc
lines_back m d n (line ∷ []) e plain is = absurd cc
lines_back m d n (line ∷ next ∷ more) e plain is =
    let b = after_ok m.ended n (next ∷ more) (λ now. read_pieces m now (n + 1) (next ∷ more)) (m.step d line) e is in
    elim b.2 [
      | inl later ↦
          let rest = lines_back m b.0 (n + 1) (next ∷ more) e plain.1 later.1 in
          (line ∷ rest.0, ap (λ (x : List ℕ). line ++ 10 ∷ x) rest.1 ∙ sym (text-cons line rest.0), leads-cons m d b.0 line rest.0 e plain.0 b.1 later.0 rest.2)
      | inr end ↦
          let Q : List (List ℕ) → Type 0 = λ ps. join_with_byte 10 (line ∷ ps) ≡ text_of_lines (line ∷ []) in
          (line ∷ [], subst Q (sym (nothing-is (next ∷ more) end.1)) (sym (text-cons line [])), (plain.0, b.1 ∙ ap (λ x. Ok x) end.2, rw (← end.2) end.0))
    ]

-- ---- a text that is cut

plain_front : (line : List ℕ) (j : ℕ) → HasNoNewline line → HasNoNewline (take j line)
plain_front line j plain = λ k d lt.
    let low : k < j = omega (arith, length-take j line) in
    let far : k < length line = omega (arith, length-take j line) in
    rw (get_or-take j line k d low) (plain k d far)

one_piece : {S C : Type 0} (m : Machine S C) (d : S) (n : ℕ) (line : List ℕ) → HasNoNewline line → read_pieces m d n (cuts 10 line) ≡ Err NoEnd
unfolding read_pieces
one_piece m d n line plain = rw (slice_split_none (λ b. eqb b 10) line plain) refl

take_past : (line rest : List ℕ) (j k : ℕ) → j ≡ length line + suc k → take j (line ++ 10 ∷ rest) ≡ line ++ 10 ∷ take k rest
take_past line rest j k is = ap (λ (i : ℕ). take i (line ++ 10 ∷ rest)) is ∙ take-append-add line (10 ∷ rest) (suc k)

pub reads_cut : {S C : Type 0} (m : Machine S C) (d : S) (n : ℕ) (lines : List (List ℕ)) (e : S) (j : ℕ) → Leads m d lines e → j < length (text_of_lines lines) → read_pieces m d n (cuts 10 (take j (text_of_lines lines))) ≡ Err NoEnd
reads_cut m d n [] e j leads lt = absurd leads
reads_cut m d n (line ∷ []) e j leads lt =
    let short : j ≤ length line = omega (arith, length-append line (10 ∷ []), ap length (text-cons line [])) in
    let part : take j (text_of_lines (line ∷ [])) ≡ take j line = rw text-cons (take-append-le j line (10 ∷ []) short) in
    rw part (one_piece m d n (take j line) (plain_front line j leads.0))
reads_cut m d n (line ∷ next ∷ more) e j leads lt =
    let rest = text_of_lines (next ∷ more) in
    elim (cases_lt (length line) j) [
      | inl long ↦
          let k = j - (length line + 1) in
          let part : take j (text_of_lines (line ∷ next ∷ more)) ≡ line ++ 10 ∷ take k rest = rw text-cons (take_past line rest j k (omega arith)) in
          let few : k < length rest = omega (arith, length-append line (10 ∷ rest), ap length (text-cons line (next ∷ more))) in
          rw (part, cuts-line line (take k rest) leads.1) (good m d leads.0 n line (cuts 10 (take k rest)) (some_piece (take k rest)) leads.2 leads.3 ∙ reads_cut m leads.0 (n + 1) (next ∷ more) e k leads.4 few)
      | inr short ↦
          let part : take j (text_of_lines (line ∷ next ∷ more)) ≡ take j line = rw text-cons (take-append-le j line (10 ∷ rest) short) in
          rw part (one_piece m d n (take j line) (plain_front line j leads.1))
    ]

-- ---- no piece has a newline

go : (b : ℕ) (line : List ℕ) → eqb b 10 ≡ false → HasNoNewline line → (k d : ℕ) → k < length (b ∷ line) → eqb (get_or (b ∷ line) k d) 10 ≡ false
go b line here plain zero d lt = here
go b line here plain (suc k) d lt = plain k d (omega arith)

at_front : (b : ℕ) (line : List ℕ) → eqb b 10 ≡ false → HasNoNewline line → HasNoNewline (b ∷ line)
at_front b line here plain = λ k d lt. go b line here plain k d lt

put_on : (b : ℕ) (pieces : List (List ℕ)) → eqb b 10 ≡ false → AllPlain pieces → AllPlain (onto_first b pieces)
put_on b [] here all = (at_front b [] here (λ k d lt. absurd (omega arith)), tt)
put_on b (p ∷ ps) here all = (at_front b p here all.0, all.1)

plain_step : (b : ℕ) (pieces : List (List ℕ)) (t : Bool) → eqb b 10 ≡ t → AllPlain pieces → AllPlain (cond t ([] ∷ pieces) (onto_first b pieces))
plain_step b pieces true is all = ((λ k d lt. absurd (omega arith)), all)
plain_step b pieces false is all = put_on b pieces is all

pieces_plain : (bytes : List ℕ) → AllPlain (cuts 10 bytes)
pieces_plain [] = ((λ k d lt. absurd (omega arith)), tt)
pieces_plain (b ∷ bytes) = plain_step b (cuts 10 bytes) (eqb b 10) refl (pieces_plain bytes)

-- A text is read exactly if it is lines that lead to the value read.
pub read_is_lines : {S C : Type 0} (m : Machine S C) (start e : S) (bytes : List ℕ) → read m start bytes ≡ Ok e → (lines : List (List ℕ)) × (bytes ≡ text_of_lines lines) × Leads m start lines e
read_is_lines m start e bytes is =
    let back = lines_back m start 0 (cuts 10 bytes) e (pieces_plain bytes) is in
    (back.0, sym (join_with_byte-slice_split 10 bytes) ∙ back.1, back.2)

-- ---- the first faulty line

abbrev FirstWrong : {S C : Type 0} → Machine S C → S → ℕ → List (List ℕ) → C → ℕ → Type 0
FirstWrong {S} m d n pieces cause k = (good : List (List ℕ)) × (line : List ℕ) × (rest : List (List ℕ)) × (now : S) × (pieces ≡ good ++ line ∷ rest) × (0 < length rest) × Passes m d good now × (m.step now line ≡ Err cause) × (k ≡ n + length good + 1)

at_is : {S C : Type 0} (c cause : C) (a k : ℕ) → ◌≡◌ {A = Result S (Wrong C)} (Err (At c a)) (Err (At cause k)) → (c ≡ cause) × (a ≡ k)
at_is c cause a k e = (cc, cc)

ended_is : {S C : Type 0} (b c : Bool) (later : Result S (Wrong C)) (now : S) (a k : ℕ) (cause : C) → cond (not b) later (cond c (Ok now) (Err (After a))) ≡ Err (At cause k) → (b ≡ false) × (later ≡ Err (At cause k))
ended_is false c later now a k cause e = (refl, e)
ended_is true true later now a k cause e = absurd cc
ended_is true false later now a k cause e = absurd cc

here : {S C : Type 0} (m : Machine S C) (d : S) (n : ℕ) (line : List ℕ) (more : List (List ℕ)) (cause : C) (k : ℕ) → 0 < length more → (r : Result S C) → m.step d line ≡ r
    → ((now : S) → read_pieces m now (n + 1) more ≡ Err (At cause k) → FirstWrong m now (n + 1) more cause k)
    → bytes_after_line m.ended n more (λ now. read_pieces m now (n + 1) more) r ≡ Err (At cause k) → FirstWrong m d n (line ∷ more) cause k
here m d n line more cause k some (Err c) is later e =
    let t = at_is c cause (n + 1) k e in
    ([], line, more, d, refl, some, refl, is ∙ ap (λ x. Err x) t.0, omega (arith, t.1))
here m d n line more cause k some (Ok now) is later e =
    let t = ended_is (m.ended now) (is_nothing more) (read_pieces m now (n + 1) more) now (n + 2) k cause e in
    let f = later now t.1 in
    (line ∷ f.0, f.1, f.2, f.3, ap (λ (x : List (List ℕ)). line ∷ x) f.4, f.5, (now, is, t.0, f.6), f.7, omega (arith, f.8))

pub wrong_back : {S C : Type 0} (m : Machine S C) (d : S) (n : ℕ) (pieces : List (List ℕ)) (cause : C) (k : ℕ) → read_pieces m d n pieces ≡ Err (At cause k) → FirstWrong m d n pieces cause k
unfolding read_pieces
wrong_back m d n [] cause k is = absurd cc
wrong_back m d n (line ∷ []) cause k is = absurd cc
wrong_back m d n (line ∷ next ∷ more) cause k is = here m d n line (next ∷ more) cause k (omega arith) (m.step d line) refl (λ now later. wrong_back m now (n + 1) (next ∷ more) cause k later) is

pub is_first_wrong : {S C : Type 0} (m : Machine S C) (d : S) (pieces : List (List ℕ)) (cause : C) (k : ℕ) → read_pieces m d 0 pieces ≡ Err (At cause k) → IsFirstWrong m d pieces cause k
is_first_wrong m d pieces cause k is =
    let t = wrong_back m d 0 pieces cause k is in
    record { good = t.0; line = t.1; rest = t.2; now = t.3; parts = t.4; whole = t.5; passes = t.6; wrong = t.7; number = omega (arith, t.8) }

-- ---- lines before the last

-- No line is faulty and none has a newline, and the lines lead from `d` to `e` without an end.
abbrev pub Goes : {S C : Type 0} → Machine S C → S → List (List ℕ) → S → Type 0
Goes m d [] e = d ≡ e
Goes {S} m d (line ∷ lines) e = (now : S) × HasNoNewline line × (m.step d line ≡ Ok now) × (m.ended now ≡ false) × Goes m now lines e

pub goes-append : {S C : Type 0} (m : Machine S C) (d : S) (lines more : List (List ℕ)) (e f : S) → Goes m d lines e → Goes m e more f → Goes m d (lines ++ more) f
goes-append m d [] more e f here later = subst (λ x. Goes m x more f) (sym here) later
goes-append m d (line ∷ lines) more e f here later = (here.0, here.1, here.2, here.3, goes-append m here.0 lines more e f here.4 later)

pub goes-leads : {S C : Type 0} (m : Machine S C) (d : S) (lines : List (List ℕ)) (e : S) (line : List ℕ) (f : S) → Goes m d lines e → HasNoNewline line → m.step e line ≡ Ok f → m.ended f ≡ true → Leads m d (lines ++ line ∷ []) f
goes-leads m d [] e line f here plain is ended = (plain, ap (λ x. m.step x line) here ∙ is, ended)
goes-leads m d (first ∷ lines) e line f here plain is ended = leads-cons m d here.0 first (lines ++ line ∷ []) f here.1 here.2 here.3 (goes-leads m here.0 lines e line f here.4 plain is ended)
