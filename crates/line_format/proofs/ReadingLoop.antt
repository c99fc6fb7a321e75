-- Reading line by line in a loop: the rest gives what the whole text gives.
use Rattle.std.proofs.Common.{◌≡◌, ℕ, ◌+◌, ◌<◌, true, false, List, [], ◌∷◌, length, Result, Ok, Err, refl, sym, ap, ◌∙◌, arith}
use Rattle.std.proofs.lemmas.List.{nil_from_length}
use Rattle.line_format.specs.Forms.{cuts}
use Rattle.line_format.specs.Machine.{Machine, Wrong, At, After, NoEnd, is_nothing, read_pieces}
use Rattle.line_format.proofs.ReadingLines.{some_piece, some_after, good, last, after}

nothing_after : (more : List ℕ) → length more ≡ 0 → is_nothing (cuts 10 more) ≡ true
nothing_after more none = ap (λ (t : List ℕ). is_nothing (cuts 10 t)) (nil_from_length more none)

wrong : {S C : Type 0} (m : Machine S C) (d : S) (n : ℕ) (line : List ℕ) (more : List (List ℕ)) (cause : C) → 0 < length more → m.step d line ≡ Err cause → read_pieces m d n (line ∷ more) ≡ Err (At cause (n + 1))
unfolding read_pieces
wrong m d n line [] cause some is = absurd (omega arith)
wrong m d n line (next ∷ more) cause some is = rw is refl

pub wrong_line : {S C : Type 0} (m : Machine S C) (d : S) (n : ℕ) (rest line more : List ℕ) (cause : C) (total : Result S (Wrong C)) → cuts 10 rest ≡ line ∷ cuts 10 more → m.step d line ≡ Err cause → read_pieces m d n (cuts 10 rest) ≡ total → total ≡ Err (At cause (n + 1))
wrong_line m d n rest line more cause total cut is draft_view = sym draft_view ∙ rw cut (wrong m d n line (cuts 10 more) cause (some_piece more) is)

pub good_line : {S C : Type 0} (m : Machine S C) (d now : S) (n : ℕ) (rest line more : List ℕ) (total : Result S (Wrong C)) → cuts 10 rest ≡ line ∷ cuts 10 more → m.step d line ≡ Ok now → m.ended now ≡ false → read_pieces m d n (cuts 10 rest) ≡ total → read_pieces m now (n + 1) (cuts 10 more) ≡ total
good_line m d now n rest line more total cut is goes_on draft_view = sym (rw cut (good m d now n line (cuts 10 more) (some_piece more) is goes_on)) ∙ draft_view

pub last_line : {S C : Type 0} (m : Machine S C) (d now : S) (n : ℕ) (rest line more : List ℕ) (total : Result S (Wrong C)) → cuts 10 rest ≡ line ∷ cuts 10 more → m.step d line ≡ Ok now → m.ended now ≡ true → length more ≡ 0 → read_pieces m d n (cuts 10 rest) ≡ total → total ≡ Ok now
last_line m d now n rest line more total cut is ended none draft_view = sym draft_view ∙ rw cut (last m d now n line (cuts 10 more) (some_piece more) is ended (nothing_after more none))

pub after_end : {S C : Type 0} (m : Machine S C) (d now : S) (n : ℕ) (rest line more : List ℕ) (total : Result S (Wrong C)) → cuts 10 rest ≡ line ∷ cuts 10 more → m.step d line ≡ Ok now → m.ended now ≡ true → 0 < length more → read_pieces m d n (cuts 10 rest) ≡ total → total ≡ Err (After (n + 2))
after_end m d now n rest line more total cut is ended some draft_view = sym draft_view ∙ rw cut (after m d now n line (cuts 10 more) (some_piece more) is ended (some_after more some))

pub no_end : {S C : Type 0} (m : Machine S C) (d : S) (n : ℕ) (rest : List ℕ) (total : Result S (Wrong C)) → cuts 10 rest ≡ rest ∷ [] → read_pieces m d n (cuts 10 rest) ≡ total → total ≡ Err NoEnd
unfolding read_pieces
no_end m d n rest total cut draft_view = sym draft_view ∙ rw cut refl
