-- Reading a text line by line, for every kind of line.
use Rattle.std.specs.Prelude.{◌≡◌, ℕ, ◌+◌, ◌<◌, ◌==◌, not, if◌then◌else◌, Bool, true, false, List, [], ◌∷◌, ◌++◌, length, All, Result, Ok, Err}
use Rattle.std.specs.List.{flat_map}
use Rattle.line_format.specs.Forms.{cuts}

-- The effect of a line on the value of the lines so far, and the test for the end of a text.
pub record Machine (S C : Type 0) : Type 0 where
  pub step : S → List ℕ → Result S C
  pub ended : S → Bool

-- The fault of a text: the first faulty line with its cause, bytes after the end with the number of
-- their line, or no end.
pub data Wrong (C : Type 0) : Type 0 where
  At : C → ℕ → Wrong C
  After : ℕ → Wrong C
  NoEnd : Wrong C

-- Nothing comes after the last newline.
abbrev pub is_nothing : List (List ℕ) → Bool
is_nothing ([] ∷ []) = true
is_nothing _ = false

abbrev pub bytes_after_line : {S C : Type 0} → (S → Bool) → ℕ → List (List ℕ) → (S → Result S (Wrong C)) → Result S C → Result S (Wrong C)
bytes_after_line ended n more later (Err cause) = Err (At cause (n + 1))
bytes_after_line ended n more later (Ok now) =
    if not (ended now) then later now
    else if is_nothing more then Ok now else Err (After (n + 2))

-- The value of the pieces between newlines, after n lines; the last piece is no line.
unfoldable pub read_pieces : {S C : Type 0} → Machine S C → S → ℕ → List (List ℕ) → Result S (Wrong C)
read_pieces m d n [] = Err NoEnd
read_pieces m d n (line ∷ []) = Err NoEnd
read_pieces m d n (line ∷ next ∷ more) = bytes_after_line m.ended n (next ∷ more) (λ now. read_pieces m now (n + 1) (next ∷ more)) (m.step d line)

abbrev pub read : {S C : Type 0} → Machine S C → S → List ℕ → Result S (Wrong C)
read m start bytes = read_pieces m start 0 (cuts 10 bytes)

-- ---- the same as a relation

abbrev pub text_of_lines : List (List ℕ) → List ℕ
text_of_lines lines = flat_map (λ line. line ++ 10 ∷ []) lines

abbrev pub HasNoNewline : List ℕ → Type 0
HasNoNewline line = All (λ b. (b == 10) ≡ false) line

-- The lines lead from `d` to the end `e`.
abbrev pub Leads : {S C : Type 0} → Machine S C → S → List (List ℕ) → S → Type 0
Leads m d [] e = ⊥
Leads m d (line ∷ []) e = HasNoNewline line × (m.step d line ≡ Ok e) × (m.ended e ≡ true)
Leads {S} m d (line ∷ next ∷ more) e = (now : S) × HasNoNewline line × (m.step d line ≡ Ok now) × (m.ended now ≡ false) × Leads m now (next ∷ more) e

-- ---- the first faulty line

-- No line is faulty, and the lines lead from `d` to `e` without an end.
abbrev pub Passes : {S C : Type 0} → Machine S C → S → List (List ℕ) → S → Type 0
Passes m d [] e = d ≡ e
Passes {S} m d (line ∷ lines) e = (now : S) × (m.step d line ≡ Ok now) × (m.ended now ≡ false) × Passes m now lines e

-- Line k is the first faulty one, for this cause: the lines before it pass.
pub record IsFirstWrong {S C : Type 0} (m : Machine S C) (d : S) (pieces : List (List ℕ)) (cause : C) (k : ℕ) : Type 0 where
  pub good : List (List ℕ)
  pub line : List ℕ
  pub rest : List (List ℕ)
  pub now : S
  pub parts : pieces ≡ good ++ line ∷ rest
  pub whole : 0 < length rest
  pub passes : Passes m d good now
  pub wrong : m.step now line ≡ Err cause
  pub number : k ≡ length good + 1
