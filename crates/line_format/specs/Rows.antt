-- Lines as values: a table has the fields of each form, and a row is a form with its values.
use Rattle.std.specs.Prelude.{ℕ, ◌+◌, Bool, not, ◌&&◌, List, [], ◌∷◌, ◌++◌, true, false, Option}
use Rattle.std.specs.Str.{bytes_eq}
use Rattle.std.specs.List.{find, flat_map, list_all}
use Rattle.line_format.specs.Forms.{Piece, Word, matches, spell, line_of}

-- A line as a value: its form, its numbers from left to right, and its bytes.
pub record Row (F : Type 0) : Type 0 where
  pub form : F
  pub numbers : List ℕ
  pub frame : List ℕ

abbrev pub row : {F : Type 0} → F → List ℕ → List ℕ → Row F
row form ns frame = record { form = form; numbers = ns; frame = frame }

-- The fields of the row's line.
abbrev pub fields_of_row : {F : Type 0} → (F → List Piece) → Row F → List (List ℕ)
fields_of_row pieces_of r = spell (pieces_of r.form) r.numbers r.frame

-- The row's line with its newline.
unfoldable pub line_of_row : {F : Type 0} → (F → List Piece) → Row F → List ℕ
line_of_row pieces_of r = line_of (fields_of_row pieces_of r) ++ 10 ∷ []

-- The text of rows is their lines, each with its newline.
abbrev pub text_of : {F : Type 0} → (F → List Piece) → List (Row F) → List ℕ
text_of pieces_of rows = flat_map (line_of_row pieces_of) rows

-- The first form of the list whose words and number of fields match.
unfoldable pub find_form : {F : Type 0} → (F → List Piece) → List F → List (List ℕ) → Option F
find_form pieces_of forms fields = find (λ form. matches (pieces_of form) fields) forms

-- Whether there are fields that match both forms.
abbrev pub overlaps : List Piece → List Piece → Bool
overlaps [] [] = true
overlaps [] (q ∷ qs) = false
overlaps (p ∷ ps) [] = false
overlaps (Word v ∷ ps) (Word w ∷ qs) = bytes_eq v w && overlaps ps qs
overlaps (p ∷ ps) (q ∷ qs) = overlaps ps qs

-- Whether no fields match two of the forms.
abbrev pub are_apart : {F : Type 0} → (F → List Piece) → List F → Bool
are_apart pieces_of [] = true
are_apart pieces_of (f ∷ fs) = list_all (λ g. not (overlaps (pieces_of f) (pieces_of g))) fs && are_apart pieces_of fs

-- The row of flag n, of the form `set` if the flag is set.
abbrev pub flag_row : {F : Type 0} → (set clear : F) → ℕ → Bool → Row F
flag_row set clear n true = row set (n ∷ []) []
flag_row set clear n false = row clear (n ∷ []) []

-- A row for each item, made from its number and itself; the numbers go up from n.
abbrev pub numbered : {A F : Type 0} → (ℕ → A → Row F) → ℕ → List A → List (Row F)
numbered row_of n [] = []
numbered row_of n (item ∷ items) = row_of n item ∷ numbered row_of (n + 1) items

-- A row for each flag, from number n on.
abbrev pub flag_rows : {F : Type 0} → (set clear : F) → ℕ → List Bool → List (Row F)
flag_rows set clear n flags = numbered (flag_row set clear) n flags
