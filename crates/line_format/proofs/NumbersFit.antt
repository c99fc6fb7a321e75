-- The numbers of a form, one by one.
use Rattle.std.proofs.Common.{◌≡◌, ℕ, suc, ◌≤◌, List, [], ◌∷◌, length, get_or, refl, sym, ap, arith}
use Rattle.line_format.specs.Forms.{Piece, Word, Number, Hex, Fit}
use Rattle.line_format.specs.Rows.{row}

abbrev count : List Piece → ℕ
count [] = 0
count (Word w ∷ ps) = count ps
count (Hex ∷ ps) = count ps
count (Number low high ∷ ps) = suc (count ps)

pub counted : (ps : List Piece) (ns : List ℕ) → Fit ps ns → length ns ≡ count ps
counted [] [] fit = refl
counted [] (n ∷ ns) fit = absurd fit
counted (Word w ∷ ps) ns fit = counted ps ns fit
counted (Hex ∷ ps) ns fit = counted ps ns fit
counted (Number low high ∷ ps) [] fit = absurd fit
counted (Number low high ∷ ps) (n ∷ ns) fit = ap suc (counted ps ns fit.2)

pub list_0 : (ns : List ℕ) → length ns ≡ 0 → [] ≡ ns
list_0 [] e = refl
list_0 (n ∷ ns) e = absurd (omega arith)

pub list_1 : (ns : List ℕ) → length ns ≡ 1 → get_or ns 0 0 ∷ [] ≡ ns
list_1 [] e = absurd (omega arith)
list_1 (a ∷ ns) e = ap (λ (t : List ℕ). a ∷ t) (list_0 ns (omega arith))

pub list_2 : (ns : List ℕ) → length ns ≡ 2 → get_or ns 0 0 ∷ get_or ns 1 0 ∷ [] ≡ ns
list_2 [] e = absurd (omega arith)
list_2 (a ∷ ns) e = ap (λ (t : List ℕ). a ∷ t) (list_1 ns (omega arith))

pub list_3 : (ns : List ℕ) → length ns ≡ 3 → get_or ns 0 0 ∷ get_or ns 1 0 ∷ get_or ns 2 0 ∷ [] ≡ ns
list_3 [] e = absurd (omega arith)
list_3 (a ∷ ns) e = ap (λ (t : List ℕ). a ∷ t) (list_2 ns (omega arith))

pub list_4 : (ns : List ℕ) → length ns ≡ 4 → get_or ns 0 0 ∷ get_or ns 1 0 ∷ get_or ns 2 0 ∷ get_or ns 3 0 ∷ [] ≡ ns
list_4 [] e = absurd (omega arith)
list_4 (a ∷ ns) e = ap (λ (t : List ℕ). a ∷ t) (list_3 ns (omega arith))

-- ---- a form with one number

pub in_range : (low high : ℕ) (ps : List Piece) (ns : List ℕ) → Fit (Number low high ∷ ps) ns → (low ≤ get_or ns 0 0) × (get_or ns 0 0 ≤ high)
in_range low high ps [] fit = absurd fit
in_range low high ps (n ∷ ns) fit = (fit.0, fit.1)

pub one_alone : (ns : List ℕ) → Fit (Number 1 1 ∷ []) ns → 1 ∷ [] ≡ ns
one_alone [] fit = absurd fit
one_alone (n ∷ []) fit = ap (λ (k : ℕ). k ∷ []) (omega arith)
one_alone (n ∷ m ∷ ns) fit = absurd fit.2

pub same_row : {F : Type 0} (form : F) (ns ms bytes : List ℕ) → ns ≡ ms → [] ≡ bytes → row form ns [] ≡ row form ms bytes
same_row form ns ms bytes e f = rw (e, f) refl

pub the_number : {F : Type 0} (form : F) (low high : ℕ) (ns bytes : List ℕ) → Fit (Number low high ∷ []) ns → bytes ≡ [] → row form (get_or ns 0 0 ∷ []) [] ≡ row form ns bytes
the_number form low high ns bytes fit none = same_row form _ ns bytes (list_1 ns (counted (Number low high ∷ []) ns fit)) (sym none)

-- ---- a form without values

pub no_number : {F : Type 0} (form : F) (ns bytes : List ℕ) → Fit [] ns → bytes ≡ [] → row form [] [] ≡ row form ns bytes
no_number form ns bytes fit none = same_row form [] ns bytes (list_0 ns (counted [] ns fit)) (sym none)
