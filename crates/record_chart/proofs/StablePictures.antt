-- A picture of the first lines of a record that no further line changes.
use Rattle.std.proofs.Common.{ℕ, zero, suc, ◌≡◌, ◌+◌, ◌-◌, ◌<◌, ◌≤◌, Bool, true, false, List, [], ◌∷◌, ◌++◌, length, take, drop, refl, ap, sym, ◌∙◌, arith, subst, inl, inr, length-append, length-take, length-drop}
use Rattle.std.proofs.lemmas.Bool.{cases_lt}
use Rattle.std.proofs.lemmas.List.{append-nil, take_all, take-append-le, drop-append-le}
use Rattle.std.proofs.lemmas.List.Sums.{sum_by-cons}
use Rattle.std.proofs.Math.Seq.{take-append-add}
use Rattle.scenario_text.specs.Scenario.{World}
use Rattle.lawful_history.specs.declared.line.Line.{Line}
use Rattle.record_chart.specs.declared.rows.Row.{Row}
use Rattle.record_chart.specs.declared.pictures.Picture.{Picture}
use Rattle.record_chart.specs.Rows.{goes_on, goes_on_after, row_of_one, put_before, storms_of, rows_of, lines_between}
use Rattle.record_chart.specs.Pictures.{count_of, rows_between, pair_arrows, IsPicture, IsPictureOfFront}

-- ---- the first rows don't change

heads : (r s : Row) (rs ss : List Row) (j : ℕ) → take (suc j) (r ∷ rs) ≡ take (suc j) (s ∷ ss) → (r ≡ s) × (take j rs ≡ take j ss)
heads r s rs ss j e = (cc, cc)

put_both : (b : Bool) (n : ℕ) (rows others : List Row) (k : ℕ) → 0 < length rows → 0 < length others → k < length (put_before b n rows)
    → ((j : ℕ) → j < length rows → take j others ≡ take j rows) → take k (put_before b n others) ≡ take k (put_before b n rows)
put_both b n [] others k some more below each = absurd (omega arith)
put_both b n (row ∷ rows) [] k some more below each = absurd (omega arith)
put_both b n (row ∷ rows) (other ∷ others) zero some more below each = refl
put_both false n (row ∷ rows) (other ∷ others) (suc j) some more below each = ap (λ (rs : List Row). row_of_one n ∷ rs) (each j (omega (arith, below)))
put_both true n (row ∷ rows) (other ∷ others) (suc j) some more below each =
    let both = heads other row others rows j (each (suc j) (omega (arith, below))) in
    ap (λ (r : Row). record { first = n; count = r.count + 1 } ∷ take j others) both.0 ∙ ap (λ (rs : List Row). record { first = n; count = row.count + 1 } ∷ rs) both.1

put_some : (b : Bool) (n : ℕ) (rows : List Row) → 0 < length (put_before b n rows)
put_some b n [] = omega arith
put_some true n (row ∷ rows) = omega arith
put_some false n (row ∷ rows) = omega arith

some_rows : (storms : List ℕ) (n : ℕ) (line : Line) (lines : List Line) → 0 < length (rows_of storms n (line ∷ lines))
some_rows storms n line lines = put_some (goes_on_after storms line lines) n (rows_of storms (n + 1) lines)

-- Lines at the end change no row but the last.
pub rows_stay : (storms : List ℕ) (n : ℕ) (lines more : List Line) (k : ℕ) → k < length (rows_of storms n lines) → take k (rows_of storms n (lines ++ more)) ≡ take k (rows_of storms n lines)
rows_stay storms n [] more k below = absurd (omega (arith, below))
rows_stay storms n (line ∷ []) more zero below = refl
rows_stay storms n (line ∷ []) more (suc k) below = absurd (omega (arith, below))
rows_stay storms n (line ∷ next ∷ lines) more k below =
    put_both (goes_on storms line next) n (rows_of storms (n + 1) (next ∷ lines)) (rows_of storms (n + 1) (next ∷ lines ++ more)) k
    (some_rows storms (n + 1) next lines) (some_rows storms (n + 1) next (lines ++ more)) below (λ j few. rows_stay storms (n + 1) (next ∷ lines) more j few)

put_counts : (b : Bool) (n : ℕ) (rows : List Row) → count_of (put_before b n rows) ≡ 1 + count_of rows
put_counts b n [] = refl
put_counts true n (row ∷ rows) =
    let old = sum_by-cons (λ (r : Row). r.count) row rows in
    let new = sum_by-cons (λ (r : Row). r.count) (record { first = n; count = row.count + 1 }) rows in
    omega (arith, old, new)
put_counts false n (row ∷ rows) = sum_by-cons (λ (r : Row). r.count) (row_of_one n) (row ∷ rows)

-- The rows count all lines.
pub rows_count : (storms : List ℕ) (n : ℕ) (lines : List Line) → count_of (rows_of storms n lines) ≡ length lines
rows_count storms n [] = refl
rows_count storms n (line ∷ lines) =
    let later = rows_count storms (n + 1) lines in
    let one_more : 1 + count_of (rows_of storms (n + 1) lines) ≡ length (line ∷ lines) = omega (arith, later) in
    put_counts (goes_on_after storms line lines) n (rows_of storms (n + 1) lines) ∙ one_more

-- ---- the wanted lines

module _ (world : World) (front : List Line) (first last : ℕ) (picture : Picture) (is : IsPicture world front first last picture) where
  -- No line comes after them.
  pub none_after : (count : ℕ) → count ≡ 0 → IsPictureOfFront world front count first last picture
  none_after count none [] number = subst (λ (ls : List Line). IsPicture world ls first last picture) (sym (append-nil front)) is
  none_after count none (line ∷ others) number = absurd (omega (arith, number, none))

  -- The last wanted line is one of them.
  pub none_asked : (count : ℕ) → first ≤ last → last ≤ length front → IsPictureOfFront world front count first last picture
  none_asked count some within others number =
      let same : lines_between first last (front ++ others) ≡ lines_between first last front = ap (drop (first - 1)) (take-append-le last front others within) in
      let size = length-drop (first - 1) (take last front) in
      let size' = length-take last front in
      let drawn : first - 1 + count_of picture.rows.items ≤ length front = omega (arith, is.left_out, size, size', some, within) in
      record {
        rows = is.rows ∙ ap (λ (ls : List Line). take 2000 (rows_of (storms_of world.acts) first ls)) (sym same);
        left_out = is.left_out ∙ ap length (sym same);
        storms = is.storms;
        arrows = is.arrows ∙ ap (pair_arrows world first) (sym (take-append-le (first - 1 + count_of picture.rows.items) front others drawn));
      }

  -- There are more rows than are drawn.
  long : 0 < picture.left_out → 2000 < length (rows_between world first last front)
  long some =
      let rows = rows_between world first last front in
      elim (cases_lt 2000 (length rows)) [
        | inl more ↦ more
        | inr few ↦
            let all : count_of picture.rows.items ≡ length (lines_between first last front) =
            ap count_of (is.rows ∙ take_all 2000 rows few) ∙ rows_count (storms_of world.acts) first (lines_between first last front) in
            absurd (omega (arith, all, is.left_out, some))
      ]

  -- Others are wanted, and left out too.
  pub more_left_out : (count left_out : ℕ) → 0 < picture.left_out → length front < last → ((others : List Line) → length others ≡ count → left_out ≡ picture.left_out + length (take (last - length front) others)) →
      IsPictureOfFront world front count first last (record picture { left_out = left_out })
  more_left_out count left_out some beyond sum others number =
      let storms = storms_of world.acts in
      let shown = lines_between first last front in
      let more = take (last - length front) others in
      let whole : take last front ≡ front = take_all last front (omega arith) in
      let place : last ≡ length front + (last - length front) = omega (arith, beyond) in
      let cut : take last (front ++ others) ≡ front ++ more = ap (λ k. take k (front ++ others)) place ∙ take-append-add front others (last - length front) in
      let size : length shown ≡ length front - (first - 1) = length-drop (first - 1) (take last front) ∙ ap (λ (ls : List Line). length ls - (first - 1)) whole in
      let inside : first - 1 ≤ length front = omega (arith, size, is.left_out, some) in
      let between : lines_between first last (front ++ others) ≡ shown ++ more =
      ap (drop (first - 1)) cut ∙ drop-append-le (first - 1) front more inside ∙ ap (λ (ls : List Line). drop (first - 1) ls ++ more) (sym whole) in
      let drawn : first - 1 + count_of picture.rows.items ≤ length front = omega (arith, is.left_out, size, inside) in
      record {
        rows = is.rows ∙ sym (rows_stay storms first shown more 2000 (long some)) ∙ ap (λ (ls : List Line). take 2000 (rows_of storms first ls)) (sym between);
        left_out = let sizes = ap length between ∙ length-append shown more in omega (arith, sizes, is.left_out, sum others number);
        storms = is.storms;
        arrows = is.arrows ∙ ap (pair_arrows world first) (sym (take-append-le (first - 1 + count_of picture.rows.items) front others drawn));
      }
