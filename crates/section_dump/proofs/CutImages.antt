-- A cut image has the header's numbers of the whole one.
use Rattle.std.proofs.Common.{◌≡◌, ℕ, zero, suc, ◌+◌, ◌*◌, ◌≤◌, List, length, take, drop, refl, sym, ap, subst, ◌∙◌, arith, length-take}
use Rattle.std.specs.Prelude.{slice_index}
use Rattle.std.proofs.lemmas.List.{get_or-take, get_or-drop, length-take-le, take-take}
use Rattle.byteorder.specs.Endian.{little_from, little_number}
use Rattle.section_map.specs.Geometry.{Shape, IsShape, word_count}
use Rattle.section_map.specs.Faults.{IsPages, IsSomePages, shape_of}
use Rattle.section_dump.specs.Image.{shape_in, length_due, peers_in, table_in, common_in, out_in}
use Rattle.section_dump.specs.Laws.{CutHeadersAreBad, CutImagesAreShort}

-- A number within the first j bytes is the same in them.
number_from : (image : List ℕ) (j k i n : ℕ) → k + i + n ≤ j → little_from i n (drop k (take j image)) ≡ little_from i n (drop k image)
number_from image j k i zero within = refl
number_from image j k i (suc n) within =
    let byte : slice_index (drop k (take j image)) i ≡ slice_index (drop k image) i =
    get_or-drop k (take j image) i 0 ∙ (get_or-take j image (k + i) 0 (omega (arith, within)) ∙ sym (get_or-drop k image i 0)) in
    let more = number_from image j k (suc i) n (omega (arith, within)) in
    ap (λ b. b + 256 * little_from (suc i) n (drop k (take j image))) byte ∙ ap (λ m. slice_index (drop k image) i + 256 * m) more

number : (image : List ℕ) (j k n : ℕ) → k + n ≤ j → little_number n (drop k (take j image)) ≡ little_number n (drop k image)
number image j k n within = number_from image j k 0 n (omega (arith, within))

pub cut_headers_are_bad : CutHeadersAreBad
cut_headers_are_bad image j few has = omega (arith, has.0, length-take j image)

pub cut_images_are_short : CutImagesAreShort
cut_images_are_short image j is whole cut =
    let count : length (take j image) ≡ j = length-take-le j image (omega (arith, cut)) in
    let peers : peers_in (take j image) ≡ peers_in image = number image j 8 4 (omega (arith, whole)) in
    let table : table_in (take j image) ≡ table_in image = number image j 12 4 (omega (arith, whole)) in
    let common : common_in (take j image) ≡ common_in image = number image j 16 8 (omega (arith, whole)) in
    let out : out_in (take j image) ≡ out_in image = number image j 24 8 (omega (arith, whole)) in
    let shape : shape_in (take j image) ≡ shape_in image =
    ap (λ p. shape_of p (table_in (take j image)) (common_in (take j image)) (out_in (take j image))) peers
    ∙ (ap (λ t. shape_of (peers_in image) t (common_in (take j image)) (out_in (take j image))) table
    ∙ (ap (λ c. shape_of (peers_in image) (table_in image) c (out_in (take j image))) common
    ∙ ap (λ o. shape_of (peers_in image) (table_in image) (common_in image) o) out)) in
    let due : length image ≡ length_due (take j image) = is.whole ∙ ap (λ (s : Shape). 32 + 4 * word_count s) (sym shape) in (
      (omega (arith, whole, count), take-take 8 j image (omega (arith, whole)) ∙ is.header.1),
      (subst IsSomePages (sym table) is.sizes.0, subst IsPages (sym common) is.sizes.1, subst IsSomePages (sym out) is.sizes.2, subst IsShape (sym shape) is.sizes.3),
      cut,
      due,
      sym count,
    )
