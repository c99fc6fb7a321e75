-- The fields of a section, and their values after a store of one word.
use Rattle.std.proofs.Common.{◌≡◌, ◌≢◌, ℕ, zero, suc, ◌+◌, ◌-◌, ◌*◌, ◌/◌, ◌%◌, ◌<◌, ◌≤◌, Bool, true, false, refl, sym, ap, ◌∙◌, arith, eq-eqb, ne_eqb}
use mathlib.Core.Logic.{dite}
use native.Mathlib.Decide.{ℕ_discrete, dec_lt}
use Rattle.std.specs.Prelude.{◌==◌, nat_lt, nat_le, ◌&&◌, if◌then◌else◌}
use Rattle.std.proofs.lemmas.Bool.Decides.{nat_tests}
use Rattle.std.proofs.Math.Nat.{mul-le-mul_left}
use Rattle.split_ring.specs.declared.sizes.TheConstants.{FRAME_OVERHEAD}
use Rattle.split_ring.specs.Layout.{Sizes, HasBounds, size_of, limit_of, data_area_start}
use Rattle.split_ring.specs.Frames.{start_of}
use Rattle.split_ring.proofs.QueueHasBounds.{bounds}
use Rattle.split_ring.proofs.FramesAreLaidOut.{frames_are_laid_out}
use Rattle.call_grammar.specs.Words.{words_for}
use Rattle.call_grammar.proofs.OfferLists.{yes, no}
use Rattle.link_invariant.specs.Fields.{Field, AvailIndex, UsedIndex, AvailEvent, AvailEntry, UsedId, UsedLength, AddressLow, AddressHigh, DescLength, DescFlags, DataWord, is_field, field_word, part_of}
use Rattle.link_invariant.specs.LinkConfig.{LinkConfig, IsLinkConfig, section_of, fields}
use Rattle.link_invariant.specs.Steps.{Stored, IsUntouched, OnlyOwnChange}

pub numbers : (link_config : LinkConfig) → IsLinkConfig link_config → HasBounds link_config.sizes
numbers link_config is = bounds link_config.sizes is.queue

-- Two different numbers that are less than c apart have different positions in a ring.
pub ring_apart : (c k a : ℕ) → 0 < c → k < a → a < k + c → a % c ≢ k % c
ring_apart c k a some lt far e = dite (dec_lt (k / c) (a / c))
    (λ up. let h : c * (k / c + 1) ≤ c * (a / c) = mul-le-mul_left c (omega arith) in omega arith)
    (λ down. let h : c * (a / c) ≤ c * (k / c) = mul-le-mul_left c (omega arith) in omega arith)

-- The fields of a section

abbrev pub Lies : Sizes → Field → Type 0
Lies q AvailIndex = Unit {0}
Lies q UsedIndex = Unit {0}
Lies q AvailEvent = Unit {0}
Lies q (AvailEntry k) = k < size_of q
Lies q (UsedId k) = k < size_of q
Lies q (UsedLength k) = k < size_of q
Lies q (AddressLow i) = i < size_of q
Lies q (AddressHigh i) = i < size_of q
Lies q (DescLength i) = i < size_of q
Lies q (DescFlags i) = i < size_of q
Lies q (DataWord w) = (data_area_start q / 4 ≤ w) × (w < q.out / 4)

less_of_test : (k n : ℕ) → nat_lt k n ≡ true → k < n
less_of_test k n h = grind (arith, nat_tests)

range_of_tests : (i m n : ℕ) → (nat_le m i && nat_lt i n) ≡ true → (m ≤ i) × (i < n)
range_of_tests i m n h = (grind (arith, nat_tests), grind (arith, nat_tests))

pub one_test : (i m : ℕ) → i < m → nat_lt i m ≡ true
one_test i m a = grind (arith, nat_tests)

pub both_tests : (i m n : ℕ) → m ≤ i → i < n → (nat_le m i && nat_lt i n) ≡ true
both_tests i m n a b = grind (arith, nat_tests)

lies : (q : Sizes) (f : Field) → is_field q f ≡ true → Lies q f
lies q AvailIndex h = tt
lies q UsedIndex h = tt
lies q AvailEvent h = tt
lies q (DataWord w) h = range_of_tests w (data_area_start q / 4) (q.out / 4) h
lies q (AvailEntry k) h = less_of_test k (size_of q) h
lies q (UsedId k) h = less_of_test k (size_of q) h
lies q (UsedLength k) h = less_of_test k (size_of q) h
lies q (AddressLow k) h = less_of_test k (size_of q) h
lies q (AddressHigh k) h = less_of_test k (size_of q) h
lies q (DescLength k) h = less_of_test k (size_of q) h
lies q (DescFlags k) h = less_of_test k (size_of q) h

-- Frames

-- A frame of `bytes` bytes that starts at `start` is in range, and its words end inside the
-- section.
pub record IsGood (link_config : LinkConfig) (start bytes : ℕ) : Type 0 where
  pub even : start % 4 ≡ 0
  pub after : data_area_start link_config.sizes ≤ start
  pub inside : start + 4 * words_for bytes ≤ link_config.sizes.out

-- Each frame of a session is in range.
pub start_good : (link_config : LinkConfig) → IsLinkConfig link_config → (length_of : ℕ → ℕ) (k : ℕ) → length_of k ≤ link_config.sizes.mtu + FRAME_OVERHEAD → IsGood link_config (start_of link_config.sizes length_of k) (length_of k)
start_good link_config is length_of k short =
    let placed = frames_are_laid_out.placed link_config.sizes length_of k is.queue in
    let holds = placed.holds short in
    let inside = placed.inside short in
    record { even = placed.even; after = placed.after; inside = omega arith }

-- Its words are fields.
pub is_word : (link_config : LinkConfig) → IsLinkConfig link_config → (start bytes at : ℕ) → IsGood link_config start bytes → at < words_for bytes → is_field link_config.sizes (DataWord (start / 4 + at)) ≡ true
is_word link_config is start bytes at good below =
    let even = good.even in let after = good.after in let inside = good.inside in let words = is.words in
    both_tests (start / 4 + at) (data_area_start link_config.sizes / 4) (link_config.sizes.out / 4) (omega arith) (omega arith)

-- The places of the fields

pub inside : (link_config : LinkConfig) → IsLinkConfig link_config → (f : Field) → is_field link_config.sizes f ≡ true → field_word link_config.sizes f < link_config.words
inside link_config is f h = placed f (lies link_config.sizes f h)
  where
    placed : (f : Field) → Lies link_config.sizes f → field_word link_config.sizes f < link_config.words
    placed (DataWord w) l = let words = is.words in let high = l.1 in omega arith
    placed AvailIndex l = let rings = (numbers link_config is).rings in let words = is.words in omega arith
    placed UsedIndex l = let rings = (numbers link_config is).rings in let words = is.words in omega arith
    placed AvailEvent l = let rings = (numbers link_config is).rings in let words = is.words in omega arith
    placed (AvailEntry k) l = let rings = (numbers link_config is).rings in let words = is.words in omega arith
    placed (UsedId k) l = let rings = (numbers link_config is).rings in let words = is.words in omega arith
    placed (UsedLength k) l = let rings = (numbers link_config is).rings in let words = is.words in omega arith
    placed (AddressLow i) l = let rings = (numbers link_config is).rings in let words = is.words in omega arith
    placed (AddressHigh i) l = let rings = (numbers link_config is).rings in let words = is.words in omega arith
    placed (DescLength i) l = let rings = (numbers link_config is).rings in let words = is.words in omega arith
    placed (DescFlags i) l = let rings = (numbers link_config is).rings in let words = is.words in omega arith

-- Two fields of one word are two available entries.
abbrev pub Entries : Field → Field → Type 0
Entries (AvailEntry k) (AvailEntry l) = l / 2 ≡ k / 2
Entries s t = ⊥

shares : (q : Sizes) (s t : Field) → limit_of q ≤ size_of q → Lies q s → Lies q t → t ≢ s → field_word q t ≡ field_word q s → Entries s t
shares q (AvailEntry k) (AvailEntry l) few ls lt ne e = omega arith
shares q (DataWord v) (DataWord w) few ls lt ne e = absurd (ne (ap DataWord e))
shares q AvailIndex AvailIndex few ls lt ne e = absurd (ne refl)
shares q UsedIndex UsedIndex few ls lt ne e = absurd (ne refl)
shares q AvailEvent AvailEvent few ls lt ne e = absurd (ne refl)
shares q (UsedId k) (UsedId l) few ls lt ne e = absurd (ne (ap UsedId (let f : l ≡ k = omega arith in f)))
shares q (UsedLength k) (UsedLength l) few ls lt ne e = absurd (ne (ap UsedLength (let f : l ≡ k = omega arith in f)))
shares q (AddressLow k) (AddressLow l) few ls lt ne e = absurd (ne (ap AddressLow (let f : l ≡ k = omega arith in f)))
shares q (AddressHigh k) (AddressHigh l) few ls lt ne e = absurd (ne (ap AddressHigh (let f : l ≡ k = omega arith in f)))
shares q (DescLength k) (DescLength l) few ls lt ne e = absurd (ne (ap DescLength (let f : l ≡ k = omega arith in f)))
shares q (DescFlags k) (DescFlags l) few ls lt ne e = absurd (ne (ap DescFlags (let f : l ≡ k = omega arith in f)))
shares q (DataWord w) t few ls lt ne e = let low = ls.0 in absurd (omega arith)
shares q s (DataWord w) few ls lt ne e = let low = lt.0 in absurd (omega arith)
shares q s t few ls lt ne e = absurd (omega arith)

-- Values

if_same : (b : Bool) (x y : ℕ) → (b ≡ true → x ≡ y) → (if b then x else 0) ≡ (if b then y else 0)
if_same true x y h = h refl
if_same false x y h = refl

-- The value read at the word of a field.
pub field_read : (link_config : LinkConfig) (memory : ℕ → ℕ) (p : ℕ) (f : Field) (value : ℕ) → is_field link_config.sizes f ≡ true → value ≡ memory (section_of link_config p + field_word link_config.sizes f) → part_of f value ≡ fields link_config memory p f
unfolding fields
field_read link_config memory p f value spot met = ap (part_of f) met ∙ sym (yes (is_field link_config.sizes f) (part_of f (memory (section_of link_config p + field_word link_config.sizes f))) 0 spot)

-- The fields of a section whose words stay.
pub fields_same : (link_config : LinkConfig) (memory after : ℕ → ℕ) (p : ℕ) → IsLinkConfig link_config → ((j : ℕ) → j < link_config.words → after (section_of link_config p + j) ≡ memory (section_of link_config p + j)) → (f : Field) → fields link_config after p f ≡ fields link_config memory p f
unfolding fields
fields_same link_config memory after p is same f = if_same (is_field link_config.sizes f) _ _ (λ h. ap (part_of f) (same (field_word link_config.sizes f) (inside link_config is f h)))

either : (b : Bool) (n : ℕ) → (if b then n else n) ≡ n
either true n = refl
either false n = refl

-- The fields of a section whose words are all 0.
blank_part : (f : Field) → part_of f 0 ≡ 0
blank_part (AvailEntry k) = either (k % 2 == 0) 0
blank_part f = refl

pub fields_blank : (link_config : LinkConfig) (memory : ℕ → ℕ) (p : ℕ) (f : Field) → IsLinkConfig link_config → ((j : ℕ) → j < link_config.words → memory (section_of link_config p + j) ≡ 0) → fields link_config memory p f ≡ 0
unfolding fields
fields_blank link_config memory p f is none = if_same (is_field link_config.sizes f) _ 0 (λ h. ap (part_of f) (none (field_word link_config.sizes f) (inside link_config is f h)) ∙ blank_part f) ∙ either (is_field link_config.sizes f) 0

-- Stores

-- The words of the two sections and the State words are different.
pub sections_apart : (link_config : LinkConfig) (p i j : ℕ) → p < 2 → i < link_config.words → j < link_config.words → section_of link_config (1 - p) + j ≢ section_of link_config p + i
sections_apart link_config zero i j p2 il jl e = omega arith
sections_apart link_config (suc zero) i j p2 il jl e = omega arith
sections_apart link_config (suc (suc p)) i j p2 il jl e = omega arith

-- A change of the own words leaves the other's.
pub theirs_stay : (link_config : LinkConfig) (memory after : ℕ → ℕ) (p : ℕ) → IsLinkConfig link_config → p < 2 → OnlyOwnChange link_config memory after p → IsUntouched link_config memory after (1 - p)
theirs_stay link_config memory after p is p2 only = record {
  state = only (1 - p) (λ e. omega arith) (λ j lt e. let first = is.first in omega arith);
  section = λ j lt. only (section_of link_config (1 - p) + j) (λ e. let first = is.first in omega arith) (λ i il e. sections_apart link_config p i j p2 il lt e);
}

-- End p writes n to a field of its section.
pub record Put (link_config : LinkConfig) (memory after : ℕ → ℕ) (p : ℕ) (f : Field) (n : ℕ) : Type 0 where
  pub here : fields link_config after p f ≡ n
  pub neighbour_word : (t : Field) → t ≢ f → fields link_config after p t ≡ fields link_config memory p t
  pub state : after p ≡ memory p
  pub only : OnlyOwnChange link_config memory after p

module _ (link_config : LinkConfig) (is : IsLinkConfig link_config) (memory after : ℕ → ℕ) (p : ℕ) (p2 : p < 2) (f : Field) (v n : ℕ) (spot : is_field link_config.sizes f ≡ true) (stored : Stored memory after (section_of link_config p + field_word link_config.sizes f) v)
    (here : part_of f v ≡ n) (others : (t : Field) → t ≢ f → is_field link_config.sizes t ≡ true → Entries f t → part_of t v ≡ part_of t (memory (section_of link_config p + field_word link_config.sizes f))) where
  same_word : (t : Field) → t ≢ f → is_field link_config.sizes t ≡ true → part_of t (after (section_of link_config p + field_word link_config.sizes t)) ≡ part_of t (memory (section_of link_config p + field_word link_config.sizes t))
  same_word t ne h = dite (ℕ_discrete (field_word link_config.sizes t) (field_word link_config.sizes f))
      (λ e. let two : Entries f t = shares link_config.sizes f t (numbers link_config is).limit_most (lies link_config.sizes f spot) (lies link_config.sizes t h) ne e in let w = ap (λ k. section_of link_config p + k) e in
      ap (λ k. part_of t (after k)) w ∙ (ap (part_of t) stored.here ∙ (others t ne h two ∙ ap (λ k. part_of t (memory k)) (sym w))))
      (λ ne. ap (part_of t) (stored.neighbour_word (section_of link_config p + field_word link_config.sizes t) (λ e. omega arith)))

  pub put_of : Put link_config memory after p f n
  unfolding fields
  put_of = record {
    here = yes (is_field link_config.sizes f) (part_of f (after (section_of link_config p + field_word link_config.sizes f))) 0 spot ∙ (ap (part_of f) stored.here ∙ here);
    neighbour_word = λ t ne. if_same (is_field link_config.sizes t) _ _ (same_word t ne);
    state = stored.neighbour_word p (λ e. let h = is.first in omega arith);
    only = λ w ne apart. stored.neighbour_word w (apart (field_word link_config.sizes f) (inside link_config is f spot));
  }

-- The last values that an end wrote, after one more write.
pub written_kept : (memory after : ℕ → ℕ) (own x v words : ℕ) (written : ℕ → ℕ) → Stored memory after x v → ((j : ℕ) → j < words → memory (own + j) ≡ written (own + j)) →
    (j : ℕ) → j < words → after (own + j) ≡ (if own + j == x then v else written (own + j))
written_kept memory after own x v words written stored same j lt = dite (ℕ_discrete (own + j) x)
    (λ e. ap after e ∙ (stored.here ∙ sym (yes (own + j == x) v (written (own + j)) (eq-eqb (own + j) x e))))
    (λ ne. stored.neighbour_word (own + j) ne ∙ (same j lt ∙ sym (no (own + j == x) v (written (own + j)) (ne_eqb (own + j) x ne))))
