-- A section ends at or before the start of the next one.
use Rattle.std.proofs.Common.{◌≡◌, ℕ, ◌+◌, ◌*◌, ◌<◌, ◌≤◌, inl, inr, refl, ap, arith}
use Rattle.std.proofs.Math.Nat.{mul-le-mul_right}
use Rattle.std.proofs.lemmas.Bool.{cases_lt}
use Rattle.section_map.specs.Geometry.{Shape, section_start}
use Rattle.section_map.specs.MayWrite.{InSection}
use Rattle.section_map.specs.Laws.{SectionsAreApart, OnlyCommonIsShared, WordHasOneSection}
use Rattle.section_map.specs.declared.sizes.Section.TheVariants.{Table, Common, Output}

ends_before : (g : Shape) (p q : ℕ) → p < q → section_start g p + g.out ≤ section_start g q
ends_before g p q below =
    let rows : (p + 1) * g.out ≤ q * g.out = mul-le-mul_right g.out (omega (arith, below)) in
    omega (arith, rows)

-- A word of two peers' sections belongs to one peer.
one_peer : (g : Shape) (p q word : ℕ) → InSection g p word → InSection g q word → p ≡ q
one_peer g p q word in_p in_q =
    elim (cases_lt p q) [
      | inl below ↦ absurd (omega (arith, ends_before g p q below, in_p.1, in_q.0))
      | inr above ↦ elim (cases_lt q p) [
        | inl below ↦ absurd (omega (arith, ends_before g q p below, in_q.1, in_p.0))
        | inr upto ↦ omega (arith, above, upto)
      ]
    ]

pub sections_are_apart : (g : Shape) → SectionsAreApart g
sections_are_apart g p q word differ in_p in_q = differ (one_peer g p q word in_p in_q)

pub only_common_is_shared : (g : Shape) → OnlyCommonIsShared g
only_common_is_shared g p q word differ (inr common) may_q = common
only_common_is_shared g p q word differ (inl in_p) (inr common) = common
only_common_is_shared g p q word differ (inl in_p) (inl in_q) = absurd (sections_are_apart g p q word differ in_p in_q)

pub word_has_one_section : (g : Shape) → WordHasOneSection g
word_has_one_section g word Table Table in_s in_t = refl
word_has_one_section g word Table Common in_s in_t = absurd (omega (arith, in_s, in_t.0))
word_has_one_section g word Table (Output q) in_s in_t = absurd (omega (arith, in_s, in_t.1.0))
word_has_one_section g word Common Table in_s in_t = absurd (omega (arith, in_s.0, in_t))
word_has_one_section g word Common Common in_s in_t = refl
word_has_one_section g word Common (Output q) in_s in_t = absurd (omega (arith, in_s.1, in_t.1.0))
word_has_one_section g word (Output p) Table in_s in_t = absurd (omega (arith, in_s.1.0, in_t))
word_has_one_section g word (Output p) Common in_s in_t = absurd (omega (arith, in_s.1.0, in_t.1))
word_has_one_section g word (Output p) (Output q) in_s in_t = ap Output (one_peer g p q word in_s.1 in_t.1)
