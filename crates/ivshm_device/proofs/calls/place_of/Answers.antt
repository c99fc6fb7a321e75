use Rattle.std.proofs.Common.{arith, ℕ, ◌-◌, ◌*◌, ◌^◌, ◌<◌, ◌≤◌, inl, inr}
use Rattle.std.proofs.Math.Nat.{pow-le-pow_right}
use Rattle.std.proofs.lemmas.Bool.{cases_lt}
use Rattle.ivshm_device.proofs.calls.place_of.Goals as goal

-- a window of a page or more has 12 bits or more
at_least : (r bytes : ℕ) → 4096 ≤ bytes → bytes - 1 < 2 * 2 ^ r → 11 ≤ r
at_least r bytes page above = elim (cases_lt r 11) [
  | inl few ↦ let small : 2 ^ r ≤ 2 ^ 10 = pow-le-pow_right {n = 2} (omega arith) {i = r} {j = 10} (omega (arith, few)) in absurd (omega (arith, small, page, above))
  | inr many ↦ many
]

-- a region of at most 16 MiB needs no more than 25
at_most : (r bytes : ℕ) → bytes ≤ 2 ^ 24 → 2 ^ r ≤ bytes - 1 → r ≤ 24
at_most r bytes most below = elim (cases_lt 24 r) [
  | inl many ↦ let large : 2 ^ 25 ≤ 2 ^ r = pow-le-pow_right {n = 2} (omega arith) {i = 25} {j = r} (omega (arith, many)) in absurd (omega (arith, large, most, below))
  | inr few ↦ few
]

pub returns-then-base-eq0-clause-kind : goal.returns-then-base-eq0-clause-kind
returns-then-base-eq0-clause-kind c = (
  omega (arith, at_least c.ilog2.result c.args.bytes c.requires.some c.ilog2.ensures.next_power_gt),
  omega (arith, at_most c.ilog2.result c.args.bytes c.requires.few c.ilog2.ensures.power_le),
)
