-- The test of the words that a peer may write, one lemma for each direction and outcome.
use Rattle.std.proofs.Common.{◌≡◌, ℕ, ◌+◌, ◌<◌, ◌≤◌, ◌⊎◌, inl, inr, Bool, true, false, ◌&&◌, ◌||◌, nat_le, nat_lt, refl, sym, ◌∙◌, arith}
use Rattle.std.proofs.lemmas.Bool.Decides.{nat_tests}
use Rattle.section_map.specs.Geometry.{Shape, section_start}
use Rattle.section_map.specs.MayWrite.{MayWrite, may_write}

either_in : (own own_end table common_end word : ℕ) → ((nat_le own word && nat_lt word own_end) || (nat_le table word && nat_lt word common_end)) ≡ true →
    ((own ≤ word) × (word < own_end)) ⊎ ((table ≤ word) × (word < common_end))
either_in own own_end table common_end word is = grind (arith, nat_tests)

pub may_of_test : (g : Shape) (peer word : ℕ) → may_write g peer word ≡ true → MayWrite g peer word
may_of_test g peer word is = either_in (section_start g peer) (section_start g peer + g.out) g.table (g.table + g.common) word is

pub may_test : (g : Shape) (peer word : ℕ) → MayWrite g peer word → may_write g peer word ≡ true
may_test g peer word (inl own) = let low = own.0 in let high = own.1 in grind (arith, nat_tests)
may_test g peer word (inr common) = let low = common.0 in let high = common.1 in grind (arith, nat_tests)

pub may_denies : (g : Shape) (peer word : ℕ) → may_write g peer word ≡ false → ¬ MayWrite g peer word
may_denies g peer word is may = let holds = may_test g peer word may in let f : false ≡ true = sym is ∙ holds in cc

pub may_fails : (g : Shape) (peer word : ℕ) → ¬ MayWrite g peer word → may_write g peer word ≡ false
may_fails g peer word denied = by_bool (may_write g peer word) refl
  where
    by_bool : (b : Bool) → may_write g peer word ≡ b → may_write g peer word ≡ false
    by_bool true is = absurd (denied (may_of_test g peer word is))
    by_bool false is = is
