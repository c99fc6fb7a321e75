-- The positions of the last acts of each kind, act by act.
use Rattle.std.proofs.Common.{◌≡◌, ℕ, zero, suc, drop, length, get_or, ◌+◌, ◌≤◌, ◌<◌, nat_lt, Bool, true, false, eqb, ◌&&◌, ◌||◌, List, [], ◌∷◌, ◌++◌, refl, sym, ap, ◌∙◌, arith, length-append}
use mathlib.Core.Logic.{dite}
use native.Mathlib.Decide.{dec_le}
use Rattle.std.specs.Prelude.{if◌then◌else◌}
use Rattle.std.specs.List.{list_any}
use Rattle.std.proofs.Math.Seq.{drop-nil}
use Rattle.std.proofs.lemmas.Bool.Decides.{nat_tests}
use Rattle.std.proofs.lemmas.List.{at_drop_all, drop-append-le}
use Rattle.scenario_text.specs.declared.acts.Act.{Act}
use Rattle.scenario_text.specs.declared.acts.Act.TheVariants.{Turn, Reset}
use Rattle.scenario_text.specs.Acts.{peer_of}
use Rattle.scenario_text.specs.Running.{is_turn_of, is_reset_of, is_other, has_turn, has_reset, has_other}
use Rattle.scenario_text.proofs.OneMoreAct.{any_added, eqb_refl}

pub turn_at : (act : Act) (p : ℕ) → is_turn_of p act ≡ (is_turn_of (peer_of act) act && eqb (peer_of act) p)
turn_at (Turn q steps) p = rw eqb_refl refl
turn_at _ p = refl

pub reset_at : (act : Act) (p : ℕ) → is_reset_of p act ≡ (is_reset_of (peer_of act) act && eqb (peer_of act) p)
reset_at (Reset q) p = rw eqb_refl refl
reset_at _ p = refl

within : (length from : ℕ) → nat_lt length from ≡ false → from ≤ length
within length from is = grind (arith, nat_tests)

-- One more act that passes the test is the last one; any other doesn't change the end.
end_added : (test : Act → Bool) (xs : List Act) (x : Act) (from next k : ℕ) → next ≡ (if test x then length xs + 1 else from) → ((j : ℕ) → list_any test (drop j xs) ≡ nat_lt j from) →
    list_any test (drop k (xs ++ x ∷ [])) ≡ nat_lt k next
end_added test xs x from next k to has_after =
    let most : from ≤ length xs = within (length xs) from (sym (has_after (length xs)) ∙ at_drop_all (list_any test) xs (length xs) (omega arith)) in
    dite (dec_le k (length xs))
    (λ le. ap (list_any test) (drop-append-le k xs (x ∷ []) le) ∙ (any_added test (drop k xs) x ∙ (ap (λ (b : Bool). b || test x) (has_after k) ∙ short (test x) to le most)))
    (λ gt. at_drop_all (list_any test) (xs ++ x ∷ []) k (omega (arith, length-append xs (x ∷ []))) ∙ long (test x) to (omega arith) most)
  where
    short : (b : Bool) → next ≡ (if b then length xs + 1 else from) → k ≤ length xs → from ≤ length xs → (nat_lt k from || b) ≡ nat_lt k next
    short true to le most = grind (arith, nat_tests)
    short false to le most = grind (arith, nat_tests)

    long : (b : Bool) → next ≡ (if b then length xs + 1 else from) → length xs < k → from ≤ length xs → false ≡ nat_lt k next
    long true to gt most = grind (arith, nat_tests)
    long false to gt most = grind (arith, nat_tests)

pub turn_ended : (acts : List Act) (act : Act) (p k from next end : ℕ) (on : Bool) → on ≡ is_turn_of (peer_of act) act → next ≡ (if on && eqb (peer_of act) p then end else from) → end ≡ length acts + 1 →
    ((j : ℕ) → has_turn (drop j acts) p ≡ nat_lt j from) → has_turn (drop k (acts ++ act ∷ [])) p ≡ nat_lt k next
unfolding has_turn
turn_ended acts act p k from next end on is to at has_after = end_added (is_turn_of p) acts act from next k (to ∙ rw (is, at, ← turn_at act p) refl) has_after

pub reset_ended : (acts : List Act) (act : Act) (p k from next end : ℕ) (on : Bool) → on ≡ is_reset_of (peer_of act) act → next ≡ (if on && eqb (peer_of act) p then end else from) → end ≡ length acts + 1 →
    ((j : ℕ) → has_reset (drop j acts) p ≡ nat_lt j from) → has_reset (drop k (acts ++ act ∷ [])) p ≡ nat_lt k next
unfolding has_reset
reset_ended acts act p k from next end on is to at has_after = end_added (is_reset_of p) acts act from next k (to ∙ rw (is, at, ← reset_at act p) refl) has_after

pub other_ended : (acts : List Act) (act : Act) (k from next end : ℕ) (on : Bool) → on ≡ is_other act → next ≡ (if on then end else from) → end ≡ length acts + 1 → ((j : ℕ) → has_other (drop j acts) ≡ nat_lt j from) →
    has_other (drop k (acts ++ act ∷ [])) ≡ nat_lt k next
unfolding has_other
other_ended acts act k from next end on is to at has_after = end_added is_other acts act from next k (to ∙ rw (is, at) refl) has_after

-- ---- no acts

pub no_turns : (p : ℕ) → has_turn [] p ≡ false
unfolding has_turn
no_turns p = refl

no_resets : (p : ℕ) → has_reset [] p ≡ false
unfolding has_reset
no_resets p = refl

no_others : has_other [] ≡ false
unfolding has_other
no_others = refl

abbrev zeros : ℕ → List ℕ
zeros zero = []
zeros (suc n) = 0 ∷ zeros n

no_end : (n p : ℕ) → get_or (zeros n) p 0 ≡ 0
no_end zero p = refl
no_end (suc n) zero = refl
no_end (suc n) (suc p) = no_end n p

none_below : (k end : ℕ) → end ≡ 0 → nat_lt k end ≡ false
none_below k end is = grind (arith, nat_tests)

pub turns_behind : (p k : ℕ) → has_turn (drop k []) p ≡ nat_lt k (get_or (zeros 8) p 0)
turns_behind p k = ap (λ (l : List Act). has_turn l p) (drop-nil k) ∙ (no_turns p ∙ sym (none_below k _ (no_end 8 p)))

pub resets_behind : (p k : ℕ) → has_reset (drop k []) p ≡ nat_lt k (get_or (zeros 8) p 0)
resets_behind p k = ap (λ (l : List Act). has_reset l p) (drop-nil k) ∙ (no_resets p ∙ sym (none_below k _ (no_end 8 p)))

pub others_behind : (k : ℕ) → has_other (drop k []) ≡ nat_lt k 0
others_behind k = ap has_other (drop-nil k) ∙ (no_others ∙ sym (none_below k 0 refl))
