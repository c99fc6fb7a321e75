-- The invariants of the acts after one more act.
use Rattle.std.proofs.Common.{◌≡◌, ℕ, zero, suc, get_or, ◌+◌, Bool, true, false, eqb, ◌&&◌, ◌||◌, List, [], ◌∷◌, ◌++◌, refl, sym, ap, ◌∙◌, eq-eqb}
use Rattle.std.proofs.lemmas.List.Sums.{sum_by_push}
use Rattle.std.specs.List.{list_any}
use Rattle.scenario_text.specs.declared.acts.Act.{Act}
use Rattle.scenario_text.specs.declared.acts.Act.TheVariants.{Tick, Offer, Poll, Stop, Auto, Storm}
use Rattle.scenario_text.specs.Acts.{cost, turns_of, is_auto, is_storm, is_call, has_auto, has_storm, has_call, peer_of}

or_false : (b : Bool) → (b || false) ≡ b
or_false true = refl
or_false false = refl

or_assoc : (a b c : Bool) → (a || (b || c)) ≡ ((a || b) || c)
or_assoc true b c = refl
or_assoc false b c = refl

pub any_added : (test : Act → Bool) (xs : List Act) (x : Act) → list_any test (xs ++ x ∷ []) ≡ (list_any test xs || test x)
any_added test [] x = or_false (test x)
any_added test (y ∷ xs) x = ap (λ (b : Bool). test y || b) (any_added test xs x) ∙ or_assoc (test y) (list_any test xs) (test x)

pub eqb_refl : (n : ℕ) → eqb n n ≡ true
eqb_refl n = eq-eqb n n refl

auto_at : (act : Act) (p : ℕ) → is_auto p act ≡ (is_auto (peer_of act) act && eqb (peer_of act) p)
auto_at (Auto q expect) p = rw eqb_refl refl
auto_at _ p = refl

storm_at : (act : Act) (p : ℕ) → is_storm p act ≡ (is_storm (peer_of act) act && eqb (peer_of act) p)
storm_at (Storm q seed) p = rw eqb_refl refl
storm_at _ p = refl

call_at : (act : Act) (p : ℕ) → is_call p act ≡ (is_call (peer_of act) act && eqb (peer_of act) p)
call_at (Tick q) p = rw eqb_refl refl
call_at (Offer q frame) p = rw eqb_refl refl
call_at (Poll q) p = rw eqb_refl refl
call_at (Stop q) p = rw eqb_refl refl
call_at _ p = refl

pub auto_added : (acts : List Act) (act : Act) (p : ℕ) (old new on : Bool) → old ≡ has_auto acts p → on ≡ is_auto (peer_of act) act → new ≡ (old || (on && eqb (peer_of act) p)) → new ≡ has_auto (acts ++ act ∷ []) p
unfolding has_auto
auto_added acts act p old new on e f g = g ∙ rw (e, f) (rw (← auto_at act p) (sym (any_added (is_auto p) acts act)))

pub storm_added : (acts : List Act) (act : Act) (p : ℕ) (old new on : Bool) → old ≡ has_storm acts p → on ≡ is_storm (peer_of act) act → new ≡ (old || (on && eqb (peer_of act) p)) → new ≡ has_storm (acts ++ act ∷ []) p
unfolding has_storm
storm_added acts act p old new on e f g = g ∙ rw (e, f) (rw (← storm_at act p) (sym (any_added (is_storm p) acts act)))

pub call_added : (acts : List Act) (act : Act) (p : ℕ) (old new on : Bool) → old ≡ has_call acts p → on ≡ is_call (peer_of act) act → new ≡ (old || (on && eqb (peer_of act) p)) → new ≡ has_call (acts ++ act ∷ []) p
unfolding has_call
call_added acts act p old new on e f g = g ∙ rw (e, f) (rw (← call_at act p) (sym (any_added (is_call p) acts act)))

pub turns_added : (acts : List Act) (act : Act) (now : List Act) (turns more : ℕ) → turns ≡ turns_of acts → more ≡ cost act → now ≡ acts ++ act ∷ [] → turns + more ≡ turns_of now
turns_added acts act now turns more e f g = rw (e, f, g) (sym (sum_by_push cost acts act))

abbrev no_flag : List Bool
no_flag = false ∷ false ∷ false ∷ false ∷ false ∷ false ∷ false ∷ false ∷ []

past : (xs : List Bool) (p : ℕ) → list_any (λ (b : Bool). b) xs ≡ false → get_or xs p false ≡ false
past [] p none = refl
past (true ∷ xs) p none = absurd cc
past (false ∷ xs) zero none = refl
past (false ∷ xs) (suc p) none = past xs p none

pub no_flags : (p : ℕ) → get_or no_flag p false ≡ false
no_flags p = past no_flag p refl

pub no_autos : (p : ℕ) → has_auto [] p ≡ false
unfolding has_auto
no_autos p = refl

pub no_storms : (p : ℕ) → has_storm [] p ≡ false
unfolding has_storm
no_storms p = refl

pub no_calls : (p : ℕ) → has_call [] p ≡ false
unfolding has_call
no_calls p = refl
