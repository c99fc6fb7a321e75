-- The machine with the two repaired tables: it is safe, and both ends are in RUN after nine rounds.
use Rattle.std.proofs.Common.{◌≡◌, Bool, true, false, refl, arith}
use Rattle.std.specs.Prelude.{◌||◌, not}
use Rattle.link_handshake.specs.declared.Phase.{Phase}
use Rattle.link_handshake.specs.declared.Phase.TheVariants.{Reset}
use Rattle.link_progress.specs.Rounds.{Count, no_rounds}
use Rattle.link_progress.specs.Handshake.{Doing, Rests, Writes, next_phase, next_doing, Handshakes, starts, first_goes, second_goes, first_table, second_table, is_safe, RepairedIsSafe, RepairedComesUp}
use Rattle.link_progress.proofs.RoundsLeft.{repaired_left}
use Rattle.link_progress.proofs.Machine.{each_phase, each_doing, by_phase, by_doing, fits, fits_le, Rows, left, every, Within, first_kept, second_kept, ends_up}

-- Safety

-- `a` implies `b`.
abbrev pub implies : Bool → Bool → Bool
implies a b = not a || b

pub implied : (a b : Bool) → implies a b ≡ true → a ≡ true → b ≡ true
implied true b h e = h
implied false b h e = let f : false ≡ true = e in absurd (let g : ⊥ = cc in g)

-- A test of each state.
abbrev pub each_state : (Phase → Doing → Phase → Doing → Bool) → Bool
each_state t = each_phase (λ p. each_doing (λ d. each_phase (λ q. each_doing (λ e. t p d q e))))

pub by_state : (t : Phase → Doing → Phase → Doing → Bool) → each_state t ≡ true → (p : Phase) (d : Doing) (q : Phase) (e : Doing) → t p d q e ≡ true
by_state t h p d q e = by_doing (λ e. t p d q e) (by_phase (λ q. each_doing (λ e. t p d q e)) (by_doing (λ d. each_phase (λ q. each_doing (λ e. t p d q e)))
    (by_phase (λ p. each_doing (λ d. each_phase (λ q. each_doing (λ e. t p d q e)))) h p) d) q) e

-- Each safe state has another property.
safe_implies : (t : Phase → Doing → Phase → Doing → Bool) → each_state (λ p d q e. implies (is_safe p d q e) (t p d q e)) ≡ true → (p : Phase) (d : Doing) (q : Phase) (e : Doing) → is_safe p d q e ≡ true → t p d q e ≡ true
safe_implies t h p d q e s = implied (is_safe p d q e) (t p d q e) (by_state (λ p d q e. implies (is_safe p d q e) (t p d q e)) h p d q e) s

pub repaired_is_safe : RepairedIsSafe
repaired_is_safe = record {
  begins = refl;
  first_goes = safe_implies (λ p d q e. is_safe (next_phase p d) (next_doing first_table p d q) q e) refl;
  second_goes = safe_implies (λ p d q e. is_safe p d (next_phase q e) (next_doing second_table q e p)) refl;
  first_reset = safe_implies (λ p d q e. is_safe Reset Rests q e) refl;
  second_reset = safe_implies (λ p d q e. is_safe p d Reset Rests) refl;
  first_stop = λ p q e s. implied (is_safe p Rests q e) (is_safe p (Writes Reset) q e) (by_state (λ p d q e. implies (is_safe p Rests q e) (is_safe p (Writes Reset) q e)) refl p Rests q e) s;
  second_stop = λ p d q s. implied (is_safe p d q Rests) (is_safe p d q (Writes Reset)) (by_state (λ p d q e. implies (is_safe p d q Rests) (is_safe p d q (Writes Reset))) refl p d q Rests) s;
}

-- The rounds

abbrev rows : Rows
rows owes p d = repaired_left p d

every_holds : every first_table second_table false rows ≡ true
every_holds = refl

safe_within : (p : Phase) (d : Doing) (q : Phase) (e : Doing) → is_safe p d q e ≡ true → Within rows 9 p d q e false no_rounds
safe_within p d q e s = let x = fits_le (left rows p d q e false false false) 10 (safe_implies (λ p d q e. fits (left rows p d q e false false false) 10) refl p d q e s) in record { least = x.0; most = let a = x.1 in omega arith }

-- The machine's runs don't say whether end 1 owes a rest.
abbrev WithinNine : Phase → Doing → Phase → Doing → Count → Type 0
WithinNine p d q e count = (owes : Bool) × Within rows 9 p d q e owes count

within_on : (p : Phase) (d : Doing) (q : Phase) (e : Doing) (x : Phase) (a : Doing) (y : Phase) (b : Doing) (count : Count) → is_safe p d q e ≡ true → Handshakes first_table second_table p d q e x a y b count → WithinNine x a y b count
within_on p d q e _ _ _ _ _ s starts = (false, safe_within p d q e s)
within_on p d q e _ _ _ _ _ s (first_goes x a y b count h) = let w = within_on p d q e x a y b count s h in (_, first_kept first_table second_table false rows every_holds 9 x a y b w.0 count w.1)
within_on p d q e _ _ _ _ _ s (second_goes x a y b count h) = let w = within_on p d q e x a y b count s h in (_, second_kept first_table second_table false rows every_holds 9 x a y b w.0 count refl w.1)

pub repaired_comes_up : RepairedComesUp
repaired_comes_up p d q e x a y b count s h nine = let w = within_on p d q e x a y b count s h in let up = ends_up first_table second_table false rows every_holds 9 x a y b w.0 count w.1 nine in (up.first_run, up.second_run)
