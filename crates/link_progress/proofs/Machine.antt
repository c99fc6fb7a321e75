-- The handshake of two ends as a finite machine. No step raises the number of rounds left, and each
-- round lowers it. All states are tested by computation.
use Rattle.std.proofs.Common.{◌≡◌, ℕ, zero, suc, ◌+◌, ◌-◌, ◌≤◌, Bool, true, false, List, [], ◌∷◌, refl, arith}
use Rattle.std.specs.Prelude.{◌&&◌, ◌||◌, not, if◌then◌else◌}
use Rattle.link_handshake.specs.declared.Phase.{Phase}
use Rattle.link_handshake.specs.declared.Phase.TheVariants.{Reset, Init, Ready, Run}
use Rattle.link_progress.specs.Rounds.{Count, with_tick}
use Rattle.link_progress.specs.Handshake.{Doing, Rests, Reads, Writes, Table, next_phase, next_doing, rests, ends_now}

-- The table

abbrev pub nth : {A : Type 0} → A → List A → ℕ → A
nth none [] n = none
nth none (x ∷ xs) zero = x
nth none (x ∷ xs) (suc n) = nth none xs n

abbrev phase_code : Phase → ℕ
phase_code Reset = 0
phase_code Init = 1
phase_code Ready = 2
phase_code Run = 3

abbrev doing_code : Doing → ℕ
doing_code Rests = 0
doing_code Reads = 1
doing_code (Writes to) = 2 + phase_code to

abbrev cell_code : Phase → Doing → ℕ
cell_code Reset doing = doing_code doing
cell_code Init doing = 6 + doing_code doing
cell_code Ready doing = 12 + doing_code doing
cell_code Run doing = 18 + doing_code doing

abbrev flags_code : Bool → Bool → ℕ
flags_code false false = 0
flags_code false true = 1
flags_code true false = 2
flags_code true true = 3

-- Tests

abbrev pub at_most : ℕ → ℕ → Bool
at_most zero n = true
at_most (suc m) zero = false
at_most (suc m) (suc n) = at_most m n

pub at_most_le : (m n : ℕ) → at_most m n ≡ true → m ≤ n
at_most_le zero n h = omega arith
at_most_le (suc m) zero h = let f : false ≡ true = h in absurd (let g : ⊥ = cc in g)
at_most_le (suc m) (suc n) h = let e = at_most_le m n h in omega arith

pub both : (a b : Bool) → (a && b) ≡ true → (a ≡ true) × (b ≡ true)
both true b h = (refl, h)
both false b h = let f : false ≡ true = h in absurd (let g : ⊥ = cc in g)

abbrev pub fits : (new old : ℕ) → Bool
fits new old = at_most 1 new && at_most new old

-- One round less, but at least the number of a state in which none is left.
abbrev less : ℕ → ℕ
less zero = zero
less (suc zero) = suc zero
less (suc (suc n)) = suc n

-- All states

abbrev pub each_phase : (Phase → Bool) → Bool
each_phase t = t Reset && (t Init && (t Ready && t Run))

abbrev pub each_doing : (Doing → Bool) → Bool
each_doing t = t Rests && (t Reads && each_phase (λ to. t (Writes to)))

abbrev pub each_bool : (Bool → Bool) → Bool
each_bool t = t false && t true

phase_of_four : (t : Phase → Bool) → t Reset ≡ true → t Init ≡ true → t Ready ≡ true → t Run ≡ true → (x : Phase) → t x ≡ true
phase_of_four t a b c d Reset = a
phase_of_four t a b c d Init = b
phase_of_four t a b c d Ready = c
phase_of_four t a b c d Run = d

pub by_phase : (t : Phase → Bool) → each_phase t ≡ true → (x : Phase) → t x ≡ true
by_phase t h x = let one = both (t Reset) (t Init && (t Ready && t Run)) h in let two = both (t Init) (t Ready && t Run) one.1 in let three = both (t Ready) (t Run) two.1 in phase_of_four t one.0 two.0 three.0 three.1 x

pub by_doing : (t : Doing → Bool) → each_doing t ≡ true → (x : Doing) → t x ≡ true
by_doing t h Rests = (both _ _ h).0
by_doing t h Reads = (both _ _ (both _ _ h).1).0
by_doing t h (Writes to) = by_phase (λ x. t (Writes x)) (both _ _ (both _ _ h).1).1 to

by_bool : (t : Bool → Bool) → each_bool t ≡ true → (x : Bool) → t x ≡ true
by_bool t h false = (both _ _ h).0
by_bool t h true = (both _ _ h).1

-- What an end does

abbrev pub writes : Doing → Bool
writes (Writes to) = true
writes doing = false

abbrev pub falls : Doing → Bool
falls (Writes Reset) = true
falls doing = false

abbrev is_run : Phase → Bool
is_run Run = true
is_run phase = false

-- Whether end 1 owes a rest after its own step, and whether the rule of rest holds it back.
abbrev pub owes_more : (doing other : Doing) → Bool → Bool
owes_more doing other owes = owes || (falls doing && not (rests other))

abbrev pub holds_back : (ruled owes : Bool) → Doing → Bool
holds_back ruled owes doing = ruled && (owes && rests doing)

-- The rounds left in a state, by whether end 1 owes a rest and by which ends have ended a Tick.
abbrev pub Rows : Type 0
Rows = Bool → Phase → Doing → List (List ℕ)

abbrev pub left : Rows → Phase → Doing → Phase → Doing → Bool → Bool → Bool → ℕ
left rows p d q e owes f g = nth 0 (nth [] (rows owes p d) (cell_code q e)) (flags_code f g)

-- The test of a state

-- After a step of end 0, and of end 1, the number fits.
abbrev first_fits : Rows → (ended : Bool) → Phase → Doing → Phase → Doing → Bool → Bool → Bool → ℕ → Bool
first_fits rows false p d q e owes f g old = fits (left rows p d q e owes f g) old
first_fits rows true p d q e owes f false old = fits (left rows p d q e owes true false) old
first_fits rows true p d q e owes f true old = fits (left rows p d q e owes false false) (less old)

abbrev second_fits : Rows → (ended : Bool) → Phase → Doing → Phase → Doing → Bool → Bool → Bool → ℕ → Bool
second_fits rows false p d q e owes f g old = fits (left rows p d q e owes f g) old
second_fits rows true p d q e owes false g old = fits (left rows p d q e owes false true) old
second_fits rows true p d q e owes true g old = fits (left rows p d q e owes false false) (less old)

-- If no round is left, both ends are in RUN and stay there.
abbrev up_fits : ℕ → Phase → Doing → Phase → Doing → Bool
up_fits (suc zero) p d q e = (is_run p && not (writes d)) && (is_run q && not (writes e))
up_fits n p d q e = true

module _ (first second : Table) (ruled : Bool) (rows : Rows) where
  abbrev first_part : Phase → Doing → Phase → Doing → Bool → Bool → Bool → ℕ → Bool
  first_part p d q e owes f g n = let ended = ends_now first p d q in first_fits rows ended (next_phase p d) (next_doing first p d q) q e (if ended then false else owes) f g n

  abbrev second_part : Phase → Doing → Phase → Doing → Bool → Bool → Bool → ℕ → Bool
  second_part p d q e owes f g n = holds_back ruled owes e || second_fits rows (ends_now second q e p) p d (next_phase q e) (next_doing second q e p) (owes_more e d owes) f g n

  abbrev holds_at : Phase → Doing → Phase → Doing → Bool → Bool → Bool → ℕ → Bool
  holds_at p d q e owes f g zero = true
  holds_at p d q e owes f g (suc n) = first_part p d q e owes f g (suc n) && (second_part p d q e owes f g (suc n) && up_fits (suc n) p d q e)

  abbrev test : Phase → Doing → Phase → Doing → Bool → Bool → Bool → Bool
  test p d q e owes f g = holds_at p d q e owes f g (left rows p d q e owes f g)

  -- Every state passes.
  abbrev pub every : Bool
  every = each_phase (λ p. each_doing (λ d. each_phase (λ q. each_doing (λ e. each_bool (λ owes. each_bool (λ f. each_bool (λ g. test p d q e owes f g)))))))

  tested : every ≡ true → (p : Phase) (d : Doing) (q : Phase) (e : Doing) (owes f g : Bool) → test p d q e owes f g ≡ true
  tested holds p d q e owes f g =
      by_bool (λ g. test p d q e owes f g) (by_bool (λ f. each_bool (λ g. test p d q e owes f g)) (by_bool (λ owes. each_bool (λ f. each_bool (λ g. test p d q e owes f g)))
      (by_doing (λ e. each_bool (λ owes. each_bool (λ f. each_bool (λ g. test p d q e owes f g)))) (by_phase (λ q. each_doing (λ e. each_bool (λ owes. each_bool (λ f. each_bool (λ g. test p d q e owes f g)))))
      (by_doing (λ d. each_phase (λ q. each_doing (λ e. each_bool (λ owes. each_bool (λ f. each_bool (λ g. test p d q e owes f g))))))
      (by_phase (λ p. each_doing (λ d. each_phase (λ q. each_doing (λ e. each_bool (λ owes. each_bool (λ f. each_bool (λ g. test p d q e owes f g))))))) holds p) d) q) e) owes) f) g

-- The law of the machine

-- At most `limit` rounds are left at the start, and one less with each round.
pub record Within (rows : Rows) (limit : ℕ) (p : Phase) (d : Doing) (q : Phase) (e : Doing) (owes : Bool) (count : Count) : Type 0 where
  pub least : 1 ≤ left rows p d q e owes count.first count.second
  pub most : left rows p d q e owes count.first count.second ≤ suc (limit - count.rounds)

pub fits_le : (new old : ℕ) → fits new old ≡ true → (1 ≤ new) × (new ≤ old)
fits_le new old h = let x = both (at_most 1 new) (at_most new old) h in (at_most_le 1 new x.0, at_most_le new old x.1)

less_le : (limit n r : ℕ) → n ≤ suc (limit - r) → less n ≤ suc (limit - (r + 1))
less_le limit zero r h = omega arith
less_le limit (suc zero) r h = omega arith
less_le limit (suc (suc n)) r h = omega arith

first_case : (rows : Rows) (limit : ℕ) (ended : Bool) (p : Phase) (d : Doing) (q : Phase) (e : Doing) (owes : Bool) (r : ℕ) (f g : Bool) (old : ℕ) → old ≤ suc (limit - r) → first_fits rows ended p d q e owes f g old ≡ true →
    Within rows limit p d q e owes (if ended then with_tick 0 record { rounds = r; first = f; second = g } else record { rounds = r; first = f; second = g })
first_case rows limit false p d q e owes r f g old most h = let x = fits_le _ _ h in record { least = x.0; most = let a = x.1 in omega arith }
first_case rows limit true p d q e owes r f false old most h = let x = fits_le _ _ h in record { least = x.0; most = let a = x.1 in omega arith }
first_case rows limit true p d q e owes r f true old most h = let x = fits_le _ _ h in record { least = x.0; most = let a = x.1 in let b = less_le limit old r most in omega arith }

second_case : (rows : Rows) (limit : ℕ) (ended : Bool) (p : Phase) (d : Doing) (q : Phase) (e : Doing) (owes : Bool) (r : ℕ) (f g : Bool) (old : ℕ) → old ≤ suc (limit - r) → second_fits rows ended p d q e owes f g old ≡ true →
    Within rows limit p d q e owes (if ended then with_tick 1 record { rounds = r; first = f; second = g } else record { rounds = r; first = f; second = g })
second_case rows limit false p d q e owes r f g old most h = let x = fits_le _ _ h in record { least = x.0; most = let a = x.1 in omega arith }
second_case rows limit true p d q e owes r false g old most h = let x = fits_le _ _ h in record { least = x.0; most = let a = x.1 in omega arith }
second_case rows limit true p d q e owes r true g old most h = let x = fits_le _ _ h in record { least = x.0; most = let a = x.1 in let b = less_le limit old r most in omega arith }

run_is : (p : Phase) → is_run p ≡ true → p ≡ Run
run_is Reset h = let f : false ≡ true = h in absurd (let g : ⊥ = cc in g)
run_is Init h = let f : false ≡ true = h in absurd (let g : ⊥ = cc in g)
run_is Ready h = let f : false ≡ true = h in absurd (let g : ⊥ = cc in g)
run_is Run h = refl

writes_none : (p : Phase) (d : Doing) → (is_run p && not (writes d)) ≡ true → (p ≡ Run) × (writes d ≡ false)
writes_none p Rests h = (run_is p (both (is_run p) true h).0, refl)
writes_none p Reads h = (run_is p (both (is_run p) true h).0, refl)
writes_none p (Writes to) h = let f : false ≡ true = (both (is_run p) false h).1 in absurd (let g : ⊥ = cc in g)

-- Both ends are in RUN, and neither is about to write its State.
pub record AreUp (p : Phase) (d : Doing) (q : Phase) (e : Doing) : Type 0 where
  pub first_run : p ≡ Run
  pub second_run : q ≡ Run
  pub first_stays : writes d ≡ false
  pub second_stays : writes e ≡ false

up : (n : ℕ) (p : Phase) (d : Doing) (q : Phase) (e : Doing) → 1 ≤ n → n ≤ 1 → up_fits n p d q e ≡ true → AreUp p d q e
up zero p d q e least most h = absurd (omega arith)
up (suc zero) p d q e least most h = let x = both _ _ h in let a = writes_none p d x.0 in let b = writes_none q e x.1 in record { first_run = a.0; second_run = b.0; first_stays = a.1; second_stays = b.1 }
up (suc (suc n)) p d q e least most h = absurd (omega arith)

unless : (b c : Bool) → (b || c) ≡ true → b ≡ false → c ≡ true
unless false c h e = h
unless true c h e = let f : true ≡ false = e in absurd (let g : ⊥ = cc in g)

module _ (first second : Table) (ruled : Bool) (rows : Rows) where
  -- The three parts of a test.
  record Parts (p : Phase) (d : Doing) (q : Phase) (e : Doing) (owes f g : Bool) (n : ℕ) : Type 0 where
    of_first : first_part first second ruled rows p d q e owes f g n ≡ true
    of_second : second_part first second ruled rows p d q e owes f g n ≡ true
    of_both : up_fits n p d q e ≡ true

  parts : (p : Phase) (d : Doing) (q : Phase) (e : Doing) (owes f g : Bool) (n : ℕ) → 1 ≤ n → holds_at first second ruled rows p d q e owes f g n ≡ true → Parts p d q e owes f g n
  parts p d q e owes f g zero least h = absurd (omega arith)
  parts p d q e owes f g (suc n) least h = let x = both _ _ h in let y = both _ _ x.1 in record { of_first = x.0; of_second = y.0; of_both = y.1 }

  module _ (holds : every first second ruled rows ≡ true) (limit : ℕ) where
    all_parts : (p : Phase) (d : Doing) (q : Phase) (e : Doing) (owes : Bool) (count : Count) → Within rows limit p d q e owes count → Parts p d q e owes count.first count.second (left rows p d q e owes count.first count.second)
    all_parts p d q e owes count w = parts p d q e owes count.first count.second _ w.least (tested first second ruled rows holds p d q e owes count.first count.second)

    pub first_kept : (p : Phase) (d : Doing) (q : Phase) (e : Doing) (owes : Bool) (count : Count) → Within rows limit p d q e owes count →
        Within rows limit (next_phase p d) (next_doing first p d q) q e (if ends_now first p d q then false else owes) (if ends_now first p d q then with_tick 0 count else count)
    first_kept p d q e owes count w = first_case rows limit (ends_now first p d q) _ _ q e _ count.rounds count.first count.second _ w.most (all_parts p d q e owes count w).of_first

    pub second_kept : (p : Phase) (d : Doing) (q : Phase) (e : Doing) (owes : Bool) (count : Count) → holds_back ruled owes e ≡ false → Within rows limit p d q e owes count →
        Within rows limit p d (next_phase q e) (next_doing second q e p) (owes_more e d owes) (if ends_now second q e p then with_tick 1 count else count)
    second_kept p d q e owes count free w = second_case rows limit (ends_now second q e p) p d _ _ _ count.rounds count.first count.second _ w.most (unless _ _ (all_parts p d q e owes count w).of_second free)

    -- After `limit` rounds both ends are in RUN and stay there.
    pub ends_up : (p : Phase) (d : Doing) (q : Phase) (e : Doing) (owes : Bool) (count : Count) → Within rows limit p d q e owes count → limit ≤ count.rounds → AreUp p d q e
    ends_up p d q e owes count w over = up (left rows p d q e owes count.first count.second) p d q e w.least (let m = w.most in omega arith) (all_parts p d q e owes count w).of_both
