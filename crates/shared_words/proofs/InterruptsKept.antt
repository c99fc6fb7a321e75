-- Each kind of access keeps what the interrupt words keep.
use Rattle.std.proofs.Common.{◌≡◌, ℕ, ◌+◌, ◌*◌, ◌^◌, ◌<◌, ◌≤◌, min, max, List, [], ◌∷◌, ◌++◌, sym, ap, ◌∙◌, subst, arith}
use mathlib.Core.Logic.{dite}
use native.Mathlib.Decide.{ℕ_discrete}
use Rattle.std.specs.Prelude.{bit_or, bit_and}
use Rattle.std.specs.Int.{bit_at}
use Rattle.std.proofs.lemmas.Nat.Bits.{bit_at-lt, bit_at_or, bit_at_and, bit_at-pow_other, bit_at-zero}
use Rattle.section_map.specs.Geometry.{word_count}
use Rattle.link_invariant.specs.Steps.{Stored}
use Rattle.shared_words.specs.declared.run_setup.RunSetup.{RunSetup}
use Rattle.shared_words.specs.DerivedStates.{CallAccess, MemoryOp}
use Rattle.shared_words.specs.Actions.{Action, accessed, rang, looked, cleared}
use Rattle.shared_words.specs.Interrupts.{one_if, flag_of, count_in, sum_below, rings_bit, rings_target, finds_bit, clears_set_bit, interrupt_word, control_word, FollowsClears, MayRing, IsOneShot, Interrupts, AreRung}
use Rattle.shared_words.specs.SharedMemory.{Appends}
use Rattle.shared_words.proofs.SumsOfCounts.{one_if_lt, weigh_here, weigh_else, weigh_still, weigh_snoc, tally_grows, tally_most, tally_turned, weigh_turned, weigh_most, rings_bits, behind_all, behind_snoc, rings_accessed, aims_accessed, finds_accessed, wins_accessed, rings_here, rings_same, aims_here, aims_else, finds_rang, wins_rang, finds_looked, rings_looked, aims_looked, wins_looked, finds_cleared, rings_cleared, aims_cleared, wins_here, wins_else}

-- One bit more is set.
set_bit : (n k bit : ℕ) → bit_at (bit_or n (2 ^ k)) bit ≤ bit_at n bit + rings_bit {A = MemoryOp CallAccess} 0 bit (rang 0 k)
set_bit n k bit = let was : bit_at (bit_or n (2 ^ k)) bit ≡ max (bit_at n bit) (bit_at (2 ^ k) bit) = bit_at_or n (2 ^ k) bit in dite (ℕ_discrete bit k)
    (λ e. let one : rings_bit {A = MemoryOp CallAccess} 0 bit (rang 0 k) ≡ 1 = ap (λ (j : ℕ). rings_bit {A = MemoryOp CallAccess} 0 bit (rang 0 j)) (sym e) ∙ rings_here (MemoryOp CallAccess) 0 bit in let low : bit_at (2 ^ k) bit < 2 = bit_at-lt (2 ^ k) bit in omega arith)
    (λ ne. let none : bit_at (2 ^ k) bit ≡ 0 = bit_at-pow_other k bit ne in omega arith)

-- The lists of one-shot targets with one more action.
leave_keeps : (key : RunSetup) (acc next : ℕ → List (Action (MemoryOp CallAccess))) (p : ℕ) (t : Action (MemoryOp CallAccess)) → Appends acc next p t →
    ((target : ℕ) → target < key.geometry.peers → IsOneShot key target → count_in (rings_target target) (acc p) ≤ count_in (clears_set_bit target) (acc p) → count_in (rings_target target) (acc p) + rings_target target t ≤ count_in (clears_set_bit target) (acc p) + clears_set_bit target t) →
    ((target q : ℕ) → target < key.geometry.peers → q < key.geometry.peers → IsOneShot key target → FollowsClears target (acc q)) → (target q : ℕ) → target < key.geometry.peers → q < key.geometry.peers → IsOneShot key target → FollowsClears target (next q)
leave_keeps key acc next p t g more was target q lt q_lt shot = dite (ℕ_discrete q p)
    (λ e. let b : FollowsClears target (acc p) = was target p lt (subst (λ k. k < key.geometry.peers) e q_lt) shot in
    let a : count_in (rings_target target) (acc p ++ t ∷ []) ≡ count_in (rings_target target) (acc p) + rings_target target t = weigh_snoc (rings_target target) (acc p) t in
    let w : count_in (clears_set_bit target) (acc p ++ t ∷ []) ≡ count_in (clears_set_bit target) (acc p) + clears_set_bit target t = weigh_snoc (clears_set_bit target) (acc p) t in
    let m : count_in (rings_target target) (acc p) + rings_target target t ≤ count_in (clears_set_bit target) (acc p) + clears_set_bit target t = more target lt shot (behind_all target (acc p) b) in
    subst (FollowsClears target) (sym (ap next e ∙ g.here)) (behind_snoc target (acc p) t b (omega arith)))
    (λ ne. subst (FollowsClears target) (sym (g.neighbour_word q ne)) (was target q lt q_lt shot))

-- A memory operation leaves the words for interrupts.
pub access_keeps : (key : RunSetup) (memory after : ℕ → ℕ) (acc next : ℕ → List (Action (MemoryOp CallAccess))) (p : ℕ) (t : MemoryOp CallAccess) → p < key.geometry.peers → ((w : ℕ) → word_count key.geometry ≤ w → w < word_count key.geometry + 2 * key.geometry.peers → after w ≡ memory w) → Appends acc next p (accessed t) → Interrupts key memory acc → Interrupts key after next
access_keeps key memory after acc next p t p_lt still g k = record {
  rung = λ target bit lt. let was : count_in (finds_bit bit) (acc target) + bit_at (memory (interrupt_word key target)) bit ≤ sum_below key.geometry.peers (λ q. count_in (rings_bit target bit) (acc q)) = k.rung target bit lt in
      let a : count_in (finds_bit bit) (next target) ≡ count_in (finds_bit bit) (acc target) = weigh_still (finds_bit bit) acc next p target (accessed t) g (finds_accessed bit t) in
      let b : bit_at (after (interrupt_word key target)) bit ≡ bit_at (memory (interrupt_word key target)) bit = ap (λ n. bit_at n bit) (still (interrupt_word key target) (omega arith) (omega arith)) in
      let none : rings_bit {A = MemoryOp CallAccess} target bit (accessed t) ≡ 0 = rings_accessed target bit t in
      let c : sum_below key.geometry.peers (λ q. count_in (rings_bit target bit) (next q)) ≡ sum_below key.geometry.peers (λ q. count_in (rings_bit target bit) (acc q)) + rings_bit {A = MemoryOp CallAccess} target bit (accessed t) = tally_grows key.geometry.peers (rings_bit target bit) acc next p (accessed t) g p_lt in omega arith;
  control = λ target lt. let was : bit_at (memory (control_word key target)) 0 + sum_below key.geometry.peers (λ q. count_in (clears_set_bit target) (acc q)) ≡ one_if (flag_of key.enabled target) = k.control target lt in
      let b : bit_at (after (control_word key target)) 0 ≡ bit_at (memory (control_word key target)) 0 = ap (λ n. bit_at n 0) (still (control_word key target) (omega arith) (omega arith)) in
      let none : clears_set_bit {A = MemoryOp CallAccess} target (accessed t) ≡ 0 = wins_accessed target t in
      let c : sum_below key.geometry.peers (λ q. count_in (clears_set_bit target) (next q)) ≡ sum_below key.geometry.peers (λ q. count_in (clears_set_bit target) (acc q)) + clears_set_bit {A = MemoryOp CallAccess} target (accessed t) = tally_grows key.geometry.peers (clears_set_bit target) acc next p (accessed t) g p_lt in omega arith;
  leave = leave_keeps key acc next p (accessed t) g (λ target lt shot b. let none : rings_target {A = MemoryOp CallAccess} target (accessed t) ≡ 0 = aims_accessed target t in omega arith) k.leave;
}

-- A ring
pub rang_keeps : (key : RunSetup) (memory after : ℕ → ℕ) (acc next : ℕ → List (Action (MemoryOp CallAccess))) (p at k : ℕ) → p < key.geometry.peers → Stored memory after (interrupt_word key at) (bit_or (memory (interrupt_word key at)) (2 ^ k)) →
    (IsOneShot key at → MayRing at (acc p)) → Appends acc next p (rang at k) → Interrupts key memory acc → Interrupts key after next
rang_keeps key memory after acc next p at k p_lt st may g i = record {
  rung = λ target bit lt. let was : count_in (finds_bit bit) (acc target) + bit_at (memory (interrupt_word key target)) bit ≤ sum_below key.geometry.peers (λ q. count_in (rings_bit target bit) (acc q)) = i.rung target bit lt in
      let a : count_in (finds_bit bit) (next target) ≡ count_in (finds_bit bit) (acc target) = weigh_still (finds_bit bit) acc next p target (rang at k) g (finds_rang (MemoryOp CallAccess) bit at k) in
      let c : sum_below key.geometry.peers (λ q. count_in (rings_bit target bit) (next q)) ≡ sum_below key.geometry.peers (λ q. count_in (rings_bit target bit) (acc q)) + rings_bit {A = MemoryOp CallAccess} target bit (rang at k) = tally_grows key.geometry.peers (rings_bit target bit) acc next p (rang at k) g p_lt in
      let b : bit_at (after (interrupt_word key target)) bit ≤ bit_at (memory (interrupt_word key target)) bit + rings_bit {A = MemoryOp CallAccess} target bit (rang at k) = set target bit in omega arith;
  control = λ target lt. let was : bit_at (memory (control_word key target)) 0 + sum_below key.geometry.peers (λ q. count_in (clears_set_bit target) (acc q)) ≡ one_if (flag_of key.enabled target) = i.control target lt in
      let b : bit_at (after (control_word key target)) 0 ≡ bit_at (memory (control_word key target)) 0 = ap (λ n. bit_at n 0) (st.neighbour_word (control_word key target) (λ e. omega arith)) in
      let none : clears_set_bit {A = MemoryOp CallAccess} target (rang at k) ≡ 0 = wins_rang (MemoryOp CallAccess) target at k in
      let c : sum_below key.geometry.peers (λ q. count_in (clears_set_bit target) (next q)) ≡ sum_below key.geometry.peers (λ q. count_in (clears_set_bit target) (acc q)) + clears_set_bit {A = MemoryOp CallAccess} target (rang at k) = tally_grows key.geometry.peers (clears_set_bit target) acc next p (rang at k) g p_lt in omega arith;
  leave = leave_keeps key acc next p (rang at k) g (λ target lt shot b. let none : clears_set_bit {A = MemoryOp CallAccess} target (rang at k) ≡ 0 = wins_rang (MemoryOp CallAccess) target at k in dite (ℕ_discrete at target)
      (λ e. let one : rings_target {A = MemoryOp CallAccess} target (rang at k) ≡ 1 = subst (λ j. rings_target {A = MemoryOp CallAccess} j (rang at k) ≡ 1) e (aims_here (MemoryOp CallAccess) at k) in let m : MayRing target (acc p) = subst (λ j. MayRing j (acc p)) e (may (subst (IsOneShot key) (sym e) shot)) in omega arith)
      (λ ne. let no_aim : rings_target {A = MemoryOp CallAccess} target (rang at k) ≡ 0 = aims_else (MemoryOp CallAccess) target at k ne in omega arith)) i.leave;
}
  where
    same_rings : (target bit : ℕ) → rings_bit {A = MemoryOp CallAccess} target bit (rang target k) ≡ rings_bit {A = MemoryOp CallAccess} 0 bit (rang 0 k)
    same_rings target bit = rings_same (MemoryOp CallAccess) target bit k ∙ sym (rings_same (MemoryOp CallAccess) 0 bit k)

    set : (target bit : ℕ) → bit_at (after (interrupt_word key target)) bit ≤ bit_at (memory (interrupt_word key target)) bit + rings_bit {A = MemoryOp CallAccess} target bit (rang at k)
    set target bit = dite (ℕ_discrete at target)
        (λ e. subst (λ j. bit_at (after (interrupt_word key j)) bit ≤ bit_at (memory (interrupt_word key j)) bit + rings_bit {A = MemoryOp CallAccess} j bit (rang at k)) e (let h : bit_at (after (interrupt_word key at)) bit ≡ bit_at (bit_or (memory (interrupt_word key at)) (2 ^ k)) bit = ap (λ n. bit_at n bit) st.here in
        let s : bit_at (bit_or (memory (interrupt_word key at)) (2 ^ k)) bit ≤ bit_at (memory (interrupt_word key at)) bit + rings_bit {A = MemoryOp CallAccess} 0 bit (rang 0 k) = set_bit (memory (interrupt_word key at)) k bit in let r : rings_bit {A = MemoryOp CallAccess} at bit (rang at k) ≡ rings_bit {A = MemoryOp CallAccess} 0 bit (rang 0 k) = same_rings at bit in omega arith))
        (λ ne. let h : bit_at (after (interrupt_word key target)) bit ≡ bit_at (memory (interrupt_word key target)) bit = ap (λ n. bit_at n bit) (st.neighbour_word (interrupt_word key target) (λ e. ne (omega arith))) in omega arith)

-- A look
pub looked_keeps : (key : RunSetup) (memory after : ℕ → ℕ) (acc next : ℕ → List (Action (MemoryOp CallAccess))) (p n : ℕ) → p < key.geometry.peers → n ≡ memory (interrupt_word key p) → Stored memory after (interrupt_word key p) 0 → Appends acc next p (looked n) → Interrupts key memory acc → Interrupts key after next
looked_keeps key memory after acc next p n p_lt found st g i = record {
  rung = λ target bit lt. let was : count_in (finds_bit bit) (acc target) + bit_at (memory (interrupt_word key target)) bit ≤ sum_below key.geometry.peers (λ q. count_in (rings_bit target bit) (acc q)) = i.rung target bit lt in
      let none : rings_bit {A = MemoryOp CallAccess} target bit (looked n) ≡ 0 = rings_looked (MemoryOp CallAccess) target bit n in
      let c : sum_below key.geometry.peers (λ q. count_in (rings_bit target bit) (next q)) ≡ sum_below key.geometry.peers (λ q. count_in (rings_bit target bit) (acc q)) + rings_bit {A = MemoryOp CallAccess} target bit (looked n) = tally_grows key.geometry.peers (rings_bit target bit) acc next p (looked n) g p_lt in
      let b : count_in (finds_bit bit) (next target) + bit_at (after (interrupt_word key target)) bit ≤ count_in (finds_bit bit) (acc target) + bit_at (memory (interrupt_word key target)) bit = taken target bit in omega arith;
  control = λ target lt. let was : bit_at (memory (control_word key target)) 0 + sum_below key.geometry.peers (λ q. count_in (clears_set_bit target) (acc q)) ≡ one_if (flag_of key.enabled target) = i.control target lt in
      let b : bit_at (after (control_word key target)) 0 ≡ bit_at (memory (control_word key target)) 0 = ap (λ m. bit_at m 0) (st.neighbour_word (control_word key target) (λ e. omega arith)) in
      let none : clears_set_bit {A = MemoryOp CallAccess} target (looked n) ≡ 0 = wins_looked (MemoryOp CallAccess) target n in
      let c : sum_below key.geometry.peers (λ q. count_in (clears_set_bit target) (next q)) ≡ sum_below key.geometry.peers (λ q. count_in (clears_set_bit target) (acc q)) + clears_set_bit {A = MemoryOp CallAccess} target (looked n) = tally_grows key.geometry.peers (clears_set_bit target) acc next p (looked n) g p_lt in omega arith;
  leave = leave_keeps key acc next p (looked n) g (λ target lt shot b. let none : rings_target {A = MemoryOp CallAccess} target (looked n) ≡ 0 = aims_looked (MemoryOp CallAccess) target n in omega arith) i.leave;
}
  where
    taken : (target bit : ℕ) → count_in (finds_bit bit) (next target) + bit_at (after (interrupt_word key target)) bit ≤ count_in (finds_bit bit) (acc target) + bit_at (memory (interrupt_word key target)) bit
    taken target bit = dite (ℕ_discrete target p)
        (λ e. subst (λ j. count_in (finds_bit bit) (next j) + bit_at (after (interrupt_word key j)) bit ≤ count_in (finds_bit bit) (acc j) + bit_at (memory (interrupt_word key j)) bit) (sym e)
        (let a : count_in (finds_bit bit) (next p) ≡ count_in (finds_bit bit) (acc p) + finds_bit {A = MemoryOp CallAccess} bit (looked n) = weigh_here (finds_bit bit) acc next p (looked n) g in let f : finds_bit {A = MemoryOp CallAccess} bit (looked n) ≡ bit_at n bit = finds_looked (MemoryOp CallAccess) bit n in
        let w : bit_at n bit ≡ bit_at (memory (interrupt_word key p)) bit = ap (λ m. bit_at m bit) found in let z : bit_at (after (interrupt_word key p)) bit ≡ 0 = ap (λ m. bit_at m bit) st.here ∙ bit_at-zero bit in omega arith))
        (λ ne. let a : count_in (finds_bit bit) (next target) ≡ count_in (finds_bit bit) (acc target) = weigh_else (finds_bit bit) acc next p target (looked n) g ne in
        let h : bit_at (after (interrupt_word key target)) bit ≡ bit_at (memory (interrupt_word key target)) bit = ap (λ m. bit_at m bit) (st.neighbour_word (interrupt_word key target) (λ e. ne (omega arith))) in omega arith)

-- A clear, by a mask without bit 0.
pub cleared_keeps : (key : RunSetup) (memory after : ℕ → ℕ) (acc next : ℕ → List (Action (MemoryOp CallAccess))) (p at n mask : ℕ) → p < key.geometry.peers → n ≡ memory (control_word key at) → bit_at mask 0 ≡ 0 → Stored memory after (control_word key at) (bit_and n mask) →
    Appends acc next p (cleared at n) → Interrupts key memory acc → Interrupts key after next
cleared_keeps key memory after acc next p at n mask p_lt found without st g i = record {
  rung = λ target bit lt. let was : count_in (finds_bit bit) (acc target) + bit_at (memory (interrupt_word key target)) bit ≤ sum_below key.geometry.peers (λ q. count_in (rings_bit target bit) (acc q)) = i.rung target bit lt in
      let a : count_in (finds_bit bit) (next target) ≡ count_in (finds_bit bit) (acc target) = weigh_still (finds_bit bit) acc next p target (cleared at n) g (finds_cleared (MemoryOp CallAccess) bit at n) in
      let b : bit_at (after (interrupt_word key target)) bit ≡ bit_at (memory (interrupt_word key target)) bit = ap (λ m. bit_at m bit) (st.neighbour_word (interrupt_word key target) (λ e. omega arith)) in
      let none : rings_bit {A = MemoryOp CallAccess} target bit (cleared at n) ≡ 0 = rings_cleared (MemoryOp CallAccess) target bit at n in
      let c : sum_below key.geometry.peers (λ q. count_in (rings_bit target bit) (next q)) ≡ sum_below key.geometry.peers (λ q. count_in (rings_bit target bit) (acc q)) + rings_bit {A = MemoryOp CallAccess} target bit (cleared at n) = tally_grows key.geometry.peers (rings_bit target bit) acc next p (cleared at n) g p_lt in omega arith;
  control = λ target lt. let was : bit_at (memory (control_word key target)) 0 + sum_below key.geometry.peers (λ q. count_in (clears_set_bit target) (acc q)) ≡ one_if (flag_of key.enabled target) = i.control target lt in
      let c : sum_below key.geometry.peers (λ q. count_in (clears_set_bit target) (next q)) ≡ sum_below key.geometry.peers (λ q. count_in (clears_set_bit target) (acc q)) + clears_set_bit {A = MemoryOp CallAccess} target (cleared at n) = tally_grows key.geometry.peers (clears_set_bit target) acc next p (cleared at n) g p_lt in
      let b : bit_at (after (control_word key target)) 0 + clears_set_bit {A = MemoryOp CallAccess} target (cleared at n) ≡ bit_at (memory (control_word key target)) 0 = gone target in omega arith;
  leave = leave_keeps key acc next p (cleared at n) g (λ target lt shot b. let none : rings_target {A = MemoryOp CallAccess} target (cleared at n) ≡ 0 = aims_cleared (MemoryOp CallAccess) target at n in omega arith) i.leave;
}
  where
    gone : (target : ℕ) → bit_at (after (control_word key target)) 0 + clears_set_bit {A = MemoryOp CallAccess} target (cleared at n) ≡ bit_at (memory (control_word key target)) 0
    gone target = dite (ℕ_discrete at target)
        (λ e. subst (λ j. bit_at (after (control_word key j)) 0 + clears_set_bit {A = MemoryOp CallAccess} j (cleared at n) ≡ bit_at (memory (control_word key j)) 0) e
        (let a : bit_at (after (control_word key at)) 0 ≡ min (bit_at n 0) (bit_at mask 0) = ap (λ m. bit_at m 0) st.here ∙ bit_at_and n mask 0 in let w : clears_set_bit {A = MemoryOp CallAccess} at (cleared at n) ≡ bit_at n 0 = wins_here (MemoryOp CallAccess) at n in
        let f : bit_at n 0 ≡ bit_at (memory (control_word key at)) 0 = ap (λ m. bit_at m 0) found in omega arith))
        (λ ne. let h : bit_at (after (control_word key target)) 0 ≡ bit_at (memory (control_word key target)) 0 = ap (λ m. bit_at m 0) (st.neighbour_word (control_word key target) (λ e. ne (omega arith))) in
        let none : clears_set_bit {A = MemoryOp CallAccess} target (cleared at n) ≡ 0 = wins_else (MemoryOp CallAccess) target at n ne in omega arith)

-- After a clear that found the bit, one more ring may be made.
pub may_ring : (key : RunSetup) (memory : ℕ → ℕ) (acc next : ℕ → List (Action (MemoryOp CallAccess))) (p at n : ℕ) → p < key.geometry.peers → at < key.geometry.peers → Appends acc next p (cleared at n) → Interrupts key memory acc → IsOneShot key at → bit_at n 0 ≡ 1 → MayRing at (next p)
may_ring key memory acc next p at n p_lt lt g i shot won = let b : count_in (rings_target at) (acc p) ≤ count_in (clears_set_bit at) (acc p) = behind_all at (acc p) (i.leave at p lt p_lt shot) in
    let a : count_in (rings_target at) (next p) ≡ count_in (rings_target at) (acc p) + rings_target {A = MemoryOp CallAccess} at (cleared at n) = weigh_here (rings_target at) acc next p (cleared at n) g in
    let w : count_in (clears_set_bit at) (next p) ≡ count_in (clears_set_bit at) (acc p) + clears_set_bit {A = MemoryOp CallAccess} at (cleared at n) = weigh_here (clears_set_bit at) acc next p (cleared at n) g in
    let x : rings_target {A = MemoryOp CallAccess} at (cleared at n) ≡ 0 = aims_cleared (MemoryOp CallAccess) at at n in let y : clears_set_bit {A = MemoryOp CallAccess} at (cleared at n) ≡ bit_at n 0 = wins_here (MemoryOp CallAccess) at n in omega arith

-- The invariant of the words gives this of the lists.
pub are_rung : (key : RunSetup) (memory : ℕ → ℕ) (acc : ℕ → List (Action (MemoryOp CallAccess))) → Interrupts key memory acc → AreRung key acc
are_rung key memory acc i = record {
  rung = λ target bit lt. let was : count_in (finds_bit bit) (acc target) + bit_at (memory (interrupt_word key target)) bit ≤ sum_below key.geometry.peers (λ q. count_in (rings_bit target bit) (acc q)) = i.rung target bit lt in omega arith;
  once = λ target lt shot. once target lt shot;
  behind = i.leave;
}
  where
    rung : (target bit : ℕ) → target < key.geometry.peers → count_in (finds_bit bit) (acc target) ≤ sum_below key.geometry.peers (λ p. count_in (rings_bit target bit) (acc p))
    rung target bit lt = let was : count_in (finds_bit bit) (acc target) + bit_at (memory (interrupt_word key target)) bit ≤ sum_below key.geometry.peers (λ q. count_in (rings_bit target bit) (acc q)) = i.rung target bit lt in omega arith

    once : (target : ℕ) → target < key.geometry.peers → IsOneShot key target → sum_below 64 (λ bit. count_in (finds_bit bit) (acc target)) ≤ 1
    once target lt shot = let a : sum_below 64 (λ bit. count_in (finds_bit bit) (acc target)) ≤ sum_below 64 (λ bit. sum_below key.geometry.peers (λ p. count_in (rings_bit target bit) (acc p))) = tally_most 64 _ _ (λ bit l. rung target bit lt) in
        let b : sum_below 64 (λ bit. sum_below key.geometry.peers (λ p. count_in (rings_bit target bit) (acc p))) ≡ sum_below key.geometry.peers (λ p. sum_below 64 (λ bit. count_in (rings_bit target bit) (acc p))) = tally_turned 64 key.geometry.peers (λ p bit. count_in (rings_bit target bit) (acc p)) in
        let c : sum_below key.geometry.peers (λ p. sum_below 64 (λ bit. count_in (rings_bit target bit) (acc p))) ≤ sum_below key.geometry.peers (λ p. count_in (rings_target target) (acc p)) = tally_most key.geometry.peers _ _ (λ p l. subst (λ k. k ≤ count_in (rings_target target) (acc p)) (sym (weigh_turned 64 (λ bit. rings_bit target bit) (acc p))) (weigh_most _ (rings_target target) (rings_bits 64 target) (acc p))) in
        let d : sum_below key.geometry.peers (λ p. count_in (rings_target target) (acc p)) ≤ sum_below key.geometry.peers (λ p. count_in (clears_set_bit target) (acc p)) = tally_most key.geometry.peers _ _ (λ p l. behind_all target (acc p) (i.leave target p lt l shot)) in
        let e : bit_at (memory (control_word key target)) 0 + sum_below key.geometry.peers (λ q. count_in (clears_set_bit target) (acc q)) ≡ one_if (flag_of key.enabled target) = i.control target lt in
        let f : one_if (flag_of key.enabled target) < 2 = one_if_lt (flag_of key.enabled target) in omega arith
