-- What rings and clears leave: a bit that was rung is set until its target finds it.
use Rattle.std.proofs.Common.{◌≡◌, ℕ, ◌+◌, ◌*◌, ◌^◌, ◌<◌, ◌≤◌, max, min, inr, List, refl, sym, ap, ◌∙◌, subst, arith}
use mathlib.Core.Logic.{dite}
use native.Mathlib.Decide.{ℕ_discrete, dec_le}
use Rattle.std.specs.Int.{bit_at}
use Rattle.std.proofs.lemmas.Nat.Bits.{bit_at_or, bit_at_and, bit_at-pow_same}
use Rattle.section_map.specs.Geometry.{word_count}
use Rattle.shared_words.specs.declared.run_setup.RunSetup.{RunSetup}
use Rattle.shared_words.specs.RunSetups.{IsFit}
use Rattle.shared_words.specs.DerivedStates.{CallAccess, MemoryOp, called, numbered, restarted}
use Rattle.shared_words.specs.Actions.{Action, accessed, rang, looked, cleared}
use Rattle.shared_words.specs.Interrupts.{count_in, sum_below, rings_bit, finds_bit, clears_target, interrupt_word, control_word, Doorbells}
use Rattle.shared_words.specs.SharedMemory.{Appends}
use Rattle.shared_words.specs.ActionsMade.{ActionsMade, without_first}
use Rattle.shared_words.specs.ActionsMade as happened
use Rattle.shared_words.proofs.LinkOfSetup.{within}
use Rattle.shared_words.proofs.ActionsMakeWords.{high_leaves}
use Rattle.shared_words.proofs.SumsOfCounts.{weigh_here, weigh_else, weigh_still, weigh_none, tally_zero, tally_grows, rings_accessed, rings_here, rings_looked, rings_cleared, finds_accessed, finds_rang, finds_looked, finds_cleared, strikes_accessed, strikes_rang, strikes_looked, strikes_else, rings_else, rings_off}

-- One action more, by which no bit is lost that isn't found.
doorbells_on : (key : RunSetup) (memory after : ℕ → ℕ) (acc next : ℕ → List (Action (MemoryOp CallAccess))) (p : ℕ) (t : Action (MemoryOp CallAccess)) → p < key.geometry.peers → Appends acc next p t →
    ((target bit : ℕ) → target < key.geometry.peers → rings_bit target bit t ≤ bit_at (after (interrupt_word key target)) bit) →
    ((target bit : ℕ) → target < key.geometry.peers → bit_at (memory (interrupt_word key target)) bit + count_in (finds_bit bit) (acc target) ≤ bit_at (after (interrupt_word key target)) bit + count_in (finds_bit bit) (next target)) →
    ((target : ℕ) → target < key.geometry.peers → 1 ≤ clears_target target t → bit_at (after (control_word key target)) 0 ≡ 0) →
    ((target : ℕ) → target < key.geometry.peers → bit_at (after (control_word key target)) 0 ≤ bit_at (memory (control_word key target)) 0) →
    Doorbells key memory acc → Doorbells key after next
doorbells_on key memory after acc next p t p_lt g sets keeps shuts stays was = record {
  refines = λ target bit lt some. let c : sum_below key.geometry.peers (λ q. count_in (rings_bit target bit) (next q)) ≡ sum_below key.geometry.peers (λ q. count_in (rings_bit target bit) (acc q)) + rings_bit target bit t = tally_grows key.geometry.peers (rings_bit target bit) acc next p t g p_lt in
      let s : rings_bit target bit t ≤ bit_at (after (interrupt_word key target)) bit = sets target bit lt in
      let k : bit_at (memory (interrupt_word key target)) bit + count_in (finds_bit bit) (acc target) ≤ bit_at (after (interrupt_word key target)) bit + count_in (finds_bit bit) (next target) = keeps target bit lt in
      dite (dec_le 1 (sum_below key.geometry.peers (λ q. count_in (rings_bit target bit) (acc q))))
      (λ h. let w : 1 ≤ bit_at (memory (interrupt_word key target)) bit + count_in (finds_bit bit) (acc target) = was.refines target bit lt h in omega arith)
      (λ h. omega arith);
  shut = λ target lt some. let c : sum_below key.geometry.peers (λ q. count_in (clears_target target) (next q)) ≡ sum_below key.geometry.peers (λ q. count_in (clears_target target) (acc q)) + clears_target target t = tally_grows key.geometry.peers (clears_target target) acc next p t g p_lt in
      let s : bit_at (after (control_word key target)) 0 ≤ bit_at (memory (control_word key target)) 0 = stays target lt in
      dite (dec_le 1 (sum_below key.geometry.peers (λ q. count_in (clears_target target) (acc q))))
      (λ h. let w : bit_at (memory (control_word key target)) 0 ≡ 0 = was.shut target lt h in omega arith)
      (λ h. shuts target lt (omega arith));
}

-- A memory operation
operation_on : (key : RunSetup) (memory after : ℕ → ℕ) (acc next : ℕ → List (Action (MemoryOp CallAccess))) (p : ℕ) (t : MemoryOp CallAccess) → p < key.geometry.peers → Appends acc next p (accessed t) → ((w : ℕ) → word_count key.geometry ≤ w → w < word_count key.geometry + 2 * key.geometry.peers → after w ≡ memory w) →
    Doorbells key memory acc → Doorbells key after next
operation_on key memory after acc next p t p_lt g still = doorbells_on key memory after acc next p (accessed t) p_lt g
    (λ target bit lt. let none : rings_bit {A = MemoryOp CallAccess} target bit (accessed t) ≡ 0 = rings_accessed target bit t in omega arith)
    (λ target bit lt. let a : count_in (finds_bit bit) (next target) ≡ count_in (finds_bit bit) (acc target) = weigh_still (finds_bit bit) acc next p target (accessed t) g (finds_accessed bit t) in
    let b : bit_at (after (interrupt_word key target)) bit ≡ bit_at (memory (interrupt_word key target)) bit = ap (λ n. bit_at n bit) (still (interrupt_word key target) (omega arith) (omega arith)) in omega arith)
    (λ target lt one. let none : clears_target {A = MemoryOp CallAccess} target (accessed t) ≡ 0 = strikes_accessed target t in absurd (omega arith))
    (λ target lt. let b : bit_at (after (control_word key target)) 0 ≡ bit_at (memory (control_word key target)) 0 = ap (λ n. bit_at n 0) (still (control_word key target) (omega arith) (omega arith)) in omega arith)

pub doorbells_of : (key : RunSetup) → IsFit key → (memory : ℕ → ℕ) (acc : ℕ → List (Action (MemoryOp CallAccess))) → ActionsMade key memory acc → Doorbells key memory acc
doorbells_of key fit memory acc (happened.starts _ _ words none) = record {
  refines = λ target bit lt some. let z : sum_below key.geometry.peers (λ q. count_in (rings_bit target bit) (acc q)) ≡ 0 = tally_zero key.geometry.peers _ (λ q l. ap (count_in (rings_bit target bit)) (none q) ∙ weigh_none (rings_bit target bit)) in absurd (omega arith);
  shut = λ target lt some. let z : sum_below key.geometry.peers (λ q. count_in (clears_target target) (acc q)) ≡ 0 = tally_zero key.geometry.peers _ (λ q l. ap (count_in (clears_target target)) (none q) ∙ weigh_none (clears_target target)) in absurd (omega arith);
}
doorbells_of key fit after next (happened.makes memory _ acc _ p t h lt may meets leaves g) =
    operation_on key memory after acc next p (called t) lt g (λ w le high. high_leaves key memory after fit p t.access lt may.owned leaves w le) (doorbells_of key fit memory acc h)
doorbells_of key fit after next (happened.stores memory _ acc _ p number h lt may st g) = operation_on key memory after acc next p (numbered number) lt g (λ w le high. st.neighbour_word w (λ e. omega arith)) (doorbells_of key fit memory acc h)
doorbells_of key fit memory next (happened.loads _ acc _ p h lt may g) = operation_on key memory memory acc next p _ lt g (λ w le high. refl) (doorbells_of key fit memory acc h)
doorbells_of key fit after next (happened.resets memory _ acc _ p h lt st g) = let inside = within key p p fit lt (inr refl) in operation_on key memory after acc next p restarted lt g (λ w le high. st.neighbour_word w (λ e. omega arith)) (doorbells_of key fit memory acc h)
doorbells_of key fit after next (happened.rings memory _ acc _ p at k h lt there low may st g) = doorbells_on key memory after acc next p (rang at k) lt g
    (λ target bit l. set target bit)
    (λ target bit l. let a : count_in (finds_bit bit) (next target) ≡ count_in (finds_bit bit) (acc target) = weigh_still (finds_bit bit) acc next p target (rang at k) g (finds_rang (MemoryOp CallAccess) bit at k) in let b : bit_at (memory (interrupt_word key target)) bit ≤ bit_at (after (interrupt_word key target)) bit = more target bit in omega arith)
    (λ target l one. let none : clears_target {A = MemoryOp CallAccess} target (rang at k) ≡ 0 = strikes_rang (MemoryOp CallAccess) target at k in absurd (omega arith))
    (λ target l. let b : bit_at (after (control_word key target)) 0 ≡ bit_at (memory (control_word key target)) 0 = ap (λ n. bit_at n 0) (st.neighbour_word (control_word key target) (λ e. omega arith)) in omega arith)
    (doorbells_of key fit memory acc h)
  where
    now : (bit : ℕ) → bit_at (after (interrupt_word key at)) bit ≡ max (bit_at (memory (interrupt_word key at)) bit) (bit_at (2 ^ k) bit)
    now bit = ap (λ n. bit_at n bit) st.here ∙ bit_at_or (memory (interrupt_word key at)) (2 ^ k) bit

    more : (target bit : ℕ) → bit_at (memory (interrupt_word key target)) bit ≤ bit_at (after (interrupt_word key target)) bit
    more target bit = dite (ℕ_discrete target at)
        (λ e. subst (λ j. bit_at (memory (interrupt_word key j)) bit ≤ bit_at (after (interrupt_word key j)) bit) (sym e) (let n = now bit in omega arith))
        (λ ne. let b : bit_at (after (interrupt_word key target)) bit ≡ bit_at (memory (interrupt_word key target)) bit = ap (λ n. bit_at n bit) (st.neighbour_word (interrupt_word key target) (λ e. ne (omega arith))) in omega arith)

    set : (target bit : ℕ) → rings_bit {A = MemoryOp CallAccess} target bit (rang at k) ≤ bit_at (after (interrupt_word key target)) bit
    set target bit = dite (ℕ_discrete at target)
        (λ e. subst (λ j. rings_bit {A = MemoryOp CallAccess} j bit (rang at k) ≤ bit_at (after (interrupt_word key j)) bit) e (dite (ℕ_discrete k bit)
        (λ f. subst (λ b. rings_bit {A = MemoryOp CallAccess} at b (rang at k) ≤ bit_at (after (interrupt_word key at)) b) f (let r : rings_bit {A = MemoryOp CallAccess} at k (rang at k) ≡ 1 = rings_here (MemoryOp CallAccess) at k in let n = now k in let s : bit_at (2 ^ k) k ≡ 1 = bit_at-pow_same k in omega arith))
        (λ nf. let r : rings_bit {A = MemoryOp CallAccess} at bit (rang at k) ≡ 0 = rings_else (MemoryOp CallAccess) at bit k nf in omega arith)))
        (λ ne. let r : rings_bit {A = MemoryOp CallAccess} target bit (rang at k) ≡ 0 = rings_off (MemoryOp CallAccess) target bit at k ne in omega arith)
doorbells_of key fit after next (happened.looks memory _ acc _ p h lt st g) = doorbells_on key memory after acc next p (looked found) lt g
    (λ target bit l. let none : rings_bit {A = MemoryOp CallAccess} target bit (looked found) ≡ 0 = rings_looked (MemoryOp CallAccess) target bit found in omega arith)
    (λ target bit l. taken target bit)
    (λ target l one. let none : clears_target {A = MemoryOp CallAccess} target (looked found) ≡ 0 = strikes_looked (MemoryOp CallAccess) target found in absurd (omega arith))
    (λ target l. let b : bit_at (after (control_word key target)) 0 ≡ bit_at (memory (control_word key target)) 0 = ap (λ n. bit_at n 0) (st.neighbour_word (control_word key target) (λ e. omega arith)) in omega arith)
    (doorbells_of key fit memory acc h)
  where
    found : ℕ
    found = memory (interrupt_word key p)

    taken : (target bit : ℕ) → bit_at (memory (interrupt_word key target)) bit + count_in (finds_bit bit) (acc target) ≤ bit_at (after (interrupt_word key target)) bit + count_in (finds_bit bit) (next target)
    taken target bit = dite (ℕ_discrete target p)
        (λ e. subst (λ j. bit_at (memory (interrupt_word key j)) bit + count_in (finds_bit bit) (acc j) ≤ bit_at (after (interrupt_word key j)) bit + count_in (finds_bit bit) (next j)) (sym e)
        (let a : count_in (finds_bit bit) (next p) ≡ count_in (finds_bit bit) (acc p) + finds_bit {A = MemoryOp CallAccess} bit (looked found) = weigh_here (finds_bit bit) acc next p (looked found) g in let f : finds_bit {A = MemoryOp CallAccess} bit (looked found) ≡ bit_at (memory (interrupt_word key p)) bit = finds_looked (MemoryOp CallAccess) bit found in omega arith))
        (λ ne. let a : count_in (finds_bit bit) (next target) ≡ count_in (finds_bit bit) (acc target) = weigh_else (finds_bit bit) acc next p target (looked found) g ne in
        let b : bit_at (after (interrupt_word key target)) bit ≡ bit_at (memory (interrupt_word key target)) bit = ap (λ n. bit_at n bit) (st.neighbour_word (interrupt_word key target) (λ e. ne (omega arith))) in omega arith)
doorbells_of key fit after next (happened.clears memory _ acc _ p at h lt there st g) = doorbells_on key memory after acc next p (cleared at found) lt g
    (λ target bit l. let none : rings_bit {A = MemoryOp CallAccess} target bit (cleared at found) ≡ 0 = rings_cleared (MemoryOp CallAccess) target bit at found in omega arith)
    (λ target bit l. let a : count_in (finds_bit bit) (next target) ≡ count_in (finds_bit bit) (acc target) = weigh_still (finds_bit bit) acc next p target (cleared at found) g (finds_cleared (MemoryOp CallAccess) bit at found) in
    let b : bit_at (after (interrupt_word key target)) bit ≡ bit_at (memory (interrupt_word key target)) bit = ap (λ n. bit_at n bit) (st.neighbour_word (interrupt_word key target) (λ e. omega arith)) in omega arith)
    (λ target l one. gone target one)
    (λ target l. less target)
    (doorbells_of key fit memory acc h)
  where
    found : ℕ
    found = memory (control_word key at)

    none : bit_at (after (control_word key at)) 0 ≡ 0
    none = let a : bit_at (after (control_word key at)) 0 ≡ min (bit_at found 0) (bit_at 18446744073709551614 0) = ap (λ n. bit_at n 0) st.here ∙ bit_at_and found 18446744073709551614 0 in let z : bit_at 18446744073709551614 0 ≡ 0 = refl in omega arith

    gone : (target : ℕ) → 1 ≤ clears_target {A = MemoryOp CallAccess} target (cleared at found) → bit_at (after (control_word key target)) 0 ≡ 0
    gone target one = dite (ℕ_discrete at target) (λ e. subst (λ j. bit_at (after (control_word key j)) 0 ≡ 0) e none) (λ ne. let z : clears_target {A = MemoryOp CallAccess} target (cleared at found) ≡ 0 = strikes_else (MemoryOp CallAccess) target at found ne in absurd (omega arith))

    less : (target : ℕ) → bit_at (after (control_word key target)) 0 ≤ bit_at (memory (control_word key target)) 0
    less target = dite (ℕ_discrete at target) (λ e. subst (λ j. bit_at (after (control_word key j)) 0 ≤ bit_at (memory (control_word key j)) 0) e (let n = none in omega arith))
        (λ ne. let b : bit_at (after (control_word key target)) 0 ≡ bit_at (memory (control_word key target)) 0 = ap (λ n. bit_at n 0) (st.neighbour_word (control_word key target) (λ e. ne (omega arith))) in omega arith)
