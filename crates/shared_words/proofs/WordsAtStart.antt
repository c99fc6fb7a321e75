-- The words at the start.
use Rattle.std.proofs.Common.{◌≡◌, ℕ, zero, suc, ◌+◌, ◌*◌, ◌<◌, Bool, List, [], ◌∷◌, ◌++◌, length, length-append, append_assoc, append-nil, get_or, replicate, refl, sym, ap, ◌∙◌, arith}
use mathlib.Core.Logic.{dite}
use native.Mathlib.Decide.{ℕ_discrete}
use Rattle.std.specs.Int.{bit_at}
use Rattle.std.proofs.lemmas.Nat.Bits.{bit_at-zero, bit_at_lowest}
use Rattle.std.proofs.lemmas.List.{length-replicate, get_or_append_left, get_or-append-add}
use Rattle.section_map.specs.Geometry.{word_count}
use Rattle.shared_words.specs.declared.run_setup.RunSetup.{RunSetup}
use Rattle.shared_words.specs.DerivedStates.{CallAccess, MemoryOp}
use Rattle.shared_words.specs.Interrupts.{count_in, sum_below, finds_bit, clears_set_bit, interrupt_word, control_word, session_word, all_words, one_if, flag_of, interrupts_at_start, words_at_start, Interrupts}
use Rattle.shared_words.specs.Rules.{session_words}
use Rattle.shared_words.proofs.SumsOfCounts.{one_if_lt, weigh_none, tally_zero, behind_none}

zeros : (n w : ℕ) → get_or {A = ℕ} (replicate n 0) w 0 ≡ 0
zeros zero w = refl
zeros (suc n) zero = refl
zeros (suc n) (suc w) = zeros n w

low_bit : (n : ℕ) → n < 2 → bit_at n 0 ≡ n
low_bit n lt = bit_at_lowest n ∙ omega arith

-- the words after the region, at the start
length_pairs : (enabled : List Bool) (n : ℕ) → length (interrupts_at_start enabled n) ≡ 2 * n
unfolding interrupts_at_start
length_pairs enabled zero = refl
length_pairs enabled (suc n) = length-append (interrupts_at_start enabled n) (0 ∷ one_if (flag_of enabled n) ∷ []) ∙ (let h : length (interrupts_at_start enabled n) ≡ 2 * n = length_pairs enabled n in omega arith)

pub behind_more : (enabled : List Bool) (n : ℕ) (first words more : List ℕ) → words ≡ first ++ interrupts_at_start enabled n → more ≡ words ++ 0 ∷ one_if (flag_of enabled n) ∷ [] → more ≡ first ++ interrupts_at_start enabled (n + 1)
unfolding interrupts_at_start
behind_more enabled n first words more was is = let next : n + 1 ≡ suc n = omega arith in is ∙ (ap (λ l. l ++ 0 ∷ one_if (flag_of enabled n) ∷ []) was ∙ (append_assoc first (interrupts_at_start enabled n) (0 ∷ one_if (flag_of enabled n) ∷ []) ∙ sym (ap (λ k. first ++ interrupts_at_start enabled k) next)))

pub behind_start : (enabled : List Bool) (first : List ℕ) → first ≡ first ++ interrupts_at_start enabled 0
unfolding interrupts_at_start
behind_start enabled first = sym (append-nil first)

pair_at : (enabled : List Bool) (n k : ℕ) → k < n → (get_or (interrupts_at_start enabled n) (2 * k) 0 ≡ 0) × (get_or (interrupts_at_start enabled n) (2 * k + 1) 0 ≡ one_if (flag_of enabled k))
unfolding interrupts_at_start
pair_at enabled zero k lt = absurd (omega arith)
pair_at enabled (suc n) k lt = let size : length (interrupts_at_start enabled n) ≡ 2 * n = length_pairs enabled n in dite (ℕ_discrete k n)
    (λ e. let at : 2 * k ≡ length (interrupts_at_start enabled n) + 0 = omega arith in let next : 2 * k + 1 ≡ length (interrupts_at_start enabled n) + 1 = omega arith in (
      ap (λ i. get_or (interrupts_at_start enabled n ++ 0 ∷ one_if (flag_of enabled n) ∷ []) i 0) at ∙ get_or-append-add (interrupts_at_start enabled n) (0 ∷ one_if (flag_of enabled n) ∷ []) 0 0,
      ap (λ i. get_or (interrupts_at_start enabled n ++ 0 ∷ one_if (flag_of enabled n) ∷ []) i 0) next ∙ (get_or-append-add (interrupts_at_start enabled n) (0 ∷ one_if (flag_of enabled n) ∷ []) 1 0 ∙ ap (λ p. one_if (flag_of enabled p)) (sym e)),
    ))
    (λ ne. let before = pair_at enabled n k (omega arith) in (
      get_or_append_left (interrupts_at_start enabled n) (0 ∷ one_if (flag_of enabled n) ∷ []) 0 (2 * k) (omega arith) ∙ before.0,
      get_or_append_left (interrupts_at_start enabled n) (0 ∷ one_if (flag_of enabled n) ∷ []) 0 (2 * k + 1) (omega arith) ∙ before.1,
    ))

-- All words but the session words at the start.
abbrev before : RunSetup → List ℕ
before key = replicate (word_count key.geometry) 0 ++ interrupts_at_start key.enabled key.geometry.peers

before_size : (key : RunSetup) → length (before key) ≡ word_count key.geometry + 2 * key.geometry.peers
before_size key = length-append (replicate (word_count key.geometry) 0) (interrupts_at_start key.enabled key.geometry.peers) ∙ (let a : length (replicate {A = ℕ} (word_count key.geometry) 0) ≡ word_count key.geometry = length-replicate (word_count key.geometry) 0 in let b : length (interrupts_at_start key.enabled key.geometry.peers) ≡ 2 * key.geometry.peers = length_pairs key.enabled key.geometry.peers in omega arith)

pub start_size : (key : RunSetup) → length (words_at_start key) ≡ all_words key
start_size key = length-append (before key) (0 ∷ 0 ∷ []) ∙ (let b : length (before key) ≡ word_count key.geometry + 2 * key.geometry.peers = before_size key in omega arith)

start_before : (key : RunSetup) (w : ℕ) → w < word_count key.geometry + 2 * key.geometry.peers → get_or (words_at_start key) w 0 ≡ get_or (before key) w 0
start_before key w lt = get_or_append_left (before key) (0 ∷ 0 ∷ []) 0 w (let b : length (before key) ≡ word_count key.geometry + 2 * key.geometry.peers = before_size key in omega arith)

two_zeros : (i : ℕ) → get_or {A = ℕ} (0 ∷ 0 ∷ []) i 0 ≡ 0
two_zeros zero = refl
two_zeros (suc zero) = refl
two_zeros (suc (suc i)) = refl

pub start_session : (key : RunSetup) (p : ℕ) → session_words key (words_at_start key) p ≡ 0
start_session key p = let at : session_word key p ≡ length (before key) + p = (let b : length (before key) ≡ word_count key.geometry + 2 * key.geometry.peers = before_size key in omega arith) in
    ap (λ j. get_or (words_at_start key) j 0) at ∙ (get_or-append-add (before key) (0 ∷ 0 ∷ []) p 0 ∙ two_zeros p)

pub start_region : (key : RunSetup) (w : ℕ) → w < word_count key.geometry → get_or (words_at_start key) w 0 ≡ 0
start_region key w lt = start_before key w (omega arith) ∙ (get_or_append_left (replicate (word_count key.geometry) 0) (interrupts_at_start key.enabled key.geometry.peers) 0 w (let h : length (replicate {A = ℕ} (word_count key.geometry) 0) ≡ word_count key.geometry = length-replicate (word_count key.geometry) 0 in omega arith) ∙ zeros (word_count key.geometry) w)

behind_at : (key : RunSetup) (i : ℕ) → i < 2 * key.geometry.peers → get_or (words_at_start key) (word_count key.geometry + i) 0 ≡ get_or (interrupts_at_start key.enabled key.geometry.peers) i 0
behind_at key i lt = let at : word_count key.geometry + i ≡ length (replicate {A = ℕ} (word_count key.geometry) 0) + i = (let h : length (replicate {A = ℕ} (word_count key.geometry) 0) ≡ word_count key.geometry = length-replicate (word_count key.geometry) 0 in omega arith) in
    start_before key (word_count key.geometry + i) (omega arith) ∙ (ap (λ j. get_or (before key) j 0) at ∙ get_or-append-add (replicate (word_count key.geometry) 0) (interrupts_at_start key.enabled key.geometry.peers) i 0)

start_interrupt : (key : RunSetup) (target : ℕ) → target < key.geometry.peers → get_or (words_at_start key) (interrupt_word key target) 0 ≡ 0
start_interrupt key target lt = behind_at key (2 * target) (omega arith) ∙ (pair_at key.enabled key.geometry.peers target lt).0

start_control : (key : RunSetup) (target : ℕ) → target < key.geometry.peers → bit_at (get_or (words_at_start key) (control_word key target) 0) 0 ≡ one_if (flag_of key.enabled target)
start_control key target lt = let at : control_word key target ≡ word_count key.geometry + (2 * target + 1) = omega arith in let same : get_or (words_at_start key) (control_word key target) 0 ≡ one_if (flag_of key.enabled target) = ap (λ j. get_or (words_at_start key) j 0) at ∙ (behind_at key (2 * target + 1) (omega arith) ∙ (pair_at key.enabled key.geometry.peers target lt).1) in
    ap (λ n. bit_at n 0) same ∙ low_bit (one_if (flag_of key.enabled target)) (one_if_lt (flag_of key.enabled target))

pub start_interrupts : (key : RunSetup) → Interrupts {A = MemoryOp CallAccess} key (λ w. get_or (words_at_start key) w 0) (λ _. [])
start_interrupts key = record {
  rung = λ target bit lt. let a : count_in {A = MemoryOp CallAccess} (finds_bit bit) [] ≡ 0 = weigh_none {A = MemoryOp CallAccess} (finds_bit bit) in let b : bit_at (get_or (words_at_start key) (interrupt_word key target) 0) bit ≡ 0 = ap (λ n. bit_at n bit) (start_interrupt key target lt) ∙ bit_at-zero bit in omega arith;
  control = λ target lt. let b : bit_at (get_or (words_at_start key) (control_word key target) 0) 0 ≡ one_if (flag_of key.enabled target) = start_control key target lt in
      let z : sum_below key.geometry.peers (λ q. count_in {A = MemoryOp CallAccess} (clears_set_bit target) []) ≡ 0 = tally_zero key.geometry.peers (λ q. count_in {A = MemoryOp CallAccess} (clears_set_bit target) []) (λ q l. weigh_none {A = MemoryOp CallAccess} (clears_set_bit target)) in omega arith;
  leave = λ target p lt p_lt shot. behind_none (MemoryOp CallAccess) target;
}
