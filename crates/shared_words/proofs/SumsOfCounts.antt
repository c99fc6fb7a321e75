-- Sums over lists of actions and over peers.
use Rattle.std.proofs.Common.{◌≡◌, ◌≢◌, ℕ, zero, suc, ◌+◌, ◌<◌, ◌≤◌, Bool, true, false, List, [], ◌∷◌, ◌++◌, length, refl, sym, ap, ◌∙◌, subst, arith, eq-eqb, ne_eqb}
use mathlib.Core.Logic.{dite}
use native.Mathlib.Decide.{ℕ_discrete, dec_le}
use Rattle.std.specs.Prelude.{◌==◌, ◌&&◌, if◌then◌else◌}
use Rattle.std.specs.Int.{bit_at}
use Rattle.std.proofs.lemmas.List.{take_all, take-append-le}
use Rattle.shared_words.specs.Actions.{Action, accessed, rang, looked, cleared}
use Rattle.shared_words.specs.Interrupts.{count_in, sum_below, one_if, rings_bit, rings_target, finds_bit, clears_set_bit, clears_target, FollowsClears}
use Rattle.shared_words.specs.SharedMemory.{Appends}

pub one_if_lt : (b : Bool) → one_if b < 2
one_if_lt true = omega arith
one_if_lt false = omega arith

pub weigh_none : {A : Type 0} → (f : Action A → ℕ) → count_in f [] ≡ 0
unfolding count_in
weigh_none f = refl

pub weigh_snoc : {A : Type 0} → (f : Action A → ℕ) (l : List (Action A)) (t : Action A) → count_in f (l ++ t ∷ []) ≡ count_in f l + f t
unfolding count_in
weigh_snoc f [] t = omega arith
weigh_snoc f (x ∷ l) t = let e : count_in f (l ++ t ∷ []) ≡ count_in f l + f t = weigh_snoc f l t in omega arith

-- A weight of the accesses is at most another.
pub weigh_most : {A : Type 0} → (f g : Action A → ℕ) → ((t : Action A) → f t ≤ g t) → (l : List (Action A)) → count_in f l ≤ count_in g l
unfolding count_in
weigh_most f g all [] = omega arith
weigh_most f g all (x ∷ l) = let a : f x ≤ g x = all x in let b : count_in f l ≤ count_in g l = weigh_most f g all l in omega arith

pub tally_most : (n : ℕ) (f g : ℕ → ℕ) → ((p : ℕ) → p < n → f p ≤ g p) → sum_below n f ≤ sum_below n g
unfolding sum_below
tally_most zero f g all = omega arith
tally_most (suc n) f g all = let a : sum_below n f ≤ sum_below n g = tally_most n f g (λ p lt. all p (omega arith)) in let b : f n ≤ g n = all n (omega arith) in omega arith

pub tally_same : (n : ℕ) (f g : ℕ → ℕ) → ((p : ℕ) → p < n → f p ≡ g p) → sum_below n f ≡ sum_below n g
unfolding sum_below
tally_same zero f g all = refl
tally_same (suc n) f g all = let a : sum_below n f ≡ sum_below n g = tally_same n f g (λ p lt. all p (omega arith)) in let b : f n ≡ g n = all n (omega arith) in omega arith

pub tally_zero : (n : ℕ) (f : ℕ → ℕ) → ((p : ℕ) → p < n → f p ≡ 0) → sum_below n f ≡ 0
unfolding sum_below
tally_zero zero f all = refl
tally_zero (suc n) f all = let a : sum_below n f ≡ 0 = tally_zero n f (λ p lt. all p (omega arith)) in let b : f n ≡ 0 = all n (omega arith) in omega arith

pub tally_sum : (n : ℕ) (f g : ℕ → ℕ) → sum_below n (λ p. f p + g p) ≡ sum_below n f + sum_below n g
unfolding sum_below
tally_sum zero f g = refl
tally_sum (suc n) f g = let a : sum_below n (λ p. f p + g p) ≡ sum_below n f + sum_below n g = tally_sum n f g in omega arith

-- Sums in either order.
pub tally_turned : (n m : ℕ) (f : ℕ → ℕ → ℕ) → sum_below n (λ b. sum_below m (λ p. f p b)) ≡ sum_below m (λ p. sum_below n (λ b. f p b))
unfolding sum_below
tally_turned n zero f = tally_zero n (λ b. 0) (λ p lt. refl)
tally_turned n (suc m) f = let a : sum_below n (λ b. sum_below m (λ p. f p b) + f m b) ≡ sum_below n (λ b. sum_below m (λ p. f p b)) + sum_below n (λ b. f m b) = tally_sum n (λ b. sum_below m (λ p. f p b)) (λ b. f m b) in
    let e : sum_below n (λ b. sum_below m (λ p. f p b)) ≡ sum_below m (λ p. sum_below n (λ b. f p b)) = tally_turned n m f in omega arith

pub weigh_turned : {A : Type 0} → (n : ℕ) (f : ℕ → Action A → ℕ) (l : List (Action A)) → sum_below n (λ b. count_in (f b) l) ≡ count_in (λ t. sum_below n (λ b. f b t)) l
unfolding count_in
weigh_turned n f [] = tally_zero n (λ b. 0) (λ p lt. refl)
weigh_turned n f (x ∷ l) = tally_sum n (λ b. f b x) (λ b. count_in (f b) l) ∙ (let e : sum_below n (λ b. count_in (f b) l) ≡ count_in (λ t. sum_below n (λ b. f b t)) l = weigh_turned n f l in ap (λ k. sum_below n (λ b. f b x) + k) e)

-- One peer did one access more.
pub weigh_here : {A : Type 0} → (f : Action A → ℕ) (acc next : ℕ → List (Action A)) (p : ℕ) (t : Action A) → Appends acc next p t → count_in f (next p) ≡ count_in f (acc p) + f t
weigh_here f acc next p t g = ap (count_in f) g.here ∙ weigh_snoc f (acc p) t

pub weigh_else : {A : Type 0} → (f : Action A → ℕ) (acc next : ℕ → List (Action A)) (p q : ℕ) (t : Action A) → Appends acc next p t → q ≢ p → count_in f (next q) ≡ count_in f (acc q)
weigh_else f acc next p q t g ne = ap (count_in f) (g.neighbour_word q ne)

pub weigh_still : {A : Type 0} → (f : Action A → ℕ) (acc next : ℕ → List (Action A)) (p q : ℕ) (t : Action A) → Appends acc next p t → f t ≡ 0 → count_in f (next q) ≡ count_in f (acc q)
weigh_still f acc next p q t g none = dite (ℕ_discrete q p)
    (λ e. let h : count_in f (next p) ≡ count_in f (acc p) + f t = weigh_here f acc next p t g in let same : count_in f (next p) ≡ count_in f (acc p) = omega arith in subst (λ k. count_in f (next k) ≡ count_in f (acc k)) (sym e) same)
    (λ ne. weigh_else f acc next p q t g ne)

tally_before : {A : Type 0} → (n : ℕ) (f : Action A → ℕ) (acc next : ℕ → List (Action A)) (p : ℕ) (t : Action A) → Appends acc next p t → n ≤ p → sum_below n (λ q. count_in f (next q)) ≡ sum_below n (λ q. count_in f (acc q))
tally_before n f acc next p t g le = tally_same n _ _ (λ q lt. weigh_else f acc next p q t g (λ e. omega arith))

pub tally_grows : {A : Type 0} → (n : ℕ) (f : Action A → ℕ) (acc next : ℕ → List (Action A)) (p : ℕ) (t : Action A) → Appends acc next p t → p < n → sum_below n (λ q. count_in f (next q)) ≡ sum_below n (λ q. count_in f (acc q)) + f t
unfolding sum_below
tally_grows zero f acc next p t g lt = absurd (omega arith)
tally_grows (suc n) f acc next p t g lt = dite (ℕ_discrete n p)
    (λ e. let a : sum_below n (λ q. count_in f (next q)) ≡ sum_below n (λ q. count_in f (acc q)) = tally_before n f acc next p t g (omega arith) in
    let b : count_in f (next n) ≡ count_in f (acc n) + f t = subst (λ k. count_in f (next k) ≡ count_in f (acc k) + f t) (sym e) (weigh_here f acc next p t g) in omega arith)
    (λ ne. let a : sum_below n (λ q. count_in f (next q)) ≡ sum_below n (λ q. count_in f (acc q)) + f t = tally_grows n f acc next p t g (omega arith) in
    let b : count_in f (next n) ≡ count_in f (acc n) = weigh_else f acc next p n t g ne in omega arith)

-- The weights of an access to the region.
pub rings_accessed : {A : Type 0} → (target bit : ℕ) (t : A) → rings_bit target bit (accessed t) ≡ 0
unfolding rings_bit
rings_accessed target bit t = refl

pub aims_accessed : {A : Type 0} → (target : ℕ) (t : A) → rings_target target (accessed t) ≡ 0
unfolding rings_target
aims_accessed target t = refl

pub finds_accessed : {A : Type 0} → (bit : ℕ) (t : A) → finds_bit bit (accessed t) ≡ 0
unfolding finds_bit
finds_accessed bit t = refl

pub wins_accessed : {A : Type 0} → (target : ℕ) (t : A) → clears_set_bit target (accessed t) ≡ 0
unfolding clears_set_bit
wins_accessed target t = refl

-- Of a ring.
pub rings_same : (A : Type 0) → (target bit k : ℕ) → rings_bit {A = A} target bit (rang target k) ≡ one_if (k == bit)
unfolding rings_bit
rings_same A target bit k = ap (λ (b : Bool). one_if (b && (k == bit))) (eq-eqb target target refl)

pub rings_here : (A : Type 0) → (target bit : ℕ) → rings_bit {A = A} target bit (rang target bit) ≡ 1
unfolding rings_bit
rings_here A target bit = ap (λ (b : Bool). one_if (b && (bit == bit))) (eq-eqb target target refl) ∙ ap (λ (b : Bool). one_if b) (eq-eqb bit bit refl)

pub finds_rang : (A : Type 0) → (bit at b : ℕ) → finds_bit {A = A} bit (rang at b) ≡ 0
unfolding finds_bit
finds_rang A bit at b = refl

pub wins_rang : (A : Type 0) → (target at b : ℕ) → clears_set_bit {A = A} target (rang at b) ≡ 0
unfolding clears_set_bit
wins_rang A target at b = refl

pub aims_here : (A : Type 0) → (target b : ℕ) → rings_target {A = A} target (rang target b) ≡ 1
unfolding rings_target
aims_here A target b = ap (λ (c : Bool). one_if c) (eq-eqb target target refl)

pub aims_else : (A : Type 0) → (target at b : ℕ) → at ≢ target → rings_target {A = A} target (rang at b) ≡ 0
unfolding rings_target
aims_else A target at b ne = ap (λ (c : Bool). one_if c) (ne_eqb at target ne)

-- Of a look.
pub finds_looked : (A : Type 0) → (bit found : ℕ) → finds_bit {A = A} bit (looked found) ≡ bit_at found bit
unfolding finds_bit
finds_looked A bit found = refl

pub rings_looked : (A : Type 0) → (target bit found : ℕ) → rings_bit {A = A} target bit (looked found) ≡ 0
unfolding rings_bit
rings_looked A target bit found = refl

pub aims_looked : (A : Type 0) → (target found : ℕ) → rings_target {A = A} target (looked found) ≡ 0
unfolding rings_target
aims_looked A target found = refl

pub wins_looked : (A : Type 0) → (target found : ℕ) → clears_set_bit {A = A} target (looked found) ≡ 0
unfolding clears_set_bit
wins_looked A target found = refl

-- Of a clear.
pub finds_cleared : (A : Type 0) → (bit at found : ℕ) → finds_bit {A = A} bit (cleared at found) ≡ 0
unfolding finds_bit
finds_cleared A bit at found = refl

pub rings_cleared : (A : Type 0) → (target bit at found : ℕ) → rings_bit {A = A} target bit (cleared at found) ≡ 0
unfolding rings_bit
rings_cleared A target bit at found = refl

pub aims_cleared : (A : Type 0) → (target at found : ℕ) → rings_target {A = A} target (cleared at found) ≡ 0
unfolding rings_target
aims_cleared A target at found = refl

pub wins_here : (A : Type 0) → (target found : ℕ) → clears_set_bit {A = A} target (cleared target found) ≡ bit_at found 0
unfolding clears_set_bit
wins_here A target found = ap (λ (c : Bool). if c then bit_at found 0 else 0) (eq-eqb target target refl)

pub wins_else : (A : Type 0) → (target at found : ℕ) → at ≢ target → clears_set_bit {A = A} target (cleared at found) ≡ 0
unfolding clears_set_bit
wins_else A target at found ne = ap (λ (c : Bool). if c then bit_at found 0 else 0) (ne_eqb at target ne)

-- Of clears, whatever they found.
pub strikes_accessed : {A : Type 0} → (target : ℕ) (t : A) → clears_target target (accessed t) ≡ 0
unfolding clears_target
strikes_accessed target t = refl

pub strikes_rang : (A : Type 0) → (target at b : ℕ) → clears_target {A = A} target (rang at b) ≡ 0
unfolding clears_target
strikes_rang A target at b = refl

pub strikes_looked : (A : Type 0) → (target found : ℕ) → clears_target {A = A} target (looked found) ≡ 0
unfolding clears_target
strikes_looked A target found = refl

pub strikes_here : (A : Type 0) → (target found : ℕ) → clears_target {A = A} target (cleared target found) ≡ 1
unfolding clears_target
strikes_here A target found = ap (λ (c : Bool). one_if c) (eq-eqb target target refl)

pub strikes_else : (A : Type 0) → (target at found : ℕ) → at ≢ target → clears_target {A = A} target (cleared at found) ≡ 0
unfolding clears_target
strikes_else A target at found ne = ap (λ (c : Bool). one_if c) (ne_eqb at target ne)

-- Of rings of another bit, or at another target.
pub rings_else : (A : Type 0) → (target bit k : ℕ) → k ≢ bit → rings_bit {A = A} target bit (rang target k) ≡ 0
rings_else A target bit k ne = rings_same A target bit k ∙ ap (λ (c : Bool). one_if c) (ne_eqb k bit ne)

pub rings_off : (A : Type 0) → (target bit at k : ℕ) → at ≢ target → rings_bit {A = A} target bit (rang at k) ≡ 0
unfolding rings_bit
rings_off A target bit at k ne = ap (λ (c : Bool). one_if (c && (k == bit))) (ne_eqb at target ne)

-- A ring is of one bit.
no_bit : (n b : ℕ) → n ≤ b → sum_below n (λ bit. one_if (b == bit)) ≡ 0
no_bit n b le = tally_zero n _ (λ p lt. ap (λ (x : Bool). one_if x) (ne_eqb b p (λ e. omega arith)))

one_bit : (n b : ℕ) → sum_below n (λ bit. one_if (b == bit)) ≤ 1
unfolding sum_below
one_bit zero b = omega arith
one_bit (suc n) b = dite (ℕ_discrete b n)
    (λ e. let none : sum_below n (λ bit. one_if (b == bit)) ≡ 0 = no_bit n b (omega arith) in let one : one_if (b == n) ≡ 1 = ap (λ (x : Bool). one_if x) (eq-eqb b n e) in omega arith)
    (λ ne. let few : sum_below n (λ bit. one_if (b == bit)) ≤ 1 = one_bit n b in let none : one_if (b == n) ≡ 0 = ap (λ (x : Bool). one_if x) (ne_eqb b n ne) in omega arith)

of_bits : (n b : ℕ) (c : Bool) → sum_below n (λ bit. one_if (c && (b == bit))) ≤ one_if c
of_bits n b true = one_bit n b
of_bits n b false = let e : sum_below n (λ bit. 0) ≡ 0 = tally_zero n _ (λ p lt. refl) in omega arith

pub rings_bits : {A : Type 0} → (n target : ℕ) (t : Action A) → sum_below n (λ bit. rings_bit target bit t) ≤ rings_target target t
unfolding rings_bit rings_target
rings_bits n target (accessed t) = let e : sum_below n (λ bit. 0) ≡ 0 = tally_zero n _ (λ p lt. refl) in omega arith
rings_bits n target (looked found) = let e : sum_below n (λ bit. 0) ≡ 0 = tally_zero n _ (λ p lt. refl) in omega arith
rings_bits n target (cleared at found) = let e : sum_below n (λ bit. 0) ≡ 0 = tally_zero n _ (λ p lt. refl) in omega arith
rings_bits n target (rang at b) = of_bits n b (at == target)

-- Each ring of a list comes after a clear, and so does each ring of the list with one more action.
pub behind_none : (A : Type 0) → (target : ℕ) → FollowsClears {A = A} target []
unfolding count_in
behind_none A target zero = omega arith
behind_none A target (suc n) = omega arith

pub behind_all : {A : Type 0} → (target : ℕ) (l : List (Action A)) → FollowsClears target l → count_in (rings_target target) l ≤ count_in (clears_set_bit target) l
behind_all target l b = subst (λ k. count_in (rings_target target) k ≤ count_in (clears_set_bit target) k) (take_all (length l) l (omega arith)) (b (length l))

pub behind_snoc : {A : Type 0} → (target : ℕ) (l : List (Action A)) (t : Action A) → FollowsClears target l → count_in (rings_target target) (l ++ t ∷ []) ≤ count_in (clears_set_bit target) (l ++ t ∷ []) → FollowsClears target (l ++ t ∷ [])
behind_snoc target l t b last = λ n. dite (dec_le n (length l))
    (λ le. subst (λ k. count_in (rings_target target) k ≤ count_in (clears_set_bit target) k) (sym (take-append-le n l (t ∷ []) le)) (b n))
    (λ gt. subst (λ k. count_in (rings_target target) k ≤ count_in (clears_set_bit target) k) (sym (take_all n (l ++ t ∷ []) (longer l t n gt))) last)
  where
    size : {A : Type 0} → (l : List (Action A)) (t : Action A) → length (l ++ t ∷ []) ≡ suc (length l)
    size [] t = refl
    size (x ∷ l) t = ap suc (size l t)

    longer : {A : Type 0} → (l : List (Action A)) (t : Action A) (n : ℕ) → (n ≤ length l → ⊥) → length (l ++ t ∷ []) ≤ n
    longer l t n gt = let e : length (l ++ t ∷ []) ≡ suc (length l) = size l t in omega arith

pub weigh_append : {A : Type 0} → (f : Action A → ℕ) (l m : List (Action A)) → count_in f (l ++ m) ≡ count_in f l + count_in f m
unfolding count_in
weigh_append f [] m = omega arith
weigh_append f (x ∷ l) m = let e : count_in f (l ++ m) ≡ count_in f l + count_in f m = weigh_append f l m in omega arith

pub weigh_one : {A : Type 0} → (f : Action A → ℕ) (t : Action A) → count_in f (t ∷ []) ≡ f t
unfolding count_in
weigh_one f t = omega arith

pub tally_first : (n : ℕ) (f : ℕ → ℕ) → sum_below (suc n) f ≡ f 0 + sum_below n (λ p. f (suc p))
unfolding sum_below
tally_first zero f = omega arith
tally_first (suc n) f = let e : sum_below n f + f n ≡ f 0 + sum_below n (λ p. f (suc p)) = tally_first n f in omega arith

pub tally_has : (n k : ℕ) (f : ℕ → ℕ) → k < n → f k ≤ sum_below n f
unfolding sum_below
tally_has zero k f lt = absurd (omega arith)
tally_has (suc n) k f lt = dite (ℕ_discrete k n) (λ e. let h : f k ≡ f n = ap f e in omega arith) (λ ne. let h : f k ≤ sum_below n f = tally_has n k f (omega arith) in omega arith)
