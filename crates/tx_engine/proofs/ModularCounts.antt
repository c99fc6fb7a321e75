-- Counts of frames, modulo a size.
use Rattle.std.proofs.Common.{◌≡◌, ℕ, zero, suc, ◌+◌, ◌-◌, ◌*◌, ◌/◌, ◌%◌, ◌≤◌, arith, ap, sym, ◌∙◌}
use Rattle.std.proofs.Math.Nat.{mod-add-mod, mod-mod_of_dvd, dvd_iff_mod-eq-zero, add-mul-mod_self_left, add-mod_right, div-add-mod, mul-suc, mul-zero}

fewer_turns : (c turns rest by : ℕ) → by ≤ c → by ≤ c * turns + rest → (rest + c - by) % c ≡ (c * turns + rest - by) % c
fewer_turns c zero rest by turn within =
    let none = mul-zero c in
    let same : c * zero + rest - by ≡ rest - by = omega (arith, none) in
    let more : rest + c - by ≡ rest - by + c = omega (arith, none) in
    ap (λ n. n % c) more ∙ (add-mod_right (rest - by) c ∙ sym (ap (λ n. n % c) same))
fewer_turns c (suc turns) rest by turn within =
    let one = mul-suc c turns in
    let same : c * suc turns + rest - by ≡ rest + c - by + c * turns = omega (arith, one) in
    sym (ap (λ n. n % c) same ∙ add-mul-mod_self_left (rest + c - by) c turns)

-- The remainder of a number that is less by `by`, from the number's remainder.
pub fewer : (number c by : ℕ) → by ≤ number → by ≤ c → (number % c + c - by) % c ≡ (number - by) % c
fewer number c by within turn =
    let whole = div-add-mod number c in
    fewer_turns c (number / c) (number % c) by turn (omega arith) ∙ ap (λ n. (n - by) % c) whole

-- The remainder by a divisor of `m`, from the remainder by `m`.
pub once : (number m n : ℕ) → m % n ≡ 0 → number % m % n ≡ number % n
once number m n divides = mod-mod_of_dvd n {b = m} number ((dvd_iff_mod-eq-zero n {n = m}).1 divides)

-- The remainder of the next number.
pub one_more : (number c : ℕ) → (number % c + 1) % c ≡ (number + 1) % c
one_more number c = mod-add-mod number c 1
