-- Numbers modulo 65,536, in rings whose size divides 65,536.
use Rattle.std.proofs.Common.{◌≡◌, ℕ, ◌%◌, arith}
use Rattle.std.proofs.lemmas.Nat.Gcd.{dvd_of_mod-eq-zero}
use Rattle.std.proofs.Math.Nat.{mod-mod_of_dvd}

-- The position in the ring, from the number modulo 65,536.
pub ring_place : (number size : ℕ) → 65536 % size ≡ 0 → number % 65536 % size ≡ number % size
ring_place number size divides = mod-mod_of_dvd size number (dvd_of_mod-eq-zero size divides)

-- The position in the ring is even exactly if the number is even.
pub ring_parity : (number size : ℕ) → size % 64 ≡ 0 → number % 65536 % 2 ≡ number % size % 2
ring_parity number size whole =
    let even : size % 2 ≡ 0 = omega arith in
    let half : number % size % 2 ≡ number % 2 = mod-mod_of_dvd 2 number (dvd_of_mod-eq-zero 2 even) in
    omega arith
