-- Digits of a wrong number spell no bytes that fit.
use Rattle.std.proofs.Common.{◌≡◌, ℕ, ◌/◌, Bool, true, false, cond, List, length, Option, Some, None, Result, Ok, Err, refl, sym, ap, ◌∙◌, arith}
use Rattle.std.specs.Prelude.{IfOk, option_and_then, option_map}
use Rattle.line_format.specs.Forms.{hex_bytes}
use Rattle.line_format.proofs.HexDigits.{hex_bytes-length}

abbrev pub sized : (ℕ → Bool) → Option (List ℕ) → Option (List ℕ)
sized test o = option_and_then (λ bytes. cond (test (length bytes)) (Some bytes) None) o

half : (digits bytes : List ℕ) → hex_bytes digits ≡ Some bytes → length digits / 2 ≡ length bytes
half digits bytes is = let two = hex_bytes-length digits bytes is in omega arith

pub no_bytes : (test : ℕ → Bool) (digits : List ℕ) → test (length digits / 2) ≡ false → None ≡ sized test (hex_bytes digits)
no_bytes test digits wrong =
    elim (hex_bytes digits) as (λ o. hex_bytes digits ≡ o → None ≡ sized test o) [
      | Some bytes ↦ λ is. let w : test (length bytes) ≡ false = ap test (sym (half digits bytes is)) ∙ wrong in rw w refl
      | None ↦ λ is. refl
    ] refl

the_bytes : (test : ℕ → Bool) (digits : List ℕ) → test (length digits / 2) ≡ true → hex_bytes digits ≡ sized test (hex_bytes digits)
the_bytes test digits right =
    elim (hex_bytes digits) as (λ o. hex_bytes digits ≡ o → o ≡ sized test o) [
      | Some bytes ↦ λ is. let r : test (length bytes) ≡ true = ap test (sym (half digits bytes is)) ∙ right in rw r refl
      | None ↦ λ is. refl
    ] refl

-- The value that is read if the number of digits fits.
pub sized_is : {V U : Type 0} (test : ℕ → Bool) (digits : List ℕ) (view : V → List ℕ) (r : Result (Option V) U) → test (length digits / 2) ≡ true → IfOk r (λ o. option_map view o ≡ hex_bytes digits)
    → IfOk r (λ o. option_map view o ≡ sized test (hex_bytes digits))
sized_is test digits view (Ok o) right is = is ∙ the_bytes test digits right
sized_is test digits view (Err e) right is = tt
