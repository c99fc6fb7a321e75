-- The ports to which a frame goes, port by port.
use Rattle.std.proofs.Common.{◌≡◌, ℕ, zero, suc, ◌+◌, ◌≤◌, Bool, true, false, [], ◌∷◌, ◌++◌, length, cond, ap, ◌∙◌, arith, length-append, add-one}
use Rattle.std.specs.Prelude.{filter}
use Rattle.std.proofs.lemmas.List.{append-nil}
use Rattle.std.proofs.lemmas.List.Elements.{filter-append}
use Rattle.frame_bridge.specs.Forwarding.{first_ports}

one_more : (p : ℕ → Bool) (n : ℕ) → filter p (first_ports (n + 1)) ≡ filter p (first_ports n) ++ cond (p n) (n ∷ []) []
one_more p n = ap (λ (m : ℕ). filter p (first_ports m)) (add-one n) ∙ filter-append p (first_ports n) (n ∷ [])

pub ports_more : (p : ℕ → Bool) (n : ℕ) → p n ≡ true → filter p (first_ports (n + 1)) ≡ filter p (first_ports n) ++ n ∷ []
ports_more p n goes = one_more p n ∙ ap (λ (b : Bool). filter p (first_ports n) ++ cond b (n ∷ []) []) goes

pub ports_less : (p : ℕ → Bool) (n : ℕ) → p n ≡ false → filter p (first_ports (n + 1)) ≡ filter p (first_ports n)
ports_less p n stays = one_more p n ∙ (ap (λ (b : Bool). filter p (first_ports n) ++ cond b (n ∷ []) []) stays ∙ append-nil (filter p (first_ports n)))

short_cond : (b : Bool) (n : ℕ) → length (cond b (n ∷ []) []) ≤ 1
short_cond true n = omega arith
short_cond false n = omega arith

pub ports_fit : (p : ℕ → Bool) (n : ℕ) → length (filter p (first_ports n)) ≤ n
ports_fit p zero = omega arith
ports_fit p (suc n) =
    let parts : length (filter p (first_ports (suc n))) ≡ length (filter p (first_ports n)) + length (cond (p n) (n ∷ []) []) =
    ap length (filter-append p (first_ports n) (n ∷ [])) ∙ length-append (filter p (first_ports n)) (cond (p n) (n ∷ []) []) in
    omega (arith, parts, short_cond (p n) n, ports_fit p n)
