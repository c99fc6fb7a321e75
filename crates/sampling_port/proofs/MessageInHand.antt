-- The bytes of the message in hand, word by word.
use Rattle.std.proofs.Common.{◌≡◌, ℕ, ◌+◌, ◌-◌, ◌≤◌, List, ◌++◌, length, take, arith, ap, sym, ◌∙◌}
use Rattle.std.proofs.Math.Seq.{take-append-add}

-- The bytes so far and the start of one more word are a prefix of both.
pub first_bytes : (hand word : List ℕ) (bytes : ℕ) → length hand ≤ bytes → hand ++ take (bytes - length hand) word ≡ take bytes (hand ++ word)
first_bytes hand word bytes within =
    let whole : length hand + (bytes - length hand) ≡ bytes = omega arith in
    sym (take-append-add hand word (bytes - length hand)) ∙ ap (λ n. take n (hand ++ word)) whole
