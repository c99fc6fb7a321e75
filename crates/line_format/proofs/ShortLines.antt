-- A word and numbers as the fields of a line.
use Rattle.std.proofs.Common.{◌≡◌, ℕ, List, [], ◌∷◌, ◌++◌, append_assoc}
use Rattle.line_format.specs.Forms.{line_of}

pub one : (w a : List ℕ) → line_of (w ∷ a ∷ []) ++ 10 ∷ [] ≡ w ++ (32 ∷ (a ++ 10 ∷ []))
one w a = simp append_assoc

pub two : (w a b : List ℕ) → line_of (w ∷ a ∷ b ∷ []) ++ 10 ∷ [] ≡ w ++ (32 ∷ (a ++ (32 ∷ (b ++ 10 ∷ []))))
two w a b = simp append_assoc

pub three : (w a b c : List ℕ) → line_of (w ∷ a ∷ b ∷ c ∷ []) ++ 10 ∷ [] ≡ w ++ (32 ∷ (a ++ (32 ∷ (b ++ (32 ∷ (c ++ 10 ∷ []))))))
three w a b c = simp append_assoc

pub four : (w a b c d : List ℕ) → line_of (w ∷ a ∷ b ∷ c ∷ d ∷ []) ++ 10 ∷ [] ≡ w ++ (32 ∷ (a ++ (32 ∷ (b ++ (32 ∷ (c ++ (32 ∷ (d ++ 10 ∷ []))))))))
four w a b c d = simp append_assoc
