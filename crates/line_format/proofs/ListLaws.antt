-- Lists whose items are all allowed, and sums over lists.
use Rattle.std.proofs.Common.{◌≡◌, ℕ, ◌+◌, ◌≤◌, List, [], ◌∷◌, ◌++◌, sym, ap, ◌∙◌, append_assoc, arith}
use Rattle.std.specs.Prelude.{All}
use Rattle.std.specs.List.{AllByRecursion, sum_by}
use Rattle.std.proofs.lemmas.List.Elements.{All-append, All-head, All-tail, recursion_from_All, All-from_recursion}
use Rattle.std.proofs.lemmas.List.Sums.{sum_by_push, sum_by-append}

each : {A : Type 0} (P Q : A → Type 0) → ((a : A) → P a → Q a) → (items : List A) → AllByRecursion P items → AllByRecursion Q items
each P Q gives [] all = tt
each P Q gives (a ∷ items) all = (gives a all.0, each P Q gives items all.1)

-- If P of an item gives Q of it, P of all items and of one more gives Q of them.
pub all_push : {A : Type 0} (P Q : A → Type 0) → ((a : A) → P a → Q a) → (items : List A) (item : A) → All P items → P item → All Q (items ++ item ∷ [])
all_push P Q gives items item all is =
    All-append Q items (item ∷ []) (All-from_recursion Q items (each P Q gives items (recursion_from_All P items all))) (All-from_recursion Q (item ∷ []) (gives item is, tt))

-- An item of a list of allowed items is allowed.
pub all_at : {A : Type 0} (P : A → Type 0) (front rest : List A) (item : A) → All P (front ++ item ∷ rest) → P item
all_at P [] rest item all = All-head P item rest all
all_at P (x ∷ front) rest item all = all_at P front rest item (All-tail P x (front ++ item ∷ rest) all)

-- If the sum over a list is at most `most`, so is the sum up to an item.
pub sum_up_to : {A : Type 0} (f : A → ℕ) (items front rest : List A) (item : A) (most : ℕ) → items ≡ front ++ item ∷ rest → sum_by f items ≤ most → sum_by f front + f item ≤ most
sum_up_to {A} f items front rest item most is le =
    let here : sum_by f (front ++ item ∷ []) ≡ sum_by f front + f item = sum_by_push f front item in
    let all : sum_by f (front ++ item ∷ []) + sum_by f rest ≡ sum_by f items = sym (sum_by-append f (front ++ item ∷ []) rest) ∙ ap (sum_by f) (append_assoc front (item ∷ []) rest ∙ sym is) in
    omega (arith, here, all, le)
