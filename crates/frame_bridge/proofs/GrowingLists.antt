-- Lists that grow at their end: the elements before a first one, what is found from the end, and
-- the number of distinct elements.
use Rattle.std.proofs.Common.{◌≡◌, ℕ, ◌+◌, ◌≤◌, Bool, true, false, List, [], ◌∷◌, ◌++◌, length, cond, not, ◌||◌, refl, sym, ap, ◌∙◌, arith, append_assoc}
use Rattle.std.specs.Prelude.{Option, Some, is_some, reverse}
use Rattle.std.specs.List.{list_any, find, before_first}
use Rattle.std.specs.Cmp.{IsEquivalence}
use Rattle.std.specs.Set.{distinct_count, is_member, unique_keys}
use Rattle.std.proofs.lemmas.List.{append-nil, reverse-append}
use Rattle.std.proofs.lemmas.List.Folds.{list_any-append}
use Rattle.std.proofs.lemmas.List.Sums.{take_while-cons}
use Rattle.std.proofs.lemmas.Map.Steps.{list_any_congr}

-- Before the first

other_way : {A : Type 0} (b : Bool) (u v : List A) → cond (not b) u v ≡ cond b v u
other_way true u v = refl
other_way false u v = refl

first_cons : {A : Type 0} (p : A → Bool) (x : A) (xs : List A) → before_first p (x ∷ xs) ≡ cond (p x) [] (x ∷ before_first p xs)
first_cons p x xs = take_while-cons (λ y. not (p y)) x xs ∙ other_way (p x) (x ∷ before_first p xs) []

pub or_right : (b c : Bool) → (b || c) ≡ true → b ≡ false → c ≡ true
or_right true c h e = absurd (cc)
or_right false c h e = h

pub or_left_false : (b c : Bool) → (b || c) ≡ false → b ≡ false
or_left_false true c h = h
or_left_false false c h = refl

pub or_right_false : (b c : Bool) → (b || c) ≡ false → c ≡ false
or_right_false true c h = absurd (cc)
or_right_false false c h = h

pub or_false : (b : Bool) → (b || false) ≡ b
or_false true = refl
or_false false = refl

pub or_true : (b : Bool) → (b || true) ≡ true
or_true true = refl
or_true false = refl

either : {A : Type 0} (b : Bool) (u v : List A) (x : A) → (b ≡ false → u ≡ v) → cond b [] (x ∷ u) ≡ cond b [] (x ∷ v)
either true u v x f = refl
either {A} false u v x f = ap (λ (l : List A). x ∷ l) (f refl)

pub first_seen : {A : Type 0} (p : A → Bool) (xs ys : List A) → list_any p xs ≡ true → before_first p (xs ++ ys) ≡ before_first p xs
first_seen p [] ys seen = absurd (cc)
first_seen p (x ∷ xs) ys seen =
    first_cons p x (xs ++ ys) ∙
    (either (p x) (before_first p (xs ++ ys)) (before_first p xs) x (λ here. first_seen p xs ys (or_right (p x) (list_any p xs) seen here)) ∙
    sym (first_cons p x xs))

not_here : {A : Type 0} (b : Bool) (u v : List A) → b ≡ false → cond b u v ≡ v
not_here true u v e = absurd (cc)
not_here false u v e = refl

pub first_new : {A : Type 0} (p : A → Bool) (xs : List A) (x : A) → list_any p xs ≡ false → before_first p (xs ++ x ∷ []) ≡ xs ++ cond (p x) [] (x ∷ [])
first_new p [] x new = first_cons p x []
first_new {A} p (y ∷ ys) x new =
    first_cons p y (ys ++ x ∷ []) ∙
    (not_here (p y) [] (y ∷ before_first p (ys ++ x ∷ [])) (or_left_false (p y) (list_any p ys) new) ∙
    ap (λ (l : List A). y ∷ l) (first_new p ys x (or_right_false (p y) (list_any p ys) new)))

-- The elements before the first one are a prefix.
pub first_begins : {A : Type 0} (p : A → Bool) (xs : List A) → (rest : List A) × (before_first p xs ++ rest ≡ xs)
first_begins p [] = ([], refl)
first_begins {A} p (x ∷ xs) =
    let begins = first_begins p xs in
    let by : (b : Bool) → (rest : List A) × (cond b [] (x ∷ before_first p xs) ++ rest ≡ x ∷ xs) =
    λ b. elim b as (λ c. (rest : List A) × (cond c [] (x ∷ before_first p xs) ++ rest ≡ x ∷ xs))
    [ true ↦ (x ∷ xs, refl) | false ↦ (begins.0, ap (λ (l : List A). x ∷ l) begins.1) ] in
    let found = by (p x) in
    (found.0, ap (λ (l : List A). l ++ found.0) (first_cons p x xs) ∙ found.1)

-- From the end

is_some_cond : {A : Type 0} (b : Bool) (x : A) (o : Option A) → is_some (cond b (Some x) o) ≡ (b || is_some o)
is_some_cond true x o = refl
is_some_cond false x o = refl

pub is_some_find : {A : Type 0} (p : A → Bool) (xs : List A) → is_some (find p xs) ≡ list_any p xs
is_some_find p [] = refl
is_some_find p (x ∷ xs) = is_some_cond (p x) x (find p xs) ∙ ap (λ (b : Bool). p x || b) (is_some_find p xs)

or_swap : (b c : Bool) → (b || c) ≡ (c || b)
or_swap true c = sym (or_true c)
or_swap false c = sym (or_false c)

pub any_reverse : {A : Type 0} (p : A → Bool) (xs : List A) → list_any p (reverse xs) ≡ list_any p xs
any_reverse p [] = refl
any_reverse p (x ∷ xs) =
    ap (list_any p) (reverse-append (x ∷ []) xs) ∙
    (list_any-append p (reverse xs) (x ∷ []) ∙
    (ap (λ (b : Bool). b || (p x || false)) (any_reverse p xs) ∙ (ap (λ (b : Bool). list_any p xs || b) (or_false (p x)) ∙ or_swap (list_any p xs) (p x))))

-- Distinct ones

-- 1 if it is false.
abbrev pub unless : Bool → ℕ
unless b = cond b 0 1

length_cond : {K : Type 0} (b : Bool) (x : K) (u : List K) → length (cond b u (x ∷ u)) ≡ length u + unless b
length_cond true x u = omega arith
length_cond false x u = omega arith

counts : (m n b : Bool) → (b ≡ true → m ≡ n) → unless n + unless (m || (b || false)) ≡ unless m + unless (b || n)
counts true true b f = elim b as (λ (c : Bool). unless true + unless (true || (c || false)) ≡ unless true + unless (c || true)) [ true ↦ refl | false ↦ refl ]
counts false false b f = elim b as (λ (c : Bool). unless false + unless (false || (c || false)) ≡ unless false + unless (c || false)) [ true ↦ refl | false ↦ refl ]
counts true false true f = let e : true ≡ false = f refl in absurd (cc)
counts true false false f = refl
counts false true true f = let e : false ≡ true = f refl in absurd (cc)
counts false true false f = refl

module _ {K : Type 0} {e : K → K → Bool} (laws : IsEquivalence e) where
  distinct_cons : (x : K) (xs : List K) → distinct_count e (x ∷ xs) ≡ distinct_count e xs + unless (is_member e xs x)
  distinct_cons x xs = length_cond (is_member e xs x) x (unique_keys e xs)

  -- One more counts if it isn't in the list yet.
  pub distinct_snoc : (xs : List K) (y : K) → distinct_count e (xs ++ y ∷ []) ≡ distinct_count e xs + unless (is_member e xs y)
  distinct_snoc [] y = refl
  distinct_snoc (x ∷ xs) y =
      let here : distinct_count e ((x ∷ xs) ++ y ∷ []) ≡ distinct_count e (xs ++ y ∷ []) + unless (is_member e (xs ++ y ∷ []) x) = distinct_cons x (xs ++ y ∷ []) in
      let without : distinct_count e (x ∷ xs) ≡ distinct_count e xs + unless (is_member e xs x) = distinct_cons x xs in
      let more : distinct_count e (xs ++ y ∷ []) ≡ distinct_count e xs + unless (is_member e xs y) = distinct_snoc xs y in
      let member : is_member e (xs ++ y ∷ []) x ≡ (is_member e xs x || (e x y || false)) = list_any-append (e x) xs (y ∷ []) in
      let member_is : unless (is_member e (xs ++ y ∷ []) x) ≡ unless (is_member e xs x || (e x y || false)) = ap (λ (b : Bool). unless b) member in
      let both : unless (is_member e xs y) + unless (is_member e xs x || (e x y || false)) ≡ unless (is_member e xs x) + unless (e x y || is_member e xs y) =
      counts (is_member e xs x) (is_member e xs y) (e x y) (list_any_congr laws x y xs) in
      let turned : unless (e x y || is_member e xs y) ≡ unless (is_member e (x ∷ xs) y) = ap (λ (b : Bool). unless (b || is_member e xs y)) (laws.symm x y) in
      omega (arith, here, without, more, member_is, both, turned)

  -- A prefix has no more.
  pub distinct_grows : (xs ys : List K) → distinct_count e xs ≤ distinct_count e (xs ++ ys)
  distinct_grows xs [] = let same : distinct_count e (xs ++ []) ≡ distinct_count e xs = ap (λ (l : List K). distinct_count e l) (append-nil xs) in omega arith
  distinct_grows xs (y ∷ ys) =
      let more = distinct_snoc xs y in
      let later = distinct_grows (xs ++ y ∷ []) ys in
      let same : distinct_count e ((xs ++ y ∷ []) ++ ys) ≡ distinct_count e (xs ++ y ∷ ys) = ap (λ (l : List K). distinct_count e l) (append_assoc xs (y ∷ []) ys) in
      omega arith
