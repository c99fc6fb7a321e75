-- A range is cut in two, and two ranges are made one.
use Rattle.std.proofs.Common.{◌≡◌, ◌≢◌, ℕ, zero, suc, ◌+◌, ◌-◌, ◌<◌, ◌≤◌, ◌⊎◌, inl, inr, ⊎_elim, List, [], ◌∷◌, ◌++◌, length, set, take, drop, refl, sym, ap, ◌∙◌, subst, arith, length-append, length-drop}
use mathlib.Core.Option.{some, some-injective, some-ne-none}
use mathlib.Core.Logic.{dite}
use native.Mathlib.Decide.{dec_lt, dec_le}
use lib.ListN.{get_elem?}
use Rattle.std.proofs.lemmas.List.{length-set, length-take}
use Rattle.atomic_table.specs.Table.{Splits, Joins}
use Rattle.atomic_table.proofs.Lists.{at_set}
use Rattle.shared_words.specs.declared.run_setup.RunSetup.{RunSetup}
use Rattle.shared_words.specs.declared.view.View.{View}
use Rattle.shared_words.specs.DerivedStates.{CallAccess, MemoryOp}
use Rattle.shared_words.specs.Actions.{Action}
use Rattle.shared_words.specs.Rules.{Fits, TableInvariant, view, lower, upper, joined}

abbrev pick : {P Q : Type 0} → Dec P → Dec Q → ℕ → ℕ → ℕ
pick (yes _) (yes _) a b = a
pick (yes _) (no _) a b = b
pick (no _) _ a b = b

-- n is the holder of the peers from p on and below e, and each other peer keeps its holder.
moved : (ℕ → ℕ) → ℕ → ℕ → ℕ → ℕ → ℕ
moved f p e n q = pick (dec_le p q) (dec_lt q e) n (f q)

moved_in : (f : ℕ → ℕ) (p e n q : ℕ) → p ≤ q → q < e → moved f p e n q ≡ n
unfolding moved
moved_in f p e n q lo hi = go (dec_le p q) (dec_lt q e)
  where
    go : (a : Dec (p ≤ q)) (b : Dec (q < e)) → pick a b n (f q) ≡ n
    go (yes _) (yes _) = refl
    go (yes _) (no b) = absurd (b hi)
    go (no a) b = absurd (a lo)

moved_out : (f : ℕ → ℕ) (p e n q : ℕ) → (p ≤ q → q < e → ⊥) → moved f p e n q ≡ f q
unfolding moved
moved_out f p e n q out = go (dec_le p q) (dec_lt q e)
  where
    go : (a : Dec (p ≤ q)) (b : Dec (q < e)) → pick a b n (f q) ≡ f q
    go (yes a) (yes b) = absurd (out a b)
    go (yes _) (no b) = refl
    go (no a) b = refl

module _ {A : Type 0} where
  at_append : (l m : List A) (k : ℕ) (x : A) → get_elem? (l ++ m) k ≡ some x → (get_elem? l k ≡ some x) ⊎ ((i : ℕ) × (k ≡ length l + i) × (get_elem? m i ≡ some x))
  at_append [] m k x e = inr (k, omega arith, e)
  at_append (y ∷ l) m zero x e = inl e
  at_append (y ∷ l) m (suc k) x e = ⊎_elim inl (λ t. inr (t.0, (let h = t.1 in omega arith), t.2)) (at_append l m k x e)

  at_single : (a x : A) (i : ℕ) → get_elem? (a ∷ []) i ≡ some x → (i ≡ 0) × (a ≡ x)
  at_single a x zero e = (refl, some-injective _ _ e)
  at_single a x (suc i) e = absurd (some-ne-none x (sym e))

  at_take : (n : ℕ) (l : List A) (k : ℕ) (x : A) → get_elem? (take n l) k ≡ some x → get_elem? l k ≡ some x
  at_take zero l k x e = absurd (some-ne-none x (sym e))
  at_take (suc n) [] k x e = e
  at_take (suc n) (y ∷ l) zero x e = e
  at_take (suc n) (y ∷ l) (suc k) x e = at_take n l k x e

  at_drop : (n : ℕ) (l : List A) (k : ℕ) (x : A) → get_elem? (drop n l) k ≡ some x → get_elem? l (n + k) ≡ some x
  at_drop zero l k x e = let h : 0 + k ≡ k = omega arith in ap (get_elem? l) h ∙ e
  at_drop (suc n) [] k x e = absurd (some-ne-none x (sym e))
  at_drop (suc n) (y ∷ l) k x e = let h : suc n + k ≡ suc (n + k) = omega arith in ap (get_elem? (y ∷ l)) h ∙ at_drop n l k x e

-- The holder of each peer in the range of the holder `id` is `id`.
has_holder : (m : ℕ) (holder : ℕ → ℕ) (acc : ℕ → List (Action (MemoryOp CallAccess))) (id : ℕ) (v : View) (q : ℕ) → Fits m holder acc id v → v.from ≤ q → q < v.from + length v.lists → holder q ≡ id
has_holder m holder acc id v q f lo hi = let e : q ≡ v.from + (q - v.from) = omega arith in ap holder e ∙ f.mine (q - v.from) (omega arith)

-- The view of another holder j, when a range of peers goes from the holder `was` to the holder n.
beside : (m : ℕ) (holder : ℕ → ℕ) (acc : ℕ → List (Action (MemoryOp CallAccess))) (p e n was j : ℕ) (v : View) → ((q : ℕ) → p ≤ q → q < e → holder q ≡ was) → j ≢ was → Fits m holder acc j v → Fits m (moved holder p e n) acc j v
beside m holder acc p e n was j v all ne f = record {
  inside = f.inside;
  mine = λ k lt. moved_out holder p e n (v.from + k) (λ a b. ne (sym (f.mine k lt) ∙ all (v.from + k) a b)) ∙ f.mine k lt;
  known = f.known;
}

pub split_allowed : (key : RunSetup) (id from p : ℕ) (lists : List (List (Action (MemoryOp CallAccess)))) → from ≤ p → p ≤ from + length lists → Splits (TableInvariant key) id (view from lists) (lower p (view from lists)) (upper p (view from lists))
split_allowed key id from p lists lo hi s k at = record {
  holder = next;
  acc = k.acc;
  fits = λ j v e. ⊎_elim (λ h. ⊎_elim (λ t. subst (λ i. Fits key.geometry.peers next k.acc i v) (sym t.0) (subst (Fits key.geometry.peers next k.acc id) t.1 left)) (λ t. beside key.geometry.peers k.holder k.acc p end n id j v all t.0 (k.fits j v t.1)) (at_set s.views id j _ v h))
      (λ t. let last = at_single _ v t.0 t.2 in let i = last.0 in let h = t.1 in let same : j ≡ n = omega (arith, length-set s.views id (lower p (view from lists))) in subst (λ i. Fits key.geometry.peers next k.acc i v) (sym same) (subst (Fits key.geometry.peers next k.acc n) last.1 right))
      (at_append (set s.views id (lower p (view from lists))) _ j v e);
  fit = k.fit;
  memory = k.memory;
}
  where
    n : ℕ
    n = length s.views

    end : ℕ
    end = from + length lists

    next : ℕ → ℕ
    next = moved k.holder p end n

    was : Fits key.geometry.peers k.holder k.acc id (view from lists)
    was = k.fits id _ at

    all : (q : ℕ) → p ≤ q → q < end → k.holder q ≡ id
    all q a b = has_holder key.geometry.peers k.holder k.acc id _ q was (omega arith) b

    left : Fits key.geometry.peers next k.acc id (view from (take (p - from) lists))
    left = record {
      inside = let i = was.inside in omega (arith, length-take (p - from) lists);
      mine = λ k' lt. moved_out k.holder p end n (from + k') (λ a b. omega (arith, length-take (p - from) lists)) ∙ was.mine k' (omega (arith, length-take (p - from) lists));
      known = λ k' l e. was.known k' l (at_take (p - from) lists k' l e);
    }

    right : Fits key.geometry.peers next k.acc n (view p (drop (p - from) lists))
    right = record {
      inside = let i = was.inside in omega (arith, length-drop (p - from) lists);
      mine = λ k' lt. moved_in k.holder p end n (p + k') (omega arith) (omega (arith, length-drop (p - from) lists));
      known = λ k' l e. let h : p + k' ≡ from + ((p - from) + k') = omega arith in ap k.acc h ∙ was.known ((p - from) + k') l (at_drop (p - from) lists k' l e);
    }

pub join_allowed : (key : RunSetup) (id other : ℕ) (v u : View) → u.from ≡ v.from + length v.lists → Joins (TableInvariant key) id v other u (joined v u) (view 0 [])
join_allowed key id other v u exchange_session_number s k at ne at_other = record {
  holder = next;
  acc = k.acc;
  fits = λ j x e. ⊎_elim (λ t. subst (λ i. Fits key.geometry.peers next k.acc i x) (sym t.0) (subst (Fits key.geometry.peers next k.acc other) t.1 spent))
      (λ t. ⊎_elim (λ y. subst (λ i. Fits key.geometry.peers next k.acc i x) (sym y.0) (subst (Fits key.geometry.peers next k.acc id) y.1 both)) (λ y. beside key.geometry.peers k.holder k.acc u.from end id other j x all t.0 (k.fits j x y.1)) (at_set s.views id j _ x t.1))
      (at_set (set s.views id (joined v u)) other j _ x e);
  fit = k.fit;
  memory = k.memory;
}
  where
    end : ℕ
    end = u.from + length u.lists

    next : ℕ → ℕ
    next = moved k.holder u.from end id

    was : Fits key.geometry.peers k.holder k.acc id v
    was = k.fits id _ at

    opposite : Fits key.geometry.peers k.holder k.acc other u
    opposite = k.fits other _ (⊎_elim (λ t. absurd (ne t.0)) (λ t. t.1) (at_set s.views id other _ _ at_other))

    all : (q : ℕ) → u.from ≤ q → q < end → k.holder q ≡ other
    all q a b = has_holder key.geometry.peers k.holder k.acc other _ q opposite a b

    spent : Fits key.geometry.peers next k.acc other (view 0 [])
    spent = record { inside = omega arith; mine = λ k' lt. absurd (omega arith); known = λ k' l e. absurd (some-ne-none l (sym e)) }

    both : Fits key.geometry.peers next k.acc id (view v.from (v.lists ++ u.lists))
    both = record {
      inside = let i = opposite.inside in omega (arith, length-append v.lists u.lists);
      mine = λ k' lt. dite (dec_lt k' (length v.lists)) (λ a. moved_out k.holder u.from end id (v.from + k') (λ b c. omega arith) ∙ was.mine k' a) (λ a. moved_in k.holder u.from end id (v.from + k') (omega arith) (omega (arith, length-append v.lists u.lists)));
      known = λ k' l e. ⊎_elim (λ h. was.known k' l h) (λ t. let h : v.from + k' ≡ u.from + t.0 = let g = t.1 in omega arith in ap k.acc h ∙ opposite.known t.0 l t.2) (at_append v.lists u.lists k' l e);
    }
