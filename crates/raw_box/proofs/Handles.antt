-- The machine values of a handle for a program in C: a pointer and the allocator. Assumes `Logic`.
use Rattle.std.proofs.Common.{◌≡◌, ℕ, List, [], ◌∷◌, ◌++◌, ◌&&◌, true, T, refl, sym, subst, lit<}
use Rattle.std.specs.Prelude.{Option, Some, None}
use seplogic.Ra.Ura.{Ura}
use mir.Syntax.{impl, tnil, dnil}
use mir.Raw.{raw as bare}
use mir.Val.{Val, vptr, vnull, vstruct, of_list, has_ty, WT}
use base.Fraction.{full_share}
use base.Fml.{Fml, ftrue, fsep, fex, feq}
use base.Logic.{ent, guard, guard_i, via, never, fst∗, snd∗}
use types.Logic.{Logic, sem}
use types.Kit.{Item, Goal, Seq, Step, step, ‵, given, ◌$◌, move, drop, fsplit, fjoin, fpick, fpack, feq_i, feq_l, use1, learn}
use contract.Monad.{fact_use}
use denote.RattleType.{RattleType, Valss, flat, owns}
use denote.Builtin.{RawPtr}
use denote.Memory.{lone}
use denote.RawPtr.{Ptr, block_ptr, null_ptr, ptr_val, lies_at, Testable, in_a_block}
use denote.Steps.{nothing}
use denote.Param.{layout}
use Rattle.core.proofs.alloc.Calls.{Al, handle_tells}
use Rattle.core.proofs.cell.Inside.{Good}
use Rattle.std.specs.Box.Ownership.{box_owns}
use Rattle.std.specs.contracts.alloc.Global as heap
use Rattle.std.proofs.alloc.Global.TheLaws as heap_laws
use Rattle.std.proofs.GlobalToken.{dealloc_token-Testable}
use Rattle.std.specs.contracts.impls.GlobalAllocator.TheImpl.{ghosts}
use Rattle.std_alloc.proofs.ResultValues.{and_tt}
use Rattle.raw_box.specs.Handle.{held, Leads}
use Rattle.raw_box.proofs.Values.{both}

abbrev pub Z : RattleType
Z = heap.the_row

abbrev al : Al
al = record { row = Z; laws = heap_laws.the_row_laws; g = ghosts; d = impl [] tnil dnil; drops = impl [] tnil dnil }

abbrev Fields : List RattleType
Fields = RawPtr ∷ (heap.the_field).row ∷ []

abbrev inside : Ptr → Z.Denot → List Val → Valss Fields → Fml
inside at alloc vs vss = fsep (feq (List Val) vs (vstruct (of_list (flat Fields vss)) ∷ [])) (owns Fields (at, ((heap.the_field).into alloc, tt)) vss)

-- The ownership of a struct of these fields with `held`.
abbrev pub owned : (R : RattleType) → Ptr → Z.Denot → Option R.Denot → List Val → Fml
owned R at alloc x vs = fsep (fex (Valss Fields) (inside at alloc vs)) (held R at alloc x)

pub null_good : (h : Val) → Good (layout Z) h → T (has_ty (layout Z) h && true) × WT (both vnull h)
null_good h fits = (and_tt (has_ty (layout Z) h) fits.0, (record { fits = lit< tt }, (fits.1, tt)))

pub global_out : {M : Type 1} {𝓤 : Ura M} {𝓛 : Logic 𝓤} {K : Type 0} {Γ : List (Item 𝓤)} {G : Goal 𝓤 𝓛.H} → K → (a : Z.Denot) (vs : List Val)
    → ((h : Val) → vs ≡ h ∷ [] → Good (layout Z) h → Seq K 𝓛 (‵ (Z.own_val a (h ∷ [])) ∷ Γ) G) → Seq K 𝓛 (‵ (Z.own_val a vs) ∷ Γ) G
global_out = handle_tells al

module _ (R : RattleType) where
  -- A block that may be freed has a pointer that may be compared with null.
  tested : {M : Type 1} {𝓤 : Ura M} (𝓛 : Logic 𝓤) (alloc : Z.Denot) (p : Ptr) (n : R.Denot)
      → ent 𝓤 (sem 𝓛 (box_owns (ghosts.dealloc_token alloc) R p n)) (guard 𝓤 (Testable p) (sem 𝓛 (box_owns (ghosts.dealloc_token alloc) R p n)))
  tested {𝓤 = 𝓤} 𝓛 alloc p n = let B = sem 𝓛 (box_owns (ghosts.dealloc_token alloc) R p n) in
      fact_use 𝓤 (Testable p) (via 𝓤 _ (snd∗ 𝓤 (sem 𝓛 (lies_at R full_share p n)) (sem 𝓛 (ghosts.dealloc_token alloc (bare (lone R.mir)) p))) (dealloc_token-Testable 𝓛 alloc (bare (lone R.mir)) p)) (guard_i 𝓤 (Testable p) B)

  module _ {M : Type 1} {𝓤 : Ura M} {𝓛 : Logic 𝓤} {K : Type 0} {Γ : List (Item 𝓤)} {G : Goal 𝓤 𝓛.H} where
    -- A handle is empty and null; or it has a value, whose pointer may be compared with null.
    either_held : K → (at : Ptr) (alloc : Z.Denot) (x : Option R.Denot)
        → (x ≡ None → at ≡ null_ptr → Seq K 𝓛 Γ G)
        → ((n : R.Denot) (b o : ℕ) → x ≡ Some n → at ≡ block_ptr b o → Testable (block_ptr b o) → Seq K 𝓛 (‵ (box_owns (ghosts.dealloc_token alloc) R (block_ptr b o) n) ∷ Γ) G)
        → Seq K 𝓛 (‵ (held R at alloc x) ∷ Γ) G
    either_held t at alloc None none some = fpick t (λ e. drop t $ none refl e)
    either_held t at alloc (Some n) none some =
        in_a_block t at (λ p. box_owns (ghosts.dealloc_token alloc) R p n) (fst∗ 𝓤 (never 𝓤) (sem 𝓛 (ghosts.dealloc_token alloc (bare (lone R.mir)) null_ptr))) (λ b o e.
        use1 𝓛 (given (Testable (block_ptr b o)) (‵ (box_owns (ghosts.dealloc_token alloc) R (block_ptr b o) n))) (tested 𝓛 alloc (block_ptr b o) n) $ learn t (λ u. some n b o refl e u))

  module _ {M : Type 1} {𝓤 : Ura M} {𝓛 : Logic 𝓤} {K : Type 0} {Γ : List (Item 𝓤)} {G : Goal 𝓤 𝓛.H} where
    pub handle_out : K → (at : Ptr) (alloc : Z.Denot) (x : Option R.Denot) (vs : List Val)
        → ((h : Val) → x ≡ None → vs ≡ both vnull h ∷ [] → Good (layout Z) h → Seq K 𝓛 (‵ (Z.own_val alloc (h ∷ [])) ∷ Γ) G)
        → ((n : R.Denot) (b o : ℕ) (h : Val) → x ≡ Some n → Testable (block_ptr b o) → vs ≡ both (vptr b o) h ∷ [] → Good (layout Z) h → Seq K 𝓛 (‵ (box_owns (ghosts.dealloc_token alloc) R (block_ptr b o) n) ∷ ‵ (Z.own_val alloc (h ∷ [])) ∷ Γ) G)
        → Seq K 𝓛 (‵ (owned R at alloc x vs) ∷ Γ) G
    handle_out t at alloc x vs none some =
        fsplit t $ fpick t (λ vss. fsplit t $ feq_l t (λ ev. fsplit t $ feq_l t (λ ep. fsplit t $ handle_tells al t alloc vss.1.0 (λ h ea fits. move t (1 ∷ []) $ drop t $ move t (1 ∷ []) $
        let is : (p : Ptr) → at ≡ p → vs ≡ vstruct (of_list (ptr_val p ∷ h ∷ [])) ∷ [] =
        λ p e. subst (λ (q : Ptr). vs ≡ vstruct (of_list (ptr_val q ∷ h ∷ [])) ∷ []) e
        (subst (λ (ws : List Val). vs ≡ vstruct (of_list (ptr_val at ∷ (ws ++ []))) ∷ []) ea (subst (λ (ps : List Val). vs ≡ vstruct (of_list (ps ++ (vss.1.0 ++ []))) ∷ []) ep ev)) in
        either_held t at alloc x (λ e n. none h e (is null_ptr n) fits) (λ n b o e p u. some n b o h e u (is (block_ptr b o) p) fits)))))

    pub handle_in : K → (b o : ℕ) (h : Val) (a : Z.Denot) (n : R.Denot)
        → Step K 𝓛 (‵ (owned R (block_ptr b o) a (Some n) (both (vptr b o) h ∷ [])) ∷ Γ) G (‵ (box_owns (ghosts.dealloc_token a) R (block_ptr b o) n) ∷ ‵ (Z.own_val a (h ∷ [])) ∷ Γ) G
    handle_in t b o h a n = step (λ s. let v : Val = both (vptr b o) h in
        nothing t $ move t (2 ∷ 0 ∷ []) $ fjoin t $ feq_i t (List Val) (vptr b o ∷ []) (vptr b o ∷ []) refl $ fjoin t $ feq_i t (List Val) (v ∷ []) (v ∷ []) refl $ fjoin t $
        fpack t (Valss Fields) (inside (block_ptr b o) a (v ∷ [])) (vptr b o ∷ [], (h ∷ [], tt)) $ fjoin t $ s)

    pub null_in : K → (h : Val) (a : Z.Denot)
        → Step K 𝓛 (‵ (owned R null_ptr a None (both vnull h ∷ [])) ∷ Γ) G (‵ (Z.own_val a (h ∷ [])) ∷ Γ) G
    null_in t h a = step (λ s. let v : Val = both vnull h in let null : Ptr = null_ptr in
        nothing t $ fpack t (null ≡ null) (λ _. ftrue) refl $ nothing t $ move t (2 ∷ 0 ∷ []) $ fjoin t $ feq_i t (List Val) (vnull ∷ []) (vnull ∷ []) refl $ fjoin t $ feq_i t (List Val) (v ∷ []) (v ∷ []) refl $ fjoin t $
        fpack t (Valss Fields) (inside null_ptr a (v ∷ [])) (vnull ∷ [], (h ∷ [], tt)) $ fjoin t $ s)

-- The value of a handle takes its step.
pub leads : {X : Type 0} (step : X → X → Type 0) (old new : Option X) (a b : X) → old ≡ Some a → new ≡ Some b → step a b → Leads old step new
leads step old new a b is was s = subst (λ p. Leads p step new) (sym is) (subst (λ p. Leads (Some a) step p) (sym was) s)
