-- The value that a handle for a program in C owns, and the effect of a call on it.
use Rattle.std.specs.Prelude.{◌≡◌, Option, Some, None}
use base.Fml.{Fml, ftrue, fex}
use denote.RattleType.{RattleType}
use denote.RawPtr.{Ptr, null_ptr}
use Rattle.std.specs.Box.Ownership.{box_owns}
use Rattle.std.specs.declared.alloc.Global.{Global}
use Rattle.std.specs.contracts.impls.GlobalAllocator.TheImpl.{ghosts}

-- An empty handle is the null pointer and owns nothing. Another handle owns the value at its
-- pointer and the right to free its block.
abbrev pub held : (R : RattleType) → Ptr → Global → Option R.Denot → Fml
held R at alloc None = fex (at ≡ null_ptr) (λ _. ftrue)
held R at alloc (Some value) = box_owns (ghosts.dealloc_token alloc) R at value

-- An empty handle stays empty. The value of another handle takes the step, and stays in the handle.
abbrev pub Leads : {X : Type 0} → Option X → (X → X → Type 0) → Option X → Type 0
Leads None step None = Unit {0}
Leads (Some old) step (Some new) = step old new
Leads old step new = ⊥
