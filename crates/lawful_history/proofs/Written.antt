-- The value of a read is the last value written.
use Rattle.std.proofs.Common.{◌≡◌, ℕ, Bool, true, false, List, [], ◌∷◌, ◌++◌, refl, sym, ◌∙◌, ap, subst, append_assoc, inl, inr, ◌⊎◌, All}
use Rattle.std.specs.Prelude.{◌==◌, if◌then◌else◌, reverse}
use Rattle.std.proofs.lemmas.List.{reverse-append, reverse-reverse}
use Rattle.std.proofs.lemmas.List.Elements.{All-nil, All-cons, All-append}
use Rattle.section_map.specs.Geometry.{Shape}
use Rattle.lawful_history.specs.declared.line.Line.{Line}
use Rattle.lawful_history.specs.declared.line.Line.TheVariants.{Read, Write}
use Rattle.lawful_history.specs.Memory.{MemoryEffect, Gave, Stored, Denied, Set, Apart, memory_effect_of, value_after, last_write, IsConsistent, MemoryLaw, LeavesValue, DoesNotWrite, WasWrittenLast}
use Rattle.lawful_history.specs.Lawful.{ReadsWhatWasWritten, WritesWhereItMay}
use Rattle.lawful_history.proofs.Owners.{is_same, is_other}
use Rattle.lawful_history.proofs.Unique.{older_law}

-- The law at a line between others.
at_line : (g : Shape) (before after : List Line) (line : Line) → MemoryLaw g (reverse (before ++ line ∷ after)) → IsConsistent g (memory_effect_of line) (reverse before)
at_line g before after line law =
    let e : reverse (before ++ line ∷ after) ≡ reverse after ++ (line ∷ reverse before) =
    reverse-append before (line ∷ after) ∙ ap (λ r. r ++ reverse before) (reverse-append (line ∷ []) after) ∙ append_assoc (reverse after) (line ∷ []) (reverse before) in
    let now : MemoryLaw g (reverse after ++ (line ∷ reverse before)) = rw e at law in
    (older_law g (reverse after) (line ∷ reverse before) now).0

stored_by : (line : Line) (word before p w v : ℕ) → memory_effect_of line ≡ Stored p w v → (b : Bool) → (w == word) ≡ b →
    LeavesValue word (if b then v else before) line ⊎ (DoesNotWrite word line × ((if b then v else before) ≡ before))
stored_by line word before p w v is true same = inl (inr (p, let w_is = is_same w word same in is ∙ ap (λ k. Stored p k v) w_is))
stored_by line word before p w v is false same = inr (λ value leaves. elim leaves [ inl e ↦ cc | inr e ↦ let at = e.1 in is_other w word same (cc) ], refl)

set_by : (line : Line) (word before w v : ℕ) → memory_effect_of line ≡ Set w v → (b : Bool) → (w == word) ≡ b →
    LeavesValue word (if b then v else before) line ⊎ (DoesNotWrite word line × ((if b then v else before) ≡ before))
set_by line word before w v is true same = inl (inl (let w_is = is_same w word same in is ∙ ap (λ k. Set k v) w_is))
set_by line word before w v is false same = inr (λ value leaves. elim leaves [ inl e ↦ is_other w word same (cc) | inr e ↦ let at = e.1 in cc ], refl)

last_by : (older : List Line) (line : Line) (word : ℕ) → LeavesValue word (last_write (line ∷ older) word) line ⊎ (DoesNotWrite word line × (last_write (line ∷ older) word ≡ last_write older word)) →
    WasWrittenLast (reverse older) word (last_write older word) → WasWrittenLast (reverse (line ∷ older)) word (last_write (line ∷ older) word)
last_by older line word (inl leaves) before = inl (reverse older, [], line, reverse-append (line ∷ []) older, leaves, All-nil (DoesNotWrite word))
last_by older line word (inr spares) (inl found) =
    let e : reverse (line ∷ older) ≡ found.0 ++ found.2 ∷ (found.1 ++ line ∷ []) =
    reverse-append (line ∷ []) older ∙ ap (λ r. r ++ line ∷ []) found.3 ∙ append_assoc found.0 (found.2 ∷ found.1) (line ∷ []) in
    inl (
      found.0,
      found.1 ++ line ∷ [],
      found.2,
      e,
      subst (λ (v : ℕ). LeavesValue word v found.2) (sym spares.1) found.4,
      All-append (DoesNotWrite word) found.1 (line ∷ []) found.5 (All-cons (DoesNotWrite word) line [] spares.0 (All-nil (DoesNotWrite word))),
    )
last_by older line word (inr spares) (inr none) = inr (
  subst (λ (ls : List Line). All (DoesNotWrite word) ls) (sym (reverse-append (line ∷ []) older)) (All-append (DoesNotWrite word) (reverse older) (line ∷ []) none.0 (All-cons (DoesNotWrite word) line [] spares.0 (All-nil (DoesNotWrite word)))),
  spares.1 ∙ none.1,
)

-- A line leaves the value that is last after it, or doesn't write the word.
leaves_or_spares : (line : Line) (word before : ℕ) (t : MemoryEffect) → memory_effect_of line ≡ t → LeavesValue word (value_after t word before) line ⊎ (DoesNotWrite word line × (value_after t word before ≡ before))
leaves_or_spares line word before (Gave w v) is = inr (λ value leaves. elim leaves [ inl e ↦ cc | inr e ↦ let same = e.1 in cc ], refl)
leaves_or_spares line word before (Stored p w v) is = stored_by line word before p w v is (w == word) refl
leaves_or_spares line word before (Denied p w) is = inr (λ value leaves. elim leaves [ inl e ↦ cc | inr e ↦ let same = e.1 in cc ], refl)
leaves_or_spares line word before (Set w v) is = set_by line word before w v is (w == word) refl
leaves_or_spares line word before Apart is = inr (λ value leaves. elim leaves [ inl e ↦ cc | inr e ↦ let same = e.1 in cc ], refl)

-- The same after all lines.
written_last : (past : List Line) (word : ℕ) → WasWrittenLast (reverse past) word (last_write past word)
written_last [] word = inr (All-nil (DoesNotWrite word), refl)
written_last (line ∷ older) word = last_by older line word (leaves_or_spares line word (last_write older word) (memory_effect_of line) refl) (written_last older word)

pub reads_what_was_written : ReadsWhatWasWritten
reads_what_was_written world before after peer word value lawful =
    let is : value ≡ last_write (reverse before) word = at_line world.geometry before after (Read peer word value) lawful.1.memory in
    let last : WasWrittenLast before word (last_write (reverse before) word) = subst (λ (b : List Line). WasWrittenLast b word (last_write (reverse before) word)) (reverse-reverse before) (written_last (reverse before) word) in
    subst (λ (v : ℕ). WasWrittenLast before word v) (sym is) last

pub writes_where_it_may : WritesWhereItMay
writes_where_it_may world before after peer word value lawful = at_line world.geometry before after (Write peer word value) lawful.1.memory
