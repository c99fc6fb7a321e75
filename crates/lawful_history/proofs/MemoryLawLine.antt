-- Lines that satisfy the memory law after all lines.
use Rattle.std.proofs.Common.{◌≡◌, ℕ, List, [], ◌∷◌, ◌++◌, refl, ◌∙◌, ap, append_assoc}
use Rattle.std.specs.Prelude.{map, reverse}
use Rattle.std.specs.List.{AllByRecursion}
use Rattle.std.proofs.lemmas.List.{reverse-append}
use Rattle.section_map.specs.Geometry.{Shape}
use Rattle.section_map.specs.MayWrite.{MayWrite}
use Rattle.call_grammar.specs.Steps.{Mark, Saw}
use Rattle.lawful_history.specs.declared.line.Line.{Line}
use Rattle.lawful_history.specs.Memory.{MemoryEffect, Gave, Stored, Denied, Set, memory_effect_of, IsConsistent, MemoryLaw}
use Rattle.lawful_history.specs.Memory as touch
use Rattle.lawful_history.specs.EventRecords.{mark_line}

-- A line that satisfies the law after all lines.
abbrev pub Harmless : Shape → MemoryEffect → Type 0
Harmless g (Gave word value) = ⊥
Harmless g (Stored peer word value) = MayWrite g peer word
Harmless g (Denied peer word) = ¬ MayWrite g peer word
Harmless g (Set word value) = Unit {0}
Harmless g touch.Apart = Unit {0}

remembers : (g : Shape) (t : MemoryEffect) (past : List Line) → Harmless g t → IsConsistent g t past
remembers g (Gave word value) past h = absurd h
remembers g (Stored peer word value) past h = h
remembers g (Denied peer word) past h = h
remembers g (Set word value) past h = tt
remembers g touch.Apart past h = tt

pub harmless_law : (g : Shape) (lines : List Line) (past : List Line) → AllByRecursion (λ line. Harmless g (memory_effect_of line)) lines → MemoryLaw g past → MemoryLaw g (reverse lines ++ past)
harmless_law g [] past h law = law
harmless_law g (line ∷ lines) past h law =
    let e : reverse (line ∷ lines) ++ past ≡ reverse lines ++ (line ∷ past) = ap (λ r. r ++ past) (reverse-append (line ∷ []) lines) ∙ append_assoc (reverse lines) (line ∷ []) past in
    rw e (harmless_law g lines (line ∷ past) h.1 (remembers g (memory_effect_of line) past h.0, law))

-- A mark has no effect on a word.
pub mark_apart : (peer : ℕ) (mark : Mark) → memory_effect_of (mark_line peer mark) ≡ touch.Apart
mark_apart peer (Saw value) = refl
mark_apart peer _ = refl

pub marks_harmless : (g : Shape) (peer : ℕ) (marks : List Mark) → AllByRecursion (λ line. Harmless g (memory_effect_of line)) (map (mark_line peer) marks)
marks_harmless g peer [] = tt
marks_harmless g peer (mark ∷ marks) = (rw (mark_apart peer mark) tt, marks_harmless g peer marks)
