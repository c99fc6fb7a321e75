-- The memory law: a read meets the last value written, and a peer writes only words that it may
-- write. Each property of a line has one function over all lines; every definition uses only its
-- result.
use Rattle.std.specs.Prelude.{ℕ, ◌≡◌, ◌==◌, ◌⊎◌, if◌then◌else◌, List, [], ◌∷◌, ◌++◌, All}
use Rattle.section_map.specs.Geometry.{Shape}
use Rattle.section_map.specs.MayWrite.{MayWrite}
use Rattle.lawful_history.specs.declared.line.Line.{Line}
use Rattle.lawful_history.specs.declared.line.Line.TheVariants as line

-- The effect of a line on a word of the region: a read, a peer's store, a denied write, a device's
-- store, or none.
pub data MemoryEffect : Type 0 where
  Gave : (word value : ℕ) → MemoryEffect
  Stored : (peer word value : ℕ) → MemoryEffect
  Denied : (peer word : ℕ) → MemoryEffect
  Set : (word value : ℕ) → MemoryEffect
  Apart : MemoryEffect

-- A State write sets the peer's word of the State Table, and a device reset sets it to 0 (the
-- device's specification, "State register").
abbrev pub memory_effect_of : Line → MemoryEffect
memory_effect_of (line.Read peer word value) = Gave word value
memory_effect_of (line.Write peer word value) = Stored peer word value
memory_effect_of (line.Denied peer word) = Denied peer word
memory_effect_of (line.State peer value) = Set peer value
memory_effect_of (line.Reset peer) = Set peer 0
memory_effect_of _ = Apart

-- The value of a word after a line with this effect, from its value `before`.
abbrev pub value_after : MemoryEffect → ℕ → ℕ → ℕ
value_after (Stored peer word value) at before = if word == at then value else before
value_after (Set word value) at before = if word == at then value else before
value_after _ at before = before

-- The value of a word after these lines, which are listed newest first. It is 0 at the start.
abbrev pub last_write : List Line → ℕ → ℕ
last_write [] at = 0
last_write (line ∷ older) at = value_after (memory_effect_of line) at (last_write older at)

-- The condition of the memory law on a line after the older ones.
abbrev pub IsConsistent : Shape → MemoryEffect → List Line → Type 0
IsConsistent g (Gave word value) older = value ≡ last_write older word
IsConsistent g (Stored peer word value) older = MayWrite g peer word
IsConsistent g (Denied peer word) older = ¬ MayWrite g peer word
IsConsistent g (Set word value) older = Unit {0}
IsConsistent g Apart older = Unit {0}

-- The memory law of a history, listed newest first (words are sequentially consistent: profile).
abbrev pub MemoryLaw : Shape → List Line → Type 0
MemoryLaw g [] = Unit {0}
MemoryLaw g (line ∷ older) = IsConsistent g (memory_effect_of line) older × MemoryLaw g older

-- The consequences of the law, for a reader of histories

-- The line leaves this value in the word.
abbrev pub LeavesValue : ℕ → ℕ → Line → Type 0
LeavesValue word value line = (memory_effect_of line ≡ Set word value) ⊎ ((peer : ℕ) × (memory_effect_of line ≡ Stored peer word value))

-- The line leaves no value in the word.
abbrev pub DoesNotWrite : ℕ → Line → Type 0
DoesNotWrite word line = (value : ℕ) → ¬ LeavesValue word value line

-- The last of these lines that leaves a value in the word leaves this one. If no line leaves a
-- value, this one is 0.
abbrev pub WasWrittenLast : List Line → ℕ → ℕ → Type 0
WasWrittenLast before word value =
    ((early late : List Line) × (line : Line) × (before ≡ early ++ line ∷ late) × LeavesValue word value line × All (DoesNotWrite word) late)
    ⊎ (All (DoesNotWrite word) before × (value ≡ 0))
