-- The memory law: a read returns the value written last, and a peer writes only its permitted
-- words. Lines so far are listed newest first.
use Rattle.std.specs.Prelude.{ℕ, ◌≡◌, ◌==◌, if◌then◌else◌, List, [], ◌∷◌}
use Rattle.section_map.specs.Geometry.{Shape}
use Rattle.section_map.specs.MayWrite.{MayWrite}
use Rattle.sampling_port.specs.EventRecords.{Line, Read, Wrote, Denied}

-- The value of word `at` after a line, if its value was `before`.
abbrev pub value_after : Line → ℕ → ℕ → ℕ
value_after (Wrote peer word value) at before = if word == at then value else before
value_after _ at before = before

-- The value of a word after these lines; it is 0 at the start.
abbrev pub last_write : List Line → ℕ → ℕ
last_write [] at = 0
last_write (line ∷ older) at = value_after line at (last_write older at)

-- The law for a line after the older ones.
abbrev pub IsConsistent : Shape → Line → List Line → Type 0
IsConsistent g (Read peer word value) older = value ≡ last_write older word
IsConsistent g (Wrote peer word value) older = MayWrite g peer word
IsConsistent g (Denied peer word) older = ¬ MayWrite g peer word
IsConsistent g _ older = Unit {0}

abbrev pub MemoryLaw : Shape → List Line → Type 0
MemoryLaw g [] = Unit {0}
MemoryLaw g (line ∷ older) = IsConsistent g line older × MemoryLaw g older
