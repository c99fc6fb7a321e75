-- Texts that a machine reads line by line: their answers, and the laws of all of them.
use Rattle.std.specs.Prelude.{◌≡◌, ℕ, ◌+◌, ◌<◌, Bool, List, ◌++◌, length, take, Result, Ok, Err}
use Rattle.line_format.specs.Forms.{cuts}
use Rattle.line_format.specs.Machine.{Machine, Wrong, At, After, NoEnd, read, IsFirstWrong}

-- The value W of the lines of a whole text, and the fault E of a text. One of the faults is that of
-- a failed allocation.
pub record Sense (S C W E : Type 0) : Type 0 where
  pub start : S
  pub value : S → Result W E
  pub at : C → ℕ → E
  pub after : ℕ → E
  pub no_end : E
  pub no_memory : E
  pub is_no_memory : E → Bool

abbrev pub fault_of : {S C W E : Type 0} → Sense S C W E → Wrong C → E
fault_of s (At cause n) = s.at cause n
fault_of s (After n) = s.after n
fault_of s NoEnd = s.no_end

abbrev pub said : {S C W E : Type 0} → Sense S C W E → Result S (Wrong C) → Result W E
said s (Ok d) = s.value d
said s (Err wrong) = Err (fault_of s wrong)

-- The value that a text spells, or its first fault.
abbrev pub answer : {S C W E : Type 0} → Machine S C → Sense S C W E → List ℕ → Result W E
answer m s bytes = said s (read m s.start bytes)

-- ---- the laws, where `Spells w bytes` says that the bytes are the one text of w

-- The spelling of a value is read as that value.
abbrev pub SpelledIsRead : {S C W E : Type 0} → Machine S C → Sense S C W E → (W → List ℕ → Type 0) → Type 0
SpelledIsRead {S} {C} {W} m s Spells = (w : W) (bytes : List ℕ) → Spells w bytes → answer m s bytes ≡ Ok w

-- What is written for a value is read as that value.
abbrev pub IsReadAgain : {X S C W E : Type 0} → Machine S C → Sense S C W E → (X → W) → (W → List ℕ) → Type 0
IsReadAgain {X} m s world_of spelling = (x : X) → answer m s (spelling (world_of x)) ≡ Ok (world_of x)

-- A text that is cut at any byte has no end.
abbrev pub CutIsNoEnd : {S C W E : Type 0} → Machine S C → Sense S C W E → (W → List ℕ → Type 0) → Type 0
CutIsNoEnd {S} {C} {W} m s Spells = (w : W) (bytes : List ℕ) (j : ℕ) → Spells w bytes → j < length bytes → answer m s (take j bytes) ≡ Err s.no_end

-- Bytes after a text of L lines are line L + 1.
abbrev pub BytesAfterEndAreALine : {S C W E : Type 0} → Machine S C → Sense S C W E → (W → List ℕ → Type 0) → (W → ℕ) → Type 0
BytesAfterEndAreALine {S} {C} {W} m s Spells line_count =
    (w : W) (bytes more : List ℕ) → Spells w bytes → 0 < length more → answer m s (bytes ++ more) ≡ Err (s.after (line_count w + 1))

-- The line that a fault names is the first faulty one: no line before it is faulty.
abbrev pub FaultIsFirst : {S C W E : Type 0} → Machine S C → Sense S C W E → Type 0
FaultIsFirst {S} {C} m s = (bytes : List ℕ) (cause : C) (line : ℕ) → read m s.start bytes ≡ Err (At cause line) → IsFirstWrong m s.start (cuts 10 bytes) cause line
