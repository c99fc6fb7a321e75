-- The bytes that a source gives and a sink writes (profile). Bytes that aren't known are None.
use Rattle.std.specs.Prelude.{ℕ, ◌≡◌, ◌+◌, ◌-◌, ◌^◌, ◌<◌, ◌≤◌, ◌⊎◌, Bool, List, Option, Some, IsTrue, length, min}
use Rattle.std.specs.Io.KnownBytes.{Consumes, Appends, IsAtEnd}

-- The view of a source: the bytes left, if they are known, and whether its last read found the end.
-- The other fields are whether its last read failed, its fault count, and whether none of its reads
-- fails.
pub record Input : Type 0 where
  pub left : Option (List ℕ)
  pub ended : Bool
  pub failed : Bool
  pub faults : ℕ
  pub never_fails : Bool

-- The view of a sink: the bytes written, if they are known, whether its last write failed, and its
-- fault count. The last field is the number of further bytes that it is sure to write before a
-- write fails.
pub record Output : Type 0 where
  pub written : Option (List ℕ)
  pub failed : Bool
  pub faults : ℕ
  pub room : ℕ

-- The source gave these bytes.
abbrev pub Gave : Input → List ℕ → Input → Type 0
Gave before bytes now = Consumes before.left now.left bytes

-- The source gave `count` bytes.
abbrev pub GaveCount : Input → ℕ → Input → Type 0
GaveCount before count now = (bytes : List ℕ) × Gave before bytes now × (length bytes ≡ count)

-- The source gave at most `count` bytes.
abbrev pub GaveAtMost : Input → ℕ → Input → Type 0
GaveAtMost before count now = (bytes : List ℕ) × Gave before bytes now × (length bytes ≤ count)

-- The source was read to its end.
abbrev pub HasEnded : Input → Type 0
HasEnded now = IsTrue now.ended × IsAtEnd now.left

-- The bytes left of the source are known: they are `bytes`.
abbrev pub HasLeft : Input → List ℕ → Type 0
HasLeft now bytes = now.left ≡ Some bytes

-- The sink wrote these bytes.
abbrev pub Took : Output → List ℕ → Output → Type 0
Took before bytes now = Appends before.written now.written bytes

-- `count` + 1, up to the greatest number of a count, 2^64 - 1.
abbrev pub counted : ℕ → ℕ
counted count = min (count + 1) (2 ^ 64 - 1)

-- The count rose, or is at its greatest number.
abbrev pub Rose : ℕ → ℕ → Type 0
Rose before now = (before < now) ⊎ (now ≡ 2 ^ 64 - 1)

-- The source failed between these two states.
abbrev pub SourceFailed : Input → Input → Type 0
SourceFailed before now = Rose before.faults now.faults

-- The sink failed between these two states.
abbrev pub SinkFailed : Output → Output → Type 0
SinkFailed before now = Rose before.faults now.faults

-- One read failed between these two states, and it was the last.
pub record LastReadFailed (before now : Input) : Type 0 where
  pub last : IsTrue now.failed
  pub once : now.faults ≡ counted before.faults

-- One write failed between these two states, and it was the last.
pub record LastWriteFailed (before now : Output) : Type 0 where
  pub last : IsTrue now.failed
  pub once : now.faults ≡ counted before.faults
