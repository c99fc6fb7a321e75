-- What a command reads of its source.
use Rattle.std.specs.Prelude.{ℕ, ◌≡◌, ◌≤◌, ◌+◌, Bool, true, false, nat_lt, List, [], length, Option, Some, None}
use Rattle.ivs_base.specs.SourceAndSink.{Input, Gave, HasEnded}
use Rattle.program_edge.specs.declared.words.Command.{Command}
use Rattle.program_edge.specs.Words.{limit_of}

-- Whether the bytes are more than the limit.
abbrev pub passes : Option ℕ → List ℕ → Bool
passes (Some limit) bytes = nat_lt limit (length bytes)
passes None bytes = false

-- These bytes were read: all up to the end, or one more than the limit.
pub record TookUpTo (limit : ℕ) (before now : Input) (bytes : List ℕ) : Type 0 where
  pub taken : Gave before bytes now
  pub most : length bytes ≤ limit + 1
  pub whole : length bytes ≤ limit → HasEnded now

-- The bytes read: those up to the limit, or none.
abbrev pub HasRead : Option ℕ → Input → Input → List ℕ → Type 0
HasRead (Some limit) before now bytes = TookUpTo limit before now bytes
HasRead None before now bytes = (bytes ≡ []) × (before ≡ now)

-- The source was read to its end, by a command that reads an input.
abbrev pub HasReadToTheEnd : Option ℕ → Input → Input → List ℕ → Type 0
HasReadToTheEnd (Some limit) before now bytes = Gave before bytes now × HasEnded now
HasReadToTheEnd None before now bytes = (bytes ≡ []) × (before ≡ now)

-- One byte more was read than the command reads.
abbrev pub IsTooLong : Command → (before now : Input) → Type 0
IsTooLong form before now = (bytes : List ℕ) × HasRead (limit_of form) before now bytes × (passes (limit_of form) bytes ≡ true)
