-- States that follow from a list of memory operations alone.
use Rattle.std.specs.Prelude.{ℕ, ◌==◌, if◌then◌else◌, Bool, true, false, Option, Some, None, List, [], ◌∷◌, ◌++◌}
use Rattle.std.specs.List.{fold}
use Rattle.split_ring.specs.declared.steps.Access.{Access}
use Rattle.split_ring.specs.declared.steps.Access.TheVariants as access
use Rattle.call_grammar.specs.Calls.{Call}
use Rattle.shared_words.specs.DerivedStates.{CallAccess, MemoryOp, called, numbered, carried, restarted}

-- The access of a memory operation to the region: that of a call, State 0 for a reset, otherwise
-- none.
abbrev pub access_of : MemoryOp CallAccess → Access
access_of (called t) = t.access
access_of (numbered number) = access.Nothing
access_of (carried number) = access.Nothing
access_of restarted = access.State 0

-- The value that the list wrote to a word last, or 0.
abbrev pub left_in : ℕ → ℕ → Access → ℕ
left_in word was (access.Write w value) = if word == w then value else was
left_in word was _ = was

abbrev pub last_written : List (MemoryOp CallAccess) → ℕ → ℕ
last_written list word = fold (λ was (d : MemoryOp CallAccess). left_in word was (access_of d)) 0 list

-- The State that the list wrote last, or 0.
abbrev pub state_left : ℕ → Access → ℕ
state_left was (access.State state) = state
state_left was _ = was

abbrev pub last_state : List (MemoryOp CallAccess) → ℕ
last_state list = fold (λ was (d : MemoryOp CallAccess). state_left was (access_of d)) 0 list

-- Whether the list wrote a word after its last write of State.
abbrev pub is_after_write : Bool → Access → Bool
is_after_write was (access.Write word value) = true
is_after_write was (access.State state) = false
is_after_write was _ = was

abbrev pub has_written : List (MemoryOp CallAccess) → Bool
has_written list = fold (λ was (d : MemoryOp CallAccess). is_after_write was (access_of d)) false list

-- The words that the list wrote since its last call began, or since its last reset.
abbrev pub words_of : Access → List ℕ
words_of (access.Write word value) = word ∷ []
words_of _ = []

abbrev pub unless_call : List ℕ → Option Call → List ℕ
unless_call was None = was
unless_call was (Some call) = []

abbrev pub unless_begun : List ℕ → MemoryOp CallAccess → List ℕ
unless_begun was (called t) = unless_call was t.begins
unless_begun was restarted = []
unless_begun was _ = was

abbrev pub call_writes : List (MemoryOp CallAccess) → List ℕ
call_writes list = fold (λ was (d : MemoryOp CallAccess). unless_begun was d ++ words_of (access_of d)) [] list
