-- A call as a tree of steps, whose reads branch on the value read.
use Rattle.std.specs.Prelude.{ℕ, ◌≡◌, List, [], ◌∷◌, ◌++◌}
use Rattle.split_ring.specs.declared.steps.Access.{Access}
use Rattle.split_ring.specs.declared.steps.Access.TheVariants.{Read}
use Rattle.call_grammar.specs.Steps.{Mark, Step, step_of}

-- The rest of a call. It is nothing, an access with its marks and the rest after it, or a read with
-- the marks and the rest for each value.
pub data CallTree : Type 0 where
  Ended : CallTree
  Does : (access : Access) (marks : List Mark) (rest : CallTree) → CallTree
  Reads : (word : ℕ) (marks : ℕ → List Mark) (rest : ℕ → CallTree) → CallTree

-- The next step of the call can be `step`, and `new` is left after it.
abbrev pub Goes : CallTree → Step → CallTree → Type 0
Goes Ended step new = ⊥
Goes (Does access marks rest) step new = (step ≡ step_of access 0 marks) × (new ≡ rest)
Goes (Reads word marks rest) step new = (value : ℕ) × (step ≡ step_of (Read word) value (marks value)) × (new ≡ rest value)

-- The next steps of the call can be `steps`, and `new` is left after them. These are the steps of a
-- call that is cut.
abbrev pub GoesAlong : CallTree → List Step → CallTree → Type 0
GoesAlong tree [] new = new ≡ tree
GoesAlong tree (step ∷ steps) new = (mid : CallTree) × Goes tree step mid × GoesAlong mid steps new

-- These steps are the whole call, for some values read.
abbrev pub Makes : CallTree → List Step → Type 0
Makes Ended steps = steps ≡ []
Makes (Does access marks rest) [] = ⊥
Makes (Does access marks rest) (step ∷ steps) = (step ≡ step_of access 0 marks) × Makes rest steps
Makes (Reads word marks rest) [] = ⊥
Makes (Reads word marks rest) (step ∷ steps) = (value : ℕ) × (step ≡ step_of (Read word) value (marks value)) × Makes (rest value) steps

-- The steps of a call that is cut are the first steps of a whole call, and the rest makes the
-- others.
pub record CutsBegin : Type 0 where
  pub splits : (tree : CallTree) (steps more : List Step) → Makes tree (steps ++ more) →
      (left : CallTree) × GoesAlong tree steps left × Makes left more
  pub joins : (tree left : CallTree) (steps more : List Step) → GoesAlong tree steps left → Makes left more → Makes tree (steps ++ more)
