-- A call of a port as a tree of steps, like the calls of a link's end. Only its marks differ.
use Rattle.std.specs.Prelude.{ℕ, ◌≡◌, Option, List, [], ◌∷◌}
use Rattle.split_ring.specs.declared.steps.Access.{Access}
use Rattle.split_ring.specs.declared.steps.Access.TheVariants.{Read}
use Rattle.call_grammar.specs.Steps.{Step, value_given}
use Rattle.call_grammar.specs.Trees as call
use Rattle.sampling_port.specs.Marks.{PortMark}

-- One step: the access, the value read, and its mark if it has one.
pub record PortStep : Type 0 where
  pub access : Access
  pub value : ℕ
  pub mark : Option PortMark

abbrev pub port_step : Access → ℕ → Option PortMark → PortStep
port_step a value mark = record { access = a; value = value_given a value; mark = mark }

-- The rest of a call: nothing, an access with its mark and the rest, or a read of a word. A read
-- has a mark and a rest for each value.
pub data PortTree : Type 0 where
  Ended : PortTree
  Does : (access : Access) (mark : Option PortMark) (rest : PortTree) → PortTree
  Reads : (word : ℕ) (mark : ℕ → Option PortMark) (rest : ℕ → PortTree) → PortTree

-- The call continues with this step, and the second tree is left of it.
abbrev pub Goes : PortTree → PortStep → PortTree → Type 0
Goes Ended step new = ⊥
Goes (Does access mark rest) step new = (step ≡ port_step access 0 mark) × (new ≡ rest)
Goes (Reads word mark rest) step new = (value : ℕ) × (step ≡ port_step (Read word) value (mark value)) × (new ≡ rest value)

-- These steps are the whole call, for the values that its reads gave.
abbrev pub Makes : PortTree → List PortStep → Type 0
Makes Ended steps = steps ≡ []
Makes (Does access mark rest) [] = ⊥
Makes (Does access mark rest) (step ∷ steps) = (step ≡ port_step access 0 mark) × Makes rest steps
Makes (Reads word mark rest) [] = ⊥
Makes (Reads word mark rest) (step ∷ steps) = (value : ℕ) × (step ≡ port_step (Read word) value (mark value)) × Makes (rest value) steps

-- The same call without its marks, as a call of the link.
abbrev pub unmarked : PortTree → call.CallTree
unmarked Ended = call.Ended
unmarked (Does access mark rest) = call.Does access [] (unmarked rest)
unmarked (Reads word mark rest) = call.Reads word (λ value. []) (λ value. unmarked (rest value))

abbrev pub unmarked_step : PortStep → Step
unmarked_step step = record { access = step.access; value = step.value; marks = [] }
