-- A sender whose offer was full writes no used_event to learn that a slot is free. Each poll of the
-- other end that returns a frame ends with a doorbell, unless it refuses the link.
--
-- Source: profile; VIRTIO 1.1 section 2.6.7 allows the device to notify after it has used buffers.
use Rattle.std.specs.Prelude.{ℕ, ◌≡◌, ◌≢◌, ◌⊎◌, Bool, List, [], ◌∷◌, ◌++◌}
use Rattle.std.specs.List.{AllByRecursion}
use Rattle.call_grammar.specs.Steps.{Mark, Return, Done, Step}
use Rattle.call_grammar.specs.Ticks.{EndConfig, state_step}
use Rattle.call_grammar.specs.Offers.{doorbell_step}
use Rattle.call_grammar.specs.Polls.{IsPoll}

-- The step returns no frame: none of its marks is `Return`.
abbrev pub ReturnsNone : Step → Type 0
ReturnsNone step = AllByRecursion (λ mark. mark ≢ Return) step.marks

-- The last step is `step`.
abbrev pub EndsWith : Step → List Step → Type 0
EndsWith step steps = (before : List Step) × (steps ≡ before ++ step ∷ [])

-- A finished poll returns no frame, or its last step is the doorbell of the other peer or the State
-- 0 of a refusal. `taken` is the number of frames delivered before the poll, and `last` says
-- whether a first look without a frame ends it.
abbrev pub PollsThatReturnRing : Type 0
PollsThatReturnRing = (config : EndConfig) (taken : ℕ) (last : Bool) (steps : List Step) → IsPoll config taken last steps →
    AllByRecursion ReturnsNone steps ⊎ (EndsWith (doorbell_step config (Done ∷ [])) steps ⊎ EndsWith (state_step 0) steps)
