-- The words that a call accesses: it writes only its own section and its own State, and rings only
-- the other end.
use Rattle.std.specs.Prelude.{ℕ, ◌≡◌, ◌+◌, ◌*◌, ◌<◌, ◌≤◌, ◌⊎◌, List, length, All}
use Rattle.split_ring.specs.declared.sizes.TheConstants.{FRAME_OVERHEAD, SHORTEST_FRAME}
use Rattle.split_ring.specs.Layout.{IsQueue}
use Rattle.split_ring.specs.declared.steps.Access.{Access}
use Rattle.split_ring.specs.declared.steps.Access.TheVariants as access
use Rattle.call_grammar.specs.Steps.{Step}
use Rattle.call_grammar.specs.Trees.{CallTree, Ended, Does, Reads, Goes, GoesAlong}
use Rattle.call_grammar.specs.Ends.{End}
use Rattle.call_grammar.specs.Ticks.{EndConfig, other_state}
use Rattle.call_grammar.specs.Calls.{Call, Offer, tree_of}
use Rattle.call_grammar.specs.PlaceTable.{Place, first_place}
use Rattle.call_grammar.specs.Paths.{Leads}

-- A word that an end may read: the other's State, or a word of the other's section.
abbrev pub MayRead : EndConfig → ℕ → Type 0
MayRead config word = (word ≡ other_state config) ⊎ ((config.other_start ≤ word) × (word < config.other_start + config.words))

-- A word that an end may write: a word of its own section.
abbrev pub MayStore : EndConfig → ℕ → Type 0
MayStore config word = (config.own ≤ word) × (word < config.own + config.words)

-- A write is permitted to the own section and to the own State. A doorbell of the other end is
-- permitted, and a step without an access.
abbrev pub MayDo : EndConfig → Access → Type 0
MayDo config (access.Read word) = ⊥
MayDo config (access.Write word written) = MayStore config word
MayDo config (access.Ring target vector) = target ≡ config.other
MayDo config _ = Unit {0}

-- An access of an end is permitted if it is one of these, or a read of a word that the end may
-- read.
abbrev pub IsPermittedAccess : EndConfig → Access → Type 0
IsPermittedAccess config (access.Read word) = MayRead config word
IsPermittedAccess config (access.Write word written) = MayStore config word
IsPermittedAccess config (access.Ring target vector) = target ≡ config.other
IsPermittedAccess config _ = Unit {0}

-- Each access of the call is permitted, for all values read.
abbrev pub IsPermittedTree : EndConfig → CallTree → Type 0
IsPermittedTree config Ended = Unit {0}
IsPermittedTree config (Does access marks rest) = MayDo config access × IsPermittedTree config rest
IsPermittedTree config (Reads word marks rest) = MayRead config word × ((value : ℕ) → IsPermittedTree config (rest value))

-- The two sections hold the queue: its sizes fit, and the number of words of a section is a quarter
-- of its bytes.
pub record HasSections (config : EndConfig) : Type 0 where
  pub queue : IsQueue config.sizes
  pub words : config.sizes.out ≡ 4 * config.words

-- A permitted call: an offered frame is an Ethernet frame of at most MTU + 18 bytes (profile).
abbrev pub IsPermittedCall : EndConfig → Call → Type 0
IsPermittedCall config (Offer frame) = (SHORTEST_FRAME ≤ length frame) × (length frame ≤ config.sizes.mtu + FRAME_OVERHEAD)
IsPermittedCall config _ = Unit {0}

-- Every call has permitted accesses only, and so has the rest of a call after a step. Each of its
-- steps is permitted.
pub record CallsArePermitted : Type 0 where
  pub calls : (config : EndConfig) (end : End) (call : Call) → HasSections config → IsPermittedCall config call → IsPermittedTree config (tree_of config end call)
  pub step : (config : EndConfig) (tree new : CallTree) (step : Step) → IsPermittedTree config tree → Goes tree step new →
      IsPermittedAccess config step.access × IsPermittedTree config new
  pub steps : (config : EndConfig) (end : End) (call : Call) (steps : List Step) (left : CallTree) → HasSections config → IsPermittedCall config call →
      GoesAlong (tree_of config end call) steps left → All (λ step. IsPermittedAccess config step.access) steps

-- Every step from the first place of a call on is permitted.
abbrev pub PathsArePermitted : Type 0
PathsArePermitted = (config : EndConfig) (end : End) (call : Call) (steps : List Step) (left : Place) →
    HasSections config → IsPermittedCall config call → Leads config (first_place config end call) steps left →
    All (λ step. IsPermittedAccess config step.access) steps
