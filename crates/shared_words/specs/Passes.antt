-- Passes of words.
use Rattle.std.specs.Prelude.{◌≡◌, List, [], ℕ, ◌+◌, ◌-◌, ◌<◌, ◌≤◌, ◌++◌, true, Option, length, take, drop, replicate, map, get_or}
use Rattle.atomic_table.specs.Seated.{TableId}
use Rattle.scenario_text.specs.Scenario.{World}
use Rattle.split_ring.specs.declared.steps.Access.{Access}
use Rattle.call_grammar.specs.Calls.{Call}
use Rattle.shared_words.specs.declared.run_setup.RunSetup.{RunSetup}
use Rattle.shared_words.specs.PassView.{PassView}
use Rattle.shared_words.specs.RunSetups.{IsFit, IsMadeFor, honest_of}
use Rattle.shared_words.specs.DerivedStates.{CallAccess, ObservedAccess, observed_of, MemoryOp, memory_op_by, DerivedState, derived_state, IsNext}
use Rattle.shared_words.specs.Actions.{Action, seen_by, accesses_in}
use Rattle.shared_words.specs.Interrupts.{all_words}
use Rattle.shared_words.specs.Rules.{front, added_to}

-- The pass is of the words. Their number is that of the run setup, and the range is one of its
-- peers.
abbrev pub IsPassOf : TableId → RunSetup → PassView → Type 0
IsPassOf id key h = (h.table_id ≡ id) × (id.words ≡ all_words key) × (h.from + length h.lists ≤ key.geometry.peers) × IsFit key

-- The pass is of the words, and has a peer.
abbrev pub IsFilled : TableId → RunSetup → PassView → Type 0
IsFilled id key h = IsPassOf id key h × (0 < length h.lists)

-- The pass is of the words, and this peer is its first one.
abbrev pub IsFirstIn : TableId → RunSetup → ℕ → PassView → Type 0
IsFirstIn id key p h = IsPassOf id key h × (h.from ≡ p) × (0 < length h.lists)

-- The derived state of peer p by the first list of the pass.
abbrev pub state_in : RunSetup → ℕ → PassView → DerivedState
state_in key p h = derived_state key p (accesses_in (front h.lists))

-- By that list the next access of peer p is this one. It begins this call, or is a step of the open
-- one.
abbrev pub IsNextIn : RunSetup → ℕ → PassView → Option Call → Access → Type 0
IsNextIn key p h begins a = IsNext key p (state_in key p h) begins a

-- The pass's first peer may make this access: a hostile one makes any, and an honest one the next
-- of its calls.
abbrev pub MayAccess : RunSetup → PassView → Option Call → Access → Type 0
MayAccess key h begins a = honest_of key h.from ≡ true → IsNextIn key h.from h begins a

-- The words were made for this scenario, and the pass is of them and has all peers.
abbrev pub IsWhole : World → TableId → RunSetup → PassView → Type 0
IsWhole world id key h = IsMadeFor world key × IsPassOf id key h × (h.from ≡ 0) × (length h.lists ≡ key.geometry.peers)

-- No peer of the pass has an action.
abbrev pub IsUnused : RunSetup → PassView → Type 0
IsUnused key h = h.lists ≡ replicate key.geometry.peers []

-- The actions of a peer, by a pass that has all peers.
abbrev pub shown : List (Action (MemoryOp CallAccess)) → List (Action (MemoryOp ObservedAccess))
shown list = map (seen_by (memory_op_by observed_of)) list

abbrev pub actions_of : PassView → ℕ → List (Action (MemoryOp ObservedAccess))
actions_of h p = shown (get_or h.lists p [])

abbrev pub held : TableId → ℕ → List (List (Action (MemoryOp CallAccess))) → PassView
held id from lists = record { table_id = id; from = from; lists = lists }

-- The pass with one more action of its first peer.
abbrev pub added : PassView → Action (MemoryOp CallAccess) → PassView
added h t = held h.table_id h.from (added_to h.lists t)

abbrev pub lower_pass : ℕ → PassView → PassView
lower_pass p h = held h.table_id h.from (take (p - h.from) h.lists)

abbrev pub upper_pass : ℕ → PassView → PassView
upper_pass p h = held h.table_id p (drop (p - h.from) h.lists)

abbrev pub join_passes : PassView → PassView → PassView
join_passes h j = held h.table_id h.from (h.lists ++ j.lists)
