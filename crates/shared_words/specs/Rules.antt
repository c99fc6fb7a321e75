-- The invariant of a table, and the reports of its steps.
use Rattle.std.specs.Prelude.{ℕ, ◌≡◌, ◌≢◌, ◌+◌, ◌-◌, ◌^◌, ◌<◌, ◌≤◌, ◌↔◌, true, false, Option, List, [], ◌∷◌, ◌++◌, length, slice_index, take, drop, replicate, get_or, All, Contains}
use Rattle.std.specs.Int.{bit_at}
use mathlib.Core.Option.{some}
use lib.ListN.{get_elem?}
use Rattle.atomic_table.specs.Table.{State, Me, Step}
use Rattle.section_map.specs.Geometry.{word_count}
use Rattle.split_ring.specs.Layout.{has_events}
use Rattle.split_ring.specs.declared.steps.Access.TheVariants as access
use Rattle.call_grammar.specs.Calls.{Call}
use Rattle.call_grammar.specs.Places.{Refusing}
use Rattle.link_machine.specs.LinkMachine.{Ended, Log, DeliversInOrder}
use Rattle.pair_sessions.specs.Numbers.{own_side}
use Rattle.shared_words.specs.declared.run_setup.RunSetup.{RunSetup}
use Rattle.shared_words.specs.declared.view.View.{View}
use Rattle.shared_words.specs.RunSetups.{honest_of, IsFit}
use Rattle.shared_words.specs.DerivedStates.{FrameNumber, At, CallAccess, call_access, MemoryOp, called, numbered, carried, restarted, derived_state, NeverMarked}
use Rattle.shared_words.specs.Actions.{Action, accessed, rang, looked, cleared, accesses_in}
use Rattle.shared_words.specs.Interrupts.{session_word, all_words, IsOneShot, MayRing, AreRung}
pub use Rattle.shared_words.specs.SharedMemory.{IsOwned}
use Rattle.shared_words.specs.ActionsMade.{ActionsMade}

-- The words of the region come first, and those of the sessions last. The memory operations of each
-- peer made them.
abbrev pub region : RunSetup → List ℕ → ℕ → ℕ
region key words w = slice_index (take (word_count key.geometry) words) w

abbrev pub session_words : RunSetup → List ℕ → ℕ → ℕ
session_words key words p = slice_index words (session_word key p)

abbrev pub accesses_by : (ℕ → List (Action (MemoryOp CallAccess))) → ℕ → List (MemoryOp CallAccess)
accesses_by acc p = accesses_in (acc p)

-- The rule of the words `words` and the lists `acc`. The first words are the region's, each below
-- 2^32. Two words for interrupts of each peer follow the region's words, and then a session word of
-- each link peer, also below 2^32. All words are what the actions of the lists made of them, one
-- after another.
pub record Memory (key : RunSetup) (words : List ℕ) (acc : ℕ → List (Action (MemoryOp CallAccess))) : Type 0 where
  pub sized : length words ≡ all_words key
  pub small : (w : ℕ) → w < word_count key.geometry → slice_index words w < 2 ^ 32
  pub numbers : (p : ℕ) → p < 2 → session_words key words p < 2 ^ 32
  pub happened : ActionsMade key (λ w. slice_index words w) acc

-- The holder `id` of a range of peers has the view `v`. The range is within the `peers` peers,
-- `holder` maps each peer of the range to `id`, and `v` has the list of each by `acc`.
pub record Fits (peers : ℕ) (holder : ℕ → ℕ) (acc : ℕ → List (Action (MemoryOp CallAccess))) (id : ℕ) (v : View) : Type 0 where
  pub inside : v.from + length v.lists ≤ peers
  pub mine : (k : ℕ) → k < length v.lists → holder (v.from + k) ≡ id
  pub known : (k : ℕ) (l : List (Action (MemoryOp CallAccess))) → get_elem? v.lists k ≡ some l → acc (v.from + k) ≡ l

-- Each peer has one holder, by `holder`, and one list of actions, by `acc`. The lists made the
-- words.
pub record TableInvariant (key : RunSetup) (s : State ℕ View) : Type 0 where
  pub holder : ℕ → ℕ
  pub acc : ℕ → List (Action (MemoryOp CallAccess))
  pub fits : (id : ℕ) (v : View) → get_elem? s.views id ≡ some v → Fits key.geometry.peers holder acc id v
  pub fit : IsFit key
  pub memory : Memory key s.words acc

-- Views

abbrev pub view : ℕ → List (List (Action (MemoryOp CallAccess))) → View
view from lists = record { from = from; lists = lists }

abbrev pub initial_view : RunSetup → View
initial_view key = view 0 (replicate key.geometry.peers [])

-- The first list, and the lists with one more action in it.
abbrev pub front : List (List (Action (MemoryOp CallAccess))) → List (Action (MemoryOp CallAccess))
front [] = []
front (list ∷ lists) = list

abbrev pub added_to : List (List (Action (MemoryOp CallAccess))) → Action (MemoryOp CallAccess) → List (List (Action (MemoryOp CallAccess)))
added_to [] t = []
added_to (l ∷ ls) t = (l ++ t ∷ []) ∷ ls

abbrev pub more : View → Action (MemoryOp CallAccess) → View
more v t = view v.from (added_to v.lists t)

abbrev pub joined : View → View → View
joined v u = view v.from (v.lists ++ u.lists)

-- The peers below p, and the others.
abbrev pub lower : ℕ → View → View
lower p v = view v.from (take (p - v.from) v.lists)

abbrev pub upper : ℕ → View → View
upper p v = view p (drop (p - v.from) v.lists)

-- Reports of steps.

abbrev pub reads : Option Call → Step ℕ → Me ℕ View → ℕ → Me ℕ View → Type 0
reads call st m n t = (t ≡ (more m.0 (accessed (called (call_access call (access.Read st.word) n))), m.1)) × (n < 2 ^ 32)

abbrev pub writes : Option Call → Step ℕ → Me ℕ View → ℕ → Me ℕ View → Type 0
writes call st m n t = t ≡ (more m.0 (accessed (called (call_access call (access.Write st.word n) 0))), m.1)

abbrev pub sets : Option Call → Step ℕ → Me ℕ View → ℕ → Me ℕ View → Type 0
sets call st m n t = t ≡ (more m.0 (accessed (called (call_access call (access.State n) 0))), m.1)

-- The store of the own session word, the load of the other's, and the reset's store of 0 to the own
-- state word.
abbrev pub stores_number : Step ℕ → Me ℕ View → ℕ → Me ℕ View → Type 0
stores_number st m n t = t ≡ (more m.0 (accessed (numbered n)), m.1)

abbrev pub loads_number : Step ℕ → Me ℕ View → ℕ → Me ℕ View → Type 0
loads_number st m n t = (t ≡ (more m.0 (accessed (carried n)), m.1)) × (n < 2 ^ 32)

abbrev pub resets : Step ℕ → Me ℕ View → ℕ → Me ℕ View → Type 0
resets st m n t = t ≡ (more m.0 (accessed restarted), m.1)

abbrev pub looks : Step ℕ → Me ℕ View → ℕ → Me ℕ View → Type 0
looks st m n t = t ≡ (more m.0 (looked n), m.1)

abbrev pub rings_at : ℕ → ℕ → Step ℕ → Me ℕ View → ℕ → Me ℕ View → Type 0
rings_at target bit st m n t = t ≡ (more m.0 (rang target bit), m.1)

-- A clear at `target`: if it finds the bit of a one-shot target, one more ring may be made.
abbrev pub clears : RunSetup → ℕ → Step ℕ → Me ℕ View → ℕ → Me ℕ View → Type 0
clears key target st m n t = (t ≡ (more m.0 (cleared target n), m.1)) × (IsOneShot key target → bit_at n 0 ≡ 1 → MayRing target (front t.0.lists))

-- The list of peer p, if the lists of all peers are here.
abbrev pub list_of : List (List (Action (MemoryOp CallAccess))) → ℕ → List (Action (MemoryOp CallAccess))
list_of lists p = get_or lists p []

-- The lists of two honest ends: each delivers in order what the other accepted, through all
-- sessions by their numbers. Neither is refusing or ever had the mark of a refusal.
pub record SessionsAreLearned (key : RunSetup) (acc : ℕ → List (MemoryOp CallAccess)) : Type 0 where
  pub deliver : (p : ℕ) → p < 2 → DeliversInOrder (own_side (derived_state key p (acc p)).end) (own_side (derived_state key (1 - p) (acc (1 - p))).end)
      (derived_state key p (acc p)).numbers.log (derived_state key (1 - p) (acc (1 - p))).numbers.log
  pub never_refuse : (p : ℕ) → p < 2 → ((derived_state key p (acc p)).place ≢ Refusing) × NeverMarked key p (acc p)

-- No session that reached RUN carries a number: each carries 0.
abbrev pub CarriesNone : Log → Type 0
CarriesNone log = (log.carried ≡ 0) × All (λ (session : Ended). session.carried ≡ 0) log.ended

-- If one of them requests a doorbell at a frame of the session carried then, the other's offer of
-- that frame didn't end without it.
abbrev pub NoneIsMissed : RunSetup → (ℕ → List (MemoryOp CallAccess)) → Type 0
NoneIsMissed key acc = (p : ℕ) (frame : FrameNumber) → p < 2 → (derived_state key p (acc p)).wake.asked ≡ At frame →
    ¬ Contains (derived_state key (1 - p) (acc (1 - p))).wake.missed frame

-- The facts that are learned if all lists are here. Interrupts follow the rings of the lists. Two
-- honest peers agree, and in a link with events each rings for the other's requests. The sessions
-- of an honest peer whose other is hostile carry none.
pub record AllIsLearned (key : RunSetup) (acc : ℕ → List (Action (MemoryOp CallAccess))) : Type 0 where
  pub pair : honest_of key 0 ≡ true → honest_of key 1 ≡ true → SessionsAreLearned key (accesses_by acc)
  pub woken : has_events key.queue ≡ true → honest_of key 0 ≡ true → honest_of key 1 ≡ true → NoneIsMissed key (accesses_by acc)
  pub neighbour_word : (p : ℕ) → p < 2 → honest_of key p ≡ true → honest_of key (1 - p) ≡ false →
      CarriesNone (derived_state key p (accesses_by acc p)).numbers.log
  pub rung : AreRung key acc

abbrev pub IsLearned : RunSetup → ℕ → List (List (Action (MemoryOp CallAccess))) → Type 0
IsLearned key from lists = from ≡ 0 → length lists ≡ key.geometry.peers → AllIsLearned key (list_of lists)

abbrev pub learns : RunSetup → Step ℕ → Me ℕ View → ℕ → Me ℕ View → Type 0
learns key st m n t = (t ≡ m) × IsLearned key m.0.from m.0.lists

-- The play `then` reports exactly `said`.
abbrev pub LearnsExactly : (Step ℕ → Me ℕ View → ℕ → Me ℕ View → Type 0) → (Step ℕ → Me ℕ View → ℕ → Me ℕ View → Type 0) → Type 0
LearnsExactly then said = (st : Step ℕ) (m : Me ℕ View) (n : ℕ) (t : Me ℕ View) → then st m n t ↔ said st m n t
