-- The weak memory. C11: all modifications of an object occur in one total order. Here each word has
-- one writer: a list of moments, one after each action of an end, says all that the end stored. An
-- end's knowledge of the other is the number of the other's moments that it knows, its view. C11's
-- sentences are of 5.1.2.4 and 7.17.3. docs/ORDERS.md has each rule in the words of Arm, and what
-- is left out.
use Rattle.std.specs.Prelude.{ℕ, suc, ◌≡◌, ◌+◌, ◌-◌, ◌<◌, ◌≤◌, ◌⊎◌, ◌==◌, ◌&&◌, ◌||◌, nat_le, nat_lt, Bool, true, false, if◌then◌else◌}
use Rattle.split_ring.specs.declared.steps.Access.{Access}
use Rattle.split_ring.specs.declared.steps.Access.TheVariants as access
use Rattle.call_grammar.specs.Ends.{End, after_reset, end_after}
use Rattle.call_grammar.specs.Calls.{Call}
use Rattle.call_grammar.specs.Places.{Place, Closed, first_place, access_at, next_place, step_at, is_open}
use Rattle.link_invariant.specs.LinkConfig.{LinkConfig, section_of, config_of, IsGivenTo}
use Rattle.link_invariant.specs.Steps.{Stored, MemoryAfter}
use Rattle.weak_orders.specs.Orders.{acquires, releases, owes}

-- An end starts, begins a call, makes a full fence, or is reset. Or it takes the step at its place,
-- whose load gives this value. Or it receives the doorbell that the other rang as its action after
-- moment k.
pub data Action : Type 0 where
  Starts : Action
  Begins : (call : Call) → Action
  Takes : (value : ℕ) → Action
  Fences : Action
  Receives : (k : ℕ) → Action
  Resets : Action

-- An end after an action: its own words, the end and its place, its view, and the moment of its
-- last full fence. `owed` is true if it makes a full fence before its next step.
pub record Moment : Type 0 where
  pub action : Action
  pub words : ℕ → ℕ
  pub end : End
  pub place : Place
  pub view : ℕ
  pub fenced : ℕ
  pub owed : Bool

-- The access of an action, and whether it is a store-release. A reset stores State with the order
-- of any store of the own State.
abbrev pub access_of : LinkConfig → ℕ → Place → Action → Access
access_of link_config p place (Takes value) = access_at (config_of link_config p) place
access_of link_config p place Resets = access.State 0
access_of link_config p place _ = access.Nothing

abbrev pub is_release : Place → Action → Bool
is_release place (Takes value) = releases place
is_release place Resets = true
is_release place _ = false

-- The words of end p: its state and its section.
abbrev pub is_own : LinkConfig → ℕ → ℕ → Bool
is_own link_config p w = (w == p) || (nat_le (section_of link_config p) w && nat_lt w (section_of link_config p + link_config.words))

-- The words as end p finds them: its own as it stored them, and the others as the other had them.
unfoldable pub seen : LinkConfig → ℕ → (own opposite : ℕ → ℕ) → ℕ → ℕ
seen link_config p own opposite w = if is_own link_config p w then own w else opposite w

-- The access of end q stores to this word.
abbrev pub StoresTo : ℕ → Access → ℕ → Type 0
StoresTo q (access.Write at n) word = word ≡ at
StoresTo q (access.State state) word = word ≡ q
StoresTo q _ word = ⊥

abbrev pub Stores : LinkConfig → ℕ → (ℕ → Moment) → ℕ → ℕ → Type 0
Stores link_config q past k word = StoresTo q (access_of link_config q (past k).place (past (suc k)).action) word

-- C11: a load takes the value of a store that it doesn't happen before, and that no other store
-- hides which happens before the load. Here: the word at the view, or after any later store of the
-- other, in any order of earlier loads. C11: a release synchronizes with the acquire that takes its
-- value. Here: the view comes to that store.
abbrev pub Gives : LinkConfig → ℕ → (old new : Moment) → (base : ℕ) → (opposite : ℕ → Moment) → (now word value : ℕ) → Type 0
Gives link_config p old new base opposite now word value =
    (value ≡ seen link_config p old.words (opposite base).words word) ⊎
    ((k : ℕ) × (base ≤ k) × (k < now) × Stores link_config (1 - p) opposite k word × (value ≡ seen link_config p old.words (opposite (suc k)).words word) ×
    (acquires old.place ≡ true → is_release (opposite k).place (opposite (suc k)).action ≡ true → suc k ≤ new.view))

abbrev pub LoadsBy : LinkConfig → ℕ → (old new : Moment) → (base : ℕ) → (opposite : ℕ → Moment) → (now value : ℕ) → Access → Type 0
LoadsBy link_config p old new base opposite now value (access.Read word) = Gives link_config p old new base opposite now word value
LoadsBy link_config p old new base opposite now value _ = Unit {0}

-- ARM: a store-release is observed after all that comes before it in program order, a store to a
-- device as any other. Here: the view of an end that receives a doorbell includes its store.
abbrev pub Received : LinkConfig → ℕ → (new : Moment) → (opposite : ℕ → Moment) → ℕ → Type 0
Received link_config p new opposite k = (access_of link_config (1 - p) (opposite k).place (opposite (suc k)).action ≡ access.Ring p link_config.vector) ×
    (is_release (opposite k).place (opposite (suc k)).action ≡ true → suc k ≤ new.view)

abbrev pub Loads : LinkConfig → ℕ → (old new : Moment) → (base : ℕ) → (opposite : ℕ → Moment) → (now : ℕ) → Action → Type 0
Loads link_config p old new base opposite now (Takes value) = LoadsBy link_config p old new base opposite now value (access_at (config_of link_config p) old.place)
Loads link_config p old new base opposite now (Receives k) = (k < now) × Received link_config p new opposite k
Loads link_config p old new base opposite now _ = Unit {0}

-- C11: sequentially consistent fences are in one order. A load after the later fence gives a store
-- before the earlier one, or a later store. Here: the view comes to the other's last fence.
abbrev pub FencedBy : (old new : Moment) → (at : ℕ) → (opposite : ℕ → Moment) → ℕ → Action → Type 0
FencedBy old new at opposite now Fences = ((opposite now).fenced ≤ new.view) × (new.fenced ≡ at)
FencedBy old new at opposite now _ = new.fenced ≡ old.fenced

-- The knowledge of end p after its action, its moment `at`, if the other is at its moment `now`.
-- C11: happens before is transitive. Here: the view never falls. It may rise by more than the rules
-- ask, so the runs of stronger memory are here too. It is at most `now`: no load gives a later
-- store.
pub record Knows (link_config : LinkConfig) (p : ℕ) (old new : Moment) (at : ℕ) (opposite : ℕ → Moment) (now : ℕ) : Type 0 where
  pub base : ℕ
  pub rises : old.view ≤ base
  pub keeps : base ≤ new.view
  pub known : new.view ≤ now
  pub fence : FencedBy old new at opposite now new.action
  pub loads : Loads link_config p old new base opposite now new.action

-- The actions of end p, by the call grammar. C11: a fence is sequenced between two accesses. Here:
-- the end takes no step while it owes a full fence.
abbrev pub Does : LinkConfig → ℕ → (old new : Moment) → Action → Type 0
Does link_config p old new Starts = ⊥
Does link_config p old new (Begins call) =
    IsGivenTo link_config call × (old.place ≡ Closed) × (new.words ≡ old.words) × (new.end ≡ old.end) × (new.place ≡ first_place (config_of link_config p) old.end call) ×
    (new.owed ≡ old.owed)
Does link_config p old new (Takes value) =
    (is_open old.place ≡ true) × MemoryAfter p old.words (access_at (config_of link_config p) old.place) new.words ×
    (new.end ≡ end_after old.end (step_at (config_of link_config p) old.place value)) × (new.place ≡ next_place (config_of link_config p) old.place value) ×
    (old.owed ≡ false) × (new.owed ≡ owes old.place new.place)
Does link_config p old new Fences = (new.words ≡ old.words) × (new.end ≡ old.end) × (new.place ≡ old.place) × (new.owed ≡ false)
Does link_config p old new (Receives k) = (new.words ≡ old.words) × (new.end ≡ old.end) × (new.place ≡ old.place) × (new.owed ≡ old.owed)
Does link_config p old new Resets = Stored old.words new.words p 0 × (new.end ≡ after_reset old.end) × (new.place ≡ Closed) × (new.owed ≡ true)
