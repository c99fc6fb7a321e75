-- Two memories whose runs are weak runs: the sequentially consistent one of all other theorems, and
-- that of x86 with its store buffers. The weak memory has more runs: a load may give an earlier
-- word.
use Rattle.std.specs.Prelude.{ℕ, suc, ◌≡◌, ◌-◌, ◌<◌, ◌≤◌, true, false}
use Rattle.split_ring.specs.declared.steps.Access.TheVariants as access
use Rattle.call_grammar.specs.Ends.{End}
use Rattle.call_grammar.specs.Places.{Place, access_at}
use Rattle.link_invariant.specs.LinkConfig.{LinkConfig, IsLinkConfig, config_of}
use Rattle.link_invariant.specs.Steps.{ReadsMemory}
use Rattle.link_invariant.specs.Runs.{HonestRuns}
use Rattle.weak_orders.specs.Memory.{Moment, Action, Takes, Fences, Receives, Does, access_of, is_own, seen}
use Rattle.weak_orders.specs.Runs.{WeakRuns, IsFirst}

-- The moment has this end and this place, and its own words are those of memory.
pub record IsMomentOf (link_config : LinkConfig) (memory : ℕ → ℕ) (p : ℕ) (end : End) (place : Place) (m : Moment) : Type 0 where
  pub end_is : m.end ≡ end
  pub place_is : m.place ≡ place
  pub words : (w : ℕ) → is_own link_config p w ≡ true → m.words w ≡ memory w

-- A weak run leads to these two ends.
pub record HasWeakRun (link_config : LinkConfig) (memory : ℕ → ℕ) (ends : ℕ → End) (places : ℕ → Place) : Type 0 where
  pub pasts : ℕ → ℕ → Moment
  pub now : ℕ → ℕ
  pub run : WeakRuns link_config pasts now
  pub are : (p : ℕ) → p < 2 → IsMomentOf link_config memory p (ends p) (places p) (pasts p (now p))

-- Each run of two honest ends over sequentially consistent memory is a weak run.
abbrev pub SequentialRunsAreWeak : Type 0
SequentialRunsAreWeak = (link_config : LinkConfig) (memory : ℕ → ℕ) (ends : ℕ → End) (places : ℕ → Place) → IsLinkConfig link_config →
    HonestRuns link_config memory ends places → HasWeakRun link_config memory ends places

-- x86-TSO. The stores of an end, and its doorbells, pass through its store buffer, first in first
-- out. So memory has its words as they were at one of its moments: `out p` moments of end p have
-- left its buffer. A load of the other's words gives what memory has, and the view is that moment.
pub record IsBuffered (link_config : LinkConfig) (p : ℕ) (old new : Moment) (opposite : ℕ → Moment) (out : ℕ) : Type 0 where
  pub view : new.view ≡ out
  pub loads : (value : ℕ) → new.action ≡ Takes value → ReadsMemory (seen link_config p old.words (opposite out).words) (access_at (config_of link_config p) old.place) value
  pub receives : (k : ℕ) → new.action ≡ Receives k → (k < out) × (access_of link_config (1 - p) (opposite k).place (opposite (suc k)).action ≡ access.Ring p link_config.vector)

-- A full fence empties the end's own buffer.
abbrev pub IsFenced : (old new : Moment) → (at out : ℕ) → Action → Type 0
IsFenced old new at out Fences = (out ≡ at) × (new.fenced ≡ at)
IsFenced old new at out _ = new.fenced ≡ old.fenced

-- A run: in each turn, moments leave the two buffers, and then end p takes an action.
pub data BufferedRuns (link_config : LinkConfig) (pasts : ℕ → ℕ → Moment) : (now out : ℕ → ℕ) → Type 0 where
  starts : (now out : ℕ → ℕ) → ((p : ℕ) → now p ≡ 0) → ((p : ℕ) → out p ≡ 0) → ((p : ℕ) → IsFirst (pasts p 0)) → BufferedRuns link_config pasts now out
  goes : (now next out left : ℕ → ℕ) (p : ℕ) → BufferedRuns link_config pasts now out → p < 2 → out p ≤ left p → left p ≤ next p →
      out (1 - p) ≤ left (1 - p) → left (1 - p) ≤ next (1 - p) →
      Does link_config p (pasts p (now p)) (pasts p (suc (now p))) (pasts p (suc (now p))).action →
      IsBuffered link_config p (pasts p (now p)) (pasts p (suc (now p))) (pasts (1 - p)) (left (1 - p)) →
      IsFenced (pasts p (now p)) (pasts p (suc (now p))) (suc (now p)) (left p) (pasts p (suc (now p))).action →
      next p ≡ suc (now p) → next (1 - p) ≡ now (1 - p) → BufferedRuns link_config pasts next left

-- Each run of two honest ends over x86-TSO is a weak run.
abbrev pub StoreBufferRunsAreWeak : Type 0
StoreBufferRunsAreWeak = (link_config : LinkConfig) (pasts : ℕ → ℕ → Moment) (now out : ℕ → ℕ) → BufferedRuns link_config pasts now out → WeakRuns link_config pasts now

-- A weak run in which end p is at this moment, and the other end at that one.
pub record ComesTo (link_config : LinkConfig) (p : ℕ) (mine opposite : Moment) : Type 0 where
  pub pasts : ℕ → ℕ → Moment
  pub now : ℕ → ℕ
  pub run : WeakRuns link_config pasts now
  pub here : pasts p (now p) ≡ mine
  pub there : pasts (1 - p) (now (1 - p)) ≡ opposite

-- A run continues by a load that gives the word at moment i of the other, for each i from the end's
-- view on.
abbrev pub LoadsMayBeStale : Type 0
LoadsMayBeStale = (link_config : LinkConfig) (pasts : ℕ → ℕ → Moment) (now : ℕ → ℕ) (p i word : ℕ) → IsLinkConfig link_config → WeakRuns link_config pasts now → p < 2 →
    (pasts p (now p)).owed ≡ false → access_at (config_of link_config p) (pasts p (now p)).place ≡ access.Read word → (pasts p (now p)).view ≤ i → i ≤ now (1 - p) →
    (new : Moment) × (new.action ≡ Takes (seen link_config p (pasts p (now p)).words (pasts (1 - p) i).words word)) × ComesTo link_config p new (pasts (1 - p) (now (1 - p)))
