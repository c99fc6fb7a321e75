-- Sessions and their numbers. Each end has a session word. Before its State step with 2 an end
-- stores there the number of the session that it opens. Directly before its State step with 3 it
-- loads the other's session word, the number of the session that it carries.
use Rattle.std.specs.Prelude.{ℕ, ◌≡◌, ◌≢◌, ◌+◌, ◌-◌, ◌<◌, ◌≤◌, ◌⊎◌, ◌==◌, if◌then◌else◌, Bool, true, false, Option, Some, None}
use Rattle.split_ring.specs.declared.steps.Access.{Access}
use Rattle.split_ring.specs.declared.steps.Access.TheVariants as access
use Rattle.link_handshake.specs.declared.Phase.TheVariants.{Init}
use Rattle.link_handshake.specs.PhaseTable.{state_of}
use Rattle.call_grammar.specs.Ends.{End, fresh}
use Rattle.call_grammar.specs.Calls.{Call}
use Rattle.call_grammar.specs.Places.{Place, Closed, WritingState, access_at}
use Rattle.link_machine.specs.LinkMachine.{Side, initial_side, SideEvent, Wrote, WasReset, Log, no_sessions, log_after, MachineRuns, DeliversInOrder}
use Rattle.link_invariant.specs.LinkConfig.{LinkConfig, IsLinkConfig, config_of}
use Rattle.link_invariant.specs.Steps.{IsUntouched, BeginsCall, TakesStep, IsReset}
use Rattle.link_invariant.specs.Sides.{SideIs}
use Rattle.link_invariant.specs.Runs.{HonestRuns}

-- The sessions of an end, whether it stored its session word since it opened one, and the number
-- loaded for its next State step.
pub record Numbers : Type 0 where
  pub log : Log
  pub stored : Bool
  pub loaded : Option ℕ

abbrev pub no_numbers : Numbers
no_numbers = record { log = no_sessions; stored = false; loaded = None }

abbrev pub number_of : Option ℕ → ℕ
number_of None = 0
number_of (Some number) = number

-- An end as a side of the machine, in the fields on which its sessions depend.
abbrev pub own_side : End → Side
own_side end = record initial_side { state = state_of end.handshake.phase; accepted = end.accepted; delivered = end.delivered }

-- The log after a side event, where the session of the other is the one that was loaded.
abbrev pub log_after_event : Numbers → End → SideEvent → Log
log_after_event n end side_event = log_after n.log (record no_sessions { opened = number_of n.loaded }) (own_side end) side_event

-- The numbers of an end after an access of a call, a reset, a store and a load.
abbrev pub numbers_after : Numbers → End → Access → Numbers
numbers_after n end (access.State state) = record { log = log_after_event n end (Wrote state); stored = if state == 2 then false else n.stored; loaded = None }
numbers_after n end _ = n

abbrev pub numbers_reset : Numbers → End → Numbers
numbers_reset n end = record { log = log_after_event n end WasReset; stored = n.stored; loaded = None }

abbrev pub with_stored : Numbers → Numbers
with_stored n = record { log = n.log; stored = true; loaded = n.loaded }

abbrev pub with_loaded : Numbers → ℕ → Numbers
with_loaded n number = record { log = n.log; stored = n.stored; loaded = Some number }

-- A State step with 2 follows a store of the session word, and one with 3 follows a load of the
-- other's.
abbrev pub IsNumbered : Numbers → Access → Type 0
IsNumbered n (access.State state) = (state ≡ 2 → n.stored ≡ true) × (state ≡ 3 → n.loaded ≢ None)
IsNumbered n _ = Unit {0}

-- End p has these numbers, and the other's stay.
pub record OnlyNumbers (numbers next : ℕ → Numbers) (p : ℕ) (n : Numbers) : Type 0 where
  pub here : next p ≡ n
  pub neighbour_word : (q : ℕ) → q ≢ p → next q ≡ numbers q

-- The states that two honest ends with numbered sessions can reach. They begin calls, make their
-- steps and are reset as in other runs. In addition, an end in INIT stores the next number in its
-- session word, and one that is about to set RUN loads the other's.
pub data NumberedRuns (link_config : LinkConfig) : (memory words : ℕ → ℕ) → (ℕ → End) → (ℕ → Place) → (ℕ → Numbers) → Type 0 where
  starts : (memory words : ℕ → ℕ) (ends : ℕ → End) (places : ℕ → Place) (numbers : ℕ → Numbers) → ((w : ℕ) → memory w ≡ 0) → ((p : ℕ) → words p ≡ 0) →
      ((p : ℕ) → ends p ≡ fresh) → ((p : ℕ) → places p ≡ Closed) → ((p : ℕ) → numbers p ≡ no_numbers) → NumberedRuns link_config memory words ends places numbers
  begins : (memory words : ℕ → ℕ) (ends after_ends : ℕ → End) (places after_places : ℕ → Place) (numbers : ℕ → Numbers) (p : ℕ) (call : Call) →
      NumberedRuns link_config memory words ends places numbers → p < 2 → BeginsCall link_config ends after_ends places after_places p call →
      NumberedRuns link_config memory words after_ends after_places numbers
  steps : (memory after words : ℕ → ℕ) (ends after_ends : ℕ → End) (places after_places : ℕ → Place) (numbers next : ℕ → Numbers) (p value : ℕ) →
      NumberedRuns link_config memory words ends places numbers → p < 2 → TakesStep link_config memory after ends after_ends places after_places p value →
      IsNumbered (numbers p) (access_at (config_of link_config p) (places p)) →
      OnlyNumbers numbers next p (numbers_after (numbers p) (ends p) (access_at (config_of link_config p) (places p))) →
      NumberedRuns link_config after words after_ends after_places next
  resets : (memory after words : ℕ → ℕ) (ends after_ends : ℕ → End) (places after_places : ℕ → Place) (numbers next : ℕ → Numbers) (p : ℕ) →
      NumberedRuns link_config memory words ends places numbers → p < 2 → IsReset memory after ends after_ends places after_places p →
      OnlyNumbers numbers next p (numbers_reset (numbers p) (ends p)) → NumberedRuns link_config after words after_ends after_places next
  others : (memory after words : ℕ → ℕ) (ends : ℕ → End) (places : ℕ → Place) (numbers : ℕ → Numbers) →
      NumberedRuns link_config memory words ends places numbers → ((q : ℕ) → q < 2 → IsUntouched link_config memory after q) →
      NumberedRuns link_config after words ends places numbers
  stores : (memory words now : ℕ → ℕ) (ends : ℕ → End) (places : ℕ → Place) (numbers next : ℕ → Numbers) (p : ℕ) →
      NumberedRuns link_config memory words ends places numbers → p < 2 → (ends p).handshake.phase ≡ Init → now p ≡ (numbers p).log.opened + 1 →
      ((q : ℕ) → q ≢ p → now q ≡ words q) → OnlyNumbers numbers next p (with_stored (numbers p)) → NumberedRuns link_config memory now ends places next
  loads : (memory words : ℕ → ℕ) (ends : ℕ → End) (places : ℕ → Place) (numbers next : ℕ → Numbers) (p : ℕ) →
      NumberedRuns link_config memory words ends places numbers → p < 2 → places p ≡ WritingState 3 →
      OnlyNumbers numbers next p (with_loaded (numbers p) (words (1 - p))) → NumberedRuns link_config memory words ends places next

-- The session word is the number of sessions opened. After a store it is one more, and the end is
-- in RESET or INIT.
abbrev pub WordIs : End → Numbers → ℕ → Type 0
WordIs end n word = ((n.stored ≡ false) × (word ≡ n.log.opened)) ⊎ ((n.stored ≡ true) × (word ≡ n.log.opened + 1) × (state_of end.handshake.phase ≤ 1))

-- The end is in RUN, or about to set it.
abbrev pub IsCarrying : End → Place → Type 0
IsCarrying end place = (state_of end.handshake.phase ≡ 3) ⊎ (place ≡ WritingState 3)

-- The end is in INIT or READY, or about to set INIT.
abbrev pub IsOpening : End → Place → Type 0
IsOpening end place = (state_of end.handshake.phase ≡ 1) ⊎ ((state_of end.handshake.phase ≡ 2) ⊎ ((state_of end.handshake.phase ≡ 0) × (place ≡ WritingState 1)))

-- The numbers `n` of one end, at its place, against the numbers `m` of the other:
-- - the end delivers in order by its own log;
-- - the session that it carried was opened, and is older than the one that it carries next;
-- - the number that it loaded is the session that the other opened last;
-- - its session word is its own session's number while the other carries that session.
pub record IsPaired (end other : End) (place others_place : Place) (n m : Numbers) (word : ℕ) : Type 0 where
  pub deliver : DeliversInOrder (own_side end) (own_side other) n.log m.log
  pub one : 2 ≤ state_of end.handshake.phase → 1 ≤ n.log.opened
  pub risen : n.log.carried ≤ m.log.opened
  pub on_the_way : IsOpening end place → 2 ≤ state_of other.handshake.phase → n.log.carried < m.log.opened
  pub attends : place ≡ WritingState 3 → n.log.carried < m.log.opened
  pub loaded : (number : ℕ) → n.loaded ≡ Some number → (number ≡ m.log.opened) × (place ≡ WritingState 3)
  pub word_is : WordIs end n word
  pub carried : IsCarrying other others_place → word ≡ n.log.opened

-- The runs are runs of honest ends, and of the link machine. The machine's logs are the logs of the
-- ends, by the numbers that they load, and the sessions are paired.
abbrev pub SessionsArePaired : Type 0
SessionsArePaired = (link_config : LinkConfig) (memory words : ℕ → ℕ) (ends : ℕ → End) (places : ℕ → Place) (numbers : ℕ → Numbers) → IsLinkConfig link_config →
    NumberedRuns link_config memory words ends places numbers → HonestRuns link_config memory ends places ×
    ((sides : ℕ → Side) × (logs : ℕ → Log) × MachineRuns link_config.sizes (λ p. true) sides logs ×
    ((p : ℕ) → p < 2 → SideIs (ends p) (places p) (sides p) × ((numbers p).log ≡ logs p) ×
    IsPaired (ends p) (ends (1 - p)) (places p) (places (1 - p)) (numbers p) (numbers (1 - p)) (words p)))
