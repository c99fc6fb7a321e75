-- The actions of a peer on the words, and its derived state after a list of memory operations.
use Rattle.std.specs.Prelude.{ℕ, zero, suc, ◌≡◌, ◌≢◌, ◌+◌, ◌-◌, ◌==◌, true, false, Option, Some, None, List, [], ◌∷◌, ◌++◌, length, if◌then◌else◌}
use Rattle.split_ring.specs.Layout.{word_offset, AvailEvent}
use Rattle.split_ring.specs.declared.steps.Access.{Access}
use Rattle.split_ring.specs.declared.steps.Access.TheVariants as access
use Rattle.call_grammar.specs.Steps.{Mark, Look, Over, value_given}
use Rattle.call_grammar.specs.Ends.{End, fresh, after_reset, end_after}
use Rattle.call_grammar.specs.Calls.{EndConfig, Call, Stop}
use Rattle.call_grammar.specs.Places.{Place, Closed, NotInRun, RingingOffer, RingingPoll, first_place, access_at, next_place, marks_at, step_at, is_open}
use Rattle.link_machine.specs.LinkMachine.{Log}
use Rattle.link_invariant.specs.LinkConfig.{LinkConfig, IsGivenTo}
use Rattle.pair_sessions.specs.Numbers.{Numbers, no_numbers, numbers_after, numbers_reset, with_stored, with_loaded, IsNumbered}
use Rattle.shared_words.specs.declared.run_setup.RunSetup.{RunSetup}
use Rattle.shared_words.specs.RunSetups.{config_in, link_config_of, honest_of}

-- An access to a word and its value: a read with the value that it returned, or a write with 0.
pub record ObservedAccess : Type 0 where
  pub access : Access
  pub value : ℕ

abbrev pub observed_access : Access → ℕ → ObservedAccess
observed_access a value = record { access = a; value = value }

-- The same, with the call that the access begins, if any. A read of the used index alone doesn't
-- determine the frame of its offer.
pub record CallAccess : Type 0 where
  pub begins : Option Call
  pub access : Access
  pub value : ℕ

abbrev pub call_access : Option Call → Access → ℕ → CallAccess
call_access begins a value = record { begins = begins; access = a; value = value }

abbrev pub observed_of : CallAccess → ObservedAccess
observed_of t = observed_access t.access (value_given t.access t.value)

-- The memory operations of a peer on the words of the region and of the sessions:
-- * `called`: an access of a call, or of a storm;
-- * `numbered`: a store of its session word, with the number of the session that it opens next;
-- * `carried`: a load of the other's session word, which finds `number`; the peer's next session
--   carries this number;
-- * `restarted`: the reset of the peer's device, by a store of 0 in the peer's own state word
pub data MemoryOp (A : Type 0) : Type 0 where
  called : (access : A) → MemoryOp A
  numbered : (number : ℕ) → MemoryOp A
  carried : (number : ℕ) → MemoryOp A
  restarted : MemoryOp A

-- The same operation, with its access mapped.
abbrev pub memory_op_by : {A B : Type 0} → (A → B) → MemoryOp A → MemoryOp B
memory_op_by f (called a) = called (f a)
memory_op_by f (numbered number) = numbered number
memory_op_by f (carried number) = carried number
memory_op_by f restarted = restarted

-- A frame of a link peer, by the number of the peer's session and its own number in that session,
-- from 0. `accepted_last` is the frame that was accepted last, in the session opened last.
-- `delivered_next` is the next frame to deliver, of the other's session that is carried.
pub record FrameNumber : Type 0 where
  pub session : ℕ
  pub number : ℕ

abbrev pub accepted_last : Log → (accepted : List (List ℕ)) → FrameNumber
accepted_last log accepted = record { session = log.opened; number = length accepted - 1 }

abbrev pub delivered_next : Log → (delivered : List (List ℕ)) → FrameNumber
delivered_next log delivered = record { session = log.carried; number = length delivered }

-- The doorbell that a receiver requests by its event word, as it wrote that word last:
-- * `Nowhere`: none;
-- * `Written`: none yet. It wrote the word, and no mark has come since;
-- * `At`: a doorbell at this frame of the other. The look after that write found no frame. No State
--   write and no reset ends the request.
pub data DoorbellRequest : Type 0 where
  Nowhere : DoorbellRequest
  Written : DoorbellRequest
  At : (frame : FrameNumber) → DoorbellRequest

-- The event word of this end.
abbrev pub event_word : EndConfig → ℕ
event_word config = config.own + word_offset config.sizes AvailEvent

-- The request after an access: a write of the event word withdraws it, also a write that clears the
-- word.
abbrev pub request_after_access : (event : ℕ) → DoorbellRequest → Access → DoorbellRequest
request_after_access event was (access.Write word value) = if word == event then Written else was
request_after_access event was other = was

-- The request after a mark other than a look, or after a reset: a request without its look lapses.
abbrev pub lapsed : DoorbellRequest → DoorbellRequest
lapsed Written = Nowhere
lapsed was = was

-- The request after a look, with `next` as the next frame to deliver.
abbrev pub request_after_look : (next : FrameNumber) → DoorbellRequest → (count : ℕ) → DoorbellRequest
request_after_look next Written zero = At next
request_after_look next was zero = was
request_after_look next was (suc more) = lapsed was

abbrev pub request_after_mark : (next : FrameNumber) → DoorbellRequest → Mark → DoorbellRequest
request_after_mark next was (Look count) = request_after_look next was count
request_after_mark next was mark = lapsed was

abbrev pub request_after_marks : (next : FrameNumber) → DoorbellRequest → List Mark → DoorbellRequest
request_after_marks next was [] = was
request_after_marks next was (mark ∷ marks) = request_after_marks next (request_after_mark next was mark) marks

-- The frames for which no doorbell was rung, after a read with these marks, if `last` is the frame
-- accepted last. A read of the other's event that ends the offer of this frame adds it.
abbrev pub missed_by : (last : FrameNumber) → List FrameNumber → List Mark → List FrameNumber
missed_by last was (Over ∷ []) = was ++ last ∷ []
missed_by last was marks = was

-- The doorbell that a peer requests, and the frames of all its sessions for which it rang none.
pub record Wake : Type 0 where
  pub asked : DoorbellRequest
  pub missed : List FrameNumber

abbrev pub at_rest : Wake
at_rest = record { asked = Nowhere; missed = [] }

-- The same after a step with these marks. A doorbell, and a call that finds the link down, touch no
-- word.
abbrev pub wake_after : (event : ℕ) → (last next : FrameNumber) → Wake → Access → List Mark → Wake
wake_after event last next wake (access.Read word) marks =
    record { asked = request_after_marks next wake.asked marks; missed = missed_by last wake.missed marks }
wake_after event last next wake (access.Write word value) marks =
    record { asked = request_after_marks next (request_after_access event wake.asked (access.Write word value)) marks; missed = wake.missed }
wake_after event last next wake (access.State state) marks = record { asked = request_after_marks next wake.asked marks; missed = wake.missed }
wake_after event last next wake _ marks = wake

abbrev pub wake_on : EndConfig → End → Log → Wake → Access → List Mark → Wake
wake_on config end log wake a marks =
    wake_after (event_word config) (accepted_last log end.accepted) (delivered_next log end.delivered) wake a marks

-- An end, its place in the open call, its sessions by their numbers, and its request and missed
-- frames.
pub record DerivedState : Type 0 where
  pub end : End
  pub place : Place
  pub numbers : Numbers
  pub wake : Wake

abbrev pub initial_derived_state : DerivedState
initial_derived_state = record { end = fresh; place = Closed; numbers = no_numbers; wake = at_rest }

-- A call begins, and the step at its place is taken.
abbrev pub begun : EndConfig → DerivedState → Call → DerivedState
begun config s call = record s { place = first_place config s.end call }

abbrev pub moved : EndConfig → DerivedState → ℕ → DerivedState
moved config s value = record {
  end = end_after s.end (step_at config s.place value);
  place = next_place config s.place value;
  numbers = numbers_after s.numbers s.end (access_at config s.place);
  wake = wake_on config s.end s.numbers.log s.wake (access_at config s.place) (marks_at config s.place value);
}

-- The session word is stored, or the other's is loaded.
abbrev pub numbers_stored : DerivedState → DerivedState
numbers_stored s = record s { numbers = with_stored s.numbers }

abbrev pub numbers_loaded : DerivedState → ℕ → DerivedState
numbers_loaded s number = record s { numbers = with_loaded s.numbers number }

-- After a reset of the device no call is open, and the request stays.
abbrev pub derived_state_after_reset : DerivedState → DerivedState
derived_state_after_reset s =
    record { end = after_reset s.end; place = Closed; numbers = numbers_reset s.numbers s.end; wake = record (s.wake) { asked = lapsed s.wake.asked } }

-- A doorbell, and a call that finds the link down, touch no word and leave the call closed.
unfoldable pub settled_place : Place → Place
settled_place RingingOffer = Closed
settled_place RingingPoll = Closed
settled_place NotInRun = Closed
settled_place place = place

abbrev pub settled : DerivedState → DerivedState
settled s = record s { place = settled_place s.place }

abbrev pub begun_if : EndConfig → DerivedState → Option Call → DerivedState
begun_if config s None = s
begun_if config s (Some call) = begun config s call

-- The derived state after a memory operation, of an honest end and of peer `p`. That of a hostile
-- peer never changes.
abbrev pub after_access : EndConfig → DerivedState → CallAccess → DerivedState
after_access config s t = settled (moved config (begun_if config s t.begins) t.value)

abbrev pub after_memory_op : EndConfig → DerivedState → MemoryOp CallAccess → DerivedState
after_memory_op config s (called t) = after_access config s t
after_memory_op config s (numbered number) = numbers_stored s
after_memory_op config s (carried number) = numbers_loaded s number
after_memory_op config s restarted = derived_state_after_reset s

unfoldable pub state_after_op : RunSetup → ℕ → DerivedState → MemoryOp CallAccess → DerivedState
state_after_op key p s d = if honest_of key p then after_memory_op (config_in key p) s d else s

unfoldable pub state_after_ops : RunSetup → ℕ → DerivedState → List (MemoryOp CallAccess) → DerivedState
state_after_ops key p s [] = s
state_after_ops key p s (d ∷ list) = state_after_ops key p (state_after_op key p s d) list

-- The derived state of a peer after its list of memory operations.
unfoldable pub derived_state : RunSetup → ℕ → List (MemoryOp CallAccess) → DerivedState
derived_state key p list = state_after_ops key p initial_derived_state list

-- At no derived state along the list does the peer have the mark of a refusal. A reset takes the
-- mark away.
abbrev pub NeverMarked : RunSetup → ℕ → List (MemoryOp CallAccess) → Type 0
NeverMarked key p list = (front back : List (MemoryOp CallAccess)) → list ≡ front ++ back → (derived_state key p front).end.handshake.mark ≡ false

-- A call begins only if none is open. It is no Stop, and the frame of an offer may be offered.
abbrev pub Begins : LinkConfig → DerivedState → Option Call → Type 0
Begins over s None = Unit {0}
Begins over s (Some call) = (s.place ≡ Closed) × (call ≢ Stop) × IsGivenTo over call

-- The access `a` is the next one of an honest peer `p` in the derived state `s`. A State step with
-- 2 comes after a store of its session word, and one with 3 after a load of the other's.
pub record IsNext (key : RunSetup) (p : ℕ) (s : DerivedState) (begins : Option Call) (a : Access) : Type 0 where
  pub at_call : Begins (link_config_of key) s begins
  pub goes : is_open (begun_if (config_in key p) s begins).place ≡ true
  pub is : a ≡ access_at (config_in key p) (begun_if (config_in key p) s begins).place
  pub numbered : IsNumbered s.numbers a
