-- The view of an endpoint in contracts.
use Rattle.std.specs.Prelude.{ℕ, ◌+◌, ◌-◌, ◌==◌, Bool, true, false, not, if◌then◌else◌, Option, Some, None, is_some, List, [], ◌∷◌}
use Rattle.section_map.specs.Geometry.{Shape, section_start}
use Rattle.split_ring.specs.Layout.{Sizes}
use Rattle.split_ring.specs.declared.ranges.Refused.{Refused}
use Rattle.split_ring.specs.declared.steps.Note.{Note}
use Rattle.split_ring.specs.declared.steps.Note.TheVariants as note
use Rattle.link_handshake.specs.declared.Phase.{Phase}
use Rattle.link_handshake.specs.declared.Phase.TheVariants.{Reset}
use Rattle.link_handshake.specs.HandshakeState.{HandshakeState}
use Rattle.call_grammar.specs.Calls.{EndConfig}
use Rattle.call_grammar.specs.Calls as calls
use Rattle.tx_engine.specs.Sender.{Sender, fresh_sender}
use Rattle.tx_engine.specs.Sender as sender
use Rattle.tx_engine.specs.Ahead as ahead
use Rattle.tx_engine.specs.declared.ahead.Bursts.{Bursts}
use Rattle.rx_engine.specs.Receiver.{Receiver, fresh_receiver, renewed}
use Rattle.rx_engine.specs.Receiver as receiver
use Rattle.link_endpoint.specs.declared.place.Call.{Call}
use Rattle.link_endpoint.specs.declared.place.Call.TheVariants.{Tick, Poll, Stop}
use Rattle.link_endpoint.specs.declared.place.Place.{Place}
use Rattle.link_endpoint.specs.declared.place.Place.TheVariants.{Closed, ReadingOtherState, Clearing, Refusing, NotInRun, Offering, Polling}

-- The two ends of the link are peers 0 and 1 (profile).
abbrev pub partner : ℕ → ℕ
partner peer = if peer == 0 then 1 else 0

-- The configuration of peer `me`: the first words of the two sections, the words and the sizes of
-- each, and the vector of its doorbells.
abbrev pub config_of : Shape → Sizes → (me traffic : ℕ) → EndConfig
config_of shape sizes me traffic = record {
  me = me;
  other = partner me;
  own = section_start shape me;
  other_start = section_start shape (partner me);
  words = shape.out;
  sizes = sizes;
  vector = traffic;
}

-- The view of an endpoint: its configuration, its phase, and what it refused since the last reset
-- of its device. The other fields are its place in the open call, its sender and its receiver.
pub record Engine : Type 0 where
  pub config : EndConfig
  pub phase : Phase
  pub refused : Option Refused
  pub place : Place
  pub sender : Sender
  pub receiver : Receiver

-- The initial endpoint.
abbrev pub fresh_engine : EndConfig → Engine
fresh_engine config = record {
  config = config;
  phase = Reset;
  refused = None;
  place = Closed;
  sender = fresh_sender config.sizes config.own config.other_start config.other config.vector;
  receiver = fresh_receiver config.sizes config.own config.other_start config.other config.vector;
}

-- An endpoint after a reset of its device: the frame offered last and the frame delivered last
-- stay.
abbrev pub engine_after_reset : Engine → Engine
engine_after_reset e = record (fresh_engine e.config) { sender = sender.renewed e.sender; receiver = renewed e.receiver }

-- A call is open at every place except `Closed`.
abbrev pub is_open_at : Place → Bool
is_open_at Closed = false
is_open_at _ = true

abbrev pub is_busy : Engine → Bool
is_busy e = is_open_at e.place

-- The open call is down: an offer or a poll that began outside RUN.
abbrev pub is_down_at : Place → Bool
is_down_at NotInRun = true
is_down_at _ = false

abbrev pub is_down : Engine → Bool
is_down e = is_down_at e.place

-- The State step of a refusal is next.
abbrev pub is_refusing_at : Place → Bool
is_refusing_at Refusing = true
is_refusing_at _ = false

abbrev pub is_refusing : Engine → Bool
is_refusing e = is_refusing_at e.place

-- The read of the other's State is next.
abbrev pub is_reading_state_at : Place → Bool
is_reading_state_at ReadingOtherState = true
is_reading_state_at _ = false

abbrev pub is_reading_state : Engine → Bool
is_reading_state e = is_reading_state_at e.place

-- The number of the next accesses that read consecutive words, of which none before the last has a
-- note. 0 if no burst of reads is next.
abbrev pub reads_ahead_at : Place → Receiver → ℕ
reads_ahead_at Polling rx = receiver.reads_ahead rx.place
reads_ahead_at _ rx = 0

abbrev pub reads_ahead : Engine → ℕ
reads_ahead e = reads_ahead_at e.place e.receiver

-- The number of the next accesses that write consecutive words. None of them has a note.
abbrev pub writes_ahead_at : Place → EndConfig → Sender → Receiver → ℕ
writes_ahead_at Offering config tx rx = sender.writes_ahead tx.place
writes_ahead_at Polling config tx rx = receiver.writes_ahead rx.place
writes_ahead_at (Clearing at state) config tx rx = config.own + config.words - at
writes_ahead_at _ config tx rx = 0

abbrev pub writes_ahead : Engine → ℕ
writes_ahead e = writes_ahead_at e.place e.config e.sender e.receiver

-- The length in bytes of the frame whose first word is read next.
abbrev pub frame_ahead_at : Place → Receiver → Option ℕ
frame_ahead_at Polling rx = receiver.frame_ahead rx.place
frame_ahead_at _ rx = None

abbrev pub frame_ahead : Engine → Option ℕ
frame_ahead e = frame_ahead_at e.place e.receiver

-- The bursts that an offer writes before its index, if a word of its frame is next.
abbrev pub bursts_at : Place → Sender → Option Bursts
bursts_at Offering tx = ahead.bursts_of tx
bursts_at _ tx = None

abbrev pub bursts_of : Engine → Option Bursts
bursts_of e = bursts_at e.place e.sender

-- The handshake state: the phase, with the mark if the end refused a value.
abbrev pub handshake_of : Engine → HandshakeState
handshake_of e = record { phase = e.phase; mark = is_some e.refused }

-- The frame offered last, which stays until another frame is offered.
abbrev pub offered : Engine → List ℕ
offered e = e.sender.frame

-- The frame delivered last.
abbrev pub delivered : Engine → List ℕ
delivered e = e.receiver.frame

-- The call of the grammar.
abbrev pub call_of : Call → calls.Call
call_of Tick = calls.Tick
call_of Poll = calls.Poll
call_of Stop = calls.Stop

-- A call is down from its first step on: a poll outside RUN.
abbrev pub begins_down : Call → Phase → Bool
begins_down Poll phase = not (calls.in_run phase)
begins_down _ phase = false

-- The call is a Tick.
abbrev pub is_tick : Call → Bool
is_tick Tick = true
is_tick _ = false

-- The refused value after these notes, if `refused` was refused before them.
abbrev pub refused_after : List Note → Option Refused → Option Refused
refused_after [] refused = refused
refused_after (note.Refuse found ∷ notes) refused = refused_after notes (Some found)
refused_after (_ ∷ notes) refused = refused_after notes refused

-- A note that the open call can have: an offer has no Deliver note, a poll no Accept note, and any
-- other call neither.
abbrev pub IsNoteAt : Place → Note → Type 0
IsNoteAt Offering note.Accept = Unit {0}
IsNoteAt Polling note.Deliver = Unit {0}
IsNoteAt place note.Accept = ⊥
IsNoteAt place note.Deliver = ⊥
IsNoteAt place _ = Unit {0}
