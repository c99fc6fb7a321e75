-- A port as contracts see it, and the effect of a step on it.
use Rattle.std.specs.Prelude.{ℕ, zero, suc, ◌≡◌, ◌+◌, ◌*◌, ◌^◌, ◌<◌, ◌≤◌, ◌==◌, nat_lt, if◌then◌else◌, Bool, true, false, Option, Some, None, List, [], ◌++◌, length, take, replicate, slice_index, slice_set}
use Rattle.section_map.specs.Geometry.{Shape, IsShape, section_start}
use Rattle.split_ring.specs.declared.steps.Access.{Access}
use Rattle.split_ring.specs.declared.steps.Access.TheVariants as access
use Rattle.call_grammar.specs.Words.{words_for, frame_word, word_bytes}
use Rattle.sampling_port.specs.declared.notes.PortField.TheVariants as field
use Rattle.sampling_port.specs.declared.notes.PortNote.{PortNote}
use Rattle.sampling_port.specs.declared.notes.PortNote.TheVariants as note
use Rattle.sampling_port.specs.declared.place.Place.{Place}
use Rattle.sampling_port.specs.declared.place.Place.TheVariants.{Closed, WritingLength, WritingWord, WritingSequence, AtSequence, AtLength, AtWord, AtSecond}
use Rattle.sampling_port.specs.Layout.{IsMessageSize, port_words, length_place, data_place}
use Rattle.sampling_port.specs.Trees.{PortTree, Ended}
use Rattle.sampling_port.specs.Calls.{publish, write_words, write_sequence, sample, read_length, read_words, look_again, is_length}

-- The sizes of the region, the port's peer, and the most bytes of a message. The number of messages
-- published, and the number of the last message got from each peer, or 0. The place in the open
-- call. The bytes of the message in hand: the one that the port publishes, or those read so far of
-- the one that it samples. The message got last.
pub record PortView : Type 0 where
  pub shape : Shape
  pub me : ℕ
  pub most : ℕ
  pub published : ℕ
  pub lasts : List ℕ
  pub place : Place
  pub hand : List ℕ
  pub message : List ℕ

-- The peer that is sampled at a place, or 0 in a publish.
abbrev pub from_at : Place → ℕ
from_at (AtSequence from) = from
from_at (AtLength from sequence) = from
from_at (AtWord from sequence bytes at more) = from
from_at (AtSecond from sequence) = from
from_at _ = 0

-- The initial port of these numbers.
abbrev pub fresh_port : Shape → (me most : ℕ) → PortView
fresh_port shape me most = record { shape = shape; me = me; most = most; published = 0; lasts = replicate 8 0; place = Closed; hand = []; message = [] }

-- A call is open.
abbrev pub is_open : Place → Bool
is_open Closed = false
is_open _ = true

abbrev pub is_busy : PortView → Bool
is_busy port = is_open port.place

-- The first word of the port's own section, and of another peer's.
abbrev pub own : PortView → ℕ
own port = section_start port.shape port.me

abbrev pub other_start : PortView → ℕ → ℕ
other_start port from = section_start port.shape from

-- The opening of a call

abbrev pub publishing : PortView → List ℕ → PortView
publishing port message = record port { place = WritingLength; hand = message }

abbrev pub sampling : PortView → ℕ → PortView
sampling port from = record port { place = AtSequence from }

-- A step

abbrev pub writing_place : (at count : ℕ) → Place
writing_place at zero = WritingSequence
writing_place at (suc more) = WritingWord at more

abbrev pub reading_place : (from sequence bytes at count : ℕ) → Place
reading_place from sequence bytes at zero = AtSecond from sequence
reading_place from sequence bytes at (suc more) = AtWord from sequence bytes at more

abbrev pub access_at : PortView → Place → Access
access_at port Closed = access.Nothing
access_at port WritingLength = access.Write (own port + length_place port.most (port.published + 1)) (length port.hand)
access_at port (WritingWord at more) = access.Write (own port + data_place port.most (port.published + 1) + at) (frame_word port.hand at)
access_at port WritingSequence = access.Write (own port) (port.published + 1)
access_at port (AtSequence from) = access.Read (other_start port from)
access_at port (AtLength from sequence) = access.Read (other_start port from + length_place port.most sequence)
access_at port (AtWord from sequence bytes at more) = access.Read (other_start port from + data_place port.most sequence + at)
access_at port (AtSecond from sequence) = access.Read (other_start port from)

-- The note of a step that read this value.
abbrev pub note_at : PortView → Place → ℕ → Option PortNote
note_at port WritingSequence value = Some (note.Publish (port.published + 1))
note_at port (AtSequence from) value =
    if nat_lt value (slice_index port.lasts from) then Some (note.Refuse field.Sequence value) else if value == 0 then Some note.Nothing else None
note_at port (AtLength from sequence) value = if is_length port.most value then None else Some (note.Refuse field.Length value)
note_at port (AtSecond from sequence) value = if value == sequence then Some (note.Got sequence) else Some (note.Again sequence value)
note_at port _ value = None

-- The port after the end of the call.
abbrev pub closed : PortView → PortView
closed port = record port { place = Closed; hand = [] }

-- The port after the message in hand was got, with this number, from this peer.
abbrev pub got : PortView → (from sequence : ℕ) → PortView
got port from sequence = record port { lasts = slice_set port.lasts from sequence; place = Closed; hand = []; message = port.hand }

-- The port after that step.
abbrev pub port_after : PortView → Place → ℕ → PortView
port_after port Closed value = port
port_after port WritingLength value = record port { place = writing_place 0 (words_for (length port.hand)) }
port_after port (WritingWord at more) value = record port { place = writing_place (at + 1) more }
port_after port WritingSequence value = record port { published = port.published + 1; place = Closed; hand = [] }
port_after port (AtSequence from) value =
    if nat_lt value (slice_index port.lasts from) then closed port
    else if value == 0 then closed port
    else record port { place = AtLength from value }
port_after port (AtLength from sequence) value =
    if is_length port.most value then record port { place = reading_place from sequence value 0 (words_for value); hand = [] }
    else closed port
port_after port (AtWord from sequence bytes at more) value = record port {
  place = reading_place from sequence bytes (at + 1) more;
  hand = take bytes (port.hand ++ word_bytes value);
}
port_after port (AtSecond from sequence) value = if value == sequence then got port from sequence else closed port

-- The fixed parameters of the port don't change.
pub record KeepsNumbers (old new : PortView) : Type 0 where
  pub shape : new.shape ≡ old.shape
  pub me : new.me ≡ old.me
  pub most : new.most ≡ old.most

-- The rest of the open call

abbrev pub left_at : PortView → Place → PortTree
left_at port Closed = Ended
left_at port WritingLength = publish (own port) port.most (port.published + 1) port.hand
left_at port (WritingWord at more) = write_words (own port) port.most (port.published + 1) port.hand at (suc more)
left_at port WritingSequence = write_sequence (own port) (port.published + 1)
left_at port (AtSequence from) = sample from (other_start port from) port.most (slice_index port.lasts from)
left_at port (AtLength from sequence) = read_length from (other_start port from) port.most sequence
left_at port (AtWord from sequence bytes at more) = read_words from (other_start port from) port.most sequence bytes port.hand at (suc more)
left_at port (AtSecond from sequence) = look_again from (other_start port from) sequence port.hand

abbrev pub left : PortView → PortTree
left port = left_at port port.place

-- The invariant of every port

-- The invariant of a place of the open call.
abbrev pub IsPlace : PortView → Place → Type 0
IsPlace port Closed = Unit {0}
IsPlace port WritingLength = (1 ≤ length port.hand) × (port.published + 1 < 2 ^ 32)
IsPlace port (WritingWord at more) = (at + more + 1 ≡ words_for (length port.hand)) × (port.published + 1 < 2 ^ 32)
IsPlace port WritingSequence = port.published + 1 < 2 ^ 32
IsPlace port (AtSequence from) = from < port.shape.peers
IsPlace port (AtLength from sequence) = from < port.shape.peers
IsPlace port (AtWord from sequence bytes at more) = (from < port.shape.peers) × (bytes ≤ port.most) × (length port.hand ≡ 4 * at)
    × (at + more + 1 ≡ words_for bytes)
IsPlace port (AtSecond from sequence) = from < port.shape.peers

pub record IsPort (port : PortView) : Type 0 where
  pub shaped : IsShape port.shape
  pub few : port.shape.peers ≤ 8
  pub me : port.me < port.shape.peers
  pub size : IsMessageSize port.most
  pub room : port_words port.most ≤ port.shape.out
  pub lasts : length port.lasts ≡ 8
  pub hand : length port.hand ≤ port.most
  pub message : length port.message ≤ port.most
  pub place : IsPlace port port.place
