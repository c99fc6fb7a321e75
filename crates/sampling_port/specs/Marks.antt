-- The marks of a port's steps.
use Rattle.std.specs.Prelude.{ℕ, List, Option, option_map}
use Rattle.sampling_port.specs.declared.notes.PortField.{PortField}
use Rattle.sampling_port.specs.declared.notes.PortNote.{PortNote}
use Rattle.sampling_port.specs.declared.notes.PortNote.TheVariants as note

-- The mark of a port's step.
-- - `Publish`: a message published, by its number.
-- - `Got`: a message of the peer sampled, got whole, by its number and bytes.
-- - `Nothing`: the peer sampled has published nothing yet.
-- - `Again`: its sequence changed during the sample, from the first number to the second.
-- - `Refuse`: a value of its field was refused.
pub data PortMark : Type 0 where
  Publish : (number : ℕ) → PortMark
  Got : (from number : ℕ) (message : List ℕ) → PortMark
  Nothing : (from : ℕ) → PortMark
  Again : (from first second : ℕ) → PortMark
  Refuse : (from : ℕ) (field : PortField) (value : ℕ) → PortMark

-- The mark of a note. The note itself lacks the peer that is sampled and the bytes of a message
-- got, which is the message in hand.
abbrev pub mark_of : ℕ → List ℕ → PortNote → PortMark
mark_of from message (note.Publish number) = Publish number
mark_of from message (note.Got number) = Got from number message
mark_of from message note.Nothing = Nothing from
mark_of from message (note.Again first second) = Again from first second
mark_of from message (note.Refuse field value) = Refuse from field value

abbrev pub marked : ℕ → List ℕ → Option PortNote → Option PortMark
marked from message note = option_map (mark_of from message) note
