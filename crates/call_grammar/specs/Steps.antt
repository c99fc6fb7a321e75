-- A step of a peer: one access, the value that a read met, and the marks. A step doesn't name its
-- peer.
use Rattle.std.specs.Prelude.{ℕ, List, map}
use Rattle.split_ring.specs.declared.ranges.Refused.{Refused}
use Rattle.split_ring.specs.declared.steps.Access.{Access}
use Rattle.split_ring.specs.declared.steps.Access.TheVariants as access
use Rattle.split_ring.specs.declared.steps.Note.{Note}
use Rattle.split_ring.specs.declared.steps.Note.TheVariants as note

-- The mark of a step (profile). It is the State that a Tick read, the distance that an offer or a
-- poll found, or the end of a call. It can also be a frame published or delivered, a used element
-- returned, or a value refused.
pub data Mark : Type 0 where
  Saw : (value : ℕ) → Mark
  Reclaim : (count : ℕ) → Mark
  Full : Mark
  Accept : (frame : List ℕ) → Mark
  Look : (count : ℕ) → Mark
  Deliver : (frame : List ℕ) → Mark
  Return : Mark
  Done : Mark
  Down : Mark
  Refuse : (refused : Refused) → Mark
  Over : Mark

-- One step: the access, the value that it met, and its marks.
pub record Step : Type 0 where
  pub access : Access
  pub value : ℕ
  pub marks : List Mark

-- A read has the value of its word. Any other access has the value 0.
abbrev pub value_given : Access → ℕ → ℕ
value_given (access.Read word) value = value
value_given _ value = 0

-- The step of this access that met `value`, with these marks.
abbrev pub step_of : Access → ℕ → List Mark → Step
step_of a value marks = record { access = a; value = value_given a value; marks = marks }

-- The mark of a note. An engine's note of a frame has no bytes; they are the bytes of `frame`.
abbrev pub mark_of : List ℕ → Note → Mark
mark_of frame (note.Saw value) = Saw value
mark_of frame (note.Reclaim count) = Reclaim count
mark_of frame note.Full = Full
mark_of frame note.Accept = Accept frame
mark_of frame (note.Look count) = Look count
mark_of frame note.Deliver = Deliver frame
mark_of frame note.Return = Return
mark_of frame note.Done = Done
mark_of frame note.Down = Down
mark_of frame (note.Refuse refused) = Refuse refused
mark_of frame note.Over = Over

-- The marks of the notes of one step.
abbrev pub marks_of : List ℕ → List Note → List Mark
marks_of frame notes = map (mark_of frame) notes
