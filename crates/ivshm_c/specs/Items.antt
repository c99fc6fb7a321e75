-- The answers of the calls that take an item of a poll, or publish the frame of an offer, in more
-- than single steps, and their effect on the end of a handle.
use Rattle.std.specs.Prelude.{ℕ, ◌≡◌, ◌≢◌, ◌*◌, ◌⊎◌, true, if◌then◌else◌, None, List, [], ◌∷◌, length, take, drop}
use Rattle.split_ring.specs.declared.steps.Note.{Note}
use Rattle.split_ring.specs.declared.steps.Note.TheVariants as note
use Rattle.call_grammar.specs.Words.{words_for}
use Rattle.tx_engine.specs.declared.ahead.Publication.{Publication}
use Rattle.rx_engine.specs.declared.ahead.FrameReturn.{FrameReturn}
use Rattle.link_endpoint.specs.Engine.{is_busy, reads_ahead, frame_ahead}
use Rattle.link_endpoint.specs.Bursts.{IsTaken}
use Rattle.link_endpoint.specs.Items.{is_field, ReadsNext, RefusesNext, ReadsAndReturns}
use Rattle.link_endpoint.specs.Publishing.{Publishes}
use Rattle.ivshm_c.specs.declared.crossing.Access.{Access}
use Rattle.ivshm_c.specs.declared.crossing.Burst.{Burst}
use Rattle.ivshm_c.specs.declared.crossing.Publication as crossed_publication
use Rattle.ivshm_c.specs.declared.crossing.FrameReturn as crossed
use Rattle.ivshm_c.specs.declared.end_state.EndState.{EndState}
use Rattle.c_status.specs.declared.status.Status.{Status}
use Rattle.c_status.specs.declared.status.Status.TheVariants.{Done, NoCall, OtherAccess}
use Rattle.ivshm_c.specs.EndStates.{Steps}
use Rattle.ivshm_c.specs.Answers.{Keeps, Follows, Where, IsNextAccess, publish_answer}
use Rattle.ivshm_c.specs.Crossing.{frame_return_crossed, publication_crossed}
use Rattle.c_status.specs.Statuses.{number_of}

-- The answer if nothing is taken.
abbrev pub idle_answer : EndState → Status
idle_answer port = if is_busy port.endpoint then OtherAccess else NoCall

-- One step without a note: the read of a field of an item. The next access is a relaxed read, with
-- the burst that begins with it.
pub record FieldTaken (value : ℕ) (next : Burst) (old new : EndState) : Type 0 where
  pub step : IsTaken old.endpoint value [] new.endpoint
  pub access : ReadsNext new.endpoint next.word
  pub count : next.count ≡ reads_ahead new.endpoint
  pub kept : Keeps old new

-- Nothing changes: no field of an item is next, or the value is refused.
pub record FieldLeft (value : ℕ) (before after : Burst) (old new : EndState) : Type 0 where
  pub refused : is_field old.endpoint ≡ true → RefusesNext old.endpoint value
  pub same : new ≡ old
  pub next : after ≡ before

-- The read of a field is completed, or nothing changes, by the number of the answer.
abbrev pub TakesField : (value : ℕ) (before after : Burst) (number : ℕ) (old new : EndState) → Type 0
TakesField value before after number old new =
    ((number ≡ number_of Done) × FieldTaken value after old new) ⊎ ((number ≡ number_of (idle_answer old)) × FieldLeft value before after old new)

-- The step of a doorbell, which the caller makes now.
pub record Rung (old new : EndState) : Type 0 where
  pub notes : List Note
  pub steps : Steps old.endpoint 0 notes new.endpoint
  pub follows : Follows notes old new

-- The next access of an open call. The step of a doorbell is completed, and no other step.
pub record GoesOn (next : Access) (old new : EndState) : Type 0 where
  pub opened : is_busy old.endpoint ≡ true
  pub access : IsNextAccess old next
  pub rings : ((next.kind ≡ 4) × Rung old new) ⊎ ((next.kind ≢ 4) × (new ≡ old))

-- A whole frame is read and returned, with the notes Deliver and Return. Its length has the number
-- of words that were read. The end is `returned` then, and goes on.
pub record FrameTaken (words : List ℕ) (after : crossed.FrameReturn) (next : Access) (old new : EndState) : Type 0 where
  pub made : FrameReturn
  pub returned : EndState
  pub crossed_is : after ≡ frame_return_crossed made
  pub steps : ReadsAndReturns old.endpoint words made returned.endpoint
  pub sized : length words ≡ 4 * words_for made.length
  pub follows : Follows (note.Deliver ∷ note.Return ∷ []) old returned
  pub goes_on : GoesOn next returned new

-- Nothing changes: these aren't all words of a frame whose first word is next.
pub record FrameLeft (words : List ℕ) (before after : crossed.FrameReturn) (was next : Access) (old new : EndState) : Type 0 where
  pub other : (frame_ahead old.endpoint ≡ None) ⊎ (length words ≢ 4 * reads_ahead old.endpoint)
  pub same : new ≡ old
  pub made : after ≡ before
  pub access : next ≡ was

-- A frame is read and returned, or nothing changes, by the number of the answer.
abbrev pub TakesFrame : (words : List ℕ) (before after : crossed.FrameReturn) (was next : Access) (number : ℕ) (old new : EndState) → Type 0
TakesFrame words before after was next number old new =
    ((number ≡ number_of Done) × FrameTaken words after next old new) ⊎ ((number ≡ number_of (idle_answer old)) × FrameLeft words before after was next old new)

-- All that an offer writes up to its index is completed, with the note Accept: the words after the
-- frame are at the front of `room`. The end is `published` then, and goes on.
pub record FramePublished (after : crossed_publication.Publication) (room filled : List ℕ) (next : Access) (old new : EndState) : Type 0 where
  pub made : Publication
  pub published : EndState
  pub crossed_is : after ≡ publication_crossed made
  pub steps : Publishes old.endpoint (take 20 filled) made published.endpoint
  pub rest : drop 20 filled ≡ drop 20 room
  pub follows : Follows (note.Accept ∷ []) old published
  pub goes_on : GoesOn next published new

-- A frame is published, or nothing changes.
abbrev pub PublishesFrame : (before after : crossed_publication.Publication) (room filled : List ℕ) (was next : Access) (old new : EndState) → Type 0
PublishesFrame before after room filled was next old new =
    Where (publish_answer (length room) old) (FramePublished after room filled next old new) ((new ≡ old) × (after ≡ before) × (filled ≡ room) × (next ≡ was))
