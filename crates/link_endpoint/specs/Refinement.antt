-- The ends of the call grammar that an endpoint refines, and its steps.
use Rattle.std.specs.Prelude.{ℕ, ◌≡◌, ◌+◌, ◌-◌, ◌<◌, ◌≤◌, ◌&&◌, Bool, true, false, is_some, List, [], ◌∷◌, map, All}
use Rattle.link_handshake.specs.declared.Phase.TheVariants.{Init}
use Rattle.split_ring.specs.Layout.{has_events}
use Rattle.split_ring.specs.declared.steps.Note.{Note}
use Rattle.split_ring.specs.declared.steps.Note.TheVariants as note
use Rattle.call_grammar.specs.Steps.{Mark, Saw, Accept, Over, mark_of, marks_of}
use Rattle.call_grammar.specs.Ends.{End, end_after}
use Rattle.call_grammar.specs.Calls.{EndConfig, Tick, in_run}
use Rattle.call_grammar.specs.Places as places
use Rattle.call_grammar.specs.StepBounds.{HasFewInFlight}
use Rattle.tx_engine.specs.Refinement as tx
use Rattle.rx_engine.specs.Refinement as rx
use Rattle.link_endpoint.specs.declared.place.Place.{Place}
use Rattle.link_endpoint.specs.declared.place.Place.TheVariants.{Closed, ReadingOtherState, Clearing, WritingState, Refusing, NotInRun, Offering, Polling}
use Rattle.link_endpoint.specs.Engine.{Engine, is_down, handshake_of, offered, delivered, refused_after, IsNoteAt}

-- The ends that it refines

-- If no call of theirs is open, the sender and the receiver refine the end at `Closed`.
pub record IdleRefinesAt (e : Engine) (config : EndConfig) (end : End) : Type 0 where
  pub sender : tx.RefinesAt e.sender config end places.Closed
  pub receiver : rx.RefinesAt e.receiver config end places.Closed

-- The last write to each own word before word `at` was 0.
abbrev pub IsClearBefore : EndConfig → End → ℕ → Type 0
IsClearBefore config end at = (word : ℕ) → config.own ≤ word → word < at → end.written word ≡ 0

-- An end in INIT writes 0 to the own word `at` next, and opens a session after the last own word.
pub record IsClearing (config : EndConfig) (end : End) (at state : ℕ) : Type 0 where
  pub phase : end.handshake.phase ≡ Init
  pub first : config.own ≤ at
  pub last : at < config.own + config.words
  pub before : IsClearBefore config end at
  pub opens : state ≡ 2

-- An end may set `state`: a session opens only if every own word is clear, and RUN needs an open
-- session.
pub record MaySet (config : EndConfig) (end : End) (state : ℕ) : Type 0 where
  pub opens : state ≡ 2 → IsClearBefore config end (config.own + config.words)
  pub goes_on : 2 < state → tx.has_session end.handshake.phase ≡ true

-- The call at this place neither ended nor refused a value.
abbrev pub goes_on : places.Place → Bool
goes_on places.Closed = false
goes_on places.Refusing = false
goes_on _ = true

-- The endpoint's place represents this place of the end. An offer's place is the sender's, a poll's
-- the receiver's.
abbrev pub IsAt : Place → Engine → EndConfig → End → places.Place → Type 0
IsAt Closed e config end place = (place ≡ places.Closed) × IdleRefinesAt e config end
IsAt ReadingOtherState e config end place = (place ≡ places.ReadingOtherState end.handshake) × IdleRefinesAt e config end
IsAt (Clearing at state) e config end place =
    (place ≡ places.Clearing at (config.own + config.words - (at + 1)) state) × IsClearing config end at state × IdleRefinesAt e config end
IsAt (WritingState state) e config end place = (place ≡ places.WritingState state) × MaySet config end state × IdleRefinesAt e config end
IsAt Refusing e config end place = (place ≡ places.Refusing) × (end.handshake.mark ≡ true)
IsAt NotInRun e config end place = (place ≡ places.NotInRun) × IdleRefinesAt e config end
IsAt Offering e config end place = (goes_on place ≡ true) × tx.RefinesAt e.sender config end place × rx.RefinesAt e.receiver config end places.Closed
IsAt Polling e config end place = (goes_on place ≡ true) × tx.RefinesAt e.sender config end places.Closed × rx.RefinesAt e.receiver config end place

-- The endpoint refines the end `end` at `place`, under the configuration `config`. The number of
-- the end's frames in flight is at most the limit.
pub record RefinesAt (e : Engine) (config : EndConfig) (end : End) (place : places.Place) : Type 0 where
  pub made : config ≡ e.config
  pub standing : end.handshake ≡ handshake_of e
  pub few : HasFewInFlight config end
  pub at : IsAt e.place e config end place

-- `Holds` holds of each end that the endpoint refines.
abbrev pub AtEachEnd : Engine → (EndConfig → End → places.Place → Type 0) → Type 0
AtEachEnd e Holds = (config : EndConfig) (end : End) (place : places.Place) → RefinesAt e config end place → Holds config end place

-- An end without an open call waits armed. It is in RUN in a link with events, and its session's
-- last read of the available index found no new frame. Its avail_event wants a doorbell for the
-- next one.
abbrev pub is_armed : EndConfig → End → Bool
is_armed config end = in_run end.handshake.phase && (has_events config.sizes && end.found_none)

-- Its steps

-- The mark of a note, for the frame of the open offer and the frame delivered last.
abbrev pub mark_between : (offered delivered : List ℕ) → Note → Mark
mark_between offered delivered note.Accept = Accept offered
mark_between offered delivered n = mark_of delivered n

abbrev pub marks_between : (offered delivered : List ℕ) → List Note → List Mark
marks_between offered delivered notes = map (mark_between offered delivered) notes

-- The frame of a step's mark: the frame offered, or in a poll the frame that the step delivers.
abbrev pub frame_of_mark : Place → (offered delivered : List ℕ) → List ℕ
frame_of_mark Polling offered delivered = delivered
frame_of_mark _ offered delivered = offered

-- For every end that it refines, the endpoint makes the step of its place that meets `value`, with
-- these notes, and then is `new`.
pub record Takes (old : Engine) (value : ℕ) (notes : List Note) (new : Engine) : Type 0 where
  pub marks : AtEachEnd old (λ config _ place. marks_of (frame_of_mark old.place (offered old) (delivered new)) notes ≡ places.marks_at config place value)
  pub marked : AtEachEnd old (λ config _ place. marks_between (offered old) (delivered new) notes ≡ places.marks_at config place value)
  pub frames : All (IsNoteAt old.place) notes
  pub refines : AtEachEnd old (λ config end place. RefinesAt new config (end_after end (places.step_at config place value)) (places.next_place config place value))
  pub delivered : AtEachEnd old (λ _ _ place. delivered new ≡ rx.frame_after place value (delivered old))
  pub config : new.config ≡ old.config
  pub refused : new.refused ≡ refused_after notes old.refused
  pub offered : offered new ≡ offered old
  pub down : is_down new ≡ false

-- A call opens, and nothing else of the end changes.
pub record Opens (old new : Engine) : Type 0 where
  pub config : new.config ≡ old.config
  pub phase : new.phase ≡ old.phase
  pub refused : new.refused ≡ old.refused
  pub delivered : delivered new ≡ delivered old

-- A Tick of an end that refused a value only reads the other's State.
abbrev pub RefusedEndsStay : Type 0
RefusedEndsStay = (e : Engine) (config : EndConfig) (end : End) (value : ℕ) → RefinesAt e config end places.Closed → is_some e.refused ≡ true →
    (places.marks_at config (places.first_place config end Tick) value ≡ Saw value ∷ Over ∷ []) ×
    (places.next_place config (places.first_place config end Tick) value ≡ places.Closed)
