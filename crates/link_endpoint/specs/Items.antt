-- The steps of a poll that an endpoint completes by one call, and the accesses that it returns.
use Rattle.std.specs.Prelude.{ℕ, ◌≡◌, ◌++◌, Bool, false, List, [], ◌∷◌, length, take, flat_map}
use Rattle.split_ring.specs.declared.steps.Access.TheVariants as access
use Rattle.split_ring.specs.declared.steps.Note.TheVariants as note
use Rattle.call_grammar.specs.Bursts.{StepsThrough, WritesBurst}
use Rattle.call_grammar.specs.Places as places
use Rattle.call_grammar.specs.Words.{word_bytes}
use Rattle.rx_engine.specs.declared.ahead.FrameReturn.{FrameReturn}
use Rattle.rx_engine.specs.Receiver.{Receiver}
use Rattle.rx_engine.specs.Items as receiver
use Rattle.link_endpoint.specs.declared.place.Place.{Place}
use Rattle.link_endpoint.specs.declared.place.Place.TheVariants.{Polling}
use Rattle.link_endpoint.specs.Engine.{Engine, delivered}
use Rattle.link_endpoint.specs.Refinement.{AtEachEnd}
use Rattle.link_endpoint.specs.Bursts.{IsTaken}
use Rattle.link_endpoint.specs.Orders.{order_at, relaxed, release}

-- The read of a field of an item is next.
abbrev pub is_field_at : Place → Receiver → Bool
is_field_at Polling rx = receiver.is_field rx.place
is_field_at _ rx = false

abbrev pub is_field : Engine → Bool
is_field e = is_field_at e.place e.receiver

-- The next access reads this word, relaxed.
abbrev pub ReadsNext : Engine → (word : ℕ) → Type 0
ReadsNext e word = AtEachEnd e (λ config _ place. (places.access_at config place ≡ access.Read word) × (order_at place ≡ relaxed))

-- The next read refuses this value.
abbrev pub RefusesNext : Engine → (value : ℕ) → Type 0
RefusesNext e value = AtEachEnd e (λ config _ place. places.next_place config place value ≡ places.Refusing)

-- A whole frame, whose words are these bytes, is read and returned. The last of its reads has the
-- note Deliver. The writes of the used element follow, and the write of the used index, which is
-- released and has the note Return. The endpoint is `read` after the reads, and `given` after the
-- element.
pub record ReadsAndReturns (old : Engine) (words : List ℕ) (made : FrameReturn) (new : Engine) : Type 0 where
  pub read : Engine
  pub given : Engine
  pub reads : (values : List ℕ) → words ≡ flat_map word_bytes values → StepsThrough IsTaken old values (note.Deliver ∷ []) read
  pub frame : delivered read ≡ take made.length words
  pub element : AtEachEnd read (λ config _ place. WritesBurst config place made.element (word_bytes made.id ++ word_bytes 1))
  pub gives : (values : List ℕ) → length values ≡ 2 → StepsThrough IsTaken read values [] given
  pub index : AtEachEnd given (λ config _ place. (places.access_at config place ≡ access.Write made.index made.returned) × (order_at place ≡ release))
  pub returns : (value : ℕ) → IsTaken given value (note.Return ∷ []) new
