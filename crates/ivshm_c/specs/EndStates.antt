-- An end and the outcome of its last offer: the effect of its calls.
use Rattle.std.specs.Prelude.{ℕ, ◌≡◌, ◌*◌, ◌↔◌, List, [], ◌∷◌, length, take, flat_map, true, not, IsTrue, IfSome}
use Rattle.split_ring.specs.declared.steps.Access.{Access}
use Rattle.split_ring.specs.declared.steps.Access.TheVariants.{Nothing, Read, Write, State}
use Rattle.split_ring.specs.declared.steps.Note.{Note}
use Rattle.split_ring.specs.declared.steps.Note.TheVariants as note
use Rattle.call_grammar.specs.Ends.{End, fresh, after_reset}
use Rattle.call_grammar.specs.Calls.{EndConfig, Offer, in_run}
use Rattle.call_grammar.specs.Places as places
use Rattle.call_grammar.specs.Permitted.{IsPermittedAccess}
use Rattle.call_grammar.specs.StepBounds.{HasFewInFlight}
use Rattle.call_grammar.specs.Words.{word_bytes}
use Rattle.call_grammar.specs.Bursts.{StepsThrough, ReadsBurst, WritesBurst}
use Rattle.link_endpoint.specs.declared.place.Call.{Call}
use Rattle.link_endpoint.specs.declared.place.Call.TheVariants.{Stop}
use Rattle.link_endpoint.specs.Engine.{Engine, fresh_engine, engine_after_reset, is_busy, is_down, is_refusing, is_reading_state, is_tick, offered, delivered, call_of, begins_down, reads_ahead, frame_ahead}
use Rattle.link_endpoint.specs.Refinement.{RefinesAt, Takes, Opens}
use Rattle.link_endpoint.specs.declared.order.Ordering.{Ordering}
use Rattle.link_endpoint.specs.Orders.{order_at}
use Rattle.link_endpoint.specs.Bursts.{IsTaken}
use Rattle.link_endpoint.specs.Refusal.{RecordsRefusal, EndsRefusal, KeepsRefused, KeepsPhase}
use Rattle.ivshm_c.specs.declared.end_state.Outcome.{Outcome}
use Rattle.ivshm_c.specs.declared.end_state.Outcome.TheVariants as outcome

-- The clauses of an endpoint's calls

-- A call opens: for every end that the endpoint refines, it is at the first place of the call.
pub record Begins (call : Call) (old new : Engine) : Type 0 where
  pub refines : (config : EndConfig) (end : End) → RefinesAt old config end places.Closed → RefinesAt new config end (places.first_place config end (call_of call))
  pub opened : is_busy new ≡ true
  pub down : is_down new ≡ begins_down call old.phase
  pub looks : is_reading_state new ≡ is_tick call
  pub offered : offered new ≡ offered old
  pub kept : Opens old new

-- An offer of this frame opens.
pub record Offers (frame : List ℕ) (old new : Engine) : Type 0 where
  pub refines : (config : EndConfig) (end : End) → RefinesAt old config end places.Closed → RefinesAt new config end (places.first_place config end (Offer frame))
  pub few : (config : EndConfig) (end : End) (place : places.Place) → RefinesAt old config end place → HasFewInFlight config end
  pub opened : is_busy new ≡ true
  pub down : is_down new ≡ not (in_run old.phase)
  pub holds : offered new ≡ frame
  pub kept : Opens old new

-- The access of the open call: the access of its place, which is permitted to the peer. It is none
-- exactly if the call is down, and State 0 after a refusal.
pub record IsNext (engine : Engine) (next : Access) : Type 0 where
  pub access : (config : EndConfig) (end : End) (place : places.Place) → RefinesAt engine config end place → next ≡ places.access_at config place
  pub reach : IsPermittedAccess engine.config next
  pub nothing : (next ≡ Nothing) ↔ IsTrue (is_down engine)
  pub leaves : is_refusing engine ≡ true → next ≡ State 0

-- The bursts that begin with the access, and the order that it needs.
pub record IsAhead (engine : Engine) (reported : Ordering) : Type 0 where
  pub reads : (config : EndConfig) (end : End) (place : places.Place) (word : ℕ) → RefinesAt engine config end place →
      places.access_at config place ≡ Read word → ReadsBurst config place word (reads_ahead engine)
  pub order : (config : EndConfig) (end : End) (place : places.Place) → RefinesAt engine config end place → reported ≡ order_at place

-- These bytes are the values of the next writes, in order.
abbrev pub AreWritten : Engine → List ℕ → Type 0
AreWritten engine bytes = (config : EndConfig) (end : End) (place : places.Place) (word value : ℕ) → RefinesAt engine config end place →
    places.access_at config place ≡ Write word value → WritesBurst config place word bytes

-- A burst of reads whose values are these bytes, four each: equivalent to one step for each value.
abbrev pub ReadsAtOnce : Engine → (bytes : List ℕ) → List Note → Engine → Type 0
ReadsAtOnce old bytes notes new = (values : List ℕ) → bytes ≡ flat_map word_bytes values → StepsThrough IsTaken old values notes new

-- If these are all words of a frame, from its first one on, the frame delivered is their first
-- bytes.
abbrev pub ReadsWhole : Engine → (bytes : List ℕ) → Engine → Type 0
ReadsWhole old bytes new = IfSome (frame_ahead old) (λ size. length bytes ≡ 4 * reads_ahead old → delivered new ≡ take size bytes)

-- A burst of `count` writes of the open call.
abbrev pub WritesAtOnce : Engine → (count : ℕ) → Engine → Type 0
WritesAtOnce old count new = (values : List ℕ) → length values ≡ count → StepsThrough IsTaken old values [] new

-- A step of the open call, with these notes. After a refusal the value is stored, and State 0 is
-- next. The end is in RESET then, and stays there.
pub record Steps (old : Engine) (value : ℕ) (notes : List Note) (new : Engine) : Type 0 where
  pub takes : Takes old value notes new
  pub refuses : RecordsRefusal notes new
  pub leaves : EndsRefusal old notes new
  pub keeps : KeepsRefused old new
  pub stays : KeepsPhase old value notes new

-- A new end of this peer: its only open call is a Stop, which begins with State 0.
pub record IsStarted (config : EndConfig) (new : Engine) : Type 0 where
  pub refines : RefinesAt new config fresh (places.first_place config fresh (call_of Stop))
  pub begins : Begins Stop (fresh_engine config) new

-- The end after a reset of the device: the open call is cut, and a Stop is open, which begins with
-- State 0. The frame delivered last and the frame offered last stay.
pub record Restarts (old new : Engine) : Type 0 where
  pub refines : (config : EndConfig) (end : End) (place : places.Place) → RefinesAt old config end place →
      RefinesAt new config (after_reset end) (places.first_place config (after_reset end) (call_of Stop))
  pub begins : Begins Stop (engine_after_reset old) new
  pub delivered : delivered new ≡ delivered old
  pub offered : offered new ≡ offered old

-- The outcome of the last offer

-- The outcome of an open offer after a note.
abbrev pub outcome_noted : Note → Outcome
outcome_noted note.Accept = outcome.Accepted
outcome_noted note.Full = outcome.Full
outcome_noted (note.Refuse refused) = outcome.Refused
outcome_noted note.Down = outcome.Down
outcome_noted _ = outcome.Open

-- The first note with an outcome determines the outcome of an open offer.
abbrev pub outcome_with : Note → Outcome → Outcome
outcome_with n outcome.Open = outcome_noted n
outcome_with n before = before

-- The outcome of an open offer after the notes of a step.
abbrev pub noted_by : List Note → Outcome → Outcome
noted_by [] before = before
noted_by (n ∷ notes) before = noted_by notes (outcome_with n before)

-- The outcome after these notes. The outcome of an offer that isn't open stays.
abbrev pub outcome_after : List Note → Outcome → Outcome
outcome_after notes outcome.Open = noted_by notes outcome.Open
outcome_after notes before = before

-- A reset cuts an open offer.
abbrev pub outcome_cut : Outcome → Outcome
outcome_cut outcome.Open = outcome.Cut
outcome_cut before = before
