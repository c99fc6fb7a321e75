-- The schedule of ports: each act is a list of events, and each event is one peer's.
use Rattle.std.specs.Prelude.{ℕ, List, [], ◌∷◌, replicate}
use Rattle.std.specs.List.{flat_map}
use Rattle.port_text.specs.declared.acts.Act.{Act}
use Rattle.port_text.specs.declared.acts.Act.TheVariants as act

-- A call of a peer: the publish of a message, or a sample of a peer.
pub data PortCall : Type 0 where
  Publish : (message : List ℕ) → PortCall
  Sample : (from : ℕ) → PortCall

-- An event: a call is queued for a peer, a peer takes its turn, or a hostile peer writes a word.
pub data Event : Type 0 where
  CallQueued : (peer : ℕ) (call : PortCall) → Event
  TurnTaken : (peer : ℕ) → Event
  Poked : (peer word value : ℕ) → Event

-- The peer of an event.
abbrev pub event_peer : Event → ℕ
event_peer (CallQueued peer call) = peer
event_peer (TurnTaken peer) = peer
event_peer (Poked peer word value) = peer

-- The events of an act; `turn P K` is K turns of P.
abbrev pub events_of : Act → List Event
events_of (act.Publish peer message) = CallQueued peer (Publish message) ∷ []
events_of (act.Sample peer from) = CallQueued peer (Sample from) ∷ []
events_of (act.Turn peer steps) = replicate steps (TurnTaken peer)
events_of (act.Poke peer word value) = Poked peer word value ∷ []

-- The events of a schedule.
abbrev pub schedule : List Act → List Event
schedule acts = flat_map events_of acts
