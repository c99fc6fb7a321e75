-- The steps of an offer up to its index, which an endpoint completes by one call.
use Rattle.std.specs.Prelude.{ℕ, ◌≡◌, ◌++◌, Some, List, [], ◌∷◌, length}
use Rattle.split_ring.specs.declared.steps.Access.TheVariants as access
use Rattle.split_ring.specs.declared.steps.Note.TheVariants as note
use Rattle.call_grammar.specs.Bursts.{StepsThrough}
use Rattle.call_grammar.specs.Places as places
use Rattle.tx_engine.specs.declared.ahead.Publication.{Publication}
use Rattle.tx_engine.specs.Ahead.{words_of, listed, last_words, WritesAll}
use Rattle.link_endpoint.specs.Engine.{Engine, offered, bursts_of}
use Rattle.link_endpoint.specs.Refinement.{AtEachEnd}
use Rattle.link_endpoint.specs.Bursts.{IsTaken}
use Rattle.link_endpoint.specs.Orders.{order_at, release}

-- A frame is published: the writes of the bursts before its index, of whose words those after the
-- frame are `tail`; and then the write of the index, which is released and has the note Accept. The
-- endpoint is `written` before the index.
pub record Publishes (old : Engine) (tail : List ℕ) (made : Publication) (new : Engine) : Type 0 where
  pub written : Engine
  pub bursts : bursts_of old ≡ Some made.bursts
  pub words : AtEachEnd old (λ config _ place. WritesAll config place (listed made.bursts) (last_words (offered old) made.bursts.frame.count ++ tail))
  pub writes : (values : List ℕ) → length values ≡ words_of made.bursts → StepsThrough IsTaken old values [] written
  pub index : AtEachEnd written (λ config _ place. (places.access_at config place ≡ access.Write made.index made.accepted) × (order_at place ≡ release))
  pub accepts : (value : ℕ) → IsTaken written value (note.Accept ∷ []) new
