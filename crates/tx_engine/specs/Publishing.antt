-- The steps of an offer up to its index, which a sender completes by one call.
use Rattle.std.specs.Prelude.{ℕ, ◌≡◌, ◌++◌, false, Some, List, [], ◌∷◌, length}
use Rattle.split_ring.specs.declared.steps.Access.TheVariants as access
use Rattle.split_ring.specs.declared.steps.Note.TheVariants as note
use Rattle.split_ring.specs.declared.steps.WordKind.TheVariants.{IndexWrite}
use Rattle.call_grammar.specs.Ends.{End}
use Rattle.call_grammar.specs.Ticks.{EndConfig}
use Rattle.call_grammar.specs.Bursts.{StepsThrough}
use Rattle.call_grammar.specs.Orders.{word_kind}
use Rattle.call_grammar.specs.Places as laws
use Rattle.tx_engine.specs.declared.ahead.Publication.{Publication}
use Rattle.tx_engine.specs.Sender.{Sender}
use Rattle.tx_engine.specs.Ahead.{bursts_of, words_of, listed, last_words, WritesAll}
use Rattle.tx_engine.specs.Refinement.{RefinesAt, StaysOpen, rings}

-- A frame is published: the writes of the bursts before its index, of whose words those after the
-- frame are `tail`; and then the write of the index, with the note Accept. The sender is `written`
-- before the index.
pub record Publishes (old : Sender) (tail : List ℕ) (made : Publication) (new : Sender) : Type 0 where
  pub written : Sender
  pub bursts : bursts_of old ≡ Some made.bursts
  pub words : (config : EndConfig) (end : End) (place : laws.Place) → RefinesAt old config end place →
      WritesAll config place (listed made.bursts) (last_words old.frame made.bursts.frame.count ++ tail)
  pub writes : (values : List ℕ) → length values ≡ words_of made.bursts → StepsThrough StaysOpen old values [] written
  pub index : (config : EndConfig) (end : End) (place : laws.Place) → RefinesAt written config end place →
      (laws.access_at config place ≡ access.Write made.index made.accepted) × (word_kind place ≡ IndexWrite) × (rings place ≡ false)
  pub accepts : (value : ℕ) → StaysOpen written value (note.Accept ∷ []) new
