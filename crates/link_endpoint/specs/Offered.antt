-- The frame offered last stays through bursts.
use Rattle.std.specs.Prelude.{ℕ, ◌≡◌, List}
use Rattle.split_ring.specs.declared.steps.Note.{Note}
use Rattle.call_grammar.specs.Bursts.{StepsThrough}
use Rattle.link_endpoint.specs.Engine.{Engine, offered}
use Rattle.link_endpoint.specs.Bursts.{IsTaken}

-- After a burst of steps an endpoint holds the same offered frame.
abbrev pub BurstsKeepOffers : Type 0
BurstsKeepOffers = (old new : Engine) (values : List ℕ) (notes : List Note) → StepsThrough IsTaken old values notes new → offered new ≡ offered old
