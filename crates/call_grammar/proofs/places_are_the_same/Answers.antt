use Rattle.call_grammar.proofs.SamePlaces.{bridging}
use Rattle.call_grammar.proofs.places_are_the_same.Goals as goal

pub returns : goal.returns
returns c = bridging
