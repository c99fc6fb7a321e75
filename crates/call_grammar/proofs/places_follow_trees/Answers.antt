use Rattle.call_grammar.proofs.PlacesFollowTrees.{following}
use Rattle.call_grammar.proofs.places_follow_trees.Goals as goal

pub returns : goal.returns
returns c = following
