use Rattle.std.proofs.Common.{◌≡◌, ℕ, List, [], ◌∷◌, ap, ◌∙◌}
use Rattle.split_ring.specs.declared.steps.Note.{Note}
use Rattle.call_grammar.specs.Bursts.{StepsThrough}
use Rattle.link_endpoint.specs.Engine.{Engine, offered}
use Rattle.link_endpoint.specs.Bursts.{IsTaken}
use Rattle.link_endpoint.proofs.laws.bursts_keep_offers.Goals as goal

keeps : (old new : Engine) (values : List ℕ) (notes : List Note) → StepsThrough IsTaken old values notes new → offered new ≡ offered old
keeps old new [] notes each = ap offered each.1
keeps old new (value ∷ []) notes each = each.takes.offered
keeps old new (value ∷ other ∷ values) notes (between, first, rest) = keeps between new (other ∷ values) notes rest ∙ first.takes.offered

pub returns : goal.returns
returns c = keeps
