use Rattle.std.proofs.Common.{ℕ, List, [], ◌∷◌, subst, sym}
use Rattle.split_ring.specs.declared.steps.Note.{Note}
use Rattle.call_grammar.specs.Ends.{End}
use Rattle.call_grammar.specs.Calls.{EndConfig}
use Rattle.call_grammar.specs.Places as places
use Rattle.call_grammar.specs.Bursts.{StepsThrough, end_after_all, place_after}
use Rattle.link_endpoint.specs.Engine.{Engine}
use Rattle.link_endpoint.specs.Refinement.{RefinesAt}
use Rattle.link_endpoint.specs.Bursts.{IsTaken}
use Rattle.link_endpoint.proofs.laws.bursts_go_on.Goals as goal

go_on : (old new : Engine) (values : List ℕ) (notes : List Note) (config : EndConfig) (end : End) (place : places.Place) → StepsThrough IsTaken old values notes new → RefinesAt old config end place → RefinesAt new config (end_after_all config end place values) (place_after config place values)
go_on old new [] notes config end place each refines = subst (λ e. RefinesAt e config end place) (sym each.1) refines
go_on old new (value ∷ []) notes config end place each refines = each.takes.refines config end place refines
go_on old new (value ∷ other ∷ values) notes config end place (between, first, rest) refines = go_on between new (other ∷ values) notes config _ _ rest (first.takes.refines config end place refines)

pub returns : goal.returns
returns c = go_on
