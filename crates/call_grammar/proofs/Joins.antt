-- Paths are cut and joined.
use Rattle.std.proofs.Common.{List, [], ◌∷◌, ◌++◌, refl, subst}
use Rattle.call_grammar.specs.Steps.{Step}
use Rattle.call_grammar.specs.Ticks.{EndConfig}
use Rattle.call_grammar.specs.PlaceTable.{Place, next_place}
use Rattle.call_grammar.specs.Paths.{Leads, PathsJoin}

pub cut : (config : EndConfig) (place new : Place) (steps more : List Step) → Leads config place (steps ++ more) new →
    (mid : Place) × Leads config place steps mid × Leads config mid more new
cut config place new [] more leads = (place, refl, leads)
cut config place new (step ∷ steps) more leads = let later = cut config (next_place config place step.value) new steps more leads.2 in (later.0, (leads.0, leads.1, later.1), later.2)

pub join : (config : EndConfig) (place mid new : Place) (steps more : List Step) → Leads config place steps mid → Leads config mid more new → Leads config place (steps ++ more) new
join config place mid new [] more first later = subst (λ (p : Place). Leads config p more new) first later
join config place mid new (step ∷ steps) more first later = (first.0, first.1, join config (next_place config place step.value) mid new steps more first.2 later)

pub joining : PathsJoin
joining = record { cut = cut; join = join }
