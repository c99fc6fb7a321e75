-- A call that is cut, and the rest of it.
use Rattle.std.proofs.Common.{List, [], ◌∷◌, ◌++◌, refl, subst}
use Rattle.call_grammar.specs.Steps.{Step}
use Rattle.call_grammar.specs.Trees.{CallTree, Ended, Does, Reads, GoesAlong, Makes, CutsBegin}

splits : (tree : CallTree) (steps others : List Step) → Makes tree (steps ++ others) → (left : CallTree) × GoesAlong tree steps left × Makes left others
splits tree [] others makes = (tree, refl, makes)
splits Ended (step ∷ steps) others makes = absurd (cc)
splits (Does access marks rest) (step ∷ steps) others makes =
    let later = splits rest steps others makes.1 in
    (later.0, (rest, (makes.0, refl), later.1), later.2)
splits (Reads word marks rest) (step ∷ steps) others makes =
    let later = splits (rest makes.0) steps others makes.2 in
    (later.0, (rest makes.0, (makes.0, makes.1, refl), later.1), later.2)

joins : (tree left : CallTree) (steps others : List Step) → GoesAlong tree steps left → Makes left others → Makes tree (steps ++ others)
joins tree left [] others along makes = subst (λ (t : CallTree). Makes t others) along makes
joins Ended left (step ∷ steps) others along makes = absurd along.1
joins (Does access marks rest) left (step ∷ steps) others along makes =
    let after : GoesAlong rest steps left = subst (λ (t : CallTree). GoesAlong t steps left) along.1.1 along.2 in
    (along.1.0, joins rest left steps others after makes)
joins (Reads word marks rest) left (step ∷ steps) others along makes =
    let after : GoesAlong (rest along.1.0) steps left = subst (λ (t : CallTree). GoesAlong t steps left) along.1.2 along.2 in
    (along.1.0, along.1.1, joins (rest along.1.0) left steps others after makes)

pub cuts : CutsBegin
cuts = record { splits = splits; joins = joins }
