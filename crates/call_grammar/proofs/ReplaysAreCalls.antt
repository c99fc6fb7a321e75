-- A list of steps that replays is a call, and a call replays.
use Rattle.std.proofs.Common.{◌≡◌, ℕ, Bool, true, false, List, [], ◌∷◌, refl, sym, ap, ◌∙◌, subst}
use Rattle.call_grammar.specs.Steps.{Step, value_given}
use Rattle.call_grammar.specs.Trees.{CallTree, Ended, Does, Reads, Goes, Makes}
use Rattle.call_grammar.specs.Ticks.{EndConfig}
use Rattle.call_grammar.specs.Places.{Place, Closed, remaining, first_place, next_place, step_at, is_open, access_at}
use Rattle.call_grammar.proofs.PlacesFollowTrees.{following}
use Rattle.call_grammar.proofs.CallsAreLists.{lists}
use Rattle.call_grammar.specs.Replays.{IsReplayed, ReplaysAreCalls}

-- The first step of a list that a tree makes is a step of the tree.
makes_first : (tree : CallTree) (step : Step) (steps : List Step) → Makes tree (step ∷ steps) → (left : CallTree) × Goes tree step left × Makes left steps
makes_first Ended step steps m = absurd (cc)
makes_first (Does access marks rest) step steps m = (rest, (m.0, refl), m.1)
makes_first (Reads word marks rest) step steps m = (rest m.0, (m.0, m.1, refl), m.2)

makes_more : (tree left : CallTree) (step : Step) (steps : List Step) → Goes tree step left → Makes left steps → Makes tree (step ∷ steps)
makes_more Ended left step steps g m = absurd g
makes_more (Does access marks rest) left step steps g m = (g.0, subst (λ (t : CallTree). Makes t steps) g.1 m)
makes_more (Reads word marks rest) left step steps g m = (g.0, g.1, subst (λ (t : CallTree). Makes t steps) g.2 m)

-- An open place has steps left.
open_more : (config : EndConfig) (place : Place) → is_open place ≡ true → Makes (remaining config place) [] → ⊥
open_more config place opened m = by_tree (remaining config place) _ _ (following.comes config place 0 opened) m
  where
    by_tree : (tree : CallTree) (step : Step) (left : CallTree) → Goes tree step left → Makes tree [] → ⊥
    by_tree Ended step left g m = g
    by_tree (Does access marks rest) step left g m = m
    by_tree (Reads word marks rest) step left g m = m

-- A place that isn't open is closed.
pub shut_place : (place : Place) → is_open place ≡ false → place ≡ Closed
shut_place Closed shut = refl
shut_place _ shut = absurd (cc)

replay_is_made : (config : EndConfig) (place : Place) (steps : List Step) → IsReplayed config place steps → Makes (remaining config place) steps
replay_is_made config place [] p = subst (λ (x : Place). Makes (remaining config x) []) (sym p) refl
replay_is_made config place (step ∷ steps) p = makes_more (remaining config place) (remaining config (next_place config place step.value)) step steps
    (subst (λ (s : Step). Goes (remaining config place) s (remaining config (next_place config place step.value))) (sym p.1) (following.comes config place step.value p.0))
    (replay_is_made config (next_place config place step.value) steps p.2)

-- A step without a read has one next place.
pub given : (config : EndConfig) (place : Place) (v : ℕ) → (step_at config place (value_given (access_at config place) v) ≡ step_at config place v) × (next_place config place (value_given (access_at config place) v) ≡ next_place config place v)
given config Closed v = (refl, refl)
given config place v = (refl, refl)

is_closed : (config : EndConfig) (place : Place) → Makes (remaining config place) [] → place ≡ Closed
is_closed config place m = by_bool (is_open place) refl
  where
    by_bool : (b : Bool) → is_open place ≡ b → place ≡ Closed
    by_bool true e = absurd (open_more config place e m)
    by_bool false e = shut_place place e

pub opened : (config : EndConfig) (place : Place) (step : Step) (left : CallTree) → Goes (remaining config place) step left → is_open place ≡ true
opened config Closed step left g = absurd g
opened config place step left g = refl

made_is_replayed : (config : EndConfig) (place : Place) (steps : List Step) → Makes (remaining config place) steps → IsReplayed config place steps
made_is_replayed config place [] m = is_closed config place m
made_is_replayed config place (step ∷ steps) m =
    let first = makes_first (remaining config place) step steps m in let g = following.goes config place step first.0 first.1 in let v = g.0 in
    let value : step.value ≡ value_given (access_at config place) v = ap (λ (s : Step). s.value) g.1 in
    let same = given config place v in
    let step_is : step ≡ step_at config place step.value = g.1 ∙ (sym same.0 ∙ ap (step_at config place) (sym value)) in
    let next_is : first.0 ≡ remaining config (next_place config place step.value) = g.2 ∙ ap (remaining config) (sym same.1 ∙ ap (next_place config place) (sym value)) in
    (opened config place step first.0 first.1, step_is, made_is_replayed config (next_place config place step.value) steps (subst (λ (t : CallTree). Makes t steps) next_is first.2))

pub playing : ReplaysAreCalls
playing = record {
  call = λ config end call steps p. lists.listed config end call steps (subst (λ (t : CallTree). Makes t steps) (following.begins config end call) (replay_is_made config (first_place config end call) steps p));
  played = λ config end call steps is. made_is_replayed config (first_place config end call) steps (subst (λ (t : CallTree). Makes t steps) (sym (following.begins config end call)) (lists.made config end call steps is));
}
