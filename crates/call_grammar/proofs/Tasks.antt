-- The steps of a task, by their numbers.
use Rattle.std.proofs.Common.{◌≡◌, ℕ, zero, suc, ◌+◌, true, false, List, [], ◌∷◌, ◌++◌, length, get_or, drop, refl, sym, subst, arith, add-one}
use Rattle.std.specs.Prelude.{◌==◌, if◌then◌else◌}
use Rattle.std.proofs.lemmas.Bool.Decides.{nat_tests}
use Rattle.call_grammar.specs.Steps.{Step}
use Rattle.call_grammar.specs.Ticks.{EndConfig, clear_steps, state_step}
use Rattle.call_grammar.specs.Words.{words_for}
use Rattle.call_grammar.specs.Offers.{frame_write_steps}
use Rattle.call_grammar.specs.Calls.{down_step}
use Rattle.call_grammar.proofs.OfferLists.{yes, no, append_nil}
use Rattle.call_grammar.specs.Tasks.{Task, WritingState, Publishing, steps_of}
use Rattle.call_grammar.specs.PlaceTable.{Place, Closed, Doing, place_after, doing, begin}
use Rattle.call_grammar.specs.Paths.{Leads}

-- The steps from number `at` on are these.
abbrev pub IsLeft : List Step → ℕ → List Step → Type 0
IsLeft xs at left = (drop at xs ≡ left) × (at + length left ≡ length xs)

item_at : (xs : List Step) (at : ℕ) (s : Step) (ss : List Step) → drop at xs ≡ s ∷ ss → (get_or xs at down_step ≡ s) × (drop (suc at) xs ≡ ss)
item_at [] zero s ss is = absurd (cc)
item_at [] (suc at) s ss is = absurd (cc)
item_at (x ∷ xs) zero s ss is = ((cc), (cc))
item_at (x ∷ xs) (suc at) s ss is = item_at xs at s ss is

-- Before a step the task is done there, and after its last one it is over.
more_left : (config : EndConfig) (task : Task) (at : ℕ) (s : Step) (ss : List Step) → IsLeft (steps_of config task) at (s ∷ ss) → doing config task at ≡ Doing task at
more_left config task at s ss is = no (at == length (steps_of config task)) (place_after config task) (Doing task at) (let n = is.1 in grind (arith, nat_tests))

none_left : (config : EndConfig) (task : Task) (at : ℕ) → IsLeft (steps_of config task) at [] → doing config task at ≡ place_after config task
none_left config task at is = yes (at == length (steps_of config task)) (place_after config task) (Doing task at) (let n = is.1 in grind (arith, nat_tests))

next_left : (xs : List Step) (at : ℕ) (s : Step) (ss : List Step) → IsLeft xs at (s ∷ ss) → IsLeft xs (at + 1) ss
next_left xs at s ss is = (subst (λ k. drop k xs ≡ ss) (sym (add-one at)) (item_at xs at s ss is.0).1, (let n = is.1 in omega arith))

-- A path from a task does its steps, and goes on after it.
abbrev pub TaskListed : EndConfig → Task → List Step → List Step → Type 0
TaskListed config task left steps = (rest : List Step) × (steps ≡ left ++ rest) × Leads config (place_after config task) rest Closed

listed_from : (config : EndConfig) (task : Task) (at : ℕ) (left steps : List Step) → IsLeft (steps_of config task) at left → Leads config (doing config task at) steps Closed → TaskListed config task left steps
listed_from config task at [] steps is leads = (steps, refl, subst (λ (p : Place). Leads config p steps Closed) (none_left config task at is) leads)
listed_from config task at (s ∷ ss) [] is leads = let closed : Closed ≡ Doing task at = subst (λ (p : Place). Leads config p [] Closed) (more_left config task at s ss is) leads in absurd (cc)
listed_from config task at (s ∷ ss) (x ∷ xs) is leads =
    let here : Leads config (Doing task at) (x ∷ xs) Closed = subst (λ (p : Place). Leads config p (x ∷ xs) Closed) (more_left config task at s ss is) leads in
    let rest = listed_from config task (at + 1) ss xs (next_left _ at s ss is) here.2 in
    (rest.0, (let first = here.1 in let same = (item_at (steps_of config task) at s ss is.0).0 in let others = rest.1 in cc), rest.2)

path_from : (config : EndConfig) (task : Task) (at : ℕ) (left rest : List Step) (new : Place) → IsLeft (steps_of config task) at left → Leads config (place_after config task) rest new → Leads config (doing config task at) (left ++ rest) new
path_from config task at [] rest new is leads = subst (λ (p : Place). Leads config p rest new) (sym (none_left config task at is)) leads
path_from config task at (s ∷ ss) rest new is leads = subst (λ (p : Place). Leads config p (s ∷ ss ++ rest) new) (sym (more_left config task at s ss is))
    (refl, sym (item_at (steps_of config task) at s ss is.0).0, path_from config task (at + 1) ss rest new (next_left _ at s ss is) leads)

-- Each task has a step.
some_last : (xs : List Step) (y : Step) (ys : List Step) → (0 == length (xs ++ y ∷ ys)) ≡ false
some_last [] y ys = grind (arith, nat_tests)
some_last (x ∷ xs) y ys = grind (arith, nat_tests)

some_steps : (config : EndConfig) (task : Task) → (0 == length (steps_of config task)) ≡ false
some_steps config (WritingState clear state) = some_last (if clear then clear_steps config.own config.words else []) (state_step state) []
some_steps config (Publishing pending) = some_last (frame_write_steps config pending 0 (words_for (length pending.frame))) _ _
some_steps config _ = refl

pub begins : (config : EndConfig) (task : Task) → doing config task 0 ≡ begin task
begins config task = no (0 == length (steps_of config task)) (place_after config task) (begin task) (some_steps config task)

pub task_listed : (config : EndConfig) (task : Task) (steps : List Step) → Leads config (begin task) steps Closed → TaskListed config task (steps_of config task) steps
task_listed config task steps leads = listed_from config task 0 (steps_of config task) steps (refl, omega arith) (subst (λ (p : Place). Leads config p steps Closed) (sym (begins config task)) leads)

pub task_path : (config : EndConfig) (task : Task) (rest : List Step) (new : Place) → Leads config (place_after config task) rest new → Leads config (begin task) (steps_of config task ++ rest) new
task_path config task rest new leads = subst (λ (p : Place). Leads config p (steps_of config task ++ rest) new) (begins config task) (path_from config task 0 (steps_of config task) rest new (refl, omega arith) leads)

-- A closed place has no steps left.
pub ended : (config : EndConfig) (steps : List Step) → Leads config Closed steps Closed → steps ≡ []
ended config [] leads = refl
ended config (step ∷ steps) leads = let shut : false ≡ true = leads.0 in absurd (cc)

-- A task after which the call is over.
pub closing_listed : (config : EndConfig) (task : Task) (steps : List Step) → place_after config task ≡ Closed → Leads config (begin task) steps Closed → steps ≡ steps_of config task
closing_listed config task steps over leads =
    let r = task_listed config task steps leads in let none = ended config r.0 (subst (λ (p : Place). Leads config p r.0 Closed) over r.2) in
    let whole = append_nil (steps_of config task) in let listed = r.1 in cc

pub closing_path : (config : EndConfig) (task : Task) → place_after config task ≡ Closed → Leads config (begin task) (steps_of config task) Closed
closing_path config task over = subst (λ (l : List Step). Leads config (begin task) l Closed) (append_nil (steps_of config task)) (task_path config task [] Closed (sym over))
