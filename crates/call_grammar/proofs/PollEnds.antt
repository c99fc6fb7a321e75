-- The end of a poll.
use Rattle.std.proofs.Common.{◌≡◌, ◌≢◌, ℕ, ◌⊎◌, inl, inr, Bool, true, false, List, [], ◌∷◌, ◌++◌, refl, sym, ap, ◌∙◌, subst, append_assoc}
use Rattle.std.specs.List.{AllByRecursion}
use Rattle.call_grammar.specs.Steps.{Mark, Look, Return, Done, Step}
use Rattle.call_grammar.specs.Ticks.{EndConfig, state_step}
use Rattle.call_grammar.specs.Offers.{doorbell_step, refused_steps}
use Rattle.call_grammar.specs.Polls.{Item, published_by, IsRefusedItem, items_steps, avail_index_step, avail_event_write_step, entry_step, low_step, high_step, length_step, FindsNothing, LooksAgain, IsLook, IsPoll}
use Rattle.call_grammar.specs.Returning.{ReturnsNone, EndsWith, PollsThatReturnRing}

abbrev Ends : EndConfig → List Step → Type 0
Ends config steps = AllByRecursion ReturnsNone steps ⊎ (EndsWith (doorbell_step config (Done ∷ [])) steps ⊎ EndsWith (state_step 0) steps)

-- A refusal ends with State 0.
refused_ends : (step : Step) (before steps : List Step) → steps ≡ before ++ refused_steps step → EndsWith (state_step 0) steps
refused_ends step before steps is = (before ++ step ∷ [], is ∙ sym (append_assoc before (step ∷ []) (state_step 0 ∷ [])))

item_ends : (config : EndConfig) (number : ℕ) (read : Item) (before last steps : List Step) → IsRefusedItem config number read last → steps ≡ before ++ last → EndsWith (state_step 0) steps
item_ends config number read before last steps (inl r) is = refused_ends _ before steps (is ∙ ap (λ (l : List Step). before ++ l) r.1)
item_ends config number read before last steps (inr (inl r)) is =
    let front = entry_step config number read [] ∷ low_step config number read ∷ [] in
    refused_ends _ (before ++ front) steps (is ∙ (ap (λ (l : List Step). before ++ l) r.2 ∙ sym (append_assoc before front _)))
item_ends config number read before last steps (inr (inr (inl r))) is =
    let front = entry_step config number read [] ∷ low_step config number read ∷ high_step config number read [] ∷ [] in
    refused_ends _ (before ++ front) steps (is ∙ (ap (λ (l : List Step). before ++ l) r.3 ∙ sym (append_assoc before front _)))
item_ends config number read before last steps (inr (inr (inr r))) is =
    let front = entry_step config number read [] ∷ low_step config number read ∷ high_step config number read [] ∷ length_step config number read [] ∷ [] in
    refused_ends _ (before ++ front) steps (is ∙ (ap (λ (l : List Step). before ++ l) r.4 ∙ sym (append_assoc before front _)))

-- A read of the available index and the rest end in this way if a read that finds no frame does.
look_ends : (config : EndConfig) (taken : ℕ) (FindsNone : List Step → Type 0) (steps : List Step) → ((steps : List Step) → FindsNone steps → Ends config steps) → IsLook config taken FindsNone steps → Ends config steps
look_ends config taken FindsNone steps none (inl r) = inr (inr (refused_ends _ [] steps r.steps_are))
look_ends config taken FindsNone steps none (inr (inl r)) = none steps r
look_ends config taken FindsNone steps none (inr (inr (inl r))) = inr (inl (avail_index_step config r.value (Look (published_by taken r.value) ∷ []) ∷ items_steps config taken r.reads, r.steps_are))
look_ends config taken FindsNone steps none (inr (inr (inr r))) = inr (inr (item_ends config _ r.last (_ ∷ items_steps config taken r.reads) r.last_steps steps r.refused r.steps_are))

done_ends : (config : EndConfig) (taken : ℕ) (steps : List Step) → FindsNothing config taken steps → Ends config steps
done_ends config taken steps r = inl (subst (AllByRecursion ReturnsNone) (sym r.steps_are) (((λ e. cc), ((λ e. cc), tt)), tt))

-- Two steps that return no frame, before others.
after_two : (config : EndConfig) (first second : Step) (rest steps : List Step) → ReturnsNone first → ReturnsNone second → steps ≡ first ∷ second ∷ rest → Ends config rest → Ends config steps
after_two config first second rest steps one two is (inl none) = inl (subst (AllByRecursion ReturnsNone) (sym is) (one, (two, none)))
after_two config first second rest steps one two is (inr (inl rings)) = inr (inl (first ∷ second ∷ rings.0, is ∙ ap (λ (l : List Step). first ∷ second ∷ l) rings.1))
after_two config first second rest steps one two is (inr (inr refuses)) = inr (inr (first ∷ second ∷ refuses.0, is ∙ ap (λ (l : List Step). first ∷ second ∷ l) refuses.1))

again_ends : (config : EndConfig) (taken : ℕ) (steps : List Step) → LooksAgain config taken steps → Ends config steps
again_ends config taken steps r = after_two config (avail_index_step config r.value (Look 0 ∷ [])) (avail_event_write_step config taken) r.rest steps ((λ e. cc), tt) tt r.steps_are
    (look_ends config taken (FindsNothing config taken) r.rest (done_ends config taken) r.again)

pub returning : PollsThatReturnRing
returning config taken true steps is = look_ends config taken (FindsNothing config taken) steps (done_ends config taken) is
returning config taken false steps is = look_ends config taken (LooksAgain config taken) steps (again_ends config taken) is
