-- A call that began: if it has ended, it is finished within its bound. If not, it is open.
use Rattle.std.proofs.Common.{◌≡◌, ◌≢◌, ℕ, ◌+◌, ◌*◌, ◌<◌, ◌≤◌, inl, inr, Bool, true, false, List, [], ◌∷◌, ◌++◌, length, refl, sym, ap, ◌∙◌, subst, arith, length-append, ne_eqb}
use Rattle.std.specs.Prelude.{◌==◌, if◌then◌else◌}
use Rattle.std.proofs.lemmas.List.{append-nil}
use Rattle.split_ring.specs.declared.sizes.TheConstants.{LONGEST_FRAME}
use Rattle.link_handshake.specs.declared.Phase.{Phase}
use Rattle.link_handshake.specs.declared.Phase.TheVariants.{Reset, Init, Ready, Run}
use Rattle.split_ring.specs.declared.steps.Access.TheVariants.{Read}
use Rattle.split_ring.specs.Layout.{size_of}
use Rattle.call_grammar.specs.Steps.{Mark, Deliver, Done, Step, step_of}
use Rattle.call_grammar.specs.Trees.{CallTree, Ended, Does, Reads, Goes, GoesAlong, Makes}
use Rattle.call_grammar.specs.Ends.{End}
use Rattle.call_grammar.specs.Words.{words_for, frame_in}
use Rattle.call_grammar.specs.Calls.{EndConfig, Call, Tick, Stop, Offer, Poll, RunsOrIsDown, tree_of, IsCall}
use Rattle.call_grammar.specs.Offers.{doorbell_step}
use Rattle.call_grammar.specs.Polls.{Item, item_entry, item_address, IsValidItem, word_steps, return_steps, item_steps, AreValidItems, items_steps, IsRefusedItem, is_last, IsLook, FindsNothing, LooksAgain, IsPoll}
use Rattle.call_grammar.specs.StepBounds.{marks_bound, items_bound, bound_of, HasFewInFlight}
use Rattle.call_grammar.proofs.OfferLists.{no}
use Rattle.call_grammar.proofs.CallsMeetBounds.{bounding, frame_length}
use Rattle.call_grammar.proofs.Cuts.{cuts}
use Rattle.call_grammar.proofs.CallsAreLists.{lists}
use Rattle.history_laws.specs.Calls.{Begun, IsFinishedCall, IsOpenCall, most_of}

-- The steps along a tree

goes_one_way : (tree left other : CallTree) (step : Step) → Goes tree step left → Goes tree step other → left ≡ other
goes_one_way Ended left other step goes goes' = absurd goes
goes_one_way (Does access marks rest) left other step goes goes' = goes.1 ∙ sym goes'.1
goes_one_way (Reads word marks rest) left other step goes goes' =
    let same : goes.0 ≡ goes'.0 = ap (λ (s : Step). s.value) (sym goes.1 ∙ goes'.1) in
    goes.2 ∙ (ap rest same ∙ sym goes'.2)

along_one_way : (tree left other : CallTree) (steps : List Step) → GoesAlong tree steps left → GoesAlong tree steps other → left ≡ other
along_one_way tree left other [] along along' = along ∙ sym along'
along_one_way tree left other (step ∷ steps) along along' =
    let same = goes_one_way tree along.0 along'.0 step along.1 along'.1 in
    along_one_way along'.0 left other steps (subst (λ (t : CallTree). GoesAlong t steps left) same along.2) along'.2

-- One more step.
pub along_on : (tree left new : CallTree) (steps : List Step) (step : Step) → GoesAlong tree steps left → Goes left step new → GoesAlong tree (steps ++ step ∷ []) new
along_on tree left new [] step along goes = (new, subst (λ (t : CallTree). Goes t step new) along goes, refl)
along_on tree left new (first ∷ steps) step along goes = (along.0, along.1, along_on along.0 left new steps step along.2 goes)

-- The rest of a call has a whole list of steps.
ends_somehow : (tree : CallTree) → (steps : List Step) × Makes tree steps
ends_somehow Ended = ([], refl)
ends_somehow (Does access marks rest) = let later = ends_somehow rest in (step_of access 0 marks ∷ later.0, (refl, later.1))
ends_somehow (Reads word marks rest) = let later = ends_somehow (rest 0) in (step_of (Read word) 0 (marks 0) ∷ later.0, (0, refl, later.1))

made_of_none : (tree : CallTree) → Makes tree [] → tree ≡ Ended
made_of_none Ended makes = refl
made_of_none (Does access marks rest) makes = absurd makes
made_of_none (Reads word marks rest) makes = absurd makes

-- The number of a poll's steps is bounded by the items that it may find

-- A read that isn't the last has no marks.
unmarked : (n : ℕ) (marks : List Mark) → 0 < n → marks_bound (if n == 0 then marks else []) ≡ 0
unmarked n marks some = ap marks_bound (no (n == 0) marks [] (ne_eqb n 0 (λ e. omega arith)))

words_most : (config : EndConfig) (address at : ℕ) (words : List ℕ) (marks : List Mark) → items_bound (word_steps config address at words marks) ≤ marks_bound marks
words_most config address at [] marks = omega arith
words_most config address at (word ∷ []) marks = omega arith
words_most config address at (word ∷ (next ∷ words)) marks = let e = words_most config address (at + 1) (next ∷ words) marks in let first = unmarked (length (next ∷ words)) marks (omega arith) in omega arith

added : (xs ys : List Step) → items_bound (xs ++ ys) ≡ items_bound xs + items_bound ys
added [] ys = omega arith
added (x ∷ xs) ys = let e = added xs ys in omega arith

item_most : (config : EndConfig) (number : ℕ) (read : Item) → IsValidItem config number read → items_bound (item_steps config number read) ≤ 8 + words_for LONGEST_FRAME
item_most config number read good =
    let marks = Deliver (frame_in read.bytes read.words) ∷ [] in
    let most = good.bytes.1 in
    let size = frame_length read.bytes read.words good.words in
    omega (arith, words_most config (item_address read) 0 read.words marks, added (word_steps config (item_address read) 0 read.words marks) (return_steps config number (item_entry config number read)))

items_most : (config : EndConfig) (number : ℕ) (reads : List Item) → AreValidItems config number reads → items_bound (items_steps config number reads) ≤ length reads * (8 + words_for LONGEST_FRAME)
items_most config number [] good = omega arith
items_most config number (read ∷ reads) good =
    let one = item_most config number read good.0 in let others = items_most config (number + 1) reads good.1 in
    omega (arith, added (item_steps config number read) (items_steps config (number + 1) reads))

refused_most : (config : EndConfig) (number : ℕ) (read : Item) (steps : List Step) → IsRefusedItem config number read steps → items_bound steps ≤ 8
refused_most config number read steps (inl is) = let b = ap items_bound is.1 in omega arith
refused_most config number read steps (inr (inl is)) = let b = ap items_bound is.2 in omega arith
refused_most config number read steps (inr (inr (inl is))) = let b = ap items_bound is.3 in omega arith
refused_most config number read steps (inr (inr (inr is))) = let b = ap items_bound is.4 in omega arith

-- The greatest number of steps of the items that a poll finds.
abbrev items_most_of : EndConfig → ℕ
items_most_of config = size_of config.sizes * (8 + words_for LONGEST_FRAME)

look_most : (config : EndConfig) (taken : ℕ) (FindsNone : List Step → Type 0) (steps : List Step) → (FindsNone steps → items_bound steps ≤ items_most_of config) →
    IsLook config taken FindsNone steps → items_bound steps ≤ items_most_of config
look_most config taken FindsNone steps none (inl r) = let b = ap items_bound r.steps_are in omega arith
look_most config taken FindsNone steps none (inr (inl r)) = none r
look_most config taken FindsNone steps none (inr (inr (inl r))) =
    let b = ap items_bound r.steps_are in let items = items_most config taken r.reads r.good in let within = r.within in let all = r.all in
    omega (arith, added (items_steps config taken r.reads) (doorbell_step config (Done ∷ []) ∷ []))
look_most config taken FindsNone steps none (inr (inr (inr r))) =
    let b = ap items_bound r.steps_are in let items = items_most config taken r.reads r.good in let within = r.within in let before = r.before in
    let last = refused_most config (taken + length r.reads) r.last r.last_steps r.refused in
    omega (arith, added (items_steps config taken r.reads) r.last_steps)

nothing_most : (config : EndConfig) (taken : ℕ) (steps : List Step) → FindsNothing config taken steps → items_bound steps ≤ items_most_of config
nothing_most config taken steps r = let b = ap items_bound r.steps_are in omega arith

again_most : (config : EndConfig) (taken : ℕ) (steps : List Step) → LooksAgain config taken steps → items_bound steps ≤ items_most_of config
again_most config taken steps r =
    let b = ap items_bound r.steps_are in let rest = look_most config taken (FindsNothing config taken) r.rest (nothing_most config taken r.rest) r.again in omega arith

poll_most : (config : EndConfig) (taken : ℕ) (last : Bool) (steps : List Step) → IsPoll config taken last steps → items_bound steps ≤ items_most_of config
poll_most config taken true steps is = look_most config taken (FindsNothing config taken) steps (nothing_most config taken steps) is
poll_most config taken false steps is = look_most config taken (LooksAgain config taken) steps (again_most config taken steps) is

by_phase : (phase : Phase) (Runs : Type 0) (steps : List Step) (most : ℕ) → (Runs → items_bound steps ≤ most) → RunsOrIsDown phase Runs steps → items_bound steps ≤ most
by_phase Reset Runs steps most runs is = let b = ap items_bound is in omega arith
by_phase Init Runs steps most runs is = let b = ap items_bound is in omega arith
by_phase Ready Runs steps most runs is = let b = ap items_bound is in omega arith
by_phase Run Runs steps most runs is = runs is

bound_most : (config : EndConfig) (end : End) (call : Call) (steps : List Step) → IsCall config end call steps → bound_of config call steps ≤ most_of config call
bound_most config end Tick steps is = omega arith
bound_most config end Stop steps is = omega arith
bound_most config end (Offer frame) steps is = omega arith
bound_most config end Poll steps is =
    let last = is_last config end.found_none in
    let most = by_phase end.handshake.phase (IsPoll config (length end.delivered) last steps) steps (items_most_of config) (poll_most config (length end.delivered) last steps) is in
    omega arith

-- The result of a call

pub finished_call : (config : EndConfig) (begun : Begun) → HasFewInFlight config begun.at.end → GoesAlong (tree_of config begun.at.end begun.call) begun.steps Ended → IsFinishedCall config begun
finished_call config begun few along =
    let makes : Makes (tree_of config begun.at.end begun.call) (begun.steps ++ []) = cuts.joins (tree_of config begun.at.end begun.call) Ended begun.steps [] along refl in
    let whole = lists.listed config begun.at.end begun.call begun.steps (subst (λ (steps : List Step). Makes (tree_of config begun.at.end begun.call) steps) (append-nil begun.steps) makes) in
    record { whole = whole; bound = bounding config begun.at.end begun.call begun.steps few whole }

-- An open call has steps left.
some_more : (config : EndConfig) (begun : Begun) (left : CallTree) → GoesAlong (tree_of config begun.at.end begun.call) begun.steps left → left ≢ Ended → (more : List Step) →
    IsCall config begun.at.end begun.call (begun.steps ++ more) → length begun.steps < length (begun.steps ++ more)
some_more config begun left along unfinished [] whole =
    let split = cuts.splits (tree_of config begun.at.end begun.call) begun.steps [] (lists.made config begun.at.end begun.call (begun.steps ++ []) whole) in
    let same = along_one_way (tree_of config begun.at.end begun.call) left split.0 begun.steps along split.1 in
    absurd (unfinished (same ∙ made_of_none split.0 split.2))
some_more config begun left along unfinished (step ∷ more) whole = omega (arith, length-append begun.steps (step ∷ more))

pub open_call : (config : EndConfig) (begun : Begun) (left : CallTree) → HasFewInFlight config begun.at.end → GoesAlong (tree_of config begun.at.end begun.call) begun.steps left → left ≢ Ended → IsOpenCall config begun
open_call config begun left few along unfinished = record { left = left; begins = along; unfinished = unfinished; within = within; few = fewer }
  where
    within : (more : List Step) → IsCall config begun.at.end begun.call (begun.steps ++ more) → length begun.steps < bound_of config begun.call (begun.steps ++ more)
    within more whole =
        let more_steps = some_more config begun left along unfinished more whole in
        let bound = bounding config begun.at.end begun.call (begun.steps ++ more) few whole in omega arith

    fewer : length begun.steps < most_of config begun.call
    fewer =
        let rest = ends_somehow left in
        let whole = lists.listed config begun.at.end begun.call (begun.steps ++ rest.0) (cuts.joins (tree_of config begun.at.end begun.call) left begun.steps rest.0 along rest.1) in
        let below = within rest.0 whole in
        let most = bound_most config begun.at.end begun.call (begun.steps ++ rest.0) whole in omega arith
