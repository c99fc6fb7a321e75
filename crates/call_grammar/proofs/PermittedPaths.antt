-- Every step from a call's first place on is permitted.
use Rattle.std.proofs.Common.{◌≡◌, ℕ, zero, suc, ◌+◌, ◌-◌, ◌*◌, ◌%◌, ◌<◌, ◌≤◌, Bool, true, false, List, [], ◌∷◌, ◌++◌, length, get_or, refl, sym, subst, arith, inl, inr, All, length-append}
use Rattle.std.specs.Prelude.{◌==◌, if◌then◌else◌}
use Rattle.std.proofs.lemmas.Nat.{mod_below}
use Rattle.std.proofs.lemmas.Bool.Decides.{nat_tests}
use Rattle.std.proofs.lemmas.List.Elements.{All-nil, All-cons}
use Rattle.split_ring.specs.Layout.{Field, DescAddress, DescLength, DescFlags, AvailIndex, AvailEntry, UsedIndex, UsedId, UsedLength, AvailEvent, IsField, has_events, size_of, limit_of, width_of, word_offset}
use Rattle.split_ring.specs.Ranges.{IsAvailEntry, IsDescAddress, IsDescLength, is_avail_entry, is_desc_address, is_desc_length, is_desc_flags, is_used_index, is_used_id, is_avail_index}
use Rattle.split_ring.specs.Spelling.{low_half, high_half, desc_flags}
use Rattle.split_ring.proofs.QueueHasBounds.{bounds}
use Rattle.split_ring.proofs.QueuesAreLaidOut.{queues_are_laid_out}
use Rattle.split_ring.proofs.TestsDecideRanges.{entry_of_test, address_of_test, length_of_test}
use Rattle.link_handshake.specs.HandshakeState.{move_of}
use Rattle.link_handshake.specs.declared.Move.{Move}
use Rattle.link_handshake.specs.declared.Move.TheVariants.{Stay, Set, ClearThenSet}
use Rattle.call_grammar.specs.Steps.{Step}
use Rattle.call_grammar.specs.Ends.{End}
use Rattle.call_grammar.specs.Ticks.{EndConfig, clear_steps}
use Rattle.call_grammar.specs.Words.{address_of, words_for}
use Rattle.call_grammar.specs.Offers.{PendingOffer, start_at, frame_fits, avail_entry_of, descriptor_of, wants_doorbell, returned_by, frame_write_steps}
use Rattle.call_grammar.specs.Polls.{entry_in, published_by, is_last}
use Rattle.call_grammar.specs.Calls.{Call, Tick, Stop, Offer, Poll, in_run, pending_of, down_step}
use Rattle.call_grammar.specs.Permitted.{MayRead, MayStore, IsPermittedAccess, HasSections, IsPermittedCall}
use Rattle.call_grammar.proofs.Lengths.{words_fit}
use Rattle.call_grammar.specs.Tasks.{Task, WritingState, Refusing, NotInRun, Publishing, WritingAvailEvent, Returning, RingingOffer, RingingPoll, steps_of}
use Rattle.call_grammar.specs.ItemFields.{item_field}
use Rattle.call_grammar.specs.PlaceTable.{Place, Closed, Doing, ReadingOtherState, ReadingUsedIndex, ReadingUsedId, ReadingAvailEvent, ReadingAvailIndex, ReadingItem, begin, tick_place, ids_place, items_place, place_after, item_place, step_at, next_place, first_place}
use Rattle.call_grammar.specs.Paths.{Leads}
use Rattle.call_grammar.specs.Permitted.{PathsArePermitted}

-- The words of a field are in the section

within : (config : EndConfig) → HasSections config → (f : Field) (more : ℕ) → IsField config.sizes f → 4 * more < width_of config.sizes f → word_offset config.sizes f + more < config.words
within config has f more is room = let inside = (queues_are_laid_out config.sizes has.queue).inside f is in let words = has.words in omega arith

own_word : (config : EndConfig) → HasSections config → (f : Field) (more : ℕ) → IsField config.sizes f → 4 * more < width_of config.sizes f → MayStore config (config.own + word_offset config.sizes f + more)
own_word config has f more is room = let low = within config has f more is room in (omega arith, omega arith)

first_own : (config : EndConfig) → HasSections config → (f : Field) → IsField config.sizes f → 0 < width_of config.sizes f → MayStore config (config.own + word_offset config.sizes f)
first_own config has f is room = let low = within config has f 0 is (omega arith) in (omega arith, omega arith)

their_word : (config : EndConfig) → HasSections config → (f : Field) (more : ℕ) → IsField config.sizes f → 4 * more < width_of config.sizes f → MayRead config (config.other_start + word_offset config.sizes f + more)
their_word config has f more is room = let low = within config has f more is room in inr (omega arith, omega arith)

first_their : (config : EndConfig) → HasSections config → (f : Field) → IsField config.sizes f → 0 < width_of config.sizes f → MayRead config (config.other_start + word_offset config.sizes f)
first_their config has f is room = let low = within config has f 0 is (omega arith) in inr (omega arith, omega arith)

in_ring : (config : EndConfig) → HasSections config → (number : ℕ) → avail_entry_of config number < size_of config.sizes
in_ring config has number = let least = (bounds config.sizes has.queue).size_least in mod_below number (size_of config.sizes) (omega arith)

in_slots : (config : EndConfig) → HasSections config → (number : ℕ) → descriptor_of config number < limit_of config.sizes
in_slots config has number = mod_below number (limit_of config.sizes) (bounds config.sizes has.queue).limit_least

in_table : (config : EndConfig) → HasSections config → (number : ℕ) → descriptor_of config number < size_of config.sizes
in_table config has number = let low = in_slots config has number in let most = (bounds config.sizes has.queue).limit_most in omega arith

-- The invariant of each place: a frame that is offered fits, and the fields read of an item passed
-- their tests.

abbrev Fits : EndConfig → PendingOffer → Type 0
Fits config pending = start_at config pending + 4 * words_for (length pending.frame) ≤ config.sizes.out

abbrev Passed : EndConfig → List ℕ → Type 0
Passed config [] = Unit {0}
Passed config (e ∷ lo ∷ a ∷ []) = IsAvailEntry config.sizes e × IsDescAddress config.sizes a
Passed config (e ∷ lo ∷ a ∷ l ∷ []) = IsAvailEntry config.sizes e × IsDescAddress config.sizes a × IsDescLength config.sizes a l
Passed config (e ∷ lo ∷ a ∷ l ∷ f ∷ words) = IsDescAddress config.sizes a × IsDescLength config.sizes a l × (length words < words_for l)
Passed config (e ∷ _) = IsAvailEntry config.sizes e

abbrev Holds : EndConfig → Place → Type 0
Holds config (Doing (Publishing pending) at) = Fits config pending
Holds config (ReadingUsedIndex pending freed) = Fits config pending
Holds config (ReadingUsedId pending freed more) = Fits config pending
Holds config (ReadingItem number more read) = Passed config read
Holds config _ = Unit {0}

-- The steps of a task

abbrev AreAll : EndConfig → List Step → Type 0
AreAll config [] = Unit {0}
AreAll config (step ∷ steps) = IsPermittedAccess config step.access × AreAll config steps

all_at : (config : EndConfig) (steps : List Step) (at : ℕ) → AreAll config steps → IsPermittedAccess config (get_or steps at down_step).access
all_at config [] zero all = tt
all_at config [] (suc at) all = tt
all_at config (step ∷ steps) zero all = all.0
all_at config (step ∷ steps) (suc at) all = all_at config steps at all.1

clears : (config : EndConfig) (at more : ℕ) (rest : List Step) → config.own ≤ at → at + more ≤ config.own + config.words → AreAll config rest → AreAll config (clear_steps at more ++ rest)
clears config at zero rest low high all = all
clears config at (suc more) rest low high all = ((low, omega arith), clears config (at + 1) more rest (omega arith) (omega arith) all)

fills : (config : EndConfig) → HasSections config → (pending : PendingOffer) (at more : ℕ) (rest : List Step) → start_at config pending + 4 * (at + more) ≤ config.sizes.out → AreAll config rest → AreAll config (frame_write_steps config pending at more ++ rest)
fills config has pending at zero rest room all = all
fills config has pending at (suc more) rest room all = ((let words = has.words in (omega arith, omega arith)), fills config has pending (at + 1) more rest (omega arith) all)

task_permitted : (config : EndConfig) → HasSections config → (task : Task) (at : ℕ) → Holds config (Doing task at) → AreAll config (steps_of config task)
task_permitted config has (WritingState false state) at holds = (tt, tt)
task_permitted config has (WritingState true state) at holds = clears config config.own config.words _ (omega arith) (omega arith) (tt, tt)
task_permitted config has Refusing at holds = (tt, tt)
task_permitted config has NotInRun at holds = (tt, tt)
task_permitted config has (Publishing pending) at holds = let i = in_table config has pending.number in let d = descriptor_of config pending.number in fills config has pending 0 (words_for (length pending.frame)) _ (omega arith) (
  first_own config has (DescAddress d) i (omega arith),
  (
    own_word config has (DescAddress d) 1 i (omega arith),
    (
      first_own config has (DescLength d) i (omega arith),
      (
        first_own config has (DescFlags d) i (omega arith),
        (first_own config has (AvailEntry (avail_entry_of config pending.number)) (in_ring config has pending.number) (omega arith), (first_own config has AvailIndex tt (omega arith), tt)),
      ),
    ),
  ),
)
task_permitted config has (WritingAvailEvent taken) at holds = (first_own config has AvailEvent tt (omega arith), tt)
task_permitted config has (Returning number more entry) at holds = let i = in_ring config has number in
    (first_own config has (UsedId (avail_entry_of config number)) i (omega arith), (first_own config has (UsedLength (avail_entry_of config number)) i (omega arith), (first_own config has UsedIndex tt (omega arith), tt)))
task_permitted config has RingingOffer at holds = (refl, tt)
task_permitted config has RingingPoll at holds = (refl, tt)

-- The next places

choice : (config : EndConfig) (b : Bool) (p q : Place) → (b ≡ true → Holds config p) → Holds config q → Holds config (if b then p else q)
choice config true p q first second = first refl
choice config false p q first second = second

items_hold : (config : EndConfig) (number count : ℕ) → Holds config (items_place number count)
items_hold config number zero = tt
items_hold config number (suc more) = tt

after_holds : (config : EndConfig) (task : Task) → Holds config (place_after config task)
after_holds config (Publishing pending) = choice config (has_events config.sizes) (ReadingAvailEvent pending.number) (begin RingingOffer) (λ _. tt) tt
after_holds config (Returning number more entry) = items_hold config (number + 1) more
after_holds config (WritingAvailEvent taken) = tt
after_holds config _ = tt

doing_holds : (config : EndConfig) (task : Task) (at : ℕ) → Holds config (Doing task at) → Holds config (Doing task (at + 1))
doing_holds config (Publishing pending) at holds = holds
doing_holds config _ at holds = tt

ids_hold : (config : EndConfig) (pending : PendingOffer) (freed count : ℕ) → Fits config pending → Holds config (ids_place config pending freed count)
ids_hold config pending freed zero fits = choice config (frame_fits config pending freed) (begin (Publishing pending)) Closed (λ _. fits) tt
ids_hold config pending freed (suc more) fits = fits

tick_holds : (config : EndConfig) (move : Move) → Holds config (tick_place move)
tick_holds config Stay = tt
tick_holds config (Set state) = tt
tick_holds config (ClearThenSet state) = tt

-- Before the last word of a frame there is one more.
words_hold : (config : EndConfig) (number more e lo a l f : ℕ) (words : List ℕ) → IsDescAddress config.sizes a → IsDescLength config.sizes a l → length words ≤ words_for l →
    Holds config (item_place number more (e ∷ lo ∷ a ∷ l ∷ f ∷ words))
words_hold config number more e lo a l f words ia il some = by_bool (length words == words_for l) refl
  where
    by_bool : (b : Bool) → (length words == words_for l) ≡ b → Holds config (if b then begin (Returning number more e) else ReadingItem number more (e ∷ lo ∷ a ∷ l ∷ f ∷ words))
    by_bool true test = tt
    by_bool false test = (ia, il, grind (arith, nat_tests))

-- The read of a field of an item, and the place after it.
item_permitted : (config : EndConfig) → HasSections config → (number more : ℕ) (read : List ℕ) (value : ℕ) → Passed config read →
    MayRead config (item_field config number read).word × Holds config (next_place config (ReadingItem number more read) value)
item_permitted config has number more [] value passed =
    (first_their config has (AvailEntry (avail_entry_of config number)) (in_ring config has number) (omega arith), choice config (is_avail_entry config.sizes (entry_in config number value)) _ (begin Refusing) (λ test. entry_of_test config.sizes _ test) tt)
item_permitted config has number more (e ∷ []) value passed = (first_their config has (DescAddress e) passed (omega arith), passed)
item_permitted config has number more (e ∷ lo ∷ []) value passed =
    (their_word config has (DescAddress e) 1 passed (omega arith), choice config (is_desc_address config.sizes (address_of lo value)) _ (begin Refusing) (λ test. (passed, address_of_test config.sizes _ test)) tt)
item_permitted config has number more (e ∷ lo ∷ a ∷ []) value passed =
    (first_their config has (DescLength e) passed.0 (omega arith), choice config (is_desc_length config.sizes a value) _ (begin Refusing) (λ test. (passed.0, passed.1, length_of_test config.sizes _ value test)) tt)
item_permitted config has number more (e ∷ lo ∷ a ∷ l ∷ []) value passed =
    (first_their config has (DescFlags e) passed.0 (omega arith), choice config (is_desc_flags (desc_flags value)) _ (begin Refusing) (λ test. words_hold config number more e lo a l (desc_flags value) [] passed.1 passed.2 (omega arith)) tt)
item_permitted config has number more (e ∷ lo ∷ a ∷ l ∷ f ∷ words) value passed =
    let even = passed.0.0 in let ends = passed.1.2 in let lt = passed.2 in
    ((let sizes = has.words in inr (omega arith, omega arith)), words_hold config number more e lo a l f (words ++ value ∷ []) passed.0 passed.1 (omega (arith, length-append words (value ∷ []))))

-- Each place

permitted : (config : EndConfig) → HasSections config → (place : Place) (value : ℕ) → Holds config place → IsPermittedAccess config (step_at config place value).access × Holds config (next_place config place value)
permitted config has Closed value holds = (tt, tt)
permitted config has (Doing task at) value holds = (
  all_at config (steps_of config task) at (task_permitted config has task at holds),
  choice config (at + 1 == length (steps_of config task)) (place_after config task) (Doing task (at + 1)) (λ _. after_holds config task) (doing_holds config task at holds),
)
permitted config has (ReadingOtherState handshake) value holds = (inl refl, tick_holds config (move_of handshake value))
permitted config has (ReadingUsedIndex pending freed) value holds = (
  first_their config has UsedIndex tt (omega arith),
  choice config (is_used_index (freed % 65536) (high_half value) (pending.number - freed)) (ids_place config pending freed (returned_by freed value)) (begin Refusing) (λ _. ids_hold config pending freed (returned_by freed value) holds) tt,
)
permitted config has (ReadingUsedId pending freed more) value holds = (
  first_their config has (UsedId (avail_entry_of config freed)) (in_ring config has freed) (omega arith),
  choice config (is_used_id (descriptor_of config freed) value) (ids_place config pending (freed + 1) more) (begin Refusing) (λ _. ids_hold config pending (freed + 1) more holds) tt,
)
permitted config has (ReadingAvailEvent number) value holds = (first_their config has AvailEvent tt (omega arith), choice config (wants_doorbell (low_half value) number) (begin RingingOffer) Closed (λ _. tt) tt)
permitted config has (ReadingAvailIndex taken last) value holds = (
  first_their config has AvailIndex tt (omega arith),
  choice config (is_avail_index config.sizes (taken % 65536) (high_half value)) _ (begin Refusing)
      (λ _. choice config (published_by taken value == 0) _ _ (λ _. choice config last Closed (begin (WritingAvailEvent taken)) (λ _. tt) tt) (items_hold config taken (published_by taken value))) tt,
)
permitted config has (ReadingItem number more read) value holds = item_permitted config has number more read value holds

first_holds : (config : EndConfig) (end : End) (call : Call) → HasSections config → IsPermittedCall config call → Holds config (first_place config end call)
first_holds config end Tick has given = tt
first_holds config end Stop has given = tt
first_holds config end (Offer frame) has given = choice config (in_run end.handshake.phase) (ReadingUsedIndex (pending_of config end frame) end.freed) (begin NotInRun) (λ _. words_fit config end frame has given.1) tt
first_holds config end Poll has given = choice config (in_run end.handshake.phase) (ReadingAvailIndex (length end.delivered) (is_last config end.found_none)) (begin NotInRun) (λ _. tt) tt

steps_permitted : (config : EndConfig) → HasSections config → (place left : Place) (steps : List Step) → Holds config place → Leads config place steps left → All (λ step. IsPermittedAccess config step.access) steps
steps_permitted config has place left [] holds leads = All-nil (λ (s : Step). IsPermittedAccess config s.access)
steps_permitted config has place left (step ∷ steps) holds leads = let here = permitted config has place step.value holds in
    All-cons (λ (s : Step). IsPermittedAccess config s.access) step steps (subst (λ (s : Step). IsPermittedAccess config s.access) (sym leads.1) here.0) (steps_permitted config has (next_place config place step.value) left steps here.1 leads.2)

pub permitting : PathsArePermitted
permitting config end call steps left has given leads = steps_permitted config has (first_place config end call) left steps (first_holds config end call has given) leads
