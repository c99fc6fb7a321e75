-- A poll from place to place and as a list.
use Rattle.std.proofs.Common.{◌≡◌, ◌≢◌, ℕ, zero, suc, ◌+◌, ◌/◌, ◌<◌, ◌≤◌, ◌⊎◌, inl, inr, Bool, true, false, List, [], ◌∷◌, ◌++◌, length, refl, sym, ap, ◌∙◌, subst, arith, append_assoc, eq-eqb, ne_eqb, length-append}
use Rattle.std.specs.Prelude.{◌==◌, if◌then◌else◌, ◌%◌}
use Rattle.std.proofs.lemmas.Bool.Decides.{nat_tests}
use Rattle.split_ring.specs.declared.steps.Access.TheVariants.{Read}
use Rattle.split_ring.specs.Layout.{size_of}
use Rattle.split_ring.specs.Ranges.{IsAvailEntry, IsDescAddress, IsDescLength, is_avail_index}
use Rattle.split_ring.specs.declared.ranges.FieldName.TheVariants as field_name
use Rattle.split_ring.specs.Spelling.{high_half, desc_flags}
use Rattle.split_ring.proofs.TestsDecideRanges.{entry_of_test, entry_denies, entry_test, entry_fails, address_of_test, address_test, address_denies, address_fails, length_of_test, length_test, length_denies, length_fails, flags_of_test, flags_denies}
use Rattle.call_grammar.specs.Steps.{Step, Mark, Look, Deliver, Done, step_of}
use Rattle.call_grammar.specs.Ticks.{EndConfig, state_step}
use Rattle.call_grammar.specs.Words.{address_of, words_for, frame_in}
use Rattle.call_grammar.specs.Offers.{refusal, refused_steps, doorbell_step}
use Rattle.call_grammar.specs.Polls.{entry_in, published_by, avail_event_write_step, IsLook, FindsNothing, LooksAgain, Item, item_entry, item_address, entry_step, low_step, high_step, length_step, word_steps, return_steps, IsValidItem, item_steps, AreValidItems, items_steps, IsRefusedItem, avail_index_step, IsPoll}
use Rattle.call_grammar.proofs.OfferLists.{yes, no, within_test, beyond_test}
use Rattle.call_grammar.specs.Tasks.{Returning, RingingPoll, WritingAvailEvent, Refusing}
use Rattle.call_grammar.specs.ItemFields.{item_field, deliver_marks, passes}
use Rattle.call_grammar.specs.PlaceTable.{Place, Closed, ReadingAvailIndex, ReadingItem, begin, items_place, item_place}
use Rattle.call_grammar.specs.Paths.{Leads}
use Rattle.call_grammar.proofs.Tasks.{ended, task_listed, task_path, closing_listed, closing_path}
use Rattle.call_grammar.proofs.OfferPaths.{refused_listed, refused_path}

-- One read of an item: its value passes and the rest follows, or it is refused

abbrev read_step : EndConfig → ℕ → List ℕ → ℕ → List Mark → Step
read_step config number read value marks = step_of (Read (item_field config number read).word) value marks

abbrev refused_field : EndConfig → ℕ → List ℕ → ℕ → List Mark
refused_field config number read value = refusal (item_field config number read).name ((item_field config number read).value value)

abbrev IsRead : EndConfig → (number more : ℕ) → List ℕ → ℕ → List Step → Type 0
IsRead config number more read value steps =
    ((passes config number read value ≡ true) × (others : List Step) × (steps ≡ read_step config number read value (deliver_marks read value) ∷ others) × Leads config (item_place number more (read ++ (item_field config number read).value value ∷ [])) others Closed) ⊎
    ((passes config number read value ≡ false) × (steps ≡ refused_steps (read_step config number read value (refused_field config number read value))))

read_by : (config : EndConfig) (number more : ℕ) (read : List ℕ) (value : ℕ) (step : Step) (steps : List Step) (b : Bool) → passes config number read value ≡ b →
    step ≡ read_step config number read value (if b then deliver_marks read value else refused_field config number read value) →
    Leads config (if b then item_place number more (read ++ (item_field config number read).value value ∷ []) else begin Refusing) steps Closed → IsRead config number more read value (step ∷ steps)
read_by config number more read value step steps true test first later = inl (test, steps, (cc), later)
read_by config number more read value step steps false test first later = inr (test, (let tail = refused_listed config steps later in cc))

field_read : (config : EndConfig) (number more : ℕ) (read : List ℕ) (steps : List Step) → Leads config (ReadingItem number more read) steps Closed → (value : ℕ) × IsRead config number more read value steps
field_read config number more read [] leads = absurd (cc)
field_read config number more read (step ∷ steps) leads = (step.value, read_by config number more read step.value step steps (passes config number read step.value) refl leads.1 leads.2)

passed_path : (config : EndConfig) (number more : ℕ) (read : List ℕ) (value : ℕ) (others : List Step) → passes config number read value ≡ true → Leads config (item_place number more (read ++ (item_field config number read).value value ∷ [])) others Closed →
    Leads config (ReadingItem number more read) (read_step config number read value (deliver_marks read value) ∷ others) Closed
passed_path config number more read value others test later = (
  refl,
  ap (read_step config number read value) (sym (yes (passes config number read value) (deliver_marks read value) (refused_field config number read value) test)),
  subst (λ (p : Place). Leads config p others Closed) (sym (yes (passes config number read value) (item_place number more (read ++ (item_field config number read).value value ∷ [])) (begin Refusing) test)) later,
)

failed_path : (config : EndConfig) (number more : ℕ) (read : List ℕ) (value : ℕ) → passes config number read value ≡ false →
    Leads config (ReadingItem number more read) (refused_steps (read_step config number read value (refused_field config number read value))) Closed
failed_path config number more read value test = (
  refl,
  ap (read_step config number read value) (sym (no (passes config number read value) (deliver_marks read value) (refused_field config number read value) test)),
  subst (λ (p : Place). Leads config p (state_step 0 ∷ []) Closed) (sym (no (passes config number read value) (item_place number more (read ++ (item_field config number read).value value ∷ [])) (begin Refusing) test)) (refused_path config),
)

-- The words of a frame, and the steps after them

abbrev values_of : (e lo a l f : ℕ) → List ℕ → List ℕ
values_of e lo a l f words = e ∷ lo ∷ a ∷ l ∷ f ∷ words

abbrev WordsListed : EndConfig → (number more e lo a l : ℕ) → (read : List ℕ) → (count at : ℕ) → List Step → Type 0
WordsListed config number more e lo a l read count at steps = (words : List ℕ) × (tail : List Step) × Leads config (items_place (number + 1) more) tail Closed × (length words ≡ count) ×
    (steps ≡ word_steps config a at words (Deliver (frame_in l (read ++ words)) ∷ []) ++ (return_steps config number e ++ tail))

longer : (xs : List ℕ) (x : ℕ) → length (xs ++ x ∷ []) ≡ length xs + 1
longer xs x = length-append xs (x ∷ [])

-- The marks of a word: the last word delivers the frame.
word_marks : (l value : ℕ) (read words : List ℕ) → length read + suc (length words) ≡ words_for l →
    (if length read + 1 == words_for l then Deliver (frame_in l (read ++ value ∷ [])) ∷ [] else []) ≡ (if length words == 0 then Deliver (frame_in l (read ++ value ∷ words)) ∷ [] else [])
word_marks l value read [] is = yes (length read + 1 == words_for l) _ _ (grind (arith, nat_tests))
word_marks l value read (w ∷ ws) is = let n : (length read + 1 == words_for l) ≡ false = grind (arith, nat_tests) in let z : (length (w ∷ ws) == 0) ≡ false = grind (arith, nat_tests) in no (length read + 1 == words_for l) _ _ n ∙ sym (no (length (w ∷ ws) == 0) _ _ z)

-- After the last word the item is returned; before it the next word is read.
all_read : (config : EndConfig) (number more e lo a l f : ℕ) (read : List ℕ) → length read ≡ words_for l → item_place number more (values_of e lo a l f read) ≡ begin (Returning number more e)
all_read config number more e lo a l f read is = yes (length read == words_for l) _ _ (eq-eqb _ _ is)

more_to_read : (config : EndConfig) (number more e lo a l f count : ℕ) (read : List ℕ) → length read + suc count ≡ words_for l → item_place number more (values_of e lo a l f read) ≡ ReadingItem number more (values_of e lo a l f read)
more_to_read config number more e lo a l f count read is = no (length read == words_for l) _ _ (grind (arith, nat_tests))

words_listed : (config : EndConfig) (number more e lo a l f : ℕ) (read : List ℕ) (count at : ℕ) (steps : List Step) → at ≡ length read → length read + count ≡ words_for l →
    Leads config (item_place number more (values_of e lo a l f read)) steps Closed → WordsListed config number more e lo a l read count at steps
words_listed config number more e lo a l f read zero at steps is n leads =
    let r = task_listed config (Returning number more e) steps (subst (λ (p : Place). Leads config p steps Closed) (all_read config number more e lo a l f read (omega arith)) leads) in ([], r.0, r.2, refl, r.1)
words_listed config number more e lo a l f read (suc count) at [] is n leads = let shut = leads ∙ more_to_read config number more e lo a l f count read n in absurd (cc)
words_listed config number more e lo a l f read (suc count) at (step ∷ steps) is n leads =
    let here = subst (λ (p : Place). Leads config p (step ∷ steps) Closed) (more_to_read config number more e lo a l f count read n) leads in
    let v = step.value in
    let others = words_listed config number more e lo a l f (read ++ v ∷ []) count (at + 1) steps (omega (arith, longer read v)) (omega (arith, longer read v)) here.2 in
    let words = others.0 in let tail = others.1 in
    let whole : (read ++ v ∷ []) ++ words ≡ read ++ v ∷ words = append_assoc read (v ∷ []) words in
    let first : step ≡ step_of (Read (config.other_start + (a / 4 + at))) v (if length words == 0 then Deliver (frame_in l (read ++ v ∷ words)) ∷ [] else []) =
    here.1 ∙ (ap (λ n. step_of (Read (config.other_start + (a / 4 + n))) v (deliver_marks (values_of e lo a l f read) v)) (sym is) ∙
    ap (λ (m : List Mark). step_of (Read (config.other_start + (a / 4 + at))) v m) (word_marks l v read words (let k = others.3 in omega arith))) in
    let rest : steps ≡ word_steps config a (at + 1) words (Deliver (frame_in l (read ++ v ∷ words)) ∷ []) ++ (return_steps config number e ++ tail) =
    others.4 ∙ ap (λ (xs : List ℕ). word_steps config a (at + 1) words (Deliver (frame_in l xs) ∷ []) ++ (return_steps config number e ++ tail)) whole in
    (v ∷ words, tail, others.2, (let k = others.3 in omega arith), (cc))

words_path : (config : EndConfig) (number more e lo a l f : ℕ) (read words : List ℕ) (at : ℕ) (tail : List Step) → at ≡ length read → length read + length words ≡ words_for l → Leads config (items_place (number + 1) more) tail Closed →
    Leads config (item_place number more (values_of e lo a l f read)) (word_steps config a at words (Deliver (frame_in l (read ++ words)) ∷ []) ++ (return_steps config number e ++ tail)) Closed
words_path config number more e lo a l f read [] at tail is n later =
    subst (λ (p : Place). Leads config p (return_steps config number e ++ tail) Closed) (sym (all_read config number more e lo a l f read (omega arith))) (task_path config (Returning number more e) tail Closed later)
words_path config number more e lo a l f read (w ∷ words) at tail is n later =
    let whole : (read ++ w ∷ []) ++ words ≡ read ++ w ∷ words = append_assoc read (w ∷ []) words in
    let rest = subst (λ (xs : List ℕ). Leads config (item_place number more (values_of e lo a l f (read ++ w ∷ []))) (word_steps config a (at + 1) words (Deliver (frame_in l xs) ∷ []) ++ (return_steps config number e ++ tail)) Closed) whole
    (words_path config number more e lo a l f (read ++ w ∷ []) words (at + 1) tail (omega (arith, longer read w)) (omega (arith, longer read w)) later) in
    let others = word_steps config a (at + 1) words (Deliver (frame_in l (read ++ w ∷ words)) ∷ []) ++ (return_steps config number e ++ tail) in
    let here = passed_path config number more (values_of e lo a l f read) w others refl rest in
    let last = if length words == 0 then Deliver (frame_in l (read ++ w ∷ words)) ∷ [] else [] in
    let first : read_step config number (values_of e lo a l f read) w (deliver_marks (values_of e lo a l f read) w) ≡ step_of (Read (config.other_start + (a / 4 + at))) w last =
    ap (λ n. step_of (Read (config.other_start + (a / 4 + n))) w (deliver_marks (values_of e lo a l f read) w)) (sym is) ∙ ap (λ (m : List Mark). step_of (Read (config.other_start + (a / 4 + at))) w m) (word_marks l w read words n) in
    subst (λ (p : Place). Leads config p (step_of (Read (config.other_start + (a / 4 + at))) w last ∷ others) Closed) (sym (more_to_read config number more e lo a l f (length words) read n))
    (subst (λ (s : Step). Leads config (ReadingItem number more (values_of e lo a l f read)) (s ∷ others) Closed) first here)

-- One item

abbrev ItemListed : EndConfig → (number more : ℕ) → List Step → Type 0
ItemListed config number more steps = ((read : Item) × IsValidItem config number read × (tail : List Step) × Leads config (items_place (number + 1) more) tail Closed × (steps ≡ item_steps config number read ++ tail)) ⊎ ((read : Item) × IsRefusedItem config number read steps)

abbrev item_of : (ew lo hi l fw : ℕ) → List ℕ → Item
item_of ew lo hi l fw words = record { entry_word = ew; low = lo; high = hi; bytes = l; flags_word = fw; words = words }

-- The steps before the read of the flags, and of the length.
abbrev three : EndConfig → (number ew lo hi : ℕ) → List Step → List Step
three config number ew lo hi steps = entry_step config number (item_of ew lo hi 0 0 []) [] ∷ low_step config number (item_of ew lo hi 0 0 []) ∷ high_step config number (item_of ew lo hi 0 0 []) [] ∷ steps

abbrev four : EndConfig → (number ew lo hi l : ℕ) → List Step → List Step
four config number ew lo hi l steps = three config number ew lo hi (length_step config number (item_of ew lo hi l 0 []) [] ∷ steps)

flags_item : (config : EndConfig) (number more ew lo hi l : ℕ) (steps : List Step) → IsAvailEntry config.sizes (entry_in config number ew) → IsDescAddress config.sizes (address_of lo hi) → IsDescLength config.sizes (address_of lo hi) l →
    (t : (value : ℕ) × IsRead config number more (entry_in config number ew ∷ lo ∷ address_of lo hi ∷ l ∷ []) value steps) → ItemListed config number more (four config number ew lo hi l steps)
flags_item config number more ew lo hi l steps ie ia il (fw, inl good) =
    let w = words_listed config number more (entry_in config number ew) lo (address_of lo hi) l (desc_flags fw) [] (words_for l) 0 good.1 refl (omega arith) good.3 in
    let read = item_of ew lo hi l fw w.0 in
    inl (
      read,
      record { entry = ie; address = ia; bytes = il; flags = flags_of_test (desc_flags fw) good.0; words = w.3 },
      w.1,
      w.2,
      (let here = good.2 in let rest = w.4 in let seam = append_assoc (word_steps config (address_of lo hi) 0 w.0 (Deliver (frame_in l w.0) ∷ [])) (return_steps config number (entry_in config number ew)) w.1 in cc),
    )
flags_item config number more ew lo hi l steps ie ia il (fw, inr bad) = inr (item_of ew lo hi l fw [], inr (inr (inr (ie, ia, il, flags_denies (desc_flags fw) bad.0, (let here = bad.1 in cc)))))

length_item : (config : EndConfig) (number more ew lo hi : ℕ) (steps : List Step) → IsAvailEntry config.sizes (entry_in config number ew) → IsDescAddress config.sizes (address_of lo hi) →
    (t : (value : ℕ) × IsRead config number more (entry_in config number ew ∷ lo ∷ address_of lo hi ∷ []) value steps) → ItemListed config number more (three config number ew lo hi steps)
length_item config number more ew lo hi steps ie ia (l, inl good) =
    subst (λ (s : List Step). ItemListed config number more (three config number ew lo hi s)) (sym good.2)
    (flags_item config number more ew lo hi l good.1 ie ia (length_of_test config.sizes (address_of lo hi) l good.0) (field_read config number more (entry_in config number ew ∷ lo ∷ address_of lo hi ∷ l ∷ []) good.1 good.3))
length_item config number more ew lo hi steps ie ia (l, inr bad) = inr (item_of ew lo hi l 0 [], inr (inr (inl (ie, ia, length_denies config.sizes (address_of lo hi) l bad.0, (let here = bad.1 in cc)))))

high_item : (config : EndConfig) (number more ew lo : ℕ) (steps : List Step) → IsAvailEntry config.sizes (entry_in config number ew) → (t : (value : ℕ) × IsRead config number more (entry_in config number ew ∷ lo ∷ []) value steps) →
    ItemListed config number more (entry_step config number (item_of ew lo 0 0 0 []) [] ∷ low_step config number (item_of ew lo 0 0 0 []) ∷ steps)
high_item config number more ew lo steps ie (hi, inl good) =
    subst (λ (s : List Step). ItemListed config number more (entry_step config number (item_of ew lo 0 0 0 []) [] ∷ low_step config number (item_of ew lo 0 0 0 []) ∷ s)) (sym good.2)
    (length_item config number more ew lo hi good.1 ie (address_of_test config.sizes (address_of lo hi) good.0) (field_read config number more (entry_in config number ew ∷ lo ∷ address_of lo hi ∷ []) good.1 good.3))
high_item config number more ew lo steps ie (hi, inr bad) = inr (item_of ew lo hi 0 0 [], inr (inl (ie, address_denies config.sizes (address_of lo hi) bad.0, (let here = bad.1 in cc))))

low_item : (config : EndConfig) (number more ew : ℕ) (steps : List Step) → IsAvailEntry config.sizes (entry_in config number ew) → (t : (value : ℕ) × IsRead config number more (entry_in config number ew ∷ []) value steps) →
    ItemListed config number more (entry_step config number (item_of ew 0 0 0 0 []) [] ∷ steps)
low_item config number more ew steps ie (lo, inl good) = subst (λ (s : List Step). ItemListed config number more (entry_step config number (item_of ew 0 0 0 0 []) [] ∷ s)) (sym good.2) (high_item config number more ew lo good.1 ie (field_read config number more (entry_in config number ew ∷ lo ∷ []) good.1 good.3))
low_item config number more ew steps ie (lo, inr bad) = let never : true ≡ false = bad.0 in absurd (cc)

entry_item : (config : EndConfig) (number more : ℕ) (steps : List Step) → (t : (value : ℕ) × IsRead config number more [] value steps) → ItemListed config number more steps
entry_item config number more steps (ew, inl good) = subst (λ (s : List Step). ItemListed config number more s) (sym good.2) (low_item config number more ew good.1 (entry_of_test config.sizes (entry_in config number ew) good.0) (field_read config number more (entry_in config number ew ∷ []) good.1 good.3))
entry_item config number more steps (ew, inr bad) = inr (item_of ew 0 0 0 0 [], inl (entry_denies config.sizes (entry_in config number ew) bad.0, (let here = bad.1 in cc)))

item_listed : (config : EndConfig) (number more : ℕ) (steps : List Step) → Leads config (ReadingItem number more []) steps Closed → ItemListed config number more steps
item_listed config number more steps leads = entry_item config number more steps (field_read config number more [] steps leads)

-- The converse

-- The rest of an item. As a record it shows its steps.
record Rest (config : EndConfig) (place : Place) (steps : List Step) : Type 0 where
  leads : Leads config place steps Closed

length_path : (config : EndConfig) (number more : ℕ) (read : Item) (steps : List Step) → IsDescLength config.sizes (item_address read) read.bytes → Rest config (ReadingItem number more (item_entry config number read ∷ read.low ∷ item_address read ∷ read.bytes ∷ [])) steps →
    Rest config (ReadingItem number more (item_entry config number read ∷ read.low ∷ item_address read ∷ [])) (length_step config number read [] ∷ steps)
length_path config number more read steps il later = record { leads = passed_path config number more (item_entry config number read ∷ read.low ∷ item_address read ∷ []) read.bytes steps (length_test config.sizes (item_address read) read.bytes il) later.leads }

high_path : (config : EndConfig) (number more : ℕ) (read : Item) (steps : List Step) → IsDescAddress config.sizes (item_address read) → Rest config (ReadingItem number more (item_entry config number read ∷ read.low ∷ item_address read ∷ [])) steps →
    Rest config (ReadingItem number more (item_entry config number read ∷ read.low ∷ [])) (high_step config number read [] ∷ steps)
high_path config number more read steps ia later = record { leads = passed_path config number more (item_entry config number read ∷ read.low ∷ []) read.high steps (address_test config.sizes (item_address read) ia) later.leads }

entry_path : (config : EndConfig) (number more : ℕ) (read : Item) (steps : List Step) → IsAvailEntry config.sizes (item_entry config number read) → Rest config (ReadingItem number more (item_entry config number read ∷ read.low ∷ [])) steps →
    Leads config (ReadingItem number more []) (entry_step config number read [] ∷ low_step config number read ∷ steps) Closed
entry_path config number more read steps ie later = passed_path config number more [] read.entry_word (low_step config number read ∷ steps) (entry_test config.sizes (item_entry config number read) ie) (passed_path config number more (item_entry config number read ∷ []) read.low steps refl later.leads)

failed : (config : EndConfig) (number more : ℕ) (read : List ℕ) (value : ℕ) → passes config number read value ≡ false → Rest config (ReadingItem number more read) (refused_steps (read_step config number read value (refused_field config number read value)))
failed config number more read value test = record { leads = failed_path config number more read value test }

good_path : (config : EndConfig) (number more : ℕ) (read : Item) (tail : List Step) → IsValidItem config number read → Leads config (items_place (number + 1) more) tail Closed → Leads config (ReadingItem number more []) (item_steps config number read ++ tail) Closed
good_path config number more read tail good later = let e = item_entry config number read in let a = item_address read in let before = item_entry config number read ∷ read.low ∷ item_address read ∷ read.bytes ∷ [] in
    let words = words_path config number more e read.low a read.bytes (desc_flags read.flags_word) [] read.words 0 tail refl (let n = good.words in omega arith) later in
    let seam = append_assoc (word_steps config a 0 read.words (Deliver (frame_in read.bytes read.words) ∷ [])) (return_steps config number e) tail in
    let others = (word_steps config a 0 read.words (Deliver (frame_in read.bytes read.words) ∷ []) ++ return_steps config number e) ++ tail in
    let f : Rest config (ReadingItem number more before) (read_step config number before read.flags_word [] ∷ others) = record {
      leads = passed_path config number more before read.flags_word others (eq-eqb _ _ good.flags)
          (subst (λ (l : List Step). Leads config (item_place number more (before ++ desc_flags read.flags_word ∷ [])) l Closed) (sym seam) words);
    } in
    entry_path config number more read _ good.entry (high_path config number more read _ good.address (length_path config number more read _ good.bytes f))

refused_item : (config : EndConfig) (number more : ℕ) (read : Item) (steps : List Step) → IsRefusedItem config number read steps → Leads config (ReadingItem number more []) steps Closed
refused_item config number more read steps (inl is) = subst (λ (l : List Step). Leads config (ReadingItem number more []) l Closed) (sym is.1)
    (failed_path config number more [] read.entry_word (entry_fails config.sizes (item_entry config number read) is.0))
refused_item config number more read steps (inr (inl is)) = subst (λ (l : List Step). Leads config (ReadingItem number more []) l Closed) (sym is.2)
    (entry_path config number more read _ is.0 (failed config number more (item_entry config number read ∷ read.low ∷ []) read.high (address_fails config.sizes (item_address read) is.1)))
refused_item config number more read steps (inr (inr (inl is))) = subst (λ (l : List Step). Leads config (ReadingItem number more []) l Closed) (sym is.3)
    (entry_path config number more read _ is.0 (high_path config number more read _ is.1 (failed config number more (item_entry config number read ∷ read.low ∷ item_address read ∷ []) read.bytes (length_fails config.sizes (item_address read) read.bytes is.2))))
refused_item config number more read steps (inr (inr (inr is))) = subst (λ (l : List Step). Leads config (ReadingItem number more []) l Closed) (sym is.4)
    (entry_path config number more read _ is.0 (high_path config number more read _ is.1 (length_path config number more read _ is.2 (failed config number more (item_entry config number read ∷ read.low ∷ item_address read ∷ read.bytes ∷ []) read.flags_word (ne_eqb _ _ is.3)))))

-- The items

abbrev ItemsListed : EndConfig → (number count : ℕ) → List Step → Type 0
ItemsListed config number count steps =
    ((reads : List Item) × AreValidItems config number reads × (length reads ≡ count) × (steps ≡ items_steps config number reads ++ doorbell_step config (Done ∷ []) ∷ [])) ⊎
    ((reads : List Item) × AreValidItems config number reads × (length reads < count) × (at : ℕ) × (at ≡ number + length reads) × (last : Item) × (last_steps : List Step) × IsRefusedItem config at last last_steps × (steps ≡ items_steps config number reads ++ last_steps))

items_listed : (config : EndConfig) (number count : ℕ) (steps : List Step) → Leads config (items_place number count) steps Closed → ItemsListed config number count steps
items_listed config number zero steps m = inl ([], tt, refl, closing_listed config RingingPoll steps refl m)
items_listed config number (suc more) steps m = elim (item_listed config number more steps m) as (λ _. ItemsListed config number (suc more) steps) [
  | inr refused ↦ inr ([], tt, omega arith, number, omega arith, refused.0, steps, refused.1, refl)
  | inl good ↦ elim (items_listed config (number + 1) more good.2 good.3) as (λ _. ItemsListed config number (suc more) steps) [
    | inl all ↦ inl (good.0 ∷ all.0, (good.1, all.1), (let n = all.2 in omega arith), (let here = good.4 in let rest = all.3 in let seam = append_assoc (item_steps config number good.0) (items_steps config (number + 1) all.0) (doorbell_step config (Done ∷ []) ∷ []) in cc))
    | inr some ↦ inr (good.0 ∷ some.0, (good.1, some.1), (let n = some.2 in omega arith), some.3, (let e = some.4 in omega arith), some.5, some.6, some.7, (let here = good.4 in let rest = some.8 in let seam = append_assoc (item_steps config number good.0) (items_steps config (number + 1) some.0) some.6 in cc))
  ]
]

look_by : (config : EndConfig) (taken : ℕ) (last : Bool) (none : Place) (FindsNone : List Step → Type 0) (value : ℕ) (step : Step) (steps : List Step) (b c : Bool) → is_avail_index config.sizes (taken % 65536) (high_half value) ≡ b → (published_by taken value == 0) ≡ c →
    (published_by taken value ≡ 0 → step ≡ avail_index_step config value (if last then Look 0 ∷ Done ∷ [] else Look 0 ∷ []) → Leads config none steps Closed → FindsNone (step ∷ steps)) →
    step ≡ avail_index_step config value (if b then (if c then (if last then Look 0 ∷ Done ∷ [] else Look 0 ∷ []) else Look (published_by taken value) ∷ []) else refusal field_name.AvailIndex (high_half value)) →
    Leads config (if b then (if c then none else items_place taken (published_by taken value)) else begin Refusing) steps Closed → IsLook config taken FindsNone (step ∷ steps)
look_by config taken last none FindsNone value step steps false c test zero_test found first later = inl record { value = value; beyond = λ within. grind (arith, nat_tests); steps_are = let tail = refused_listed config steps later in cc }
look_by config taken last none FindsNone value step steps true true test zero_test found first later = inr (inl (found (grind (arith, nat_tests)) first later))
look_by config taken last none FindsNone value step steps true false test zero_test found first later = let within : published_by taken value ≤ size_of config.sizes = grind (arith, nat_tests) in
    let some : published_by taken value ≢ 0 = λ e. grind (arith, nat_tests) in elim (items_listed config taken (published_by taken value) steps later) as (λ _. IsLook config taken FindsNone (step ∷ steps)) [
      | inl all ↦ inr (inr (inl record { value = value; within = within; some = some; reads = all.0; all = all.2; good = all.1; steps_are = let rest = all.3 in cc }))
      | inr bad ↦ inr (inr (inr record { value = value; within = within; reads = bad.0; before = bad.2; good = bad.1; last = bad.5; last_steps = bad.6; refused = subst (λ k. IsRefusedItem config k bad.5 bad.6) bad.4 bad.7; steps_are = let rest = bad.8 in cc }))
    ]

-- The last read of the available index in a poll finds no frame.
nothing_listed : (config : EndConfig) (taken value : ℕ) (step : Step) (steps : List Step) → published_by taken value ≡ 0 → step ≡ avail_index_step config value (Look 0 ∷ Done ∷ []) → Leads config Closed steps Closed → FindsNothing config taken (step ∷ steps)
nothing_listed config taken value step steps none first later = record { value = value; none = none; steps_are = let over = ended config steps later in cc }

last_listed : (config : EndConfig) (taken : ℕ) (steps : List Step) → Leads config (ReadingAvailIndex taken true) steps Closed → IsPoll config taken true steps
last_listed config taken [] m = absurd (cc)
last_listed config taken (step ∷ steps) m = look_by config taken true Closed (FindsNothing config taken) step.value step steps (is_avail_index config.sizes (taken % 65536) (high_half step.value)) (published_by taken step.value == 0) refl refl (nothing_listed config taken step.value step steps) m.1 m.2

-- A read of the available index before the last one finds no frame.
again_listed : (config : EndConfig) (taken value : ℕ) (step : Step) (steps : List Step) → published_by taken value ≡ 0 → step ≡ avail_index_step config value (Look 0 ∷ []) → Leads config (begin (WritingAvailEvent taken)) steps Closed → LooksAgain config taken (step ∷ steps)
again_listed config taken value step steps none first later = let r = task_listed config (WritingAvailEvent taken) steps later in
    record { value = value; none = none; rest = r.0; again = last_listed config taken r.0 r.2; steps_are = let second = r.1 in cc }

pub poll_listed : (config : EndConfig) (taken : ℕ) (last : Bool) (steps : List Step) → Leads config (ReadingAvailIndex taken last) steps Closed → IsPoll config taken last steps
poll_listed config taken true steps m = last_listed config taken steps m
poll_listed config taken false [] m = absurd (cc)
poll_listed config taken false (step ∷ steps) m = look_by config taken false (begin (WritingAvailEvent taken)) (LooksAgain config taken) step.value step steps (is_avail_index config.sizes (taken % 65536) (high_half step.value)) (published_by taken step.value == 0) refl refl (again_listed config taken step.value step steps) m.1 m.2

-- The items, and the read of the index before them

items_path : (config : EndConfig) (number count : ℕ) (reads : List Item) → AreValidItems config number reads → length reads ≡ count → Leads config (items_place number count) (items_steps config number reads ++ doorbell_step config (Done ∷ []) ∷ []) Closed
items_path config number zero [] good n = closing_path config RingingPoll refl
items_path config number (suc more) [] good n = absurd (omega arith)
items_path config number zero (read ∷ reads) good n = absurd (omega arith)
items_path config number (suc more) (read ∷ reads) good n = subst (λ (l : List Step). Leads config (items_place number (suc more)) l Closed) (sym (append_assoc (item_steps config number read) (items_steps config (number + 1) reads) _))
    (good_path config number more read _ good.0 (items_path config (number + 1) more reads good.1 (omega arith)))

items_refused : (config : EndConfig) (number count at : ℕ) (reads : List Item) (last : Item) (last_steps : List Step) → AreValidItems config number reads → length reads < count → at ≡ number + length reads → IsRefusedItem config at last last_steps →
    Leads config (items_place number count) (items_steps config number reads ++ last_steps) Closed
items_refused config number zero at [] last last_steps good lt is refused = absurd (omega arith)
items_refused config number zero at (read ∷ reads) last last_steps good lt is refused = absurd (omega arith)
items_refused config number (suc more) at [] last last_steps good lt is refused = refused_item config number more last last_steps (subst (λ k. IsRefusedItem config k last last_steps) (omega arith) refused)
items_refused config number (suc more) at (read ∷ reads) last last_steps good lt is refused = subst (λ (l : List Step). Leads config (items_place number (suc more)) l Closed) (sym (append_assoc (item_steps config number read) (items_steps config (number + 1) reads) last_steps))
    (good_path config number more read _ good.0 (items_refused config (number + 1) more at reads last last_steps good.1 (omega arith) (omega arith) refused))

look_from : (config : EndConfig) (taken : ℕ) (last : Bool) (value : ℕ) (steps : List Step) (b c : Bool) → is_avail_index config.sizes (taken % 65536) (high_half value) ≡ b → (published_by taken value == 0) ≡ c →
    Leads config (if b then (if c then (if last then Closed else begin (WritingAvailEvent taken)) else items_place taken (published_by taken value)) else begin Refusing) steps Closed →
    Leads config (ReadingAvailIndex taken last) (avail_index_step config value (if b then (if c then (if last then Look 0 ∷ Done ∷ [] else Look 0 ∷ []) else Look (published_by taken value) ∷ []) else refusal field_name.AvailIndex (high_half value)) ∷ steps) Closed
look_from config taken last value steps b c test zero_test later =
    subst (λ (t : Bool). Leads config (ReadingAvailIndex taken last) (avail_index_step config value (if t then (if c then (if last then Look 0 ∷ Done ∷ [] else Look 0 ∷ []) else Look (published_by taken value) ∷ []) else refusal field_name.AvailIndex (high_half value)) ∷ steps) Closed) test
    (subst (λ (t : Bool). Leads config (ReadingAvailIndex taken last) (avail_index_step config value (if is_avail_index config.sizes (taken % 65536) (high_half value) then (if t then (if last then Look 0 ∷ Done ∷ [] else Look 0 ∷ []) else Look (published_by taken value) ∷ []) else refusal field_name.AvailIndex (high_half value)) ∷ steps) Closed) zero_test (
      refl,
      refl,
      subst (λ (t : Bool). Leads config (if t then (if published_by taken value == 0 then (if last then Closed else begin (WritingAvailEvent taken)) else items_place taken (published_by taken value)) else begin Refusing) steps Closed) (sym test)
          (subst (λ (t : Bool). Leads config (if b then (if t then (if last then Closed else begin (WritingAvailEvent taken)) else items_place taken (published_by taken value)) else begin Refusing) steps Closed) (sym zero_test) later),
    ))

look_path : (config : EndConfig) (taken : ℕ) (last : Bool) (FindsNone : List Step → Type 0) (steps : List Step) → (FindsNone steps → Leads config (ReadingAvailIndex taken last) steps Closed) → IsLook config taken FindsNone steps → Leads config (ReadingAvailIndex taken last) steps Closed
look_path config taken last FindsNone steps found (inl r) = subst (λ (l : List Step). Leads config (ReadingAvailIndex taken last) l Closed) (sym r.steps_are) (look_from config taken last r.value (state_step 0 ∷ []) false (published_by taken r.value == 0) (beyond_test _ _ r.beyond) refl (refused_path config))
look_path config taken last FindsNone steps found (inr (inl r)) = found r
look_path config taken last FindsNone steps found (inr (inr (inl r))) = subst (λ (l : List Step). Leads config (ReadingAvailIndex taken last) l Closed) (sym r.steps_are)
    (look_from config taken last r.value _ true false (within_test _ _ r.within) (ne_eqb _ _ r.some) (items_path config taken (published_by taken r.value) r.reads r.good r.all))
look_path config taken last FindsNone steps found (inr (inr (inr r))) = subst (λ (l : List Step). Leads config (ReadingAvailIndex taken last) l Closed) (sym r.steps_are)
    (look_from config taken last r.value _ true false (within_test _ _ r.within) (ne_eqb _ _ (λ e. let lt = r.before in omega arith))
    (items_refused config taken (published_by taken r.value) (taken + length r.reads) r.reads r.last r.last_steps r.good r.before refl r.refused))

nothing_path : (config : EndConfig) (taken : ℕ) (steps : List Step) → FindsNothing config taken steps → Leads config (ReadingAvailIndex taken true) steps Closed
nothing_path config taken steps r = subst (λ (l : List Step). Leads config (ReadingAvailIndex taken true) l Closed) (sym r.steps_are)
    (look_from config taken true r.value [] true true (within_test _ _ (let n = r.none in omega arith)) (eq-eqb _ _ r.none) refl)

last_path : (config : EndConfig) (taken : ℕ) (steps : List Step) → IsPoll config taken true steps → Leads config (ReadingAvailIndex taken true) steps Closed
last_path config taken steps is = look_path config taken true (FindsNothing config taken) steps (nothing_path config taken steps) is

again_path : (config : EndConfig) (taken : ℕ) (steps : List Step) → LooksAgain config taken steps → Leads config (ReadingAvailIndex taken false) steps Closed
again_path config taken steps r = subst (λ (l : List Step). Leads config (ReadingAvailIndex taken false) l Closed) (sym r.steps_are)
    (look_from config taken false r.value (avail_event_write_step config taken ∷ r.rest) true true (within_test _ _ (let n = r.none in omega arith)) (eq-eqb _ _ r.none) (task_path config (WritingAvailEvent taken) r.rest Closed (last_path config taken r.rest r.again)))

pub poll_path : (config : EndConfig) (taken : ℕ) (last : Bool) (steps : List Step) → IsPoll config taken last steps → Leads config (ReadingAvailIndex taken last) steps Closed
poll_path config taken true steps is = last_path config taken steps is
poll_path config taken false steps is = look_path config taken false (LooksAgain config taken) steps (again_path config taken steps) is
