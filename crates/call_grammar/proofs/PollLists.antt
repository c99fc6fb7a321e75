-- A poll as a tree and as a list.
use Rattle.std.proofs.Common.{◌≡◌, ◌≢◌, ℕ, zero, suc, ◌+◌, ◌/◌, ◌<◌, ◌≤◌, ◌⊎◌, inl, inr, Bool, true, false, List, [], ◌∷◌, ◌++◌, length, refl, sym, ap, ◌∙◌, subst, arith, append_assoc, eq-eqb, ne_eqb, length-append}
use Rattle.std.specs.Prelude.{◌==◌, if◌then◌else◌, ◌%◌}
use Rattle.std.proofs.lemmas.Bool.Decides.{nat_tests}
use Rattle.split_ring.specs.declared.ranges.FieldName.TheVariants as field_name
use Rattle.split_ring.specs.declared.steps.Access.TheVariants.{Read}
use Rattle.split_ring.specs.Layout.{size_of, word_offset, DescAddress, DescLength, DescFlags, AvailEntry}
use Rattle.split_ring.specs.Ranges.{IsAvailEntry, IsDescAddress, IsDescLength, is_avail_entry, is_desc_address, is_desc_length, is_avail_index, is_desc_flags}
use Rattle.split_ring.specs.Spelling.{high_half, entry_half, desc_flags}
use Rattle.split_ring.proofs.TestsDecideRanges.{entry_of_test, entry_denies, entry_test, entry_fails, address_of_test, address_test, address_denies, address_fails, length_of_test, length_test, length_denies, length_fails, flags_of_test, flags_denies}
use Rattle.call_grammar.specs.Steps.{Step, Mark, Look, Deliver, Done, step_of}
use Rattle.call_grammar.specs.Trees.{CallTree, Ended, Reads, Makes}
use Rattle.call_grammar.specs.Ticks.{EndConfig, set_state, state_step}
use Rattle.call_grammar.specs.Words.{address_of, words_for, frame_in}
use Rattle.call_grammar.specs.Offers.{avail_entry_of, refusal, refused_steps, doorbell_step}
use Rattle.call_grammar.specs.Polls.{write_used_id, read_words, read_flags, read_length, read_high, read_low, item, items, published_by, look_marks, write_avail_event, read_avail_index, poll, avail_event_write_step, IsLook, FindsNothing, LooksAgain, Item, item_entry, item_address, entry_step, low_step, high_step, length_step, word_steps, return_steps, IsValidItem, item_steps, AreValidItems, items_steps, IsRefusedItem, avail_index_step, IsPoll}
use Rattle.call_grammar.proofs.TickLists.{set_listed}
use Rattle.call_grammar.proofs.OfferLists.{yes, no, within_test, beyond_test}

-- A read with a test: its value passes and the rest follows, or it is refused

abbrev tested_tree : ℕ → (ℕ → Bool) → (ℕ → List Mark) → (ℕ → CallTree) → CallTree
tested_tree word ok marks rest = Reads word (λ value. if ok value then [] else marks value) (λ value. if ok value then rest value else set_state 0)

abbrev IsTested : ℕ → (ℕ → Bool) → (ℕ → List Mark) → (ℕ → CallTree) → ℕ → List Step → Type 0
IsTested word ok marks rest value steps =
    ((ok value ≡ true) × (others : List Step) × (steps ≡ step_of (Read word) value [] ∷ others) × Makes (rest value) others) ⊎
    ((ok value ≡ false) × (steps ≡ refused_steps (step_of (Read word) value (marks value))))

tested_by : (word : ℕ) (ok : ℕ → Bool) (marks : ℕ → List Mark) (rest : ℕ → CallTree) (value : ℕ) (step : Step) (steps : List Step) (b : Bool) → ok value ≡ b →
    step ≡ step_of (Read word) value (if b then [] else marks value) → Makes (if b then rest value else set_state 0) steps → IsTested word ok marks rest value (step ∷ steps)
tested_by word ok marks rest value step steps true test first later = inl (test, steps, (cc), later)
tested_by word ok marks rest value step steps false test first later = inr (test, (let tail = set_listed 0 steps later in cc))

tested : (word : ℕ) (ok : ℕ → Bool) (marks : ℕ → List Mark) (rest : ℕ → CallTree) (steps : List Step) → Makes (tested_tree word ok marks rest) steps → (value : ℕ) × IsTested word ok marks rest value steps
tested word ok marks rest [] m = absurd m
tested word ok marks rest (step ∷ steps) m = (m.0, tested_by word ok marks rest m.0 step steps (ok m.0) refl m.1 m.2)

tested_good : (word : ℕ) (ok : ℕ → Bool) (marks : ℕ → List Mark) (rest : ℕ → CallTree) (value : ℕ) (others : List Step) → ok value ≡ true → Makes (rest value) others → Makes (tested_tree word ok marks rest) (step_of (Read word) value [] ∷ others)
tested_good word ok marks rest value others test later = (
  value,
  ap (λ (l : List Mark). step_of (Read word) value l) (sym (yes (ok value) [] (marks value) test)),
  subst (λ (t : CallTree). Makes t others) (sym (yes (ok value) (rest value) (set_state 0) test)) later,
)

tested_bad : (word : ℕ) (ok : ℕ → Bool) (marks : ℕ → List Mark) (rest : ℕ → CallTree) (value : ℕ) → ok value ≡ false → Makes (tested_tree word ok marks rest) (refused_steps (step_of (Read word) value (marks value)))
tested_bad word ok marks rest value test = (
  value,
  ap (λ (l : List Mark). step_of (Read word) value l) (sym (no (ok value) [] (marks value) test)),
  subst (λ (t : CallTree). Makes t (state_step 0 ∷ [])) (sym (no (ok value) (rest value) (set_state 0) test)) (refl, refl),
)

-- The words of a frame, and the steps after them

abbrev WordsListed : EndConfig → (number entry address bytes : ℕ) → List ℕ → (more at : ℕ) → CallTree → List Step → Type 0
WordsListed config number entry address bytes read more at after steps = (words : List ℕ) × (tail : List Step) × Makes after tail × (length words ≡ more) ×
    (steps ≡ word_steps config address at words (Deliver (frame_in bytes (read ++ words)) ∷ []) ++ (return_steps config number entry ++ tail))

return_listed : (config : EndConfig) (number entry : ℕ) (after : CallTree) (steps : List Step) → Makes (write_used_id config number entry after) steps → (tail : List Step) × Makes after tail × (steps ≡ return_steps config number entry ++ tail)
return_listed config number entry after [] m = absurd m
return_listed config number entry after (a ∷ []) m = absurd m.1
return_listed config number entry after (a ∷ (b ∷ [])) m = absurd m.1.1
return_listed config number entry after (a ∷ (b ∷ (c ∷ steps))) m = (steps, m.1.1.1, (let x = m.0 in let y = m.1.0 in let z = m.1.1.0 in cc))

longer : (xs : List ℕ) (x : ℕ) → length (xs ++ x ∷ []) ≡ length xs + 1
longer xs x = length-append xs (x ∷ [])

-- The marks of a word: the last word delivers the frame.
word_marks : (bytes more value : ℕ) (read words : List ℕ) → length words ≡ more →
    (if more == 0 then Deliver (frame_in bytes (read ++ value ∷ [])) ∷ [] else []) ≡ (if length words == 0 then Deliver (frame_in bytes (read ++ value ∷ words)) ∷ [] else [])
word_marks bytes more value read [] is = ap (λ n. if n == 0 then Deliver (frame_in bytes (read ++ value ∷ [])) ∷ [] else []) (sym is)
word_marks bytes more value read (w ∷ ws) is = let n : (more == 0) ≡ false = grind (arith, nat_tests) in let l : (length (w ∷ ws) == 0) ≡ false = grind (arith, nat_tests) in no (more == 0) _ _ n ∙ sym (no (length (w ∷ ws) == 0) _ _ l)

words_listed : (config : EndConfig) (number entry address bytes : ℕ) (read : List ℕ) (more at : ℕ) (after : CallTree) (steps : List Step) → at ≡ length read →
    Makes (read_words config number entry address bytes read more after) steps → WordsListed config number entry address bytes read more at after steps
words_listed config number entry address bytes read zero at after steps is m = let r = return_listed config number entry after steps m in ([], r.0, r.1, refl, r.2)
words_listed config number entry address bytes read (suc more) at after [] is m = absurd m
words_listed config number entry address bytes read (suc more) at after (step ∷ steps) is m =
    let others = words_listed config number entry address bytes (read ++ m.0 ∷ []) more (at + 1) after steps (omega (arith, longer read m.0)) m.2 in
    let words = others.0 in let tail = others.1 in
    let whole : (read ++ m.0 ∷ []) ++ words ≡ read ++ m.0 ∷ words = append_assoc read (m.0 ∷ []) words in
    let first : step ≡ step_of (Read (config.other_start + (address / 4 + at))) m.0 (if length words == 0 then Deliver (frame_in bytes (read ++ m.0 ∷ words)) ∷ [] else []) =
    m.1 ∙ (ap (λ n. step_of (Read (config.other_start + (address / 4 + n))) m.0 (if more == 0 then Deliver (frame_in bytes (read ++ m.0 ∷ [])) ∷ [] else [])) (sym is) ∙
    ap (λ (l : List Mark). step_of (Read (config.other_start + (address / 4 + at))) m.0 l) (word_marks bytes more m.0 read words others.3)) in
    let rest : steps ≡ word_steps config address (at + 1) words (Deliver (frame_in bytes (read ++ m.0 ∷ words)) ∷ []) ++ (return_steps config number entry ++ tail) =
    others.4 ∙ ap (λ (l : List ℕ). word_steps config address (at + 1) words (Deliver (frame_in bytes l) ∷ []) ++ (return_steps config number entry ++ tail)) whole in
    (m.0 ∷ words, tail, others.2, (let n = others.3 in omega arith), (cc))

words_made : (config : EndConfig) (number entry address bytes : ℕ) (read words : List ℕ) (more at : ℕ) (after : CallTree) (tail : List Step) → at ≡ length read → length words ≡ more → Makes after tail →
    Makes (read_words config number entry address bytes read more after) (word_steps config address at words (Deliver (frame_in bytes (read ++ words)) ∷ []) ++ (return_steps config number entry ++ tail))
words_made config number entry address bytes read [] zero at after tail is n made = (refl, (refl, (refl, made)))
words_made config number entry address bytes read [] (suc more) at after tail is n made = absurd (omega arith)
words_made config number entry address bytes read (w ∷ words) zero at after tail is n made = absurd (omega arith)
words_made config number entry address bytes read (w ∷ words) (suc more) at after tail is n made =
    let count : length words ≡ more = omega arith in let whole : (read ++ w ∷ []) ++ words ≡ read ++ w ∷ words = append_assoc read (w ∷ []) words in (
      w,
      ap (λ k. step_of (Read (config.other_start + (address / 4 + k))) w (if length words == 0 then Deliver (frame_in bytes (read ++ w ∷ words)) ∷ [] else [])) is ∙
          ap (λ (l : List Mark). step_of (Read (config.other_start + (address / 4 + length read))) w l) (sym (word_marks bytes more w read words count)),
      subst (λ (l : List ℕ). Makes (read_words config number entry address bytes (read ++ w ∷ []) more after) (word_steps config address (at + 1) words (Deliver (frame_in bytes l) ∷ []) ++ (return_steps config number entry ++ tail))) whole
          (words_made config number entry address bytes (read ++ w ∷ []) words more (at + 1) after tail (omega (arith, longer read w)) count made),
    )

-- One item

abbrev ItemListed : EndConfig → ℕ → CallTree → List Step → Type 0
ItemListed config number after steps = ((read : Item) × IsValidItem config number read × (tail : List Step) × Makes after tail × (steps ≡ item_steps config number read ++ tail)) ⊎ ((read : Item) × IsRefusedItem config number read steps)

abbrev item_of : (entry_word low high bytes flags_word : ℕ) → List ℕ → Item
item_of entry_word low high bytes flags_word words = record { entry_word = entry_word; low = low; high = high; bytes = bytes; flags_word = flags_word; words = words }

abbrev entry_name : EndConfig → ℕ → ℕ → ℕ
entry_name config number ew = entry_half (avail_entry_of config number) ew

-- The steps before the read of the flags, of the length, and of the address's high word.
abbrev three : EndConfig → (number ew lo hi : ℕ) → List Step → List Step
three config number ew lo hi steps = entry_step config number (item_of ew lo hi 0 0 []) [] ∷ low_step config number (item_of ew lo hi 0 0 []) ∷ high_step config number (item_of ew lo hi 0 0 []) [] ∷ steps

abbrev four : EndConfig → (number ew lo hi l : ℕ) → List Step → List Step
four config number ew lo hi l steps = three config number ew lo hi (length_step config number (item_of ew lo hi l 0 []) [] ∷ steps)

flags_item : (config : EndConfig) (number ew lo hi l : ℕ) (after : CallTree) (steps : List Step) → IsAvailEntry config.sizes (entry_name config number ew) → IsDescAddress config.sizes (address_of lo hi) → IsDescLength config.sizes (address_of lo hi) l →
    (t : (value : ℕ) × IsTested (config.other_start + word_offset config.sizes (DescFlags (entry_name config number ew))) (λ value. is_desc_flags (desc_flags value)) (λ value. refusal field_name.DescFlags (desc_flags value)) (λ value. read_words config number (entry_name config number ew) (address_of lo hi) l [] (words_for l) after) value steps) →
    ItemListed config number after (four config number ew lo hi l steps)
flags_item config number ew lo hi l after steps ie ia il (fw, inl good) =
    let w = words_listed config number (entry_name config number ew) (address_of lo hi) l [] (words_for l) 0 after good.1 refl good.3 in
    let read = item_of ew lo hi l fw w.0 in
    inl (
      read,
      record { entry = ie; address = ia; bytes = il; flags = flags_of_test (desc_flags fw) good.0; words = w.3 },
      w.1,
      w.2,
      (let here = good.2 in let rest = w.4 in let seam = append_assoc (word_steps config (address_of lo hi) 0 w.0 (Deliver (frame_in l w.0) ∷ [])) (return_steps config number (entry_name config number ew)) w.1 in cc),
    )
flags_item config number ew lo hi l after steps ie ia il (fw, inr bad) = inr (item_of ew lo hi l fw [], inr (inr (inr (ie, ia, il, flags_denies (desc_flags fw) bad.0, (let here = bad.1 in cc)))))

length_item : (config : EndConfig) (number ew lo hi : ℕ) (after : CallTree) (steps : List Step) → IsAvailEntry config.sizes (entry_name config number ew) → IsDescAddress config.sizes (address_of lo hi) →
    (t : (value : ℕ) × IsTested (config.other_start + word_offset config.sizes (DescLength (entry_name config number ew))) (λ value. is_desc_length config.sizes (address_of lo hi) value) (λ value. refusal field_name.DescLength value) (λ value. read_flags config number (entry_name config number ew) (address_of lo hi) value after) value steps) →
    ItemListed config number after (three config number ew lo hi steps)
length_item config number ew lo hi after steps ie ia (l, inl good) =
    subst (λ (s : List Step). ItemListed config number after (three config number ew lo hi s)) (sym good.2)
    (flags_item config number ew lo hi l after good.1 ie ia (length_of_test config.sizes (address_of lo hi) l good.0)
    (tested (config.other_start + word_offset config.sizes (DescFlags (entry_name config number ew))) (λ value. is_desc_flags (desc_flags value)) (λ value. refusal field_name.DescFlags (desc_flags value)) (λ value. read_words config number (entry_name config number ew) (address_of lo hi) l [] (words_for l) after) good.1 good.3))
length_item config number ew lo hi after steps ie ia (l, inr bad) = inr (item_of ew lo hi l 0 [], inr (inr (inl (ie, ia, length_denies config.sizes (address_of lo hi) l bad.0, (let here = bad.1 in cc)))))

high_item : (config : EndConfig) (number ew lo : ℕ) (after : CallTree) (steps : List Step) → IsAvailEntry config.sizes (entry_name config number ew) →
    (t : (value : ℕ) × IsTested (config.other_start + word_offset config.sizes (DescAddress (entry_name config number ew)) + 1) (λ value. is_desc_address config.sizes (address_of lo value)) (λ value. refusal field_name.DescAddress (address_of lo value)) (λ value. read_length config number (entry_name config number ew) (address_of lo value) after) value steps) →
    ItemListed config number after (entry_step config number (item_of ew lo 0 0 0 []) [] ∷ low_step config number (item_of ew lo 0 0 0 []) ∷ steps)
high_item config number ew lo after steps ie (hi, inl good) =
    subst (λ (s : List Step). ItemListed config number after (entry_step config number (item_of ew lo 0 0 0 []) [] ∷ low_step config number (item_of ew lo 0 0 0 []) ∷ s)) (sym good.2)
    (length_item config number ew lo hi after good.1 ie (address_of_test config.sizes (address_of lo hi) good.0)
    (tested (config.other_start + word_offset config.sizes (DescLength (entry_name config number ew))) (λ value. is_desc_length config.sizes (address_of lo hi) value) (λ value. refusal field_name.DescLength value) (λ value. read_flags config number (entry_name config number ew) (address_of lo hi) value after) good.1 good.3))
high_item config number ew lo after steps ie (hi, inr bad) = inr (item_of ew lo hi 0 0 [], inr (inl (ie, address_denies config.sizes (address_of lo hi) bad.0, (let here = bad.1 in cc))))

low_item : (config : EndConfig) (number ew : ℕ) (after : CallTree) (steps : List Step) → IsAvailEntry config.sizes (entry_name config number ew) → Makes (read_low config number (entry_name config number ew) after) steps →
    ItemListed config number after (entry_step config number (item_of ew 0 0 0 0 []) [] ∷ steps)
low_item config number ew after [] ie m = absurd m
low_item config number ew after (step ∷ steps) ie m =
    subst (λ (s : Step). ItemListed config number after (entry_step config number (item_of ew 0 0 0 0 []) [] ∷ s ∷ steps)) (sym m.1)
    (high_item config number ew m.0 after steps ie
    (tested (config.other_start + word_offset config.sizes (DescAddress (entry_name config number ew)) + 1) (λ value. is_desc_address config.sizes (address_of m.0 value)) (λ value. refusal field_name.DescAddress (address_of m.0 value)) (λ value. read_length config number (entry_name config number ew) (address_of m.0 value) after) steps m.2))

entry_item : (config : EndConfig) (number : ℕ) (after : CallTree) (steps : List Step) →
    (t : (value : ℕ) × IsTested (config.other_start + word_offset config.sizes (AvailEntry (avail_entry_of config number))) (λ value. is_avail_entry config.sizes (entry_name config number value)) (λ value. refusal field_name.AvailEntry (entry_name config number value)) (λ value. read_low config number (entry_name config number value) after) value steps) →
    ItemListed config number after steps
entry_item config number after steps (ew, inl good) = subst (λ (s : List Step). ItemListed config number after s) (sym good.2) (low_item config number ew after good.1 (entry_of_test config.sizes (entry_name config number ew) good.0) good.3)
entry_item config number after steps (ew, inr bad) = inr (item_of ew 0 0 0 0 [], inl (entry_denies config.sizes (entry_name config number ew) bad.0, (let here = bad.1 in cc)))

item_listed : (config : EndConfig) (number : ℕ) (after : CallTree) (steps : List Step) → Makes (item config number after) steps → ItemListed config number after steps
item_listed config number after steps m = entry_item config number after steps
    (tested (config.other_start + word_offset config.sizes (AvailEntry (avail_entry_of config number))) (λ value. is_avail_entry config.sizes (entry_name config number value)) (λ value. refusal field_name.AvailEntry (entry_name config number value)) (λ value. read_low config number (entry_name config number value) after) steps m)

-- The items

abbrev ItemsListed : EndConfig → (number count : ℕ) → List Step → Type 0
ItemsListed config number count steps =
    ((reads : List Item) × AreValidItems config number reads × (length reads ≡ count) × (steps ≡ items_steps config number reads ++ doorbell_step config (Done ∷ []) ∷ [])) ⊎
    ((reads : List Item) × AreValidItems config number reads × (length reads < count) × (at : ℕ) × (at ≡ number + length reads) × (last : Item) × (last_steps : List Step) × IsRefusedItem config at last last_steps × (steps ≡ items_steps config number reads ++ last_steps))

items_listed : (config : EndConfig) (number count : ℕ) (steps : List Step) → Makes (items config number count) steps → ItemsListed config number count steps
items_listed config number zero [] m = absurd m
items_listed config number zero (step ∷ steps) m = inl ([], tt, refl, (let first = m.0 in let none = m.1 in cc))
items_listed config number (suc more) steps m = elim (item_listed config number (items config (number + 1) more) steps m) as (λ _. ItemsListed config number (suc more) steps) [
  | inr refused ↦ inr ([], tt, omega arith, number, omega arith, refused.0, steps, refused.1, refl)
  | inl good ↦ elim (items_listed config (number + 1) more good.2 good.3) as (λ _. ItemsListed config number (suc more) steps) [
    | inl all ↦ inl (good.0 ∷ all.0, (good.1, all.1), (let n = all.2 in omega arith), (let here = good.4 in let rest = all.3 in let seam = append_assoc (item_steps config number good.0) (items_steps config (number + 1) all.0) (doorbell_step config (Done ∷ []) ∷ []) in cc))
    | inr some ↦ inr (good.0 ∷ some.0, (good.1, some.1), (let n = some.2 in omega arith), some.3, (let e = some.4 in omega arith), some.5, some.6, some.7, (let here = good.4 in let rest = some.8 in let seam = append_assoc (item_steps config number good.0) (items_steps config (number + 1) some.0) some.6 in cc))
  ]
]

look_by : (config : EndConfig) (taken : ℕ) (last : Bool) (none : CallTree) (FindsNone : List Step → Type 0) (value : ℕ) (step : Step) (steps : List Step) (b c : Bool) → is_avail_index config.sizes (taken % 65536) (high_half value) ≡ b → (published_by taken value == 0) ≡ c →
    (published_by taken value ≡ 0 → step ≡ avail_index_step config value (if last then Look 0 ∷ Done ∷ [] else Look 0 ∷ []) → Makes none steps → FindsNone (step ∷ steps)) →
    step ≡ avail_index_step config value (if b then (if c then (if last then Look 0 ∷ Done ∷ [] else Look 0 ∷ []) else Look (published_by taken value) ∷ []) else refusal field_name.AvailIndex (high_half value)) →
    Makes (if b then (if c then none else items config taken (published_by taken value)) else set_state 0) steps → IsLook config taken FindsNone (step ∷ steps)
look_by config taken last none FindsNone value step steps false c test zero_test found first later = inl record { value = value; beyond = λ within. grind (arith, nat_tests); steps_are = let tail = set_listed 0 steps later in cc }
look_by config taken last none FindsNone value step steps true true test zero_test found first later = inr (inl (found (grind (arith, nat_tests)) first later))
look_by config taken last none FindsNone value step steps true false test zero_test found first later = let within : published_by taken value ≤ size_of config.sizes = grind (arith, nat_tests) in
    let some : published_by taken value ≢ 0 = λ e. grind (arith, nat_tests) in elim (items_listed config taken (published_by taken value) steps later) as (λ _. IsLook config taken FindsNone (step ∷ steps)) [
      | inl all ↦ inr (inr (inl record { value = value; within = within; some = some; reads = all.0; all = all.2; good = all.1; steps_are = let rest = all.3 in cc }))
      | inr bad ↦ inr (inr (inr record { value = value; within = within; reads = bad.0; before = bad.2; good = bad.1; last = bad.5; last_steps = bad.6; refused = subst (λ k. IsRefusedItem config k bad.5 bad.6) bad.4 bad.7; steps_are = let rest = bad.8 in cc }))
    ]

-- The last read of the available index in a poll finds no frame.
nothing_listed : (config : EndConfig) (taken value : ℕ) (step : Step) (steps : List Step) → published_by taken value ≡ 0 → step ≡ avail_index_step config value (Look 0 ∷ Done ∷ []) → Makes Ended steps → FindsNothing config taken (step ∷ steps)
nothing_listed config taken value step steps none first later = record { value = value; none = none; steps_are = cc }

last_listed : (config : EndConfig) (taken : ℕ) (steps : List Step) → Makes (poll config taken true) steps → IsPoll config taken true steps
last_listed config taken [] m = absurd m
last_listed config taken (step ∷ steps) m = look_by config taken true Ended (FindsNothing config taken) m.0 step steps (is_avail_index config.sizes (taken % 65536) (high_half m.0)) (published_by taken m.0 == 0) refl refl (nothing_listed config taken m.0 step steps) m.1 m.2

-- A read of the available index before the last one finds no frame.
again_listed : (config : EndConfig) (taken value : ℕ) (step : Step) (steps : List Step) → published_by taken value ≡ 0 → step ≡ avail_index_step config value (Look 0 ∷ []) → Makes (write_avail_event config taken (poll config taken true)) steps → LooksAgain config taken (step ∷ steps)
again_listed config taken value step [] none first later = absurd later
again_listed config taken value step (asks ∷ steps) none first later = record { value = value; none = none; rest = steps; again = last_listed config taken steps later.1; steps_are = let second = later.0 in cc }

pub poll_listed : (config : EndConfig) (taken : ℕ) (last : Bool) (steps : List Step) → Makes (poll config taken last) steps → IsPoll config taken last steps
poll_listed config taken true steps m = last_listed config taken steps m
poll_listed config taken false [] m = absurd m
poll_listed config taken false (step ∷ steps) m = look_by config taken false (write_avail_event config taken (poll config taken true)) (LooksAgain config taken) m.0 step steps (is_avail_index config.sizes (taken % 65536) (high_half m.0)) (published_by taken m.0 == 0) refl refl (again_listed config taken m.0 step steps) m.1 m.2

-- The converse

length_made : (config : EndConfig) (number : ℕ) (after : CallTree) (read : Item) (steps : List Step) → IsDescLength config.sizes (item_address read) read.bytes → Makes (read_flags config number (item_entry config number read) (item_address read) read.bytes after) steps →
    Makes (read_length config number (item_entry config number read) (item_address read) after) (length_step config number read [] ∷ steps)
length_made config number after read steps il made = tested_good (config.other_start + word_offset config.sizes (DescLength (item_entry config number read))) (λ value. is_desc_length config.sizes (item_address read) value) (λ value. refusal field_name.DescLength value)
    (λ value. read_flags config number (item_entry config number read) (item_address read) value after) read.bytes steps (length_test config.sizes (item_address read) read.bytes il) made

high_made : (config : EndConfig) (number : ℕ) (after : CallTree) (read : Item) (steps : List Step) → IsDescAddress config.sizes (item_address read) → Makes (read_length config number (item_entry config number read) (item_address read) after) steps →
    Makes (read_high config number (item_entry config number read) read.low after) (high_step config number read [] ∷ steps)
high_made config number after read steps ia made = tested_good (config.other_start + word_offset config.sizes (DescAddress (item_entry config number read)) + 1) (λ value. is_desc_address config.sizes (address_of read.low value)) (λ value. refusal field_name.DescAddress (address_of read.low value))
    (λ value. read_length config number (item_entry config number read) (address_of read.low value) after) read.high steps (address_test config.sizes (item_address read) ia) made

entry_made : (config : EndConfig) (number : ℕ) (after : CallTree) (read : Item) (steps : List Step) → IsAvailEntry config.sizes (item_entry config number read) → Makes (read_high config number (item_entry config number read) read.low after) steps →
    Makes (item config number after) (entry_step config number read [] ∷ low_step config number read ∷ steps)
entry_made config number after read steps ie made = tested_good (config.other_start + word_offset config.sizes (AvailEntry (avail_entry_of config number))) (λ value. is_avail_entry config.sizes (entry_name config number value)) (λ value. refusal field_name.AvailEntry (entry_name config number value))
    (λ value. read_low config number (entry_name config number value) after) read.entry_word _ (entry_test config.sizes (item_entry config number read) ie) (read.low, refl, made)

good_made : (config : EndConfig) (number : ℕ) (after : CallTree) (read : Item) (tail : List Step) → IsValidItem config number read → Makes after tail → Makes (item config number after) (item_steps config number read ++ tail)
good_made config number after read tail good made = let e = item_entry config number read in let a = item_address read in
    let words = words_made config number e a read.bytes [] read.words (words_for read.bytes) 0 after tail refl good.words made in
    let seam = append_assoc (word_steps config a 0 read.words (Deliver (frame_in read.bytes read.words) ∷ [])) (return_steps config number e) tail in
    let f = tested_good (config.other_start + word_offset config.sizes (DescFlags e)) (λ value. is_desc_flags (desc_flags value)) (λ value. refusal field_name.DescFlags (desc_flags value)) (λ value. read_words config number e a read.bytes [] (words_for read.bytes) after) read.flags_word _ (eq-eqb _ _ good.flags)
    (subst (λ (l : List Step). Makes (read_words config number e a read.bytes [] (words_for read.bytes) after) l) (sym seam) words) in
    entry_made config number after read _ good.entry (high_made config number after read _ good.address (length_made config number after read _ good.bytes f))

refused_made : (config : EndConfig) (number : ℕ) (after : CallTree) (read : Item) (steps : List Step) → IsRefusedItem config number read steps → Makes (item config number after) steps
refused_made config number after read steps (inl is) = subst (λ (l : List Step). Makes (item config number after) l) (sym is.1)
    (tested_bad (config.other_start + word_offset config.sizes (AvailEntry (avail_entry_of config number))) (λ value. is_avail_entry config.sizes (entry_name config number value)) (λ value. refusal field_name.AvailEntry (entry_name config number value)) (λ value. read_low config number (entry_name config number value) after) read.entry_word (entry_fails config.sizes (item_entry config number read) is.0))
refused_made config number after read steps (inr (inl is)) = subst (λ (l : List Step). Makes (item config number after) l) (sym is.2)
    (entry_made config number after read _ is.0
    (tested_bad (config.other_start + word_offset config.sizes (DescAddress (item_entry config number read)) + 1) (λ value. is_desc_address config.sizes (address_of read.low value)) (λ value. refusal field_name.DescAddress (address_of read.low value)) (λ value. read_length config number (item_entry config number read) (address_of read.low value) after) read.high (address_fails config.sizes (item_address read) is.1)))
refused_made config number after read steps (inr (inr (inl is))) = subst (λ (l : List Step). Makes (item config number after) l) (sym is.3)
    (entry_made config number after read _ is.0 (high_made config number after read _ is.1
    (tested_bad (config.other_start + word_offset config.sizes (DescLength (item_entry config number read))) (λ value. is_desc_length config.sizes (item_address read) value) (λ value. refusal field_name.DescLength value) (λ value. read_flags config number (item_entry config number read) (item_address read) value after) read.bytes (length_fails config.sizes (item_address read) read.bytes is.2))))
refused_made config number after read steps (inr (inr (inr is))) = subst (λ (l : List Step). Makes (item config number after) l) (sym is.4)
    (entry_made config number after read _ is.0 (high_made config number after read _ is.1 (length_made config number after read _ is.2
    (tested_bad (config.other_start + word_offset config.sizes (DescFlags (item_entry config number read))) (λ value. is_desc_flags (desc_flags value)) (λ value. refusal field_name.DescFlags (desc_flags value)) (λ value. read_words config number (item_entry config number read) (item_address read) read.bytes [] (words_for read.bytes) after) read.flags_word (ne_eqb _ _ is.3)))))

items_made : (config : EndConfig) (number count : ℕ) (reads : List Item) → AreValidItems config number reads → length reads ≡ count → Makes (items config number count) (items_steps config number reads ++ doorbell_step config (Done ∷ []) ∷ [])
items_made config number zero [] good n = (refl, refl)
items_made config number (suc more) [] good n = absurd (omega arith)
items_made config number zero (read ∷ reads) good n = absurd (omega arith)
items_made config number (suc more) (read ∷ reads) good n = subst (λ (l : List Step). Makes (items config number (suc more)) l) (sym (append_assoc (item_steps config number read) (items_steps config (number + 1) reads) _))
    (good_made config number (items config (number + 1) more) read _ good.0 (items_made config (number + 1) more reads good.1 (omega arith)))

items_refused : (config : EndConfig) (number count at : ℕ) (reads : List Item) (last : Item) (last_steps : List Step) → AreValidItems config number reads → length reads < count → at ≡ number + length reads → IsRefusedItem config at last last_steps →
    Makes (items config number count) (items_steps config number reads ++ last_steps)
items_refused config number zero at [] last last_steps good lt is refused = absurd (omega arith)
items_refused config number zero at (read ∷ reads) last last_steps good lt is refused = absurd (omega arith)
items_refused config number (suc more) at [] last last_steps good lt is refused = refused_made config number (items config (number + 1) more) last last_steps (subst (λ k. IsRefusedItem config k last last_steps) (omega arith) refused)
items_refused config number (suc more) at (read ∷ reads) last last_steps good lt is refused = subst (λ (l : List Step). Makes (items config number (suc more)) l) (sym (append_assoc (item_steps config number read) (items_steps config (number + 1) reads) last_steps))
    (good_made config number (items config (number + 1) more) read _ good.0 (items_refused config (number + 1) more at reads last last_steps good.1 (omega arith) (omega arith) refused))

look_from : (config : EndConfig) (taken : ℕ) (last : Bool) (none : CallTree) (value : ℕ) (step : Step) (steps : List Step) (b c : Bool) → is_avail_index config.sizes (taken % 65536) (high_half value) ≡ b → (published_by taken value == 0) ≡ c →
    step ≡ avail_index_step config value (if b then (if c then (if last then Look 0 ∷ Done ∷ [] else Look 0 ∷ []) else Look (published_by taken value) ∷ []) else refusal field_name.AvailIndex (high_half value)) →
    Makes (if b then (if c then none else items config taken (published_by taken value)) else set_state 0) steps → Makes (read_avail_index config taken last none) (step ∷ steps)
look_from config taken last none value step steps b c test zero_test first later = (
  value,
  subst (λ (s : Bool). step ≡ avail_index_step config value (if s then look_marks last (published_by taken value) else refusal field_name.AvailIndex (high_half value))) (sym test)
      (subst (λ (s : Bool). step ≡ avail_index_step config value (if b then (if s then (if last then Look 0 ∷ Done ∷ [] else Look 0 ∷ []) else Look (published_by taken value) ∷ []) else refusal field_name.AvailIndex (high_half value))) (sym zero_test) first),
  subst (λ (s : Bool). Makes (if s then (if published_by taken value == 0 then none else items config taken (published_by taken value)) else set_state 0) steps) (sym test)
      (subst (λ (s : Bool). Makes (if b then (if s then none else items config taken (published_by taken value)) else set_state 0) steps) (sym zero_test) later),
)

look_made : (config : EndConfig) (taken : ℕ) (last : Bool) (none : CallTree) (FindsNone : List Step → Type 0) (steps : List Step) → (FindsNone steps → Makes (read_avail_index config taken last none) steps) → IsLook config taken FindsNone steps → Makes (read_avail_index config taken last none) steps
look_made config taken last none FindsNone steps found (inl r) = subst (λ (l : List Step). Makes (read_avail_index config taken last none) l) (sym r.steps_are) (look_from config taken last none r.value _ (state_step 0 ∷ []) false (published_by taken r.value == 0) (beyond_test _ _ r.beyond) refl refl (refl, refl))
look_made config taken last none FindsNone steps found (inr (inl r)) = found r
look_made config taken last none FindsNone steps found (inr (inr (inl r))) = subst (λ (l : List Step). Makes (read_avail_index config taken last none) l) (sym r.steps_are)
    (look_from config taken last none r.value _ _ true false (within_test _ _ r.within) (ne_eqb _ _ r.some) refl (items_made config taken (published_by taken r.value) r.reads r.good r.all))
look_made config taken last none FindsNone steps found (inr (inr (inr r))) = subst (λ (l : List Step). Makes (read_avail_index config taken last none) l) (sym r.steps_are)
    (look_from config taken last none r.value _ _ true false (within_test _ _ r.within) (ne_eqb _ _ (λ e. let lt = r.before in omega arith)) refl
    (items_refused config taken (published_by taken r.value) (taken + length r.reads) r.reads r.last r.last_steps r.good r.before refl r.refused))

nothing_made : (config : EndConfig) (taken : ℕ) (steps : List Step) → FindsNothing config taken steps → Makes (poll config taken true) steps
nothing_made config taken steps r = subst (λ (l : List Step). Makes (poll config taken true) l) (sym r.steps_are)
    (look_from config taken true Ended r.value _ [] true true (within_test _ _ (let n = r.none in omega arith)) (eq-eqb _ _ r.none) refl refl)

last_made : (config : EndConfig) (taken : ℕ) (steps : List Step) → IsPoll config taken true steps → Makes (poll config taken true) steps
last_made config taken steps is = look_made config taken true Ended (FindsNothing config taken) steps (nothing_made config taken steps) is

again_made : (config : EndConfig) (taken : ℕ) (steps : List Step) → LooksAgain config taken steps → Makes (poll config taken false) steps
again_made config taken steps r = subst (λ (l : List Step). Makes (poll config taken false) l) (sym r.steps_are)
    (look_from config taken false (write_avail_event config taken (poll config taken true)) r.value _ (avail_event_write_step config taken ∷ r.rest) true true (within_test _ _ (let n = r.none in omega arith)) (eq-eqb _ _ r.none) refl (refl, last_made config taken r.rest r.again))

pub poll_made : (config : EndConfig) (taken : ℕ) (last : Bool) (steps : List Step) → IsPoll config taken last steps → Makes (poll config taken last) steps
poll_made config taken true steps is = last_made config taken steps is
poll_made config taken false steps is = look_made config taken false (write_avail_event config taken (poll config taken true)) (LooksAgain config taken) steps (again_made config taken steps) is
