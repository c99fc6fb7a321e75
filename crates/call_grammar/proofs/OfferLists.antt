-- An offer as a tree and as a list.
use Rattle.std.proofs.Common.{◌≡◌, ◌≢◌, ℕ, zero, suc, ◌+◌, ◌-◌, ◌<◌, ◌≤◌, ◌⊎◌, inl, inr, Bool, true, false, List, [], ◌∷◌, ◌++◌, length, refl, sym, ap, ◌∙◌, subst, arith, eq-eqb, ne_eqb}
use Rattle.std.specs.Prelude.{◌==◌, nat_le, if◌then◌else◌, ◌%◌}
use Rattle.std.proofs.lemmas.Bool.Decides.{nat_tests}
use mathlib.Core.Logic.{dite}
use native.Mathlib.Decide.{dec_lt}
use Rattle.split_ring.specs.declared.ranges.FieldName.TheVariants as field_name
use Rattle.split_ring.specs.Layout.{has_events}
use Rattle.split_ring.specs.Spelling.{low_half, high_half}
use Rattle.split_ring.specs.Ranges.{is_used_index, is_used_id}
use Rattle.call_grammar.specs.Steps.{Step, Mark, Full, Over}
use Rattle.call_grammar.specs.Trees.{CallTree, Ended, Makes}
use Rattle.call_grammar.specs.Ticks.{EndConfig, set_state, state_step}
use Rattle.call_grammar.specs.Words.{words_for}
use Rattle.call_grammar.specs.Offers.{PendingOffer, frame_fits, descriptor_of, refusal, full_marks, ring_doorbell, wants_doorbell, read_avail_event, write_desc_address_low, write_frame_words, after_ids, read_used_ids, returned_by, reclaim_marks, offer, used_index_step, used_id_step, used_id_steps, refused_steps, frame_write_steps, publish_steps, doorbell_step, avail_event_read_step, notify_steps, IsOffer}
use Rattle.call_grammar.proofs.TickLists.{set_listed}

-- A test chooses by its value.
pub yes : {A : Type 0} → (b : Bool) (x y : A) → b ≡ true → (if b then x else y) ≡ x
yes true x y is = refl
yes false x y is = let f : false ≡ true = is in cc

pub no : {A : Type 0} → (b : Bool) (x y : A) → b ≡ false → (if b then x else y) ≡ y
no false x y is = refl
no true x y is = let f : true ≡ false = is in cc

pub decide : (b : Bool) → (b ≡ true) ⊎ (b ≡ false)
decide true = inl refl
decide false = inr refl

-- The doorbell, and the read of the other's avail_event before it.
ring_listed : (config : EndConfig) (steps : List Step) → Makes (ring_doorbell config) steps → steps ≡ doorbell_step config (Over ∷ []) ∷ []
ring_listed config [] m = absurd m
ring_listed config (step ∷ steps) m = let first = m.0 in let none = m.1 in cc

abbrev steps_of_notify : EndConfig → (number value : ℕ) → Bool → List Step
steps_of_notify config number value b = avail_event_read_step config number value ∷ (if b then doorbell_step config (Over ∷ []) ∷ [] else [])

after_event : (config : EndConfig) (b : Bool) (steps : List Step) → Makes (if b then ring_doorbell config else Ended) steps → steps ≡ (if b then doorbell_step config (Over ∷ []) ∷ [] else [])
after_event config true steps m = ring_listed config steps m
after_event config false steps m = m

event_makes : (config : EndConfig) (b : Bool) → Makes (if b then ring_doorbell config else Ended) (if b then doorbell_step config (Over ∷ []) ∷ [] else [])
event_makes config true = (refl, refl)
event_makes config false = refl

notify_is_list : (config : EndConfig) (number : ℕ) (b : Bool) (steps : List Step) → Makes (if b then read_avail_event config number else ring_doorbell config) steps →
    (value : ℕ) × (steps ≡ (if b then steps_of_notify config number value (wants_doorbell (low_half value) number) else doorbell_step config (Over ∷ []) ∷ []))
notify_is_list config number true [] m = absurd m
notify_is_list config number true (step ∷ steps) m = (m.0, (let first = m.1 in let later = after_event config (wants_doorbell (low_half m.0) number) steps m.2 in cc))
notify_is_list config number false steps m = (0, ring_listed config steps m)

notify_is_made : (config : EndConfig) (number value : ℕ) (b : Bool) →
    Makes (if b then read_avail_event config number else ring_doorbell config) (if b then steps_of_notify config number value (wants_doorbell (low_half value) number) else doorbell_step config (Over ∷ []) ∷ [])
notify_is_made config number value true = (value, refl, event_makes config (wants_doorbell (low_half value) number))
notify_is_made config number value false = (refl, refl)

-- The steps of an offer from its descriptor on, and from its words on.
abbrev Published : EndConfig → PendingOffer → (before : List Step) → List Step → Type 0
Published config pending before steps = (event : ℕ) × (steps ≡ before ++ (publish_steps config pending ++ notify_steps config pending.number event))

publish_listed : (config : EndConfig) (pending : PendingOffer) (steps : List Step) → Makes (write_desc_address_low config pending) steps → Published config pending [] steps
publish_listed config pending [] m = absurd m
publish_listed config pending (a ∷ []) m = absurd m.1
publish_listed config pending (a ∷ (b ∷ [])) m = absurd m.1.1
publish_listed config pending (a ∷ (b ∷ (c ∷ []))) m = absurd m.1.1.1
publish_listed config pending (a ∷ (b ∷ (c ∷ (d ∷ [])))) m = absurd m.1.1.1.1
publish_listed config pending (a ∷ (b ∷ (c ∷ (d ∷ (e ∷ []))))) m = absurd m.1.1.1.1.1
publish_listed config pending (a ∷ (b ∷ (c ∷ (d ∷ (e ∷ (f ∷ g)))))) m =
    let listed = notify_is_list config pending.number (has_events config.sizes) g m.1.1.1.1.1.1 in
    (listed.0, (let a1 = m.0 in let b1 = m.1.0 in let c1 = m.1.1.0 in let d1 = m.1.1.1.0 in let e1 = m.1.1.1.1.0 in let f1 = m.1.1.1.1.1.0 in let g1 = listed.1 in cc))

publish_made : (config : EndConfig) (pending : PendingOffer) (event : ℕ) → Makes (write_desc_address_low config pending) (publish_steps config pending ++ notify_steps config pending.number event)
publish_made config pending event = (refl, (refl, (refl, (refl, (refl, (refl, notify_is_made config pending.number event (has_events config.sizes)))))))

fill_listed : (config : EndConfig) (pending : PendingOffer) (at more : ℕ) (steps : List Step) → Makes (write_frame_words config pending at more) steps → Published config pending (frame_write_steps config pending at more) steps
fill_listed config pending at zero steps m = publish_listed config pending steps m
fill_listed config pending at (suc more) [] m = absurd m
fill_listed config pending at (suc more) (step ∷ steps) m = let first = m.0 in let others = fill_listed config pending (at + 1) more steps m.1 in (others.0, (let rest = others.1 in cc))

fill_made : (config : EndConfig) (pending : PendingOffer) (at more event : ℕ) → Makes (write_frame_words config pending at more) (frame_write_steps config pending at more ++ (publish_steps config pending ++ notify_steps config pending.number event))
fill_made config pending at zero event = publish_made config pending event
fill_made config pending at (suc more) event = (refl, fill_made config pending (at + 1) more event)

-- The steps of an offer after its ids.
abbrev IsEnding : EndConfig → PendingOffer → ℕ → List Step → Type 0
IsEnding config pending freed steps = ((frame_fits config pending freed ≡ false) × (steps ≡ [])) ⊎ ((frame_fits config pending freed ≡ true) × Published config pending (frame_write_steps config pending 0 (words_for (length pending.frame))) steps)

-- The steps of an offer from an id on: the rest of a valid offer, or the ids up to a wrong one.
abbrev IdsListed : EndConfig → PendingOffer → (freed count total : ℕ) → List Step → Type 0
IdsListed config pending freed count total steps =
    ((after : List Step) × (IsEnding config pending total after) × (steps ≡ used_id_steps config freed count (full_marks config pending total) ++ after)) ⊎
    ((passed : ℕ) × (at : ℕ) × (id : ℕ) × (at ≡ freed + passed) × (passed < count) × (id ≢ descriptor_of config at) × (steps ≡ used_id_steps config freed passed [] ++ refused_steps (used_id_step config at id (refusal field_name.UsedId id))))

ending : (config : EndConfig) (pending : PendingOffer) (freed : ℕ) (b : Bool) (steps : List Step) → frame_fits config pending freed ≡ b → Makes (if b then write_frame_words config pending 0 (words_for (length pending.frame)) else Ended) steps → IsEnding config pending freed steps
ending config pending freed true steps is m = inr (is, fill_listed config pending 0 (words_for (length pending.frame)) steps m)
ending config pending freed false steps is m = inl (is, m)

-- The marks of an id, from the number of frames freed after the last id.
last_marks : (config : EndConfig) (pending : PendingOffer) (freed more total : ℕ) → total ≡ freed + suc more → (if more == 0 then full_marks config pending (freed + 1) else []) ≡ (if more == 0 then full_marks config pending total else [])
last_marks config pending freed more total is = marks_by config pending freed more total is (more == 0) refl
  where
    marks_by : (config : EndConfig) (pending : PendingOffer) (freed more total : ℕ) → total ≡ freed + suc more → (b : Bool) → (more == 0) ≡ b → (if b then full_marks config pending (freed + 1) else []) ≡ (if b then full_marks config pending total else [])
    marks_by config pending freed more total is true none = let none_left : more ≡ 0 = grind (arith, nat_tests) in ap (full_marks config pending) (omega arith)
    marks_by config pending freed more total is false some = refl

no_marks : (b : Bool) → (let none : List Mark = [] in (if b then none else none) ≡ none)
no_marks true = refl
no_marks false = refl

-- A right id before a wrong one.
id_before : (config : EndConfig) (pending : PendingOffer) (freed more total : ℕ) (step : Step) (steps : List Step) (value : ℕ) → value ≡ descriptor_of config freed →
    step ≡ used_id_step config freed value (if more == 0 then full_marks config pending (freed + 1) else []) →
    ((passed : ℕ) × (at : ℕ) × (id : ℕ) × (at ≡ freed + 1 + passed) × (passed < more) × (id ≢ descriptor_of config at) × (steps ≡ used_id_steps config (freed + 1) passed [] ++ refused_steps (used_id_step config at id (refusal field_name.UsedId id)))) →
    IdsListed config pending freed (suc more) total (step ∷ steps)
id_before config pending freed more total step steps value same first bad =
    let some : (more == 0) ≡ false = (let lt = bad.4 in grind (arith, nat_tests)) in
    let good_step : step ≡ used_id_step config freed (descriptor_of config freed) (if bad.0 == 0 then [] else []) =
    first ∙ (ap (λ v. used_id_step config freed v (if more == 0 then full_marks config pending (freed + 1) else [])) same ∙
    ap (used_id_step config freed (descriptor_of config freed)) (no (more == 0) (full_marks config pending (freed + 1)) [] some ∙ sym (no_marks (bad.0 == 0)))) in
    let tail = bad.6 in inr (suc bad.0, bad.1, bad.2, (let e = bad.3 in omega arith), (let lt = bad.4 in omega arith), bad.5, (cc))

-- One id, and the rest.
id_listed : (config : EndConfig) (pending : PendingOffer) (freed more total value : ℕ) (step : Step) (steps : List Step) → total ≡ freed + suc more → (b : Bool) → (is_used_id (descriptor_of config freed) value) ≡ b →
    step ≡ used_id_step config freed value (if b then (if more == 0 then full_marks config pending (freed + 1) else []) else refusal field_name.UsedId value) →
    Makes (if b then read_used_ids config pending (freed + 1) more else set_state 0) steps →
    ((steps : List Step) → Makes (read_used_ids config pending (freed + 1) more) steps → IdsListed config pending (freed + 1) more total steps) → IdsListed config pending freed (suc more) total (step ∷ steps)
id_listed config pending freed more total value step steps is true test first later others =
    let same : value ≡ descriptor_of config freed = grind (arith, nat_tests) in
    let good_step : step ≡ used_id_step config freed (descriptor_of config freed) (if more == 0 then full_marks config pending total else []) =
    first ∙ (ap (λ v. used_id_step config freed v (if more == 0 then full_marks config pending (freed + 1) else [])) same ∙ ap (used_id_step config freed (descriptor_of config freed)) (last_marks config pending freed more total is)) in
    elim (others steps later) as (λ _. IdsListed config pending freed (suc more) total (step ∷ steps)) [
      | inl good ↦ inl (good.0, good.1, (let tail = good.2 in cc))
      | inr bad ↦ id_before config pending freed more total step steps value same first bad
    ]
id_listed config pending freed more total value step steps is false test first later others =
    let wrong : value ≢ descriptor_of config freed = λ e. grind (arith, nat_tests) in
    inr (0, freed, value, omega arith, omega arith, wrong, (let tail = set_listed 0 steps later in cc))

ids_listed : (config : EndConfig) (pending : PendingOffer) (freed count total : ℕ) (steps : List Step) → total ≡ freed + count → Makes (read_used_ids config pending freed count) steps → IdsListed config pending freed count total steps
ids_listed config pending freed zero total steps is m = let same : freed ≡ total = omega arith in
    inl (steps, subst (λ k. IsEnding config pending k steps) same (ending config pending freed (frame_fits config pending freed) steps refl m), refl)
ids_listed config pending freed (suc more) total [] is m = absurd m
ids_listed config pending freed (suc more) total (step ∷ steps) is m = id_listed config pending freed more total m.0 step steps is (is_used_id (descriptor_of config freed) m.0) refl m.1 m.2 (λ others made. ids_listed config pending (freed + 1) more total others (omega arith) made)

marks_none : (config : EndConfig) (pending : PendingOffer) (freed : ℕ) → frame_fits config pending freed ≡ true → full_marks config pending freed ≡ []
marks_none config pending freed room = yes (frame_fits config pending freed) [] (Full ∷ []) room

pub append_nil : (xs : List Step) → xs ++ [] ≡ xs
append_nil [] = refl
append_nil (x ∷ xs) = ap (λ (l : List Step). x ∷ l) (append_nil xs)

offer_ids : (config : EndConfig) (pending : PendingOffer) (freed value : ℕ) (step : Step) (steps : List Step) → returned_by freed value ≤ pending.number - freed →
    step ≡ used_index_step config value (reclaim_marks config pending freed (returned_by freed value)) → IdsListed config pending freed (returned_by freed value) (freed + returned_by freed value) steps → IsOffer config pending freed (step ∷ steps)
offer_ids config pending freed value step steps within first (inl good) = elim good.1 as (λ _. IsOffer config pending freed (step ∷ steps)) [
  | inl full ↦ inr (inr (inl record { value = value; within = within; full = full.0; steps_are = let none : good.0 ≡ [] = full.1 in let tail = good.2 in let e = append_nil (used_id_steps config freed (returned_by freed value) (full_marks config pending (freed + returned_by freed value))) in cc }))
  | inr room ↦ inr (inr (inr record { value = value; within = within; room = room.0; event = room.1.0; steps_are = let rest = room.1.1 in let tail = good.2 in cc }))
]
offer_ids config pending freed value step steps within first (inr bad) = inr (inl record {
  value = value;
  within = within;
  passed = bad.0;
  before = bad.4;
  id = bad.2;
  wrong = subst (λ k. bad.2 ≢ descriptor_of config k) bad.3 bad.5;
  steps_are = let same : used_id_step config bad.1 bad.2 (refusal field_name.UsedId bad.2) ≡ used_id_step config (freed + bad.0) bad.2 (refusal field_name.UsedId bad.2) = ap (λ k. used_id_step config k bad.2 (refusal field_name.UsedId bad.2)) bad.3 in let tail = bad.6 in cc;
})

offer_by : (config : EndConfig) (pending : PendingOffer) (freed value : ℕ) (step : Step) (steps : List Step) (b : Bool) → is_used_index (freed % 65536) (high_half value) (pending.number - freed) ≡ b →
    step ≡ used_index_step config value (if b then reclaim_marks config pending freed (returned_by freed value) else refusal field_name.UsedIndex (high_half value)) →
    Makes (if b then read_used_ids config pending freed (returned_by freed value) else set_state 0) steps → IsOffer config pending freed (step ∷ steps)
offer_by config pending freed value step steps true test first later =
    offer_ids config pending freed value step steps (grind (arith, nat_tests)) first (ids_listed config pending freed (returned_by freed value) (freed + returned_by freed value) steps refl later)
offer_by config pending freed value step steps false test first later = inl record {
  value = value;
  beyond = λ within. grind (arith, nat_tests);
  steps_are = let tail = set_listed 0 steps later in cc;
}

pub offer_listed : (config : EndConfig) (pending : PendingOffer) (freed : ℕ) (steps : List Step) → Makes (offer config pending freed) steps → IsOffer config pending freed steps
offer_listed config pending freed [] m = absurd m
offer_listed config pending freed (step ∷ steps) m = offer_by config pending freed m.0 step steps (is_used_index (freed % 65536) (high_half m.0) (pending.number - freed)) refl m.1 m.2

-- An id and the steps after it make the rest of the ids, by the test of the id.
id_from : (config : EndConfig) (pending : PendingOffer) (freed more value : ℕ) (step : Step) (steps : List Step) (b : Bool) → (is_used_id (descriptor_of config freed) value) ≡ b →
    step ≡ used_id_step config freed value (if b then (if more == 0 then full_marks config pending (freed + 1) else []) else refusal field_name.UsedId value) →
    Makes (if b then read_used_ids config pending (freed + 1) more else set_state 0) steps → Makes (read_used_ids config pending freed (suc more)) (step ∷ steps)
id_from config pending freed more value step steps b test first later = (
  value,
  subst (λ (t : Bool). step ≡ used_id_step config freed value (if t then (if more == 0 then full_marks config pending (freed + 1) else []) else refusal field_name.UsedId value)) (sym test) first,
  subst (λ (t : Bool). Makes (if t then read_used_ids config pending (freed + 1) more else set_state 0) steps) (sym test) later,
)

ids_good : (config : EndConfig) (pending : PendingOffer) (freed count total : ℕ) (after : List Step) → total ≡ freed + count → Makes (after_ids config pending total) after →
    Makes (read_used_ids config pending freed count) (used_id_steps config freed count (full_marks config pending total) ++ after)
ids_good config pending freed zero total after is made = subst (λ k. Makes (after_ids config pending k) after) (omega arith) made
ids_good config pending freed (suc more) total after is made = id_from config pending freed more (descriptor_of config freed) _ (used_id_steps config (freed + 1) more (full_marks config pending total) ++ after) true (eq-eqb _ _ refl)
    (ap (used_id_step config freed (descriptor_of config freed)) (sym (last_marks config pending freed more total is)))
    (ids_good config pending (freed + 1) more total after (omega arith) made)

ids_bad : (config : EndConfig) (pending : PendingOffer) (freed count passed at id : ℕ) → at ≡ freed + passed → passed < count → id ≢ descriptor_of config at →
    Makes (read_used_ids config pending freed count) (used_id_steps config freed passed [] ++ refused_steps (used_id_step config at id (refusal field_name.UsedId id)))
ids_bad config pending freed zero passed at id is lt wrong = absurd (omega arith)
ids_bad config pending freed (suc more) zero at id is lt wrong = let same : at ≡ freed = omega arith in
    id_from config pending freed more id _ (state_step 0 ∷ []) false (ne_eqb _ _ (subst (λ k. id ≢ descriptor_of config k) same wrong))
    (ap (λ k. used_id_step config k id (refusal field_name.UsedId id)) same) (refl, refl)
ids_bad config pending freed (suc more) (suc passed) at id is lt wrong = let some : (more == 0) ≡ false = grind (arith, nat_tests) in
    id_from config pending freed more (descriptor_of config freed) _ (used_id_steps config (freed + 1) passed [] ++ refused_steps (used_id_step config at id (refusal field_name.UsedId id))) true (eq-eqb _ _ refl)
    (ap (used_id_step config freed (descriptor_of config freed)) (no_marks (passed == 0) ∙ sym (no (more == 0) (full_marks config pending (freed + 1)) [] some)))
    (ids_bad config pending (freed + 1) more passed at id (omega arith) (omega arith) wrong)

-- The used index and the steps after it make an offer, by the test of the index.
offer_from : (config : EndConfig) (pending : PendingOffer) (freed value : ℕ) (step : Step) (steps : List Step) (b : Bool) → is_used_index (freed % 65536) (high_half value) (pending.number - freed) ≡ b →
    step ≡ used_index_step config value (if b then reclaim_marks config pending freed (returned_by freed value) else refusal field_name.UsedIndex (high_half value)) →
    Makes (if b then read_used_ids config pending freed (returned_by freed value) else set_state 0) steps → Makes (offer config pending freed) (step ∷ steps)
offer_from config pending freed value step steps b test first later = (
  value,
  subst (λ (t : Bool). step ≡ used_index_step config value (if t then reclaim_marks config pending freed (returned_by freed value) else refusal field_name.UsedIndex (high_half value))) (sym test) first,
  subst (λ (t : Bool). Makes (if t then read_used_ids config pending freed (returned_by freed value) else set_state 0) steps) (sym test) later,
)

pub within_test : (d n : ℕ) → d ≤ n → nat_le d n ≡ true
within_test d n le = grind (arith, nat_tests)

pub beyond_test : (d n : ℕ) → (d ≤ n → ⊥) → nat_le d n ≡ false
beyond_test d n beyond = dite (dec_lt n d) (λ lt. grind (arith, nat_tests)) (λ ge. absurd (beyond (omega arith)))

full_ends : (config : EndConfig) (pending : PendingOffer) (freed : ℕ) → frame_fits config pending freed ≡ false → Makes (after_ids config pending freed) []
full_ends config pending freed is = subst (λ (t : CallTree). Makes t []) (sym (no (frame_fits config pending freed) (write_frame_words config pending 0 (words_for (length pending.frame))) Ended is)) refl

room_fills : (config : EndConfig) (pending : PendingOffer) (freed event : ℕ) → frame_fits config pending freed ≡ true →
    Makes (after_ids config pending freed) (frame_write_steps config pending 0 (words_for (length pending.frame)) ++ (publish_steps config pending ++ notify_steps config pending.number event))
room_fills config pending freed event room = subst (λ (t : CallTree). Makes t (frame_write_steps config pending 0 (words_for (length pending.frame)) ++ (publish_steps config pending ++ notify_steps config pending.number event)))
    (sym (yes (frame_fits config pending freed) (write_frame_words config pending 0 (words_for (length pending.frame))) Ended room)) (fill_made config pending 0 (words_for (length pending.frame)) event)

pub offer_made : (config : EndConfig) (pending : PendingOffer) (freed : ℕ) (steps : List Step) → IsOffer config pending freed steps → Makes (offer config pending freed) steps
offer_made config pending freed steps (inl r) = subst (λ (l : List Step). Makes (offer config pending freed) l) (sym r.steps_are)
    (offer_from config pending freed r.value _ (state_step 0 ∷ []) false (beyond_test _ _ r.beyond) refl (refl, refl))
offer_made config pending freed steps (inr (inl r)) = subst (λ (l : List Step). Makes (offer config pending freed) l) (sym r.steps_are)
    (offer_from config pending freed r.value _ _ true (within_test _ _ r.within) refl (ids_bad config pending freed (returned_by freed r.value) r.passed (freed + r.passed) r.id refl r.before r.wrong))
offer_made config pending freed steps (inr (inr (inl r))) = let total = freed + returned_by freed r.value in subst (λ (l : List Step). Makes (offer config pending freed) l)
    (sym (r.steps_are ∙ ap (λ (l : List Step). used_index_step config r.value (reclaim_marks config pending freed (returned_by freed r.value)) ∷ l) (sym (append_nil (used_id_steps config freed (returned_by freed r.value) (full_marks config pending total))))))
    (offer_from config pending freed r.value _ _ true (within_test _ _ r.within) refl (ids_good config pending freed (returned_by freed r.value) total [] refl (full_ends config pending total r.full)))
offer_made config pending freed steps (inr (inr (inr r))) = let total = freed + returned_by freed r.value in subst (λ (l : List Step). Makes (offer config pending freed) l) (sym r.steps_are)
    (offer_from config pending freed r.value _ _ true (within_test _ _ r.within) refl
    (ids_good config pending freed (returned_by freed r.value) total (frame_write_steps config pending 0 (words_for (length pending.frame)) ++ (publish_steps config pending ++ notify_steps config pending.number r.event)) refl (room_fills config pending total r.event r.room)))
