-- An offer from place to place and as a list.
use Rattle.std.proofs.Common.{◌≡◌, ◌≢◌, ℕ, zero, suc, ◌+◌, ◌-◌, ◌<◌, ◌≤◌, ◌⊎◌, inl, inr, Bool, true, false, List, [], ◌∷◌, ◌++◌, length, refl, sym, ap, ◌∙◌, subst, arith, append_assoc, eq-eqb, ne_eqb}
use Rattle.std.specs.Prelude.{◌==◌, if◌then◌else◌, ◌%◌}
use Rattle.std.proofs.lemmas.Bool.Decides.{nat_tests}
use Rattle.split_ring.specs.declared.ranges.FieldName.TheVariants as field_name
use Rattle.split_ring.specs.Layout.{has_events}
use Rattle.split_ring.specs.Spelling.{low_half, high_half}
use Rattle.split_ring.specs.Ranges.{is_used_index, is_used_id}
use Rattle.call_grammar.specs.Steps.{Step, Mark, Over}
use Rattle.call_grammar.specs.Ticks.{EndConfig, state_step}
use Rattle.call_grammar.specs.Words.{words_for}
use Rattle.call_grammar.specs.Offers.{PendingOffer, frame_fits, descriptor_of, refusal, full_marks, wants_doorbell, returned_by, reclaim_marks, used_index_step, used_id_step, used_id_steps, refused_steps, frame_write_steps, publish_steps, doorbell_step, avail_event_read_step, notify_steps, IsOffer}
use Rattle.call_grammar.proofs.OfferLists.{yes, no, within_test, beyond_test, append_nil}
use Rattle.call_grammar.specs.Tasks.{Refusing, Publishing, RingingOffer}
use Rattle.call_grammar.specs.PlaceTable.{Place, Closed, ReadingUsedIndex, ReadingAvailEvent, begin, ids_place}
use Rattle.call_grammar.specs.Paths.{Leads}
use Rattle.call_grammar.proofs.Tasks.{ended, task_listed, task_path, closing_listed, closing_path}

-- A refusal, from the place after it on.
pub refused_listed : (config : EndConfig) (steps : List Step) → Leads config (begin Refusing) steps Closed → steps ≡ state_step 0 ∷ []
refused_listed config steps leads = closing_listed config Refusing steps refl leads

pub refused_path : (config : EndConfig) → Leads config (begin Refusing) (state_step 0 ∷ []) Closed
refused_path config = closing_path config Refusing refl

-- The notification of the other peer.
abbrev steps_of_notify : EndConfig → (number value : ℕ) → Bool → List Step
steps_of_notify config number value b = avail_event_read_step config number value ∷ (if b then doorbell_step config (Over ∷ []) ∷ [] else [])

after_event : (config : EndConfig) (b : Bool) (steps : List Step) → Leads config (if b then begin RingingOffer else Closed) steps Closed → steps ≡ (if b then doorbell_step config (Over ∷ []) ∷ [] else [])
after_event config true steps leads = closing_listed config RingingOffer steps refl leads
after_event config false steps leads = ended config steps leads

event_path : (config : EndConfig) (b : Bool) → Leads config (if b then begin RingingOffer else Closed) (if b then doorbell_step config (Over ∷ []) ∷ [] else []) Closed
event_path config true = closing_path config RingingOffer refl
event_path config false = refl

notify_listed : (config : EndConfig) (number : ℕ) (b : Bool) (steps : List Step) → Leads config (if b then ReadingAvailEvent number else begin RingingOffer) steps Closed →
    (value : ℕ) × (steps ≡ (if b then steps_of_notify config number value (wants_doorbell (low_half value) number) else doorbell_step config (Over ∷ []) ∷ []))
notify_listed config number true [] leads = absurd (cc)
notify_listed config number true (step ∷ steps) leads = (step.value, (let first = leads.1 in let later = after_event config (wants_doorbell (low_half step.value) number) steps leads.2 in cc))
notify_listed config number false steps leads = (0, closing_listed config RingingOffer steps refl leads)

notify_path : (config : EndConfig) (number value : ℕ) (b : Bool) →
    Leads config (if b then ReadingAvailEvent number else begin RingingOffer) (if b then steps_of_notify config number value (wants_doorbell (low_half value) number) else doorbell_step config (Over ∷ []) ∷ []) Closed
notify_path config number value true = (refl, refl, event_path config (wants_doorbell (low_half value) number))
notify_path config number value false = closing_path config RingingOffer refl

-- The steps of an offer after its reads.
abbrev Published : EndConfig → PendingOffer → List Step → Type 0
Published config pending steps = (event : ℕ) × (steps ≡ frame_write_steps config pending 0 (words_for (length pending.frame)) ++ (publish_steps config pending ++ notify_steps config pending.number event))

abbrev IsEnding : EndConfig → PendingOffer → ℕ → List Step → Type 0
IsEnding config pending freed steps = ((frame_fits config pending freed ≡ false) × (steps ≡ [])) ⊎ ((frame_fits config pending freed ≡ true) × Published config pending steps)

published_listed : (config : EndConfig) (pending : PendingOffer) (steps : List Step) → Leads config (begin (Publishing pending)) steps Closed → Published config pending steps
published_listed config pending steps leads =
    let r = task_listed config (Publishing pending) steps leads in let n = notify_listed config pending.number (has_events config.sizes) r.0 r.2 in
    (n.0, (let whole = r.1 in let rest = n.1 in let seam = append_assoc (frame_write_steps config pending 0 (words_for (length pending.frame))) (publish_steps config pending) r.0 in cc))

published_path : (config : EndConfig) (pending : PendingOffer) (event : ℕ) → Leads config (begin (Publishing pending)) (frame_write_steps config pending 0 (words_for (length pending.frame)) ++ (publish_steps config pending ++ notify_steps config pending.number event)) Closed
published_path config pending event = subst (λ (l : List Step). Leads config (begin (Publishing pending)) l Closed) (append_assoc (frame_write_steps config pending 0 (words_for (length pending.frame))) (publish_steps config pending) _)
    (task_path config (Publishing pending) _ Closed (notify_path config pending.number event (has_events config.sizes)))

-- The steps of an offer from an id on: the rest of a valid offer, or the ids up to a wrong one.
abbrev IdsListed : EndConfig → PendingOffer → (freed count total : ℕ) → List Step → Type 0
IdsListed config pending freed count total steps =
    ((after : List Step) × (IsEnding config pending total after) × (steps ≡ used_id_steps config freed count (full_marks config pending total) ++ after)) ⊎
    ((passed : ℕ) × (at : ℕ) × (id : ℕ) × (at ≡ freed + passed) × (passed < count) × (id ≢ descriptor_of config at) × (steps ≡ used_id_steps config freed passed [] ++ refused_steps (used_id_step config at id (refusal field_name.UsedId id))))

ending : (config : EndConfig) (pending : PendingOffer) (freed : ℕ) (b : Bool) (steps : List Step) → frame_fits config pending freed ≡ b → Leads config (if b then begin (Publishing pending) else Closed) steps Closed → IsEnding config pending freed steps
ending config pending freed true steps is m = inr (is, published_listed config pending steps m)
ending config pending freed false steps is m = inl (is, ended config steps m)

-- The marks of an id, from the number of frames freed after the last id.
last_marks : (config : EndConfig) (pending : PendingOffer) (freed more total : ℕ) → total ≡ freed + suc more → (if more == 0 then full_marks config pending (freed + 1) else []) ≡ (if more == 0 then full_marks config pending total else [])
last_marks config pending freed more total is = marks_by config pending freed more total is (more == 0) refl
  where
    marks_by : (config : EndConfig) (pending : PendingOffer) (freed more total : ℕ) → total ≡ freed + suc more → (b : Bool) → (more == 0) ≡ b → (if b then full_marks config pending (freed + 1) else []) ≡ (if b then full_marks config pending total else [])
    marks_by config pending freed more total is true none = let none_left : more ≡ 0 = grind (arith, nat_tests) in ap (full_marks config pending) (omega arith)
    marks_by config pending freed more total is false some = refl

no_marks : (b : Bool) → (let none : List Mark = [] in (if b then none else none) ≡ none)
no_marks true = refl
no_marks false = refl

-- A right id before a wrong one.
id_before : (config : EndConfig) (pending : PendingOffer) (freed more total : ℕ) (step : Step) (steps : List Step) (value : ℕ) → value ≡ descriptor_of config freed →
    step ≡ used_id_step config freed value (if more == 0 then full_marks config pending (freed + 1) else []) →
    ((passed : ℕ) × (at : ℕ) × (id : ℕ) × (at ≡ freed + 1 + passed) × (passed < more) × (id ≢ descriptor_of config at) × (steps ≡ used_id_steps config (freed + 1) passed [] ++ refused_steps (used_id_step config at id (refusal field_name.UsedId id)))) →
    IdsListed config pending freed (suc more) total (step ∷ steps)
id_before config pending freed more total step steps value same first bad =
    let some : (more == 0) ≡ false = (let lt = bad.4 in grind (arith, nat_tests)) in
    let good_step : step ≡ used_id_step config freed (descriptor_of config freed) (if bad.0 == 0 then [] else []) =
    first ∙ (ap (λ v. used_id_step config freed v (if more == 0 then full_marks config pending (freed + 1) else [])) same ∙
    ap (used_id_step config freed (descriptor_of config freed)) (no (more == 0) (full_marks config pending (freed + 1)) [] some ∙ sym (no_marks (bad.0 == 0)))) in
    let tail = bad.6 in inr (suc bad.0, bad.1, bad.2, (let e = bad.3 in omega arith), (let lt = bad.4 in omega arith), bad.5, (cc))

-- One id, and the rest.
id_listed : (config : EndConfig) (pending : PendingOffer) (freed more total value : ℕ) (step : Step) (steps : List Step) → total ≡ freed + suc more → (b : Bool) → (is_used_id (descriptor_of config freed) value) ≡ b →
    step ≡ used_id_step config freed value (if b then (if more == 0 then full_marks config pending (freed + 1) else []) else refusal field_name.UsedId value) →
    Leads config (if b then ids_place config pending (freed + 1) more else begin Refusing) steps Closed →
    ((steps : List Step) → Leads config (ids_place config pending (freed + 1) more) steps Closed → IdsListed config pending (freed + 1) more total steps) → IdsListed config pending freed (suc more) total (step ∷ steps)
id_listed config pending freed more total value step steps is true test first later others =
    let same : value ≡ descriptor_of config freed = grind (arith, nat_tests) in
    let good_step : step ≡ used_id_step config freed (descriptor_of config freed) (if more == 0 then full_marks config pending total else []) =
    first ∙ (ap (λ v. used_id_step config freed v (if more == 0 then full_marks config pending (freed + 1) else [])) same ∙ ap (used_id_step config freed (descriptor_of config freed)) (last_marks config pending freed more total is)) in
    elim (others steps later) as (λ _. IdsListed config pending freed (suc more) total (step ∷ steps)) [
      | inl good ↦ inl (good.0, good.1, (let tail = good.2 in cc))
      | inr bad ↦ id_before config pending freed more total step steps value same first bad
    ]
id_listed config pending freed more total value step steps is false test first later others =
    let wrong : value ≢ descriptor_of config freed = λ e. grind (arith, nat_tests) in
    inr (0, freed, value, omega arith, omega arith, wrong, (let tail = refused_listed config steps later in cc))

ids_listed : (config : EndConfig) (pending : PendingOffer) (freed count total : ℕ) (steps : List Step) → total ≡ freed + count → Leads config (ids_place config pending freed count) steps Closed → IdsListed config pending freed count total steps
ids_listed config pending freed zero total steps is m = let same : freed ≡ total = omega arith in
    inl (steps, subst (λ k. IsEnding config pending k steps) same (ending config pending freed (frame_fits config pending freed) steps refl m), refl)
ids_listed config pending freed (suc more) total [] is m = absurd (cc)
ids_listed config pending freed (suc more) total (step ∷ steps) is m = id_listed config pending freed more total step.value step steps is (is_used_id (descriptor_of config freed) step.value) refl m.1 m.2 (λ others made. ids_listed config pending (freed + 1) more total others (omega arith) made)

offer_ids : (config : EndConfig) (pending : PendingOffer) (freed value : ℕ) (step : Step) (steps : List Step) → returned_by freed value ≤ pending.number - freed →
    step ≡ used_index_step config value (reclaim_marks config pending freed (returned_by freed value)) → IdsListed config pending freed (returned_by freed value) (freed + returned_by freed value) steps → IsOffer config pending freed (step ∷ steps)
offer_ids config pending freed value step steps within first (inl good) = elim good.1 as (λ _. IsOffer config pending freed (step ∷ steps)) [
  | inl full ↦ inr (inr (inl record { value = value; within = within; full = full.0; steps_are = let none : good.0 ≡ [] = full.1 in let tail = good.2 in let e = append_nil (used_id_steps config freed (returned_by freed value) (full_marks config pending (freed + returned_by freed value))) in cc }))
  | inr room ↦ inr (inr (inr record { value = value; within = within; room = room.0; event = room.1.0; steps_are = let rest = room.1.1 in let tail = good.2 in cc }))
]
offer_ids config pending freed value step steps within first (inr bad) = inr (inl record {
  value = value;
  within = within;
  passed = bad.0;
  before = bad.4;
  id = bad.2;
  wrong = subst (λ k. bad.2 ≢ descriptor_of config k) bad.3 bad.5;
  steps_are = let same : used_id_step config bad.1 bad.2 (refusal field_name.UsedId bad.2) ≡ used_id_step config (freed + bad.0) bad.2 (refusal field_name.UsedId bad.2) = ap (λ k. used_id_step config k bad.2 (refusal field_name.UsedId bad.2)) bad.3 in let tail = bad.6 in cc;
})

offer_by : (config : EndConfig) (pending : PendingOffer) (freed value : ℕ) (step : Step) (steps : List Step) (b : Bool) → is_used_index (freed % 65536) (high_half value) (pending.number - freed) ≡ b →
    step ≡ used_index_step config value (if b then reclaim_marks config pending freed (returned_by freed value) else refusal field_name.UsedIndex (high_half value)) →
    Leads config (if b then ids_place config pending freed (returned_by freed value) else begin Refusing) steps Closed → IsOffer config pending freed (step ∷ steps)
offer_by config pending freed value step steps true test first later =
    offer_ids config pending freed value step steps (grind (arith, nat_tests)) first (ids_listed config pending freed (returned_by freed value) (freed + returned_by freed value) steps refl later)
offer_by config pending freed value step steps false test first later = inl record {
  value = value;
  beyond = λ within. grind (arith, nat_tests);
  steps_are = let tail = refused_listed config steps later in cc;
}

pub offer_listed : (config : EndConfig) (pending : PendingOffer) (freed : ℕ) (steps : List Step) → Leads config (ReadingUsedIndex pending freed) steps Closed → IsOffer config pending freed steps
offer_listed config pending freed [] m = absurd (cc)
offer_listed config pending freed (step ∷ steps) m = offer_by config pending freed step.value step steps (is_used_index (freed % 65536) (high_half step.value) (pending.number - freed)) refl m.1 m.2

-- An id and the steps after it lead through the rest of the ids, by the test of the id.
id_from : (config : EndConfig) (pending : PendingOffer) (freed more value : ℕ) (marks : List Mark) (steps : List Step) (b : Bool) → is_used_id (descriptor_of config freed) value ≡ b →
    marks ≡ (if b then (if more == 0 then full_marks config pending (freed + 1) else []) else refusal field_name.UsedId value) →
    Leads config (if b then ids_place config pending (freed + 1) more else begin Refusing) steps Closed → Leads config (ids_place config pending freed (suc more)) (used_id_step config freed value marks ∷ steps) Closed
id_from config pending freed more value marks steps b test first later = (
  refl,
  subst (λ (t : Bool). used_id_step config freed value marks ≡ used_id_step config freed value (if t then (if more == 0 then full_marks config pending (freed + 1) else []) else refusal field_name.UsedId value)) (sym test) (ap (used_id_step config freed value) first),
  subst (λ (t : Bool). Leads config (if t then ids_place config pending (freed + 1) more else begin Refusing) steps Closed) (sym test) later,
)

ids_good : (config : EndConfig) (pending : PendingOffer) (freed count total : ℕ) (after : List Step) → total ≡ freed + count → Leads config (ids_place config pending total 0) after Closed →
    Leads config (ids_place config pending freed count) (used_id_steps config freed count (full_marks config pending total) ++ after) Closed
ids_good config pending freed zero total after is made = subst (λ k. Leads config (ids_place config pending k 0) after Closed) (omega arith) made
ids_good config pending freed (suc more) total after is made = id_from config pending freed more (descriptor_of config freed) _ (used_id_steps config (freed + 1) more (full_marks config pending total) ++ after) true (eq-eqb _ _ refl)
    (sym (last_marks config pending freed more total is)) (ids_good config pending (freed + 1) more total after (omega arith) made)

ids_bad : (config : EndConfig) (pending : PendingOffer) (freed count passed at id : ℕ) → at ≡ freed + passed → passed < count → id ≢ descriptor_of config at →
    Leads config (ids_place config pending freed count) (used_id_steps config freed passed [] ++ refused_steps (used_id_step config at id (refusal field_name.UsedId id))) Closed
ids_bad config pending freed zero passed at id is lt wrong = absurd (omega arith)
ids_bad config pending freed (suc more) zero at id is lt wrong = let same : freed ≡ at = omega arith in
    subst (λ k. Leads config (ids_place config pending freed (suc more)) (refused_steps (used_id_step config k id (refusal field_name.UsedId id))) Closed) same
    (id_from config pending freed more id _ (state_step 0 ∷ []) false (ne_eqb _ _ (subst (λ k. id ≢ descriptor_of config k) (sym same) wrong)) refl (refused_path config))
ids_bad config pending freed (suc more) (suc passed) at id is lt wrong = let some : (more == 0) ≡ false = grind (arith, nat_tests) in
    id_from config pending freed more (descriptor_of config freed) _ (used_id_steps config (freed + 1) passed [] ++ refused_steps (used_id_step config at id (refusal field_name.UsedId id))) true (eq-eqb _ _ refl)
    (no_marks (passed == 0) ∙ sym (no (more == 0) (full_marks config pending (freed + 1)) [] some)) (ids_bad config pending (freed + 1) more passed at id (omega arith) (omega arith) wrong)

-- The used index and the steps after it lead through an offer, by the test of the index.
offer_from : (config : EndConfig) (pending : PendingOffer) (freed value : ℕ) (steps : List Step) (b : Bool) → is_used_index (freed % 65536) (high_half value) (pending.number - freed) ≡ b →
    Leads config (if b then ids_place config pending freed (returned_by freed value) else begin Refusing) steps Closed →
    Leads config (ReadingUsedIndex pending freed) (used_index_step config value (if b then reclaim_marks config pending freed (returned_by freed value) else refusal field_name.UsedIndex (high_half value)) ∷ steps) Closed
offer_from config pending freed value steps b test later = subst (λ (t : Bool). Leads config (ReadingUsedIndex pending freed) (used_index_step config value (if t then reclaim_marks config pending freed (returned_by freed value) else refusal field_name.UsedIndex (high_half value)) ∷ steps) Closed) test
    (refl, refl, subst (λ (t : Bool). Leads config (if t then ids_place config pending freed (returned_by freed value) else begin Refusing) steps Closed) (sym test) later)

full_ends : (config : EndConfig) (pending : PendingOffer) (freed : ℕ) → frame_fits config pending freed ≡ false → Leads config (ids_place config pending freed 0) [] Closed
full_ends config pending freed is = sym (no (frame_fits config pending freed) (begin (Publishing pending)) Closed is)

room_fills : (config : EndConfig) (pending : PendingOffer) (freed event : ℕ) → frame_fits config pending freed ≡ true →
    Leads config (ids_place config pending freed 0) (frame_write_steps config pending 0 (words_for (length pending.frame)) ++ (publish_steps config pending ++ notify_steps config pending.number event)) Closed
room_fills config pending freed event room = subst (λ (p : Place). Leads config p (frame_write_steps config pending 0 (words_for (length pending.frame)) ++ (publish_steps config pending ++ notify_steps config pending.number event)) Closed)
    (sym (yes (frame_fits config pending freed) (begin (Publishing pending)) Closed room)) (published_path config pending event)

pub offer_path : (config : EndConfig) (pending : PendingOffer) (freed : ℕ) (steps : List Step) → IsOffer config pending freed steps → Leads config (ReadingUsedIndex pending freed) steps Closed
offer_path config pending freed steps (inl r) = subst (λ (l : List Step). Leads config (ReadingUsedIndex pending freed) l Closed) (sym r.steps_are)
    (offer_from config pending freed r.value (state_step 0 ∷ []) false (beyond_test _ _ r.beyond) (refused_path config))
offer_path config pending freed steps (inr (inl r)) = subst (λ (l : List Step). Leads config (ReadingUsedIndex pending freed) l Closed) (sym r.steps_are)
    (offer_from config pending freed r.value _ true (within_test _ _ r.within) (ids_bad config pending freed (returned_by freed r.value) r.passed (freed + r.passed) r.id refl r.before r.wrong))
offer_path config pending freed steps (inr (inr (inl r))) = let total = freed + returned_by freed r.value in subst (λ (l : List Step). Leads config (ReadingUsedIndex pending freed) l Closed)
    (sym (r.steps_are ∙ ap (λ (l : List Step). used_index_step config r.value (reclaim_marks config pending freed (returned_by freed r.value)) ∷ l) (sym (append_nil (used_id_steps config freed (returned_by freed r.value) (full_marks config pending total))))))
    (offer_from config pending freed r.value _ true (within_test _ _ r.within) (ids_good config pending freed (returned_by freed r.value) total [] refl (full_ends config pending total r.full)))
offer_path config pending freed steps (inr (inr (inr r))) = let total = freed + returned_by freed r.value in subst (λ (l : List Step). Leads config (ReadingUsedIndex pending freed) l Closed) (sym r.steps_are)
    (offer_from config pending freed r.value _ true (within_test _ _ r.within) (ids_good config pending freed (returned_by freed r.value) total _ refl (room_fills config pending total r.event r.room)))
