-- The doorbell that avail_event wants is rung.
use Rattle.std.proofs.Common.{◌≡◌, ◌≢◌, ℕ, ◌+◌, ◌-◌, ◌%◌, ◌<◌, ◌≤◌, ◌⊎◌, inl, inr, Bool, true, false, List, [], ◌∷◌, ◌++◌, length, length-append, refl, sym, ap, ◌∙◌, subst, arith}
use mathlib.Core.Logic.{dite}
use native.Mathlib.Decide.{ℕ_discrete}
use Rattle.std.specs.Prelude.{◌==◌, if◌then◌else◌}
use Rattle.std.proofs.lemmas.Bool.Decides.{nat_tests}
use Rattle.split_ring.specs.declared.steps.Access.{Access}
use Rattle.split_ring.specs.declared.steps.Access.TheVariants as access
use Rattle.split_ring.specs.declared.ranges.FieldName.TheVariants as field_name
use Rattle.split_ring.specs.Layout.{has_events, word_offset, AvailEvent}
use Rattle.split_ring.specs.Spelling.{low_half, high_half, desc_flags}
use Rattle.split_ring.specs.Ranges.{is_avail_entry, is_desc_address, is_desc_length, is_desc_flags, is_used_id, is_avail_index, is_used_index}
use Rattle.link_handshake.specs.declared.Move.{Move}
use Rattle.link_handshake.specs.declared.Move.TheVariants.{Stay, Set, ClearThenSet}
use Rattle.link_handshake.specs.HandshakeState.{move_of}
use Rattle.call_grammar.specs.Steps.{Mark, Reclaim, Full, Accept, Look, Deliver, Done, Over}
use Rattle.call_grammar.specs.Ends.{End, with_access, with_mark, with_marks, end_after}
use Rattle.call_grammar.specs.Words.{address_of, frame_in}
use Rattle.call_grammar.specs.Ticks.{EndConfig, tick_marks}
use Rattle.call_grammar.specs.Offers.{PendingOffer, frame_fits, refusal, full_marks, returned_by, reclaim_marks, descriptor_of, wants_doorbell}
use Rattle.call_grammar.specs.Polls.{entry_in, published_by, look_marks}
use Rattle.call_grammar.specs.Places.{Place, Closed, ReadingOtherState, Clearing, WritingState, Refusing, ReadingUsedIndex, ReadingUsedId, WritingFrameWord, WritingDescAddressLow, WritingDescAddressHigh, WritingDescLength, WritingDescFlags, WritingAvailEntry, WritingAvailIndex, ReadingAvailEvent, RingingOffer, ReadingAvailIndex, WritingAvailEvent, ReadingAvailEntry, ReadingDescAddressHigh, ReadingDescLength, ReadingDescFlags, ReadingFrameWord, WritingUsedId, WritingUsedLength, WritingUsedIndex, access_at, marks_at, next_place, step_at}
use Rattle.link_invariant.specs.Fields.{Field}
use Rattle.link_invariant.specs.Fields as field
use Rattle.link_invariant.specs.LinkConfig.{LinkConfig, IsLinkConfig, section_of, config_of, fields}
use Rattle.link_invariant.specs.Steps.{IsUntouched, ReadsMemory, MemoryAfter, TakesStep}
use Rattle.link_invariant.specs.EndInvariant.{PlaceInvariant}
use Rattle.link_invariant.specs.Pair.{Pair}
use Rattle.link_invariant.specs.Wake.{EventIndexIs, Asks, WritesEvent, AskedDoorbellIsRung}
use Rattle.link_invariant.proofs.Fields.{field_read, fields_same}
use Rattle.link_invariant.proofs.WriteSteps.{place_puts}
use Rattle.link_invariant.proofs.PairObligations.{Before}
use Rattle.link_invariant.proofs.PairKept.{untouched, before}
use Rattle.link_invariant.proofs.PollsOfPair.{published_is}

-- Frames are accepted only at the write of the available index

abbrev pub AcceptsNone : List Mark → Type 0
AcceptsNone [] = Unit {0}
AcceptsNone (Accept frame ∷ marks) = ⊥
AcceptsNone (mark ∷ marks) = AcceptsNone marks

noted_same : (end : End) (marks : List Mark) → AcceptsNone marks → (with_marks end marks).accepted ≡ end.accepted
noted_same end [] none = refl
noted_same end (Accept frame ∷ marks) none = absurd none
noted_same end (mark ∷ marks) none = noted_same (with_mark end mark) marks none

by_bool : (b : Bool) (m n : List Mark) → AcceptsNone m → AcceptsNone n → AcceptsNone (if b then m else n)
by_bool true m n mine opposite = mine
by_bool false m n mine opposite = opposite

tick_none : (value : ℕ) (move : Move) → AcceptsNone (tick_marks value move)
tick_none value Stay = tt
tick_none value (Set state) = tt
tick_none value (ClearThenSet state) = tt

full_none : (config : EndConfig) (pending : PendingOffer) (freed : ℕ) → AcceptsNone (full_marks config pending freed)
full_none config pending freed = by_bool (frame_fits config pending freed) [] (Full ∷ []) tt tt

reclaim_none : (config : EndConfig) (pending : PendingOffer) (freed count : ℕ) → AcceptsNone (reclaim_marks config pending freed count)
reclaim_none config pending freed count = by_bool (count == 0) (Reclaim 0 ∷ full_marks config pending freed) (Reclaim count ∷ []) (full_none config pending freed) tt

look_none : (last : Bool) (count : ℕ) → AcceptsNone (look_marks last count)
look_none last count = by_bool (count == 0) (if last then Look 0 ∷ Done ∷ [] else Look 0 ∷ []) (Look count ∷ []) (by_bool last (Look 0 ∷ Done ∷ []) (Look 0 ∷ []) tt tt) tt

pub marks_none : (config : EndConfig) (place : Place) (value : ℕ) → ((pending : PendingOffer) → place ≢ WritingAvailIndex pending) → AcceptsNone (marks_at config place value)
marks_none config (ReadingOtherState handshake) value ne = tick_none value (move_of handshake value)
marks_none config (ReadingUsedIndex pending freed) value ne = let d = returned_by freed value in by_bool (is_used_index (freed % 65536) (high_half value) (pending.number - freed)) (reclaim_marks config pending freed d) (refusal field_name.UsedIndex (high_half value)) (reclaim_none config pending freed d) tt
marks_none config (ReadingUsedId pending freed more) value ne = by_bool (is_used_id (descriptor_of config freed) value) (if more == 0 then full_marks config pending (freed + 1) else []) (refusal field_name.UsedId value) (by_bool (more == 0) (full_marks config pending (freed + 1)) [] (full_none config pending (freed + 1)) tt) tt
marks_none config (WritingAvailIndex pending) value ne = absurd (ne pending refl)
marks_none config (ReadingAvailEvent number) value ne = by_bool (wants_doorbell (low_half value) number) [] (Over ∷ []) tt tt
marks_none config (ReadingAvailIndex taken last) value ne = let d = published_by taken value in by_bool (is_avail_index config.sizes (taken % 65536) (high_half value)) (look_marks last d) (refusal field_name.AvailIndex (high_half value)) (look_none last d) tt
marks_none config (ReadingAvailEntry number more) value ne = let e = entry_in config number value in by_bool (is_avail_entry config.sizes e) [] (refusal field_name.AvailEntry e) tt tt
marks_none config (ReadingDescAddressHigh number more entry low) value ne = let x = address_of low value in by_bool (is_desc_address config.sizes x) [] (refusal field_name.DescAddress x) tt tt
marks_none config (ReadingDescLength number more entry address) value ne = by_bool (is_desc_length config.sizes address value) [] (refusal field_name.DescLength value) tt tt
marks_none config (ReadingDescFlags number more entry address bytes) value ne = by_bool (is_desc_flags (desc_flags value)) [] (refusal field_name.DescFlags (desc_flags value)) tt tt
marks_none config (ReadingFrameWord number more entry address bytes read words) value ne = by_bool (words == 0) (Deliver (frame_in bytes (read ++ value ∷ [])) ∷ []) [] tt tt
marks_none config place value ne = tt

-- A State step of 2 empties the list of accepted frames, and no other access does.
stated_most : (end : End) (a : Access) → length (with_access end a).accepted ≤ length end.accepted
stated_most end (access.Read word) = omega arith
stated_most end (access.Write word value) = omega arith
stated_most end (access.Ring target vector) = omega arith
stated_most end access.Nothing = omega arith
stated_most end (access.State state) = emptied (state == 2) end.accepted
  where
    emptied : (b : Bool) (frames : List (List ℕ)) → length (if b then [] else frames) ≤ length frames
    emptied true frames = omega arith
    emptied false frames = omega arith

accepted_most : (config : EndConfig) (end : End) (place : Place) (value : ℕ) → ((pending : PendingOffer) → place ≢ WritingAvailIndex pending) → length (end_after end (step_at config place value)).accepted ≤ length end.accepted
accepted_most config end place value ne = let most = stated_most end (access_at config place) in let same = ap length (noted_same (with_access end (access_at config place)) (marks_at config place value) (marks_none config place value ne)) in omega arith

-- Events

-- An avail_event of frame k's number wants a doorbell for frame k.
pub asks_there : (k : ℕ) → wants_doorbell (k % 65536) k ≡ true
asks_there k = grind (arith, nat_tests)

-- A step of an end that doesn't write its avail_event.
pub event_stays : (link_config : LinkConfig) (is : IsLinkConfig link_config) (p : ℕ) (p2 : p < 2) (memory after : ℕ → ℕ) (end : End) (place : Place) → ¬ WritesEvent place → MemoryAfter p memory (access_at (config_of link_config p) place) after → PlaceInvariant link_config memory p end place →
    fields link_config after p field.AvailEvent ≡ fields link_config memory p field.AvailEvent
event_stays link_config is p p2 memory after end place quiet left h = by_place place quiet left h
  where
    stored : (n : ℕ) → MemoryAfter p memory (access.State n) after → fields link_config after p field.AvailEvent ≡ fields link_config memory p field.AvailEvent
    stored n left = fields_same link_config memory after p is (λ j lt. left.neighbour_word (section_of link_config p + j) (λ e. let first = is.first in omega arith)) field.AvailEvent

    by_place : (place : Place) → ¬ WritesEvent place → MemoryAfter p memory (access_at (config_of link_config p) place) after → PlaceInvariant link_config memory p end place → fields link_config after p field.AvailEvent ≡ fields link_config memory p field.AvailEvent
    by_place (Clearing at more state) quiet left h = absurd (quiet tt)
    by_place (WritingAvailEvent taken) quiet left h = absurd (quiet tt)
    by_place (WritingState state) quiet left h = stored state left
    by_place Refusing quiet left h = stored 0 left
    by_place (WritingFrameWord pending at more) quiet left h = (place_puts link_config is p p2 memory after end (WritingFrameWord pending at more) left h).neighbour_word field.AvailEvent (λ e. cc)
    by_place (WritingDescAddressLow pending) quiet left h = (place_puts link_config is p p2 memory after end (WritingDescAddressLow pending) left h).neighbour_word field.AvailEvent (λ e. cc)
    by_place (WritingDescAddressHigh pending) quiet left h = (place_puts link_config is p p2 memory after end (WritingDescAddressHigh pending) left h).neighbour_word field.AvailEvent (λ e. cc)
    by_place (WritingDescLength pending) quiet left h = (place_puts link_config is p p2 memory after end (WritingDescLength pending) left h).neighbour_word field.AvailEvent (λ e. cc)
    by_place (WritingDescFlags pending) quiet left h = (place_puts link_config is p p2 memory after end (WritingDescFlags pending) left h).neighbour_word field.AvailEvent (λ e. cc)
    by_place (WritingAvailEntry pending) quiet left h = (place_puts link_config is p p2 memory after end (WritingAvailEntry pending) left h).neighbour_word field.AvailEvent (λ e. cc)
    by_place (WritingAvailIndex pending) quiet left h = (place_puts link_config is p p2 memory after end (WritingAvailIndex pending) left h).neighbour_word field.AvailEvent (λ e. cc)
    by_place (WritingUsedId number more entry) quiet left h = (place_puts link_config is p p2 memory after end (WritingUsedId number more entry) left h).neighbour_word field.AvailEvent (λ e. cc)
    by_place (WritingUsedLength number more) quiet left h = (place_puts link_config is p p2 memory after end (WritingUsedLength number more) left h).neighbour_word field.AvailEvent (λ e. cc)
    by_place (WritingUsedIndex number more) quiet left h = (place_puts link_config is p p2 memory after end (WritingUsedIndex number more) left h).neighbour_word field.AvailEvent (λ e. cc)
    by_place place quiet left h = ap (λ (m : ℕ → ℕ). fields link_config m p field.AvailEvent) left

-- The other's step

-- Frame k is still ahead after the step of the other, or the doorbell is next.
abbrev Ahead : End → Place → ℕ → Type 0
Ahead end place k = (length end.accepted ≤ k) ⊎ (place ≡ ReadingAvailEvent k)

module _ (link_config : LinkConfig) (is : IsLinkConfig link_config) (q : ℕ) (memory : ℕ → ℕ) (end : End) (k : ℕ) (event : EventIndexIs link_config memory (1 - q) k) where
  abbrev LeavesAhead : Place → ℕ → Type 0
  LeavesAhead place value = Ahead (end_after end (step_at (config_of link_config q) place value)) (next_place (config_of link_config q) place value) k ⊎ (next_place (config_of link_config q) place value ≡ RingingOffer)

  -- The step that writes the available index.
  published : (pending : PendingOffer) (value : ℕ) → PlaceInvariant link_config memory q end (WritingAvailIndex pending) → Ahead end (WritingAvailIndex pending) k → LeavesAhead (WritingAvailIndex pending) value
  published pending value h (inr e) = absurd (cc)
  published pending value h (inl few) = let number = h.1 in let n = length-append end.accepted (pending.frame ∷ []) in dite (ℕ_discrete pending.number k)
      (λ e. side_event (has_events link_config.sizes) e)
      (λ ne. inl (inl (omega arith)))
    where
      side_event : (b : Bool) → pending.number ≡ k → Ahead (end_after end (step_at (config_of link_config q) (WritingAvailIndex pending) value)) (if b then ReadingAvailEvent pending.number else RingingOffer) k ⊎ ((if b then ReadingAvailEvent pending.number else RingingOffer) ≡ RingingOffer)
      side_event true e = inl (inr (ap ReadingAvailEvent e))
      side_event false e = inr refl

  -- The read of avail_event.
  event_read_leaves : (number value : ℕ) → value ≡ memory (section_of link_config (1 - q) + word_offset link_config.sizes AvailEvent) → Ahead end (ReadingAvailEvent number) k → LeavesAhead (ReadingAvailEvent number) value
  event_read_leaves number value met (inl few) = let most = accepted_most (config_of link_config q) end (ReadingAvailEvent number) value (λ pending e. cc) in inl (inl (omega arith))
  event_read_leaves number value met (inr e) = let same : number ≡ k = number_is e in
      let low : low_half value ≡ k % 65536 = field_read link_config memory (1 - q) field.AvailEvent value refl met ∙ event in
      let asks : wants_doorbell (low_half value) number ≡ true = ap (λ n. wants_doorbell n number) low ∙ (ap (wants_doorbell (k % 65536)) same ∙ asks_there k) in
      inr (yes_place (wants_doorbell (low_half value) number) asks)
    where
      number_is : {m n : ℕ} → ReadingAvailEvent m ≡ ReadingAvailEvent n → m ≡ n
      number_is e = cc

      yes_place : (b : Bool) → b ≡ true → (if b then RingingOffer else Closed) ≡ RingingOffer
      yes_place true e = refl
      yes_place false e = absurd (cc)

  -- Any other step.
  passes : (place : Place) (value : ℕ) → ((pending : PendingOffer) → place ≢ WritingAvailIndex pending) → ((number : ℕ) → place ≢ ReadingAvailEvent number) → Ahead end place k → LeavesAhead place value
  passes place value ne apart (inl few) = let most = accepted_most (config_of link_config q) end place value ne in inl (inl (omega arith))
  passes place value ne apart (inr e) = absurd (apart k e)

  leaves_ahead : (place : Place) (value : ℕ) → PlaceInvariant link_config memory q end place → ReadsMemory memory (access_at (config_of link_config q) place) value → Ahead end place k → LeavesAhead place value
  leaves_ahead (WritingAvailIndex pending) value h met ahead = published pending value h ahead
  leaves_ahead (ReadingAvailEvent number) value h met ahead = event_read_leaves number value met ahead
  leaves_ahead place value h met ahead = passes place value (λ pending e. cc) (λ number e. cc) ahead

-- The rule

write_sets_event : (link_config : LinkConfig) (memory after : ℕ → ℕ) (ends next : ℕ → End) (places goes : ℕ → Place) (p taken value : ℕ) → IsLinkConfig link_config → p < 2 → Pair link_config memory ends places → TakesStep link_config memory after ends next places goes p value → places p ≡ WritingAvailEvent taken → EventIndexIs link_config after p taken
write_sets_event link_config memory after ends next places goes p taken value is p2 m step at =
    (place_puts link_config is p p2 memory after (ends p) (WritingAvailEvent taken) (subst (λ x. MemoryAfter p memory (access_at (config_of link_config p) x) after) at step.leaves) (subst (PlaceInvariant link_config memory p (ends p)) at (m.alone p p2).holds)).here

read_asks : (link_config : LinkConfig) (memory : ℕ → ℕ) (ends : ℕ → End) (places : ℕ → Place) (p taken value : ℕ) (last : Bool) → IsLinkConfig link_config → p < 2 → Pair link_config memory ends places → places p ≡ ReadingAvailIndex taken last → ReadsMemory memory (access_at (config_of link_config p) (places p)) value → published_by taken value ≡ 0 → EventIndexIs link_config memory p taken → Asks link_config memory ends places p taken
read_asks link_config memory ends places p taken value last is p2 m at met none event =
    let b = subst (λ x. Before link_config memory p (ends p) x (ends (1 - p)) (places (1 - p))) at (before link_config memory ends places p p2 m) in
    let exact = published_is link_config is p memory (ends p) (ends (1 - p)) (places (1 - p)) b.mark taken last value (subst (λ x. ReadsMemory memory (access_at (config_of link_config p) x) value) at met) b.opposite b.mine (b.faces (inl (inl b.mine.holds.0))) in
    record { event = event; ahead = inl (omega arith) }

own_step_keeps_asking : (link_config : LinkConfig) (memory after : ℕ → ℕ) (ends next : ℕ → End) (places goes : ℕ → Place) (p k value : ℕ) → IsLinkConfig link_config → p < 2 → Pair link_config memory ends places → TakesStep link_config memory after ends next places goes p value → ¬ WritesEvent (places p) → Asks link_config memory ends places p k → Asks link_config after next goes p k
own_step_keeps_asking link_config memory after ends next places goes p k value is p2 m step quiet asks = let ne : 1 - p ≢ p = λ e. omega arith in record {
  event = event_stays link_config is p p2 memory after (ends p) (places p) quiet step.leaves (m.alone p p2).holds ∙ asks.event;
  ahead = subst (λ (e : End). Ahead e (goes (1 - p)) k) (sym (step.comes.ends_stay (1 - p) ne)) (subst (λ (x : Place). Ahead (ends (1 - p)) x k) (sym (step.comes.places_stay (1 - p) ne)) asks.ahead);
}

other_step_keeps_or_rings : (link_config : LinkConfig) (memory after : ℕ → ℕ) (ends next : ℕ → End) (places goes : ℕ → Place) (p k value : ℕ) → IsLinkConfig link_config → p < 2 → Pair link_config memory ends places → TakesStep link_config memory after ends next places goes (1 - p) value → Asks link_config memory ends places p k → Asks link_config after next goes p k ⊎ (goes (1 - p) ≡ RingingOffer)
other_step_keeps_or_rings link_config memory after ends next places goes p k value is p2 m step asks = let q = 1 - p in let q2 : q < 2 = omega arith in let back : 1 - q ≡ p = omega arith in let a = m.alone q q2 in
    let keep : IsUntouched link_config memory after p = subst (IsUntouched link_config memory after) back (untouched link_config is q q2 memory after (ends q) (places q) a step.leaves) in
    let event : EventIndexIs link_config after p k = fields_same link_config memory after p is keep.section field.AvailEvent ∙ asks.event in
    stepped event (leaves_ahead link_config is q memory (ends q) k (subst (λ r. EventIndexIs link_config memory r k) (sym back) asks.event) (places q) value a.holds step.meets asks.ahead)
  where
    stepped : EventIndexIs link_config after p k → Ahead (end_after (ends (1 - p)) (step_at (config_of link_config (1 - p)) (places (1 - p)) value)) (next_place (config_of link_config (1 - p)) (places (1 - p)) value) k ⊎ (next_place (config_of link_config (1 - p)) (places (1 - p)) value ≡ RingingOffer) →
        Asks link_config after next goes p k ⊎ (goes (1 - p) ≡ RingingOffer)
    stepped event (inl ahead) = inl record { event = event; ahead = subst (λ (e : End). Ahead e (goes (1 - p)) k) (sym step.comes.end_is) (subst (λ (x : Place). Ahead (end_after (ends (1 - p)) (step_at (config_of link_config (1 - p)) (places (1 - p)) value)) x k) (sym step.comes.place_is) ahead) }
    stepped event (inr rings) = inr (step.comes.place_is ∙ rings)

pub asked_doorbell_is_rung : AskedDoorbellIsRung
asked_doorbell_is_rung = record { arms = write_sets_event; looks = read_asks; stays = own_step_keeps_asking; others = other_step_keeps_or_rings }
