-- Each step of an honest end satisfies rows of the link machine.
use Rattle.std.proofs.Common.{◌≡◌, ◌≢◌, ℕ, zero, suc, ◌+◌, ◌-◌, ◌/◌, ◌%◌, ◌<◌, ◌≤◌, ◌⊎◌, inl, inr, ⊎_elim, ne_eqb, Bool, true, false, List, [], ◌∷◌, ◌++◌, length, length-append, refl, sym, ap, ◌∙◌, subst, arith}
use mathlib.Core.Logic.{dite}
use native.Mathlib.Decide.{ℕ_discrete}
use Rattle.std.specs.Prelude.{◌==◌, nat_le, if◌then◌else◌, Some, None, map, slice_get, get_or}
use Rattle.std.proofs.lemmas.Bool.Decides.{nat_tests}
use Rattle.std.proofs.lemmas.Option.{slice_get-get_or}
use Rattle.split_ring.specs.declared.ranges.FieldName.{FieldName}
use Rattle.split_ring.specs.declared.ranges.FieldName.TheVariants as field_name
use Rattle.split_ring.specs.Layout.{has_events, size_of, limit_of, word_offset, AvailIndex, UsedIndex}
use Rattle.split_ring.specs.Frames.{has_room}
use Rattle.link_invariant.specs.Fields.{Field}
use Rattle.split_ring.specs.Ranges.{IsDescAddress, IsDescLength, is_avail_entry, is_desc_address, is_desc_length, is_desc_flags, is_avail_index, is_used_index}
use Rattle.call_grammar.proofs.OfferLists.{no}
use Rattle.split_ring.specs.Spelling.{high_half, low_half, entry_half, desc_flags}
use Rattle.split_ring.proofs.TestsDecideRanges.{address_denies, length_denies}
use Rattle.link_handshake.specs.declared.Phase.{Phase}
use Rattle.link_handshake.specs.declared.Phase.TheVariants.{Reset, Init, Ready, Run}
use Rattle.link_handshake.specs.PhaseTable.{state_of}
use Rattle.link_handshake.specs.HandshakeState.{move_of}
use Rattle.call_grammar.specs.Steps.{Mark, Deliver, Over}
use Rattle.call_grammar.specs.Ends.{End, with_marks, end_after}
use Rattle.call_grammar.specs.Words.{words_for, lengths_of, frame_in, address_of}
use Rattle.call_grammar.specs.Offers.{PendingOffer, refusal, full_marks, returned_by, reclaim_marks, wants_doorbell}
use Rattle.call_grammar.specs.Polls.{published_by, look_marks}
use Rattle.call_grammar.specs.Places.{Place, Closed, ReadingOtherState, Clearing, WritingState, Refusing, NotInRun, ReadingUsedIndex, ReadingUsedId, WritingFrameWord, WritingDescAddressLow, WritingDescAddressHigh, WritingDescLength, WritingDescFlags, WritingAvailEntry, WritingAvailIndex, ReadingAvailEvent, RingingOffer, ReadingAvailIndex, WritingAvailEvent, ReadingAvailEntry, ReadingDescAddressLow, ReadingDescAddressHigh, ReadingDescLength, ReadingDescFlags, ReadingFrameWord, WritingUsedId, WritingUsedLength, WritingUsedIndex, RingingPoll, ids_place, none_place, items_place, words_place, access_at, next_place, step_at, is_open}
use Rattle.link_machine.specs.LinkMachine.{Side, Gave, Marked, IsBeyond, MayReclaim, MayLook, MayDeliver}
use Rattle.call_grammar.proofs.CallsMeetBounds.{frame_length}
use Rattle.link_invariant.specs.LinkConfig.{LinkConfig, IsLinkConfig, section_of, config_of}
use Rattle.link_invariant.specs.Steps.{ReadsMemory, MemoryAfter}
use Rattle.link_invariant.proofs.StateRows.{Follows, Same, same_of, side_is, silent, with_read, anew, same_with_read, same_anew, wrote, read_rows, clear_call, saw, wrote_state}
use Rattle.link_invariant.proofs.MarkRows.{IsNextOf, refused_row, fill_call, reclaim_rows, id_rows, items_call, words_call, look_rows, moves_set, moves_clear, begin_follows}
use Rattle.link_invariant.specs.EndInvariant.{IsNext, EndInvariant}
use Rattle.link_invariant.specs.Sides.{side_events_by, SawFor, CallIs, SideIs, StepsFollowRows}
use Rattle.link_invariant.proofs.EndObligations.{by_test, opened}
use Rattle.link_invariant.proofs.EndInvariantKept.{alone_kept}
use Rattle.link_invariant.proofs.PairObligations.{Before}
use Rattle.link_invariant.proofs.OffersOfPair.{returned_is}
use Rattle.link_invariant.proofs.PollsOfPair.{published_is, frame_is}
use Rattle.link_invariant.proofs.PairKept.{leads, before}

-- A read by its test: valid, or refused against a hostile other alone.
tested : (link_config : LinkConfig) (other_honest : Bool) (other side : Side) (end : End) (x : Place) (b : Bool) (m : List Mark) (f : FieldName) (v : ℕ) → (other_honest ≡ true → (if b then x else Refusing) ≢ Refusing) → Same end side → side.state ≡ 3 →
    (b ≡ true → Follows link_config other_honest other side (map Marked m) (with_marks end m) x) → (b ≡ false → IsBeyond link_config.sizes side f v) → Follows link_config other_honest other side (map Marked (if b then m else refusal f v)) (with_marks end (if b then m else refusal f v)) (if b then x else Refusing)
tested link_config other_honest other side end x true m f v calm same run good beyond = good refl
tested link_config true other side end x false m f v calm same run good beyond = absurd (calm refl refl)
tested link_config false other side end x false m f v calm same run good beyond = refused_row link_config other side end f v same run (beyond refl)

-- One more value is read.
read_on : (values : List ℕ) (value : ℕ) (read : List ℕ) → read ≡ values → read ++ value ∷ [] ≡ values ++ value ∷ []
read_on values value read e = ap (λ (l : List ℕ). l ++ value ∷ []) e

entry_beyond : (n e : ℕ) → nat_le (suc e) n ≡ false → e < n → ⊥
entry_beyond n e test lt = grind (arith, nat_tests)

-- The pending offer of an end is of the next frame of its side.
next_of : {link_config : LinkConfig} {field : Field → ℕ} {accepted of_side : List (List ℕ)} {pending : PendingOffer} → of_side ≡ accepted → IsNext link_config field accepted pending → IsNextOf link_config of_side pending
next_of {link_config} {field} {accepted} {of_side} {pending} same next = record {
  frame = next.frame;
  number = next.number ∙ sym (ap length same);
  lengths = next.lengths ∙ sym (ap (λ (l : List (List ℕ)). lengths_of (l ++ pending.frame ∷ [])) same);
}

module _ (link_config : LinkConfig) (is : IsLinkConfig link_config) (p : ℕ) (p2 : p < 2) (memory : ℕ → ℕ) (other_honest : Bool) (other side : Side) (end u : End) (w : Place) where
  -- The hypotheses about an honest other.
  record Other (place : Place) : Type 0 where
    pub all : Before link_config memory p end place u w
    pub refines : SideIs u w other

  abbrev Goes : Place → ℕ → Type 0
  Goes place value = Follows link_config other_honest other side (side_events_by (step_at (config_of link_config p) place value)) (end_after end (step_at (config_of link_config p) place value)) (next_place (config_of link_config p) place value)

  in_run : (place : Place) → SideIs end place side → end.handshake.phase ≡ Run → side.state ≡ 3
  in_run place si run = si.state ∙ ap state_of run

  calm : (place : Place) (value : ℕ) → is_open place ≡ true → place ≢ Refusing → ReadsMemory memory (access_at (config_of link_config p) place) value → MemoryAfter p memory (access_at (config_of link_config p) place) memory → EndInvariant link_config memory p end place → (other_honest ≡ true → Other place) → other_honest ≡ true → next_place (config_of link_config p) place value ≢ Refusing
  calm place value open_ ne met left a known t = (leads link_config is p p2 memory end u w memory place value open_ ne met left (alone_kept.steps link_config p memory memory end place value is p2 open_ left a) (known t).all).sound.1

  -- A read by its test, in RUN.
  judged : (place : Place) (value : ℕ) (x : Place) (b : Bool) (m : List Mark) (f : FieldName) (v : ℕ) → (other_honest ≡ true → (if b then x else Refusing) ≢ Refusing) → SideIs end place side → end.handshake.phase ≡ Run → (b ≡ true → Follows link_config other_honest other (with_read side value) (map Marked m) (with_marks end m) x) →
      (b ≡ false → IsBeyond link_config.sizes (with_read side value) f v) → Follows link_config other_honest other side (Gave value ∷ map Marked (if b then m else refusal f v)) (with_marks end (if b then m else refusal f v)) (if b then x else Refusing)
  judged place value x b m f v quiet si run good beyond = read_rows link_config other_honest other side _ value (tested link_config other_honest other (with_read side value) end x b m f v quiet (same_with_read value (same_of si)) (in_run place si run) good beyond)

  reclaims : (pending : PendingOffer) (freed value : ℕ) → value ≡ memory (section_of link_config (1 - p) + word_offset link_config.sizes UsedIndex) → EndInvariant link_config memory p end (ReadingUsedIndex pending freed) → (other_honest ≡ true → Other (ReadingUsedIndex pending freed)) → SideIs end (ReadingUsedIndex pending freed) side → Goes (ReadingUsedIndex pending freed) value
  reclaims pending freed value met a known si = let h = a.holds in let d = returned_by freed value in let run = in_run (ReadingUsedIndex pending freed) si h.0 in let number = h.1.number in let count = ap length si.accepted in let read = read_on [] value side.read si.call in
      let freed_is : side.freed ≡ freed = si.freed ∙ sym h.2 in
      judged (ReadingUsedIndex pending freed) value (ids_place (config_of link_config p) pending freed d) (is_used_index (freed % 65536) (high_half value) (pending.number - freed)) (reclaim_marks (config_of link_config p) pending freed d) field_name.UsedIndex (high_half value) (calm (ReadingUsedIndex pending freed) value refl (λ e. cc) met refl a known) si h.0
      (λ test. reclaim_rows link_config other_honest other (with_read side value) end (config_of link_config p) pending freed d (has_room link_config.sizes pending.lengths freed pending.number) refl (same_with_read value (same_of si)) run (value, read, ap (λ k. (high_half value + 65536 - k % 65536) % 65536) (sym freed_is)) (may other_honest known (grind (arith, nat_tests))) (next_of si.accepted h.1) (let room = a.room in let same = h.2 in omega arith) freed_is)
      (λ test. (value, read, refl, λ within. let beyond : pending.number - freed < d = grind (arith, nat_tests) in let near : d ≤ length side.accepted - side.freed = subst (λ k. (high_half value + 65536 - k % 65536) % 65536 ≤ length side.accepted - side.freed) freed_is within in omega arith))
    where
      may : (b : Bool) → (b ≡ true → Other (ReadingUsedIndex pending freed)) → returned_by freed value ≤ pending.number - freed → MayReclaim b (with_read side value) other (returned_by freed value)
      may true known within = let o = known refl in let fact = (returned_is link_config is p memory end u w o.all.mark pending freed value met a (o.all.faces (inl (inl a.holds.0)))).0 in let f = si.freed in let r = o.refines.returned in omega arith
      may false known within = let f = si.freed in let low = a.freed in let number = a.holds.1.number in let same = a.holds.2 in let count = ap length si.accepted in omega arith

  frees : (pending : PendingOffer) (freed more value : ℕ) → ReadsMemory memory (access_at (config_of link_config p) (ReadingUsedId pending freed more)) value → EndInvariant link_config memory p end (ReadingUsedId pending freed more) → (other_honest ≡ true → Other (ReadingUsedId pending freed more)) → SideIs end (ReadingUsedId pending freed more) side → Goes (ReadingUsedId pending freed more) value
  frees pending freed more value met a known si = let h = a.holds in let run = in_run (ReadingUsedId pending freed more) si h.0 in let number = h.1.number in let all = h.2 in let count = ap length si.accepted in let f = si.freed in let n = length-append side.read (value ∷ []) in let r = si.call.0 in let l = si.call.1 in
      judged (ReadingUsedId pending freed more) value (ids_place (config_of link_config p) pending (freed + 1) more) (value == freed % limit_of link_config.sizes) (if more == 0 then full_marks (config_of link_config p) pending (freed + 1) else []) field_name.UsedId value (calm (ReadingUsedId pending freed more) value refl (λ e. cc) met refl a known) si h.0
      (λ test. id_rows link_config other_honest other (with_read side value) end p pending freed more (same_with_read value (same_of si)) run (next_of si.accepted h.1) (let room = h.3 in omega arith) (omega arith) (omega arith) (omega arith))
      (λ test. (side.read, refl, omega arith, λ e. let same : side.freed - side.reclaimed + length side.read ≡ freed = omega arith in let good : value ≡ freed % limit_of link_config.sizes = e ∙ ap (λ k. k % limit_of link_config.sizes) same in grind (arith, nat_tests)))

  looks : (taken : ℕ) (last : Bool) (value : ℕ) → value ≡ memory (section_of link_config (1 - p) + word_offset link_config.sizes AvailIndex) → EndInvariant link_config memory p end (ReadingAvailIndex taken last) → (other_honest ≡ true → Other (ReadingAvailIndex taken last)) → SideIs end (ReadingAvailIndex taken last) side → Goes (ReadingAvailIndex taken last) value
  looks taken last value met a known si = let h = a.holds in let d = published_by taken value in let run = in_run (ReadingAvailIndex taken last) si h.0 in let read = read_on [] value side.read si.call in
      let taken_is : length side.delivered ≡ taken = ap length si.delivered ∙ sym h.1 in
      judged (ReadingAvailIndex taken last) value (if d == 0 then none_place taken last else items_place taken d) (is_avail_index link_config.sizes (taken % 65536) (high_half value)) (look_marks last d) field_name.AvailIndex (high_half value) (calm (ReadingAvailIndex taken last) value refl (λ e. cc) met refl a known) si h.0
      (λ test. look_rows link_config other_honest other (with_read side value) end taken last d (same_with_read value (same_of si)) run (value, read, ap (λ k. (high_half value + 65536 - k % 65536) % 65536) (sym taken_is)) (may other_honest known (grind (arith, nat_tests))))
      (λ test. (value, read, refl, λ within. let beyond : size_of link_config.sizes < d = grind (arith, nat_tests) in let near : d ≤ size_of link_config.sizes = subst (λ k. (high_half value + 65536 - k % 65536) % 65536 ≤ size_of link_config.sizes) taken_is within in omega arith))
    where
      may : (b : Bool) → (b ≡ true → Other (ReadingAvailIndex taken last)) → published_by taken value ≤ size_of link_config.sizes → MayLook link_config.sizes b (with_read side value) other (published_by taken value)
      may true known few = let o = known refl in let fact = published_is link_config is p memory end u w o.all.mark taken last value met o.all.opposite a (o.all.faces (inl (inl a.holds.0))) in let same = a.holds.1 in let mine = ap length si.delivered in let all = ap length o.refines.accepted in omega arith
      may false known few = few

  enters : (number more value : ℕ) → ReadsMemory memory (access_at (config_of link_config p) (ReadingAvailEntry number more)) value → EndInvariant link_config memory p end (ReadingAvailEntry number more) → (other_honest ≡ true → Other (ReadingAvailEntry number more)) → SideIs end (ReadingAvailEntry number more) side → Goes (ReadingAvailEntry number more) value
  enters number more value met a known si = let e = entry_half (number % size_of link_config.sizes) value in let read = read_on [] value side.read si.call.1 in
      let number_is : number ≡ length side.delivered = a.holds.1 ∙ sym (ap length si.delivered) in
      judged (ReadingAvailEntry number more) value (ReadingDescAddressLow number more e) (is_avail_entry link_config.sizes e) [] field_name.AvailEntry e (calm (ReadingAvailEntry number more) value refl (λ e. cc) met refl a known) si a.holds.0
      (λ test. silent link_config other_honest other (with_read side value) (same_with_read value (same_of si)) (si.call.0, (value, read)))
      (λ test. (value, read, ap (λ k. entry_half (k % size_of link_config.sizes) value) number_is, entry_beyond (size_of link_config.sizes) e test))

  addresses : (number more e lo value : ℕ) → ReadsMemory memory (access_at (config_of link_config p) (ReadingDescAddressHigh number more e lo)) value → EndInvariant link_config memory p end (ReadingDescAddressHigh number more e lo) → (other_honest ≡ true → Other (ReadingDescAddressHigh number more e lo)) → SideIs end (ReadingDescAddressHigh number more e lo) side → Goes (ReadingDescAddressHigh number more e lo) value
  addresses number more e lo value met a known si = let x = address_of lo value in let word = si.call.1.0 in let read = read_on (word ∷ lo ∷ []) value side.read si.call.1.1 in
      judged (ReadingDescAddressHigh number more e lo) value (ReadingDescLength number more e x) (is_desc_address link_config.sizes x) [] field_name.DescAddress x (calm (ReadingDescAddressHigh number more e lo) value refl (λ e. cc) met refl a known) si a.holds.0
      (λ test. silent link_config other_honest other (with_read side value) (same_with_read value (same_of si)) (si.call.0, (word, lo, value, read, refl)))
      (λ test. (word, lo, value, read, refl, address_denies link_config.sizes x test))

  measures : (number more e x value : ℕ) → ReadsMemory memory (access_at (config_of link_config p) (ReadingDescLength number more e x)) value → EndInvariant link_config memory p end (ReadingDescLength number more e x) → (other_honest ≡ true → Other (ReadingDescLength number more e x)) → SideIs end (ReadingDescLength number more e x) side → Goes (ReadingDescLength number more e x) value
  measures number more e x value met a known si = let c = si.call.1 in let read = read_on (c.0 ∷ c.1 ∷ c.2 ∷ []) value side.read c.3 in
      judged (ReadingDescLength number more e x) value (ReadingDescFlags number more e x value) (is_desc_length link_config.sizes x value) [] field_name.DescLength value (calm (ReadingDescLength number more e x) value refl (λ e. cc) met refl a known) si a.holds.0
      (λ test. silent link_config other_honest other (with_read side value) (same_with_read value (same_of si)) (si.call.0, (c.0, c.1, c.2, read)))
      (λ test. (c.0, c.1, c.2, read, subst (IsDescAddress link_config.sizes) c.4 a.holds.3, subst (λ k. ¬ IsDescLength link_config.sizes k value) c.4 (length_denies link_config.sizes x value test)))

  flags : (number more e x l value : ℕ) → ReadsMemory memory (access_at (config_of link_config p) (ReadingDescFlags number more e x l)) value → EndInvariant link_config memory p end (ReadingDescFlags number more e x l) → (other_honest ≡ true → Other (ReadingDescFlags number more e x l)) → SideIs end (ReadingDescFlags number more e x l) side → Goes (ReadingDescFlags number more e x l) value
  flags number more e x l value met a known si = let c = si.call.1 in let read = read_on (c.0 ∷ c.1 ∷ c.2 ∷ l ∷ []) value side.read c.3 in let least = a.holds.4.0 in
      judged (ReadingDescFlags number more e x l) value (words_place number more e x l [] (words_for l)) (is_desc_flags (desc_flags value)) [] field_name.DescFlags (desc_flags value) (calm (ReadingDescFlags number more e x l) value refl (λ e. cc) met refl a known) si a.holds.0
      (λ test. silent link_config other_honest other (with_read side value) (same_with_read value (same_of si)) (words_call end number more e x l (words_for l) (with_read side value) (omega arith) si.call.0))
      (λ test. (c.0, c.1, c.2, l, value, read, refl, λ none. grind (arith, nat_tests)))

  delivers : (number more entry address bytes : ℕ) (read : List ℕ) (words value : ℕ) → value ≡ memory (section_of link_config (1 - p) + (address / 4 + length read)) → EndInvariant link_config memory p end (ReadingFrameWord number more entry address bytes read words) → (other_honest ≡ true → Other (ReadingFrameWord number more entry address bytes read words)) →
      SideIs end (ReadingFrameWord number more entry address bytes read words) side → Goes (ReadingFrameWord number more entry address bytes read words) value
  delivers number more entry address bytes read (suc words) value met a known si = let frame = frame_in bytes (read ++ value ∷ []) in
      read_rows link_config other_honest other side _ value (subst (λ (m : List Mark). Follows link_config other_honest other (with_read side value) (map Marked m) (with_marks end m) (ReadingFrameWord number more entry address bytes (read ++ value ∷ []) words)) (sym (no (suc words == 0) (Deliver frame ∷ []) [] (ne_eqb (suc words) 0 (λ e. omega arith))))
      (silent link_config other_honest other (with_read side value) (same_with_read value (same_of si)) si.call))
  delivers number more entry address bytes read zero value met a known si = let h = a.holds in let frame = frame_in bytes (read ++ value ∷ []) in let run = in_run (ReadingFrameWord number more entry address bytes read zero) si h.0 in
      let new = record side { delivered = side.delivered ++ frame ∷ []; read = [] } in let k = si.call in let d = ap length si.delivered in let n = length-append end.delivered (frame ∷ []) in
      read_rows link_config other_honest other side (Marked (Deliver frame) ∷ []) value (
        new,
        (new, (refl, (run, omega arith, may other_honest known, refl)), refl),
        record {
          state = si.state;
          refused = si.refused;
          accepted = si.accepted;
          delivered = ap (λ (d : List (List ℕ)). d ++ frame ∷ []) si.delivered;
          returned = si.returned;
          freed = si.freed;
          call = (omega arith, refl);
        },
      )
    where
      may : (b : Bool) → (b ≡ true → Other (ReadingFrameWord number more entry address bytes read zero)) → MayDeliver b (with_read side value) other (frame_in bytes (read ++ value ∷ []))
      may true known = let o = known refl in let f = o.all.faces (inl (inl a.holds.0)) in let up = f.takes.polls.0 in let same = a.holds.1 in let mine : length side.delivered ≡ number = ap length si.delivered ∙ sym a.holds.1 in let all = ap length o.refines.accepted in
          ap (slice_get other.accepted) mine ∙ (slice_get-get_or other.accepted number [] (omega arith) ∙ ap Some (ap (λ (l : List (List ℕ)). get_or l number []) o.refines.accepted ∙ sym (frame_is link_config is p memory end u w o.all.mark number more entry address bytes read value met a f)))
      may false known = let h = a.holds in let all = h.5 in let low = h.4.0 in let high = h.4.1 in let size = frame_length bytes (read ++ value ∷ []) (let n = length-append read (value ∷ []) in omega arith) in (omega arith, omega arith)

  accepts : (pending : PendingOffer) (value : ℕ) → EndInvariant link_config memory p end (WritingAvailIndex pending) → SideIs end (WritingAvailIndex pending) side → Goes (WritingAvailIndex pending) value
  accepts pending value a si = let h = a.holds in let new = record side { accepted = side.accepted ++ pending.frame ∷ []; read = [] } in let f = si.freed in let count = ap length si.accepted in let number = h.1 in (
    new,
    (new, (refl, (in_run (WritingAvailIndex pending) si h.0, room, refl)), refl),
    record { state = si.state; refused = si.refused; accepted = ap (λ (l : List (List ℕ)). l ++ pending.frame ∷ []) si.accepted; delivered = si.delivered; returned = si.returned; freed = si.freed; call = by_bool (has_events link_config.sizes) },
  )
    where
      now : End
      now = end_after end (step_at (config_of link_config p) (WritingAvailIndex pending) value)

      room : has_room link_config.sizes (lengths_of (side.accepted ++ pending.frame ∷ [])) side.freed (length side.accepted) ≡ true
      room = ap (λ (l : List (List ℕ)). has_room link_config.sizes (lengths_of (l ++ pending.frame ∷ [])) side.freed (length l)) si.accepted ∙
          (ap (λ n. has_room link_config.sizes (lengths_of (end.accepted ++ pending.frame ∷ [])) n (length end.accepted)) si.freed ∙
          (ap (λ (l : ℕ → ℕ). has_room link_config.sizes l end.freed (length end.accepted)) (sym a.holds.2) ∙
          (ap (has_room link_config.sizes pending.lengths end.freed) (sym a.holds.1) ∙ a.holds.3)))

      by_bool : (b : Bool) → CallIs now (if b then ReadingAvailEvent pending.number else RingingOffer) (record side { accepted = side.accepted ++ pending.frame ∷ []; read = [] })
      by_bool true = refl
      by_bool false = tt

  event_read_rows : (number value : ℕ) → SideIs end (ReadingAvailEvent number) side → Goes (ReadingAvailEvent number) value
  event_read_rows number value si = read_rows link_config other_honest other side _ value (by_test (λ m x. Follows link_config other_honest other (with_read side value) (map Marked m) (with_marks end m) x) (wants_doorbell (low_half value) number) [] (Over ∷ []) RingingOffer Closed
      (λ test. silent link_config other_honest other (with_read side value) (same_with_read value (same_of si)) tt)
      (λ test. (anew side, (anew side, (refl, refl), refl), side_is (same_anew (same_of si)) refl)))

  returns : (number more value : ℕ) → EndInvariant link_config memory p end (WritingUsedIndex number more) → SideIs end (WritingUsedIndex number more) side → Goes (WritingUsedIndex number more) value
  returns number more value a si = let h = a.holds in let now = end_after end (step_at (config_of link_config p) (WritingUsedIndex number more) value) in let new = record side { returned = side.returned + 1; read = [] } in let r = si.returned in let d = ap length si.delivered in let flat : length end.delivered ≡ end.returned + 1 = a.level (opened h.0) in (
    new,
    (new, (refl, (in_run (WritingUsedIndex number more) si h.0, omega arith, refl)), refl),
    record { state = si.state; refused = si.refused; accepted = si.accepted; delivered = si.delivered; returned = ap (λ k. k + 1) si.returned; freed = si.freed; call = items_call now (number + 1) more new si.call.0 refl },
  )

  may_set : (n : ℕ) → EndInvariant link_config memory p end (WritingState n) → SideIs end (WritingState n) side → (n ≡ 0) ⊎ ((end.handshake.mark ≡ false) × SawFor end side.seen n)
  may_set zero a si = inl refl
  may_set (suc n) a si = ⊎_elim inl (λ s. inr (a.rests, s)) si.call.0

  run_back : (x : Phase) → state_of x ≡ 3 → x ≡ Run
  run_back Reset e = absurd (omega arith)
  run_back Init e = absurd (omega arith)
  run_back Ready e = absurd (omega arith)
  run_back Run e = refl

  rows_at : (place : Place) (value : ℕ) → EndInvariant link_config memory p end place → (other_honest ≡ true → Other place) → other.state ≡ memory (1 - p) → SideIs end place side → is_open place ≡ true → ReadsMemory memory (access_at (config_of link_config p) place) value → Goes place value
  rows_at Closed value a known state si opened met = let f : false ≡ true = opened in absurd (let g : ⊥ = cc in g)
  rows_at (ReadingOtherState handshake) value a known state si opened met = subst (λ h. Goes (ReadingOtherState h) value) (sym a.holds)
      (read_rows link_config other_honest other side _ value (saw link_config other_honest other (with_read side value) end (config_of link_config p) value (move_of end.handshake value) (same_with_read value (same_of si)) (read_on [] value side.read si.call) (met ∙ sym state) (moves_set end value) (moves_clear end value)))
  rows_at (Clearing at more n) value a known state si opened met = let now = end_after end (step_at (config_of link_config p) (Clearing at more n) value) in silent link_config other_honest other side (wrote _ (same_of si)) (clear_call now (at + 1) more n side si.call.0 si.call.1)
  rows_at (WritingState n) value a known state si opened met = wrote_state link_config other_honest other side end n (same_of si) (may_set n a si)
  rows_at Refusing value a known state si opened met = wrote_state link_config other_honest other side end 0 (same_of si) (inl refl)
  rows_at NotInRun value a known state si opened met = (anew side, (anew side, (refl, ((λ e. a.holds (run_back end.handshake.phase (sym si.state ∙ e))), refl)), refl), side_is (same_anew (same_of si)) refl)
  rows_at (ReadingUsedIndex pending freed) value a known state si opened met = reclaims pending freed value met a known si
  rows_at (ReadingUsedId pending freed more) value a known state si opened met = frees pending freed more value met a known si
  rows_at (WritingFrameWord pending at more) value a known state si opened met = let now = end_after end (step_at (config_of link_config p) (WritingFrameWord pending at more) value) in silent link_config other_honest other side (wrote _ (same_of si)) (fill_call now pending (at + 1) more side)
  rows_at (WritingDescAddressLow pending) value a known state si opened met = silent link_config other_honest other side (wrote _ (same_of si)) tt
  rows_at (WritingDescAddressHigh pending) value a known state si opened met = silent link_config other_honest other side (wrote _ (same_of si)) tt
  rows_at (WritingDescLength pending) value a known state si opened met = silent link_config other_honest other side (wrote _ (same_of si)) tt
  rows_at (WritingDescFlags pending) value a known state si opened met = silent link_config other_honest other side (wrote _ (same_of si)) tt
  rows_at (WritingAvailEntry pending) value a known state si opened met = silent link_config other_honest other side (wrote _ (same_of si)) tt
  rows_at (WritingAvailIndex pending) value a known state si opened met = accepts pending value a si
  rows_at (ReadingAvailEvent number) value a known state si opened met = event_read_rows number value si
  rows_at RingingOffer value a known state si opened met = (anew side, (anew side, (refl, refl), refl), side_is (same_anew (same_of si)) refl)
  rows_at (ReadingAvailIndex taken last) value a known state si opened met = looks taken last value met a known si
  rows_at (WritingAvailEvent taken) value a known state si opened met = silent link_config other_honest other side (wrote _ (same_of si)) si.call
  rows_at (ReadingAvailEntry number more) value a known state si opened met = enters number more value met a known si
  rows_at (ReadingDescAddressLow number more e) value a known state si opened met = read_rows link_config other_honest other side [] value (silent link_config other_honest other (with_read side value) (same_with_read value (same_of si)) (si.call.0, (si.call.1.0, read_on (si.call.1.0 ∷ []) value side.read si.call.1.1)))
  rows_at (ReadingDescAddressHigh number more e lo) value a known state si opened met = addresses number more e lo value met a known si
  rows_at (ReadingDescLength number more e x) value a known state si opened met = measures number more e x value met a known si
  rows_at (ReadingDescFlags number more e x l) value a known state si opened met = flags number more e x l value met a known si
  rows_at (ReadingFrameWord number more e x l read words) value a known state si opened met = delivers number more e x l read words value met a known si
  rows_at (WritingUsedId number more e) value a known state si opened met = silent link_config other_honest other side (wrote _ (same_of si)) si.call
  rows_at (WritingUsedLength number more) value a known state si opened met = silent link_config other_honest other side (wrote _ (same_of si)) si.call
  rows_at (WritingUsedIndex number more) value a known state si opened met = returns number more value a si
  rows_at RingingPoll value a known state si opened met = (anew side, (anew side, (refl, (in_run RingingPoll si a.holds, (let k = si.call.0 in let d = ap length si.delivered in omega arith), refl)), refl), side_is (same_anew (same_of si)) refl)

honest_ones : (honest : ℕ → Bool) (p : ℕ) → p < 2 → honest p ≡ true → honest (1 - p) ≡ true → (honest 0 ≡ true) × (honest 1 ≡ true)
honest_ones honest p p2 mine other_honest = dite (ℕ_discrete p 0)
    (λ e. (ap honest (sym e) ∙ mine, (let o : 1 ≡ 1 - p = omega arith in ap honest o ∙ other_honest)))
    (λ ne. let e : 1 ≡ p = omega arith in let o : 0 ≡ 1 - p = omega arith in (ap honest o ∙ other_honest, ap honest e ∙ mine))

pub steps_follow_rows : StepsFollowRows
steps_follow_rows = record {
  starts = record { state = refl; refused = refl; accepted = refl; delivered = refl; returned = refl; freed = refl; call = refl };
  begins = begin_follows;
  steps = λ link_config honest memory ends places p value side other is p2 hp m si state other_honest opened met.
      rows_at link_config is p p2 memory (honest (1 - p)) other side (ends p) (ends (1 - p)) (places (1 - p)) (places p) value (m.alone p p2 hp)
      (λ ho. let hs = honest_ones honest p p2 hp ho in record { all = before link_config memory ends places p p2 (m.pair hs.0 hs.1); refines = other_honest ho }) state si opened met;
  resets = λ sizes other_honest end place side other si. (
    record side { state = 0; seen = None; refused = false; read = [] },
    refl,
    record { state = refl; refused = refl; accepted = si.accepted; delivered = si.delivered; returned = si.returned; freed = si.freed; call = refl },
  );
}
