-- The reads of an offer and of a poll: the invariant of one end.
use Rattle.std.proofs.Common.{◌≡◌, ℕ, zero, suc, ◌+◌, ◌-◌, ◌%◌, ◌≤◌, Bool, true, false, List, [], ◌∷◌, ◌++◌, length, refl, sym, ap, ◌∙◌, subst, arith, ne_eqb, length-append}
use Rattle.std.specs.Prelude.{◌==◌, if◌then◌else◌}
use Rattle.std.proofs.lemmas.Bool.Decides.{nat_tests}
use Rattle.split_ring.specs.declared.sizes.TheConstants.{SHORTEST_FRAME}
use Rattle.split_ring.specs.Layout.{size_of, limit_of}
use Rattle.split_ring.specs.Frames.{has_room}
use Rattle.split_ring.specs.Ranges.{is_avail_entry, is_desc_address, is_desc_length, is_desc_flags, is_used_id, is_avail_index, is_used_index}
use Rattle.split_ring.specs.declared.ranges.FieldName.TheVariants as field_name
use Rattle.split_ring.specs.Spelling.{low_half, high_half, entry_half, desc_flags}
use Rattle.link_handshake.specs.declared.Phase.TheVariants.{Run}
use Rattle.call_grammar.specs.Steps.{Mark, Reclaim, Full, Look, Over, Deliver}
use Rattle.call_grammar.specs.Ends.{End, with_marks, end_after}
use Rattle.call_grammar.specs.Words.{words_for, frame_in, address_of}
use Rattle.call_grammar.specs.Offers.{PendingOffer, frame_fits, refusal, full_marks, returned_by, reclaim_marks, descriptor_of, wants_doorbell}
use Rattle.call_grammar.specs.Polls.{published_by, look_marks}
use Rattle.call_grammar.specs.Places.{Place, Closed, Refusing, ReadingUsedIndex, ReadingUsedId, ReadingAvailEvent, RingingOffer, ReadingAvailIndex, ReadingAvailEntry, ReadingDescAddressLow, ReadingDescAddressHigh, ReadingDescLength, ReadingDescFlags, ReadingFrameWord, fill_place, ids_place, none_place, items_place, words_place, next_place, step_at}
use Rattle.call_grammar.proofs.OfferLists.{no}
use Rattle.link_invariant.specs.LinkConfig.{LinkConfig, config_of, fields}
use Rattle.link_invariant.specs.EndInvariant.{IsNext, Filled, PlaceInvariant, counts, EndInvariant}
use Rattle.link_invariant.proofs.EndObligations.{by_test, run_ready, opened, free, moves, refuses}
use Rattle.split_ring.proofs.TestsDecideRanges.{entry_of_test, address_of_test, length_of_test}

-- The invariant of an end at the place after its step.
abbrev pub StepsTo : LinkConfig → ℕ → (ℕ → ℕ) → End → Place → ℕ → Type 0
StepsTo link_config p memory end place value = EndInvariant link_config memory p (end_after end (step_at (config_of link_config p) place value)) (next_place (config_of link_config p) place value)

-- Places by counts

pub fill_holds : (link_config : LinkConfig) (memory : ℕ → ℕ) (p : ℕ) (end : End) (pending : PendingOffer) (at count : ℕ) → end.handshake.phase ≡ Run → at + count ≡ words_for (length pending.frame) → Filled link_config (fields link_config memory p) end.accepted end.freed pending at →
    PlaceInvariant link_config memory p end (fill_place pending at count) × (counts (fill_place pending at count) ≡ (0, 0))
fill_holds link_config memory p end pending at zero run all filled = let e : at ≡ words_for (length pending.frame) = omega arith in ((run, subst (Filled link_config (fields link_config memory p) end.accepted end.freed pending) e filled), refl)
fill_holds link_config memory p end pending at (suc more) run all filled = ((run, filled, all), refl)

pub ids_holds : (link_config : LinkConfig) (memory : ℕ → ℕ) (p : ℕ) (end : End) (pending : PendingOffer) (freed count : ℕ) → end.handshake.phase ≡ Run → IsNext link_config (fields link_config memory p) end.accepted pending → freed + count ≡ end.freed → length end.accepted ≤ freed + limit_of link_config.sizes →
    PlaceInvariant link_config memory p end (ids_place (config_of link_config p) pending freed count) × (counts (ids_place (config_of link_config p) pending freed count) ≡ (0, 0))
ids_holds link_config memory p end pending freed zero run next all room = by_room (frame_fits (config_of link_config p) pending freed) refl
  where
    by_room : (b : Bool) → frame_fits (config_of link_config p) pending freed ≡ b → PlaceInvariant link_config memory p end (if b then fill_place pending 0 (words_for (length pending.frame)) else Closed) × (counts (if b then fill_place pending 0 (words_for (length pending.frame)) else Closed) ≡ (0, 0))
    by_room true has = let same : freed ≡ end.freed = omega arith in
        fill_holds link_config memory p end pending 0 (words_for (length pending.frame)) run (omega arith) record { next = next; room = ap (λ n. has_room link_config.sizes pending.lengths n pending.number) (sym same) ∙ has; words = λ j lt. absurd (omega arith) }
    by_room false none = (tt, refl)
ids_holds link_config memory p end pending freed (suc more) run next all room = ((run, next, all, room), refl)

pub items_holds : (link_config : LinkConfig) (memory : ℕ → ℕ) (p : ℕ) (end : End) (number count : ℕ) → end.handshake.phase ≡ Run → number ≡ length end.delivered → count ≤ size_of link_config.sizes → PlaceInvariant link_config memory p end (items_place number count) × (counts (items_place number count) ≡ (0, 0))
items_holds link_config memory p end number zero run is few = (run, refl)
items_holds link_config memory p end number (suc more) run is few = ((run, is, omega arith), refl)

-- Marks that count frames freed.
pub full_quiet : (end : End) (b : Bool) → with_marks end (if b then [] else Full ∷ []) ≡ end
full_quiet end true = refl
full_quiet end false = refl

pub freed_by : (end : End) (count : ℕ) (full : List Mark) → ((e : End) → with_marks e full ≡ e) → with_marks end (if count == 0 then Reclaim 0 ∷ full else Reclaim count ∷ []) ≡ record end { freed = end.freed + count }
freed_by end zero full quiet = quiet (record end { freed = end.freed + 0 })
freed_by end (suc count) full quiet = ap (with_marks end) (no (suc count == 0) (Reclaim 0 ∷ full) (Reclaim (suc count) ∷ []) (ne_eqb (suc count) 0 (λ e. omega arith)))

pub ids_quiet : (end : End) (b c : Bool) → with_marks end (if b then (if c then [] else Full ∷ []) else []) ≡ end
ids_quiet end true c = full_quiet end c
ids_quiet end false c = refl

-- A read of the available index changes only `found_none`.
pub looked : (end : End) (last : Bool) (count : ℕ) → with_marks end (look_marks last count) ≡ record end { found_none = count == 0 }
looked end true zero = refl
looked end false zero = refl
looked end last (suc more) = ap (with_marks end) (no (suc more == 0) (look_marks last 0) (Look (suc more) ∷ []) (ne_eqb (suc more) 0 (λ e. omega arith)))

pub look_alone : {link_config : LinkConfig} {memory : ℕ → ℕ} {p : ℕ} {end : End} {taken : ℕ} {last : Bool} (none : Bool) → EndInvariant link_config memory p end (ReadingAvailIndex taken last) → EndInvariant link_config memory p (record end { found_none = none }) (ReadingAvailIndex taken last)
look_alone {link_config} {memory} {p} {end} {taken} {last} none a = record { state = a.state; written = a.written; holds = a.holds; rests = a.rests; ready = λ two. absurd (run_ready a.holds.0 two); level = a.level; sent = a.sent; freed = a.freed; room = a.room }

-- The place after a read of the available index that finds no frame.
pub none_holds : (link_config : LinkConfig) (memory : ℕ → ℕ) (p : ℕ) (end : End) (taken : ℕ) (last : Bool) → end.handshake.phase ≡ Run → taken ≡ length end.delivered → PlaceInvariant link_config memory p end (none_place taken last) × (counts (none_place taken last) ≡ (0, 0))
none_holds link_config memory p end taken true run is = (tt, refl)
none_holds link_config memory p end taken false run is = ((run, is), refl)

module _ (link_config : LinkConfig) (p : ℕ) (memory : ℕ → ℕ) (end : End) where
  pub reads_used_index : (pending : PendingOffer) (freed value : ℕ) → EndInvariant link_config memory p end (ReadingUsedIndex pending freed) → StepsTo link_config p memory end (ReadingUsedIndex pending freed) value
  reads_used_index pending freed value a = let h = a.holds in let run = h.0 in let d = returned_by freed value in
      by_test (λ m x. EndInvariant link_config memory p (with_marks end m) x) (is_used_index (freed % 65536) (high_half value) (pending.number - freed)) (reclaim_marks (config_of link_config p) pending freed d) (refusal field_name.UsedIndex (high_half value)) (ids_place (config_of link_config p) pending freed d) Refusing
      (λ test. let within : d ≤ pending.number - freed = grind (arith, nat_tests) in let number = h.1.number in let same = h.2 in let f = a.freed in let room = a.room in
      let now : End = record end { freed = end.freed + d } in
      let x = ids_holds link_config memory p now pending freed d run h.1 (omega arith) (omega arith) in
      subst (λ (e : End). EndInvariant link_config memory p e (ids_place (config_of link_config p) pending freed d)) (sym (freed_by end d (full_marks (config_of link_config p) pending freed) (λ e. full_quiet e (frame_fits (config_of link_config p) pending freed)))) record {
        state = a.state;
        written = a.written;
        holds = x.0;
        rests = free now (ids_place (config_of link_config p) pending freed d) a.rests;
        ready = λ two. absurd (run_ready run two);
        level = λ o. a.level o ∙ ap (λ (c : ℕ × ℕ). end.returned + c.0) (sym x.1);
        sent = λ o. let s = a.sent o in record { available = s.available; used = s.used; spelled = λ k from below. s.spelled k (omega arith) below };
        freed = omega arith;
        room = omega arith;
      })
      (λ test. refuses run refl a)

  pub reads_id : (pending : PendingOffer) (freed more value : ℕ) → EndInvariant link_config memory p end (ReadingUsedId pending freed more) → StepsTo link_config p memory end (ReadingUsedId pending freed more) value
  reads_id pending freed more value a = let h = a.holds in
      by_test (λ m x. EndInvariant link_config memory p (with_marks end m) x) (is_used_id (descriptor_of (config_of link_config p) freed) value) (if more == 0 then full_marks (config_of link_config p) pending (freed + 1) else []) (refusal field_name.UsedId value) (ids_place (config_of link_config p) pending (freed + 1) more) Refusing
      (λ test. let all = h.2 in let room = h.3 in let x = ids_holds link_config memory p end pending (freed + 1) more h.0 h.1 (omega arith) (omega arith) in
      subst (λ (e : End). EndInvariant link_config memory p e (ids_place (config_of link_config p) pending (freed + 1) more)) (sym (ids_quiet end (more == 0) (frame_fits (config_of link_config p) pending (freed + 1)))) (moves _ x.0 x.1 a.rests a))
      (λ test. refuses h.0 refl a)

  pub event_read_step : (number value : ℕ) → EndInvariant link_config memory p end (ReadingAvailEvent number) → StepsTo link_config p memory end (ReadingAvailEvent number) value
  event_read_step number value a =
      by_test (λ m x. EndInvariant link_config memory p (with_marks end m) x) (wants_doorbell (low_half value) number) [] (Over ∷ []) RingingOffer Closed
      (λ test. moves RingingOffer a.holds.0 refl a.rests a)
      (λ test. moves Closed tt refl a.rests a)

  pub reads_avail_index : (taken : ℕ) (last : Bool) (value : ℕ) → EndInvariant link_config memory p end (ReadingAvailIndex taken last) → StepsTo link_config p memory end (ReadingAvailIndex taken last) value
  reads_avail_index taken last value a = let h = a.holds in let d = published_by taken value in let now : End = record end { found_none = d == 0 } in let b = look_alone (d == 0) a in
      by_test (λ m x. EndInvariant link_config memory p (with_marks end m) x) (is_avail_index link_config.sizes (taken % 65536) (high_half value)) (look_marks last d) (refusal field_name.AvailIndex (high_half value)) (if d == 0 then none_place taken last else items_place taken d) Refusing
      (λ test. subst (λ (e : End). EndInvariant link_config memory p e (if d == 0 then none_place taken last else items_place taken d)) (sym (looked end last d))
      (by_test (λ m x. EndInvariant link_config memory p now x) (d == 0) [] [] (none_place taken last) (items_place taken d)
      (λ t. let x = none_holds link_config memory p now taken last h.0 h.1 in moves _ x.0 x.1 b.rests b)
      (λ t. let few : d ≤ size_of link_config.sizes = grind (arith, nat_tests) in let x = items_holds link_config memory p now taken d h.0 h.1 few in moves _ x.0 x.1 b.rests b)))
      (λ test. refuses h.0 refl a)

  pub reads_entry : (number more value : ℕ) → EndInvariant link_config memory p end (ReadingAvailEntry number more) → StepsTo link_config p memory end (ReadingAvailEntry number more) value
  reads_entry number more value a = let h = a.holds in let e = entry_half (number % size_of link_config.sizes) value in
      by_test (λ m x. EndInvariant link_config memory p (with_marks end m) x) (is_avail_entry link_config.sizes e) [] (refusal field_name.AvailEntry e) (ReadingDescAddressLow number more e) Refusing
      (λ test. moves (ReadingDescAddressLow number more e) (h.0, h.1, entry_of_test link_config.sizes e test, h.2) refl a.rests a)
      (λ test. refuses h.0 refl a)

  pub reads_low : (number more entry value : ℕ) → EndInvariant link_config memory p end (ReadingDescAddressLow number more entry) → StepsTo link_config p memory end (ReadingDescAddressLow number more entry) value
  reads_low number more entry value a = moves (ReadingDescAddressHigh number more entry value) a.holds refl a.rests a

  pub reads_high : (number more entry low value : ℕ) → EndInvariant link_config memory p end (ReadingDescAddressHigh number more entry low) → StepsTo link_config p memory end (ReadingDescAddressHigh number more entry low) value
  reads_high number more entry low value a = let h = a.holds in let address = address_of low value in
      by_test (λ m x. EndInvariant link_config memory p (with_marks end m) x) (is_desc_address link_config.sizes address) [] (refusal field_name.DescAddress address) (ReadingDescLength number more entry address) Refusing
      (λ test. moves (ReadingDescLength number more entry address) (h.0, h.1, h.2, address_of_test link_config.sizes address test, h.3) refl a.rests a)
      (λ test. refuses h.0 refl a)

  pub reads_length : (number more entry address value : ℕ) → EndInvariant link_config memory p end (ReadingDescLength number more entry address) → StepsTo link_config p memory end (ReadingDescLength number more entry address) value
  reads_length number more entry address value a = let h = a.holds in
      by_test (λ m x. EndInvariant link_config memory p (with_marks end m) x) (is_desc_length link_config.sizes address value) [] (refusal field_name.DescLength value) (ReadingDescFlags number more entry address value) Refusing
      (λ test. moves (ReadingDescFlags number more entry address value) (h.0, h.1, h.2, h.3, length_of_test link_config.sizes address value test, h.4) refl a.rests a)
      (λ test. refuses h.0 refl a)

  first_word : (number more entry address bytes count : ℕ) → SHORTEST_FRAME ≤ bytes → count ≡ words_for bytes → PlaceInvariant link_config memory p end (ReadingDescFlags number more entry address bytes) → EndInvariant link_config memory p end (ReadingDescFlags number more entry address bytes) →
      EndInvariant link_config memory p end (words_place number more entry address bytes [] count)
  first_word number more entry address bytes zero some is h a = absurd (omega arith)
  first_word number more entry address bytes (suc words) some is h a = moves (ReadingFrameWord number more entry address bytes [] words) (h.0, h.1, h.2, h.3, h.4, omega arith, h.5) refl a.rests a

  pub reads_flags : (number more entry address bytes value : ℕ) → EndInvariant link_config memory p end (ReadingDescFlags number more entry address bytes) → StepsTo link_config p memory end (ReadingDescFlags number more entry address bytes) value
  reads_flags number more entry address bytes value a = let h = a.holds in
      by_test (λ m x. EndInvariant link_config memory p (with_marks end m) x) (is_desc_flags (desc_flags value)) [] (refusal field_name.DescFlags (desc_flags value)) (words_place number more entry address bytes [] (words_for bytes)) Refusing
      (λ test. first_word number more entry address bytes (words_for bytes) h.4.0 refl h a)
      (λ test. refuses h.0 refl a)

  pub reads_word : (number more entry address bytes : ℕ) (read : List ℕ) (words value : ℕ) → EndInvariant link_config memory p end (ReadingFrameWord number more entry address bytes read words) → StepsTo link_config p memory end (ReadingFrameWord number more entry address bytes read words) value
  reads_word number more entry address bytes read zero value a = let h = a.holds in let run = h.0 in let frame = frame_in bytes (read ++ value ∷ []) in let more_than = length-append end.delivered (frame ∷ []) in let flat : length end.delivered ≡ end.returned + 0 = a.level (opened run) in let number_is = h.1 in record {
    state = a.state;
    written = a.written;
    holds = (run, omega arith, h.2, h.6);
    rests = a.rests;
    ready = λ two. absurd (run_ready run two);
    level = λ o. omega arith;
    sent = a.sent;
    freed = a.freed;
    room = a.room;
  }
  reads_word number more entry address bytes read (suc words) value a = let h = a.holds in let longer = length-append read (value ∷ []) in let all = h.5 in let next = ReadingFrameWord number more entry address bytes (read ++ value ∷ []) words in
      subst (λ (m : List Mark). EndInvariant link_config memory p (with_marks end m) next) (sym (no (suc words == 0) (Deliver (frame_in bytes (read ++ value ∷ [])) ∷ []) [] (ne_eqb (suc words) 0 (λ e. omega arith))))
      (moves next (h.0, h.1, h.2, h.3, h.4, omega arith, h.6) refl a.rests a)
