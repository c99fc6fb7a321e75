-- The steps of a poll, between two honest ends.
use Rattle.std.proofs.Common.{◌≡◌, ℕ, zero, suc, ◌+◌, ◌-◌, ◌/◌, ◌%◌, ◌<◌, ◌≤◌, Bool, true, false, List, [], ◌∷◌, ◌++◌, length, refl, sym, ap, ◌∙◌, subst, arith, ne_eqb, append_assoc, length-append}
use mathlib.Core.Logic.{dite}
use native.Mathlib.Decide.{ℕ_discrete}
use Rattle.std.specs.Prelude.{◌==◌, if◌then◌else◌}
use Rattle.std.proofs.lemmas.Bool.Decides.{nat_tests}
use Rattle.std.proofs.lemmas.Nat.{mod_below}
use Rattle.std.proofs.Math.Seq.{get_or-append_seam}
use Rattle.split_ring.specs.declared.sizes.TheConstants.{SHORTEST_FRAME}
use Rattle.split_ring.specs.declared.ranges.FieldName.TheVariants as field_name
use Rattle.split_ring.specs.Layout.{size_of, limit_of, word_offset, DescAddress, DescLength, DescFlags, AvailIndex, AvailEntry}
use Rattle.split_ring.specs.Ranges.{IsDescAddress, is_avail_entry, is_desc_address, is_desc_length, is_desc_flags, IsDescFlags, is_avail_index}
use Rattle.split_ring.specs.Spelling.{high_half, entry_half, desc_flags}
use Rattle.link_handshake.specs.declared.Phase.TheVariants.{Run}
use Rattle.call_grammar.specs.Steps.{Mark, Deliver}
use Rattle.call_grammar.specs.Ends.{End, with_marks, end_after}
use Rattle.call_grammar.specs.Words.{words_for, lengths_of, frame_word, frame_in, address_of}
use Rattle.call_grammar.specs.Offers.{refusal}
use Rattle.call_grammar.specs.Polls.{published_by, look_marks}
use Rattle.call_grammar.specs.Places.{Place, Refusing, ReadingAvailIndex, ReadingAvailEntry, ReadingDescAddressLow, ReadingDescAddressHigh, ReadingDescLength, ReadingDescFlags, ReadingFrameWord, WritingUsedId, WritingUsedLength, WritingUsedIndex, none_place, items_place, words_place, next_place, step_at}
use Rattle.call_grammar.proofs.OfferLists.{no}
use Rattle.link_invariant.specs.Fields.{Field, is_field, field_word, part_of}
use Rattle.link_invariant.specs.Fields as field
use Rattle.link_invariant.specs.LinkConfig.{LinkConfig, IsLinkConfig, section_of, config_of, fields, first_words}
use Rattle.link_invariant.specs.EndInvariant.{frame_at, start_in, Spelled, EndInvariant}
use Rattle.link_invariant.specs.Pair.{freed_at, Polls, InFlight}
use Rattle.link_invariant.proofs.Fields.{numbers, ring_apart, one_test, is_word, start_good, field_read}
use Rattle.link_invariant.proofs.EndObligations.{by_test, opened, Puts}
use Rattle.link_invariant.proofs.ReadSteps.{looked}
use Rattle.link_invariant.proofs.Frames.{frames_come_whole}
use Rattle.link_invariant.proofs.PairObligations.{Facing, IsCalm, Works, takes_on, room_at}
use Rattle.split_ring.proofs.TestsDecideRanges.{entry_denies, address_denies, length_denies, flags_denies}

next_frame : (frames done rest : List (List ℕ)) → frames ≡ done ++ rest → length done < length frames → (more : List (List ℕ)) × (frames ≡ (done ++ frame_at frames (length done) ∷ []) ++ more)
next_frame frames done [] e lt = absurd (let h = ap length e in let k = length-append done [] in omega arith)
next_frame frames done (g ∷ rest) e lt = (rest, subst (λ (x : List ℕ). frames ≡ (done ++ x ∷ []) ++ rest) (sym (ap (λ l. frame_at l (length done)) e ∙ get_or-append_seam done g rest [])) (e ∙ sym (append_assoc done (g ∷ []) rest)))

-- The place before items.
items_calm : (number count : ℕ) → IsCalm (items_place number count)
items_calm number zero = tt
items_calm number (suc more) = tt

items_freed : (freed number count : ℕ) → freed ≡ freed_at freed (items_place number count)
items_freed freed number zero = refl
items_freed freed number (suc more) = refl

items_poll : (link_config : LinkConfig) (field : Field → ℕ) (frames : List (List ℕ)) (number count : ℕ) → number + count ≤ length frames → Polls link_config field frames (items_place number count)
items_poll link_config field frames number zero up = tt
items_poll link_config field frames number (suc more) up = up

-- The place after a read of the available index that finds no frame.
none_calm : (taken : ℕ) (last : Bool) → IsCalm (none_place taken last)
none_calm taken true = tt
none_calm taken false = tt

none_freed : (freed taken : ℕ) (last : Bool) → freed ≡ freed_at freed (none_place taken last)
none_freed freed taken true = refl
none_freed freed taken false = refl

none_poll : (link_config : LinkConfig) (field : Field → ℕ) (frames : List (List ℕ)) (taken : ℕ) (last : Bool) → Polls link_config field frames (none_place taken last)
none_poll link_config field frames taken true = tt
none_poll link_config field frames taken false = tt

module _ (link_config : LinkConfig) (is : IsLinkConfig link_config) (p : ℕ) (memory : ℕ → ℕ) (end u : End) (w : Place) (mark : end.handshake.mark ≡ false) where
  abbrev Goes : Place → ℕ → Type 0
  Goes place value = Works link_config memory memory p u w (end_after end (step_at (config_of link_config p) place value)) (next_place (config_of link_config p) place value)

  -- A step to another place of the poll.
  onward : (place next : Place) → end.handshake.phase ≡ Run → IsCalm next → freed_at end.freed place ≡ freed_at end.freed next → Polls link_config (fields link_config memory p) u.accepted next → Facing link_config memory p end place u w → Works link_config memory memory p u w end next
  onward place next run calm read polls f = record { run = run; mark = mark; calm = calm; sends = subst (λ k. InFlight link_config (fields link_config memory (1 - p)) end.accepted end.freed k u.delivered u.returned w) read f.sends; takes = takes_on next (λ k. refl) polls f.takes }

  -- The current frame.
  in_hand : (place : Place) (number more : ℕ) → number ≡ length end.delivered → number + suc more ≤ length u.accepted → Facing link_config memory p end place u w → Spelled link_config (fields link_config memory (1 - p)) number (start_in link_config u.accepted number) (frame_at u.accepted number)
  in_hand place number more is up f = let r = f.takes.returns in let d = f.takes.delivers in f.opposite.spelled number (omega arith) (omega arith)

  low_slot : (number : ℕ) → number % limit_of link_config.sizes < limit_of link_config.sizes
  low_slot number = mod_below number (limit_of link_config.sizes) (numbers link_config is).limit_least

  low_entry : (number : ℕ) → number % limit_of link_config.sizes < size_of link_config.sizes
  low_entry number = let low = low_slot number in let most = (numbers link_config is).limit_most in omega arith

  read_of : (f : Field) (value : ℕ) → is_field link_config.sizes f ≡ true → value ≡ memory (section_of link_config (1 - p) + field_word link_config.sizes f) → part_of f value ≡ fields link_config memory (1 - p) f
  read_of f value spot met = field_read link_config memory (1 - p) f value spot met

  -- The number of frames accepted since the last read.
  pub published_is : (taken : ℕ) (last : Bool) (value : ℕ) → value ≡ memory (section_of link_config (1 - p) + word_offset link_config.sizes AvailIndex) → EndInvariant link_config memory (1 - p) u w → EndInvariant link_config memory p end (ReadingAvailIndex taken last) → Facing link_config memory p end (ReadingAvailIndex taken last) u w → taken + published_by taken value ≡ length u.accepted
  published_is taken last value met b a f = let t = f.takes in let r = t.returns in let v = t.delivers in let room = b.room in let n = numbers link_config is in let few = n.limit_most in let most = n.size_most in let same = a.holds.1 in
      let index : high_half value ≡ length u.accepted % 65536 = read_of field.AvailIndex value refl met ∙ f.opposite.available in
      let up : length end.delivered ≤ length u.accepted = let e = ap length t.prefix.1 in let k = length-append end.delivered t.prefix.0 in omega arith in omega arith

  -- The pair doesn't depend on `found_none`.
  same_works : {next : Place} (none : Bool) → Works link_config memory memory p u w end next → Works link_config memory memory p u w (record end { found_none = none }) next
  same_works none x = record { run = x.run; mark = x.mark; calm = x.calm; sends = x.sends; takes = x.takes }

  pub takes_avail_index : (taken : ℕ) (last : Bool) (value : ℕ) → value ≡ memory (section_of link_config (1 - p) + word_offset link_config.sizes AvailIndex) → EndInvariant link_config memory (1 - p) u w → EndInvariant link_config memory p end (ReadingAvailIndex taken last) → Facing link_config memory p end (ReadingAvailIndex taken last) u w → Goes (ReadingAvailIndex taken last) value
  takes_avail_index taken last value met b a f = let h = a.holds in let d = published_by taken value in let t = f.takes in let r = t.returns in let v = t.delivers in let room = b.room in let n = numbers link_config is in let few = n.limit_most in let most = n.size_most in let same = h.1 in
      let exact = published_is taken last value met b a f in
      by_test (λ m x. Works link_config memory memory p u w (with_marks end m) x) (is_avail_index link_config.sizes (taken % 65536) (high_half value)) (look_marks last d) (refusal field_name.AvailIndex (high_half value)) (if d == 0 then none_place taken last else items_place taken d) Refusing
      (λ test. subst (λ (e : End). Works link_config memory memory p u w e (if d == 0 then none_place taken last else items_place taken d)) (sym (looked end last d))
      (same_works (d == 0) (by_test (λ m x. Works link_config memory memory p u w end x) (d == 0) [] [] (none_place taken last) (items_place taken d)
      (λ t. onward (ReadingAvailIndex taken last) (none_place taken last) h.0 (none_calm taken last) (none_freed end.freed taken last) (none_poll link_config (fields link_config memory p) u.accepted taken last) f)
      (λ t. onward (ReadingAvailIndex taken last) (items_place taken d) h.0 (items_calm taken d) (items_freed end.freed taken d) (items_poll link_config (fields link_config memory p) u.accepted taken d (omega arith)) f))))
      (λ test. absurd (let low : d ≤ size_of link_config.sizes = omega arith in grind (arith, nat_tests)))

  pub takes_entry : (number more value : ℕ) → value ≡ memory (section_of link_config (1 - p) + word_offset link_config.sizes (AvailEntry (number % size_of link_config.sizes))) → EndInvariant link_config memory p end (ReadingAvailEntry number more) → Facing link_config memory p end (ReadingAvailEntry number more) u w → Goes (ReadingAvailEntry number more) value
  takes_entry number more value met a f = let h = a.holds in let up = f.takes.polls in let s = in_hand (ReadingAvailEntry number more) number more h.1 up f in let k = number % size_of link_config.sizes in let e = entry_half k value in let least = (numbers link_config is).size_least in
      let good : e ≡ number % limit_of link_config.sizes = read_of (field.AvailEntry k) value (one_test _ _ (mod_below number (size_of link_config.sizes) (omega arith))) met ∙ s.entry in
      by_test (λ m x. Works link_config memory memory p u w (with_marks end m) x) (is_avail_entry link_config.sizes e) [] (refusal field_name.AvailEntry e) (ReadingDescAddressLow number more e) Refusing
      (λ test. onward (ReadingAvailEntry number more) (ReadingDescAddressLow number more e) h.0 tt refl (up, good) f)
      (λ test. absurd (entry_denies link_config.sizes e test (let low = low_entry number in omega arith)))

  pub takes_low : (number more entry value : ℕ) → value ≡ memory (section_of link_config (1 - p) + word_offset link_config.sizes (DescAddress entry)) → EndInvariant link_config memory p end (ReadingDescAddressLow number more entry) → Facing link_config memory p end (ReadingDescAddressLow number more entry) u w → Goes (ReadingDescAddressLow number more entry) value
  takes_low number more entry value met a f = let h = a.holds in let q = f.takes.polls in let s = in_hand (ReadingDescAddressLow number more entry) number more h.1 q.0 f in
      onward (ReadingDescAddressLow number more entry) (ReadingDescAddressHigh number more entry value) h.0 tt refl (q.0, q.1, read_of (field.AddressLow entry) value (one_test _ _ h.2) met ∙ (ap (λ k. fields link_config memory (1 - p) (field.AddressLow k)) q.1 ∙ s.low)) f

  pub takes_high : (number more entry low value : ℕ) → value ≡ memory (section_of link_config (1 - p) + (word_offset link_config.sizes (DescAddress entry) + 1)) → EndInvariant link_config memory p end (ReadingDescAddressHigh number more entry low) → Facing link_config memory p end (ReadingDescAddressHigh number more entry low) u w → Goes (ReadingDescAddressHigh number more entry low) value
  takes_high number more entry low value met a f = let h = a.holds in let q = f.takes.polls in let s = in_hand (ReadingDescAddressHigh number more entry low) number more h.1 q.0 f in let address = address_of low value in
      let none : value ≡ 0 = read_of (field.AddressHigh entry) value (one_test _ _ h.2) met ∙ (ap (λ k. fields link_config memory (1 - p) (field.AddressHigh k)) q.1 ∙ s.high) in
      let good : address ≡ start_in link_config u.accepted number = let l = q.2 in address_is low value _ l none in
      by_test (λ m x. Works link_config memory memory p u w (with_marks end m) x) (is_desc_address link_config.sizes address) [] (refusal field_name.DescAddress address) (ReadingDescLength number more entry address) Refusing
      (λ test. onward (ReadingDescAddressHigh number more entry low) (ReadingDescLength number more entry address) h.0 tt refl (q.0, q.1, good) f)
      (λ test. let some = s.offered.least in let fits = start_good link_config is (lengths_of u.accepted) number s.offered.most in let even = fits.even in let after = fits.after in let inside = fits.inside in
      absurd (address_denies link_config.sizes address test (subst (IsDescAddress link_config.sizes) (sym good) (omega arith, omega arith, omega arith))))
    where
      address_is : (low high n : ℕ) → low ≡ n → high ≡ 0 → address_of low high ≡ n
      address_is low high n e f = omega arith

  pub takes_length : (number more entry address value : ℕ) → value ≡ memory (section_of link_config (1 - p) + word_offset link_config.sizes (DescLength entry)) → EndInvariant link_config memory p end (ReadingDescLength number more entry address) → Facing link_config memory p end (ReadingDescLength number more entry address) u w → Goes (ReadingDescLength number more entry address) value
  takes_length number more entry address value met a f = let h = a.holds in let q = f.takes.polls in let s = in_hand (ReadingDescLength number more entry address) number more h.1 q.0 f in
      let good : value ≡ length (frame_at u.accepted number) = read_of (field.DescLength entry) value (one_test _ _ h.2) met ∙ (ap (λ k. fields link_config memory (1 - p) (field.DescLength k)) q.1 ∙ s.size) in
      let fits = start_good link_config is (lengths_of u.accepted) number s.offered.most in let even = fits.even in let inside = fits.inside in let some = s.offered.least in let most = s.offered.most in let mtu = is.queue.mtu_most in let at = q.2 in
      by_test (λ m x. Works link_config memory memory p u w (with_marks end m) x) (is_desc_length link_config.sizes address value) [] (refusal field_name.DescLength value) (ReadingDescFlags number more entry address value) Refusing
      (λ test. onward (ReadingDescLength number more entry address) (ReadingDescFlags number more entry address value) h.0 tt refl (q.0, q.1, q.2, good) f)
      (λ test. absurd (length_denies link_config.sizes address value test (omega arith, omega arith, omega arith)))

  pub takes_flags : (number more entry address bytes value : ℕ) → value ≡ memory (section_of link_config (1 - p) + word_offset link_config.sizes (DescFlags entry)) → EndInvariant link_config memory p end (ReadingDescFlags number more entry address bytes) → Facing link_config memory p end (ReadingDescFlags number more entry address bytes) u w → Goes (ReadingDescFlags number more entry address bytes) value
  takes_flags number more entry address bytes value met a f = let h = a.holds in let q = f.takes.polls in let s = in_hand (ReadingDescFlags number more entry address bytes) number more h.1 q.0 f in
      let good : IsDescFlags (desc_flags value) = read_of (field.DescFlags entry) value (one_test _ _ h.2) met ∙ (ap (λ k. fields link_config memory (1 - p) (field.DescFlags k)) q.1 ∙ s.flags) in
      by_test (λ m x. Works link_config memory memory p u w (with_marks end m) x) (is_desc_flags (desc_flags value)) [] (refusal field_name.DescFlags (desc_flags value)) (words_place number more entry address bytes [] (words_for bytes)) Refusing
      (λ test. first (words_for bytes) refl h.4.0)
      (λ test. absurd (flags_denies (desc_flags value) test good))
    where
      first : (count : ℕ) → count ≡ words_for bytes → SHORTEST_FRAME ≤ bytes → Works link_config memory memory p u w end (words_place number more entry address bytes [] count)
      first zero e some = absurd (omega arith)
      first (suc words) e some = let q = f.takes.polls in onward (ReadingDescFlags number more entry address bytes) (ReadingFrameWord number more entry address bytes [] words) a.holds.0 tt refl (q.0, q.1, q.2, q.3, refl) f

  -- The word read is the next word of the frame.
  word_is : (number more entry address bytes : ℕ) (read : List ℕ) (words value : ℕ) → value ≡ memory (section_of link_config (1 - p) + (address / 4 + length read)) → EndInvariant link_config memory p end (ReadingFrameWord number more entry address bytes read words) → Facing link_config memory p end (ReadingFrameWord number more entry address bytes read words) u w →
      read ++ value ∷ [] ≡ first_words (frame_at u.accepted number) (suc (length read))
  word_is number more entry address bytes read words value met a f = let h = a.holds in let q = f.takes.polls in let s = in_hand (ReadingFrameWord number more entry address bytes read words) number more h.1 q.0 f in let g = frame_at u.accepted number in let start = start_in link_config u.accepted number in
      let all = h.5 in let size = q.3 in let below : length read < words_for (length g) = omega arith in let at = q.2 in
      let good = start_good link_config is (lengths_of u.accepted) number s.offered.most in
      let w : address / 4 + length read ≡ start / 4 + length read = omega arith in
      let same : value ≡ frame_word g (length read) = read_of (field.DataWord (start / 4 + length read)) value (is_word link_config is start (length g) (length read) good below) (met ∙ ap (λ x. memory (section_of link_config (1 - p) + x)) w) ∙ s.words (length read) below in
      ap (λ (l : List ℕ). l ++ value ∷ []) q.4 ∙ ap (λ (x : ℕ). first_words g (length read) ++ x ∷ []) same

  -- The frame delivered is the next one.
  pub frame_is : (number more entry address bytes : ℕ) (read : List ℕ) (value : ℕ) → value ≡ memory (section_of link_config (1 - p) + (address / 4 + length read)) → EndInvariant link_config memory p end (ReadingFrameWord number more entry address bytes read zero) → Facing link_config memory p end (ReadingFrameWord number more entry address bytes read zero) u w →
      frame_in bytes (read ++ value ∷ []) ≡ frame_at u.accepted number
  frame_is number more entry address bytes read value met a f = let h = a.holds in let q = f.takes.polls in let g = frame_at u.accepted number in let s = in_hand (ReadingFrameWord number more entry address bytes read zero) number more h.1 q.0 f in let all = h.5 in let size = q.3 in
      let whole : read ++ value ∷ [] ≡ first_words g (words_for (length g)) = word_is number more entry address bytes read zero value met a f ∙ ap (first_words g) (let e : suc (length read) ≡ words_for (length g) = omega arith in e) in
      ap (λ k. frame_in k (read ++ value ∷ [])) q.3 ∙ (ap (frame_in (length g)) whole ∙ frames_come_whole g s.offered.bytes)

  pub takes_word : (number more entry address bytes : ℕ) (read : List ℕ) (words value : ℕ) → value ≡ memory (section_of link_config (1 - p) + (address / 4 + length read)) → EndInvariant link_config memory p end (ReadingFrameWord number more entry address bytes read words) → Facing link_config memory p end (ReadingFrameWord number more entry address bytes read words) u w →
      Goes (ReadingFrameWord number more entry address bytes read words) value
  takes_word number more entry address bytes read (suc words) value met a f = let q = f.takes.polls in let n = length-append read (value ∷ []) in let next = ReadingFrameWord number more entry address bytes (read ++ value ∷ []) words in
      let whole = word_is number more entry address bytes read (suc words) value met a f in
      subst (λ (m : List Mark). Works link_config memory memory p u w (with_marks end m) next) (sym (no (suc words == 0) (Deliver (frame_in bytes (read ++ value ∷ [])) ∷ []) [] (ne_eqb (suc words) 0 (λ e. omega arith))))
      (onward (ReadingFrameWord number more entry address bytes read (suc words)) next a.holds.0 tt refl (q.0, q.1, q.2, q.3, whole ∙ ap (first_words (frame_at u.accepted number)) (let e : suc (length read) ≡ length (read ++ value ∷ []) = omega arith in e)) f)
  takes_word number more entry address bytes read zero value met a f = let h = a.holds in let q = f.takes.polls in let t = f.takes in
      let frame = frame_in bytes (read ++ value ∷ []) in
      let is_next = frame_is number more entry address bytes read value met a f in
      let n = length-append end.delivered (frame ∷ []) in let level : length end.delivered ≡ end.returned + 0 = a.level (opened h.0) in let up = q.0 in let number_is = h.1 in
      let same : frame_at u.accepted (length end.delivered) ≡ frame = ap (frame_at u.accepted) (sym number_is) ∙ sym is_next in
      let next = next_frame u.accepted end.delivered t.prefix.0 t.prefix.1 (omega arith) in record {
        run = h.0;
        mark = mark;
        calm = tt;
        sends = f.sends;
        takes = record { returns = t.returns; delivers = let d = t.delivers in omega arith; prefix = (next.0, subst (λ (x : List ℕ). u.accepted ≡ (end.delivered ++ x ∷ []) ++ next.0) same next.1); named = t.named; polls = (q.0, q.1) };
      }

module _ (link_config : LinkConfig) (is : IsLinkConfig link_config) (p : ℕ) (memory after : ℕ → ℕ) (end u : End) (w : Place) (mark : end.handshake.mark ≡ false) where
  pub takes_id : (number more entry value : ℕ) → Puts link_config p memory after (WritingUsedId number more entry) → EndInvariant link_config memory (1 - p) u w → EndInvariant link_config memory p end (WritingUsedId number more entry) → Facing link_config memory p end (WritingUsedId number more entry) u w →
      Works link_config memory after p u w (end_after end (step_at (config_of link_config p) (WritingUsedId number more entry) value)) (WritingUsedLength number more)
  takes_id number more entry value put b a f = let h = a.holds in let t = f.takes in let q = t.polls in let n = numbers link_config is in let few = n.limit_most in let some = n.limit_least in let room = b.room in let number_is = h.1 in let level : length end.delivered ≡ end.returned + 1 = a.level (opened h.0) in let up = q.0 in let reads = room_at link_config memory (1 - p) u w b in record {
    run = h.0;
    mark = mark;
    calm = tt;
    sends = f.sends;
    takes = record {
      returns = t.returns;
      delivers = t.delivers;
      prefix = t.prefix;
      named = λ k from below. put.neighbour_word (field.UsedId (k % size_of link_config.sizes)) (λ e. ring_apart (size_of link_config.sizes) k number (omega arith) (omega arith) (omega arith) (same_id e)) ∙ t.named k from below;
      polls = (q.0, put.here ∙ q.1);
    };
  }
    where
      same_id : {k l : ℕ} → field.UsedId k ≡ field.UsedId l → l ≡ k
      same_id e = cc

  pub takes_amount : (number more value : ℕ) → Puts link_config p memory after (WritingUsedLength number more) → EndInvariant link_config memory p end (WritingUsedLength number more) → Facing link_config memory p end (WritingUsedLength number more) u w →
      Works link_config memory after p u w (end_after end (step_at (config_of link_config p) (WritingUsedLength number more) value)) (WritingUsedIndex number more)
  takes_amount number more value put a f = let q = f.takes.polls in record { run = a.holds.0; mark = mark; calm = tt; sends = f.sends; takes = takes_on (WritingUsedIndex number more) (λ k. put.neighbour_word _ (λ e. cc)) (q.0, put.neighbour_word _ (λ e. cc) ∙ q.1) f.takes }

  pub takes_index : (number more value : ℕ) → Puts link_config p memory after (WritingUsedIndex number more) → EndInvariant link_config memory p end (WritingUsedIndex number more) → Facing link_config memory p end (WritingUsedIndex number more) u w →
      Works link_config memory after p u w (end_after end (step_at (config_of link_config p) (WritingUsedIndex number more) value)) (items_place (number + 1) more)
  takes_index number more value put a f = let h = a.holds in let t = f.takes in let q = t.polls in let number_is = h.1 in let up = q.0 in let level : length end.delivered ≡ end.returned + 1 = a.level (opened h.0) in record {
    run = h.0;
    mark = mark;
    calm = items_calm (number + 1) more;
    sends = subst (λ k. InFlight link_config (fields link_config memory (1 - p)) end.accepted end.freed k u.delivered u.returned w) (items_freed end.freed (number + 1) more) f.sends;
    takes = record {
      returns = let r = t.returns in omega arith;
      delivers = omega arith;
      prefix = t.prefix;
      named = λ k from below. put.neighbour_word _ (λ e. cc) ∙ dite (ℕ_discrete k number)
          (λ e. subst (λ n. fields link_config memory p (field.UsedId (n % size_of link_config.sizes)) ≡ n % limit_of link_config.sizes) (sym e) q.1)
          (λ ne. t.named k from (omega arith));
      polls = items_poll link_config (fields link_config after p) u.accepted (number + 1) more (omega arith);
    };
  }
