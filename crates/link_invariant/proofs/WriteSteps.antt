-- The writes of an offer and of a poll: the invariant of one end.
use Rattle.std.proofs.Common.{◌≡◌, ◌≢◌, ℕ, ◌+◌, ◌*◌, ◌/◌, ◌%◌, ◌<◌, ◌≤◌, Bool, true, false, List, [], ◌∷◌, ◌++◌, length, refl, sym, ap, ◌∙◌, subst, arith}
use mathlib.Core.Logic.{dite}
use native.Mathlib.Decide.{ℕ_discrete}
use Rattle.std.specs.Prelude.{◌==◌, if◌then◌else◌}
use Rattle.std.proofs.lemmas.Bool.Decides.{nat_tests}
use Rattle.std.proofs.lemmas.List.{length-append}
use Rattle.std.proofs.lemmas.Nat.{mod_below}
use Rattle.std.proofs.Math.ListN.{get_or-append}
use Rattle.std.proofs.Math.Seq.{get_or-append_seam}
use Rattle.split_ring.specs.Layout.{has_events, size_of, limit_of, word_offset, DescAddress}
use Rattle.split_ring.specs.Frames.{start_of}
use Rattle.split_ring.proofs.FramesAreLaidOut.{frames_are_laid_out}
use Rattle.split_ring.specs.Layout as ring
use Rattle.split_ring.specs.Spelling.{entry_half}
use Rattle.link_handshake.specs.declared.Phase.TheVariants.{Run}
use Rattle.call_grammar.specs.Ends.{End}
use Rattle.call_grammar.specs.Words.{lengths_of, frame_word, index_word, with_entry}
use Rattle.call_grammar.specs.Offers.{PendingOffer}
use Rattle.call_grammar.specs.Places.{Place, WritingFrameWord, WritingDescAddressLow, WritingDescAddressHigh, WritingDescLength, WritingDescFlags, WritingAvailEntry, WritingAvailIndex, ReadingAvailEvent, RingingOffer, ReadingAvailIndex, WritingAvailEvent, WritingUsedId, WritingUsedLength, WritingUsedIndex, fill_place, notify_place, items_place, access_at}
use Rattle.link_invariant.specs.Fields.{Field, is_field, field_word, part_of}
use Rattle.link_invariant.specs.Fields as field
use Rattle.link_invariant.specs.LinkConfig.{LinkConfig, IsLinkConfig, section_of, config_of, fields}
use Rattle.link_invariant.specs.Steps.{Stored, MemoryAfter}
use Rattle.link_invariant.specs.EndInvariant.{frame_at, start_in, Spelled, IsNext, start_for, HasRoom, Filled, PlaceInvariant, counts, EndInvariant}
use Rattle.link_invariant.proofs.Fields.{numbers, one_test, is_word, field_read, Entries, Put, put_of, written_kept}
use Rattle.link_invariant.proofs.EndObligations.{run_ready, opened, free, spelled_kept, next_kept, filled_kept, pending_is_good, start_before, Puts, free_descriptor, free_entry, free_word, writes}
use Rattle.link_invariant.proofs.ReadSteps.{StepsTo, fill_holds, items_holds}

-- Two words of one frame are different fields.
word_same : (start i j : ℕ) → field.DataWord (start + i) ≡ field.DataWord (start + j) → i ≡ j
word_same start i j e = let w = ap word_of_field e in omega arith
  where
    word_of_field : Field → ℕ
    word_of_field (field.DataWord w) = w
    word_of_field f = 0

-- One more frame.
longer : (xs : List (List ℕ)) (x : List ℕ) → length (xs ++ x ∷ []) ≡ length xs + 1
longer xs x = length-append xs (x ∷ [])

-- The half of a word that an entry's write changes, and the other half.
entry_here : (k word d : ℕ) → d < 65536 → entry_half k (with_entry k word d) ≡ d
entry_here k word d low = dite (ℕ_discrete (k % 2) 0) (λ e. grind (arith, nat_tests)) (λ ne. grind (arith, nat_tests))

entry_there : (k l word d : ℕ) → l ≢ k → l / 2 ≡ k / 2 → d < 65536 → entry_half l (with_entry k word d) ≡ entry_half l word
entry_there k l word d ne half low = dite (ℕ_discrete (k % 2) 0)
    (λ even. let odd : l % 2 ≢ 0 = omega arith in grind (arith, nat_tests))
    (λ odd. let even : l % 2 ≡ 0 = omega arith in grind (arith, nat_tests))

-- The place after the write of the available index.
pub notify_holds : (link_config : LinkConfig) (memory : ℕ → ℕ) (p : ℕ) (end : End) (number : ℕ) → end.handshake.phase ≡ Run → number + 1 ≡ length end.accepted → PlaceInvariant link_config memory p end (notify_place (config_of link_config p) number) × (counts (notify_place (config_of link_config p) number) ≡ (0, 0))
notify_holds link_config memory p end number run next = by_bool (has_events link_config.sizes)
  where
    by_bool : (b : Bool) → PlaceInvariant link_config memory p end (if b then ReadingAvailEvent number else RingingOffer) × (counts (if b then ReadingAvailEvent number else RingingOffer) ≡ (0, 0))
    by_bool true = ((run, next), refl)
    by_bool false = (run, refl)

module _ (link_config : LinkConfig) (is : IsLinkConfig link_config) (p : ℕ) (p2 : p < 2) (memory after : ℕ → ℕ) (end : End) where
  -- A write of a field that is alone in its word.
  puts : (f : Field) (v n : ℕ) → is_field link_config.sizes f ≡ true → ((t : Field) → Entries f t → ⊥) → part_of f v ≡ n → Stored memory after (section_of link_config p + field_word link_config.sizes f) v → Put link_config memory after p f n
  puts f v n spot lone here stored = put_of link_config is memory after p p2 f v n spot stored here (λ t ne h two. absurd (lone t two))

  descriptor : (pending : PendingOffer) → pending.number % limit_of link_config.sizes < size_of link_config.sizes
  descriptor pending = let b = numbers link_config is in let least = b.limit_least in let most = b.limit_most in let low = mod_below pending.number (limit_of link_config.sizes) least in omega arith

  turn_low : (number : ℕ) → number % size_of link_config.sizes < size_of link_config.sizes
  turn_low number = let least = (numbers link_config is).size_least in mod_below number (size_of link_config.sizes) (omega arith)

  -- The number of frames in flight is below the limit.
  spare_of : (pending : PendingOffer) → HasRoom link_config pending end.freed → pending.number < end.freed + limit_of link_config.sizes
  spare_of pending room = frames_are_laid_out.few link_config.sizes pending.lengths end.freed pending.number room

  -- The descriptor of the pending offer holds no frame in flight.
  unused : (pending : PendingOffer) (count : ℕ) → Filled link_config (fields link_config memory p) end.accepted end.freed pending count → (k : ℕ) × (end.freed ≤ k) × (k < length end.accepted) × (pending.number % limit_of link_config.sizes ≡ k % limit_of link_config.sizes) → ⊥
  unused pending count filled live = free_descriptor link_config end.freed (length end.accepted) pending.number (numbers link_config is).limit_least filled.next.number (spare_of pending filled.room) live

  -- The neighbouring entry of the word stays.
  entry_beside : (pending : PendingOffer) → IsNext link_config (fields link_config memory p) end.accepted pending → pending.number % limit_of link_config.sizes < 65536 → (t : Field) → t ≢ field.AvailEntry (pending.number % size_of link_config.sizes) → is_field link_config.sizes t ≡ true → Entries (field.AvailEntry (pending.number % size_of link_config.sizes)) t →
      part_of t (with_entry (pending.number % size_of link_config.sizes) pending.neighbour_word (pending.number % limit_of link_config.sizes)) ≡ part_of t (memory (section_of link_config p + word_offset link_config.sizes (ring.AvailEntry (pending.number % size_of link_config.sizes))))
  entry_beside pending next low (field.AvailEntry l) ne spot half = let k = pending.number % size_of link_config.sizes in let other : l ≢ k = λ e. ne (ap field.AvailEntry e) in
      let w : section_of link_config p + word_offset link_config.sizes (ring.AvailEntry k) ≡ section_of link_config p + field_word link_config.sizes (field.AvailEntry l) = omega arith in
      entry_there k l pending.neighbour_word (pending.number % limit_of link_config.sizes) other half low ∙ (next.neighbour_word l other half ∙ sym (field_read link_config memory p (field.AvailEntry l) (memory (section_of link_config p + word_offset link_config.sizes (ring.AvailEntry k))) spot (ap memory w)))
  entry_beside pending next low t ne spot half = absurd half

  high_index : (n : ℕ) → 65536 * (n % 65536) / 65536 ≡ n % 65536
  high_index n = omega arith

  low_event : (n : ℕ) → n % 65536 % 65536 ≡ n % 65536
  low_event n = omega arith

  even : (length_of : ℕ → ℕ) (k : ℕ) → start_of link_config.sizes length_of k % 4 ≡ 0
  even length_of k = (frames_are_laid_out.placed link_config.sizes length_of k is.queue).even

  next_start : (pending : PendingOffer) → pending.lengths ≡ lengths_of (end.accepted ++ pending.frame ∷ []) → pending.number ≡ length end.accepted → start_for link_config pending ≡ start_in link_config (end.accepted ++ pending.frame ∷ []) (length end.accepted)
  next_start pending lengths number = ap (λ (l : ℕ → ℕ). start_of link_config.sizes l pending.number) lengths ∙ ap (start_of link_config.sizes (lengths_of (end.accepted ++ pending.frame ∷ []))) number

  -- The field that the step at a place writes.
  pub place_puts : (place : Place) → MemoryAfter p memory (access_at (config_of link_config p) place) after → PlaceInvariant link_config memory p end place → Puts link_config p memory after place
  place_puts (WritingFrameWord pending at more) stored h = let start = start_for link_config pending in let all = h.2 in
      let x : section_of link_config p + start / 4 + at ≡ section_of link_config p + (start / 4 + at) = omega arith in
      puts (field.DataWord (start / 4 + at)) (frame_word pending.frame at) _ (is_word link_config is start (length pending.frame) at (pending_is_good is h.1.next) (omega arith)) (λ t e. e) refl (subst (λ w. Stored memory after w (frame_word pending.frame at)) x stored)
  place_puts (WritingDescAddressLow pending) stored h = puts (field.AddressLow (pending.number % limit_of link_config.sizes)) _ _ (one_test _ _ (descriptor pending)) (λ t e. e) refl stored
  place_puts (WritingDescAddressHigh pending) stored h = let i = pending.number % limit_of link_config.sizes in
      let x : section_of link_config p + word_offset link_config.sizes (DescAddress i) + 1 ≡ section_of link_config p + (word_offset link_config.sizes (DescAddress i) + 1) = omega arith in
      puts (field.AddressHigh i) 0 0 (one_test _ _ (descriptor pending)) (λ t e. e) refl (subst (λ w. Stored memory after w 0) x stored)
  place_puts (WritingDescLength pending) stored h = puts (field.DescLength (pending.number % limit_of link_config.sizes)) _ _ (one_test _ _ (descriptor pending)) (λ t e. e) refl stored
  place_puts (WritingDescFlags pending) stored h = puts (field.DescFlags (pending.number % limit_of link_config.sizes)) 0 0 (one_test _ _ (descriptor pending)) (λ t e. e) refl stored
  place_puts (WritingAvailEntry pending) stored h = let k = pending.number % size_of link_config.sizes in let d = pending.number % limit_of link_config.sizes in
      let low : d < 65536 = let few = (numbers link_config is).size_most in let under = descriptor pending in omega arith in
      put_of link_config is memory after p p2 (field.AvailEntry k) (with_entry k pending.neighbour_word d) d (one_test _ _ (turn_low pending.number)) stored (entry_here k pending.neighbour_word d low) (entry_beside pending h.1.next low)
  place_puts (WritingAvailIndex pending) stored h = puts field.AvailIndex (index_word (pending.number + 1)) _ refl (λ t e. e) (high_index (pending.number + 1)) stored
  place_puts (WritingAvailEvent taken) stored h = puts field.AvailEvent (taken % 65536) _ refl (λ t e. e) (low_event taken) stored
  place_puts (WritingUsedId number more entry) stored h = puts (field.UsedId (number % size_of link_config.sizes)) entry _ (one_test _ _ (turn_low number)) (λ t e. e) refl stored
  place_puts (WritingUsedLength number more) stored h = puts (field.UsedLength (number % size_of link_config.sizes)) 1 _ (one_test _ _ (turn_low number)) (λ t e. e) refl stored
  place_puts (WritingUsedIndex number more) stored h = puts field.UsedIndex (index_word (number + 1)) _ refl (λ t e. e) (high_index (number + 1)) stored
  place_puts place stored h = tt

  pub fills : (pending : PendingOffer) (at more value : ℕ) → Stored memory after (section_of link_config p + start_for link_config pending / 4 + at) (frame_word pending.frame at) → EndInvariant link_config memory p end (WritingFrameWord pending at more) → StepsTo link_config p after end (WritingFrameWord pending at more) value
  fills pending at more value stored a = let h = a.holds in let start = start_for link_config pending in let f = field.DataWord (start / 4 + at) in let all = h.2 in
      let put = place_puts (WritingFrameWord pending at more) stored h in
      let now : Filled link_config (fields link_config after p) end.accepted end.freed pending (at + 1) = record {
        next = next_kept (λ e ne. put.neighbour_word _ (λ e. cc)) h.1.next;
        room = h.1.room;
        words = λ j lt. dite (ℕ_discrete j at)
            (λ e. ap (λ k. fields link_config after p (field.DataWord (start / 4 + k))) e ∙ (put.here ∙ ap (frame_word pending.frame) (sym e)))
            (λ ne. put.neighbour_word (field.DataWord (start / 4 + j)) (λ e. ne (word_same _ j at e)) ∙ h.1.words j (omega arith));
      } in
      let next = fill_holds link_config after p (record end { written = λ w. if w == section_of link_config p + start / 4 + at then frame_word pending.frame at else end.written w }) pending (at + 1) more h.0 (omega arith) now in
      writes link_config is memory after p end (WritingFrameWord pending at more) (fill_place pending (at + 1) more) f (section_of link_config p + start / 4 + at) (frame_word pending.frame at) (frame_word pending.frame at) h.0 a.rests stored put (free_word end.freed at is h.1.next h.1.room (omega arith)) next.0 next.1 a

  pub lowers : (pending : PendingOffer) (value : ℕ) → MemoryAfter p memory (access_at (config_of link_config p) (WritingDescAddressLow pending)) after → EndInvariant link_config memory p end (WritingDescAddressLow pending) → StepsTo link_config p after end (WritingDescAddressLow pending) value
  lowers pending value stored a = let h = a.holds in let i = pending.number % limit_of link_config.sizes in let f = field.AddressLow i in
      let put = place_puts (WritingDescAddressLow pending) stored h in
      writes link_config is memory after p end (WritingDescAddressLow pending) (WritingDescAddressHigh pending) f _ _ _ h.0 a.rests stored put (unused pending _ h.1)
      (h.0, filled_kept (λ e ne. put.neighbour_word _ (λ e. cc)) (λ j. put.neighbour_word _ (λ e. cc)) h.1, put.here) refl a

  pub heightens : (pending : PendingOffer) (value : ℕ) → MemoryAfter p memory (access_at (config_of link_config p) (WritingDescAddressHigh pending)) after → EndInvariant link_config memory p end (WritingDescAddressHigh pending) → StepsTo link_config p after end (WritingDescAddressHigh pending) value
  heightens pending value stored a = let h = a.holds in let i = pending.number % limit_of link_config.sizes in let f = field.AddressHigh i in
      let put = place_puts (WritingDescAddressHigh pending) stored h in
      writes link_config is memory after p end (WritingDescAddressHigh pending) (WritingDescLength pending) f _ _ _ h.0 a.rests stored put (unused pending _ h.1)
      (h.0, filled_kept (λ e ne. put.neighbour_word _ (λ e. cc)) (λ j. put.neighbour_word _ (λ e. cc)) h.1, put.neighbour_word _ (λ e. cc) ∙ h.2, put.here) refl a

  pub measures : (pending : PendingOffer) (value : ℕ) → MemoryAfter p memory (access_at (config_of link_config p) (WritingDescLength pending)) after → EndInvariant link_config memory p end (WritingDescLength pending) → StepsTo link_config p after end (WritingDescLength pending) value
  measures pending value stored a = let h = a.holds in let i = pending.number % limit_of link_config.sizes in let f = field.DescLength i in
      let put = place_puts (WritingDescLength pending) stored h in
      writes link_config is memory after p end (WritingDescLength pending) (WritingDescFlags pending) f _ _ _ h.0 a.rests stored put (unused pending _ h.1)
      (h.0, filled_kept (λ e ne. put.neighbour_word _ (λ e. cc)) (λ j. put.neighbour_word _ (λ e. cc)) h.1, put.neighbour_word _ (λ e. cc) ∙ h.2, put.neighbour_word _ (λ e. cc) ∙ h.3, put.here) refl a

  pub unflags : (pending : PendingOffer) (value : ℕ) → MemoryAfter p memory (access_at (config_of link_config p) (WritingDescFlags pending)) after → EndInvariant link_config memory p end (WritingDescFlags pending) → StepsTo link_config p after end (WritingDescFlags pending) value
  unflags pending value stored a = let h = a.holds in let i = pending.number % limit_of link_config.sizes in let f = field.DescFlags i in
      let put = place_puts (WritingDescFlags pending) stored h in
      writes link_config is memory after p end (WritingDescFlags pending) (WritingAvailEntry pending) f _ _ _ h.0 a.rests stored put (unused pending _ h.1)
      (h.0, filled_kept (λ e ne. put.neighbour_word _ (λ e. cc)) (λ j. put.neighbour_word _ (λ e. cc)) h.1, put.neighbour_word _ (λ e. cc) ∙ h.2, put.neighbour_word _ (λ e. cc) ∙ h.3, put.neighbour_word _ (λ e. cc) ∙ h.4, put.here) refl a

  pub enters : (pending : PendingOffer) (value : ℕ) → MemoryAfter p memory (access_at (config_of link_config p) (WritingAvailEntry pending)) after → EndInvariant link_config memory p end (WritingAvailEntry pending) → StepsTo link_config p after end (WritingAvailEntry pending) value
  enters pending value stored a = let h = a.holds in let k = pending.number % size_of link_config.sizes in let d = pending.number % limit_of link_config.sizes in let f = field.AvailEntry k in let b = numbers link_config is in
      let put = place_puts (WritingAvailEntry pending) stored h in
      writes link_config is memory after p end (WritingAvailEntry pending) (WritingAvailIndex pending) f _ _ _ h.0 a.rests stored put (λ live. free_entry link_config end.freed (length end.accepted) pending.number b.limit_least b.limit_most h.1.next.number (spare_of pending h.1.room) live)
      (h.0, h.1.next.number, h.1.next.lengths, h.1.room, record { offered = h.1.next.frame; entry = put.here; low = put.neighbour_word _ (λ e. cc) ∙ h.2; high = put.neighbour_word _ (λ e. cc) ∙ h.3; size = put.neighbour_word _ (λ e. cc) ∙ h.4; flags = put.neighbour_word _ (λ e. cc) ∙ h.5; words = λ j lt. put.neighbour_word _ (λ e. cc) ∙ h.1.words j lt }) refl a

  pub publishes : (pending : PendingOffer) (value : ℕ) → MemoryAfter p memory (access_at (config_of link_config p) (WritingAvailIndex pending)) after → EndInvariant link_config memory p end (WritingAvailIndex pending) → StepsTo link_config p after end (WritingAvailIndex pending) value
  publishes pending value stored a = let h = a.holds in let n = length end.accepted in let frame = pending.frame in let run = h.0 in let s = a.sent (opened run) in let count = longer end.accepted frame in let number = h.1 in let spare = spare_of pending h.3 in
      let put = place_puts (WritingAvailIndex pending) stored h in
      let keep : (k start : ℕ) (g : List ℕ) → start % 4 ≡ 0 → Spelled link_config (fields link_config memory p) k start g → Spelled link_config (fields link_config after p) k start g = λ k start g even. spelled_kept even (λ f live na nu. put.neighbour_word f na) in
      let now : End = record end { written = λ w. if w == section_of link_config p + word_offset link_config.sizes ring.AvailIndex then index_word (pending.number + 1) else end.written w; accepted = end.accepted ++ frame ∷ [] } in
      let x = notify_holds link_config after p now pending.number run (omega arith) in record {
        state = put.state ∙ a.state;
        written = written_kept memory after (section_of link_config p) _ _ link_config.words end.written stored a.written;
        holds = x.0;
        rests = free now (notify_place (config_of link_config p) pending.number) a.rests;
        ready = λ two. absurd (run_ready run two);
        level = λ o. a.level o ∙ ap (λ (c : ℕ × ℕ). end.returned + c.0) (sym x.1);
        sent = λ o. record {
          available = put.here ∙ ap (λ k. k % 65536) (let e : pending.number + 1 ≡ length (end.accepted ++ frame ∷ []) = omega arith in e);
          used = put.neighbour_word _ (λ e. cc) ∙ s.used;
          spelled = λ k from below. dite (ℕ_discrete k n)
              (λ e. subst (λ i. Spelled link_config (fields link_config after p) i (start_in link_config (end.accepted ++ frame ∷ []) i) (frame_at (end.accepted ++ frame ∷ []) i)) (sym e)
              (subst (Spelled link_config (fields link_config after p) n (start_in link_config (end.accepted ++ frame ∷ []) n)) (sym (get_or-append_seam end.accepted frame [] []))
              (subst (λ start. Spelled link_config (fields link_config after p) n start frame) (next_start pending h.2 number)
              (subst (λ i. Spelled link_config (fields link_config after p) i (start_for link_config pending) frame) number (keep pending.number (start_for link_config pending) frame (even pending.lengths pending.number) h.4)))))
              (λ ne. let low : k < n = omega arith in
              subst (Spelled link_config (fields link_config after p) k (start_in link_config (end.accepted ++ frame ∷ []) k)) (sym (get_or-append end.accepted (frame ∷ []) [] k low))
              (subst (λ start. Spelled link_config (fields link_config after p) k start (frame_at end.accepted k)) (sym (start_before link_config end.accepted frame k low))
              (keep k (start_in link_config end.accepted k) (frame_at end.accepted k) (even (lengths_of end.accepted) k) (s.spelled k from low))));
        };
        freed = let f = a.freed in omega arith;
        room = omega arith;
      }

  pub arms : (taken value : ℕ) → MemoryAfter p memory (access_at (config_of link_config p) (WritingAvailEvent taken)) after → EndInvariant link_config memory p end (WritingAvailEvent taken) → StepsTo link_config p after end (WritingAvailEvent taken) value
  arms taken value stored a = let h = a.holds in
      let put = place_puts (WritingAvailEvent taken) stored h in
      writes link_config is memory after p end (WritingAvailEvent taken) (ReadingAvailIndex taken true) field.AvailEvent _ _ _ h.0 a.rests stored put (λ live. live.3) h refl a

  pub gives_id : (number more entry value : ℕ) → MemoryAfter p memory (access_at (config_of link_config p) (WritingUsedId number more entry)) after → EndInvariant link_config memory p end (WritingUsedId number more entry) → StepsTo link_config p after end (WritingUsedId number more entry) value
  gives_id number more entry value stored a = let h = a.holds in let k = number % size_of link_config.sizes in
      let put = place_puts (WritingUsedId number more entry) stored h in
      writes link_config is memory after p end (WritingUsedId number more entry) (WritingUsedLength number more) (field.UsedId k) _ _ _ h.0 a.rests stored put (λ live. live.3) (h.0, h.1, h.3) refl a

  pub gives_length : (number more value : ℕ) → MemoryAfter p memory (access_at (config_of link_config p) (WritingUsedLength number more)) after → EndInvariant link_config memory p end (WritingUsedLength number more) → StepsTo link_config p after end (WritingUsedLength number more) value
  gives_length number more value stored a = let h = a.holds in let k = number % size_of link_config.sizes in
      let put = place_puts (WritingUsedLength number more) stored h in
      writes link_config is memory after p end (WritingUsedLength number more) (WritingUsedIndex number more) (field.UsedLength k) _ _ _ h.0 a.rests stored put (λ live. live.3) h refl a

  pub gives_index : (number more value : ℕ) → MemoryAfter p memory (access_at (config_of link_config p) (WritingUsedIndex number more)) after → EndInvariant link_config memory p end (WritingUsedIndex number more) → StepsTo link_config p after end (WritingUsedIndex number more) value
  gives_index number more value stored a = let h = a.holds in let run = h.0 in let number_is = h.1 in let s = a.sent (opened run) in let level = a.level (opened run) in
      let put = place_puts (WritingUsedIndex number more) stored h in
      let now : End = record end { written = λ w. if w == section_of link_config p + word_offset link_config.sizes ring.UsedIndex then index_word (number + 1) else end.written w; returned = end.returned + 1 } in
      let x = items_holds link_config after p now (number + 1) more run (omega arith) (let few = h.2 in omega arith) in record {
        state = put.state ∙ a.state;
        written = written_kept memory after (section_of link_config p) _ _ link_config.words end.written stored a.written;
        holds = x.0;
        rests = free now (items_place (number + 1) more) a.rests;
        ready = λ two. absurd (run_ready run two);
        level = λ o. let none = ap (λ (c : ℕ × ℕ). c.0) x.1 in omega arith;
        sent = λ o. record {
          available = put.neighbour_word _ (λ e. cc) ∙ s.available;
          used = put.here ∙ ap (λ k. (k + 1) % 65536) number_is;
          spelled = λ k from below. spelled_kept (even (lengths_of end.accepted) k) (λ f live na nu. put.neighbour_word f nu) (s.spelled k from below);
        };
        freed = a.freed;
        room = a.room;
      }
