-- The invariant of one end is preserved.
use Rattle.std.proofs.Common.{◌≡◌, ◌≢◌, ℕ, suc, zero, ◌+◌, ◌%◌, ◌<◌, Bool, true, false, List, length, refl, sym, ap, ◌∙◌, subst, arith}
use Rattle.std.specs.Prelude.{if◌then◌else◌, nat_lt}
use Rattle.std.proofs.lemmas.Nat.{mod_below}
use Rattle.split_ring.specs.Layout.{size_of, word_offset, AvailEntry}
use Rattle.split_ring.specs.declared.steps.Access.TheVariants as access
use Rattle.link_handshake.specs.declared.Phase.{Phase}
use Rattle.link_handshake.specs.declared.Phase.TheVariants.{Reset, Init, Ready, Run}
use Rattle.link_handshake.specs.PhaseTable.{state_of}
use Rattle.call_grammar.specs.Ends.{End}
use Rattle.call_grammar.specs.Polls.{is_last}
use Rattle.call_grammar.specs.Calls.{Call, Tick, Stop, Offer, Poll, in_run, pending_of}
use Rattle.call_grammar.specs.Places.{Place, Closed, ReadingOtherState, Clearing, WritingState, Refusing, NotInRun, ReadingUsedIndex, ReadingUsedId, WritingFrameWord, WritingDescAddressLow, WritingDescAddressHigh, WritingDescLength, WritingDescFlags, WritingAvailEntry, WritingAvailIndex, ReadingAvailEvent, RingingOffer, ReadingAvailIndex, WritingAvailEvent, ReadingAvailEntry, ReadingDescAddressLow, ReadingDescAddressHigh, ReadingDescLength, ReadingDescFlags, ReadingFrameWord, WritingUsedId, WritingUsedLength, WritingUsedIndex, RingingPoll, first_place, access_at, is_open}
use Rattle.link_invariant.specs.Fields.{Field, field_word, part_of}
use Rattle.link_invariant.specs.Fields as field
use Rattle.link_invariant.specs.LinkConfig.{LinkConfig, IsLinkConfig, section_of, config_of, fields, IsOffered, IsGivenTo}
use Rattle.link_invariant.specs.Steps.{IsUntouched, OnlyOwnChange, MemoryAfter}
use Rattle.link_invariant.specs.EndInvariant.{IsNext, MaySet, PlaceInvariant, RefusalIsFinal, EndInvariant}
use Rattle.link_invariant.specs.Laws.{EndInvariantIsKept}
use Rattle.link_invariant.proofs.Fields.{numbers, one_test, inside, field_read, fields_same}
use Rattle.link_invariant.proofs.EndObligations.{comes, moves, spelled_same, sent_same, next_kept, filled_kept}
use Rattle.link_invariant.proofs.ReadSteps.{StepsTo, reads_used_index, reads_id, event_read_step, reads_avail_index, reads_entry, reads_low, reads_high, reads_length, reads_flags, reads_word}
use Rattle.link_invariant.proofs.WriteSteps.{place_puts, fills, lowers, heightens, measures, unflags, enters, publishes, arms, gives_id, gives_length, gives_index}
use Rattle.link_invariant.proofs.TickSteps.{not_phase, reads_state, clears, falls, sets}

still : (link_config : LinkConfig) (p : ℕ) (memory after : ℕ → ℕ) (end : End) (place : Place) (value : ℕ) → after ≡ memory → StepsTo link_config p memory end place value → StepsTo link_config p after end place value
still link_config p memory after end place value e h = subst (λ (k : ℕ → ℕ). StepsTo link_config p k end place value) (sym e) h

step_keeps_end : (link_config : LinkConfig) (p : ℕ) (memory after : ℕ → ℕ) (end : End) (place : Place) (value : ℕ) → IsLinkConfig link_config → p < 2 → is_open place ≡ true → MemoryAfter p memory (access_at (config_of link_config p) place) after → EndInvariant link_config memory p end place → StepsTo link_config p after end place value
step_keeps_end link_config p memory after end Closed value is p2 opened left a = let f : false ≡ true = opened in absurd (let g : ⊥ = cc in g)
step_keeps_end link_config p memory after end (ReadingOtherState handshake) value is p2 opened left a = still link_config p memory after end (ReadingOtherState handshake) value left (reads_state link_config p memory after end handshake value a)
step_keeps_end link_config p memory after end (Clearing at more state) value is p2 opened left a = clears link_config p memory after end at more state value is p2 left a
step_keeps_end link_config p memory after end (WritingState state) value is p2 opened left a = sets link_config p memory after end state value is p2 left a
step_keeps_end link_config p memory after end Refusing value is p2 opened left a = falls link_config p memory after end Refusing end.handshake.mark is p2 left a
step_keeps_end link_config p memory after end NotInRun value is p2 opened left a = still link_config p memory after end NotInRun value left (comes Closed tt refl a.rests a)
step_keeps_end link_config p memory after end (ReadingUsedIndex pending freed) value is p2 opened left a = still link_config p memory after end (ReadingUsedIndex pending freed) value left (reads_used_index link_config p memory end pending freed value a)
step_keeps_end link_config p memory after end (ReadingUsedId pending freed more) value is p2 opened left a = still link_config p memory after end (ReadingUsedId pending freed more) value left (reads_id link_config p memory end pending freed more value a)
step_keeps_end link_config p memory after end (WritingFrameWord pending at more) value is p2 opened left a = fills link_config is p p2 memory after end pending at more value left a
step_keeps_end link_config p memory after end (WritingDescAddressLow pending) value is p2 opened left a = lowers link_config is p p2 memory after end pending value left a
step_keeps_end link_config p memory after end (WritingDescAddressHigh pending) value is p2 opened left a = heightens link_config is p p2 memory after end pending value left a
step_keeps_end link_config p memory after end (WritingDescLength pending) value is p2 opened left a = measures link_config is p p2 memory after end pending value left a
step_keeps_end link_config p memory after end (WritingDescFlags pending) value is p2 opened left a = unflags link_config is p p2 memory after end pending value left a
step_keeps_end link_config p memory after end (WritingAvailEntry pending) value is p2 opened left a = enters link_config is p p2 memory after end pending value left a
step_keeps_end link_config p memory after end (WritingAvailIndex pending) value is p2 opened left a = publishes link_config is p p2 memory after end pending value left a
step_keeps_end link_config p memory after end (ReadingAvailEvent number) value is p2 opened left a = still link_config p memory after end (ReadingAvailEvent number) value left (event_read_step link_config p memory end number value a)
step_keeps_end link_config p memory after end RingingOffer value is p2 opened left a = still link_config p memory after end RingingOffer value left (moves Closed tt refl a.rests a)
step_keeps_end link_config p memory after end (ReadingAvailIndex taken last) value is p2 opened left a = still link_config p memory after end (ReadingAvailIndex taken last) value left (reads_avail_index link_config p memory end taken last value a)
step_keeps_end link_config p memory after end (WritingAvailEvent taken) value is p2 opened left a = arms link_config is p p2 memory after end taken value left a
step_keeps_end link_config p memory after end (ReadingAvailEntry number more) value is p2 opened left a = still link_config p memory after end (ReadingAvailEntry number more) value left (reads_entry link_config p memory end number more value a)
step_keeps_end link_config p memory after end (ReadingDescAddressLow number more entry) value is p2 opened left a = still link_config p memory after end (ReadingDescAddressLow number more entry) value left (reads_low link_config p memory end number more entry value a)
step_keeps_end link_config p memory after end (ReadingDescAddressHigh number more entry low) value is p2 opened left a = still link_config p memory after end (ReadingDescAddressHigh number more entry low) value left (reads_high link_config p memory end number more entry low value a)
step_keeps_end link_config p memory after end (ReadingDescLength number more entry address) value is p2 opened left a = still link_config p memory after end (ReadingDescLength number more entry address) value left (reads_length link_config p memory end number more entry address value a)
step_keeps_end link_config p memory after end (ReadingDescFlags number more entry address bytes) value is p2 opened left a = still link_config p memory after end (ReadingDescFlags number more entry address bytes) value left (reads_flags link_config p memory end number more entry address bytes value a)
step_keeps_end link_config p memory after end (ReadingFrameWord number more entry address bytes read words) value is p2 opened left a = still link_config p memory after end (ReadingFrameWord number more entry address bytes read words) value left (reads_word link_config p memory end number more entry address bytes read words value a)
step_keeps_end link_config p memory after end (WritingUsedId number more entry) value is p2 opened left a = gives_id link_config is p p2 memory after end number more entry value left a
step_keeps_end link_config p memory after end (WritingUsedLength number more) value is p2 opened left a = gives_length link_config is p p2 memory after end number more value left a
step_keeps_end link_config p memory after end (WritingUsedIndex number more) value is p2 opened left a = gives_index link_config is p p2 memory after end number more value left a
step_keeps_end link_config p memory after end RingingPoll value is p2 opened left a = still link_config p memory after end RingingPoll value left (moves Closed tt refl a.rests a)

-- A call begins

pub run_is : (phase : Phase) → in_run phase ≡ true → phase ≡ Run
run_is Reset h = let f : false ≡ true = h in cc
run_is Init h = let f : false ≡ true = h in cc
run_is Ready h = let f : false ≡ true = h in cc
run_is Run h = refl

-- An end in RUN without an open call has no mark.
unmarked : (end : End) → RefusalIsFinal end Closed → end.handshake.phase ≡ Run → end.handshake.mark ≡ false
unmarked end rests run = by_mark end.handshake.mark refl
  where
    by_mark : (b : Bool) → end.handshake.mark ≡ b → end.handshake.mark ≡ false
    by_mark true e = absurd (let s = ap state_of (rests e) in let t = ap state_of run in omega arith)
    by_mark false e = e

either : {link_config : LinkConfig} {memory : ℕ → ℕ} {p : ℕ} {end : End} (b : Bool) (x : Place) → in_run end.handshake.phase ≡ b → (b ≡ true → EndInvariant link_config memory p end x) → EndInvariant link_config memory p end Closed → EndInvariant link_config memory p end (if b then x else NotInRun)
either true x e h a = h refl
either false x e h a = comes NotInRun (λ run. let f : true ≡ false = sym (ap in_run run) ∙ e in cc) refl a.rests a

-- The neighbouring entry is in the last value that the end wrote to that word.
pending_is_next : (link_config : LinkConfig) (memory : ℕ → ℕ) (p : ℕ) (end : End) (frame : List ℕ) → IsLinkConfig link_config → IsOffered link_config frame → EndInvariant link_config memory p end Closed → IsNext link_config (fields link_config memory p) end.accepted (pending_of (config_of link_config p) end frame)
pending_is_next link_config memory p end frame is given a = let n = size_of link_config.sizes in let k = length end.accepted % n in let b = numbers link_config is in let least = b.size_least in let whole = b.size_whole in let below : k < n = mod_below (length end.accepted) n (omega arith) in record {
  frame = given;
  number = refl;
  lengths = refl;
  neighbour_word = λ e ne half. let spot : nat_lt e n ≡ true = one_test e n (omega arith) in
      let place : word_offset link_config.sizes (AvailEntry k) ≡ field_word link_config.sizes (field.AvailEntry e) = omega arith in
      let low : word_offset link_config.sizes (AvailEntry k) < link_config.words = let i = inside link_config is (field.AvailEntry e) spot in omega arith in
      field_read link_config memory p (field.AvailEntry e) _ spot (sym (a.written _ low) ∙ ap (λ w. memory (section_of link_config p + w)) place);
}

begin_keeps_end : (link_config : LinkConfig) (p : ℕ) (memory : ℕ → ℕ) (end : End) (call : Call) → IsLinkConfig link_config → IsGivenTo link_config call → EndInvariant link_config memory p end Closed → EndInvariant link_config memory p end (first_place (config_of link_config p) end call)
begin_keeps_end link_config p memory end Tick is given a = comes (ReadingOtherState end.handshake) refl refl a.rests a
begin_keeps_end link_config p memory end Stop is given a = comes (WritingState 0) tt refl a.rests a
begin_keeps_end link_config p memory end (Offer frame) is given a = either (in_run end.handshake.phase) (ReadingUsedIndex (pending_of (config_of link_config p) end frame) end.freed) refl (λ t. moves (ReadingUsedIndex (pending_of (config_of link_config p) end frame) end.freed) (run_is _ t, pending_is_next link_config memory p end frame is given a, refl) refl (unmarked end a.rests (run_is _ t)) a) a
begin_keeps_end link_config p memory end Poll is given a = either (in_run end.handshake.phase) (ReadingAvailIndex (length end.delivered) (is_last (config_of link_config p) end.found_none)) refl (λ t. moves (ReadingAvailIndex (length end.delivered) (is_last (config_of link_config p) end.found_none)) (run_is _ t, refl) refl (unmarked end a.rests (run_is _ t)) a) a

-- Other words change

set_kept : (link_config : LinkConfig) (memory after : ℕ → ℕ) (p : ℕ) (phase : Phase) (state : ℕ) → ((j : ℕ) → j < link_config.words → after (section_of link_config p + j) ≡ memory (section_of link_config p + j)) → MaySet link_config memory p phase state → MaySet link_config after p phase state
set_kept link_config memory after p phase (suc (suc zero)) keep h = (h.0, record { none = λ j lt. keep j lt ∙ h.1.none j lt })
set_kept link_config memory after p phase state keep h = h

pub holds_kept : (link_config : LinkConfig) (memory after : ℕ → ℕ) (p : ℕ) (end : End) (place : Place) → ((j : ℕ) → j < link_config.words → after (section_of link_config p + j) ≡ memory (section_of link_config p + j)) → ((f : Field) → fields link_config after p f ≡ fields link_config memory p f) → PlaceInvariant link_config memory p end place → PlaceInvariant link_config after p end place
holds_kept link_config memory after p end (Clearing at more state) keep same h = (h.0, h.1, (h.2.0, h.2.1, h.2.2, record { none = λ j lt. keep j (let all = h.2.2 in omega arith) ∙ h.2.3.none j lt }))
holds_kept link_config memory after p end (WritingState state) keep same h = set_kept link_config memory after p end.handshake.phase state keep h
holds_kept link_config memory after p end (ReadingUsedIndex pending freed) keep same h = (h.0, next_kept (λ e ne. same _) h.1, h.2)
holds_kept link_config memory after p end (ReadingUsedId pending freed more) keep same h = (h.0, next_kept (λ e ne. same _) h.1, h.2, h.3)
holds_kept link_config memory after p end (WritingFrameWord pending at more) keep same h = (h.0, filled_kept (λ e ne. same _) (λ j. same _) h.1, h.2)
holds_kept link_config memory after p end (WritingDescAddressLow pending) keep same h = (h.0, filled_kept (λ e ne. same _) (λ j. same _) h.1)
holds_kept link_config memory after p end (WritingDescAddressHigh pending) keep same h = (h.0, filled_kept (λ e ne. same _) (λ j. same _) h.1, same _ ∙ h.2)
holds_kept link_config memory after p end (WritingDescLength pending) keep same h = (h.0, filled_kept (λ e ne. same _) (λ j. same _) h.1, same _ ∙ h.2, same _ ∙ h.3)
holds_kept link_config memory after p end (WritingDescFlags pending) keep same h = (h.0, filled_kept (λ e ne. same _) (λ j. same _) h.1, same _ ∙ h.2, same _ ∙ h.3, same _ ∙ h.4)
holds_kept link_config memory after p end (WritingAvailEntry pending) keep same h = (h.0, filled_kept (λ e ne. same _) (λ j. same _) h.1, same _ ∙ h.2, same _ ∙ h.3, same _ ∙ h.4, same _ ∙ h.5)
holds_kept link_config memory after p end (WritingAvailIndex pending) keep same h = (h.0, h.1, h.2, h.3, spelled_same same h.4)
holds_kept link_config memory after p end place keep same h = h

other_writes_keep_end : (link_config : LinkConfig) (p : ℕ) (memory after : ℕ → ℕ) (end : End) (place : Place) → IsLinkConfig link_config → IsUntouched link_config memory after p → EndInvariant link_config memory p end place → EndInvariant link_config after p end place
other_writes_keep_end link_config p memory after end place is keep a = let same = fields_same link_config memory after p is keep.section in record {
  state = keep.state ∙ a.state;
  written = λ j lt. keep.section j lt ∙ a.written j lt;
  holds = holds_kept link_config memory after p end place keep.section same a.holds;
  rests = a.rests;
  ready = λ e. let b = a.ready e in record { section = record { none = λ j lt. keep.section j lt ∙ b.section.none j lt }; accepted = b.accepted; freed = b.freed; delivered = b.delivered; returned = b.returned };
  level = a.level;
  sent = λ o. sent_same (λ f. same f) (a.sent o);
  freed = a.freed;
  room = a.room;
}

-- Own words

own_writes_keep_section : (link_config : LinkConfig) (p : ℕ) (memory after : ℕ → ℕ) (end : End) (place : Place) → IsLinkConfig link_config → p < 2 → MemoryAfter p memory (access_at (config_of link_config p) place) after → EndInvariant link_config memory p end place → OnlyOwnChange link_config memory after p
own_writes_keep_section link_config p memory after end place is p2 left a = by_place place left a.holds
  where
    none : after ≡ memory → OnlyOwnChange link_config memory after p
    none e w ne apart = ap (λ (m : ℕ → ℕ). m w) e

    by_place : (place : Place) → MemoryAfter p memory (access_at (config_of link_config p) place) after → PlaceInvariant link_config memory p end place → OnlyOwnChange link_config memory after p
    by_place (Clearing at more state) left h = λ w ne apart. let clear = h.2 in let all = clear.2 in left.neighbour_word w (λ e. apart clear.0 (omega arith) (e ∙ clear.1))
    by_place (WritingState state) left h = λ w ne apart. left.neighbour_word w ne
    by_place Refusing left h = λ w ne apart. left.neighbour_word w ne
    by_place (WritingFrameWord pending at more) left h = (place_puts link_config is p p2 memory after end (WritingFrameWord pending at more) left h).only
    by_place (WritingDescAddressLow pending) left h = (place_puts link_config is p p2 memory after end (WritingDescAddressLow pending) left h).only
    by_place (WritingDescAddressHigh pending) left h = (place_puts link_config is p p2 memory after end (WritingDescAddressHigh pending) left h).only
    by_place (WritingDescLength pending) left h = (place_puts link_config is p p2 memory after end (WritingDescLength pending) left h).only
    by_place (WritingDescFlags pending) left h = (place_puts link_config is p p2 memory after end (WritingDescFlags pending) left h).only
    by_place (WritingAvailEntry pending) left h = (place_puts link_config is p p2 memory after end (WritingAvailEntry pending) left h).only
    by_place (WritingAvailIndex pending) left h = (place_puts link_config is p p2 memory after end (WritingAvailIndex pending) left h).only
    by_place (WritingAvailEvent taken) left h = (place_puts link_config is p p2 memory after end (WritingAvailEvent taken) left h).only
    by_place (WritingUsedId number more entry) left h = (place_puts link_config is p p2 memory after end (WritingUsedId number more entry) left h).only
    by_place (WritingUsedLength number more) left h = (place_puts link_config is p p2 memory after end (WritingUsedLength number more) left h).only
    by_place (WritingUsedIndex number more) left h = (place_puts link_config is p p2 memory after end (WritingUsedIndex number more) left h).only
    by_place place left h = none left

-- In RESET an end writes no word.
quiet_place_is_kept : (link_config : LinkConfig) (p : ℕ) (memory : ℕ → ℕ) (end : End) (place : Place) (word value : ℕ) → EndInvariant link_config memory p end place → end.handshake.phase ≡ Reset → access_at (config_of link_config p) place ≢ access.Write word value
quiet_place_is_kept link_config p memory end place word value a reset e = by_place place e a.holds reset
  where
    by_place : (place : Place) → access_at (config_of link_config p) place ≡ access.Write word value → PlaceInvariant link_config memory p end place → end.handshake.phase ≡ Reset → ⊥
    by_place Closed e h = absurd (cc)
    by_place (ReadingOtherState handshake) e h = absurd (cc)
    by_place (Clearing at more state) e h = λ z. not_phase {a = Init} {b = Reset} (λ f. omega arith) h.0 z
    by_place (WritingState state) e h = absurd (cc)
    by_place Refusing e h = absurd (cc)
    by_place NotInRun e h = absurd (cc)
    by_place (ReadingUsedIndex pending freed) e h = absurd (cc)
    by_place (ReadingUsedId pending freed more) e h = absurd (cc)
    by_place (WritingFrameWord pending at more) e h = λ z. not_phase {a = Run} {b = Reset} (λ f. omega arith) h.0 z
    by_place (WritingDescAddressLow pending) e h = λ z. not_phase {a = Run} {b = Reset} (λ f. omega arith) h.0 z
    by_place (WritingDescAddressHigh pending) e h = λ z. not_phase {a = Run} {b = Reset} (λ f. omega arith) h.0 z
    by_place (WritingDescLength pending) e h = λ z. not_phase {a = Run} {b = Reset} (λ f. omega arith) h.0 z
    by_place (WritingDescFlags pending) e h = λ z. not_phase {a = Run} {b = Reset} (λ f. omega arith) h.0 z
    by_place (WritingAvailEntry pending) e h = λ z. not_phase {a = Run} {b = Reset} (λ f. omega arith) h.0 z
    by_place (WritingAvailIndex pending) e h = λ z. not_phase {a = Run} {b = Reset} (λ f. omega arith) h.0 z
    by_place (ReadingAvailEvent number) e h = absurd (cc)
    by_place RingingOffer e h = absurd (cc)
    by_place (ReadingAvailIndex taken last) e h = absurd (cc)
    by_place (WritingAvailEvent taken) e h = λ z. not_phase {a = Run} {b = Reset} (λ f. omega arith) h.0 z
    by_place (ReadingAvailEntry number more) e h = absurd (cc)
    by_place (ReadingDescAddressLow number more entry) e h = absurd (cc)
    by_place (ReadingDescAddressHigh number more entry low) e h = absurd (cc)
    by_place (ReadingDescLength number more entry address) e h = absurd (cc)
    by_place (ReadingDescFlags number more entry address bytes) e h = absurd (cc)
    by_place (ReadingFrameWord number more entry address bytes read words) e h = absurd (cc)
    by_place (WritingUsedId number more entry) e h = λ z. not_phase {a = Run} {b = Reset} (λ f. omega arith) h.0 z
    by_place (WritingUsedLength number more) e h = λ z. not_phase {a = Run} {b = Reset} (λ f. omega arith) h.0 z
    by_place (WritingUsedIndex number more) e h = λ z. not_phase {a = Run} {b = Reset} (λ f. omega arith) h.0 z
    by_place RingingPoll e h = absurd (cc)

pub alone_kept : EndInvariantIsKept
alone_kept = record { begins = begin_keeps_end; steps = step_keeps_end; own = own_writes_keep_section; quiet = quiet_place_is_kept; resets = λ link_config p memory after end place is p2 stored a. falls link_config p memory after end place false is p2 stored a; others = other_writes_keep_end }
