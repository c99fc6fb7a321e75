-- The avail_event of an end whose last read of the available index found no frame is the next
-- frame's number.
use Rattle.std.proofs.Common.{◌≡◌, ◌≢◌, ℕ, zero, suc, ◌+◌, ◌-◌, ◌%◌, ◌<◌, Bool, true, false, List, [], ◌∷◌, ◌++◌, length, refl, sym, ap, ◌∙◌, subst}
use Rattle.std.specs.Prelude.{◌==◌, ◌||◌, not, if◌then◌else◌}
use Rattle.split_ring.specs.declared.ranges.FieldName.TheVariants as field_name
use Rattle.split_ring.specs.Layout.{has_events}
use Rattle.split_ring.specs.Spelling.{low_half, high_half, desc_flags}
use Rattle.split_ring.specs.Ranges.{is_avail_entry, is_desc_address, is_desc_length, is_desc_flags, is_used_id, is_avail_index, is_used_index}
use Rattle.link_handshake.specs.declared.Phase.{Phase}
use Rattle.link_handshake.specs.declared.Phase.TheVariants.{Reset, Init, Ready, Run}
use Rattle.link_handshake.specs.declared.Move.{Move}
use Rattle.link_handshake.specs.declared.Move.TheVariants.{Stay, Set, ClearThenSet}
use Rattle.link_handshake.specs.HandshakeState.{move_of}
use Rattle.call_grammar.specs.Steps.{Mark, Reclaim, Full, Look, Deliver, Done, Over}
use Rattle.call_grammar.specs.Ends.{End, with_access, with_marks, after_reset, end_after}
use Rattle.call_grammar.specs.Words.{words_for, address_of, frame_in}
use Rattle.call_grammar.specs.Ticks.{tick_marks}
use Rattle.call_grammar.specs.Calls.{EndConfig, Call, Tick, Stop, Offer, Poll, in_run, pending_of}
use Rattle.call_grammar.specs.Offers.{PendingOffer, frame_fits, descriptor_of, refusal, full_marks, returned_by, reclaim_marks, wants_doorbell}
use Rattle.call_grammar.specs.Polls.{is_last, entry_in, published_by, look_marks}
use Rattle.call_grammar.specs.Places.{Place, Closed, ReadingOtherState, Clearing, WritingState, Refusing, NotInRun, ReadingUsedIndex, ReadingUsedId, WritingFrameWord, WritingAvailIndex, ReadingAvailEvent, RingingOffer, ReadingAvailIndex, WritingAvailEvent, ReadingAvailEntry, ReadingDescAddressLow, ReadingDescAddressHigh, ReadingDescLength, ReadingDescFlags, ReadingFrameWord, WritingUsedId, WritingUsedLength, WritingUsedIndex, RingingPoll, clear_place, tick_place, fill_place, ids_place, items_place, words_place, first_place, access_at, next_place, step_at, is_open}
use Rattle.link_invariant.specs.Fields.{AvailEvent}
use Rattle.link_invariant.specs.LinkConfig.{LinkConfig, IsLinkConfig, config_of, fields}
use Rattle.link_invariant.specs.Steps.{MemoryAfter}
use Rattle.link_invariant.specs.EndInvariant.{PlaceInvariant}
use Rattle.link_invariant.proofs.WriteSteps.{place_puts}
use Rattle.link_invariant.proofs.DoorbellIsRung.{event_stays}

-- avail_event is the number of the next frame to be delivered.
abbrev pub Stood : ℕ → End → Type 0
Stood event end = event ≡ length end.delivered % 65536

-- In RUN avail_event is that number if the last read of the available index found no frame. In
-- READY there was no read.
abbrev pub Asked : ℕ → End → Type 0
Asked event end = (end.handshake.phase ≡ Ready → end.found_none ≡ false) × (end.handshake.phase ≡ Run → end.found_none ≡ true → Stood event end)

-- The invariant of avail_event at each place. It has no condition before the write of avail_event.
-- Before a last read of the available index avail_event is set, and among items the last read found
-- a frame.
abbrev pub ArmedIs : ℕ → End → Place → Type 0
ArmedIs event end (WritingAvailEvent taken) = Unit {0}
ArmedIs event end (ReadingAvailIndex taken true) = Stood event end
ArmedIs event end (ReadingAvailEntry number more) = end.found_none ≡ false
ArmedIs event end (ReadingDescAddressLow number more entry) = end.found_none ≡ false
ArmedIs event end (ReadingDescAddressHigh number more entry low) = end.found_none ≡ false
ArmedIs event end (ReadingDescLength number more entry address) = end.found_none ≡ false
ArmedIs event end (ReadingDescFlags number more entry address bytes) = end.found_none ≡ false
ArmedIs event end (ReadingFrameWord number more entry address bytes read words) = end.found_none ≡ false
ArmedIs event end (WritingUsedId number more entry) = end.found_none ≡ false
ArmedIs event end (WritingUsedLength number more) = end.found_none ≡ false
ArmedIs event end (WritingUsedIndex number more) = end.found_none ≡ false
ArmedIs event end RingingPoll = end.found_none ≡ false
ArmedIs event end place = Asked event end

found_asked : (event : ℕ) (end : End) → end.found_none ≡ false → Asked event end
found_asked event end found = (λ ready. found, λ run none. let e : false ≡ true = sym found ∙ none in cc)

either : (P : Place → Type 0) (b : Bool) (x y : Place) → P x → P y → P (if b then x else y)
either P true x y px py = px
either P false x y px py = py

by_test : (event : ℕ) (end : End) (b : Bool) (x y : Place) (marks others : List Mark) → (b ≡ true → ArmedIs event (with_marks end marks) x) → (b ≡ false → ArmedIs event (with_marks end others) y) →
    ArmedIs event (with_marks end (if b then marks else others)) (if b then x else y)
by_test event end true x y marks others px py = px refl
by_test event end false x y marks others px py = py refl

by_marks : (event : ℕ) (end : End) (b : Bool) (marks others : List Mark) → Asked event (with_marks end marks) → Asked event (with_marks end others) → Asked event (with_marks end (if b then marks else others))
by_marks event end true marks others pm po = pm
by_marks event end false marks others pm po = po

by_found : (end : End) (b : Bool) (marks others : List Mark) → (with_marks end marks).found_none ≡ false → (with_marks end others).found_none ≡ false → (with_marks end (if b then marks else others)).found_none ≡ false
by_found end true marks others pm po = pm
by_found end false marks others pm po = po

-- The next places

clear_armed : (event : ℕ) (end : End) (at count state : ℕ) → Asked event end → ArmedIs event end (clear_place at count state)
clear_armed event end at zero state a = a
clear_armed event end at (suc more) state a = a

tick_armed : (config : EndConfig) (event : ℕ) (end : End) (value : ℕ) (move : Move) → Asked event end → ArmedIs event (with_marks end (tick_marks value move)) (tick_place config move)
tick_armed config event end value Stay a = a
tick_armed config event end value (Set state) a = a
tick_armed config event end value (ClearThenSet state) a = clear_armed event end config.own config.words state a

fill_armed : (event : ℕ) (end : End) (pending : PendingOffer) (at count : ℕ) → Asked event end → ArmedIs event end (fill_place pending at count)
fill_armed event end pending at zero a = a
fill_armed event end pending at (suc more) a = a

ids_armed : (config : EndConfig) (event : ℕ) (end : End) (pending : PendingOffer) (freed count : ℕ) → Asked event end → ArmedIs event end (ids_place config pending freed count)
ids_armed config event end pending freed zero a =
    either (ArmedIs event end) (frame_fits config pending freed) (fill_place pending 0 (words_for (length pending.frame))) Closed (fill_armed event end pending 0 (words_for (length pending.frame)) a) a
ids_armed config event end pending freed (suc more) a = a

items_armed : (event : ℕ) (end : End) (number count : ℕ) → end.found_none ≡ false → ArmedIs event end (items_place number count)
items_armed event end number zero found = found
items_armed event end number (suc more) found = found

words_armed : (event : ℕ) (end : End) (number more entry address bytes : ℕ) (read : List ℕ) (words : ℕ) → end.found_none ≡ false → ArmedIs event end (words_place number more entry address bytes read words)
words_armed event end number more entry address bytes read zero found = found
words_armed event end number more entry address bytes read (suc words) found = found

full_asked : (config : EndConfig) (event : ℕ) (end : End) (pending : PendingOffer) (freed : ℕ) → Asked event end → Asked event (with_marks end (full_marks config pending freed))
full_asked config event end pending freed a = by_marks event end (frame_fits config pending freed) [] (Full ∷ []) a a

-- A call begins

run_of_test : (phase : Phase) → in_run phase ≡ true → phase ≡ Run
run_of_test Run is = refl
run_of_test Reset is = cc
run_of_test Init is = cc
run_of_test Ready is = cc

look_armed : (event : ℕ) (end : End) (taken : ℕ) (events found_none : Bool) → events ≡ true → end.found_none ≡ found_none → (found_none ≡ true → Stood event end) → Asked event end → ArmedIs event end (ReadingAvailIndex taken (not events || found_none))
look_armed event end taken false found_none is none stood a = cc
look_armed event end taken true true is none stood a = stood refl
look_armed event end taken true false is none stood a = a

poll_armed : (config : EndConfig) (event : ℕ) (end : End) (b : Bool) → has_events config.sizes ≡ true → (b ≡ true → end.handshake.phase ≡ Run) → Asked event end →
    ArmedIs event end (if b then ReadingAvailIndex (length end.delivered) (is_last config end.found_none) else NotInRun)
poll_armed config event end true has run a = look_armed event end (length end.delivered) (has_events config.sizes) end.found_none has refl (λ none. a.1 (run refl) none) a
poll_armed config event end false has run a = a

pub begin_armed : (config : EndConfig) (event : ℕ) (end : End) (call : Call) → has_events config.sizes ≡ true → ArmedIs event end Closed → ArmedIs event end (first_place config end call)
begin_armed config event end Tick has a = a
begin_armed config event end Stop has a = a
begin_armed config event end (Offer frame) has a = either (ArmedIs event end) (in_run end.handshake.phase) (ReadingUsedIndex (pending_of config end frame) end.freed) NotInRun a a
begin_armed config event end Poll has a = poll_armed config event end (in_run end.handshake.phase) has (run_of_test end.handshake.phase) a

pub reset_armed : (event : ℕ) (end : End) → ArmedIs event (after_reset end) Closed
reset_armed event end = (λ ready. cc, λ run none. cc)

-- A step

module _ (link_config : LinkConfig) (p : ℕ) (memory : ℕ → ℕ) (event : ℕ) (end : End) (value : ℕ) where
  abbrev ComesArmed : Place → Type 0
  ComesArmed place = PlaceInvariant link_config memory p end place → ArmedIs event end place → ArmedIs event (end_after end (step_at (config_of link_config p) place value)) (next_place (config_of link_config p) place value)

  sets : (state : ℕ) → ComesArmed (WritingState state)
  sets zero h a = (λ ready. cc, λ run none. cc)
  sets (suc zero) h a = (λ ready. cc, λ run none. cc)
  sets (suc (suc zero)) h a = (λ ready. refl, λ run none. cc)
  sets (suc (suc (suc zero))) h a = (λ ready. cc, λ run none. let found = a.0 h in let e : false ≡ true = sym found ∙ none in absurd (cc))
  sets (suc (suc (suc (suc more)))) h a = absurd h

  used_index : (pending : PendingOffer) (freed : ℕ) → ComesArmed (ReadingUsedIndex pending freed)
  used_index pending freed h a =
      let config = config_of link_config p in
      let count = returned_by freed value in
      by_test event end (is_used_index (freed % 65536) (high_half value) (pending.number - freed)) (ids_place config pending freed count) Refusing (reclaim_marks config pending freed count) (refusal field_name.UsedIndex (high_half value))
      (λ _. ids_armed config event (with_marks end (reclaim_marks config pending freed count)) pending freed count
      (by_marks event end (count == 0) (Reclaim 0 ∷ full_marks config pending freed) (Reclaim count ∷ []) (full_asked config event (record end { freed = end.freed + 0 }) pending freed a) a)) (λ _. a)

  used_id : (pending : PendingOffer) (freed more : ℕ) → ComesArmed (ReadingUsedId pending freed more)
  used_id pending freed more h a =
      let config = config_of link_config p in
      by_test event end (is_used_id (descriptor_of config freed) value) (ids_place config pending (freed + 1) more) Refusing (if more == 0 then full_marks config pending (freed + 1) else []) (refusal field_name.UsedId value)
      (λ _. ids_armed config event (with_marks end (if more == 0 then full_marks config pending (freed + 1) else [])) pending (freed + 1) more
      (by_marks event end (more == 0) (full_marks config pending (freed + 1)) [] (full_asked config event end pending (freed + 1) a) a)) (λ _. a)

  last_look : (taken : ℕ) → ComesArmed (ReadingAvailIndex taken true)
  last_look taken h stood =
      let count = published_by taken value in
      let run = h.0 in
      by_test event end (is_avail_index link_config.sizes (taken % 65536) (high_half value)) (if count == 0 then Closed else items_place taken count) Refusing (look_marks true count) (refusal field_name.AvailIndex (high_half value))
      (λ _. by_test event end (count == 0) Closed (items_place taken count) (Look 0 ∷ Done ∷ []) (Look count ∷ [])
      (λ _. (λ ready. let e : Run ≡ Ready = sym run ∙ ready in cc, λ _ none. stood)) (λ some. items_armed event (record end { found_none = count == 0 }) taken count some))
      (λ _. (λ ready. let e : Run ≡ Ready = sym run ∙ ready in cc, λ _ none. stood))

  first_look : (taken : ℕ) → ComesArmed (ReadingAvailIndex taken false)
  first_look taken h a =
      let count = published_by taken value in
      by_test event end (is_avail_index link_config.sizes (taken % 65536) (high_half value)) (if count == 0 then WritingAvailEvent taken else items_place taken count) Refusing (look_marks false count) (refusal field_name.AvailIndex (high_half value))
      (λ _. by_test event end (count == 0) (WritingAvailEvent taken) (items_place taken count) (Look 0 ∷ []) (Look count ∷ [])
      (λ _. tt) (λ some. items_armed event (record end { found_none = count == 0 }) taken count some)) (λ _. a)

  entry : (number more : ℕ) → ComesArmed (ReadingAvailEntry number more)
  entry number more h found =
      let e = entry_in (config_of link_config p) number value in
      by_test event end (is_avail_entry link_config.sizes e) (ReadingDescAddressLow number more e) Refusing [] (refusal field_name.AvailEntry e) (λ _. found) (λ _. found_asked event end found)

  high : (number more entry low : ℕ) → ComesArmed (ReadingDescAddressHigh number more entry low)
  high number more entry low h found =
      let x = address_of low value in
      by_test event end (is_desc_address link_config.sizes x) (ReadingDescLength number more entry x) Refusing [] (refusal field_name.DescAddress x) (λ _. found) (λ _. found_asked event end found)

  bytes_at : (number more entry address : ℕ) → ComesArmed (ReadingDescLength number more entry address)
  bytes_at number more entry address h found =
      by_test event end (is_desc_length link_config.sizes address value) (ReadingDescFlags number more entry address value) Refusing [] (refusal field_name.DescLength value) (λ _. found) (λ _. found_asked event end found)

  flags : (number more entry address bytes : ℕ) → ComesArmed (ReadingDescFlags number more entry address bytes)
  flags number more entry address bytes h found =
      by_test event end (is_desc_flags (desc_flags value)) (words_place number more entry address bytes [] (words_for bytes)) Refusing [] (refusal field_name.DescFlags (desc_flags value))
      (λ _. words_armed event end number more entry address bytes [] (words_for bytes) found) (λ _. found_asked event end found)

  word : (number more entry address bytes : ℕ) (read : List ℕ) (words : ℕ) → ComesArmed (ReadingFrameWord number more entry address bytes read words)
  word number more entry address bytes read words h found =
      let marks = Deliver (frame_in bytes (read ++ value ∷ [])) ∷ [] in
      words_armed event (with_marks end (if words == 0 then marks else [])) number more entry address bytes (read ++ value ∷ []) words (by_found end (words == 0) marks [] found found)

  -- A step that leaves avail_event unchanged.
  step_armed : (place : Place) → ((taken : ℕ) → place ≢ WritingAvailEvent taken) → ComesArmed place
  step_armed (ReadingOtherState handshake) apart h a = tick_armed (config_of link_config p) event end value (move_of handshake value) a
  step_armed (Clearing at more state) apart h a = clear_armed event (with_access end (access_at (config_of link_config p) (Clearing at more state))) (at + 1) more state a
  step_armed (WritingState state) apart h a = sets state h a
  step_armed Refusing apart h a = (λ ready. cc, λ run none. cc)
  step_armed (ReadingUsedIndex pending freed) apart h a = used_index pending freed h a
  step_armed (ReadingUsedId pending freed more) apart h a = used_id pending freed more h a
  step_armed (WritingFrameWord pending at more) apart h a = fill_armed event (with_access end (access_at (config_of link_config p) (WritingFrameWord pending at more))) pending (at + 1) more a
  step_armed (WritingAvailIndex pending) apart h a = either (ArmedIs event (end_after end (step_at (config_of link_config p) (WritingAvailIndex pending) value))) (has_events link_config.sizes) (ReadingAvailEvent pending.number) RingingOffer a a
  step_armed (ReadingAvailEvent number) apart h a = by_test event end (wants_doorbell (low_half value) number) RingingOffer Closed [] (Over ∷ []) (λ _. a) (λ _. a)
  step_armed (ReadingAvailIndex taken true) apart h a = last_look taken h a
  step_armed (ReadingAvailIndex taken false) apart h a = first_look taken h a
  step_armed (WritingAvailEvent taken) apart h a = absurd (apart taken refl)
  step_armed (ReadingAvailEntry number more) apart h a = entry number more h a
  step_armed (ReadingDescAddressHigh number more entry low) apart h a = high number more entry low h a
  step_armed (ReadingDescLength number more entry address) apart h a = bytes_at number more entry address h a
  step_armed (ReadingDescFlags number more entry address bytes) apart h a = flags number more entry address bytes h a
  step_armed (ReadingFrameWord number more entry address bytes read words) apart h a = word number more entry address bytes read words h a
  step_armed (WritingUsedIndex number more) apart h a = items_armed event (end_after end (step_at (config_of link_config p) (WritingUsedIndex number more) value)) (number + 1) more a
  step_armed RingingPoll apart h a = found_asked event end a
  step_armed _ apart h a = a

-- Each step, for all values written.
pub armed_on : (link_config : LinkConfig) → IsLinkConfig link_config → (p : ℕ) → p < 2 → (memory after : ℕ → ℕ) (end : End) (place : Place) (value : ℕ) → is_open place ≡ true → MemoryAfter p memory (access_at (config_of link_config p) place) after → PlaceInvariant link_config memory p end place →
    ArmedIs (fields link_config memory p AvailEvent) end place → ArmedIs (fields link_config after p AvailEvent) (end_after end (step_at (config_of link_config p) place value)) (next_place (config_of link_config p) place value)
armed_on link_config is p below memory after end Closed value opened left h a = cc
armed_on link_config is p below memory after end (Clearing at more state) value opened left h a =
    let init = h.0 in
    clear_armed (fields link_config after p AvailEvent) (with_access end (access_at (config_of link_config p) (Clearing at more state))) (at + 1) more state (λ ready. let e : Init ≡ Ready = sym init ∙ ready in cc, λ run none. let e : Init ≡ Run = sym init ∙ run in cc)
armed_on link_config is p below memory after end (WritingAvailEvent taken) value opened left h a = (place_puts link_config is p below memory after end (WritingAvailEvent taken) left h).here ∙ ap (λ (n : ℕ). n % 65536) h.1
armed_on link_config is p below memory after end place value opened left h a =
    subst (λ (event : ℕ). ArmedIs event (end_after end (step_at (config_of link_config p) place value)) (next_place (config_of link_config p) place value)) (sym (event_stays link_config is p below memory after end place (λ writes. writes) left h))
    (step_armed link_config p memory (fields link_config memory p AvailEvent) end value place (λ taken e. cc) h a)
