-- The facts at the marks of a step: an accepted frame is in the section, and a delivered frame and
-- a refused value were read.
use Rattle.std.proofs.Common.{◌≡◌, ℕ, ◌+◌, ◌-◌, ◌%◌, ◌<◌, Bool, true, false, List, [], ◌∷◌, ◌++◌, length, refl, sym, ◌∙◌, ap, subst, arith, length-append, ◌≢◌, ◌≤◌}
use Rattle.std.specs.Prelude.{◌==◌, nat_le, if◌then◌else◌, reverse}
use Rattle.std.specs.List.{AllByRecursion}
use Rattle.std.proofs.lemmas.Bool.Decides.{nat_tests}
use Rattle.split_ring.specs.declared.ranges.FieldName.{FieldName}
use Rattle.split_ring.specs.declared.ranges.FieldName.TheVariants as field_name
use Rattle.split_ring.specs.declared.steps.Access.{Access}
use Rattle.split_ring.specs.declared.steps.Access.TheVariants as access
use Rattle.ivs_base.specs.Numbers.{distance}
use Rattle.split_ring.specs.Layout.{Field, has_events, size_of, limit_of, word_offset, AvailIndex, UsedIndex, AvailEvent as LayoutAvailEvent}
use Rattle.split_ring.specs.Spelling.{low_half, high_half, entry_half, Spells, desc_flags}
use Rattle.split_ring.specs.Ranges.{IsAvailIndex, IsDescLength, IsUsedIndex, is_avail_entry, is_desc_address, is_desc_length, is_desc_flags, is_used_id, is_avail_index, is_used_index}
use Rattle.split_ring.proofs.TestsDecideRanges.{entry_denies, address_denies, length_denies, flags_denies}
use Rattle.link_handshake.specs.declared.Move.{Move}
use Rattle.link_handshake.specs.declared.Move.TheVariants.{Stay, Set, ClearThenSet}
use Rattle.link_handshake.specs.HandshakeState.{move_of}
use Rattle.scenario_text.specs.Scenario.{World, IsWorld}
use Rattle.call_grammar.specs.Steps.{Mark, Reclaim, Full, Look, Done, Deliver, Over}
use Rattle.call_grammar.specs.Ends.{End}
use Rattle.call_grammar.specs.Words.{words_for, address_of, frame_in}
use Rattle.call_grammar.specs.Ticks.{tick_marks}
use Rattle.call_grammar.specs.Calls.{EndConfig}
use Rattle.call_grammar.specs.Offers.{PendingOffer, frame_fits, descriptor_of, avail_entry_of, refusal, returned_by, reclaim_marks, full_marks, wants_doorbell}
use Rattle.call_grammar.specs.Polls.{Item, published_by, look_marks}
use Rattle.call_grammar.specs.Places.{Place, ReadingOtherState, WritingState, Refusing, NotInRun, ReadingUsedIndex, ReadingUsedId, WritingAvailIndex, ReadingAvailEvent, RingingOffer, ReadingAvailIndex, ReadingAvailEntry, ReadingDescAddressHigh, ReadingDescLength, ReadingDescFlags, ReadingFrameWord, WritingUsedIndex, RingingPoll, access_at, marks_at}
use Rattle.link_machine.specs.LinkMachine.{Side, Gave, Marked}
use Rattle.link_invariant.specs.LinkConfig.{section_of}
use Rattle.link_invariant.specs.Steps.{ReadsMemory, MemoryAfter}
use Rattle.link_invariant.specs.EndInvariant.{EndInvariant}
use Rattle.link_invariant.specs.LinkConfig as pair
use Rattle.link_invariant.specs.Sides.{SideIs}
use Rattle.link_invariant.proofs.LinkInvariantKept.{frames_are_spelled}
use Rattle.lawful_history.specs.declared.line.Line.{Line}
use Rattle.lawful_history.specs.declared.line.Line.TheVariants as line
use Rattle.lawful_history.specs.Memory.{last_write}
use Rattle.lawful_history.specs.Sides.{config_of}
use Rattle.history_laws.specs.SideEvents.{HasEvent, HasNoEvent, line_side_event_of, side_after, side_of}
use Rattle.history_laws.specs.Indexes.{IsLoneRead, IsIndexRead, IsLoneIndex}
use Rattle.history_laws.specs.Reads.{Got, got, reads_of, IsReadFrame, IsReadBeyond, entry_read}
use Rattle.history_laws.specs.Spelled.{section_words}
use Rattle.history_laws.proofs.PermittedEvents.{link_config_of, is_link_config}
use Rattle.history_laws.proofs.ReadPlaces.{ReadsAre, reads_taken, with_entry_word, high_taken, length_taken, flags_taken, word_taken}
use Rattle.history_laws.proofs.LinkPlaces.{IsQuiet, EndsLook, BringsNone, first_after, quiet_lines}
use Rattle.history_laws.proofs.OtherLines.{here_is, section_is}
use Rattle.history_laws.proofs.StepLines.{MarksRest, stored_at}
use Rattle.history_laws.proofs.LinkPeers.{config_is}
use Rattle.history_laws.proofs.MarkLines.{after_access}
use Rattle.history_laws.proofs.Unrung.{UnrungAt, AreSilent, marked_ends}
use Rattle.history_laws.proofs.Armed.{ArmedIs}
use Rattle.link_invariant.specs.Fields.{AvailEvent}
use Rattle.link_invariant.specs.LinkConfig.{fields}
use Rattle.link_invariant.proofs.Fields.{field_read}
use Rattle.history_laws.specs.Wake.{event_word, EventIs}

-- Every access except a State access leaves the lists and counts of the side.
pub record Stays (new old : Side) : Type 0 where
  pub accepted : new.accepted ≡ old.accepted
  pub delivered : new.delivered ≡ old.delivered
  pub freed : new.freed ≡ old.freed

stays_same : {new old : Side} → new ≡ old → Stays new old
stays_same e = record { accepted = ap (λ (x : Side). x.accepted) e; delivered = ap (λ (x : Side). x.delivered) e; freed = ap (λ (x : Side). x.freed) e }

abbrev pub SideStays : Access → Side → Side → Type 0
SideStays (access.State state) new old = Unit {0}
SideStays _ new old = Stays new old

-- After the doorbell of a poll the newest line isn't a mark of a read of the available index. After
-- the read of an index it is that read.
abbrev pub HeadAt : EndConfig → ℕ → Place → ℕ → (past older : List Line) → Type 0
HeadAt config p RingingPoll value past older = ¬ EndsLook p older
HeadAt config p (ReadingUsedIndex pending freed) value past older = older ≡ line.Read p (config.other_start + word_offset config.sizes UsedIndex) value ∷ past
HeadAt config p (ReadingAvailIndex taken last) value past older = older ≡ line.Read p (config.other_start + word_offset config.sizes AvailIndex) value ∷ past
HeadAt config p place value past older = Unit {0}

ends_silent : (p : ℕ) (lines past : List Line) → AreSilent lines → ¬ EndsLook p past → ¬ EndsLook p (reverse lines ++ past)
ends_silent p [] past silent none = none
ends_silent p (l ∷ lines) past silent none =
    let first : ¬ EndsLook p (l ∷ past) = λ look. let side_event : HasNoEvent ≡ HasEvent p (Marked (Look 0)) = sym silent.0 ∙ ap line_side_event_of look in cc in
    subst (λ (ls : List Line). ¬ EndsLook p ls) (sym (first_after l lines past)) (ends_silent p lines (l ∷ past) silent.1 first)

-- A read adds no line of the devices.
none_between : (device past : List Line) → device ≡ [] → reverse device ++ past ≡ past
none_between device past none = ap (λ (d : List Line). reverse d ++ past) none

pub head_is : (world : World) (p : ℕ) (place : Place) (value : ℕ) (past device : List Line) → AreSilent device → BringsNone (access_at (pair.config_of (link_config_of world) p) place) device →
    HeadAt (pair.config_of (link_config_of world) p) p place value past (reverse device ++ after_access p (access_at (pair.config_of (link_config_of world) p) place) value past)
head_is world p RingingPoll value past device silent none = ends_silent p device _ silent (λ look. cc)
head_is world p (ReadingUsedIndex pending freed) value past device silent none = none_between device _ none
head_is world p (ReadingAvailIndex taken last) value past device silent none = none_between device _ none
head_is world p place value past device silent none = tt

-- The facts after the access of a step, at its marks.
pub record AtMarks (world : World) (p : ℕ) (past older : List Line) (place : Place) (value : ℕ) (end : End) : Type 0 where
  pub alone : EndInvariant (link_config_of world) (last_write past) p end place
  pub side : SideIs end place (side_of past p)
  pub were : ReadsAre (pair.config_of (link_config_of world) p) place (reads_of past p)
  pub left : MemoryAfter p (last_write past) (access_at (pair.config_of (link_config_of world) p) place) (last_write older)
  pub stays : SideStays (access_at (pair.config_of (link_config_of world) p) place) (side_of older p) (side_of past p)
  pub reads : reads_of older p ≡ reads_taken (access_at (pair.config_of (link_config_of world) p) place) value (reads_of past p)
  pub met : ReadsMemory (last_write past) (access_at (pair.config_of (link_config_of world) p) place) value
  pub unrung : UnrungAt world p place older
  pub armed : has_events world.queue ≡ true → ArmedIs (fields (link_config_of world) (last_write past) p AvailEvent) end place
  pub head : HeadAt (pair.config_of (link_config_of world) p) p place value past older

-- The facts of the words, the side and the reads after the access.
pub record AtAccess (p : ℕ) (past older : List Line) (a : Access) (value : ℕ) : Type 0 where
  pub left : MemoryAfter p (last_write past) a (last_write older)
  pub stays : SideStays a (side_of older p) (side_of past p)
  pub reads : reads_of older p ≡ reads_taken a value (reads_of past p)

pub at_access : (world : World) (p : ℕ) (a : Access) (value : ℕ) (device past : List Line) → AllByRecursion IsQuiet device → AtAccess p past (reverse device ++ after_access p a value past) a value
at_access world p (access.Read word) value device past quiet =
    let q = quiet_lines world device (line.Read p word value ∷ past) quiet in
    record { left = q.memory; stays = let e = ap (λ (x : ℕ → Side). x p) q.sides ∙ here_is p (side_after (Gave value) (side_of past p)) (side_of past p) in record { accepted = ap (λ (x : Side). x.accepted) e; delivered = ap (λ (x : Side). x.delivered) e; freed = ap (λ (x : Side). x.freed) e }; reads = ap (λ (x : ℕ → List Got). x p) q.reads ∙ here_is p (reads_of past p ++ got word value ∷ []) (reads_of past p) }
at_access world p (access.Write word written) value device past quiet =
    let q = quiet_lines world device (line.Write p word written ∷ past) quiet in
    record {
      left = record {
        here = ap (λ (m : ℕ → ℕ). m word) q.memory ∙ here_is word written (last_write past word);
        neighbour_word = λ w ne. ap (λ (m : ℕ → ℕ). m w) q.memory ∙ stored_at word written (last_write past) w ne;
      };
      stays = stays_same (ap (λ (x : ℕ → Side). x p) q.sides);
      reads = ap (λ (x : ℕ → List Got). x p) q.reads;
    }
at_access world p (access.State state) value device past quiet =
    let q = quiet_lines world device (line.State p state ∷ past) quiet in
    record {
      left = record {
        here = ap (λ (m : ℕ → ℕ). m p) q.memory ∙ here_is p state (last_write past p);
        neighbour_word = λ w ne. ap (λ (m : ℕ → ℕ). m w) q.memory ∙ stored_at p state (last_write past) w ne;
      };
      stays = tt;
      reads = ap (λ (x : ℕ → List Got). x p) q.reads;
    }
at_access world p (access.Ring target vector) value device past quiet =
    let q = quiet_lines world device (line.Doorbell p target vector ∷ past) quiet in record { left = q.memory; stays = stays_same (ap (λ (x : ℕ → Side). x p) q.sides); reads = ap (λ (x : ℕ → List Got). x p) q.reads }
at_access world p access.Nothing value device past quiet = let q = quiet_lines world device past quiet in record { left = q.memory; stays = stays_same (ap (λ (x : ℕ → Side). x p) q.sides); reads = ap (λ (x : ℕ → List Got). x p) q.reads }

-- Marks without a fact.
by_test : (world : World) (older : List Line) (p : ℕ) (b : Bool) (marks others : List Mark) → (b ≡ true → MarksRest world older p marks) → (b ≡ false → MarksRest world older p others) → MarksRest world older p (if b then marks else others)
by_test world older p true marks others pm po = pm refl
by_test world older p false marks others pm po = po refl

tick_rest : (world : World) (older : List Line) (p value : ℕ) (move : Move) → MarksRest world older p (tick_marks value move)
tick_rest world older p value Stay = (tt, (λ unrung. absurd (marked_ends world p (line.Saw p value) older refl (λ accept. let e = accept.1 in cc) unrung), tt))
tick_rest world older p value (Set state) = (tt, tt)
tick_rest world older p value (ClearThenSet state) = (tt, tt)

full_rest : (world : World) (older : List Line) (p : ℕ) (config : EndConfig) (pending : PendingOffer) (freed : ℕ) → MarksRest world older p (full_marks config pending freed)
full_rest world older p config pending freed = by_test world older p (frame_fits config pending freed) [] (Full ∷ []) (λ _. tt) (λ _. (tt, tt))

-- The numbers of the lists.
pub accepted_number : (end : End) (place : Place) (side : Side) (now : List (List ℕ)) → SideIs end place side → now ≡ side.accepted → length end.accepted ≡ length now
accepted_number end place side now si e = ap length (sym (e ∙ si.accepted))

pub delivered_number : (end : End) (place : Place) (side : Side) (now : List (List ℕ)) → SideIs end place side → now ≡ side.delivered → length end.delivered ≡ length now
delivered_number end place side now si e = ap length (sym (e ∙ si.delivered))

zero_of_test : (n : ℕ) → (n == 0) ≡ true → n ≡ 0
zero_of_test n test = grind (arith, nat_tests)

same_denies : (a b : ℕ) → (a == b) ≡ false → a ≢ b
same_denies a b test = grind (arith, nat_tests)

within_denies : (a b : ℕ) → nat_le a b ≡ false → ¬ (a ≤ b)
within_denies a b test = λ within. grind (arith, nat_tests)

module _ (world : World) (p : ℕ) (past older : List Line) (value : ℕ) (end : End) (is : IsWorld world) (below : p < 2) where
  -- A refused value, with the scenario's configuration of its peer.
  refused_rest : (field : FieldName) (refused : ℕ) → IsReadBeyond (pair.config_of (link_config_of world) p) (side_of older p) (reads_of older p) field refused → IsLoneIndex (pair.config_of (link_config_of world) p) p older field refused → MarksRest world older p (refusal field refused)
  refused_rest field refused read lone = (subst (λ (w : EndConfig). IsReadBeyond w (side_of older p) (reads_of older p) field refused × IsLoneIndex w p older field refused) (sym (config_is world p below)) (read, lone), tt)

  -- An index that was read once, with the scenario's configuration of its peer.
  index_rest : (index : Field) (own count : ℕ) → IsIndexRead (pair.config_of (link_config_of world) p) p older index own count → IsIndexRead (config_of world p) p older index own count
  index_rest index own count read = subst (λ (w : EndConfig). IsIndexRead w p older index own count) (sym (config_is world p below)) read

  number_is : (place : Place) (number : ℕ) → number ≡ length end.delivered → AtMarks world p past older place value end → Stays (side_of older p) (side_of past p) → number ≡ length (side_of older p).delivered
  number_is place number is_count a stays = is_count ∙ delivered_number end place (side_of past p) (side_of older p).delivered a.side stays.delivered

  -- The number of a poll's item is the number of the frames delivered.
  by_number : (make : ℕ → Place) (number : ℕ) → number ≡ length (side_of older p).delivered →
      (AtMarks world p past older (make (length (side_of older p).delivered)) value end → MarksRest world older p (marks_at (pair.config_of (link_config_of world) p) (make (length (side_of older p).delivered)) value)) →
      AtMarks world p past older (make number) value end → MarksRest world older p (marks_at (pair.config_of (link_config_of world) p) (make number) value)
  by_number make number e here =
      subst (λ (k : ℕ). AtMarks world p past older (make k) value end → MarksRest world older p (marks_at (pair.config_of (link_config_of world) p) (make k) value)) (sym e) here

  used_index_read : (pending : PendingOffer) (freed : ℕ) → AtMarks world p past older (ReadingUsedIndex pending freed) value end → IsLoneRead (pair.config_of (link_config_of world) p) p older UsedIndex (high_half value)
  used_index_read pending freed a = (value, past, a.head, a.were, refl)

  used_index_rest : (pending : PendingOffer) (freed : ℕ) → AtMarks world p past older (ReadingUsedIndex pending freed) value end → MarksRest world older p (marks_at (pair.config_of (link_config_of world) p) (ReadingUsedIndex pending freed) value)
  used_index_rest pending freed a =
      let config = pair.config_of (link_config_of world) p in
      let h = a.alone.holds in
      let count = returned_by freed value in
      let lone = used_index_read pending freed a in
      let freed_is : freed ≡ (side_of older p).freed = h.2 ∙ sym (a.stays.freed ∙ a.side.freed) in
      let number : pending.number ≡ length (side_of older p).accepted = h.1.number ∙ accepted_number end (ReadingUsedIndex pending freed) (side_of past p) (side_of older p).accepted a.side a.stays.accepted in
      let read : IsIndexRead (config_of world p) p older UsedIndex (side_of older p).freed count = index_rest UsedIndex (side_of older p).freed count (high_half value, lone, ap (λ (k : ℕ). distance (k % 65536) (high_half value)) freed_is) in
      by_test world older p (is_used_index (freed % 65536) (high_half value) (pending.number - freed)) (reclaim_marks config pending freed count) (refusal field_name.UsedIndex (high_half value))
      (λ _. by_test world older p (count == 0) (Reclaim 0 ∷ full_marks config pending freed) (Reclaim count ∷ [])
      (λ none. (subst (IsIndexRead (config_of world p) p older UsedIndex (side_of older p).freed) (zero_of_test count none) read, full_rest world (line.Reclaim p 0 ∷ older) p config pending freed)) (λ _. (read, tt)))
      (λ test. let beyond = within_denies count (pending.number - freed) test in
      let beyond_here : ¬ IsUsedIndex (freed % 65536) (high_half value) (length (side_of older p).accepted - freed) = subst (λ (n : ℕ). ¬ IsUsedIndex (freed % 65536) (high_half value) (n - freed)) number beyond in
      refused_rest field_name.UsedIndex (high_half value) (
        reads_of past p,
        value,
        a.reads,
        refl,
        subst (λ (k : ℕ). ¬ IsUsedIndex (k % 65536) (high_half value) (length (side_of older p).accepted - k)) freed_is beyond_here,
      ) lone)

  used_id_rest : (pending : PendingOffer) (freed more : ℕ) → AtMarks world p past older (ReadingUsedId pending freed more) value end → (value == descriptor_of (pair.config_of (link_config_of world) p) freed) ≡ false → MarksRest world older p (refusal field_name.UsedId value)
  used_id_rest pending freed more a test =
      let all = a.alone.holds.2 in let within = a.alone.holds.3 in let low = a.alone.freed in let f = a.side.freed in let g = a.stays.freed in
      refused_rest field_name.UsedId value (reads_of past p, freed, omega arith, omega arith, a.reads, same_denies value (freed % limit_of world.queue) test) tt

  accept_rest : (pending : PendingOffer) → AtMarks world p past older (WritingAvailIndex pending) value end → MarksRest world older p (marks_at (pair.config_of (link_config_of world) p) (WritingAvailIndex pending) value)
  accept_rest pending a =
      let link_config = link_config_of world in
      let spelled = frames_are_spelled.accepted link_config (last_write past) (last_write older) p end pending (is_link_config world is) below a.alone a.left in
      let number : pending.number ≡ length (side_of older p).accepted = a.alone.holds.1 ∙ accepted_number end (WritingAvailIndex pending) (side_of past p) (side_of older p).accepted a.side a.stays.accepted in
      let at : ℕ → ℕ → ℕ = λ start word. last_write older (start + word) in
      let words : at (section_of link_config p) ≡ section_words world older p = ap at (section_is world p) in (
        subst (λ (n : ℕ). Spells world.queue (section_words world older p) n (n % limit_of world.queue) pending.frame) number
            (subst (λ (w : ℕ → ℕ). Spells world.queue w pending.number (pending.number % limit_of world.queue) pending.frame) words spelled),
        tt,
      )

  word_rest : (number more entry address bytes : ℕ) (words : List ℕ) (left : ℕ) → AtMarks world p past older (ReadingFrameWord number more entry address bytes words left) value end → (left == 0) ≡ true → MarksRest world older p (Deliver (frame_in bytes (words ++ value ∷ [])) ∷ [])
  word_rest number more entry address bytes words left a test =
      let config = pair.config_of (link_config_of world) p in
      let r = a.were in
      let read : Item = record (r.0) { words = words ++ value ∷ [] } in
      let none = zero_of_test left test in
      let total = a.alone.holds.5 in
      let one = length-append words (value ∷ []) in
      let size : words_for bytes ≡ words_for read.bytes = ap words_for r.6 in
      let frame : IsReadFrame config number (reads_of older p) (frame_in bytes (words ++ value ∷ [])) = record {
        read = read;
        reads_are = a.reads ∙ word_taken config number value (reads_of past p) r.0 address words r.1 r.4;
        good = record { entry = r.3; address = r.5; bytes = r.7; flags = r.8; words = omega arith };
        frame_is = ap (λ (b : ℕ). frame_in b (words ++ value ∷ [])) r.6;
      } in
      let n = number_is (ReadingFrameWord number more entry address bytes words left) number a.alone.holds.1 a a.stays in (
        subst (λ (w : EndConfig). IsReadFrame w (length (side_of older p).delivered) (reads_of older p) (frame_in bytes (words ++ value ∷ []))) (sym (config_is world p below))
            (subst (λ (k : ℕ). IsReadFrame config k (reads_of older p) (frame_in bytes (words ++ value ∷ []))) n frame),
        tt,
      )

  -- A finished poll that found no frame has its avail_event at the next frame's number.
  done_rest : (taken : ℕ) (last : Bool) → AtMarks world p past older (ReadingAvailIndex taken last) value end → last ≡ true → taken ≡ length (side_of older p).delivered → has_events world.queue ≡ true →
      EventIs world (line.Look p 0 ∷ older) p (length (side_of (line.Look p 0 ∷ older) p).delivered)
  done_rest taken last a final number has =
      let link_config = link_config_of world in
      let stood = subst (λ (b : Bool). ArmedIs (fields link_config (last_write past) p AvailEvent) end (ReadingAvailIndex taken b)) final (a.armed has) in
      let word = section_of link_config p + word_offset world.queue LayoutAvailEvent in
      let event : low_half (last_write past word) ≡ fields link_config (last_write past) p AvailEvent = field_read link_config (last_write past) p AvailEvent (last_write past word) refl refl in
      let place : word ≡ event_word world p = ap (λ (s : ℕ). s + word_offset world.queue LayoutAvailEvent) (section_is world p) in
      let side = side_of older p in
      let looked = ap (λ (x : Side). length x.delivered) (here_is p (side_after (Marked (Look 0)) side) side) in
      let count : length end.delivered ≡ length (side_of (line.Look p 0 ∷ older) p).delivered = sym a.alone.holds.1 ∙ (number ∙ sym looked) in
      ap (λ (m : ℕ → ℕ). low_half (m (event_word world p))) a.left ∙ (ap (λ (w : ℕ). low_half (last_write past w)) (sym place) ∙ (event ∙ (stood ∙ ap (λ (k : ℕ). k % 65536) count)))

  avail_index_rest : (taken : ℕ) (last : Bool) → AtMarks world p past older (ReadingAvailIndex taken last) value end →
      MarksRest world older p (marks_at (pair.config_of (link_config_of world) p) (ReadingAvailIndex taken last) value)
  avail_index_rest taken last a =
      let count = published_by taken value in
      let n = number_is (ReadingAvailIndex taken last) taken a.alone.holds.1 a a.stays in
      let lone : IsLoneRead (pair.config_of (link_config_of world) p) p older AvailIndex (high_half value) = (value, past, a.head, a.were, refl) in
      let read : IsIndexRead (config_of world p) p older AvailIndex (length (side_of older p).delivered) count = index_rest AvailIndex (length (side_of older p).delivered) count (high_half value, lone, ap (λ (k : ℕ). distance (k % 65536) (high_half value)) n) in
      by_test world older p (is_avail_index world.queue (taken % 65536) (high_half value)) (look_marks last count) (refusal field_name.AvailIndex (high_half value))
      (λ _. by_test world older p (count == 0) (if last then Look 0 ∷ Done ∷ [] else Look 0 ∷ []) (Look count ∷ [])
      (λ none. let found_none = subst (IsIndexRead (config_of world p) p older AvailIndex (length (side_of older p).delivered)) (zero_of_test count none) read in
      by_test world older p last (Look 0 ∷ Done ∷ []) (Look 0 ∷ []) (λ final. (found_none, (λ has _. done_rest taken last a final n has, tt))) (λ _. (found_none, tt))) (λ _. (read, tt)))
      (λ test. let beyond : ¬ IsAvailIndex world.queue (taken % 65536) (high_half value) = within_denies count (size_of world.queue) test in
      refused_rest field_name.AvailIndex (high_half value) (reads_of past p, value, a.reads, refl, subst (λ (k : ℕ). ¬ IsAvailIndex world.queue (k % 65536) (high_half value)) n beyond) lone)

  entry_rest : (more : ℕ) → AtMarks world p past older (ReadingAvailEntry (length (side_of older p).delivered) more) value end → MarksRest world older p (marks_at (pair.config_of (link_config_of world) p) (ReadingAvailEntry (length (side_of older p).delivered) more) value)
  entry_rest more a =
      let config = pair.config_of (link_config_of world) p in
      let number = length (side_of older p).delivered in
      let entry = entry_half (avail_entry_of config number) value in
      by_test world older p (is_avail_entry world.queue entry) [] (refusal field_name.AvailEntry entry) (λ _. tt)
      (λ test. refused_rest field_name.AvailEntry entry (with_entry_word value, a.reads ∙ ap (λ (r : List Got). r ++ entry_read config number (with_entry_word value) ∷ []) a.were, refl, entry_denies world.queue entry test) tt)

  high_rest : (more entry low : ℕ) → AtMarks world p past older (ReadingDescAddressHigh (length (side_of older p).delivered) more entry low) value end → MarksRest world older p (marks_at (pair.config_of (link_config_of world) p) (ReadingDescAddressHigh (length (side_of older p).delivered) more entry low) value)
  high_rest more entry low a =
      let config = pair.config_of (link_config_of world) p in
      let number = length (side_of older p).delivered in
      let address = address_of low value in
      let r = a.were in
      by_test world older p (is_desc_address world.queue address) [] (refusal field_name.DescAddress address) (λ _. tt)
      (λ test. refused_rest field_name.DescAddress address
      (record (r.0) { high = value }, a.reads ∙ high_taken config number value (reads_of past p) r.0 entry r.1 r.2, r.3, ap (λ (l : ℕ). address_of l value) r.4, address_denies world.queue address test) tt)

  length_rest : (more entry address : ℕ) → AtMarks world p past older (ReadingDescLength (length (side_of older p).delivered) more entry address) value end →
      MarksRest world older p (marks_at (pair.config_of (link_config_of world) p) (ReadingDescLength (length (side_of older p).delivered) more entry address) value)
  length_rest more entry address a =
      let config = pair.config_of (link_config_of world) p in
      let number = length (side_of older p).delivered in
      let r = a.were in
      by_test world older p (is_desc_length world.queue address value) [] (refusal field_name.DescLength value) (λ _. tt)
      (λ test. refused_rest field_name.DescLength value
      (record (r.0) { bytes = value }, a.reads ∙ length_taken config number value (reads_of past p) r.0 entry r.1 r.2, r.3, r.5, refl, subst (λ (x : ℕ). ¬ IsDescLength world.queue x value) r.4 (length_denies world.queue address value test)) tt)

  flags_rest : (more entry address bytes : ℕ) → AtMarks world p past older (ReadingDescFlags (length (side_of older p).delivered) more entry address bytes) value end →
      MarksRest world older p (marks_at (pair.config_of (link_config_of world) p) (ReadingDescFlags (length (side_of older p).delivered) more entry address bytes) value)
  flags_rest more entry address bytes a =
      let config = pair.config_of (link_config_of world) p in
      let number = length (side_of older p).delivered in
      let r = a.were in
      by_test world older p (is_desc_flags (desc_flags value)) [] (refusal field_name.DescFlags (desc_flags value)) (λ _. tt)
      (λ test. refused_rest field_name.DescFlags (desc_flags value)
      (record (r.0) { flags_word = value }, a.reads ∙ flags_taken config number value (reads_of past p) r.0 entry r.1 r.2, r.3, r.5, r.7, refl, flags_denies (desc_flags value) test) tt)

  -- The avail_event read is the value of its word.
  event_rest : (number : ℕ) → AtMarks world p past older (ReadingAvailEvent number) value end → wants_doorbell (low_half value) number ≡ false →
      wants_doorbell (low_half (last_write older (event_word world (1 - p)))) (length (side_of older p).accepted - 1) ≡ false
  event_rest number a test =
      let event_is : value ≡ last_write older (event_word world (1 - p)) =
      a.met ∙ (ap (λ (w : ℕ). last_write past (w + word_offset world.queue LayoutAvailEvent)) (section_is world (1 - p)) ∙ ap (λ (m : ℕ → ℕ). m (event_word world (1 - p))) (sym a.left)) in
      let count = a.alone.holds.1 in
      let same = accepted_number end (ReadingAvailEvent number) (side_of past p) (side_of older p).accepted a.side a.stays.accepted in
      let last : number ≡ length (side_of older p).accepted - 1 = omega arith in
      ap (λ (k : ℕ). wants_doorbell (low_half (last_write older (event_word world (1 - p)))) k) (sym last) ∙ (ap (λ (v : ℕ). wants_doorbell (low_half v) number) (sym event_is) ∙ test)

  -- The marks of the step at each place.
  pub marks_rest : (place : Place) → AtMarks world p past older place value end → MarksRest world older p (marks_at (pair.config_of (link_config_of world) p) place value)
  marks_rest (ReadingOtherState handshake) a = tick_rest world older p value (move_of handshake value)
  marks_rest (WritingState state) a = (λ unrung. absurd (a.unrung unrung), tt)
  marks_rest Refusing a = (λ unrung. absurd (a.unrung unrung), tt)
  marks_rest NotInRun a = (tt, tt)
  marks_rest (ReadingUsedIndex pending freed) a = used_index_rest pending freed a
  marks_rest (ReadingUsedId pending freed more) a =
      let config = pair.config_of (link_config_of world) p in
      by_test world older p (is_used_id (descriptor_of config freed) value) (if more == 0 then full_marks config pending (freed + 1) else []) (refusal field_name.UsedId value)
      (λ _. by_test world older p (more == 0) (full_marks config pending (freed + 1)) [] (λ _. full_rest world older p config pending (freed + 1)) (λ _. tt))
      (λ test. used_id_rest pending freed more a test)
  marks_rest (WritingAvailIndex pending) a = accept_rest pending a
  marks_rest (ReadingAvailEvent number) a = by_test world older p (wants_doorbell (low_half value) number) [] (Over ∷ []) (λ _. tt) (λ test. (λ _. event_rest number a test, tt))
  marks_rest RingingOffer a = (λ unrung. absurd (a.unrung unrung), tt)
  marks_rest (ReadingAvailIndex taken last) a = avail_index_rest taken last a
  marks_rest (ReadingAvailEntry number more) a = by_number (λ k. ReadingAvailEntry k more) number (number_is (ReadingAvailEntry number more) number a.alone.holds.1 a a.stays) (λ b. entry_rest more b) a
  marks_rest (ReadingDescAddressHigh number more entry low) a = by_number (λ k. ReadingDescAddressHigh k more entry low) number (number_is (ReadingDescAddressHigh number more entry low) number a.alone.holds.1 a a.stays) (λ b. high_rest more entry low b) a
  marks_rest (ReadingDescLength number more entry address) a = by_number (λ k. ReadingDescLength k more entry address) number (number_is (ReadingDescLength number more entry address) number a.alone.holds.1 a a.stays) (λ b. length_rest more entry address b) a
  marks_rest (ReadingDescFlags number more entry address bytes) a = by_number (λ k. ReadingDescFlags k more entry address bytes) number (number_is (ReadingDescFlags number more entry address bytes) number a.alone.holds.1 a a.stays) (λ b. flags_rest more entry address bytes b) a
  marks_rest (ReadingFrameWord number more entry address bytes words left) a =
      by_test world older p (left == 0) (Deliver (frame_in bytes (words ++ value ∷ [])) ∷ []) [] (λ test. word_rest number more entry address bytes words left a test) (λ _. tt)
  marks_rest (WritingUsedIndex number more) a = (tt, tt)
  marks_rest RingingPoll a = (λ has look. absurd (a.head look), tt)
  marks_rest _ a = tt
