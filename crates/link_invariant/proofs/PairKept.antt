-- Each step of two honest ends preserves the pair.
use Rattle.std.proofs.Common.{◌≡◌, ◌≢◌, ℕ, zero, suc, ◌+◌, ◌-◌, ◌%◌, ◌/◌, ◌<◌, inl, inr, ⊎_elim, Bool, true, false, List, [], ◌∷◌, length, refl, sym, ap, ◌∙◌, subst, arith}
use Rattle.std.specs.Prelude.{◌==◌, if◌then◌else◌}
use Rattle.split_ring.specs.Layout.{size_of, limit_of, word_offset, DescAddress}
use Rattle.link_handshake.specs.declared.Phase.TheVariants.{Reset, Init, Ready, Run}
use Rattle.link_handshake.specs.PhaseTable.{state_of}
use Rattle.call_grammar.specs.Ends.{End, fresh, with_marks, end_after}
use Rattle.split_ring.specs.Spelling.{low_half}
use Rattle.call_grammar.specs.Steps.{Over}
use Rattle.call_grammar.specs.Offers.{PendingOffer, wants_doorbell}
use Rattle.call_grammar.specs.Polls.{is_last}
use Rattle.call_grammar.specs.Calls.{Call, Tick, Stop, Offer, Poll, in_run, pending_of}
use Rattle.call_grammar.specs.Places.{Place, Closed, ReadingOtherState, Clearing, WritingState, Refusing, NotInRun, ReadingUsedIndex, ReadingUsedId, WritingFrameWord, WritingDescAddressLow, WritingDescAddressHigh, WritingDescLength, WritingDescFlags, WritingAvailEntry, WritingAvailIndex, ReadingAvailEvent, RingingOffer, ReadingAvailIndex, WritingAvailEvent, ReadingAvailEntry, ReadingDescAddressLow, ReadingDescAddressHigh, ReadingDescLength, ReadingDescFlags, ReadingFrameWord, WritingUsedId, WritingUsedLength, WritingUsedIndex, RingingPoll, fill_place, first_place, access_at, next_place, step_at, is_open}
use Rattle.link_invariant.specs.Fields.{Field}
use Rattle.link_invariant.specs.Fields as field
use Rattle.link_invariant.specs.LinkConfig.{LinkConfig, IsLinkConfig, section_of, config_of, fields}
use Rattle.link_invariant.specs.Steps.{Stored, IsUntouched, OnlyEndChanges, ReadsMemory, MemoryAfter, BeginsCall, TakesStep, IsReset}
use Rattle.link_invariant.specs.EndInvariant.{start_for, EndInvariant}
use Rattle.link_invariant.specs.Pair.{freed_at, Polls, InFlight, IsAttached, Pair}
use Rattle.link_invariant.specs.Laws.{PairIsKept}
use Rattle.link_invariant.proofs.Fields.{fields_same, Put, theirs_stay}
use Rattle.link_invariant.proofs.EndObligations.{by_test, opened, sent_same}
use Rattle.link_invariant.proofs.WriteSteps.{place_puts}
use Rattle.link_invariant.proofs.TickSteps.{not_phase}
use Rattle.link_invariant.proofs.EndInvariantKept.{alone_kept}
use Rattle.link_invariant.proofs.PairObligations.{Facing, facing, known, stepped, IsCalm, calm_not, Works, Before, Leads, link_same, takes_on}
use Rattle.link_invariant.proofs.OffersOfPair.{sends_used_index, sends_id, sends_word, sends_index}
use Rattle.link_invariant.proofs.PollsOfPair.{takes_avail_index, takes_entry, takes_low, takes_high, takes_length, takes_flags, takes_word, takes_id, takes_amount, takes_index}
use Rattle.link_invariant.proofs.HandshakeOfPair.{set_apart, idles, leads_state, leads_clear, leads_set, leads_reset, attends_high}

-- A step leaves the words of the other

module _ (link_config : LinkConfig) (is : IsLinkConfig link_config) (p : ℕ) (p2 : p < 2) (memory after : ℕ → ℕ) (end : End) where
  pub still : after ≡ memory → IsUntouched link_config memory after (1 - p)
  still e = record { state = ap (λ (k : ℕ → ℕ). k (1 - p)) e; section = λ j lt. ap (λ (k : ℕ → ℕ). k (section_of link_config (1 - p) + j)) e }

  by_put : {f : Field} {n : ℕ} → Put link_config memory after p f n → IsUntouched link_config memory after (1 - p)
  by_put put = theirs_stay link_config memory after p is p2 put.only

  pub by_state : (n : ℕ) → Stored memory after p n → IsUntouched link_config memory after (1 - p)
  by_state n stored = theirs_stay link_config memory after p is p2 (λ w ne apart. stored.neighbour_word w ne)

  pub untouched : (place : Place) → EndInvariant link_config memory p end place → MemoryAfter p memory (access_at (config_of link_config p) place) after → IsUntouched link_config memory after (1 - p)
  untouched place a left = theirs_stay link_config memory after p is p2 (alone_kept.own link_config p memory after end place is p2 left a)

  -- A step in RUN.
  worked : {u : End} {w : Place} {place : Place} (now : End) (next : Place) → end.handshake.phase ≡ Run → IsUntouched link_config memory after (1 - p) → EndInvariant link_config after p now next → Works link_config memory after p u w now next → Before link_config memory p end place u w → Leads link_config after p u w now next
  worked {u} {w} {place} now next run keep mine works b = let same = fields_same link_config memory after (1 - p) is keep.section in record {
    sound = (works.mark, calm_not next Refusing works.calm (λ x. x));
    from = λ a. b.from (inl run);
    back = λ a. (not_phase {a = Run} {b = Init} (λ f. omega arith) works.run, calm_not next (WritingState 1) works.calm (λ x. x));
    faces = λ a. record { mine = mine.sent (opened works.run); opposite = sent_same (λ f. same f) (b.faces (inl (inl run))).opposite; sends = link_same same works.sends; takes = works.takes };
  }

-- The obligations of the step at a place.
module _ (link_config : LinkConfig) (is : IsLinkConfig link_config) (p : ℕ) (p2 : p < 2) (memory : ℕ → ℕ) (end u : End) (w : Place) where
  abbrev LeadsTo : (ℕ → ℕ) → Place → ℕ → Type 0
  LeadsTo after place value = Leads link_config after p u w (end_after end (step_at (config_of link_config p) place value)) (next_place (config_of link_config p) place value)

  fill_calm : (pending : PendingOffer) (at count : ℕ) → IsCalm (fill_place pending at count) × (end.freed ≡ freed_at end.freed (fill_place pending at count)) × ((field : Field → ℕ) (frames : List (List ℕ)) → Polls link_config field frames (fill_place pending at count))
  fill_calm pending at zero = (tt, refl, λ f fs. tt)
  fill_calm pending at (suc more) = (tt, refl, λ f fs. tt)

  -- A place whose step reads.
  reads : (after : ℕ → ℕ) (place : Place) (value : ℕ) → after ≡ memory → EndInvariant link_config after p (end_after end (step_at (config_of link_config p) place value)) (next_place (config_of link_config p) place value) → end.handshake.phase ≡ Run →
      (Facing link_config memory p end place u w → Works link_config memory memory p u w (end_after end (step_at (config_of link_config p) place value)) (next_place (config_of link_config p) place value)) → Before link_config memory p end place u w → LeadsTo after place value
  reads after place value left mine run works b = subst (λ (k : ℕ → ℕ). LeadsTo k place value) (sym left)
      (worked link_config is p p2 memory memory end _ _ run (still link_config is p p2 memory memory end refl) (subst (λ (k : ℕ → ℕ). EndInvariant link_config k p (end_after end (step_at (config_of link_config p) place value)) (next_place (config_of link_config p) place value)) left mine) (works (b.faces (inl (inl run)))) b)

  -- A place of an offer whose step writes.
  word_leads : (after : ℕ → ℕ) (place next : Place) (f : Field) (x v n : ℕ) → end.handshake.phase ≡ Run → ((k : ℕ) → field.UsedId k ≢ f) → IsCalm next → freed_at end.freed place ≡ freed_at end.freed next → ((field : Field → ℕ) (frames : List (List ℕ)) → Polls link_config field frames next) →
      Put link_config memory after p f n → EndInvariant link_config after p (record end { written = λ w. if w == x then v else end.written w }) next → Before link_config memory p end place u w → Leads link_config after p u w (record end { written = λ w. if w == x then v else end.written w }) next
  word_leads after place next f x v n run apart calm read polls put mine b = worked link_config is p p2 memory after end _ next run (by_put link_config is p p2 memory after end put) mine
      (sends_word link_config p memory after end u w b.mark place next f x v n run apart calm read (polls (fields link_config after p) u.accepted) put (b.faces (inl (inl run)))) b

  -- A doorbell, or a read of an avail_event that wants none, which ends the call.
  rests : (place : Place) → end.handshake.phase ≡ Run → end.handshake.mark ≡ false → freed_at end.freed place ≡ end.freed → Facing link_config memory p end place u w → Works link_config memory memory p u w end Closed
  rests place run mark read f = record { run = run; mark = mark; calm = tt; sends = subst (λ k. InFlight link_config (fields link_config memory (1 - p)) end.accepted end.freed k u.delivered u.returned w) read f.sends; takes = takes_on Closed (λ k. refl) tt f.takes }

  -- The read of avail_event.
  event_read_works : (number value : ℕ) → EndInvariant link_config memory p end (ReadingAvailEvent number) → end.handshake.mark ≡ false → Facing link_config memory p end (ReadingAvailEvent number) u w →
      Works link_config memory memory p u w (end_after end (step_at (config_of link_config p) (ReadingAvailEvent number) value)) (next_place (config_of link_config p) (ReadingAvailEvent number) value)
  event_read_works number value a mark f = by_test (λ m x. Works link_config memory memory p u w (with_marks end m) x) (wants_doorbell (low_half value) number) [] (Over ∷ []) RingingOffer Closed
      (λ test. record { run = a.holds.0; mark = mark; calm = tt; sends = f.sends; takes = takes_on RingingOffer (λ k. refl) tt f.takes })
      (λ test. rests (ReadingAvailEvent number) a.holds.0 mark refl f)

  pub leads : (after : ℕ → ℕ) (place : Place) (value : ℕ) → is_open place ≡ true → place ≢ Refusing → ReadsMemory memory (access_at (config_of link_config p) place) value → MemoryAfter p memory (access_at (config_of link_config p) place) after →
      EndInvariant link_config after p (end_after end (step_at (config_of link_config p) place value)) (next_place (config_of link_config p) place value) → Before link_config memory p end place u w → LeadsTo after place value
  leads after Closed value opened calm met left mine b = let f : false ≡ true = opened in absurd (let g : ⊥ = cc in g)
  leads after (ReadingOtherState handshake) value opened calm met left mine b = subst (λ (k : ℕ → ℕ). LeadsTo k (ReadingOtherState handshake) value) (sym left) (leads_state link_config memory p end u w handshake value met b)
  leads after (Clearing at more state) value opened calm met left mine b = leads_clear link_config memory after p end u w at more state value b
  leads after (WritingState state) value opened calm met left mine b = leads_set link_config memory after p end u w state value is p2 left b
  leads after Refusing value opened calm met left mine b = absurd (calm refl)
  leads after NotInRun value opened calm met left mine b = subst (λ (k : ℕ → ℕ). LeadsTo k NotInRun value) (sym left) (idles link_config memory p end u w NotInRun Closed tt tt (λ e. cc) (λ a e. cc) b)
  leads after (ReadingUsedIndex pending freed) value opened calm met left mine b = reads after (ReadingUsedIndex pending freed) value left mine b.mine.holds.0 (sends_used_index link_config is p memory end u w b.mark pending freed value met b.mine) b
  leads after (ReadingUsedId pending freed more) value opened calm met left mine b = reads after (ReadingUsedId pending freed more) value left mine b.mine.holds.0 (sends_id link_config is p memory end u w b.mark pending freed more value met b.mine) b
  leads after (WritingFrameWord pending at more) value opened calm met left mine b = let x = fill_calm pending (at + 1) more in word_leads after (WritingFrameWord pending at more) (fill_place pending (at + 1) more) (field.DataWord (start_for link_config pending / 4 + at)) _ _ _ b.mine.holds.0 (λ k e. cc) x.0 x.1 x.2 (place_puts link_config is p p2 memory after end (WritingFrameWord pending at more) left b.mine.holds) mine b
  leads after (WritingDescAddressLow pending) value opened calm met left mine b = word_leads after (WritingDescAddressLow pending) (WritingDescAddressHigh pending) (field.AddressLow (pending.number % limit_of link_config.sizes)) _ _ _ b.mine.holds.0 (λ k e. cc) tt refl (λ f fs. tt) (place_puts link_config is p p2 memory after end (WritingDescAddressLow pending) left b.mine.holds) mine b
  leads after (WritingDescAddressHigh pending) value opened calm met left mine b = word_leads after (WritingDescAddressHigh pending) (WritingDescLength pending) (field.AddressHigh (pending.number % limit_of link_config.sizes)) _ _ _ b.mine.holds.0 (λ k e. cc) tt refl (λ f fs. tt) (place_puts link_config is p p2 memory after end (WritingDescAddressHigh pending) left b.mine.holds) mine b
  leads after (WritingDescLength pending) value opened calm met left mine b = word_leads after (WritingDescLength pending) (WritingDescFlags pending) (field.DescLength (pending.number % limit_of link_config.sizes)) _ _ _ b.mine.holds.0 (λ k e. cc) tt refl (λ f fs. tt) (place_puts link_config is p p2 memory after end (WritingDescLength pending) left b.mine.holds) mine b
  leads after (WritingDescFlags pending) value opened calm met left mine b = word_leads after (WritingDescFlags pending) (WritingAvailEntry pending) (field.DescFlags (pending.number % limit_of link_config.sizes)) _ _ _ b.mine.holds.0 (λ k e. cc) tt refl (λ f fs. tt) (place_puts link_config is p p2 memory after end (WritingDescFlags pending) left b.mine.holds) mine b
  leads after (WritingAvailEntry pending) value opened calm met left mine b = word_leads after (WritingAvailEntry pending) (WritingAvailIndex pending) (field.AvailEntry (pending.number % size_of link_config.sizes)) _ _ _ b.mine.holds.0 (λ k e. cc) tt refl (λ f fs. tt) (place_puts link_config is p p2 memory after end (WritingAvailEntry pending) left b.mine.holds) mine b
  leads after (WritingAvailIndex pending) value opened calm met left mine b = let run = b.mine.holds.0 in let put = place_puts link_config is p p2 memory after end (WritingAvailIndex pending) left b.mine.holds in worked link_config is p p2 memory after end _ _ run (by_put link_config is p p2 memory after end put) mine (sends_index link_config p memory after end u w b.mark pending value put b.mine (b.faces (inl (inl run)))) b
  leads after (ReadingAvailEvent number) value opened calm met left mine b = reads after (ReadingAvailEvent number) value left mine b.mine.holds.0 (event_read_works number value b.mine b.mark) b
  leads after RingingOffer value opened calm met left mine b = reads after RingingOffer value left mine b.mine.holds (λ f. rests RingingOffer b.mine.holds b.mark refl f) b
  leads after (ReadingAvailIndex taken last) value opened calm met left mine b = reads after (ReadingAvailIndex taken last) value left mine b.mine.holds.0 (takes_avail_index link_config is p memory end u w b.mark taken last value met b.opposite b.mine) b
  leads after (WritingAvailEvent taken) value opened calm met left mine b = word_leads after (WritingAvailEvent taken) (ReadingAvailIndex taken true) field.AvailEvent _ _ _ b.mine.holds.0 (λ k e. cc) tt refl (λ f fs. tt) (place_puts link_config is p p2 memory after end (WritingAvailEvent taken) left b.mine.holds) mine b
  leads after (ReadingAvailEntry number more) value opened calm met left mine b = reads after (ReadingAvailEntry number more) value left mine b.mine.holds.0 (takes_entry link_config is p memory end u w b.mark number more value met b.mine) b
  leads after (ReadingDescAddressLow number more entry) value opened calm met left mine b = reads after (ReadingDescAddressLow number more entry) value left mine b.mine.holds.0 (takes_low link_config is p memory end u w b.mark number more entry value met b.mine) b
  leads after (ReadingDescAddressHigh number more entry low) value opened calm met left mine b = reads after (ReadingDescAddressHigh number more entry low) value left mine b.mine.holds.0 (takes_high link_config is p memory end u w b.mark number more entry low value (met ∙ ap memory (let e : section_of link_config (1 - p) + word_offset link_config.sizes (DescAddress entry) + 1 ≡ section_of link_config (1 - p) + (word_offset link_config.sizes (DescAddress entry) + 1) = omega arith in e)) b.mine) b
  leads after (ReadingDescLength number more entry address) value opened calm met left mine b = reads after (ReadingDescLength number more entry address) value left mine b.mine.holds.0 (takes_length link_config is p memory end u w b.mark number more entry address value met b.mine) b
  leads after (ReadingDescFlags number more entry address bytes) value opened calm met left mine b = reads after (ReadingDescFlags number more entry address bytes) value left mine b.mine.holds.0 (takes_flags link_config is p memory end u w b.mark number more entry address bytes value met b.mine) b
  leads after (ReadingFrameWord number more entry address bytes read words) value opened calm met left mine b = reads after (ReadingFrameWord number more entry address bytes read words) value left mine b.mine.holds.0 (takes_word link_config is p memory end u w b.mark number more entry address bytes read words value met b.mine) b
  leads after (WritingUsedId number more entry) value opened calm met left mine b = let run = b.mine.holds.0 in let put = place_puts link_config is p p2 memory after end (WritingUsedId number more entry) left b.mine.holds in worked link_config is p p2 memory after end _ _ run (by_put link_config is p p2 memory after end put) mine (takes_id link_config is p memory after end u w b.mark number more entry value put b.opposite b.mine (b.faces (inl (inl run)))) b
  leads after (WritingUsedLength number more) value opened calm met left mine b = let run = b.mine.holds.0 in let put = place_puts link_config is p p2 memory after end (WritingUsedLength number more) left b.mine.holds in worked link_config is p p2 memory after end _ _ run (by_put link_config is p p2 memory after end put) mine (takes_amount link_config is p memory after end u w b.mark number more value put b.mine (b.faces (inl (inl run)))) b
  leads after (WritingUsedIndex number more) value opened calm met left mine b = let run = b.mine.holds.0 in let put = place_puts link_config is p p2 memory after end (WritingUsedIndex number more) left b.mine.holds in worked link_config is p p2 memory after end _ _ run (by_put link_config is p p2 memory after end put) mine (takes_index link_config is p memory after end u w b.mark number more value put b.mine (b.faces (inl (inl run)))) b
  leads after RingingPoll value opened calm met left mine b = reads after RingingPoll value left mine b.mine.holds (λ f. rests RingingPoll b.mine.holds b.mark refl f) b

-- The two ends

pub before : (link_config : LinkConfig) (memory : ℕ → ℕ) (ends : ℕ → End) (places : ℕ → Place) (p : ℕ) → p < 2 → Pair link_config memory ends places → Before link_config memory p (ends p) (places p) (ends (1 - p)) (places (1 - p))
before link_config memory ends places p p2 m = record { mine = m.alone p p2; opposite = m.alone (1 - p) (omega arith); mark = (m.sound p p2).0; from = m.cross p p2; back = known link_config memory ends places p p2 m; faces = facing link_config memory ends places p p2 m }

-- One end changed, and the words of the other didn't.
changed : (link_config : LinkConfig) (memory after : ℕ → ℕ) (ends next : ℕ → End) (places goes : ℕ → Place) (p : ℕ) (end : End) (place : Place) → IsLinkConfig link_config → p < 2 → OnlyEndChanges ends next places goes p end place → IsUntouched link_config memory after (1 - p) →
    EndInvariant link_config after p end place → Leads link_config after p (ends (1 - p)) (places (1 - p)) end place → Pair link_config memory ends places → Pair link_config after next goes
changed link_config memory after ends next places goes p end place is p2 only keep mine leads m = stepped link_config memory after ends next places goes p end place p2 only m mine
    (alone_kept.others link_config (1 - p) memory after (ends (1 - p)) (places (1 - p)) is keep (m.alone (1 - p) (omega arith))) leads.sound leads.from leads.back
    (λ a. let f = leads.faces a in (f.mine, f.opposite)) (λ a. let f = leads.faces a in (f.sends, f.takes))

step_keeps_pair : (link_config : LinkConfig) (memory after : ℕ → ℕ) (ends next : ℕ → End) (places goes : ℕ → Place) (p value : ℕ) → IsLinkConfig link_config → p < 2 → TakesStep link_config memory after ends next places goes p value → Pair link_config memory ends places → Pair link_config after next goes
step_keeps_pair link_config memory after ends next places goes p value is p2 step m = let mine = alone_kept.steps link_config p memory after (ends p) (places p) value is p2 step.opened step.leaves (m.alone p p2) in
    changed link_config memory after ends next places goes p _ _ is p2 step.comes (untouched link_config is p p2 memory after (ends p) (places p) (m.alone p p2) step.leaves) mine
    (leads link_config is p p2 memory (ends p) (ends (1 - p)) (places (1 - p)) after (places p) value step.opened (m.sound p p2).1 step.meets step.leaves mine (before link_config memory ends places p p2 m)) m

reset_keeps_pair : (link_config : LinkConfig) (memory after : ℕ → ℕ) (ends next : ℕ → End) (places goes : ℕ → Place) (p : ℕ) → IsLinkConfig link_config → p < 2 → IsReset memory after ends next places goes p → Pair link_config memory ends places → Pair link_config after next goes
reset_keeps_pair link_config memory after ends next places goes p is p2 reset m = changed link_config memory after ends next places goes p _ _ is p2 reset.comes (by_state link_config is p p2 memory after (ends p) 0 reset.stored) (alone_kept.resets link_config p memory after (ends p) (places p) is p2 reset.stored (m.alone p p2))
    (leads_reset link_config memory after p (ends p) (ends (1 - p)) (places (1 - p)) (places p) is p2 reset.stored (before link_config memory ends places p p2 m)) m

-- A call begins.
enters : (link_config : LinkConfig) (memory : ℕ → ℕ) (p : ℕ) (end u : End) (w : Place) (next : Place) → next ≢ Refusing → next ≢ WritingState 3 → next ≢ WritingState 1 → freed_at end.freed next ≡ end.freed → ((field : Field → ℕ) (frames : List (List ℕ)) → Polls link_config field frames next) → Before link_config memory p end Closed u w → Leads link_config memory p u w end next
enters link_config memory p end u w next calm three one read polls b = record {
  sound = (b.mark, calm);
  from = λ a. b.from (earlier a);
  back = λ a. ((b.back a).0, one);
  faces = λ a. let f = b.faces (⊎_elim (λ x. inl (earlier x)) inr a) in record { mine = f.mine; opposite = f.opposite; sends = subst (λ k. InFlight link_config (fields link_config memory (1 - p)) end.accepted end.freed k u.delivered u.returned w) (sym read) f.sends; takes = takes_on next (λ k. refl) (polls (fields link_config memory p) u.accepted) f.takes };
}
  where
    earlier : IsAttached end next → IsAttached end Closed
    earlier (inl e) = inl e
    earlier (inr h) = absurd (three h.1)

either : (link_config : LinkConfig) (memory : ℕ → ℕ) (p : ℕ) (end u : End) (w : Place) (b : Bool) (x : Place) → Leads link_config memory p u w end x → Leads link_config memory p u w end NotInRun → Leads link_config memory p u w end (if b then x else NotInRun)
either link_config memory p end u w true x h g = h
either link_config memory p end u w false x h g = g

-- The first place of a call leads on from the place before it.
pub first_leads : (link_config : LinkConfig) (memory : ℕ → ℕ) (p : ℕ) (end u : End) (w : Place) (call : Call) → Before link_config memory p end Closed u w → Leads link_config memory p u w end (first_place (config_of link_config p) end call)
first_leads link_config memory p end u w Tick b = enters link_config memory p end u w (ReadingOtherState end.handshake) (λ e. cc) (λ e. cc) (λ e. cc) refl (λ f fs. tt) b
first_leads link_config memory p end u w Stop b = enters link_config memory p end u w (WritingState 0) (λ e. cc) (set_apart refl (λ e. omega arith)) (set_apart refl (λ e. omega arith)) refl (λ f fs. tt) b
first_leads link_config memory p end u w (Offer frame) b = either link_config memory p end u w (in_run end.handshake.phase) (ReadingUsedIndex (pending_of (config_of link_config p) end frame) end.freed) (enters link_config memory p end u w _ (λ e. cc) (λ e. cc) (λ e. cc) refl (λ f fs. tt) b) (enters link_config memory p end u w NotInRun (λ e. cc) (λ e. cc) (λ e. cc) refl (λ f fs. tt) b)
first_leads link_config memory p end u w Poll b = either link_config memory p end u w (in_run end.handshake.phase) (ReadingAvailIndex (length end.delivered) (is_last (config_of link_config p) end.found_none)) (enters link_config memory p end u w _ (λ e. cc) (λ e. cc) (λ e. cc) refl (λ f fs. tt) b) (enters link_config memory p end u w NotInRun (λ e. cc) (λ e. cc) (λ e. cc) refl (λ f fs. tt) b)

begin_keeps_pair : (link_config : LinkConfig) (memory : ℕ → ℕ) (ends next : ℕ → End) (places goes : ℕ → Place) (p : ℕ) (call : Call) → IsLinkConfig link_config → p < 2 → BeginsCall link_config ends next places goes p call → Pair link_config memory ends places → Pair link_config memory next goes
begin_keeps_pair link_config memory ends next places goes p call is p2 begun m = let b = subst (λ x. Before link_config memory p (ends p) x (ends (1 - p)) (places (1 - p))) begun.closed (before link_config memory ends places p p2 m) in
    changed link_config memory memory ends next places goes p _ _ is p2 begun.comes (still link_config is p p2 memory memory (ends p) refl) (alone_kept.begins link_config p memory (ends p) call is begun.given b.mine) (first_leads link_config memory p (ends p) (ends (1 - p)) (places (1 - p)) call b) m

pub starts_alone : (link_config : LinkConfig) (memory : ℕ → ℕ) (ends : ℕ → End) (places : ℕ → Place) → ((w : ℕ) → memory w ≡ 0) → ((p : ℕ) → ends p ≡ fresh) → ((p : ℕ) → places p ≡ Closed) → (p : ℕ) → EndInvariant link_config memory p (ends p) (places p)
starts_alone link_config memory ends places none new closed p = subst (λ x. EndInvariant link_config memory p x (places p)) (sym (new p)) (subst (EndInvariant link_config memory p fresh) (sym (closed p)) record {
  state = none p;
  written = λ j lt. none (section_of link_config p + j);
  holds = tt;
  rests = λ t. refl;
  ready = λ e. absurd (not_phase {a = Reset} {b = Ready} (λ f. omega arith) refl e);
  level = λ o. absurd o;
  sent = λ o. absurd o;
  freed = omega arith;
  room = omega arith;
})

start_has_pair : (link_config : LinkConfig) (memory : ℕ → ℕ) (ends : ℕ → End) (places : ℕ → Place) → ((w : ℕ) → memory w ≡ 0) → ((p : ℕ) → ends p ≡ fresh) → ((p : ℕ) → places p ≡ Closed) → Pair link_config memory ends places
start_has_pair link_config memory ends places none new closed = record {
  alone = λ p p2. starts_alone link_config memory ends places none new closed p;
  sound = λ p p2. (ap (λ (e : End). e.handshake.mark) (new p), λ e. let f = closed p in cc);
  cross = λ p p2 a. absurd (idle p a);
  sent = λ p p2 a. absurd (⊎_elim (idle p) (idle (1 - p)) a);
  link = λ p p2 a. absurd (⊎_elim (idle p) (idle (1 - p)) a);
}
  where
    idle : (p : ℕ) → IsAttached (ends p) (places p) → ⊥
    idle p a = let high = attends_high (ends p) (places p) a in let e : state_of (ends p).handshake.phase ≡ 0 = ap (λ (x : End). state_of x.handshake.phase) (new p) in omega arith

other_writes_keep_pair : (link_config : LinkConfig) (memory after : ℕ → ℕ) (ends : ℕ → End) (places : ℕ → Place) → IsLinkConfig link_config → ((q : ℕ) → q < 2 → IsUntouched link_config memory after q) → Pair link_config memory ends places → Pair link_config after ends places
other_writes_keep_pair link_config memory after ends places is keep m = let same = λ (q : ℕ) (q2 : q < 2). fields_same link_config memory after q is (keep q q2).section in record {
  alone = λ p p2. alone_kept.others link_config p memory after (ends p) (places p) is (keep p p2) (m.alone p p2);
  sound = m.sound;
  cross = m.cross;
  sent = λ p p2 a. sent_same (λ f. same p p2 f) (m.sent p p2 a);
  link = λ p p2 a. link_same (same (1 - p) (omega arith)) (m.link p p2 a);
}

pub pair_kept : PairIsKept
pair_kept = record { starts = start_has_pair; begins = begin_keeps_pair; steps = step_keeps_pair; resets = reset_keeps_pair; others = other_writes_keep_pair }
