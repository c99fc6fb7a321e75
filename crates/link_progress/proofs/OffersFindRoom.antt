-- An offer is accepted if the other end had returned all frames before it began.
use Rattle.std.proofs.Common.{◌≡◌, ◌≢◌, ℕ, zero, suc, ◌+◌, ◌-◌, ◌<◌, ◌≤◌, inl, Bool, true, false, List, [], ◌∷◌, ◌++◌, length, refl, sym, ap, ◌∙◌, subst, arith, length-append}
use Rattle.std.proofs.lemmas.Bool.Decides.{nat_tests}
use Rattle.std.specs.Prelude.{◌==◌, ◌%◌, if◌then◌else◌}
use Rattle.split_ring.specs.declared.steps.Access.TheVariants as access
use Rattle.link_handshake.specs.declared.Phase.TheVariants.{Run}
use Rattle.call_grammar.specs.Ends.{End, end_after}
use Rattle.split_ring.specs.declared.sizes.TheConstants.{FRAME_OVERHEAD}
use Rattle.split_ring.specs.Layout.{has_events, is_byte_ring, limit_of}
use Rattle.split_ring.specs.Spelling.{low_half, high_half}
use Rattle.split_ring.specs.Ranges.{is_used_index, is_used_id}
use Rattle.call_grammar.specs.Words.{words_for, lengths_of}
use Rattle.call_grammar.proofs.Lengths.{last_length, length_before}
use mathlib.Core.Logic.{dite}
use native.Mathlib.Decide.{ℕ_discrete}
use Rattle.call_grammar.specs.Ticks.{EndConfig}
use Rattle.split_ring.specs.declared.ranges.FieldName.TheVariants as field_name
use Rattle.call_grammar.specs.Offers.{refusal, full_marks, reclaim_marks, PendingOffer, frame_fits, descriptor_of, wants_doorbell, returned_by}
use Rattle.call_grammar.specs.Places.{Place, Closed, ReadingOtherState, Clearing, WritingState, Refusing, NotInRun, ReadingUsedIndex, ReadingUsedId, WritingFrameWord, WritingDescAddressLow, WritingDescAddressHigh, WritingDescLength, WritingDescFlags, WritingAvailEntry, WritingAvailIndex, ReadingAvailEvent, RingingOffer, ReadingAvailIndex, WritingAvailEvent, ReadingAvailEntry, ReadingDescAddressLow, ReadingDescAddressHigh, ReadingDescLength, ReadingDescFlags, ReadingFrameWord, WritingUsedId, WritingUsedLength, WritingUsedIndex, RingingPoll, fill_place, ids_place, access_at, next_place, step_at}
use Rattle.call_grammar.proofs.Phases.{phases}
use Rattle.link_invariant.specs.LinkConfig.{LinkConfig, IsLinkConfig, config_of, fields}
use Rattle.link_invariant.proofs.Fields.{one_test}
use Rattle.link_invariant.specs.Steps.{OnlyEndChanges, ReadsMemory}
use Rattle.link_invariant.specs.EndInvariant.{EndInvariant}
use Rattle.link_invariant.specs.Pair.{Pair}
use Rattle.link_invariant.proofs.PairKept.{pair_kept}
use Rattle.split_ring.specs.declared.steps.Access.{Access}
use Rattle.call_grammar.specs.Steps.{Mark, Saw, Reclaim, Full, Accept, Look, Deliver, Return, Done, Down, Refuse, Over}
use Rattle.call_grammar.specs.Ends.{with_access, with_mark, with_marks}
use Rattle.link_invariant.specs.EndInvariant.{PlaceInvariant, IsNext, OwnSection}
use Rattle.link_invariant.proofs.PairObligations.{Facing, facing}
use Rattle.link_invariant.proofs.OffersOfPair.{returned_is}
use Rattle.link_progress.specs.Polls.{InCall, AlwaysFits, starts, steps, other_begins, other_steps, other_resets, OffersFindRoom}
use Rattle.split_ring.proofs.FramesAreLaidOut.{frames_are_laid_out}
use Rattle.link_progress.proofs.PollsDeliver.{opens_none}
use Rattle.split_ring.specs.Frames.{has_room}

-- The frames returned grow

mark_returns : (end : End) (mark : Mark) → end.returned ≤ (with_mark end mark).returned
mark_returns end (Saw value) = omega arith
mark_returns end (Reclaim count) = omega arith
mark_returns end Full = omega arith
mark_returns end (Accept frame) = omega arith
mark_returns end (Look count) = omega arith
mark_returns end (Deliver frame) = omega arith
mark_returns end Return = omega arith
mark_returns end Done = omega arith
mark_returns end Down = omega arith
mark_returns end (Refuse refused) = omega arith
mark_returns end Over = omega arith

marks_return : (end : End) (marks : List Mark) → end.returned ≤ (with_marks end marks).returned
marks_return end [] = omega arith
marks_return end (mark ∷ marks) = let a = mark_returns end mark in let b = marks_return (with_mark end mark) marks in omega arith

returned_if : (b : Bool) (n : ℕ) → b ≡ false → n ≤ (if b then 0 else n)
returned_if false n h = omega arith
returned_if true n h = let f : true ≡ false = h in absurd (let g : ⊥ = cc in g)

two_not : (state : ℕ) → state ≢ 2 → (state == 2) ≡ false
two_not state ne = grind (arith, nat_tests)

access_returns : (end : End) (a : Access) → ((state : ℕ) → a ≡ access.State state → state ≢ 2) → end.returned ≤ (with_access end a).returned
access_returns end (access.Read word) h = omega arith
access_returns end (access.Write word written) h = omega arith
access_returns end (access.State state) h = returned_if (state == 2) end.returned (two_not state (h state refl))
access_returns end (access.Ring target vector) h = omega arith
access_returns end access.Nothing h = omega arith

pub step_returns : (config : EndConfig) (end : End) (place : Place) (value : ℕ) → ((state : ℕ) → access_at config place ≡ access.State state → state ≢ 2) → end.returned ≤ (end_after end (step_at config place value)).returned
step_returns config end place value h = let a = access_returns end (access_at config place) h in let b = marks_return (with_access end (access_at config place)) (step_at config place value).marks in omega arith

-- The marks of reads

record Keeps (end after : End) (now : ℕ) : Type 0 where
  accepted : after.accepted ≡ end.accepted
  freed : after.freed ≡ now

full_keeps : (end : End) (b : Bool) → Keeps end (with_marks end (if b then [] else Full ∷ [])) end.freed
full_keeps end true = record { accepted = refl; freed = refl }
full_keeps end false = record { accepted = refl; freed = refl }

reclaim_keeps : (end : End) (count : ℕ) (b c : Bool) → (count == 0) ≡ c → Keeps end (with_marks end (if c then Reclaim 0 ∷ (if b then [] else Full ∷ []) else Reclaim count ∷ [])) (end.freed + count)
reclaim_keeps end count true true z = record { accepted = refl; freed = let zero_is : count ≡ 0 = grind (arith, nat_tests) in omega arith }
reclaim_keeps end count false true z = record { accepted = refl; freed = let zero_is : count ≡ 0 = grind (arith, nat_tests) in omega arith }
reclaim_keeps end count b false z = record { accepted = refl; freed = refl }

ids_keep : (end : End) (c b : Bool) → Keeps end (with_marks end (if c then (if b then [] else Full ∷ []) else [])) end.freed
ids_keep end true b = full_keeps end b
ids_keep end false b = record { accepted = refl; freed = refl }

-- The frames of an offer

-- The frames from `low` on, up to the offered one, are no longer than frames may be.
abbrev AreShort : LinkConfig → PendingOffer → ℕ → Type 0
AreShort link_config pending low = (k : ℕ) → low ≤ k → k ≤ pending.number → pending.lengths k ≤ link_config.sizes.mtu + FRAME_OVERHEAD

are_short : (link_config : LinkConfig) (memory : ℕ → ℕ) (p : ℕ) (end : End) (pending : PendingOffer) → IsNext link_config (fields link_config memory p) end.accepted pending → OwnSection link_config (fields link_config memory p) end.accepted end.freed end.returned →
    AreShort link_config pending end.freed
are_short link_config memory p end pending next mine k low high = let number = next.number in let same = ap (λ f. f k) next.lengths in dite (ℕ_discrete k (length end.accepted))
    (λ e. let last = ap (λ j. lengths_of (end.accepted ++ pending.frame ∷ []) j) e ∙ last_length end.accepted pending.frame in let most = next.frame.most in omega arith)
    (λ ne. let lt : k < length end.accepted = omega arith in let before = length_before end.accepted pending.frame k lt in let most : lengths_of end.accepted k ≤ link_config.sizes.mtu + FRAME_OVERHEAD = (mine.spelled k low lt).offered.most in omega arith)

-- Room

no_frame : (link_config : LinkConfig) → IsLinkConfig link_config → AlwaysFits link_config 0
no_frame link_config is length_of freed number low high short = ap (λ k. has_room link_config.sizes length_of k number) (let same : freed ≡ number = omega arith in same) ∙ frames_are_laid_out.empty link_config.sizes length_of number is.queue

by_slots : (link_config : LinkConfig) (out : ℕ) → is_byte_ring link_config.sizes ≡ false → out < limit_of link_config.sizes → AlwaysFits link_config out
by_slots link_config out ring few length_of freed number low high short = frames_are_laid_out.slots link_config.sizes length_of freed number ring ∙ one_test number (freed + limit_of link_config.sizes) (omega arith)

module _ (out : ℕ) where
  -- The offer of frame n

  abbrev pub Offers : (n : ℕ) → Place → (end : End) → (returned : ℕ) → Type 0
  Offers n (ReadingUsedIndex pending freed) end returned = (length end.accepted ≡ n) × (n ≤ returned + out)
  Offers n (ReadingUsedId pending freed more) end returned = (length end.accepted ≡ n) × (n ≤ end.freed + out)
  Offers n (WritingFrameWord pending at more) end returned = length end.accepted ≡ n
  Offers n (WritingDescAddressLow pending) end returned = length end.accepted ≡ n
  Offers n (WritingDescAddressHigh pending) end returned = length end.accepted ≡ n
  Offers n (WritingDescLength pending) end returned = length end.accepted ≡ n
  Offers n (WritingDescFlags pending) end returned = length end.accepted ≡ n
  Offers n (WritingAvailEntry pending) end returned = length end.accepted ≡ n
  Offers n (WritingAvailIndex pending) end returned = length end.accepted ≡ n
  Offers n (ReadingAvailEvent number) end returned = length end.accepted ≡ n + 1
  Offers n RingingOffer end returned = length end.accepted ≡ n + 1
  Offers n Closed end returned = length end.accepted ≡ n + 1
  Offers n place end returned = ⊥

  fill_offers : (n : ℕ) (pending : PendingOffer) (at count : ℕ) (end : End) (returned : ℕ) → length end.accepted ≡ n → Offers n (fill_place pending at count) end returned
  fill_offers n pending at zero end returned h = h
  fill_offers n pending at (suc more) end returned h = h

  fits_offers : (n : ℕ) (b : Bool) (pending : PendingOffer) (count : ℕ) (end : End) (returned : ℕ) → b ≡ true → length end.accepted ≡ n → Offers n (if b then fill_place pending 0 count else Closed) end returned
  fits_offers n true pending count end returned fits h = fill_offers n pending 0 count end returned h
  fits_offers n false pending count end returned fits h = let f : false ≡ true = fits in absurd (let g : ⊥ = cc in g)

  ids_offer : (link_config : LinkConfig) (p n : ℕ) (pending : PendingOffer) (freed count : ℕ) (end : End) (returned : ℕ) → AlwaysFits link_config out → AreShort link_config pending (freed + count) → pending.number ≡ n → freed + count ≤ n → n ≤ freed + count + out →
      length end.accepted ≡ n → end.freed ≡ freed + count → Offers n (ids_place (config_of link_config p) pending freed count) end returned
  ids_offer link_config p n pending freed zero end returned fits short number low high h e = fits_offers n (frame_fits (config_of link_config p) pending freed) pending (words_for (length pending.frame)) end returned
      (fits pending.lengths freed pending.number (omega arith) (omega arith) (λ k from to. short k (omega arith) to)) h
  ids_offer link_config p n pending freed (suc more) end returned fits short number low high h e = (h, omega arith)

  offers_or : (n : ℕ) (b : Bool) (x : Place) (good bad : List Mark) (end : End) (returned : ℕ) → (if b then x else Refusing) ≢ Refusing → Offers n x (with_marks end good) returned → Offers n (if b then x else Refusing) (with_marks end (if b then good else bad)) returned
  offers_or n true x good bad end returned ne h = h
  offers_or n false x good bad end returned ne h = absurd (ne refl)

  notify_offers : (n : ℕ) (b : Bool) (number : ℕ) (end : End) (returned : ℕ) → length end.accepted ≡ n + 1 → Offers n (if b then ReadingAvailEvent number else RingingOffer) end returned
  notify_offers n true number end returned h = h
  notify_offers n false number end returned h = h

  event_offers : (n : ℕ) (b : Bool) (end : End) (returned : ℕ) → length end.accepted ≡ n + 1 → Offers n (if b then RingingOffer else Closed) (with_marks end (if b then [] else Over ∷ [])) returned
  event_offers n true end returned h = h
  event_offers n false end returned h = h

  module _ (link_config : LinkConfig) (is : IsLinkConfig link_config) (fits : AlwaysFits link_config out) (p : ℕ) (memory : ℕ → ℕ) (end u : End) (w : Place) where
    pub step_offers : (n : ℕ) (place : Place) (value : ℕ) → end.handshake.mark ≡ false → place ≢ Closed → next_place (config_of link_config p) place value ≢ Refusing → EndInvariant link_config memory p end place → Facing link_config memory p end place u w →
        ReadsMemory memory (access_at (config_of link_config p) place) value → Offers n place end u.returned → Offers n (next_place (config_of link_config p) place value) (end_after end (step_at (config_of link_config p) place value)) u.returned
    step_offers n Closed value mark opens calm a f met h = absurd (opens refl)
    step_offers n (ReadingOtherState handshake) value mark opens calm a f met h = absurd h
    step_offers n (Clearing at more state) value mark opens calm a f met h = absurd h
    step_offers n (WritingState state) value mark opens calm a f met h = absurd h
    step_offers n Refusing value mark opens calm a f met h = absurd h
    step_offers n NotInRun value mark opens calm a f met h = absurd h
    step_offers n (ReadingUsedIndex pending freed) value mark opens calm a f met h = let config = config_of link_config p in let d = returned_by freed value in let r = returned_is link_config is p memory end u w mark pending freed value met a f in let r0 = r.0 in let r1 = r.1 in let h0 = h.0 in let h1 = h.1 in
        let k = reclaim_keeps end d (frame_fits config pending freed) (d == 0) refl in let k1 = k.freed in let same = a.holds.2 in let number = a.holds.1.number in let short = are_short link_config memory p end pending a.holds.1 f.mine in
        offers_or n (is_used_index (freed % 65536) (high_half value) (pending.number - freed)) (ids_place config pending freed d) (reclaim_marks config pending freed d) (refusal field_name.UsedIndex (high_half value)) end u.returned calm
        (ids_offer link_config p n pending freed d (with_marks end (reclaim_marks config pending freed d)) u.returned fits (λ k from to. short k (omega arith) to) (omega arith) (omega arith) (omega arith) (ap length k.accepted ∙ h0) (omega arith))
    step_offers n (ReadingUsedId pending freed more) value mark opens calm a f met h = let config = config_of link_config p in let h0 = h.0 in let h1 = h.1 in let k = ids_keep end (more == 0) (frame_fits config pending (freed + 1)) in let k1 = k.freed in let all = a.holds.2 in let number = a.holds.1.number in let short = are_short link_config memory p end pending a.holds.1 f.mine in
        offers_or n (is_used_id (descriptor_of config freed) value) (ids_place config pending (freed + 1) more) (if more == 0 then full_marks config pending (freed + 1) else []) (refusal field_name.UsedId value) end u.returned calm
        (ids_offer link_config p n pending (freed + 1) more (with_marks end (if more == 0 then full_marks config pending (freed + 1) else [])) u.returned fits (λ k from to. short k (omega arith) to) (omega arith) (omega arith) (omega arith) (ap length k.accepted ∙ h0) (omega arith))
    step_offers n (WritingFrameWord pending at more) value mark opens calm a f met h = fill_offers n pending (at + 1) more _ u.returned h
    step_offers n (WritingDescAddressLow pending) value mark opens calm a f met h = h
    step_offers n (WritingDescAddressHigh pending) value mark opens calm a f met h = h
    step_offers n (WritingDescLength pending) value mark opens calm a f met h = h
    step_offers n (WritingDescFlags pending) value mark opens calm a f met h = h
    step_offers n (WritingAvailEntry pending) value mark opens calm a f met h = h
    step_offers n (WritingAvailIndex pending) value mark opens calm a f met h = notify_offers n (has_events link_config.sizes) pending.number _ u.returned (let e = length-append end.accepted (pending.frame ∷ []) in omega arith)
    step_offers n (ReadingAvailEvent number) value mark opens calm a f met h = event_offers n (wants_doorbell (low_half value) number) end u.returned h
    step_offers n RingingOffer value mark opens calm a f met h = h
    step_offers n (ReadingAvailIndex taken last) value mark opens calm a f met h = absurd h
    step_offers n (WritingAvailEvent taken) value mark opens calm a f met h = absurd h
    step_offers n (ReadingAvailEntry number more) value mark opens calm a f met h = absurd h
    step_offers n (ReadingDescAddressLow number more entry) value mark opens calm a f met h = absurd h
    step_offers n (ReadingDescAddressHigh number more entry low) value mark opens calm a f met h = absurd h
    step_offers n (ReadingDescLength number more entry address) value mark opens calm a f met h = absurd h
    step_offers n (ReadingDescFlags number more entry address bytes) value mark opens calm a f met h = absurd h
    step_offers n (ReadingFrameWord number more entry address bytes read words) value mark opens calm a f met h = absurd h
    step_offers n (WritingUsedId number more entry) value mark opens calm a f met h = absurd h
    step_offers n (WritingUsedLength number more) value mark opens calm a f met h = absurd h
    step_offers n (WritingUsedIndex number more) value mark opens calm a f met h = absurd h
    step_offers n RingingPoll value mark opens calm a f met h = absurd h

  pub offers_on : (n : ℕ) (place : Place) (end : End) (returned after : ℕ) → returned ≤ after → Offers n place end returned → Offers n place end after
  offers_on n Closed end returned after le h = h
  offers_on n (ReadingOtherState handshake) end returned after le h = absurd h
  offers_on n (Clearing at more state) end returned after le h = absurd h
  offers_on n (WritingState state) end returned after le h = absurd h
  offers_on n Refusing end returned after le h = absurd h
  offers_on n NotInRun end returned after le h = absurd h
  offers_on n (ReadingUsedIndex pending freed) end returned after le h = (h.0, let low = h.1 in omega arith)
  offers_on n (ReadingUsedId pending freed more) end returned after le h = h
  offers_on n (WritingFrameWord pending at more) end returned after le h = h
  offers_on n (WritingDescAddressLow pending) end returned after le h = h
  offers_on n (WritingDescAddressHigh pending) end returned after le h = h
  offers_on n (WritingDescLength pending) end returned after le h = h
  offers_on n (WritingDescFlags pending) end returned after le h = h
  offers_on n (WritingAvailEntry pending) end returned after le h = h
  offers_on n (WritingAvailIndex pending) end returned after le h = h
  offers_on n (ReadingAvailEvent number) end returned after le h = h
  offers_on n RingingOffer end returned after le h = h
  offers_on n (ReadingAvailIndex taken last) end returned after le h = absurd h
  offers_on n (WritingAvailEvent taken) end returned after le h = absurd h
  offers_on n (ReadingAvailEntry number more) end returned after le h = absurd h
  offers_on n (ReadingDescAddressLow number more entry) end returned after le h = absurd h
  offers_on n (ReadingDescAddressHigh number more entry low) end returned after le h = absurd h
  offers_on n (ReadingDescLength number more entry address) end returned after le h = absurd h
  offers_on n (ReadingDescFlags number more entry address bytes) end returned after le h = absurd h
  offers_on n (ReadingFrameWord number more entry address bytes read words) end returned after le h = absurd h
  offers_on n (WritingUsedId number more entry) end returned after le h = absurd h
  offers_on n (WritingUsedLength number more) end returned after le h = absurd h
  offers_on n (WritingUsedIndex number more) end returned after le h = absurd h
  offers_on n RingingPoll end returned after le h = absurd h

  pub offer_sets_none : (n : ℕ) (config : EndConfig) (place : Place) (end : End) (returned : ℕ) → Offers n place end returned → (state : ℕ) → access_at config place ≢ access.State state
  offer_sets_none n config Closed end returned h s = λ e. cc
  offer_sets_none n config (ReadingOtherState handshake) end returned h s = absurd h
  offer_sets_none n config (Clearing at more state) end returned h s = absurd h
  offer_sets_none n config (WritingState state) end returned h s = absurd h
  offer_sets_none n config Refusing end returned h s = absurd h
  offer_sets_none n config NotInRun end returned h s = absurd h
  offer_sets_none n config (ReadingUsedIndex pending freed) end returned h s = λ e. cc
  offer_sets_none n config (ReadingUsedId pending freed more) end returned h s = λ e. cc
  offer_sets_none n config (WritingFrameWord pending at more) end returned h s = λ e. cc
  offer_sets_none n config (WritingDescAddressLow pending) end returned h s = λ e. cc
  offer_sets_none n config (WritingDescAddressHigh pending) end returned h s = λ e. cc
  offer_sets_none n config (WritingDescLength pending) end returned h s = λ e. cc
  offer_sets_none n config (WritingDescFlags pending) end returned h s = λ e. cc
  offer_sets_none n config (WritingAvailEntry pending) end returned h s = λ e. cc
  offer_sets_none n config (WritingAvailIndex pending) end returned h s = λ e. cc
  offer_sets_none n config (ReadingAvailEvent number) end returned h s = λ e. cc
  offer_sets_none n config RingingOffer end returned h s = λ e. cc
  offer_sets_none n config (ReadingAvailIndex taken last) end returned h s = absurd h
  offer_sets_none n config (WritingAvailEvent taken) end returned h s = absurd h
  offer_sets_none n config (ReadingAvailEntry number more) end returned h s = absurd h
  offer_sets_none n config (ReadingDescAddressLow number more entry) end returned h s = absurd h
  offer_sets_none n config (ReadingDescAddressHigh number more entry low) end returned h s = absurd h
  offer_sets_none n config (ReadingDescLength number more entry address) end returned h s = absurd h
  offer_sets_none n config (ReadingDescFlags number more entry address bytes) end returned h s = absurd h
  offer_sets_none n config (ReadingFrameWord number more entry address bytes read words) end returned h s = absurd h
  offer_sets_none n config (WritingUsedId number more entry) end returned h s = absurd h
  offer_sets_none n config (WritingUsedLength number more) end returned h s = absurd h
  offer_sets_none n config (WritingUsedIndex number more) end returned h s = absurd h
  offer_sets_none n config RingingPoll end returned h s = absurd h

  -- Along the call

  record Held (link_config : LinkConfig) (p n : ℕ) (memory : ℕ → ℕ) (ends : ℕ → End) (places : ℕ → Place) : Type 0 where
    pair : Pair link_config memory ends places
    run : (ends p).handshake.phase ≡ Run
    reach : Offers n (places p) (ends p) (ends (1 - p)).returned

  pub offers_as : (n : ℕ) {place place' : Place} {end end' u u' : End} → place' ≡ place → end' ≡ end → u' ≡ u → Offers n place end u.returned → Offers n place' end' u'.returned
  offers_as n {place} {place'} {end} {end'} {u} {u'} a b c h = subst (λ x. Offers n x end' u'.returned) (sym a) (subst (λ (x : End). Offers n place x u'.returned) (sym b) (subst (λ (x : End). Offers n place end x.returned) (sym c) h))

  module _ (link_config : LinkConfig) (is : IsLinkConfig link_config) (fits : AlwaysFits link_config out) (p n : ℕ) (p2 : p < 2) where
    -- The other end changes to one that has returned at least as much.
    other_held : {now after : ℕ → ℕ} {ends after_ends : ℕ → End} {places after_places : ℕ → Place} (end : End) (place : Place) → OnlyEndChanges ends after_ends places after_places (1 - p) end place → Pair link_config after after_ends after_places →
        (ends (1 - p)).returned ≤ end.returned → Held link_config p n now ends places → Held link_config p n after after_ends after_places
    other_held end place only pair le a = let ne : p ≢ 1 - p = λ e. omega arith in record {
      pair = pair;
      run = ap (λ (x : End). x.handshake.phase) (only.ends_stay p ne) ∙ a.run;
      reach = offers_as n (only.places_stay p ne) (only.ends_stay p ne) only.end_is (offers_on n _ _ _ end.returned le a.reach);
    }

    held : (memory : ℕ → ℕ) (ends : ℕ → End) (places : ℕ → Place) (now : ℕ → ℕ) (now_ends : ℕ → End) (now_places : ℕ → Place) → Held link_config p n memory ends places → InCall link_config p memory ends places now now_ends now_places → Held link_config p n now now_ends now_places
    held memory ends places _ _ _ start starts = start
    held memory ends places _ _ _ start (steps now after now_ends after_ends now_places after_places value call step) =
        let a = held memory ends places now now_ends now_places start call in
        let pair = pair_kept.steps link_config now after now_ends after_ends now_places after_places p value is p2 step a.pair in
        let ne : 1 - p ≢ p = λ e. omega arith in
        let quiet = offer_sets_none n (config_of link_config p) (now_places p) _ _ a.reach in record {
          pair = pair;
          run = ap (λ (x : End). x.handshake.phase) step.comes.end_is ∙ phases.kept (now_ends p) (step_at (config_of link_config p) (now_places p) value) quiet ∙ a.run;
          reach = offers_as n step.comes.place_is step.comes.end_is (step.comes.ends_stay (1 - p) ne)
              (step_offers link_config is fits p now (now_ends p) (now_ends (1 - p)) (now_places (1 - p)) n (now_places p) value (a.pair.sound p p2).0 (λ e. let f = step.opened in cc)
              (λ e. (pair.sound p p2).1 (step.comes.place_is ∙ e)) (a.pair.alone p p2) (facing link_config now now_ends now_places p p2 a.pair (inl (inl a.run))) step.meets a.reach);
        }
    held memory ends places _ _ _ start (other_begins now now_ends after_ends now_places after_places kind call begun) =
        let a = held memory ends places now now_ends now_places start call in
        other_held _ _ begun.comes (pair_kept.begins link_config now now_ends after_ends now_places after_places (1 - p) kind is (omega arith) begun a.pair) (omega arith) a
    held memory ends places _ _ _ start (other_steps now after now_ends after_ends now_places after_places value call step) =
        let a = held memory ends places now now_ends now_places start call in
        other_held _ _ step.comes (pair_kept.steps link_config now after now_ends after_ends now_places after_places (1 - p) value is (omega arith) step a.pair)
        (step_returns (config_of link_config (1 - p)) (now_ends (1 - p)) (now_places (1 - p)) value (opens_none link_config now (1 - p) (now_ends (1 - p)) (now_places (1 - p)) (a.pair.alone (1 - p) (omega arith)) (a.pair.cross p p2 (inl a.run)).0)) a
    held memory ends places _ _ _ start (other_resets now after now_ends after_ends now_places after_places call reset) =
        let a = held memory ends places now now_ends now_places start call in
        other_held _ _ reset.comes (pair_kept.resets link_config now after now_ends after_ends now_places after_places (1 - p) is (omega arith) reset a.pair) (omega arith) a

pub offers_find_room : OffersFindRoom
offers_find_room = record {
  empty = no_frame;
  slots = by_slots;
  room = λ link_config memory now ends now_ends places now_places p out freed pending is p2 m begins fits few call closed.
      let run = (subst (PlaceInvariant link_config memory p (ends p)) begins (m.alone p p2).holds).0 in let n = length (ends p).accepted in
      let start : Held out link_config p n memory ends places = record { pair = m; run = run; reach = subst (λ x. Offers out n x (ends p) (ends (1 - p)).returned) (sym begins) (refl, few) } in
      let a = held out link_config is fits p n p2 memory ends places now now_ends now_places start call in
      subst (λ x. Offers out n x (now_ends p) (now_ends (1 - p)).returned) closed a.reach;
}
