-- A poll delivers all frames that were accepted before it began.
use Rattle.std.proofs.Common.{◌≡◌, ◌≢◌, ℕ, zero, suc, ◌+◌, ◌-◌, ◌<◌, ◌≤◌, inl, Bool, true, false, List, [], ◌∷◌, ◌++◌, length, refl, sym, ap, ◌∙◌, subst, arith, length-append}
use Rattle.std.proofs.lemmas.Bool.Decides.{nat_tests}
use Rattle.std.specs.Prelude.{◌==◌, ◌%◌, if◌then◌else◌}
use Rattle.split_ring.specs.declared.steps.Access.TheVariants as access
use Rattle.link_handshake.specs.declared.Phase.{Phase}
use Rattle.link_handshake.specs.declared.Phase.TheVariants.{Init, Run}
use Rattle.call_grammar.specs.Ends.{End, end_after}
use Rattle.split_ring.specs.Spelling.{high_half, desc_flags}
use Rattle.split_ring.specs.Ranges.{is_avail_entry, is_desc_address, is_desc_length, is_avail_index, is_desc_flags}
use Rattle.call_grammar.specs.Words.{words_for, address_of}
use Rattle.call_grammar.specs.Ticks.{EndConfig}
use Rattle.split_ring.specs.declared.ranges.FieldName.TheVariants as field_name
use Rattle.call_grammar.specs.Offers.{refusal}
use Rattle.call_grammar.specs.Polls.{entry_in, published_by, look_marks}
use Rattle.call_grammar.specs.Places.{Place, Closed, ReadingOtherState, Clearing, WritingState, Refusing, NotInRun, ReadingUsedIndex, ReadingUsedId, WritingFrameWord, WritingDescAddressLow, WritingDescAddressHigh, WritingDescLength, WritingDescFlags, WritingAvailEntry, WritingAvailIndex, ReadingAvailEvent, RingingOffer, ReadingAvailIndex, WritingAvailEvent, ReadingAvailEntry, ReadingDescAddressLow, ReadingDescAddressHigh, ReadingDescLength, ReadingDescFlags, ReadingFrameWord, WritingUsedId, WritingUsedLength, WritingUsedIndex, RingingPoll, none_place, items_place, words_place, access_at, next_place, step_at}
use Rattle.call_grammar.proofs.Phases.{phases}
use Rattle.link_invariant.specs.LinkConfig.{LinkConfig, IsLinkConfig, config_of}
use Rattle.link_invariant.specs.Steps.{OnlyEndChanges, ReadsMemory}
use Rattle.link_invariant.specs.EndInvariant.{EndInvariant}
use Rattle.link_invariant.specs.Pair.{Pair}
use Rattle.link_invariant.proofs.PairKept.{pair_kept}
use Rattle.split_ring.specs.declared.steps.Access.{Access}
use Rattle.call_grammar.specs.Steps.{Mark, Saw, Reclaim, Full, Accept, Look, Deliver, Return, Done, Down, Refuse, Over}
use Rattle.call_grammar.specs.Ends.{with_access, with_mark, with_marks}
use Rattle.link_invariant.specs.EndInvariant.{PlaceInvariant, MaySet}
use Rattle.link_invariant.proofs.EndObligations.{opened}
use Rattle.link_invariant.proofs.PairObligations.{Facing, facing}
use Rattle.link_invariant.proofs.PollsOfPair.{published_is}
use Rattle.link_progress.specs.Polls.{InCall, starts, steps, other_begins, other_steps, other_resets, PollsDeliver}

-- The frames accepted grow

mark_grows : (end : End) (mark : Mark) → length end.accepted ≤ length (with_mark end mark).accepted
mark_grows end (Saw value) = omega arith
mark_grows end (Reclaim count) = omega arith
mark_grows end Full = omega arith
mark_grows end (Accept frame) = let e = length-append end.accepted (frame ∷ []) in omega arith
mark_grows end (Look count) = omega arith
mark_grows end (Deliver frame) = omega arith
mark_grows end Return = omega arith
mark_grows end Done = omega arith
mark_grows end Down = omega arith
mark_grows end (Refuse refused) = omega arith
mark_grows end Over = omega arith

marks_grow : (end : End) (marks : List Mark) → length end.accepted ≤ length (with_marks end marks).accepted
marks_grow end [] = omega arith
marks_grow end (mark ∷ marks) = let a = mark_grows end mark in let b = marks_grow (with_mark end mark) marks in omega arith

keeps_if : (b : Bool) (frames : List (List ℕ)) → b ≡ false → length frames ≤ length (if b then [] else frames)
keeps_if false frames h = omega arith
keeps_if true frames h = let f : true ≡ false = h in absurd (let g : ⊥ = cc in g)

not_two : (state : ℕ) → state ≢ 2 → (state == 2) ≡ false
not_two state ne = grind (arith, nat_tests)

access_grows : (end : End) (a : Access) → ((state : ℕ) → a ≡ access.State state → state ≢ 2) → length end.accepted ≤ length (with_access end a).accepted
access_grows end (access.Read word) h = omega arith
access_grows end (access.Write word written) h = omega arith
access_grows end (access.State state) h = keeps_if (state == 2) end.accepted (not_two state (h state refl))
access_grows end (access.Ring target vector) h = omega arith
access_grows end access.Nothing h = omega arith

pub step_grows : (config : EndConfig) (end : End) (place : Place) (value : ℕ) → ((state : ℕ) → access_at config place ≡ access.State state → state ≢ 2) → length end.accepted ≤ length (end_after end (step_at config place value)).accepted
step_grows config end place value h = let a = access_grows end (access_at config place) h in let b = marks_grow (with_access end (access_at config place)) (step_at config place value).marks in omega arith

abbrev state_of_access : Access → ℕ
state_of_access (access.State state) = state
state_of_access a = 9

-- An end that isn't in INIT opens no session.
may_set_two : (link_config : LinkConfig) (memory : ℕ → ℕ) (p : ℕ) (phase : Phase) (state : ℕ) → MaySet link_config memory p phase state → phase ≢ Init → state ≢ 2
may_set_two link_config memory p phase state may ne e = ne (subst (MaySet link_config memory p phase) e may).0

pub opens_none : (link_config : LinkConfig) (memory : ℕ → ℕ) (p : ℕ) (end : End) (place : Place) → EndInvariant link_config memory p end place → end.handshake.phase ≢ Init → (state : ℕ) → access_at (config_of link_config p) place ≡ access.State state → state ≢ 2
opens_none link_config memory p end Closed a ne s e f = let g : 9 ≡ s = ap state_of_access e in omega (arith, g, f)
opens_none link_config memory p end (ReadingOtherState handshake) a ne s e f = let g : 9 ≡ s = ap state_of_access e in omega (arith, g, f)
opens_none link_config memory p end (Clearing at more state) a ne s e f = let g : 9 ≡ s = ap state_of_access e in omega (arith, g, f)
opens_none link_config memory p end (WritingState state) a ne s e f = may_set_two link_config memory p end.handshake.phase state a.holds ne (ap state_of_access e ∙ f)
opens_none link_config memory p end Refusing a ne s e f = let g : 0 ≡ s = ap state_of_access e in omega (arith, g, f)
opens_none link_config memory p end NotInRun a ne s e f = let g : 9 ≡ s = ap state_of_access e in omega (arith, g, f)
opens_none link_config memory p end (ReadingUsedIndex pending freed) a ne s e f = let g : 9 ≡ s = ap state_of_access e in omega (arith, g, f)
opens_none link_config memory p end (ReadingUsedId pending freed more) a ne s e f = let g : 9 ≡ s = ap state_of_access e in omega (arith, g, f)
opens_none link_config memory p end (WritingFrameWord pending at more) a ne s e f = let g : 9 ≡ s = ap state_of_access e in omega (arith, g, f)
opens_none link_config memory p end (WritingDescAddressLow pending) a ne s e f = let g : 9 ≡ s = ap state_of_access e in omega (arith, g, f)
opens_none link_config memory p end (WritingDescAddressHigh pending) a ne s e f = let g : 9 ≡ s = ap state_of_access e in omega (arith, g, f)
opens_none link_config memory p end (WritingDescLength pending) a ne s e f = let g : 9 ≡ s = ap state_of_access e in omega (arith, g, f)
opens_none link_config memory p end (WritingDescFlags pending) a ne s e f = let g : 9 ≡ s = ap state_of_access e in omega (arith, g, f)
opens_none link_config memory p end (WritingAvailEntry pending) a ne s e f = let g : 9 ≡ s = ap state_of_access e in omega (arith, g, f)
opens_none link_config memory p end (WritingAvailIndex pending) a ne s e f = let g : 9 ≡ s = ap state_of_access e in omega (arith, g, f)
opens_none link_config memory p end (ReadingAvailEvent number) a ne s e f = let g : 9 ≡ s = ap state_of_access e in omega (arith, g, f)
opens_none link_config memory p end RingingOffer a ne s e f = let g : 9 ≡ s = ap state_of_access e in omega (arith, g, f)
opens_none link_config memory p end (ReadingAvailIndex taken last) a ne s e f = let g : 9 ≡ s = ap state_of_access e in omega (arith, g, f)
opens_none link_config memory p end (WritingAvailEvent taken) a ne s e f = let g : 9 ≡ s = ap state_of_access e in omega (arith, g, f)
opens_none link_config memory p end (ReadingAvailEntry number more) a ne s e f = let g : 9 ≡ s = ap state_of_access e in omega (arith, g, f)
opens_none link_config memory p end (ReadingDescAddressLow number more entry) a ne s e f = let g : 9 ≡ s = ap state_of_access e in omega (arith, g, f)
opens_none link_config memory p end (ReadingDescAddressHigh number more entry low) a ne s e f = let g : 9 ≡ s = ap state_of_access e in omega (arith, g, f)
opens_none link_config memory p end (ReadingDescLength number more entry address) a ne s e f = let g : 9 ≡ s = ap state_of_access e in omega (arith, g, f)
opens_none link_config memory p end (ReadingDescFlags number more entry address bytes) a ne s e f = let g : 9 ≡ s = ap state_of_access e in omega (arith, g, f)
opens_none link_config memory p end (ReadingFrameWord number more entry address bytes read words) a ne s e f = let g : 9 ≡ s = ap state_of_access e in omega (arith, g, f)
opens_none link_config memory p end (WritingUsedId number more entry) a ne s e f = let g : 9 ≡ s = ap state_of_access e in omega (arith, g, f)
opens_none link_config memory p end (WritingUsedLength number more) a ne s e f = let g : 9 ≡ s = ap state_of_access e in omega (arith, g, f)
opens_none link_config memory p end (WritingUsedIndex number more) a ne s e f = let g : 9 ≡ s = ap state_of_access e in omega (arith, g, f)
opens_none link_config memory p end RingingPoll a ne s e f = let g : 9 ≡ s = ap state_of_access e in omega (arith, g, f)

-- A read of the available index delivers nothing.
look_keeps_by : (end : End) (c : Bool) (d : ℕ) (last : Bool) → (with_marks end (if c then (if last then Look 0 ∷ Done ∷ [] else Look 0 ∷ []) else Look d ∷ [])).delivered ≡ end.delivered
look_keeps_by end true d true = refl
look_keeps_by end true d false = refl
look_keeps_by end false d last = refl

look_keeps : (end : End) (b c : Bool) (d : ℕ) (last : Bool) (marks : List Mark) → (with_marks end marks).delivered ≡ end.delivered → (with_marks end (if b then look_marks last d else marks)).delivered ≡ end.delivered
look_keeps end true c d last marks h = look_keeps_by end (d == 0) d last
look_keeps end false c d last marks h = h

-- At each place of a poll: the first n frames are delivered, or the poll has yet to deliver them

abbrev pub Reaches : (n : ℕ) → Place → (accepted delivered : List (List ℕ)) → Type 0
Reaches n (ReadingAvailIndex taken last) accepted delivered = n ≤ length accepted
Reaches n (WritingAvailEvent taken) accepted delivered = n ≤ taken
Reaches n (ReadingAvailEntry number more) accepted delivered = n ≤ number + suc more
Reaches n (ReadingDescAddressLow number more entry) accepted delivered = n ≤ number + suc more
Reaches n (ReadingDescAddressHigh number more entry low) accepted delivered = n ≤ number + suc more
Reaches n (ReadingDescLength number more entry address) accepted delivered = n ≤ number + suc more
Reaches n (ReadingDescFlags number more entry address bytes) accepted delivered = n ≤ number + suc more
Reaches n (ReadingFrameWord number more entry address bytes read words) accepted delivered = n ≤ number + suc more
Reaches n (WritingUsedId number more entry) accepted delivered = n ≤ number + suc more
Reaches n (WritingUsedLength number more) accepted delivered = n ≤ number + suc more
Reaches n (WritingUsedIndex number more) accepted delivered = n ≤ number + suc more
Reaches n RingingPoll accepted delivered = n ≤ length delivered
Reaches n Closed accepted delivered = n ≤ length delivered
Reaches n place accepted delivered = ⊥

reaches_or : (n : ℕ) (b : Bool) (x : Place) (accepted delivered : List (List ℕ)) → Reaches n x accepted delivered → (if b then x else Refusing) ≢ Refusing → Reaches n (if b then x else Refusing) accepted delivered
reaches_or n true x accepted delivered h ne = h
reaches_or n false x accepted delivered h ne = absurd (ne refl)

words_reach : (n number more entry address bytes : ℕ) (read : List ℕ) (words : ℕ) (accepted delivered : List (List ℕ)) → n ≤ number + suc more → Reaches n (words_place number more entry address bytes read words) accepted delivered
words_reach n number more entry address bytes read zero accepted delivered h = h
words_reach n number more entry address bytes read (suc words) accepted delivered h = h

-- The next item, or the end of the poll, after `number` frames were delivered.
items_reach : (n number count : ℕ) (accepted delivered : List (List ℕ)) → n ≤ number + count → number ≡ length delivered → Reaches n (items_place number count) accepted delivered
items_reach n number zero accepted delivered h e = omega arith
items_reach n number (suc more) accepted delivered h e = omega arith

none_reach : (n taken : ℕ) (last : Bool) (accepted delivered : List (List ℕ)) → n ≤ taken → taken ≡ length delivered → Reaches n (none_place taken last) accepted delivered
none_reach n taken true accepted delivered h e = omega arith
none_reach n taken false accepted delivered h e = h

look_reach : (n taken d : ℕ) (last : Bool) (accepted delivered : List (List ℕ)) → n ≤ taken + d → taken ≡ length delivered → (b : Bool) → (d == 0) ≡ b → Reaches n (if b then none_place taken last else items_place taken d) accepted delivered
look_reach n taken d last accepted delivered h e true z = none_reach n taken last accepted delivered (let zero_is : d ≡ 0 = grind (arith, nat_tests) in omega arith) e
look_reach n taken d last accepted delivered h e false z = items_reach n taken d accepted delivered h e

module _ (link_config : LinkConfig) (is : IsLinkConfig link_config) (p : ℕ) (memory : ℕ → ℕ) (end u : End) (w : Place) where
  abbrev After : ℕ → Place → ℕ → Type 0
  After n place value = Reaches n (next_place (config_of link_config p) place value) u.accepted (end_after end (step_at (config_of link_config p) place value)).delivered

  pub step_reaches : (n : ℕ) (place : Place) (value : ℕ) → end.handshake.mark ≡ false → place ≢ Closed → next_place (config_of link_config p) place value ≢ Refusing → EndInvariant link_config memory p end place → EndInvariant link_config memory (1 - p) u w → Facing link_config memory p end place u w →
      ReadsMemory memory (access_at (config_of link_config p) place) value → end.handshake.phase ≡ Run → Reaches n place u.accepted end.delivered → After n place value
  step_reaches n Closed value mark opens calm a b f met run h = absurd (opens refl)
  step_reaches n (ReadingOtherState handshake) value mark opens calm a b f met run h = absurd h
  step_reaches n (Clearing at more state) value mark opens calm a b f met run h = absurd h
  step_reaches n (WritingState state) value mark opens calm a b f met run h = absurd h
  step_reaches n Refusing value mark opens calm a b f met run h = absurd h
  step_reaches n NotInRun value mark opens calm a b f met run h = absurd h
  step_reaches n (ReadingUsedIndex pending freed) value mark opens calm a b f met run h = absurd h
  step_reaches n (ReadingUsedId pending freed more) value mark opens calm a b f met run h = absurd h
  step_reaches n (WritingFrameWord pending at more) value mark opens calm a b f met run h = absurd h
  step_reaches n (WritingDescAddressLow pending) value mark opens calm a b f met run h = absurd h
  step_reaches n (WritingDescAddressHigh pending) value mark opens calm a b f met run h = absurd h
  step_reaches n (WritingDescLength pending) value mark opens calm a b f met run h = absurd h
  step_reaches n (WritingDescFlags pending) value mark opens calm a b f met run h = absurd h
  step_reaches n (WritingAvailEntry pending) value mark opens calm a b f met run h = absurd h
  step_reaches n (WritingAvailIndex pending) value mark opens calm a b f met run h = absurd h
  step_reaches n (ReadingAvailEvent number) value mark opens calm a b f met run h = absurd h
  step_reaches n RingingOffer value mark opens calm a b f met run h = absurd h
  step_reaches n (ReadingAvailIndex taken last) value mark opens calm a b f met run h = let d = published_by taken value in let exact = published_is link_config is p memory end u w mark taken last value met b a f in
      reaches_or n (is_avail_index link_config.sizes (taken % 65536) (high_half value)) (if d == 0 then none_place taken last else items_place taken d) u.accepted (end_after end (step_at (config_of link_config p) (ReadingAvailIndex taken last) value)).delivered
      (look_reach n taken d last u.accepted (end_after end (step_at (config_of link_config p) (ReadingAvailIndex taken last) value)).delivered (omega arith) (a.holds.1 ∙ sym (ap length (look_keeps end (is_avail_index link_config.sizes (taken % 65536) (high_half value)) true d last (refusal field_name.AvailIndex (high_half value)) refl))) (d == 0) refl) calm
  step_reaches n (WritingAvailEvent taken) value mark opens calm a b f met run h = let up : length end.delivered ≤ length u.accepted = let e = ap length f.takes.prefix.1 in let k = length-append end.delivered f.takes.prefix.0 in omega arith in let same = a.holds.1 in omega arith
  step_reaches n (ReadingAvailEntry number more) value mark opens calm a b f met run h = reaches_or n (is_avail_entry link_config.sizes (entry_in (config_of link_config p) number value)) (ReadingDescAddressLow number more (entry_in (config_of link_config p) number value)) _ _ h calm
  step_reaches n (ReadingDescAddressLow number more entry) value mark opens calm a b f met run h = h
  step_reaches n (ReadingDescAddressHigh number more entry low) value mark opens calm a b f met run h = reaches_or n (is_desc_address link_config.sizes (address_of low value)) (ReadingDescLength number more entry (address_of low value)) _ _ h calm
  step_reaches n (ReadingDescLength number more entry address) value mark opens calm a b f met run h = reaches_or n (is_desc_length link_config.sizes address value) (ReadingDescFlags number more entry address value) _ _ h calm
  step_reaches n (ReadingDescFlags number more entry address bytes) value mark opens calm a b f met run h = reaches_or n (is_desc_flags (desc_flags value)) (words_place number more entry address bytes [] (words_for bytes)) _ _ (words_reach n number more entry address bytes [] (words_for bytes) _ _ h) calm
  step_reaches n (ReadingFrameWord number more entry address bytes read words) value mark opens calm a b f met run h = words_reach n number more entry address bytes (read ++ value ∷ []) words _ _ h
  step_reaches n (WritingUsedId number more entry) value mark opens calm a b f met run h = h
  step_reaches n (WritingUsedLength number more) value mark opens calm a b f met run h = h
  step_reaches n (WritingUsedIndex number more) value mark opens calm a b f met run h = let back = a.holds.1 in let level = a.level (opened run) in items_reach n (number + 1) more u.accepted end.delivered (omega arith) (omega arith)
  step_reaches n RingingPoll value mark opens calm a b f met run h = h

-- More frames accepted.
pub reaches_on : (n : ℕ) (place : Place) (accepted after delivered : List (List ℕ)) → length accepted ≤ length after → Reaches n place accepted delivered → Reaches n place after delivered
reaches_on n Closed accepted after delivered le h = h
reaches_on n (ReadingOtherState handshake) accepted after delivered le h = absurd h
reaches_on n (Clearing at more state) accepted after delivered le h = absurd h
reaches_on n (WritingState state) accepted after delivered le h = absurd h
reaches_on n Refusing accepted after delivered le h = absurd h
reaches_on n NotInRun accepted after delivered le h = absurd h
reaches_on n (ReadingUsedIndex pending freed) accepted after delivered le h = absurd h
reaches_on n (ReadingUsedId pending freed more) accepted after delivered le h = absurd h
reaches_on n (WritingFrameWord pending at more) accepted after delivered le h = absurd h
reaches_on n (WritingDescAddressLow pending) accepted after delivered le h = absurd h
reaches_on n (WritingDescAddressHigh pending) accepted after delivered le h = absurd h
reaches_on n (WritingDescLength pending) accepted after delivered le h = absurd h
reaches_on n (WritingDescFlags pending) accepted after delivered le h = absurd h
reaches_on n (WritingAvailEntry pending) accepted after delivered le h = absurd h
reaches_on n (WritingAvailIndex pending) accepted after delivered le h = absurd h
reaches_on n (ReadingAvailEvent number) accepted after delivered le h = absurd h
reaches_on n RingingOffer accepted after delivered le h = absurd h
reaches_on n (ReadingAvailIndex taken last) accepted after delivered le h = omega arith
reaches_on n (WritingAvailEvent taken) accepted after delivered le h = h
reaches_on n (ReadingAvailEntry number more) accepted after delivered le h = h
reaches_on n (ReadingDescAddressLow number more entry) accepted after delivered le h = h
reaches_on n (ReadingDescAddressHigh number more entry low) accepted after delivered le h = h
reaches_on n (ReadingDescLength number more entry address) accepted after delivered le h = h
reaches_on n (ReadingDescFlags number more entry address bytes) accepted after delivered le h = h
reaches_on n (ReadingFrameWord number more entry address bytes read words) accepted after delivered le h = h
reaches_on n (WritingUsedId number more entry) accepted after delivered le h = h
reaches_on n (WritingUsedLength number more) accepted after delivered le h = h
reaches_on n (WritingUsedIndex number more) accepted after delivered le h = h
reaches_on n RingingPoll accepted after delivered le h = h

-- A poll writes no State.
sets_none : (n : ℕ) (config : EndConfig) (place : Place) (accepted delivered : List (List ℕ)) → Reaches n place accepted delivered → (state : ℕ) → access_at config place ≢ access.State state
sets_none n config Closed accepted delivered h s = λ e. cc
sets_none n config (ReadingOtherState handshake) accepted delivered h s = absurd h
sets_none n config (Clearing at more state) accepted delivered h s = absurd h
sets_none n config (WritingState state) accepted delivered h s = absurd h
sets_none n config Refusing accepted delivered h s = absurd h
sets_none n config NotInRun accepted delivered h s = absurd h
sets_none n config (ReadingUsedIndex pending freed) accepted delivered h s = absurd h
sets_none n config (ReadingUsedId pending freed more) accepted delivered h s = absurd h
sets_none n config (WritingFrameWord pending at more) accepted delivered h s = absurd h
sets_none n config (WritingDescAddressLow pending) accepted delivered h s = absurd h
sets_none n config (WritingDescAddressHigh pending) accepted delivered h s = absurd h
sets_none n config (WritingDescLength pending) accepted delivered h s = absurd h
sets_none n config (WritingDescFlags pending) accepted delivered h s = absurd h
sets_none n config (WritingAvailEntry pending) accepted delivered h s = absurd h
sets_none n config (WritingAvailIndex pending) accepted delivered h s = absurd h
sets_none n config (ReadingAvailEvent number) accepted delivered h s = absurd h
sets_none n config RingingOffer accepted delivered h s = absurd h
sets_none n config (ReadingAvailIndex taken last) accepted delivered h s = λ e. cc
sets_none n config (WritingAvailEvent taken) accepted delivered h s = λ e. cc
sets_none n config (ReadingAvailEntry number more) accepted delivered h s = λ e. cc
sets_none n config (ReadingDescAddressLow number more entry) accepted delivered h s = λ e. cc
sets_none n config (ReadingDescAddressHigh number more entry low) accepted delivered h s = λ e. cc
sets_none n config (ReadingDescLength number more entry address) accepted delivered h s = λ e. cc
sets_none n config (ReadingDescFlags number more entry address bytes) accepted delivered h s = λ e. cc
sets_none n config (ReadingFrameWord number more entry address bytes read words) accepted delivered h s = λ e. cc
sets_none n config (WritingUsedId number more entry) accepted delivered h s = λ e. cc
sets_none n config (WritingUsedLength number more) accepted delivered h s = λ e. cc
sets_none n config (WritingUsedIndex number more) accepted delivered h s = λ e. cc
sets_none n config RingingPoll accepted delivered h s = λ e. cc

-- Along the call

record Held (link_config : LinkConfig) (p n : ℕ) (memory : ℕ → ℕ) (ends : ℕ → End) (places : ℕ → Place) : Type 0 where
  pair : Pair link_config memory ends places
  run : (ends p).handshake.phase ≡ Run
  reach : Reaches n (places p) (ends (1 - p)).accepted (ends p).delivered

reaches_as : (n : ℕ) {place place' : Place} {end end' u u' : End} → place' ≡ place → end' ≡ end → u' ≡ u → Reaches n place u.accepted end.delivered → Reaches n place' u'.accepted end'.delivered
reaches_as n {place} {place'} {end} {end'} {u} {u'} a b c h = subst (λ x. Reaches n x u'.accepted end'.delivered) (sym a) (subst (λ (x : End). Reaches n place u'.accepted x.delivered) (sym b) (subst (λ (x : End). Reaches n place x.accepted end.delivered) (sym c) h))

module _ (link_config : LinkConfig) (is : IsLinkConfig link_config) (p n : ℕ) (p2 : p < 2) where
  -- The other end changes to one that has accepted at least as much.
  other_held : {now after : ℕ → ℕ} {ends after_ends : ℕ → End} {places after_places : ℕ → Place} (end : End) (place : Place) → OnlyEndChanges ends after_ends places after_places (1 - p) end place → Pair link_config after after_ends after_places →
      length (ends (1 - p)).accepted ≤ length end.accepted → Held link_config p n now ends places → Held link_config p n after after_ends after_places
  other_held end place only pair le a = let ne : p ≢ 1 - p = λ e. omega arith in record {
    pair = pair;
    run = ap (λ (x : End). x.handshake.phase) (only.ends_stay p ne) ∙ a.run;
    reach = reaches_as n (only.places_stay p ne) (only.ends_stay p ne) only.end_is (reaches_on n _ _ end.accepted _ le a.reach);
  }

  held : (memory : ℕ → ℕ) (ends : ℕ → End) (places : ℕ → Place) (now : ℕ → ℕ) (now_ends : ℕ → End) (now_places : ℕ → Place) → Held link_config p n memory ends places → InCall link_config p memory ends places now now_ends now_places → Held link_config p n now now_ends now_places
  held memory ends places _ _ _ start starts = start
  held memory ends places _ _ _ start (steps now after now_ends after_ends now_places after_places value call step) =
      let a = held memory ends places now now_ends now_places start call in
      let pair = pair_kept.steps link_config now after now_ends after_ends now_places after_places p value is p2 step a.pair in
      let ne : 1 - p ≢ p = λ e. omega arith in
      let quiet = sets_none n (config_of link_config p) (now_places p) _ _ a.reach in record {
        pair = pair;
        run = ap (λ (x : End). x.handshake.phase) step.comes.end_is ∙ phases.kept (now_ends p) (step_at (config_of link_config p) (now_places p) value) quiet ∙ a.run;
        reach = reaches_as n step.comes.place_is step.comes.end_is (step.comes.ends_stay (1 - p) ne)
            (step_reaches link_config is p now (now_ends p) (now_ends (1 - p)) (now_places (1 - p)) n (now_places p) value (a.pair.sound p p2).0 (λ e. let f = step.opened in cc)
            (λ e. (pair.sound p p2).1 (step.comes.place_is ∙ e)) (a.pair.alone p p2) (a.pair.alone (1 - p) (omega arith)) (facing link_config now now_ends now_places p p2 a.pair (inl (inl a.run))) step.meets a.run a.reach);
      }
  held memory ends places _ _ _ start (other_begins now now_ends after_ends now_places after_places kind call begun) =
      let a = held memory ends places now now_ends now_places start call in
      other_held _ _ begun.comes (pair_kept.begins link_config now now_ends after_ends now_places after_places (1 - p) kind is (omega arith) begun a.pair) (omega arith) a
  held memory ends places _ _ _ start (other_steps now after now_ends after_ends now_places after_places value call step) =
      let a = held memory ends places now now_ends now_places start call in
      other_held _ _ step.comes (pair_kept.steps link_config now after now_ends after_ends now_places after_places (1 - p) value is (omega arith) step a.pair)
      (step_grows (config_of link_config (1 - p)) (now_ends (1 - p)) (now_places (1 - p)) value (opens_none link_config now (1 - p) (now_ends (1 - p)) (now_places (1 - p)) (a.pair.alone (1 - p) (omega arith)) (a.pair.cross p p2 (inl a.run)).0)) a
  held memory ends places _ _ _ start (other_resets now after now_ends after_ends now_places after_places call reset) =
      let a = held memory ends places now now_ends now_places start call in
      other_held _ _ reset.comes (pair_kept.resets link_config now after now_ends after_ends now_places after_places (1 - p) is (omega arith) reset a.pair) (omega arith) a

pub polls_deliver : PollsDeliver
polls_deliver link_config memory now ends now_ends places now_places p taken last is p2 m looks call closed =
    let run = (subst (PlaceInvariant link_config memory p (ends p)) looks (m.alone p p2).holds).0 in let n = length (ends (1 - p)).accepted in
    let start : Held link_config p n memory ends places = record { pair = m; run = run; reach = subst (λ x. Reaches n x (ends (1 - p)).accepted (ends p).delivered) (sym looks) (let le : n ≤ length (ends (1 - p)).accepted = omega arith in le) } in
    let a = held link_config is p n p2 memory ends places now now_ends now_places start call in
    subst (λ x. Reaches n x (now_ends (1 - p)).accepted (now_ends p).delivered) closed a.reach
