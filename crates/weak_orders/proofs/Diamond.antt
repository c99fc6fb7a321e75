-- Each of two ends takes a load: what holds after either load alone holds after both.
use Rattle.std.proofs.Common.{◌≡◌, ℕ, zero, suc, ◌+◌, ◌-◌, ◌⊎◌, inl, inr, Bool, true, false, List, [], ◌∷◌, ◌++◌, refl, sym, ap, ◌∙◌, subst, arith}
use Rattle.std.specs.Prelude.{◌==◌, if◌then◌else◌, ◌%◌}
use Rattle.split_ring.specs.declared.steps.Access.TheVariants as access
use Rattle.link_handshake.specs.declared.Phase.TheVariants.{Reset, Init, Ready, Run}
use Rattle.link_handshake.specs.declared.Move.{Move}
use Rattle.link_handshake.specs.declared.Move.TheVariants.{Stay, Set, ClearThenSet}
use Rattle.link_handshake.specs.HandshakeState.{move_of}
use Rattle.call_grammar.specs.Steps.{Mark, Saw, Reclaim, Full, Accept, Look, Deliver, Return, Done, Down, Refuse, Over}
use Rattle.call_grammar.specs.Ends.{End, with_mark, with_marks, end_after}
use Rattle.call_grammar.specs.Ticks.{EndConfig, tick_marks}
use Rattle.call_grammar.specs.Places.{Place, Closed, ReadingOtherState, Clearing, WritingState, ReadingUsedIndex, ReadingUsedId, ReadingAvailEvent, ReadingAvailIndex, ReadingAvailEntry, ReadingDescAddressLow, ReadingDescAddressHigh, ReadingDescLength, ReadingDescFlags, ReadingFrameWord, clear_place, tick_place, access_at, next_place, step_at}
use Rattle.split_ring.specs.declared.ranges.FieldName.{FieldName}
use Rattle.split_ring.specs.declared.ranges.FieldName.TheVariants as field_name
use Rattle.split_ring.specs.Spelling.{high_half, low_half, desc_flags}
use Rattle.split_ring.specs.Ranges.{is_avail_entry, is_desc_address, is_desc_length, is_desc_flags, is_used_id, is_avail_index, is_used_index}
use Rattle.call_grammar.specs.Words.{address_of, frame_in}
use Rattle.call_grammar.specs.Offers.{PendingOffer, refusal, frame_fits, full_marks, returned_by, reclaim_marks, used_index_marks, used_id_marks, descriptor_of, wants_doorbell, avail_event_marks}
use Rattle.call_grammar.specs.Polls.{entry_in, entry_marks, address_marks, length_marks, flags_marks, published_by, look_marks, avail_index_marks}
use Rattle.link_invariant.specs.Fields.{Field}
use Rattle.link_invariant.specs.LinkConfig.{LinkConfig, config_of, fields}
use Rattle.link_invariant.specs.EndInvariant.{PlaceInvariant, EndInvariant}
use Rattle.link_invariant.specs.Pair.{freed_at, Polls, InFlight, IsAttached, OpensNone}
use Rattle.link_invariant.proofs.TickSteps.{not_phase}
use Rattle.link_invariant.proofs.PairObligations.{Facing, Before, takes_on}
use Rattle.weak_orders.specs.Memory.{seen}
use Rattle.weak_orders.proofs.Cuts.{Cut}

-- Loads

-- The places of a Tick.
abbrev pub IsTick : Place → Type 0
IsTick Closed = Unit {0}
IsTick (ReadingOtherState handshake) = Unit {0}
IsTick (Clearing at more state) = Unit {0}
IsTick (WritingState state) = Unit {0}
IsTick place = ⊥

tick_polls : (link_config : LinkConfig) (field : Field → ℕ) (frames : List (List ℕ)) (place : Place) → IsTick place → Polls link_config field frames place
tick_polls link_config field frames Closed h = tt
tick_polls link_config field frames (ReadingOtherState handshake) h = tt
tick_polls link_config field frames (Clearing at more state) h = tt
tick_polls link_config field frames (WritingState state) h = tt
tick_polls link_config field frames place h = absurd h

tick_freed : (freed : ℕ) (place : Place) → IsTick place → freed_at freed place ≡ freed
tick_freed freed (ReadingUsedId pending number more) h = absurd h
tick_freed freed place h = refl

-- A Tick loads the other's State, or a call in RUN loads a word without an accept or a return.
pub record Ticked (end : End) (place : Place) (end' : End) (place' : Place) : Type 0 where
  pub same : end' ≡ end
  pub was : IsTick place
  pub goes : IsTick place'

pub record Worked (end end' : End) : Type 0 where
  pub run : end.handshake.phase ≡ Run
  pub run' : end'.handshake.phase ≡ Run
  pub accepted : end'.accepted ≡ end.accepted
  pub returned : end'.returned ≡ end.returned

abbrev pub Looked : End → Place → End → Place → Type 0
Looked end place end' place' = Ticked end place end' place' ⊎ Worked end end'

-- Marks that neither accept nor return.
abbrev IsQuiet : List Mark → Type 0
IsQuiet [] = Unit {0}
IsQuiet (Accept frame ∷ marks) = ⊥
IsQuiet (Return ∷ marks) = ⊥
IsQuiet (mark ∷ marks) = IsQuiet marks

quiet_work : (end now : End) (marks : List Mark) → IsQuiet marks → Worked end now → Worked end (with_marks now marks)
quiet_work end now [] q h = h
quiet_work end now (Saw value ∷ marks) q h = quiet_work end now marks q h
quiet_work end now (Reclaim count ∷ marks) q h = quiet_work end (with_mark now (Reclaim count)) marks q record { run = h.run; run' = h.run'; accepted = h.accepted; returned = h.returned }
quiet_work end now (Full ∷ marks) q h = quiet_work end now marks q h
quiet_work end now (Accept frame ∷ marks) q h = absurd q
quiet_work end now (Look count ∷ marks) q h = quiet_work end (with_mark now (Look count)) marks q record { run = h.run; run' = h.run'; accepted = h.accepted; returned = h.returned }
quiet_work end now (Deliver frame ∷ marks) q h = quiet_work end (with_mark now (Deliver frame)) marks q record { run = h.run; run' = h.run'; accepted = h.accepted; returned = h.returned }
quiet_work end now (Return ∷ marks) q h = absurd q
quiet_work end now (Done ∷ marks) q h = quiet_work end now marks q h
quiet_work end now (Down ∷ marks) q h = quiet_work end now marks q h
quiet_work end now (Refuse refused ∷ marks) q h = quiet_work end (with_mark now (Refuse refused)) marks q record { run = h.run; run' = h.run'; accepted = h.accepted; returned = h.returned }
quiet_work end now (Over ∷ marks) q h = quiet_work end now marks q h

works : (end : End) (marks : List Mark) → end.handshake.phase ≡ Run → IsQuiet marks → Worked end (with_marks end marks)
works end marks run q = quiet_work end end marks q record { run = run; run' = run; accepted = refl; returned = refl }

one_or : (b : Bool) (m n : List Mark) → IsQuiet m → IsQuiet n → IsQuiet (if b then m else n)
one_or true m n h g = h
one_or false m n h g = g

move_ticks : (config : EndConfig) (m : Move) → IsTick (tick_place config m)
move_ticks config Stay = tt
move_ticks config (Set state) = tt
move_ticks config (ClearThenSet state) = clears config.own config.words
  where
    clears : (at count : ℕ) → IsTick (clear_place at count state)
    clears at zero = tt
    clears at (suc more) = tt

saw_same : (end : End) (value : ℕ) (m : Move) → with_marks end (tick_marks value m) ≡ end
saw_same end value Stay = refl
saw_same end value (Set state) = refl
saw_same end value (ClearThenSet state) = refl

-- Each load is one of the two.
quiet_test : (b : Bool) (f : FieldName) (value : ℕ) → IsQuiet (if b then [] else refusal f value)
quiet_test b f value = one_or b [] (refusal f value) tt tt

quiet_full : (config : EndConfig) (pending : PendingOffer) (freed : ℕ) → IsQuiet (full_marks config pending freed)
quiet_full config pending freed = one_or (frame_fits config pending freed) [] (Full ∷ []) tt tt

quiet_used : (config : EndConfig) (pending : PendingOffer) (freed value : ℕ) → IsQuiet (used_index_marks config pending freed value)
quiet_used config pending freed value = let n = returned_by freed value in one_or (is_used_index (freed % 65536) (high_half value) (pending.number - freed)) (reclaim_marks config pending freed n) (refusal field_name.UsedIndex (high_half value)) (one_or (n == 0) (Reclaim 0 ∷ full_marks config pending freed) (Reclaim n ∷ []) (quiet_full config pending freed) tt) tt

quiet_id : (config : EndConfig) (pending : PendingOffer) (freed more value : ℕ) → IsQuiet (used_id_marks config pending freed more value)
quiet_id config pending freed more value = one_or (is_used_id (descriptor_of config freed) value) (if more == 0 then full_marks config pending (freed + 1) else []) (refusal field_name.UsedId value) (one_or (more == 0) (full_marks config pending (freed + 1)) [] (quiet_full config pending (freed + 1)) tt) tt

quiet_event : (number value : ℕ) → IsQuiet (avail_event_marks number value)
quiet_event number value = one_or (wants_doorbell (low_half value) number) [] (Over ∷ []) tt tt

quiet_look : (config : EndConfig) (taken : ℕ) (last : Bool) (value : ℕ) → IsQuiet (avail_index_marks config taken last value)
quiet_look config taken last value = let n = published_by taken value in one_or (is_avail_index config.sizes (taken % 65536) (high_half value)) (look_marks last n) (refusal field_name.AvailIndex (high_half value)) (one_or (n == 0) (if last then Look 0 ∷ Done ∷ [] else Look 0 ∷ []) (Look n ∷ []) (one_or last (Look 0 ∷ Done ∷ []) (Look 0 ∷ []) tt tt) tt) tt

quiet_word : (words bytes : ℕ) (read : List ℕ) → IsQuiet (if words == 0 then Deliver (frame_in bytes read) ∷ [] else [])
quiet_word words bytes read = one_or (words == 0) (Deliver (frame_in bytes read) ∷ []) [] tt tt

look_at : (link_config : LinkConfig) (memory : ℕ → ℕ) (p : ℕ) (end : End) (place : Place) (value word : ℕ) → access_at (config_of link_config p) place ≡ access.Read word → PlaceInvariant link_config memory p end place → Looked end place (end_after end (step_at (config_of link_config p) place value)) (next_place (config_of link_config p) place value)
look_at link_config memory p end (ReadingOtherState handshake) value word e h = inl record { same = saw_same end value (move_of handshake value); was = tt; goes = move_ticks (config_of link_config p) (move_of handshake value) }
look_at link_config memory p end (ReadingUsedIndex pending freed) value word e h = inr (works end (used_index_marks (config_of link_config p) pending freed value) h.0 (quiet_used (config_of link_config p) pending freed value))
look_at link_config memory p end (ReadingUsedId pending freed more) value word e h = inr (works end (used_id_marks (config_of link_config p) pending freed more value) h.0 (quiet_id (config_of link_config p) pending freed more value))
look_at link_config memory p end (ReadingAvailEvent number) value word e h = inr (works end (avail_event_marks number value) h.0 (quiet_event number value))
look_at link_config memory p end (ReadingAvailIndex taken last) value word e h = inr (works end (avail_index_marks (config_of link_config p) taken last value) h.0 (quiet_look (config_of link_config p) taken last value))
look_at link_config memory p end (ReadingAvailEntry number more) value word e h = inr (works end (entry_marks (config_of link_config p) number value) h.0 (quiet_test (is_avail_entry link_config.sizes (entry_in (config_of link_config p) number value)) field_name.AvailEntry (entry_in (config_of link_config p) number value)))
look_at link_config memory p end (ReadingDescAddressLow number more entry) value word e h = inr (works end [] h.0 tt)
look_at link_config memory p end (ReadingDescAddressHigh number more entry low) value word e h = inr (works end (address_marks (config_of link_config p) low value) h.0 (quiet_test (is_desc_address link_config.sizes (address_of low value)) field_name.DescAddress (address_of low value)))
look_at link_config memory p end (ReadingDescLength number more entry address) value word e h = inr (works end (length_marks (config_of link_config p) address value) h.0 (quiet_test (is_desc_length link_config.sizes address value) field_name.DescLength value))
look_at link_config memory p end (ReadingDescFlags number more entry address bytes) value word e h = inr (works end (flags_marks value) h.0 (quiet_test (is_desc_flags (desc_flags value)) field_name.DescFlags (desc_flags value)))
look_at link_config memory p end (ReadingFrameWord number more entry address bytes read words) value word e h = inr (works end (if words == 0 then Deliver (frame_in bytes (read ++ value ∷ [])) ∷ [] else []) h.0 (quiet_word words bytes (read ++ value ∷ [])))
look_at link_config memory p end place value word e h = absurd (cc)

pub looked : (link_config : LinkConfig) (memory : ℕ → ℕ) (p : ℕ) (end : End) (place : Place) (value word : ℕ) → access_at (config_of link_config p) place ≡ access.Read word → EndInvariant link_config memory p end place → Looked end place (end_after end (step_at (config_of link_config p) place value)) (next_place (config_of link_config p) place value)
looked link_config memory p end place value word e a = look_at link_config memory p end place value word e a.holds

-- Two loads

join : {link_config : LinkConfig} {field : Field → ℕ} {accepted accepted' delivered delivered' : List (List ℕ)} {freed read freed' read' returned returned' : ℕ} {place place' : Place} → accepted ≡ accepted' → returned' ≡ returned →
    InFlight link_config field accepted freed read delivered returned place → InFlight link_config field accepted' freed' read' delivered' returned' place' → InFlight link_config field accepted freed read delivered' returned' place'
join {link_config} {field} {accepted} {accepted'} {delivered} {delivered'} {freed} {read} {freed'} {read'} {returned} {returned'} {place} {place'} ea er a b = record {
  returns = let r = a.returns in omega arith;
  delivers = b.delivers;
  prefix = (b.prefix.0, ea ∙ b.prefix.1);
  named = λ k from below. a.named k from (omega arith);
  polls = subst (λ x. Polls link_config field x place') (sym ea) b.polls;
}

module _ (link_config : LinkConfig) (memory : ℕ → ℕ) (p : ℕ) (end end' : End) (place place' : Place) (u u' : End) (w w' : Place) where
  joined : end'.accepted ≡ end.accepted → end'.returned ≡ end.returned → u'.accepted ≡ u.accepted → u'.returned ≡ u.returned → Facing link_config memory p end' place' u w → Facing link_config memory p end place u' w' → Facing link_config memory p end' place' u' w'
  joined ea er ua ur f g = record { mine = f.mine; opposite = g.opposite; sends = join ea ur f.sends g.sends; takes = join ua er g.takes f.takes }

-- The place after a Tick's load is a place of a Tick.
ticks_mine : (link_config : LinkConfig) (memory : ℕ → ℕ) (p : ℕ) (end : End) (place place' : Place) (u : End) (w : Place) → IsTick place → IsTick place' → Facing link_config memory p end place u w → Facing link_config memory p end place' u w
ticks_mine link_config memory p end place place' u w was goes f = record {
  mine = f.mine;
  opposite = f.opposite;
  sends = subst (λ k. InFlight link_config (fields link_config memory (1 - p)) end.accepted end.freed k u.delivered u.returned w) (tick_freed end.freed place was ∙ sym (tick_freed end.freed place' goes)) f.sends;
  takes = takes_on place' (λ k. refl) (tick_polls link_config (fields link_config memory p) u.accepted place' goes) f.takes;
}

ticks_theirs : (link_config : LinkConfig) (memory : ℕ → ℕ) (p : ℕ) (end : End) (place : Place) (u : End) (w w' : Place) → IsTick w → IsTick w' → Facing link_config memory p end place u w → Facing link_config memory p end place u w'
ticks_theirs link_config memory p end place u w w' was goes f = record {
  mine = f.mine;
  opposite = f.opposite;
  sends = takes_on w' (λ k. refl) (tick_polls link_config (fields link_config memory (1 - p)) end.accepted w' goes) f.sends;
  takes = subst (λ k. InFlight link_config (fields link_config memory p) u.accepted u.freed k end.delivered end.returned place) (tick_freed u.freed w was ∙ sym (tick_freed u.freed w' goes)) f.takes;
}

-- One end is about to set RUN, and the other is about to open a session.
abbrev pub Clash : End → Place → End → Place → Type 0
Clash end place u w = (end.handshake.phase ≡ Ready) × (place ≡ WritingState 3) × (u.handshake.phase ≡ Reset) × (w ≡ WritingState 1)

pub sets_one : (link_config : LinkConfig) (memory : ℕ → ℕ) (p : ℕ) (end : End) (place : Place) → PlaceInvariant link_config memory p end place → place ≡ WritingState 1 → end.handshake.phase ≡ Reset
sets_one link_config memory p end place h e = let g : PlaceInvariant link_config memory p end (WritingState 1) = subst (PlaceInvariant link_config memory p end) e h in g

-- One end is attached, and the other opens no session.
opens : (link_config : LinkConfig) (memory : ℕ → ℕ) (q : ℕ) (end end' : End) (place place' : Place) (u u' : End) (w w' : Place) → Looked end place end' place' → Looked u w u' w' → PlaceInvariant link_config memory q u' w' → (IsAttached end' place' → OpensNone u w) → (IsAttached end place → OpensNone u' w') → (Clash end' place' u' w' → ⊥) → IsAttached end' place' → OpensNone u' w'
opens link_config memory q end end' place place' u u' w w' l (inr k) holds from from' clash a =
    (not_phase {a = Run} {b = Init} (λ f. omega arith) k.run', λ e. not_phase {a = Run} {b = Reset} (λ f. omega arith) k.run' (sets_one link_config memory q u' w' holds e))
opens link_config memory q end end' place place' u u' w w' (inr l) (inl k) holds from from' clash a = from' (inl l.run)
opens link_config memory q end end' place place' u u' w w' (inl l) (inl k) holds from from' clash (inl run) = from' (inl (sym (ap (λ (x : End). x.handshake.phase) l.same) ∙ run))
opens link_config memory q end end' place place' u u' w w' (inl l) (inl k) holds from from' clash (inr h) =
    (λ e. (from (inr h)).0 (sym (ap (λ (x : End). x.handshake.phase) k.same) ∙ e), λ e. clash (h.0, h.1, sets_one link_config memory q u' w' holds e, e))

module _ (link_config : LinkConfig) (p : ℕ) (x y : ℕ → ℕ) (end end' : End) (place place' : Place) (u u' : End) (w w' : Place) where
  faces : Looked end place end' place' → Looked u w u' w' → Before link_config (seen link_config p x y) p end' place' u w → Before link_config (seen link_config p x y) p end place u' w' → IsAttached end' place' ⊎ IsAttached u' w' → Facing link_config (seen link_config p x y) p end' place' u' w'
  faces (inr l) (inr k) b c a = joined link_config (seen link_config p x y) p end end' place place' u u' w w' l.accepted l.returned k.accepted k.returned (b.faces (inl (inl l.run'))) (c.faces (inl (inl l.run)))
  faces (inr l) (inl k) b c a = joined link_config (seen link_config p x y) p end end' place place' u u' w w' l.accepted l.returned (ap (λ (e : End). e.accepted) k.same) (ap (λ (e : End). e.returned) k.same) (b.faces (inl (inl l.run'))) (c.faces (inl (inl l.run)))
  faces (inl l) (inr k) b c a = joined link_config (seen link_config p x y) p end end' place place' u u' w w' (ap (λ (e : End). e.accepted) l.same) (ap (λ (e : End). e.returned) l.same) k.accepted k.returned (b.faces (inr (inl k.run))) (c.faces (inr (inl k.run')))
  faces (inl l) (inl k) b c (inl a) = subst (λ (e : End). Facing link_config (seen link_config p x y) p end' place' e w') (sym k.same) (ticks_theirs link_config (seen link_config p x y) p end' place' u w w' k.was k.goes (b.faces (inl a)))
  faces (inl l) (inl k) b c (inr a) = subst (λ (e : End). Facing link_config (seen link_config p x y) p e place' u' w') (sym l.same) (ticks_mine link_config (seen link_config p x y) p end place place' u' w' l.was l.goes (c.faces (inr a)))

  -- A fact after either load is a fact after both.
  pub diamond : Looked end place end' place' → Looked u w u' w' → (Clash end' place' u' w' → ⊥) → (Clash u' w' end' place' → ⊥) → Cut link_config p x end' place' y u w → Cut link_config p x end place y u' w' → Cut link_config p x end' place' y u' w'
  diamond l k one two b c = record {
    before = record {
      mine = b.before.mine;
      opposite = c.before.opposite;
      mark = b.before.mark;
      from = opens link_config (seen link_config p x y) (1 - p) end end' place place' u u' w w' l k c.before.opposite.holds b.before.from c.before.from one;
      back = opens link_config (seen link_config p x y) p u u' w w' end end' place place' k l b.before.mine.holds c.before.back b.before.back two;
      faces = faces l k b.before c.before;
    };
    calm = b.calm;
    opposite = c.opposite;
  }
