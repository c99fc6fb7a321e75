-- A step of an honest end is a step of the machine of the handshake, or leaves the machine's state
-- as it was.
use Rattle.std.proofs.Common.{◌≡◌, ◌≢◌, ℕ, zero, suc, ◌+◌, ◌-◌, ◌<◌, ◌≤◌, ◌⊎◌, inl, inr, ⊎_elim, Bool, true, false, List, [], ◌∷◌, ◌++◌, length, refl, sym, ap, ◌∙◌, subst, arith}
use Rattle.std.specs.Prelude.{◌==◌, ◌%◌, ◌&&◌, ◌||◌, not, if◌then◌else◌}
use Rattle.split_ring.specs.declared.steps.Access.TheVariants as access
use Rattle.link_handshake.specs.declared.Phase.{Phase}
use Rattle.link_handshake.specs.declared.Phase.TheVariants.{Reset, Init, Ready, Run}
use Rattle.link_handshake.specs.declared.Move.{Move}
use Rattle.link_handshake.specs.declared.Move.TheVariants.{Stay, Set, ClearThenSet}
use Rattle.link_handshake.specs.PhaseTable.{phase_move, phase_of_state, state_of}
use Rattle.link_handshake.specs.HandshakeState.{HandshakeState, move_of}
use Rattle.call_grammar.specs.Ends.{End, end_after}
use Rattle.split_ring.specs.Layout.{has_events}
use Rattle.split_ring.specs.Spelling.{low_half, high_half, desc_flags}
use Rattle.split_ring.specs.Ranges.{is_avail_entry, is_desc_address, is_desc_length, is_avail_index, is_desc_flags, is_used_index, is_used_id}
use Rattle.call_grammar.specs.Words.{words_for, address_of}
use Rattle.call_grammar.specs.Ticks.{EndConfig}
use Rattle.call_grammar.specs.Offers.{PendingOffer, frame_fits, descriptor_of, wants_doorbell, returned_by}
use Rattle.call_grammar.specs.Polls.{entry_in, is_last, published_by}
use Rattle.call_grammar.specs.Calls.{Call, Tick, Stop, Offer, Poll, in_run, pending_of}
use Rattle.call_grammar.specs.Places.{Place, Closed, ReadingOtherState, Clearing, WritingState, Refusing, NotInRun, ReadingUsedIndex, ReadingUsedId, WritingFrameWord, WritingDescAddressLow, WritingDescAddressHigh, WritingDescLength, WritingDescFlags, WritingAvailEntry, WritingAvailIndex, ReadingAvailEvent, RingingOffer, ReadingAvailIndex, WritingAvailEvent, ReadingAvailEntry, ReadingDescAddressLow, ReadingDescAddressHigh, ReadingDescLength, ReadingDescFlags, ReadingFrameWord, WritingUsedId, WritingUsedLength, WritingUsedIndex, RingingPoll, clear_place, tick_place, fill_place, ids_place, none_place, items_place, words_place, first_place, access_at, next_place, step_at}
use Rattle.call_grammar.proofs.Phases.{phases}
use Rattle.link_invariant.specs.LinkConfig.{LinkConfig, IsLinkConfig, config_of}
use Rattle.link_invariant.specs.Steps.{OnlyEndChanges, ReadsMemory}
use Rattle.link_invariant.specs.EndInvariant.{EndInvariant}
use Rattle.link_invariant.specs.Pair.{Pair}
use Rattle.link_invariant.proofs.PairKept.{pair_kept}
use Rattle.link_progress.specs.Rounds.{Count, no_rounds, with_tick, ends_tick, is_ticking, is_falling, owes_after, KeepsRest, Rounds, starts, begins, steps, others, IsUp, LinksComeUp}
use Rattle.link_progress.specs.Handshake.{Doing, Rests, Reads, Writes, doing_of, next_phase, next_doing, rests, ends_now}
use Rattle.link_progress.proofs.RoundsLeft.{rounds_left}
use Rattle.link_progress.proofs.Machine.{writes, falls, owes_more, holds_back, Rows, left, fits, fits_le, every, Within, first_kept, second_kept, ends_up}

-- What an end does for the handshake at a place.
abbrev pub doing_at : Place → Doing
doing_at (ReadingOtherState handshake) = Reads
doing_at (Clearing at more state) = Writes (phase_of_state state)
doing_at (WritingState state) = Writes (phase_of_state state)
doing_at place = Rests

-- Places after a step

rest_if : (b : Bool) (x y : Place) → doing_at x ≡ Rests → doing_at y ≡ Rests → doing_at (if b then x else y) ≡ Rests
rest_if true x y h k = h
rest_if false x y h k = k

clear_doing : (at count state : ℕ) → doing_at (clear_place at count state) ≡ Writes (phase_of_state state)
clear_doing at zero state = refl
clear_doing at (suc more) state = refl

tick_doing : (config : EndConfig) (move : Move) → doing_at (tick_place config move) ≡ doing_of move
tick_doing config Stay = refl
tick_doing config (Set state) = refl
tick_doing config (ClearThenSet state) = clear_doing config.own config.words state

clear_open : (at count state : ℕ) (place : Place) (handshake : HandshakeState) → ends_tick (ReadingOtherState handshake) (clear_place at count state) ≡ false
clear_open at zero state place handshake = refl
clear_open at (suc more) state place handshake = refl

tick_ends : (config : EndConfig) (handshake : HandshakeState) (move : Move) → ends_tick (ReadingOtherState handshake) (tick_place config move) ≡ rests (doing_of move)
tick_ends config handshake Stay = refl
tick_ends config handshake (Set state) = refl
tick_ends config handshake (ClearThenSet state) = clear_open config.own config.words state Closed handshake

fill_rests : (pending : PendingOffer) (at count : ℕ) → doing_at (fill_place pending at count) ≡ Rests
fill_rests pending at zero = refl
fill_rests pending at (suc more) = refl

ids_rest : (config : EndConfig) (pending : PendingOffer) (freed count : ℕ) → doing_at (ids_place config pending freed count) ≡ Rests
ids_rest config pending freed zero = rest_if (frame_fits config pending freed) (fill_place pending 0 (words_for (length pending.frame))) Closed (fill_rests pending 0 (words_for (length pending.frame))) refl
ids_rest config pending freed (suc more) = refl

items_rest : (number count : ℕ) → doing_at (items_place number count) ≡ Rests
items_rest number zero = refl
items_rest number (suc more) = refl

words_rest : (number more entry address bytes : ℕ) (read : List ℕ) (words : ℕ) → doing_at (words_place number more entry address bytes read words) ≡ Rests
words_rest number more entry address bytes read zero = refl
words_rest number more entry address bytes read (suc words) = refl

-- A place of no Tick and no Stop.
abbrev IsQuiet : Place → Type 0
IsQuiet (ReadingOtherState handshake) = ⊥
IsQuiet (Clearing at more state) = ⊥
IsQuiet (WritingState state) = ⊥
IsQuiet Refusing = ⊥
IsQuiet place = Unit {0}

quiet_rests : (config : EndConfig) (place : Place) (value : ℕ) → IsQuiet place → doing_at (next_place config place value) ≡ Rests
quiet_rests config Closed value h = refl
quiet_rests config (ReadingOtherState handshake) value h = absurd h
quiet_rests config (Clearing at more state) value h = absurd h
quiet_rests config (WritingState state) value h = absurd h
quiet_rests config Refusing value h = absurd h
quiet_rests config NotInRun value h = refl
quiet_rests config (ReadingUsedIndex pending freed) value h = rest_if (is_used_index (freed % 65536) (high_half value) (pending.number - freed)) (ids_place config pending freed (returned_by freed value)) Refusing (ids_rest config pending freed (returned_by freed value)) refl
quiet_rests config (ReadingUsedId pending freed more) value h = rest_if (is_used_id (descriptor_of config freed) value) (ids_place config pending (freed + 1) more) Refusing (ids_rest config pending (freed + 1) more) refl
quiet_rests config (WritingFrameWord pending at more) value h = fill_rests pending (at + 1) more
quiet_rests config (WritingDescAddressLow pending) value h = refl
quiet_rests config (WritingDescAddressHigh pending) value h = refl
quiet_rests config (WritingDescLength pending) value h = refl
quiet_rests config (WritingDescFlags pending) value h = refl
quiet_rests config (WritingAvailEntry pending) value h = refl
quiet_rests config (WritingAvailIndex pending) value h = rest_if (has_events config.sizes) (ReadingAvailEvent pending.number) RingingOffer refl refl
quiet_rests config (ReadingAvailEvent number) value h = rest_if (wants_doorbell (low_half value) number) RingingOffer Closed refl refl
quiet_rests config RingingOffer value h = refl
quiet_rests config (ReadingAvailIndex taken last) value h =
    rest_if (is_avail_index config.sizes (taken % 65536) (high_half value)) (if published_by taken value == 0 then none_place taken last else items_place taken (published_by taken value)) Refusing
    (rest_if (published_by taken value == 0) (none_place taken last) (items_place taken (published_by taken value)) (rest_if last Closed (WritingAvailEvent taken) refl refl) (items_rest taken (published_by taken value))) refl
quiet_rests config (WritingAvailEvent taken) value h = refl
quiet_rests config (ReadingAvailEntry number more) value h = rest_if (is_avail_entry config.sizes (entry_in config number value)) (ReadingDescAddressLow number more (entry_in config number value)) Refusing refl refl
quiet_rests config (ReadingDescAddressLow number more entry) value h = refl
quiet_rests config (ReadingDescAddressHigh number more entry low) value h = rest_if (is_desc_address config.sizes (address_of low value)) (ReadingDescLength number more entry (address_of low value)) Refusing refl refl
quiet_rests config (ReadingDescLength number more entry address) value h = rest_if (is_desc_length config.sizes address value) (ReadingDescFlags number more entry address value) Refusing refl refl
quiet_rests config (ReadingDescFlags number more entry address bytes) value h = rest_if (is_desc_flags (desc_flags value)) (words_place number more entry address bytes [] (words_for bytes)) Refusing (words_rest number more entry address bytes [] (words_for bytes)) refl
quiet_rests config (ReadingFrameWord number more entry address bytes read words) value h = words_rest number more entry address bytes (read ++ value ∷ []) words
quiet_rests config (WritingUsedId number more entry) value h = refl
quiet_rests config (WritingUsedLength number more) value h = refl
quiet_rests config (WritingUsedIndex number more) value h = items_rest (number + 1) more
quiet_rests config RingingPoll value h = refl

-- The step at a place, as a step of the machine or as none

-- The step leaves the machine's state as it was.
pub record LeavesMachine (end after : End) (place next : Place) : Type 0 where
  pub phase : after.handshake.phase ≡ end.handshake.phase
  pub doing : doing_at next ≡ doing_at place
  pub count : ends_tick place next ≡ false
  pub falls : is_falling place ≡ false

-- The step is the machine's.
pub record FollowsMachine (end after : End) (place next : Place) (other : Phase) : Type 0 where
  pub phase : after.handshake.phase ≡ next_phase end.handshake.phase (doing_at place)
  pub doing : doing_at next ≡ next_doing phase_move end.handshake.phase (doing_at place) other
  pub count : ends_tick place next ≡ ends_now phase_move end.handshake.phase (doing_at place) other
  pub falls : is_falling place ≡ falls (doing_at place)
  pub busy : rests (doing_at place) ≡ false

quiet_phase : (config : EndConfig) (end : End) (place : Place) (value : ℕ) → ((state : ℕ) → access_at config place ≢ access.State state) →
    (end_after end (step_at config place value)).handshake.phase ≡ end.handshake.phase
quiet_phase config end place value other = phases.kept end (step_at config place value) other

quiet_stays : (config : EndConfig) (end : End) (place : Place) (value : ℕ) → IsQuiet place → ((state : ℕ) → access_at config place ≢ access.State state) → doing_at place ≡ Rests → ((next : Place) → ends_tick place next ≡ false) → is_falling place ≡ false →
    LeavesMachine end (end_after end (step_at config place value)) place (next_place config place value)
quiet_stays config end place value quiet other rest never none = record {
  phase = quiet_phase config end place value other;
  doing = quiet_rests config place value quiet ∙ sym rest;
  count = never (next_place config place value);
  falls = none;
}

zero_falls : (state : ℕ) → is_falling (WritingState state) ≡ falls (Writes (phase_of_state state))
zero_falls zero = refl
zero_falls (suc zero) = refl
zero_falls (suc (suc zero)) = refl
zero_falls (suc (suc (suc more))) = refl

-- A Tick's read.
module _ (link_config : LinkConfig) (p : ℕ) (memory : ℕ → ℕ) (end u : End) (q_place : Place) where
  read_moves : (handshake : HandshakeState) (value : ℕ) → EndInvariant link_config memory p end (ReadingOtherState handshake) → EndInvariant link_config memory (1 - p) u q_place → end.handshake.mark ≡ false →
      value ≡ memory (1 - p) → FollowsMachine end (end_after end (step_at (config_of link_config p) (ReadingOtherState handshake) value)) (ReadingOtherState handshake) (next_place (config_of link_config p) (ReadingOtherState handshake) value) u.handshake.phase
  read_moves handshake value a o mark met = let config = config_of link_config p in let m = move_of handshake value in
      let is : m ≡ phase_move end.handshake.phase (state_of u.handshake.phase) =
      ap (λ (h : HandshakeState). move_of h value) a.holds ∙ ap (λ b. if b then Stay else phase_move end.handshake.phase value) mark ∙ ap (λ v. phase_move end.handshake.phase v) (met ∙ o.state) in
      record {
        phase = quiet_phase config end (ReadingOtherState handshake) value (λ state e. cc);
        doing = tick_doing config m ∙ ap doing_of is;
        count = tick_ends config handshake m ∙ ap (λ (x : Move). rests (doing_of x)) is;
        falls = refl;
        busy = refl;
      }

  -- The step at each place.
  pub step_moves : (place : Place) (value : ℕ) → place ≢ Refusing → EndInvariant link_config memory p end place → EndInvariant link_config memory (1 - p) u q_place → end.handshake.mark ≡ false → ReadsMemory memory (access_at (config_of link_config p) place) value →
      LeavesMachine end (end_after end (step_at (config_of link_config p) place value)) place (next_place (config_of link_config p) place value) ⊎
      FollowsMachine end (end_after end (step_at (config_of link_config p) place value)) place (next_place (config_of link_config p) place value) u.handshake.phase
  step_moves Closed value calm a o mark met = inl (quiet_stays (config_of link_config p) end Closed value tt (λ state e. cc) refl (λ next. refl) refl)
  step_moves (ReadingOtherState handshake) value calm a o mark met = inr (read_moves handshake value a o mark met)
  step_moves (Clearing at more state) value calm a o mark met = inl record {
    phase = quiet_phase (config_of link_config p) end (Clearing at more state) value (λ state e. cc);
    doing = clear_doing (at + 1) more state;
    count = refl;
    falls = refl;
  }
  step_moves (WritingState state) value calm a o mark met = inr record {
    phase = phases.written end (step_at (config_of link_config p) (WritingState state) value) state refl;
    doing = refl;
    count = refl;
    falls = zero_falls state;
    busy = refl;
  }
  step_moves Refusing value calm a o mark met = absurd (calm refl)
  step_moves NotInRun value calm a o mark met = inl (quiet_stays (config_of link_config p) end NotInRun value tt (λ state e. cc) refl (λ next. refl) refl)
  step_moves (ReadingUsedIndex pending freed) value calm a o mark met = inl (quiet_stays (config_of link_config p) end (ReadingUsedIndex pending freed) value tt (λ state e. cc) refl (λ next. refl) refl)
  step_moves (ReadingUsedId pending freed more) value calm a o mark met = inl (quiet_stays (config_of link_config p) end (ReadingUsedId pending freed more) value tt (λ state e. cc) refl (λ next. refl) refl)
  step_moves (WritingFrameWord pending at more) value calm a o mark met = inl (quiet_stays (config_of link_config p) end (WritingFrameWord pending at more) value tt (λ state e. cc) refl (λ next. refl) refl)
  step_moves (WritingDescAddressLow pending) value calm a o mark met = inl (quiet_stays (config_of link_config p) end (WritingDescAddressLow pending) value tt (λ state e. cc) refl (λ next. refl) refl)
  step_moves (WritingDescAddressHigh pending) value calm a o mark met = inl (quiet_stays (config_of link_config p) end (WritingDescAddressHigh pending) value tt (λ state e. cc) refl (λ next. refl) refl)
  step_moves (WritingDescLength pending) value calm a o mark met = inl (quiet_stays (config_of link_config p) end (WritingDescLength pending) value tt (λ state e. cc) refl (λ next. refl) refl)
  step_moves (WritingDescFlags pending) value calm a o mark met = inl (quiet_stays (config_of link_config p) end (WritingDescFlags pending) value tt (λ state e. cc) refl (λ next. refl) refl)
  step_moves (WritingAvailEntry pending) value calm a o mark met = inl (quiet_stays (config_of link_config p) end (WritingAvailEntry pending) value tt (λ state e. cc) refl (λ next. refl) refl)
  step_moves (WritingAvailIndex pending) value calm a o mark met = inl (quiet_stays (config_of link_config p) end (WritingAvailIndex pending) value tt (λ state e. cc) refl (λ next. refl) refl)
  step_moves (ReadingAvailEvent number) value calm a o mark met = inl (quiet_stays (config_of link_config p) end (ReadingAvailEvent number) value tt (λ state e. cc) refl (λ next. refl) refl)
  step_moves RingingOffer value calm a o mark met = inl (quiet_stays (config_of link_config p) end RingingOffer value tt (λ state e. cc) refl (λ next. refl) refl)
  step_moves (ReadingAvailIndex taken last) value calm a o mark met = inl (quiet_stays (config_of link_config p) end (ReadingAvailIndex taken last) value tt (λ state e. cc) refl (λ next. refl) refl)
  step_moves (WritingAvailEvent taken) value calm a o mark met = inl (quiet_stays (config_of link_config p) end (WritingAvailEvent taken) value tt (λ state e. cc) refl (λ next. refl) refl)
  step_moves (ReadingAvailEntry number more) value calm a o mark met = inl (quiet_stays (config_of link_config p) end (ReadingAvailEntry number more) value tt (λ state e. cc) refl (λ next. refl) refl)
  step_moves (ReadingDescAddressLow number more entry) value calm a o mark met = inl (quiet_stays (config_of link_config p) end (ReadingDescAddressLow number more entry) value tt (λ state e. cc) refl (λ next. refl) refl)
  step_moves (ReadingDescAddressHigh number more entry low) value calm a o mark met = inl (quiet_stays (config_of link_config p) end (ReadingDescAddressHigh number more entry low) value tt (λ state e. cc) refl (λ next. refl) refl)
  step_moves (ReadingDescLength number more entry address) value calm a o mark met = inl (quiet_stays (config_of link_config p) end (ReadingDescLength number more entry address) value tt (λ state e. cc) refl (λ next. refl) refl)
  step_moves (ReadingDescFlags number more entry address bytes) value calm a o mark met = inl (quiet_stays (config_of link_config p) end (ReadingDescFlags number more entry address bytes) value tt (λ state e. cc) refl (λ next. refl) refl)
  step_moves (ReadingFrameWord number more entry address bytes read words) value calm a o mark met = inl (quiet_stays (config_of link_config p) end (ReadingFrameWord number more entry address bytes read words) value tt (λ state e. cc) refl (λ next. refl) refl)
  step_moves (WritingUsedId number more entry) value calm a o mark met = inl (quiet_stays (config_of link_config p) end (WritingUsedId number more entry) value tt (λ state e. cc) refl (λ next. refl) refl)
  step_moves (WritingUsedLength number more) value calm a o mark met = inl (quiet_stays (config_of link_config p) end (WritingUsedLength number more) value tt (λ state e. cc) refl (λ next. refl) refl)
  step_moves (WritingUsedIndex number more) value calm a o mark met = inl (quiet_stays (config_of link_config p) end (WritingUsedIndex number more) value tt (λ state e. cc) refl (λ next. refl) refl)
  step_moves RingingPoll value calm a o mark met = inl (quiet_stays (config_of link_config p) end RingingPoll value tt (λ state e. cc) refl (λ next. refl) refl)

-- The beginning of a call.
pub first_moves : (config : EndConfig) (end : End) (call : Call) (other : Phase) → call ≢ Stop →
    (doing_at (first_place config end call) ≡ Rests) ⊎ ((call ≡ Tick) × (doing_at (first_place config end call) ≡ next_doing phase_move end.handshake.phase Rests other))
first_moves config end Tick other ne = inr (refl, refl)
first_moves config end Stop other ne = absurd (ne refl)
first_moves config end (Offer frame) other ne = inl (rest_if (in_run end.handshake.phase) (ReadingUsedIndex (pending_of config end frame) end.freed) NotInRun refl refl)
first_moves config end Poll other ne = inl (rest_if (in_run end.handshake.phase) (ReadingAvailIndex (length end.delivered) (is_last config end.found_none)) NotInRun refl refl)

-- The two ends

abbrev InRounds : Rows → ℕ → (ℕ → End) → (ℕ → Place) → Count → Bool → Type 0
InRounds rows limit ends places count owes = Within rows limit (ends 0).handshake.phase (doing_at (places 0)) (ends 1).handshake.phase (doing_at (places 1)) owes count

-- By equations of the phases and of what the ends do.
like : {rows : Rows} {limit : ℕ} {p p' q q' : Phase} {d d' e e' : Doing} {owes owes' : Bool} {count count' : Count} → p' ≡ p → d' ≡ d → q' ≡ q → e' ≡ e → owes' ≡ owes → count' ≡ count →
    Within rows limit p d q e owes count → Within rows limit p' d' q' e' owes' count'
like {rows} {limit} {p} {p'} {q} {q'} {d} {d'} {e} {e'} {owes} {owes'} {count} {count'} a b c f o g w =
    subst (λ x. Within rows limit x d' q' e' owes' count') (sym a) (subst (λ x. Within rows limit p x q' e' owes' count') (sym b) (subst (λ x. Within rows limit p d x e' owes' count') (sym c)
    (subst (λ x. Within rows limit p d q x owes' count') (sym f) (subst (λ x. Within rows limit p d q e x count') (sym o) (subst (λ x. Within rows limit p d q e owes x) (sym g) w)))))

record Became (ends after_ends : ℕ → End) (places after_places : ℕ → Place) (p : ℕ) : Type 0 where
  phase : (after_ends (1 - p)).handshake.phase ≡ (ends (1 - p)).handshake.phase
  doing : doing_at (after_places (1 - p)) ≡ doing_at (places (1 - p))

became : (ends after_ends : ℕ → End) (places after_places : ℕ → Place) (p : ℕ) (end : End) (place : Place) → p < 2 → OnlyEndChanges ends after_ends places after_places p end place → Became ends after_ends places after_places p
became ends after_ends places after_places p end place p2 only = let ne : 1 - p ≢ p = λ e. omega arith in record {
  phase = ap (λ (x : End). x.handshake.phase) (only.ends_stay (1 - p) ne);
  doing = ap doing_at (only.places_stay (1 - p) ne);
}

counted : (b c : Bool) (x y : Count) → b ≡ c → (if b then x else y) ≡ (if c then x else y)
counted b c x y e = ap (λ t. if t then x else y) e

owed : (b c : Bool) (owes : Bool) → b ≡ c → (if b then false else owes) ≡ (if c then false else owes)
owed b c owes e = ap (λ t. if t then false else owes) e

or_none : (owes b c : Bool) → b ≡ false → owes || (b && c) ≡ owes
or_none true b c e = refl
or_none false b c e = ap (λ t. t && c) e

ticks : (place : Place) → is_ticking place ≡ not (rests (doing_at place))
ticks (ReadingOtherState handshake) = refl
ticks (Clearing at more state) = refl
ticks (WritingState state) = refl
ticks place = refl

-- Whether end 1 owes a rest, after a step that leaves the machine's state and after one of the
-- machine's.
owes_same : (p : ℕ) (place next other : Place) (owes : Bool) → ends_tick place next ≡ false → is_falling place ≡ false → owes_after p place next other owes ≡ owes
owes_same zero place next other owes none calm = owed (ends_tick place next) false owes none
owes_same (suc more) place next other owes none calm = or_none owes (is_falling place) (is_ticking other) calm

owes_next : (place next other : Place) (owes : Bool) → is_falling place ≡ falls (doing_at place) → owes_after 1 place next other owes ≡ owes_more (doing_at place) (doing_at other) owes
owes_next place next other owes e = ap (λ b. owes || (b && is_ticking other)) e ∙ ap (λ b. owes || (falls (doing_at place) && b)) (ticks other)

tick_free : (ruled owes : Bool) → (ruled ≡ true → owes ≡ false) → holds_back ruled owes Rests ≡ false
tick_free false owes keeps = refl
tick_free true owes keeps = ap (λ b. b && true) (keeps refl)

busy_free : (ruled owes b : Bool) → b ≡ false → ruled && (owes && b) ≡ false
busy_free false owes b e = refl
busy_free true false b e = refl
busy_free true true b e = e

module _ (ruled : Bool) (rows : Rows) (holds : every phase_move phase_move ruled rows ≡ true) (limit : ℕ) where
  -- A step of one end.
  stays_in : (ends after_ends : ℕ → End) (places after_places : ℕ → Place) (count new : Count) (owes owed : Bool) (p : ℕ) (end : End) (place : Place) → p < 2 → OnlyEndChanges ends after_ends places after_places p end place →
      end.handshake.phase ≡ (ends p).handshake.phase → doing_at place ≡ doing_at (places p) → owed ≡ owes → new ≡ count → InRounds rows limit ends places count owes → InRounds rows limit after_ends after_places new owed
  stays_in ends after_ends places after_places count new owes owed zero end place p2 only phase doing rest same w = let b = became ends after_ends places after_places zero end place p2 only in
      like (ap (λ (x : End). x.handshake.phase) only.end_is ∙ phase) (ap doing_at only.place_is ∙ doing) b.phase b.doing rest same w
  stays_in ends after_ends places after_places count new owes owed (suc zero) end place p2 only phase doing rest same w = let b = became ends after_ends places after_places (suc zero) end place p2 only in
      like b.phase b.doing (ap (λ (x : End). x.handshake.phase) only.end_is ∙ phase) (ap doing_at only.place_is ∙ doing) rest same w
  stays_in ends after_ends places after_places count new owes owed (suc (suc more)) end place p2 only phase doing rest same w = absurd (omega arith)

  -- Whether end 1 owes a rest after a step of the machine of end p.
  abbrev owes_then : ℕ → (ended : Bool) → (doing other : Doing) → Bool → Bool
  owes_then zero ended doing other owes = if ended then false else owes
  owes_then (suc more) ended doing other owes = owes_more doing other owes

  abbrev IsFree : ℕ → Bool → Doing → Type 0
  IsFree zero owes doing = Unit {0}
  IsFree (suc more) owes doing = holds_back ruled owes doing ≡ false

  moves_in : (ends after_ends : ℕ → End) (places after_places : ℕ → Place) (count new : Count) (owes owed : Bool) (p : ℕ) (end : End) (place : Place) → p < 2 → OnlyEndChanges ends after_ends places after_places p end place →
      end.handshake.phase ≡ next_phase (ends p).handshake.phase (doing_at (places p)) → doing_at place ≡ next_doing phase_move (ends p).handshake.phase (doing_at (places p)) (ends (1 - p)).handshake.phase →
      owed ≡ owes_then p (ends_now phase_move (ends p).handshake.phase (doing_at (places p)) (ends (1 - p)).handshake.phase) (doing_at (places p)) (doing_at (places (1 - p))) owes →
      new ≡ (if ends_now phase_move (ends p).handshake.phase (doing_at (places p)) (ends (1 - p)).handshake.phase then with_tick p count else count) → IsFree p owes (doing_at (places p)) →
      InRounds rows limit ends places count owes → InRounds rows limit after_ends after_places new owed
  moves_in ends after_ends places after_places count new owes owed zero end place p2 only phase doing rest same free w = let b = became ends after_ends places after_places zero end place p2 only in
      like (ap (λ (x : End). x.handshake.phase) only.end_is ∙ phase) (ap doing_at only.place_is ∙ doing) b.phase b.doing rest same (first_kept phase_move phase_move ruled rows holds limit _ _ _ _ owes count w)
  moves_in ends after_ends places after_places count new owes owed (suc zero) end place p2 only phase doing rest same free w = let b = became ends after_ends places after_places (suc zero) end place p2 only in
      like b.phase b.doing (ap (λ (x : End). x.handshake.phase) only.end_is ∙ phase) (ap doing_at only.place_is ∙ doing) rest same (second_kept phase_move phase_move ruled rows holds limit _ _ _ _ owes count free w)
  moves_in ends after_ends places after_places count new owes owed (suc (suc more)) end place p2 only phase doing rest same free w = absurd (omega arith)

  -- A call that begins ends no Tick and owes nothing more.
  begins_owing : (p : ℕ) (phase other : Phase) (doing : Doing) (owes : Bool) → p < 2 → owes ≡ owes_then p (ends_now phase_move phase Rests other) Rests doing owes
  begins_owing zero phase other doing owes p2 = refl
  begins_owing (suc more) phase other doing owes p2 = sym (or_none owes false (not (rests doing)) refl)

  free_to_tick : (p : ℕ) (owes : Bool) → (ruled ≡ true → KeepsRest p Tick owes) → IsFree p owes Rests
  free_to_tick zero owes keeps = tt
  free_to_tick (suc more) owes keeps = tick_free ruled owes keeps

  step_free : (p : ℕ) (owes : Bool) (doing : Doing) → rests doing ≡ false → IsFree p owes doing
  step_free zero owes doing busy = tt
  step_free (suc more) owes doing busy = busy_free ruled owes (rests doing) busy

  owes_step : (p : ℕ) (place next other : Place) (owes ended : Bool) → p < 2 → ends_tick place next ≡ ended → is_falling place ≡ falls (doing_at place) → owes_after p place next other owes ≡ owes_then p ended (doing_at place) (doing_at other) owes
  owes_step zero place next other owes ended p2 e f = owed (ends_tick place next) ended owes e
  owes_step (suc more) place next other owes ended p2 e f = owes_next place next other owes f

  -- Along the rounds, from a state with its number of rounds.
  pub record Along (link_config : LinkConfig) (memory : ℕ → ℕ) (ends : ℕ → End) (places : ℕ → Place) (count : Count) (owes : Bool) : Type 0 where
    pub pair : Pair link_config memory ends places
    pub within : InRounds rows limit ends places count owes

  pub along : (link_config : LinkConfig) (memory : ℕ → ℕ) (ends : ℕ → End) (places : ℕ → Place) (now : ℕ → ℕ) (now_ends : ℕ → End) (now_places : ℕ → Place) (count : Count) (owes : Bool) → IsLinkConfig link_config →
      Along link_config memory ends places no_rounds false → Rounds ruled link_config memory ends places now now_ends now_places count owes → Along link_config now now_ends now_places count owes
  along link_config memory ends places _ _ _ _ _ is start starts = start
  along link_config memory ends places _ _ _ _ _ is start (begins now now_ends after_ends now_places after_places count owes p call run p2 ne keeps begun) =
      let a = along link_config memory ends places now now_ends now_places count owes is start run in let closed = ap doing_at begun.closed in record {
        pair = pair_kept.begins link_config now now_ends after_ends now_places after_places p call is p2 begun a.pair;
        within = ⊎_elim
            (λ e. stays_in now_ends after_ends now_places after_places count count owes owes p _ _ p2 begun.comes refl (e ∙ sym closed) refl refl a.within)
            (λ e. moves_in now_ends after_ends now_places after_places count count owes owes p _ _ p2 begun.comes (ap (λ (d : Doing). next_phase (now_ends p).handshake.phase d) (sym closed))
            (e.1 ∙ ap (λ (d : Doing). next_doing phase_move (now_ends p).handshake.phase d (now_ends (1 - p)).handshake.phase) (sym closed))
            (begins_owing p (now_ends p).handshake.phase (now_ends (1 - p)).handshake.phase (doing_at (now_places (1 - p))) owes p2 ∙ ap (λ (d : Doing). owes_then p (ends_now phase_move (now_ends p).handshake.phase d (now_ends (1 - p)).handshake.phase) d (doing_at (now_places (1 - p))) owes) (sym closed))
            (ap (λ (d : Doing). if ends_now phase_move (now_ends p).handshake.phase d (now_ends (1 - p)).handshake.phase then with_tick p count else count) (sym closed))
            (subst (λ d. IsFree p owes d) (sym closed) (free_to_tick p owes (subst (λ c. ruled ≡ true → KeepsRest p c owes) e.0 keeps))) a.within)
            (first_moves (config_of link_config p) (now_ends p) call (now_ends (1 - p)).handshake.phase ne);
      }
  along link_config memory ends places _ _ _ _ _ is start (steps now after now_ends after_ends now_places after_places count owes p value run p2 step) =
      let a = along link_config memory ends places now now_ends now_places count owes is start run in let next = ap (λ (x : Place). ends_tick (now_places p) x) step.comes.place_is in record {
        pair = pair_kept.steps link_config now after now_ends after_ends now_places after_places p value is p2 step a.pair;
        within = ⊎_elim
            (λ s. stays_in now_ends after_ends now_places after_places count _ owes _ p _ _ p2 step.comes s.phase s.doing (owes_same p (now_places p) (after_places p) (now_places (1 - p)) owes (next ∙ s.count) s.falls)
            (counted _ false (with_tick p count) count (next ∙ s.count)) a.within)
            (λ s. moves_in now_ends after_ends now_places after_places count _ owes _ p _ _ p2 step.comes s.phase s.doing (owes_step p (now_places p) (after_places p) (now_places (1 - p)) owes _ p2 (next ∙ s.count) s.falls)
            (counted _ _ (with_tick p count) count (next ∙ s.count)) (step_free p owes (doing_at (now_places p)) s.busy) a.within)
            (step_moves link_config p now (now_ends p) (now_ends (1 - p)) (now_places (1 - p)) (now_places p) value (a.pair.sound p p2).1 (a.pair.alone p p2) (a.pair.alone (1 - p) (omega arith)) (a.pair.sound p p2).0 step.meets);
      }
  along link_config memory ends places _ _ _ _ _ is start (others now after now_ends now_places count owes run keep) =
      let a = along link_config memory ends places now now_ends now_places count owes is start run in record {
        pair = pair_kept.others link_config now after now_ends now_places is keep a.pair;
        within = a.within;
      }

  -- An end that is up in the machine is up.
  stays_up : (place : Place) → writes (doing_at place) ≡ false → (state : ℕ) → place ≢ WritingState state
  stays_up place none state e = let f : true ≡ false = ap (λ (x : Place). writes (doing_at x)) (sym e) ∙ none in absurd (let g : ⊥ = cc in g)

  pub both_up : (link_config : LinkConfig) (now : ℕ → ℕ) (now_ends : ℕ → End) (now_places : ℕ → Place) (count : Count) (owes : Bool) → Along link_config now now_ends now_places count owes → limit ≤ count.rounds →
      (p : ℕ) → p < 2 → IsUp (now_ends p) (now_places p)
  both_up link_config now now_ends now_places count owes a over zero p2 = let u = ends_up phase_move phase_move ruled rows holds limit _ _ _ _ owes count a.within over in (u.first_run, stays_up (now_places 0) u.first_stays)
  both_up link_config now now_ends now_places count owes a over (suc zero) p2 = let u = ends_up phase_move phase_move ruled rows holds limit _ _ _ _ owes count a.within over in (u.second_run, stays_up (now_places 1) u.second_stays)
  both_up link_config now now_ends now_places count owes a over (suc (suc more)) p2 = absurd (omega arith)

-- From ends at rest

abbrev rest_rows : Rows
rest_rows owes p d = rounds_left p d

rest_holds : every phase_move phase_move false rest_rows ≡ true
rest_holds = refl

at_rest : (place : Place) → is_ticking place ≡ false → doing_at place ≡ Rests
at_rest (ReadingOtherState handshake) h = let f : true ≡ false = h in absurd (let g : ⊥ = cc in g)
at_rest (Clearing at more state) h = let f : true ≡ false = h in absurd (let g : ⊥ = cc in g)
at_rest (WritingState state) h = let f : true ≡ false = h in absurd (let g : ⊥ = cc in g)
at_rest place h = refl

from_start : (p q : Phase) → fits (left rest_rows p Rests q Rests false false false) 5 ≡ true → Within rest_rows 4 p Rests q Rests false no_rounds
from_start p q h = let x = fits_le _ _ h in record { least = x.0; most = let a = x.1 in omega arith }

start_within : (p q : Phase) → (p ≡ Run → q ≢ Init) → (q ≡ Run → p ≢ Init) → Within rest_rows 4 p Rests q Rests false no_rounds
start_within Reset Reset f g = from_start Reset Reset refl
start_within Reset Init f g = from_start Reset Init refl
start_within Reset Ready f g = from_start Reset Ready refl
start_within Reset Run f g = from_start Reset Run refl
start_within Init Reset f g = from_start Init Reset refl
start_within Init Init f g = from_start Init Init refl
start_within Init Ready f g = from_start Init Ready refl
start_within Init Run f g = absurd (g refl refl)
start_within Ready Reset f g = from_start Ready Reset refl
start_within Ready Init f g = from_start Ready Init refl
start_within Ready Ready f g = from_start Ready Ready refl
start_within Ready Run f g = from_start Ready Run refl
start_within Run Reset f g = from_start Run Reset refl
start_within Run Init f g = absurd (f refl refl)
start_within Run Ready f g = from_start Run Ready refl
start_within Run Run f g = from_start Run Run refl

pub links_come_up : LinksComeUp
links_come_up link_config memory now ends now_ends places now_places count owes is m rest run four =
    let start : Along false rest_rows rest_holds 4 link_config memory ends places no_rounds false = record {
      pair = m;
      within = like refl (at_rest (places 0) (rest 0 (omega arith))) refl (at_rest (places 1) (rest 1 (omega arith))) refl refl
          (start_within _ _ (λ up. (m.cross 0 (omega arith) (inl up)).0) (λ up. (m.cross 1 (omega arith) (inl up)).0));
    } in
    both_up false rest_rows rest_holds 4 link_config now now_ends now_places count owes (along false rest_rows rest_holds 4 link_config memory ends places now now_ends now_places count owes is start run) four
