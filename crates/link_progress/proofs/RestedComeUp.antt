-- If end 1 keeps the rule of rest, both ends are in RUN after eight rounds from every state.
use Rattle.std.proofs.Common.{◌≡◌, ◌≢◌, ℕ, zero, suc, ◌⊎◌, inl, inr, ⊎_elim, Bool, true, false, refl, sym, ap, ◌∙◌, arith}
use Rattle.std.specs.Prelude.{◌&&◌, not}
use Rattle.link_handshake.specs.declared.Phase.{Phase}
use Rattle.link_handshake.specs.declared.Phase.TheVariants.{Reset, Init, Ready, Run}
use Rattle.link_handshake.specs.PhaseTable.{phase_move, phase_of_state}
use Rattle.call_grammar.specs.Ends.{End}
use Rattle.call_grammar.specs.Places.{Place, ReadingOtherState, Clearing, WritingState}
use Rattle.link_invariant.specs.EndInvariant.{EndInvariant, MaySet}
use Rattle.link_invariant.specs.LinkConfig.{LinkConfig}
use Rattle.link_invariant.specs.Pair.{IsAttached, OpensNone}
use Rattle.link_progress.specs.Rounds.{no_rounds, RestedLinksComeUp}
use Rattle.link_progress.specs.Handshake.{Doing, Rests, Reads, Writes, may_set_second, is_attached, is_opening}
use Rattle.link_progress.proofs.RoundsLeft.{rested_left}
use Rattle.link_progress.proofs.Machine.{fits, fits_le, left, every, Within}
use Rattle.link_progress.proofs.ComeUp.{doing_at, Along, along, both_up}
use Rattle.link_progress.proofs.Repaired.{by_state, implies, implied}

rested_holds : every phase_move phase_move true rested_left ≡ true
rested_holds = refl

-- The states of the pair

-- Each end may set the State that it is about to set, and while one end is attached, the other
-- opens no session.
abbrev may_be : Phase → Doing → Phase → Doing → Bool
may_be p d q e = may_set_second p d && (may_set_second q e && (not (is_attached p d && is_opening q e) && not (is_attached q e && is_opening p d)))

start_within : (p : Phase) (d : Doing) (q : Phase) (e : Doing) → may_be p d q e ≡ true → Within rested_left 8 p d q e false no_rounds
start_within p d q e s = let x = fits_le (left rested_left p d q e false false false) 9 (implied (may_be p d q e) (fits (left rested_left p d q e false false false) 9)
    (by_state (λ p d q e. implies (may_be p d q e) (fits (left rested_left p d q e false false false) 9)) refl p d q e) s) in record { least = x.0; most = let a = x.1 in omega arith }

may_rest : (phase : Phase) → may_set_second phase Rests ≡ true
may_rest Reset = refl
may_rest Init = refl
may_rest Ready = refl
may_rest Run = refl

may_read : (phase : Phase) → may_set_second phase Reads ≡ true
may_read Reset = refl
may_read Init = refl
may_read Ready = refl
may_read Run = refl

may_fall : (phase : Phase) → may_set_second phase (Writes Reset) ≡ true
may_fall Reset = refl
may_fall Init = refl
may_fall Ready = refl
may_fall Run = refl

may_state : (link_config : LinkConfig) (memory : ℕ → ℕ) (p : ℕ) (phase : Phase) (state : ℕ) → MaySet link_config memory p phase state → may_set_second phase (Writes (phase_of_state state)) ≡ true
may_state link_config memory p phase zero h = may_fall phase
may_state link_config memory p phase (suc zero) h = ap (λ x. may_set_second x (Writes Init)) h
may_state link_config memory p phase (suc (suc zero)) h = ap (λ x. may_set_second x (Writes Ready)) h.0
may_state link_config memory p phase (suc (suc (suc zero))) h = ap (λ x. may_set_second x (Writes Run)) h
may_state link_config memory p phase (suc (suc (suc (suc more)))) h = absurd h

may_do : (link_config : LinkConfig) (memory : ℕ → ℕ) (p : ℕ) (end : End) (place : Place) → EndInvariant link_config memory p end place → may_set_second end.handshake.phase (doing_at place) ≡ true
may_do link_config memory p end (ReadingOtherState handshake) a = may_read end.handshake.phase
may_do link_config memory p end (Clearing at more state) a = ap (λ s. may_set_second end.handshake.phase (Writes (phase_of_state s))) a.holds.1 ∙ ap (λ x. may_set_second x (Writes Ready)) a.holds.0
may_do link_config memory p end (WritingState state) a = may_state link_config memory p end.handshake.phase state a.holds
may_do link_config memory p end place a = may_rest end.handshake.phase

-- An end that sets RUN sets State 3.
sets_three : (link_config : LinkConfig) (memory : ℕ → ℕ) (p : ℕ) (phase : Phase) (state : ℕ) → MaySet link_config memory p phase state → phase_of_state state ≡ Run → state ≡ 3
sets_three link_config memory p phase zero h e = absurd (let g : ⊥ = cc in g)
sets_three link_config memory p phase (suc zero) h e = absurd (let g : ⊥ = cc in g)
sets_three link_config memory p phase (suc (suc zero)) h e = absurd (let g : ⊥ = cc in g)
sets_three link_config memory p phase (suc (suc (suc zero))) h e = refl
sets_three link_config memory p phase (suc (suc (suc (suc more)))) h e = absurd h

abbrev state_written : Doing → Phase
state_written (Writes to) = to
state_written doing = Reset

attached_place : (link_config : LinkConfig) (memory : ℕ → ℕ) (p : ℕ) (end : End) (place : Place) → EndInvariant link_config memory p end place → doing_at place ≡ Writes Run → place ≡ WritingState 3
attached_place link_config memory p end (Clearing at more state) a e = let f : Ready ≡ Run = ap phase_of_state (sym a.holds.1) ∙ ap state_written e in absurd (let g : ⊥ = cc in g)
attached_place link_config memory p end (WritingState state) a e = ap WritingState (sets_three link_config memory p end.handshake.phase state a.holds (ap state_written e))
attached_place link_config memory p end (ReadingOtherState handshake) a e = absurd (let g : ⊥ = cc in g)
attached_place link_config memory p end place a e = let f : Rests ≡ Writes Run = e in absurd (let g : ⊥ = cc in g)

attached_at : (phase : Phase) (doing : Doing) → (is_attached phase doing ≡ false) ⊎ (phase ≡ Run) ⊎ ((phase ≡ Ready) × (doing ≡ Writes Run))
attached_at Reset doing = inl refl
attached_at Init doing = inl refl
attached_at Ready Rests = inl refl
attached_at Ready Reads = inl refl
attached_at Ready (Writes Reset) = inl refl
attached_at Ready (Writes Init) = inl refl
attached_at Ready (Writes Ready) = inl refl
attached_at Ready (Writes Run) = inr (inr (refl, refl))
attached_at Run doing = inr (inl refl)

opening_at : (phase : Phase) (doing : Doing) → phase ≢ Init → doing ≢ Writes Init → is_opening phase doing ≡ false
opening_at Init doing f g = absurd (f refl)
opening_at Reset (Writes Init) f g = absurd (g refl)
opening_at Ready (Writes Init) f g = absurd (g refl)
opening_at Run (Writes Init) f g = absurd (g refl)
opening_at Reset (Writes Reset) f g = refl
opening_at Reset (Writes Ready) f g = refl
opening_at Reset (Writes Run) f g = refl
opening_at Ready (Writes Reset) f g = refl
opening_at Ready (Writes Ready) f g = refl
opening_at Ready (Writes Run) f g = refl
opening_at Run (Writes Reset) f g = refl
opening_at Run (Writes Ready) f g = refl
opening_at Run (Writes Run) f g = refl
opening_at Reset Rests f g = refl
opening_at Reset Reads f g = refl
opening_at Ready Rests f g = refl
opening_at Ready Reads f g = refl
opening_at Run Rests f g = refl
opening_at Run Reads f g = refl

-- An end that sets INIT sets State 1.
sets_one : (link_config : LinkConfig) (memory : ℕ → ℕ) (p : ℕ) (phase : Phase) (state : ℕ) → MaySet link_config memory p phase state → phase_of_state state ≡ Init → state ≡ 1
sets_one link_config memory p phase zero h e = absurd (let g : ⊥ = cc in g)
sets_one link_config memory p phase (suc zero) h e = refl
sets_one link_config memory p phase (suc (suc zero)) h e = absurd (let g : ⊥ = cc in g)
sets_one link_config memory p phase (suc (suc (suc more))) h e = let f : Run ≡ Init = e in absurd (let g : ⊥ = cc in g)

opening_place : (link_config : LinkConfig) (memory : ℕ → ℕ) (p : ℕ) (end : End) (place : Place) → EndInvariant link_config memory p end place → doing_at place ≡ Writes Init → place ≡ WritingState 1
opening_place link_config memory p end (Clearing at more state) a e = let f : Ready ≡ Init = ap phase_of_state (sym a.holds.1) ∙ ap state_written e in absurd (let g : ⊥ = cc in g)
opening_place link_config memory p end (WritingState state) a e = ap WritingState (sets_one link_config memory p end.handshake.phase state a.holds (ap state_written e))
opening_place link_config memory p end (ReadingOtherState handshake) a e = absurd (let g : ⊥ = cc in g)
opening_place link_config memory p end place a e = let f : Rests ≡ Writes Init = e in absurd (let g : ⊥ = cc in g)

none_beside : (a b : Bool) → (a ≡ false) ⊎ (b ≡ false) → not (a && b) ≡ true
none_beside false b h = refl
none_beside true false h = refl
none_beside true true (inl h) = let f : true ≡ false = h in absurd (let g : ⊥ = cc in g)
none_beside true true (inr h) = let f : true ≡ false = h in absurd (let g : ⊥ = cc in g)

no_opening : (link_config : LinkConfig) (memory : ℕ → ℕ) (p q : ℕ) (end u : End) (place w : Place) → EndInvariant link_config memory p end place → EndInvariant link_config memory q u w → (IsAttached end place → OpensNone u w) →
    not (is_attached end.handshake.phase (doing_at place) && is_opening u.handshake.phase (doing_at w)) ≡ true
no_opening link_config memory p q end u place w a b cross = let opens : OpensNone u w → is_opening u.handshake.phase (doing_at w) ≡ false = λ none. opening_at u.handshake.phase (doing_at w) none.0 (λ e. none.1 (opening_place link_config memory q u w b e)) in
    none_beside _ _ (⊎_elim (λ e. inl e) (λ at. inr (opens (cross (⊎_elim (λ e. inl e) (λ e. inr (e.0, attached_place link_config memory p end place a e.1)) at)))) (attached_at end.handshake.phase (doing_at place)))

all_four : (a b c d : Bool) → a ≡ true → b ≡ true → c ≡ true → d ≡ true → (a && (b && (c && d))) ≡ true
all_four true true true true e f g h = refl
all_four false b c d e f g h = e
all_four true false c d e f g h = f
all_four true true false d e f g h = g
all_four true true true false e f g h = h

pub rested_links_come_up : RestedLinksComeUp
rested_links_come_up link_config memory now ends now_ends places now_places count owes is m run eight =
    let a = m.alone 0 (omega arith) in let b = m.alone 1 (omega arith) in
    let start : Along true rested_left rested_holds 8 link_config memory ends places no_rounds false = record {
      pair = m;
      within = start_within _ _ _ _ (all_four _ _ _ _ (may_do link_config memory 0 (ends 0) (places 0) a) (may_do link_config memory 1 (ends 1) (places 1) b)
          (no_opening link_config memory 0 1 (ends 0) (ends 1) (places 0) (places 1) a b (m.cross 0 (omega arith))) (no_opening link_config memory 1 0 (ends 1) (ends 0) (places 1) (places 0) b a (m.cross 1 (omega arith))));
    } in
    both_up true rested_left rested_holds 8 link_config now now_ends now_places count owes (along true rested_left rested_holds 8 link_config memory ends places now now_ends now_places count owes is start run) eight
