-- The words and the phase of an honest peer, by its list.
use Rattle.std.proofs.Common.{◌≡◌, ◌≢◌, ℕ, zero, suc, ◌+◌, ◌-◌, ◌<◌, ◌⊎◌, inl, inr, ⊎_elim, Bool, true, false, List, [], ◌∷◌, ◌++◌, refl, sym, ap, ◌∙◌, subst, arith}
use mathlib.Core.Logic.{dite}
use native.Mathlib.Decide.{ℕ_discrete}
use Rattle.std.specs.Prelude.{Contains}
use Rattle.std.specs.List.{fold}
use Rattle.std.proofs.lemmas.List.Elements.{Contains-append_cases}
use Rattle.std.proofs.lemmas.List.Sums.{fold-append}
use Rattle.section_map.specs.Geometry.{section_start}
use Rattle.split_ring.specs.declared.steps.Access.{Access}
use Rattle.split_ring.specs.declared.steps.Access.TheVariants as access
use Rattle.link_handshake.specs.declared.Phase.{Phase}
use Rattle.link_handshake.specs.declared.Phase.TheVariants.{Reset}
use Rattle.link_handshake.specs.PhaseTable.{phase_of_state, state_of}
use Rattle.call_grammar.specs.Ends.{End}
use Rattle.call_grammar.specs.Places.{Clearing, WritingState}
use Rattle.link_invariant.specs.EndInvariant.{IsClear, PlaceInvariant}
use Rattle.link_invariant.specs.LinkConfig.{section_of}
use Rattle.link_invariant.specs.Steps.{MemoryAfter}
use Rattle.link_invariant.proofs.EndInvariantKept.{alone_kept}
use Rattle.shared_words.specs.declared.run_setup.RunSetup.{RunSetup}
use Rattle.shared_words.specs.RunSetups.{link_config_of, honest_of, IsFit}
use Rattle.shared_words.specs.DerivedStates.{CallAccess, MemoryOp, called, numbered, carried, restarted, DerivedState, derived_state, IsNext}
use Rattle.shared_words.specs.SharedMemory.{IsOwned, Appends, OperationsMade}
use Rattle.shared_words.specs.SharedMemory as made
use Rattle.peer_runner.specs.ListStates.{access_of, left_in, state_left, is_after_write, last_written, last_state, has_written}
use Rattle.shared_words.specs.Rules.{accesses_by}
use Rattle.peer_runner.specs.RunningLaws.{end_by, place_by, section_words, StoresAreOwned, AccessesAreCalls, WordsAreWritten, WordsFollowPhases}
use Rattle.shared_words.proofs.FoldOfOperations.{standing_none}
use Rattle.shared_words.proofs.LinkOfSetup.{same_section, honest_below}
use Rattle.peer_runner.proofs.EndsAlong.{IsQuiet, alone_at, phase_left, place_before, written_after, phase_after, along}
use Rattle.shared_words.proofs.ActionsMakeWords.{made_in}

-- A fold over a list with one more memory operation.
pub fold_more : {A : Type 0} (f : A → MemoryOp CallAccess → A) (a : A) (list : List (MemoryOp CallAccess)) (d : MemoryOp CallAccess) → fold f a (list ++ d ∷ []) ≡ f (fold f a list) d
fold_more f a list d = fold-append f a list (d ∷ [])

none_in : (d : MemoryOp CallAccess) → Contains [] d → ⊥
none_in d (k, lt, e) = omega arith

one_in : (a b : MemoryOp CallAccess) → Contains (a ∷ []) b → a ≡ b
one_in a b (zero, lt, e) = e
one_in a b (suc k, lt, e) = absurd (omega arith)

-- No other memory operation is an access of a call.
quiet_called : (d : MemoryOp CallAccess) (t : CallAccess) → IsQuiet d → d ≡ called t → ⊥
quiet_called (called u) t is e = is
quiet_called (numbered number) t is e = cc
quiet_called (carried number) t is e = cc
quiet_called restarted t is e = is

reset_called : (t : CallAccess) → restarted ≡ called t → ⊥
reset_called t e = cc

same_call : {a b : CallAccess} → called a ≡ called b → a ≡ b
same_call e = cc

-- An access of a list that grew by another memory operation was in the list before.
in_list : (acc next : ℕ → List (MemoryOp CallAccess)) (p q : ℕ) (d e : MemoryOp CallAccess) → Appends acc next q d → Contains (next p) e → Contains (acc p) e ⊎ ((p ≡ q) × (d ≡ e))
in_list acc next p q d e g c = dite (ℕ_discrete p q)
    (λ i. ⊎_elim (λ h. inl (subst (λ x. Contains (acc x) e) (sym i) h)) (λ h. inr (i, one_in d e h)) (Contains-append_cases (acc q) (d ∷ []) e (subst (λ l. Contains l e) (ap next i ∙ g.here) c)))
    (λ ne. inl (subst (λ l. Contains l e) (g.neighbour_word p ne) c))

-- Each store of a peer is to a word that it may write.
operation_is_owned : (key : RunSetup) (memory words : ℕ → ℕ) (acc : ℕ → List (MemoryOp CallAccess)) → OperationsMade key memory words acc → (p : ℕ) (t : CallAccess) → Contains (acc p) (called t) → IsOwned key p t.access
operation_is_owned key memory words acc (made.starts _ _ _ zeros blank empty) p t c = absurd (none_in (called t) (subst (λ l. Contains l (called t)) (empty p) c))
operation_is_owned key after words next (made.makes memory _ _ acc _ q u k lt may meets leaves g) p t c = ⊎_elim (operation_is_owned key memory words acc k p t)
    (λ h. subst (λ x. IsOwned key x t.access) (sym h.0) (subst (λ (x : CallAccess). IsOwned key q x.access) (same_call h.1) may.owned)) (in_list acc next p q (called u) (called t) g c)
operation_is_owned key memory now next (made.stores _ words _ acc _ q number k may st g) p t c = ⊎_elim (operation_is_owned key memory words acc k p t) (λ h. absurd (quiet_called (numbered number) t tt h.1)) (in_list acc next p q (numbered number) (called t) g c)
operation_is_owned key memory words next (made.loads _ _ acc _ q k may g) p t c = ⊎_elim (operation_is_owned key memory words acc k p t) (λ h. absurd (quiet_called (carried (words (1 - q))) t tt h.1)) (in_list acc next p q (carried (words (1 - q))) (called t) g c)
operation_is_owned key after words next (made.resets memory _ _ acc _ q k lt st g) p t c = ⊎_elim (operation_is_owned key memory words acc k p t) (λ h. absurd (reset_called t h.1)) (in_list acc next p q restarted (called t) g c)

pub stores_are_owned : StoresAreOwned
stores_are_owned key s kept p t c = operation_is_owned key _ _ (accesses_by kept.acc) (made_in key s kept) p t c

state_left_is : (phase : Phase) (a : Access) (n : ℕ) → state_of phase ≡ n → ((state : ℕ) → a ≡ access.State state → state_of (phase_of_state state) ≡ state) → state_of (phase_left phase a) ≡ state_left n a
state_left_is phase (access.State state) n was set = set state refl
state_left_is phase _ n was set = was

none_there : (front back : List (MemoryOp CallAccess)) (d : MemoryOp CallAccess) → [] ≡ front ++ d ∷ back → ⊥
none_there [] back d e = cc
none_there (x ∷ front) back d e = cc

-- A memory operation of a list with one more is that one, or is in the list.
in_front : (list : List (MemoryOp CallAccess)) (u : MemoryOp CallAccess) (front back : List (MemoryOp CallAccess)) (d : MemoryOp CallAccess) → list ++ u ∷ [] ≡ front ++ d ∷ back → ((list ≡ front) × (u ≡ d)) ⊎ ((rest : List (MemoryOp CallAccess)) × (list ≡ front ++ d ∷ rest))
in_front [] u [] back d e = let h : u ≡ d = cc in inl (refl, h)
in_front [] u (x ∷ front) back d e = let h : [] ≡ front ++ d ∷ back = cc in absurd (none_there front back d h)
in_front (y ∷ list) u [] back d e = let h : y ≡ d = cc in inr (list, ap (λ z. z ∷ list) h)
in_front (y ∷ list) u (x ∷ front) back d e = let h : y ≡ x = cc in let k : list ++ u ∷ [] ≡ front ++ d ∷ back = cc in ⊎_elim
    (λ f. inl (λ i. h i ∷ f.0 i, f.1))
    (λ f. inr (f.0, λ i. h i ∷ f.1 i))
    (in_front list u front back d k)

still : (phase : Phase) (a : Access) (was : Bool) → (phase ≡ Reset → was ≡ false) → (phase ≡ Reset → (word value : ℕ) → a ≢ access.Write word value) → phase_left phase a ≡ Reset → is_after_write was a ≡ false
still phase (access.State state) was none quiet e = refl
still phase (access.Write word value) was none quiet e = absurd (quiet e word value refl)
still phase (access.Read word) was none quiet e = none e
still phase (access.Ring target vector) was none quiet e = none e
still phase access.Nothing was none quiet e = none e

module _ (key : RunSetup) (fit : IsFit key) (p : ℕ) (hp : honest_of key p ≡ true) where
  -- Its last write.
  pub written_is : (memory words : ℕ → ℕ) (acc : ℕ → List (MemoryOp CallAccess)) → OperationsMade key memory words acc → (w : ℕ) → (end_by key acc p).written w ≡ last_written (acc p) w
  written_is = along key fit p hp (λ l. (w : ℕ) → (derived_state key p l).end.written w ≡ last_written l w) (λ w. ap (λ (s : DerivedState). s.end.written w) (standing_none key p))
      (λ memory after words acc next t k m here turn was w. written_after key p memory after (acc p) t turn w ∙ (ap (λ n. left_in w n t.access) (was w) ∙ sym (fold_more (λ n (x : MemoryOp CallAccess). left_in w n (access_of x)) 0 (acc p) (called t))))
      (λ list d quiet was w. ap (λ (e : End). e.written w) quiet.end ∙ (was w ∙ sym (fold_more (λ n (x : MemoryOp CallAccess). left_in w n (access_of x)) 0 list d ∙ ap (left_in w (last_written list w)) quiet.access)))
      (λ memory after list reset was w. ap (λ (e : End). e.written w) reset.end ∙ (was w ∙ sym (fold_more (λ n (x : MemoryOp CallAccess). left_in w n (access_of x)) 0 list restarted)))

  -- The State that it wrote last is that of its phase.
  pub state_is : (memory words : ℕ → ℕ) (acc : ℕ → List (MemoryOp CallAccess)) → OperationsMade key memory words acc → state_of (end_by key acc p).handshake.phase ≡ last_state (acc p)
  state_is = along key fit p hp (λ l. state_of (derived_state key p l).end.handshake.phase ≡ last_state l) (ap (λ (s : DerivedState). state_of s.end.handshake.phase) (standing_none key p))
      (λ memory after words acc next t k m here turn was. let left = phase_after key p memory after (acc p) t turn in
      let now : after p ≡ state_of (phase_left (end_by key acc p).handshake.phase t.access) = (alone_at key fit after words next m p hp).state ∙ (ap (λ l. state_of (derived_state key p l).end.handshake.phase) here ∙ ap state_of left) in
      ap state_of left ∙ (state_left_is (end_by key acc p).handshake.phase t.access (last_state (acc p)) was
      (λ state is. sym (subst (λ a. after p ≡ state_of (phase_left (end_by key acc p).handshake.phase a)) is now) ∙ (subst (λ a. MemoryAfter p memory a after) is turn.leaves).here) ∙ sym (fold_more (λ n (x : MemoryOp CallAccess). state_left n (access_of x)) 0 (acc p) (called t))))
      (λ list d quiet was. ap (λ (e : End). state_of e.handshake.phase) quiet.end ∙ (was ∙ sym (fold_more (λ n (x : MemoryOp CallAccess). state_left n (access_of x)) 0 list d ∙ ap (state_left (last_state list)) quiet.access)))
      (λ memory after list reset was. ap (λ (e : End). state_of e.handshake.phase) reset.end ∙ sym (fold_more (λ n (x : MemoryOp CallAccess). state_left n (access_of x)) 0 list restarted))

  -- Each word of its section, and its state word.
  pub words_are_written : (memory words : ℕ → ℕ) (acc : ℕ → List (MemoryOp CallAccess)) → OperationsMade key memory words acc → WordsAreWritten key memory acc p
  words_are_written memory words acc m = let alone = alone_at key fit memory words acc m p hp in let start = same_section key p (honest_below key p hp) in record {
    section = λ w has. let j = w - section_start key.geometry p in let low = has.0 in let high = has.1 in let at : w ≡ section_of (link_config_of key) p + j = omega arith in
        ap memory at ∙ (alone.written j (omega arith) ∙ (ap (end_by key acc p).written (sym at) ∙ written_is memory words acc m w));
    state = alone.state ∙ state_is memory words acc m;
  }

  -- Each access is the next one of its calls.
  pub accesses_are_calls : (memory words : ℕ → ℕ) (acc : ℕ → List (MemoryOp CallAccess)) → OperationsMade key memory words acc → AccessesAreCalls key memory acc p
  accesses_are_calls memory words acc m = record {
    next = along key fit p hp (λ l. (front back : List (MemoryOp CallAccess)) (t : CallAccess) → l ≡ front ++ called t ∷ back → IsNext key p (derived_state key p front) t.begins t.access)
        (λ front back t e. absurd (none_there front back (called t) e))
        (λ memory after words acc next u k m here turn was front back t e. ⊎_elim
        (λ h. subst (λ (x : CallAccess). IsNext key p (derived_state key p front) x.begins x.access) (same_call h.1) (subst (λ l. IsNext key p (derived_state key p l) u.begins u.access) h.0 turn.next))
        (λ h. was front h.0 t h.1)
        (in_front (acc p) (called u) front back (called t) e))
        (λ list d quiet was front back t e. ⊎_elim (λ h. absurd (quiet_called d t quiet.kind h.1)) (λ h. was front h.0 t h.1) (in_front list d front back (called t) e))
        (λ memory after list reset was front back t e. ⊎_elim (λ h. absurd (reset_called t h.1)) (λ h. was front h.0 t h.1) (in_front list restarted front back (called t) e))
        memory words acc m;
  }

  -- It writes nothing in RESET.
  pub reset_has_not_written : (memory words : ℕ → ℕ) (acc : ℕ → List (MemoryOp CallAccess)) → OperationsMade key memory words acc → (end_by key acc p).handshake.phase ≡ Reset → has_written (acc p) ≡ false
  reset_has_not_written = along key fit p hp (λ l. (derived_state key p l).end.handshake.phase ≡ Reset → has_written l ≡ false) (λ e. refl)
      (λ memory after words acc next t k m here turn was reset. let phase = (end_by key acc p).handshake.phase in
      fold_more (λ b (x : MemoryOp CallAccess). is_after_write b (access_of x)) false (acc p) (called t) ∙ still phase t.access (has_written (acc p)) was
      (λ z word value is. alone_kept.quiet (link_config_of key) p memory (end_by key acc p) (place_before key p (acc p) t) word value turn.alone z (sym turn.is ∙ is)) (sym (phase_after key p memory after (acc p) t turn) ∙ reset))
      (λ list d quiet was reset. fold_more (λ b (x : MemoryOp CallAccess). is_after_write b (access_of x)) false list d ∙ (ap (is_after_write (has_written list)) quiet.access ∙ was (sym (ap (λ (e : End). e.handshake.phase) quiet.end) ∙ reset)))
      (λ memory after list restart was reset. fold_more (λ b (x : MemoryOp CallAccess). is_after_write b (access_of x)) false list restarted)

  pub words_follow_phases : (memory words : ℕ → ℕ) (acc : ℕ → List (MemoryOp CallAccess)) → OperationsMade key memory words acc → WordsFollowPhases key memory acc p
  words_follow_phases memory words acc m = let link_config = link_config_of key in let end = end_by key acc p in let place = place_by key acc p in let alone = alone_at key fit memory words acc m p hp in let start = same_section key p (honest_below key p hp) in
      let clear : (count : ℕ) → IsClear link_config memory p count → (j : ℕ) → j < count → section_words key memory p j ≡ 0 = λ count c j lt. ap (λ x. memory (x + j)) start ∙ c.none j lt in record {
        reset = reset_has_not_written memory words acc m;
        clears = λ at more state e. let h : PlaceInvariant link_config memory p end (Clearing at more state) = subst (PlaceInvariant link_config memory p end) e alone.holds in let back = h.2 in (h.0, (back.0, back.1 ∙ ap (λ x. x + back.0) (sym start), clear back.0 back.3));
        cleared = λ e. let h : PlaceInvariant link_config memory p end (WritingState 2) = subst (PlaceInvariant link_config memory p end) e alone.holds in (h.0, clear key.geometry.out h.1);
        ready = λ e. clear key.geometry.out (alone.ready e).section;
        empty = λ e. let b = alone.ready e in (b.accepted, b.freed, b.delivered, b.returned);
      }
