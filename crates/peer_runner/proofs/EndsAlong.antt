-- Along the memory operations of peers: what each one changes in an honest end, and what holds of
-- its list.
use Rattle.std.proofs.Common.{◌≡◌, ℕ, ◌-◌, true, List, [], ◌∷◌, ◌++◌, refl, sym, ap, ◌∙◌, subst}
use mathlib.Core.Logic.{dite}
use native.Mathlib.Decide.{ℕ_discrete}
use Rattle.std.specs.Prelude.{Option, Some, None}
use Rattle.split_ring.specs.declared.steps.Access.{Access}
use Rattle.split_ring.specs.declared.steps.Access.TheVariants as access
use Rattle.link_handshake.specs.declared.Phase.{Phase}
use Rattle.link_handshake.specs.PhaseTable.{phase_of_state}
use Rattle.call_grammar.specs.Steps.{Mark}
use Rattle.call_grammar.specs.Steps as mark
use Rattle.call_grammar.specs.Ends.{End, after_reset, with_access, with_mark, with_marks, end_after}
use Rattle.call_grammar.specs.Calls.{EndConfig, Call}
use Rattle.call_grammar.specs.Places.{Place, Closed, access_at, marks_at, next_place, step_at, is_open}
use Rattle.link_invariant.specs.LinkConfig.{config_of}
use Rattle.link_invariant.specs.Steps.{Stored, MemoryAfter}
use Rattle.link_invariant.specs.EndInvariant.{EndInvariant}
use Rattle.link_invariant.specs.LinkInvariant.{LinkInvariant}
use Rattle.link_invariant.proofs.EndInvariantKept.{alone_kept}
use Rattle.link_invariant.proofs.RunsKept.{runs_keep_invariant}
use Rattle.shared_words.specs.declared.run_setup.RunSetup.{RunSetup}
use Rattle.shared_words.specs.RunSetups.{config_in, link_config_of, honest_of, IsFit}
use Rattle.shared_words.specs.DerivedStates.{CallAccess, MemoryOp, called, numbered, carried, restarted, DerivedState, begun_if, settled_place, after_access, derived_state, Begins, IsNext}
use Rattle.shared_words.specs.SharedMemory.{Appends, OperationsMade}
use Rattle.shared_words.specs.SharedMemory as made
use Rattle.peer_runner.specs.ListStates.{access_of, left_in}
use Rattle.peer_runner.specs.RunningLaws.{end_by, place_by}
use Rattle.shared_words.proofs.FoldOfOperations.{standing_snoc, stand_honest}
use Rattle.shared_words.proofs.LinkOfSetup.{same_config, is_link_config, honest_below}
use Rattle.shared_words.proofs.ListsAreRuns.{reached_by}
use Rattle.shared_words.proofs.RunsOfEnds.{reached_runs}

-- The whole, at each moment

pub whole_at : (key : RunSetup) → IsFit key → (memory words : ℕ → ℕ) (acc : ℕ → List (MemoryOp CallAccess)) → OperationsMade key memory words acc → LinkInvariant (link_config_of key) (honest_of key) memory (end_by key acc) (place_by key acc)
whole_at key fit memory words acc m = runs_keep_invariant (link_config_of key) (honest_of key) memory (end_by key acc) (place_by key acc) (is_link_config key fit)
    (reached_runs (link_config_of key) (honest_of key) memory words (λ p. derived_state key p (acc p)) (reached_by key fit memory words acc m))

pub alone_at : (key : RunSetup) → IsFit key → (memory words : ℕ → ℕ) (acc : ℕ → List (MemoryOp CallAccess)) → OperationsMade key memory words acc → (p : ℕ) → honest_of key p ≡ true → EndInvariant (link_config_of key) memory p (end_by key acc p) (place_by key acc p)
alone_at key fit memory words acc m p hp = (whole_at key fit memory words acc m).alone p (honest_below key p hp) hp

-- An access

-- What it changes in an end: what it wrote last, and the phase.
pub noted_written : (end : End) (marks : List Mark) → (with_marks end marks).written ≡ end.written
noted_written end [] = refl
noted_written end (m ∷ marks) = noted_written (with_mark end m) marks ∙ once end m
  where
    once : (end : End) (m : Mark) → (with_mark end m).written ≡ end.written
    once end (mark.Refuse refused) = refl
    once end m = refl

noted_phase : (end : End) (marks : List Mark) → (with_marks end marks).handshake.phase ≡ end.handshake.phase
noted_phase end [] = refl
noted_phase end (m ∷ marks) = noted_phase (with_mark end m) marks ∙ once end m
  where
    once : (end : End) (m : Mark) → (with_mark end m).handshake.phase ≡ end.handshake.phase
    once end (mark.Refuse refused) = refl
    once end m = refl

stated_written : (end : End) (a : Access) (w : ℕ) → (with_access end a).written w ≡ left_in w (end.written w) a
stated_written end (access.Write word value) w = refl
stated_written end (access.State state) w = refl
stated_written end a w = refl

abbrev pub phase_left : Phase → Access → Phase
phase_left was (access.State state) = phase_of_state state
phase_left was _ = was

stated_phase : (end : End) (a : Access) → (with_access end a).handshake.phase ≡ phase_left end.handshake.phase a
stated_phase end (access.Write word value) = refl
stated_phase end (access.State state) = refl
stated_phase end a = refl

-- The place at which it is made.
abbrev pub place_before : RunSetup → ℕ → List (MemoryOp CallAccess) → CallAccess → Place
place_before key p list t = (begun_if (config_of (link_config_of key) p) (derived_state key p list) t.begins).place

-- The access t of an honest peer p, after its list.
pub record Turn (key : RunSetup) (p : ℕ) (memory after : ℕ → ℕ) (list : List (MemoryOp CallAccess)) (t : CallAccess) : Type 0 where
  pub alone : EndInvariant (link_config_of key) memory p (derived_state key p list).end (place_before key p list t)
  pub next : IsNext key p (derived_state key p list) t.begins t.access
  pub is : t.access ≡ access_at (config_of (link_config_of key) p) (place_before key p list t)
  pub goes : is_open (place_before key p list t) ≡ true
  pub leaves : MemoryAfter p memory t.access after
  pub next_end : (derived_state key p (list ++ called t ∷ [])).end ≡ end_after (derived_state key p list).end (step_at (config_of (link_config_of key) p) (place_before key p list t) t.value)
  pub next_place : (derived_state key p (list ++ called t ∷ [])).place ≡ settled_place (next_place (config_of (link_config_of key) p) (place_before key p list t) t.value)

begun_end : (config : EndConfig) (s : DerivedState) (call : Option Call) → (begun_if config s call).end ≡ s.end
begun_end config s None = refl
begun_end config s (Some call) = refl

begun_alone : (key : RunSetup) (memory : ℕ → ℕ) (p : ℕ) (s : DerivedState) (call : Option Call) → IsFit key → Begins (link_config_of key) s call → EndInvariant (link_config_of key) memory p s.end s.place →
    EndInvariant (link_config_of key) memory p s.end (begun_if (config_of (link_config_of key) p) s call).place
begun_alone key memory p s None fit b a = a
begun_alone key memory p s (Some call) fit b a = alone_kept.begins (link_config_of key) p memory s.end call (is_link_config key fit) b.2 (subst (EndInvariant (link_config_of key) memory p s.end) b.0 a)

turn_of : (key : RunSetup) → IsFit key → (memory after words : ℕ → ℕ) (acc : ℕ → List (MemoryOp CallAccess)) (p : ℕ) (t : CallAccess) → OperationsMade key memory words acc → honest_of key p ≡ true → IsNext key p (derived_state key p (acc p)) t.begins t.access → MemoryAfter p memory t.access after →
    Turn key p memory after (acc p) t
turn_of key fit memory after words acc p t m hp nx leaves = let config = config_of (link_config_of key) p in let s = derived_state key p (acc p) in let same : config_in key p ≡ config = same_config key p (honest_below key p hp) in
    let then : derived_state key p (acc p ++ called t ∷ []) ≡ after_access config s t = standing_snoc key p (acc p) (called t) ∙ (stand_honest key p s (called t) hp ∙ ap (λ w. after_access w s t) same) in record {
      alone = begun_alone key memory p s t.begins fit nx.at_call (alone_at key fit memory words acc m p hp);
      next = nx;
      is = nx.is ∙ ap (λ w. access_at w (begun_if w s t.begins).place) same;
      goes = subst (λ w. is_open (begun_if w s t.begins).place ≡ true) same nx.goes;
      leaves = leaves;
      next_end = ap (λ (x : DerivedState). x.end) then ∙ ap (λ e. end_after e (step_at config (begun_if config s t.begins).place t.value)) (begun_end config s t.begins);
      next_place = ap (λ (x : DerivedState). x.place) then;
    }

module _ (key : RunSetup) (p : ℕ) (memory after : ℕ → ℕ) (list : List (MemoryOp CallAccess)) (t : CallAccess) (turn : Turn key p memory after list t) where
  pub written_after : (w : ℕ) → (derived_state key p (list ++ called t ∷ [])).end.written w ≡ left_in w ((derived_state key p list).end.written w) t.access
  written_after w = let e = (derived_state key p list).end in let a = access_at (config_of (link_config_of key) p) (place_before key p list t) in let marks = marks_at (config_of (link_config_of key) p) (place_before key p list t) t.value in
      ap (λ (x : End). x.written w) turn.next_end ∙ (ap (λ (f : ℕ → ℕ). f w) (noted_written (with_access e a) marks) ∙ (stated_written e a w ∙ ap (left_in w (e.written w)) (sym turn.is)))

  pub phase_after : (derived_state key p (list ++ called t ∷ [])).end.handshake.phase ≡ phase_left (derived_state key p list).end.handshake.phase t.access
  phase_after = let e = (derived_state key p list).end in let a = access_at (config_of (link_config_of key) p) (place_before key p list t) in let marks = marks_at (config_of (link_config_of key) p) (place_before key p list t) t.value in
      ap (λ (x : End). x.handshake.phase) turn.next_end ∙ (noted_phase (with_access e a) marks ∙ (stated_phase e a ∙ ap (phase_left e.handshake.phase) (sym turn.is)))

-- An access to a session word.

abbrev pub IsQuiet : MemoryOp CallAccess → Type 0
IsQuiet (numbered number) = Unit {0}
IsQuiet (carried number) = Unit {0}
IsQuiet d = ⊥

-- After the list of an honest peer p, d changes neither the peer's end nor its place.
pub record Quiet (key : RunSetup) (p : ℕ) (list : List (MemoryOp CallAccess)) (d : MemoryOp CallAccess) : Type 0 where
  pub kind : IsQuiet d
  pub access : access_of d ≡ access.Nothing
  pub end : (derived_state key p (list ++ d ∷ [])).end ≡ (derived_state key p list).end
  pub place : (derived_state key p (list ++ d ∷ [])).place ≡ (derived_state key p list).place

quiet_of : (key : RunSetup) (p : ℕ) (list : List (MemoryOp CallAccess)) (d : MemoryOp CallAccess) → honest_of key p ≡ true → IsQuiet d → Quiet key p list d
quiet_of key p list (called t) hp is = absurd is
quiet_of key p list restarted hp is = absurd is
quiet_of key p list (numbered number) hp is = let then = standing_snoc key p list (numbered number) ∙ stand_honest key p (derived_state key p list) (numbered number) hp in record { kind = tt; access = refl; end = ap (λ (x : DerivedState). x.end) then; place = ap (λ (x : DerivedState). x.place) then }
quiet_of key p list (carried number) hp is = let then = standing_snoc key p list (carried number) ∙ stand_honest key p (derived_state key p list) (carried number) hp in record { kind = tt; access = refl; end = ap (λ (x : DerivedState). x.end) then; place = ap (λ (x : DerivedState). x.place) then }

-- A reset of an honest peer p, after its list.

pub record Restart (key : RunSetup) (p : ℕ) (memory after : ℕ → ℕ) (list : List (MemoryOp CallAccess)) : Type 0 where
  pub stored : Stored memory after p 0
  pub end : (derived_state key p (list ++ restarted ∷ [])).end ≡ after_reset (derived_state key p list).end
  pub place : (derived_state key p (list ++ restarted ∷ [])).place ≡ Closed

restart_of : (key : RunSetup) (p : ℕ) (memory after : ℕ → ℕ) (list : List (MemoryOp CallAccess)) → honest_of key p ≡ true → Stored memory after p 0 → Restart key p memory after list
restart_of key p memory after list hp st = let then = standing_snoc key p list restarted ∙ stand_honest key p (derived_state key p list) restarted hp in record { stored = st; end = ap (λ (x : DerivedState). x.end) then; place = ap (λ (x : DerivedState). x.place) then }

-- Lists

-- What holds of the empty list, and after each memory operation of the peer, holds of its list.
module _ (key : RunSetup) (fit : IsFit key) (p : ℕ) (hp : honest_of key p ≡ true) (P : List (MemoryOp CallAccess) → Type 0) (none : P [])
    (more : (memory after words : ℕ → ℕ) (acc next : ℕ → List (MemoryOp CallAccess)) (t : CallAccess) → OperationsMade key memory words acc → OperationsMade key after words next → next p ≡ acc p ++ called t ∷ [] → Turn key p memory after (acc p) t → P (acc p) → P (acc p ++ called t ∷ []))
    (quiet : (list : List (MemoryOp CallAccess)) (d : MemoryOp CallAccess) → Quiet key p list d → P list → P (list ++ d ∷ []))
    (reset : (memory after : ℕ → ℕ) (list : List (MemoryOp CallAccess)) → Restart key p memory after list → P list → P (list ++ restarted ∷ [])) where
  -- The list of some peer q grows.
  grown : (acc next : ℕ → List (MemoryOp CallAccess)) (q : ℕ) (d : MemoryOp CallAccess) → Appends acc next q d → (p ≡ q → P (acc p) → P (acc p ++ d ∷ [])) → P (acc p) → P (next p)
  grown acc next q d g on was = dite (ℕ_discrete p q)
      (λ e. subst P (sym (ap next e ∙ (g.here ∙ ap (λ x. acc x ++ d ∷ []) (sym e)))) (on e was))
      (λ ne. subst P (sym (g.neighbour_word p ne)) was)

  pub along : (memory words : ℕ → ℕ) (acc : ℕ → List (MemoryOp CallAccess)) → OperationsMade key memory words acc → P (acc p)
  along memory words acc (made.starts _ _ _ zeros blank empty) = subst P (sym (empty p)) none
  along after words next (made.makes memory _ _ acc _ q t k lt may meets leaves g) = grown acc next q (called t) g
      (λ e. more memory after words acc next t k (made.makes memory after words acc next q t k lt may meets leaves g) (ap next e ∙ (g.here ∙ ap (λ x. acc x ++ called t ∷ []) (sym e)))
      (turn_of key fit memory after words acc p t k hp (subst (λ x. IsNext key x (derived_state key x (acc x)) t.begins t.access) (sym e) (may.next (ap (honest_of key) (sym e) ∙ hp))) (subst (λ x. MemoryAfter x memory t.access after) (sym e) leaves)))
      (along memory words acc k)
  along memory now next (made.stores _ words _ acc _ q number k may st g) = grown acc next q (numbered number) g (λ e. quiet (acc p) (numbered number) (quiet_of key p (acc p) (numbered number) hp tt)) (along memory words acc k)
  along memory words next (made.loads _ _ acc _ q k may g) = grown acc next q (carried (words (1 - q))) g (λ e. quiet (acc p) (carried (words (1 - q))) (quiet_of key p (acc p) (carried (words (1 - q))) hp tt)) (along memory words acc k)
  along after words next (made.resets memory _ _ acc _ q k lt st g) = grown acc next q restarted g
      (λ e. reset memory after (acc p) (restart_of key p memory after (acc p) hp (subst (λ x. Stored memory after x 0) (sym e) st))) (along memory words acc k)
