-- The states of running peers are those of the ends' runs.
use Rattle.std.proofs.Common.{◌≡◌, ◌≢◌, ℕ, zero, suc, ◌<◌, Bool, true, false, List, refl, sym, ap, ◌∙◌, subst, arith}
use mathlib.Core.Logic.{dite}
use native.Mathlib.Decide.{ℕ_discrete}
use Rattle.link_handshake.specs.declared.Phase.TheVariants.{Init}
use Rattle.call_grammar.specs.Ends.{End}
use Rattle.call_grammar.specs.Places.{Place, WritingState, Refusing}
use Rattle.link_invariant.specs.LinkConfig.{LinkConfig, IsLinkConfig}
use Rattle.link_invariant.specs.Steps as ends
use Rattle.link_invariant.specs.Runs as runs
use Rattle.link_invariant.specs.Runs.{Runs, RunsKeepInvariant}
use Rattle.link_invariant.specs.LinkInvariant.{HonestEndsAgree}
use Rattle.link_invariant.specs.EndInvariant.{PlaceInvariant}
use Rattle.link_invariant.proofs.RunsKept.{runs_keep_invariant}
use Rattle.pair_sessions.specs.Numbers as numbers
use Rattle.pair_sessions.specs.Numbers.{Numbers, OnlyNumbers, NumberedRuns, SessionsArePaired}
use Rattle.shared_words.specs.declared.run_setup.RunSetup.{RunSetup}
use Rattle.shared_words.specs.RunSetups.{link_config_of, honest_of}
use Rattle.shared_words.specs.DerivedStates.{CallAccess, MemoryOp, DerivedState, derived_state, NeverMarked}
use Rattle.shared_words.proofs.PeersRun.{OnlyComes, Reached}
use Rattle.shared_words.proofs.PeersRun as reaches
use Rattle.shared_words.specs.Rules.{SessionsAreLearned}

abbrev pub ends_of : (ℕ → DerivedState) → ℕ → End
ends_of st p = (st p).end

abbrev pub places_of : (ℕ → DerivedState) → ℕ → Place
places_of st p = (st p).place

abbrev pub numbers_of : (ℕ → DerivedState) → ℕ → Numbers
numbers_of st p = (st p).numbers

pub both_honest : (honest : ℕ → Bool) → honest 0 ≡ true → honest 1 ≡ true → (q : ℕ) → q < 2 → honest q ≡ true
both_honest honest a b zero q2 = a
both_honest honest a b (suc zero) q2 = b
both_honest honest a b (suc (suc q)) q2 = absurd (omega arith)

pub comes : (st next : ℕ → DerivedState) (p : ℕ) (s : DerivedState) → OnlyComes st next p s → ends.OnlyEndChanges (ends_of st) (ends_of next) (places_of st) (places_of next) p s.end s.place
comes st next p s only = record {
  end_is = ap (λ (x : DerivedState). x.end) only.here;
  place_is = ap (λ (x : DerivedState). x.place) only.here;
  ends_stay = λ q ne. ap (λ (x : DerivedState). x.end) (only.neighbour_word q ne);
  places_stay = λ q ne. ap (λ (x : DerivedState). x.place) (only.neighbour_word q ne);
}

pub numbers_come : (st next : ℕ → DerivedState) (p : ℕ) (s : DerivedState) → OnlyComes st next p s → OnlyNumbers (numbers_of st) (numbers_of next) p s.numbers
numbers_come st next p s only = record { here = ap (λ (x : DerivedState). x.numbers) only.here; neighbour_word = λ q ne. ap (λ (x : DerivedState). x.numbers) (only.neighbour_word q ne) }

-- If the derived state that changes keeps its `f`, the derived state of each peer keeps its `f`.
pub kept_by : {A : Type 0} → (f : DerivedState → A) (st next : ℕ → DerivedState) (p : ℕ) (s : DerivedState) → OnlyComes st next p s → f s ≡ f (st p) → (q : ℕ) → f (st q) ≡ f (next q)
kept_by f st next p s only is q = dite (ℕ_discrete q p)
    (λ e. sym (ap (λ k. f (next k)) e ∙ (ap f only.here ∙ (is ∙ ap (λ k. f (st k)) (sym e)))))
    (λ ne. sym (ap f (only.neighbour_word q ne)))

-- A run of the ends, in which session words are nothing.
pub reached_runs : (link_config : LinkConfig) (honest : ℕ → Bool) (memory words : ℕ → ℕ) (st : ℕ → DerivedState) → Reached link_config honest memory words st → Runs link_config honest memory (ends_of st) (places_of st)
reached_runs link_config honest memory words st (reaches.starts _ _ _ zeros none at) = runs.starts memory (ends_of st) (places_of st) zeros (λ p. ap (λ (x : DerivedState). x.end) (at p)) (λ p. ap (λ (x : DerivedState). x.place) (at p))
reached_runs link_config honest memory words next (reaches.begins _ _ st _ p call k p2 hp closed going given only) =
    runs.begins memory (ends_of st) (ends_of next) (places_of st) (places_of next) p call (reached_runs link_config honest memory words st k) p2 hp (record { given = given; closed = closed; comes = comes st next p _ only })
reached_runs link_config honest after words next (reaches.steps memory _ _ st _ p value k p2 hp goes meets leaves numbered only) =
    runs.steps memory after (ends_of st) (ends_of next) (places_of st) (places_of next) p value (reached_runs link_config honest memory words st k) p2 hp (record { opened = goes; meets = meets; leaves = leaves; comes = comes st next p _ only })
reached_runs link_config honest after words next (reaches.resets memory _ _ st _ p k p2 hp stored only) =
    runs.resets memory after (ends_of st) (ends_of next) (places_of st) (places_of next) p (reached_runs link_config honest memory words st k) p2 hp (record { stored = stored; comes = comes st next p _ only })
reached_runs link_config honest memory now next (reaches.stores _ words _ st _ p k p2 hp place stored only) =
    let end = kept_by (λ s. s.end) st next p _ only refl in let at = kept_by (λ s. s.place) st next p _ only refl in
    subst (λ (e : ℕ → End). Runs link_config honest memory e (places_of next)) (λ i q. end q i) (subst (λ (f : ℕ → Place). Runs link_config honest memory (ends_of st) f) (λ i q. at q i) (reached_runs link_config honest memory words st k))
reached_runs link_config honest memory words next (reaches.loads _ _ st _ p k p2 hp place only) =
    let end = kept_by (λ s. s.end) st next p _ only refl in let at = kept_by (λ s. s.place) st next p _ only refl in
    subst (λ (e : ℕ → End). Runs link_config honest memory e (places_of next)) (λ i q. end q i) (subst (λ (f : ℕ → Place). Runs link_config honest memory (ends_of st) f) (λ i q. at q i) (reached_runs link_config honest memory words st k))
reached_runs link_config honest after words st (reaches.others memory _ _ _ k untouched) = runs.others memory after (ends_of st) (places_of st) (reached_runs link_config honest memory words st k) untouched

-- An end that is about to set READY is in INIT.
pub init_at : (link_config : LinkConfig) (memory : ℕ → ℕ) (p : ℕ) (end : End) (place : Place) → PlaceInvariant link_config memory p end place → place ≡ WritingState 2 → end.handshake.phase ≡ Init
init_at link_config memory p end place holds is = let h : PlaceInvariant link_config memory p end (WritingState 2) = subst (PlaceInvariant link_config memory p end) is holds in h.0

-- And of two honest ends one in which they number their sessions.
pub reached_numbered : (link_config : LinkConfig) (honest : ℕ → Bool) → IsLinkConfig link_config → honest 0 ≡ true → honest 1 ≡ true → (memory words : ℕ → ℕ) (st : ℕ → DerivedState) → Reached link_config honest memory words st →
    NumberedRuns link_config memory words (ends_of st) (places_of st) (numbers_of st)
reached_numbered link_config honest is a b memory words st (reaches.starts _ _ _ zeros none at) = numbers.starts memory words (ends_of st) (places_of st) (numbers_of st) zeros none
    (λ p. ap (λ (x : DerivedState). x.end) (at p)) (λ p. ap (λ (x : DerivedState). x.place) (at p)) (λ p. ap (λ (x : DerivedState). x.numbers) (at p))
reached_numbered link_config honest is a b memory words next (reaches.begins _ _ st _ p call k p2 hp closed going given only) =
    let same = kept_by (λ s. s.numbers) st next p _ only refl in
    subst (λ (n : ℕ → Numbers). NumberedRuns link_config memory words (ends_of next) (places_of next) n) (λ i q. same q i)
    (numbers.begins memory words (ends_of st) (ends_of next) (places_of st) (places_of next) (numbers_of st) p call (reached_numbered link_config honest is a b memory words st k) p2 (record { given = given; closed = closed; comes = comes st next p _ only }))
reached_numbered link_config honest is a b after words next (reaches.steps memory _ _ st _ p value k p2 hp goes meets leaves numbered only) =
    numbers.steps memory after words (ends_of st) (ends_of next) (places_of st) (places_of next) (numbers_of st) (numbers_of next) p value (reached_numbered link_config honest is a b memory words st k) p2
    (record { opened = goes; meets = meets; leaves = leaves; comes = comes st next p _ only }) numbered (numbers_come st next p _ only)
reached_numbered link_config honest is a b after words next (reaches.resets memory _ _ st _ p k p2 hp stored only) =
    numbers.resets memory after words (ends_of st) (ends_of next) (places_of st) (places_of next) (numbers_of st) (numbers_of next) p (reached_numbered link_config honest is a b memory words st k) p2
    (record { stored = stored; comes = comes st next p _ only }) (numbers_come st next p _ only)
reached_numbered link_config honest is a b memory now next (reaches.stores _ words _ st _ p k p2 hp place stored only) =
    let end = kept_by (λ s. s.end) st next p _ only refl in let at = kept_by (λ s. s.place) st next p _ only refl in
    let alone = (runs_keep_invariant link_config honest memory (ends_of st) (places_of st) is (reached_runs link_config honest memory words st k)).alone p p2 hp in
    subst (λ (e : ℕ → End). NumberedRuns link_config memory now e (places_of next) (numbers_of next)) (λ i q. end q i) (subst (λ (f : ℕ → Place). NumberedRuns link_config memory now (ends_of st) f (numbers_of next)) (λ i q. at q i)
    (numbers.stores memory words now (ends_of st) (places_of st) (numbers_of st) (numbers_of next) p (reached_numbered link_config honest is a b memory words st k) p2
    (init_at link_config memory p (st p).end (st p).place alone.holds place) stored.here stored.neighbour_word (numbers_come st next p _ only)))
reached_numbered link_config honest is a b memory words next (reaches.loads _ _ st _ p k p2 hp place only) =
    let end = kept_by (λ s. s.end) st next p _ only refl in let at = kept_by (λ s. s.place) st next p _ only refl in
    subst (λ (e : ℕ → End). NumberedRuns link_config memory words e (places_of next) (numbers_of next)) (λ i q. end q i) (subst (λ (f : ℕ → Place). NumberedRuns link_config memory words (ends_of st) f (numbers_of next)) (λ i q. at q i)
    (numbers.loads memory words (ends_of st) (places_of st) (numbers_of st) (numbers_of next) p (reached_numbered link_config honest is a b memory words st k) p2 place (numbers_come st next p _ only)))
reached_numbered link_config honest is a b after words st (reaches.others memory _ _ _ k untouched) =
    numbers.others memory after words (ends_of st) (places_of st) (numbers_of st) (reached_numbered link_config honest is a b memory words st k) (λ q q2. untouched q q2 (both_honest honest a b q q2))

-- Neither end is at a refusal or has its mark.
pub none_refuses : RunsKeepInvariant → HonestEndsAgree → (key : RunSetup) (memory words : ℕ → ℕ) (acc : ℕ → List (MemoryOp CallAccess)) → IsLinkConfig (link_config_of key) → honest_of key 0 ≡ true → honest_of key 1 ≡ true →
    Reached (link_config_of key) (honest_of key) memory words (λ p. derived_state key p (acc p)) → (p : ℕ) → p < 2 → ((derived_state key p (acc p)).place ≢ Refusing) × ((derived_state key p (acc p)).end.handshake.mark ≡ false)
none_refuses whole agree key memory words acc is a b k p p2 =
    let st : ℕ → DerivedState = λ q. derived_state key q (acc q) in let link_config = link_config_of key in let honest = honest_of key in
    agree.never_refuse link_config memory (ends_of st) (places_of st) p p2 ((whole link_config honest memory (ends_of st) (places_of st) is (reached_runs link_config honest memory words st k)).pair a b)

-- The facts that a pass with all lists learns.
pub are_learned : RunsKeepInvariant → SessionsArePaired → HonestEndsAgree → (key : RunSetup) (memory words : ℕ → ℕ) (acc : ℕ → List (MemoryOp CallAccess)) → IsLinkConfig (link_config_of key) → honest_of key 0 ≡ true → honest_of key 1 ≡ true →
    Reached (link_config_of key) (honest_of key) memory words (λ p. derived_state key p (acc p)) → ((p : ℕ) → p < 2 → NeverMarked key p (acc p)) → SessionsAreLearned key acc
are_learned whole paired agree key memory words acc is a b k never =
    let st : ℕ → DerivedState = λ p. derived_state key p (acc p) in let link_config = link_config_of key in let honest = honest_of key in
    let learned = paired link_config memory words (ends_of st) (places_of st) (numbers_of st) is (reached_numbered link_config honest is a b memory words st k) in record {
      deliver = λ p p2. (learned.1.3 p p2).2.deliver;
      never_refuse = λ p p2. ((none_refuses whole agree key memory words acc is a b k p p2).0, never p p2);
    }
