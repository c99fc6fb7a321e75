-- Session words: of an honest peer, of a hostile one, and of two honest ones.
use Rattle.std.proofs.Common.{◌≡◌, ℕ, ◌<◌, ◌⊎◌, inl, inr, ⊎_elim, Bool, true, refl, sym, ap, ◌∙◌, subst, arith}
use mathlib.Core.Logic.{dite}
use native.Mathlib.Decide.{ℕ_discrete}
use Rattle.link_handshake.specs.PhaseTable.{state_of}
use Rattle.call_grammar.specs.Ends.{fresh}
use Rattle.call_grammar.specs.Places.{WritingState}
use Rattle.link_invariant.specs.LinkConfig.{LinkConfig, IsLinkConfig, config_of}
use Rattle.link_invariant.specs.EndInvariant.{PlaceInvariant}
use Rattle.link_invariant.proofs.RunsKept.{runs_keep_invariant}
use Rattle.pair_sessions.specs.Numbers.{no_numbers, WordIs}
use Rattle.pair_sessions.proofs.SessionNumbers.{low_writes, word_step, word_reset, word_stored, word_like}
use Rattle.pair_sessions.proofs.SessionsArePaired.{sessions_are_paired}
use Rattle.shared_words.specs.RunSetups.{link_config_of, honest_of}
use Rattle.shared_words.specs.DerivedStates.{DerivedState, derived_state}
use Rattle.shared_words.specs.Rules.{session_words, accesses_by}
use Rattle.peer_runner.specs.RunningLaws.{InSession, SessionWordsAreNumbers, HostileSessionsAreNone, SessionsArePaired}
use Rattle.shared_words.proofs.PeersRun.{OnlyComes, Reached}
use Rattle.shared_words.proofs.PeersRun as reaches
use Rattle.shared_words.proofs.RunsOfEnds.{ends_of, places_of, numbers_of, reached_runs, reached_numbered}
use Rattle.shared_words.proofs.ListsAreRuns.{reached_by}
use Rattle.shared_words.proofs.HostileOther.{hostile_none}
use Rattle.shared_words.proofs.LinkOfSetup.{is_link_config, honest_below}
use Rattle.shared_words.proofs.ActionsMakeWords.{made_in}

-- The word of an honest end, whatever the other stores.

abbrev HasWord : DerivedState → ℕ → Type 0
HasWord s word = WordIs s.end s.numbers word

-- One end whose state changes.
word_on : (st next : ℕ → DerivedState) (words now : ℕ → ℕ) (p : ℕ) (s : DerivedState) (q : ℕ) → OnlyComes st next p s → (p ≡ q → HasWord s (now p)) → (now q ≡ words q ⊎ (q ≡ p)) → HasWord (st q) (words q) → HasWord (next q) (now q)
word_on st next words now p s q only new same was = dite (ℕ_discrete q p)
    (λ e. subst (λ (x : DerivedState). HasWord x (now q)) (sym (ap next e ∙ only.here)) (subst (λ x. HasWord s (now x)) (sym e) (new (sym e))))
    (λ ne. subst (λ (x : DerivedState). HasWord x (now q)) (sym (only.neighbour_word q ne)) (subst (HasWord (st q)) (⊎_elim sym (λ e. absurd (ne e)) same) was))

module _ (link_config : LinkConfig) (is : IsLinkConfig link_config) (honest : ℕ → Bool) where
  holds_at : (memory words : ℕ → ℕ) (st : ℕ → DerivedState) → Reached link_config honest memory words st → (p : ℕ) → p < 2 → honest p ≡ true → PlaceInvariant link_config memory p (st p).end (st p).place
  holds_at memory words st r p p2 hp = ((runs_keep_invariant link_config honest memory (ends_of st) (places_of st) is (reached_runs link_config honest memory words st r)).alone p p2 hp).holds

  word_at : (memory words : ℕ → ℕ) (st : ℕ → DerivedState) → Reached link_config honest memory words st → (q : ℕ) → q < 2 → honest q ≡ true → HasWord (st q) (words q)
  word_at memory words st (reaches.starts _ _ _ zeros none at) q q2 hq =
      word_like fresh (st q).end no_numbers (st q).numbers 0 (words q) (ap (λ (s : DerivedState). s.end) (at q)) (ap (λ (s : DerivedState). s.numbers) (at q)) (none q) (inl (refl, refl))
  word_at memory words next (reaches.begins _ _ st _ p call k p2 hp closed going given only) q q2 hq = let was = word_at memory words st k in word_on st next words words p _ q only (λ e. was p p2 hp) (inl refl) (was q q2 hq)
  word_at after words next (reaches.steps memory _ _ st _ p value k p2 hp goes meets leaves numbered only) q q2 hq = let was = word_at memory words st k in let config = config_of link_config p in let s = st p in
      word_on st next words words p _ q only
      (λ e. word_step config s.place s.end s.numbers (words p) value (λ state is low. low_writes link_config p memory s.end config s.place state (holds_at memory words st k p p2 hp) is low) numbered (was p p2 hp)) (inl refl) (was q q2 hq)
  word_at after words next (reaches.resets memory _ _ st _ p k p2 hp stored only) q q2 hq = let was = word_at memory words st k in
      word_on st next words words p _ q only (λ e. word_reset (st p).end (st p).numbers (words p) (was p p2 hp)) (inl refl) (was q q2 hq)
  word_at memory now next (reaches.stores _ words _ st _ p k p2 hp at stored only) q q2 hq = let was = word_at memory words st k in
      let may : PlaceInvariant link_config memory p (st p).end (WritingState 2) = subst (PlaceInvariant link_config memory p (st p).end) at (holds_at memory words st k p p2 hp) in
      word_on st next words now p _ q only (λ e. word_stored (st p).end (st p).numbers (now p) (ap state_of may.0) stored.here) (dite (ℕ_discrete q p) inr (λ ne. inl (stored.neighbour_word q ne))) (was q q2 hq)
  word_at memory words next (reaches.loads _ _ st _ p k p2 hp at only) q q2 hq = let was = word_at memory words st k in word_on st next words words p _ q only (λ e. was p p2 hp) (inl refl) (was q q2 hq)
  word_at after words st (reaches.others memory _ _ _ k untouched) q q2 hq = word_at memory words st k q q2 hq

-- In READY and RUN none is stored that wasn't opened.
opened_at : (s : DerivedState) (word : ℕ) → HasWord s word → InSession s.end.handshake.phase → word ≡ s.numbers.log.opened
opened_at s word w open' = ⊎_elim (λ h. h.1) (λ h. let low = h.2 in ⊎_elim (λ e. let two = ap state_of e in absurd (omega arith)) (λ e. let three = ap state_of e in absurd (omega arith)) open') w

pub session_words_are_numbers : SessionWordsAreNumbers
session_words_are_numbers key s kept p hp = let st : ℕ → DerivedState = λ q. derived_state key q (accesses_by kept.acc q) in let words = session_words key s.words in
    let w = word_at (link_config_of key) (is_link_config key kept.fit) (honest_of key) _ words st (reached_by key kept.fit _ words (accesses_by kept.acc) (made_in key s kept)) p (honest_below key p hp) hp in
    record { word = w; opened = opened_at (st p) (words p) w }

pub hostile_sessions_are_none : HostileSessionsAreNone
hostile_sessions_are_none key s kept p p2 h = hostile_none key _ (session_words key s.words) (accesses_by kept.acc) (made_in key s kept) p h

-- Two honest ends

pub paired_sessions : SessionsArePaired
paired_sessions key s kept p a b p2 = let st : ℕ → DerivedState = λ q. derived_state key q (accesses_by kept.acc q) in let is = is_link_config key kept.fit in let words = session_words key s.words in
    let run = reached_numbered (link_config_of key) (honest_of key) is a b _ words st (reached_by key kept.fit _ words (accesses_by kept.acc) (made_in key s kept)) in
    ((sessions_are_paired (link_config_of key) _ words (ends_of st) (places_of st) (numbers_of st) is run).1.3 p p2).2
