-- The invariant of two honest peers.
use Rattle.std.proofs.Common.{◌≡◌, ◌≢◌, ℕ, zero, suc, ◌+◌, ◌-◌, ◌%◌, ◌<◌, ◌≤◌, ◌⊎◌, inl, inr, ⊎_elim, true, false, List, [], length, refl, sym, ap, ◌∙◌, subst, arith, length-append}
use Rattle.std.specs.Prelude.{nat_lt, replicate}
use Rattle.std.proofs.lemmas.List.{length-replicate}
use Rattle.std.proofs.lemmas.Nat.{mod_below}
use Rattle.split_ring.specs.Layout.{size_of, limit_of, word_offset, UsedId as LayoutUsedId}
use Rattle.split_ring.specs.Spelling.{Spells}
use Rattle.link_handshake.specs.declared.Phase.{Phase}
use Rattle.link_handshake.specs.declared.Phase.TheVariants.{Reset, Init, Ready, Run}
use Rattle.call_grammar.specs.Ends.{End, fresh}
use Rattle.call_grammar.specs.Places.{Place, Closed, ReadingUsedId}
use Rattle.link_invariant.specs.Fields.{Field, UsedId}
use Rattle.link_invariant.specs.LinkConfig.{LinkConfig, IsLinkConfig, section_of, fields}
use Rattle.link_invariant.specs.EndInvariant.{frame_at, OwnSection, PlaceInvariant}
use Rattle.link_invariant.specs.Pair.{freed_at, IsAttached, Polls, Pair}
use Rattle.link_invariant.specs.LinkInvariant.{SectionSpells}
use Rattle.link_invariant.proofs.Fields.{numbers, one_test, field_read, fields_same}
use Rattle.link_invariant.proofs.EndObligations.{run_ready}
use Rattle.link_invariant.proofs.LinkInvariantKept.{frames_are_spelled}
use Rattle.shared_words.specs.declared.run_setup.RunSetup.{RunSetup}
use Rattle.shared_words.specs.RunSetups.{link_config_of, honest_of, IsFit}
use Rattle.shared_words.specs.DerivedStates.{CallAccess, MemoryOp, derived_state}
use Rattle.shared_words.specs.SharedMemory.{OperationsMade}
use Rattle.peer_runner.specs.RunningLaws.{end_by, place_by, InSession, NeverRefuses, OtherOpensNoSession, WhereEitherAttends, PairInvariant, AskedIsRung, ReadValuesAreAsSent}
use Rattle.shared_words.proofs.FoldOfOperations.{put, put_here, put_else}
use Rattle.shared_words.proofs.LinkOfSetup.{same_section, is_link_config, clash}
use Rattle.peer_runner.proofs.FlightIsSpelled.{freed_below, flight_is_spelled}
use Rattle.peer_runner.proofs.ReadValues.{as_sent}
use Rattle.shared_words.proofs.ListsAreRuns.{reached_by}
use Rattle.shared_words.proofs.NoneIsMissed.{never_missed}
use Rattle.peer_runner.proofs.EndsAlong.{whole_at, alone_at}

-- Frames in flight of an end that was reset.

session_or : (phase : Phase) → InSession phase ⊎ (phase ≢ Run)
session_or Reset = inr (λ e. cc)
session_or Init = inr (λ e. cc)
session_or Ready = inl (inl refl)
session_or Run = inl (inr refl)

-- It is in the middle of no ids.
freed_shut : (link_config : LinkConfig) (memory : ℕ → ℕ) (p : ℕ) (end : End) (place : Place) → PlaceInvariant link_config memory p end place → end.handshake.phase ≢ Run → freed_at end.freed place ≡ end.freed
freed_shut link_config memory p end (ReadingUsedId pending freed more) h out = absurd (out h.0)
freed_shut link_config memory p end place h out = refl

-- Each sent frame is spelled in every phase, as of an end in RUN with these counts, whose state
-- word is 3.
sent_spells : (link_config : LinkConfig) (memory : ℕ → ℕ) (p k freed returned : ℕ) (accepted : List (List ℕ)) → IsLinkConfig link_config → p < 2 → OwnSection link_config (fields link_config memory p) accepted freed returned → freed ≤ length accepted → length accepted ≤ freed + limit_of link_config.sizes →
    freed ≤ k → k < length accepted → SectionSpells link_config memory p k (frame_at accepted k)
sent_spells link_config memory p k freed returned accepted is p2 sent few room low high = let after = put memory p 3 in let start = section_of link_config p in
    let keep : (j : ℕ) → after (start + j) ≡ memory (start + j) = λ j. put_else memory p (start + j) 3 (λ e. let two = is.first in omega arith) in
    let end : End = record fresh { handshake = record { phase = Run; mark = false }; accepted = accepted; freed = freed; delivered = replicate returned []; returned = returned; written = after } in
    let same : fields link_config after p ≡ fields link_config memory p = λ i f. fields_same link_config memory after p is (λ j lt. keep j) f i in
    subst (λ (w : ℕ → ℕ). Spells link_config.sizes w k (k % limit_of link_config.sizes) (frame_at accepted k)) (λ i j. keep j i) (frames_are_spelled.in_flight link_config after p end Closed k is (record {
      state = put_here memory p p 3 refl;
      written = λ j lt. refl;
      holds = tt;
      rests = λ e. absurd (clash e);
      ready = λ e. absurd (run_ready refl e);
      level = λ o. length-replicate returned [] ∙ omega arith;
      sent = λ o. subst (λ (f : Field → ℕ). OwnSection link_config f accepted freed returned) (sym same) sent;
      freed = few;
      room = room;
    }) tt low high)

-- Two honest peers

module _ (key : RunSetup) (fit : IsFit key) (a : honest_of key 0 ≡ true) (b : honest_of key 1 ≡ true) where
  both : (p : ℕ) → p < 2 → honest_of key p ≡ true
  both zero p2 = a
  both (suc zero) p2 = b
  both (suc (suc p)) p2 = absurd (omega arith)

  pub pair_at : (memory words : ℕ → ℕ) (acc : ℕ → List (MemoryOp CallAccess)) → OperationsMade key memory words acc → Pair (link_config_of key) memory (end_by key acc) (place_by key acc)
  pair_at memory words acc m = (whole_at key fit memory words acc m).pair a b

  pub honest_peers_never_refuse : (memory words : ℕ → ℕ) (acc : ℕ → List (MemoryOp CallAccess)) → OperationsMade key memory words acc → (p : ℕ) → p < 2 → NeverRefuses key memory acc p
  honest_peers_never_refuse memory words acc m p p2 = let sound = (pair_at memory words acc m).sound p p2 in record { place = sound.1; mark = sound.0 }

  pub other_opens_no_session : (memory words : ℕ → ℕ) (acc : ℕ → List (MemoryOp CallAccess)) → OperationsMade key memory words acc → (p : ℕ) → p < 2 → OtherOpensNoSession key memory acc p
  other_opens_no_session memory words acc m p p2 = (pair_at memory words acc m).cross p p2

  -- As soon as either attends.
  pub pair_invariant : (memory words : ℕ → ℕ) (acc : ℕ → List (MemoryOp CallAccess)) → OperationsMade key memory words acc → (p : ℕ) → p < 2 → WhereEitherAttends PairInvariant key memory acc p
  pair_invariant memory words acc m p p2 attends = let link_config = link_config_of key in let o2 : 1 - p < 2 = omega arith in let end = end_by key acc p in let place = place_by key acc p in let alone = alone_at key fit memory words acc m p (both p p2) in
      let link = (pair_at memory words acc m).link p p2 attends in let flight = flight_is_spelled key fit p (both p p2) memory words acc m in let q = 1 - p in let start = same_section key q o2 in record {
        returned = let f = freed_below link_config memory p end place alone in let r = link.returns in omega arith;
        delivered = link.delivers;
        accepted = let all = ap length link.prefix.1 ∙ length-append (end_by key acc q).delivered link.prefix.0 in omega arith;
        limit = flight.most;
        prefix = link.prefix;
        spelled = λ k low high. ⊎_elim (λ open'. flight.spelled k open' low high)
            (λ out. let shut = freed_shut link_config memory p end place alone.holds out in subst (λ x. Spells key.queue (λ w. memory (x + w)) k (k % limit_of key.queue) (frame_at end.accepted k)) (sym (same_section key p p2))
            (sent_spells link_config memory p k end.freed end.returned end.accepted (is_link_config key fit) p2 ((pair_at memory words acc m).sent p p2 attends) alone.freed alone.room (omega arith) high))
            (session_or end.handshake.phase);
        named = λ k low high. let b = numbers link_config (is_link_config key fit) in let least = b.size_least in let i = k % size_of key.queue in
            let at : nat_lt i (size_of key.queue) ≡ true = one_test i (size_of key.queue) (mod_below k (size_of key.queue) (omega arith)) in
            subst (λ x. memory (x + word_offset key.queue (LayoutUsedId i)) ≡ k % limit_of key.queue) (sym start) (field_read link_config memory q (UsedId i) (memory (section_of link_config q + word_offset key.queue (LayoutUsedId i))) at refl ∙ link.named k low high);
      }

  -- The values of a call.
  pub read_values_are_as_sent : (memory words : ℕ → ℕ) (acc : ℕ → List (MemoryOp CallAccess)) → OperationsMade key memory words acc → (p : ℕ) → p < 2 → ReadValuesAreAsSent key memory acc p
  read_values_are_as_sent memory words acc m p p2 = let link_config = link_config_of key in let o2 : 1 - p < 2 = omega arith in let back : 1 - (1 - p) ≡ p = omega arith in let end = end_by key acc p in let place = place_by key acc p in let q = 1 - p in
      let pair = pair_at memory words acc m in as_sent link_config memory p end place (fields link_config memory (1 - q)) (end_by key acc q).accepted (end_by key acc q).returned (alone_at key fit memory words acc m p (both p p2))
      (λ run. subst (λ x. Polls link_config (fields link_config memory (1 - q)) (end_by key acc q).accepted (place_by key acc x)) back (pair.link q o2 (inr (subst (λ x. IsAttached (end_by key acc x) (place_by key acc x)) (sym back) (inl run)))).polls)
      (λ run. (pair.link p p2 (inl (inl run))).returns)

-- The other doesn't miss a requested frame.
pub asked_is_rung : (key : RunSetup) → IsFit key → honest_of key 0 ≡ true → honest_of key 1 ≡ true → (memory words : ℕ → ℕ) (acc : ℕ → List (MemoryOp CallAccess)) → OperationsMade key memory words acc → (p : ℕ) → p < 2 → AskedIsRung key memory acc p
asked_is_rung key fit a b memory words acc m p p2 = λ ev frame asked. never_missed (link_config_of key) (is_link_config key fit) ev (honest_of key) a b memory words (λ q. derived_state key q (acc q)) (reached_by key fit memory words acc m) p frame p2 asked
