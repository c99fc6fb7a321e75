-- The steps that make the phase of an end READY.
use Rattle.std.proofs.Common.{ℕ, zero, suc, ◌≡◌, ◌≢◌, refl, sym, ap, ◌∙◌}
use Rattle.link_handshake.specs.declared.Phase.TheVariants.{Ready}
use Rattle.link_handshake.specs.HandshakeState.{HandshakeState}
use Rattle.link_handshake.specs.PhaseTable.{phase_of_state}
use Rattle.split_ring.specs.declared.steps.Access.{Access}
use Rattle.split_ring.specs.declared.steps.Access.TheVariants as access
use Rattle.call_grammar.specs.Steps.{Step}
use Rattle.call_grammar.specs.Ends.{End, end_after, PhaseFollowsState}
use Rattle.call_grammar.specs.Places.{access_at, step_at}
use Rattle.ivshm_c.specs.Sessions.{SessionsFollowState}

ready_is_two : (state : ℕ) → phase_of_state state ≡ Ready → access.State state ≡ access.State 2
ready_is_two zero is = absurd cc
ready_is_two (suc zero) is = absurd cc
ready_is_two (suc (suc zero)) is = refl
ready_is_two (suc (suc (suc more))) is = absurd cc

module _ (follows : PhaseFollowsState) where
  -- A step that makes the phase READY writes State 2.
  becomes_ready : (end : End) (step : Step) (a : Access) → step.access ≡ a → end.handshake.phase ≢ Ready → (end_after end step).handshake.phase ≡ Ready → a ≡ access.State 2
  becomes_ready end step (access.Read word) is not_yet ready =
      absurd (not_yet (sym (follows.kept end step (λ state e. let wrong : access.Read word ≡ access.State state = sym is ∙ e in absurd cc)) ∙ ready))
  becomes_ready end step (access.Write word written) is not_yet ready =
      absurd (not_yet (sym (follows.kept end step (λ state e. let wrong : access.Write word written ≡ access.State state = sym is ∙ e in absurd cc)) ∙ ready))
  becomes_ready end step (access.State state) is not_yet ready = ready_is_two state (sym (follows.written end step state is) ∙ ready)
  becomes_ready end step (access.Ring target vector) is not_yet ready =
      absurd (not_yet (sym (follows.kept end step (λ state e. let wrong : access.Ring target vector ≡ access.State state = sym is ∙ e in absurd cc)) ∙ ready))
  becomes_ready end step access.Nothing is not_yet ready =
      absurd (not_yet (sym (follows.kept end step (λ state e. let wrong : access.Nothing ≡ access.State state = sym is ∙ e in absurd cc)) ∙ ready))

  pub sessions_follow_state : SessionsFollowState
  sessions_follow_state = record {
    written = λ old new value notes config end place takes refines is.
        let after = takes.refines config end place refines in
        sym (ap (λ (h : HandshakeState). h.phase) after.standing) ∙ follows.written end (step_at config place value) 2 is;
    counted = λ old new value notes config end place takes refines not_yet ready.
        let after = takes.refines config end place refines in
        let before : end.handshake.phase ≡ old.phase = ap (λ (h : HandshakeState). h.phase) refines.standing in
        becomes_ready end (step_at config place value) (access_at config place) refl (λ e. not_yet (sym before ∙ e)) (ap (λ (h : HandshakeState). h.phase) after.standing ∙ ready);
  }
