-- An end of the link between two steps, and the changes of a step. Definitions change an end only
-- by `record end { .. }`, and `fresh` is the only literal.
use Rattle.std.specs.Prelude.{ℕ, ◌≡◌, ◌≢◌, ◌+◌, ◌==◌, Bool, true, false, if◌then◌else◌, List, [], ◌∷◌, ◌++◌}
use Rattle.link_handshake.specs.declared.Phase.TheVariants.{Reset}
use Rattle.link_handshake.specs.PhaseTable.{phase_of_state}
use Rattle.link_handshake.specs.HandshakeState.{HandshakeState}
use Rattle.split_ring.specs.declared.steps.Access.{Access}
use Rattle.split_ring.specs.declared.steps.Access.TheVariants as access
use Rattle.call_grammar.specs.Steps.{Mark, Reclaim, Accept, Look, Deliver, Return, Refuse, Step}

-- An end:
-- - its handshake state;
-- - of its session, the frames accepted and delivered, by their bytes, and the numbers of frames
--   freed and returned;
-- - whether the session's last read of the other's available index found no new frame;
-- - the last value that the end wrote to each word of the region, or 0.
pub record End : Type 0 where
  pub handshake : HandshakeState
  pub accepted : List (List ℕ)
  pub freed : ℕ
  pub delivered : List (List ℕ)
  pub returned : ℕ
  pub found_none : Bool
  pub written : ℕ → ℕ

-- The initial end.
abbrev pub fresh : End
fresh = record { handshake = record { phase = Reset; mark = false }; accepted = []; freed = 0; delivered = []; returned = 0; found_none = false; written = λ word. 0 }

-- The end after a device reset: the phase is RESET without the mark. The words stay as they were
-- written, and the lists stay until the next session (profile).
abbrev pub after_reset : End → End
after_reset end = record end { handshake = record { phase = Reset; mark = false } }

-- A write of State sets the phase. A write of 2 opens a session, whose lists and counts are empty
-- (profile).
abbrev pub with_state : End → ℕ → End
with_state end state = record {
  handshake = record (end.handshake) { phase = phase_of_state state };
  accepted = if state == 2 then [] else end.accepted;
  freed = if state == 2 then 0 else end.freed;
  delivered = if state == 2 then [] else end.delivered;
  returned = if state == 2 then 0 else end.returned;
  found_none = if state == 2 then false else end.found_none;
  written = end.written;
}

-- The end after an access: a write of a word or of State changes it.
abbrev pub with_access : End → Access → End
with_access end (access.Write word value) = record end { written = λ w. if w == word then value else end.written w }
with_access end (access.State state) = with_state end state
with_access end _ = end

-- The end after a mark. A mark counts frames freed, accepted, delivered or returned, or says
-- whether a read of the available index found no frame. A refusal sets the handshake's mark; the
-- phase is set at the State step after it (profile).
abbrev pub with_mark : End → Mark → End
with_mark end (Reclaim count) = record end { freed = end.freed + count }
with_mark end (Accept frame) = record end { accepted = end.accepted ++ frame ∷ [] }
with_mark end (Look count) = record end { found_none = count == 0 }
with_mark end (Deliver frame) = record end { delivered = end.delivered ++ frame ∷ [] }
with_mark end Return = record end { returned = end.returned + 1 }
with_mark end (Refuse refused) = record end { handshake = record (end.handshake) { mark = true } }
with_mark end _ = end

abbrev pub with_marks : End → List Mark → End
with_marks end [] = end
with_marks end (mark ∷ marks) = with_marks (with_mark end mark) marks

-- The end after this step.
abbrev pub end_after : End → Step → End
end_after end step = with_marks (with_access end step.access) step.marks

-- The phase changes only at a State step, to the phase that was written.
pub record PhaseFollowsState : Type 0 where
  pub kept : (end : End) (step : Step) → ((state : ℕ) → step.access ≢ access.State state) →
      (end_after end step).handshake.phase ≡ end.handshake.phase
  pub written : (end : End) (step : Step) (state : ℕ) → step.access ≡ access.State state →
      (end_after end step).handshake.phase ≡ phase_of_state state
