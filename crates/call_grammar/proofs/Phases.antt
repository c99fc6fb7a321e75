-- The phase after a step.
use Rattle.std.proofs.Common.{◌≡◌, ◌≢◌, ℕ, List, [], ◌∷◌, refl, ◌∙◌, ap}
use Rattle.split_ring.specs.declared.steps.Access.{Access}
use Rattle.split_ring.specs.declared.steps.Access.TheVariants as access
use Rattle.call_grammar.specs.Steps.{Mark, Saw, Reclaim, Full, Accept, Look, Deliver, Return, Done, Down, Refuse, Over}
use Rattle.call_grammar.specs.Ends.{End, with_access, with_mark, with_marks, PhaseFollowsState}

note_keeps : (end : End) (mark : Mark) → (with_mark end mark).handshake.phase ≡ end.handshake.phase
note_keeps end (Saw value) = refl
note_keeps end (Reclaim count) = refl
note_keeps end Full = refl
note_keeps end (Accept frame) = refl
note_keeps end (Look count) = refl
note_keeps end (Deliver frame) = refl
note_keeps end Return = refl
note_keeps end Done = refl
note_keeps end Down = refl
note_keeps end (Refuse refused) = refl
note_keeps end Over = refl

notes_keep : (end : End) (marks : List Mark) → (with_marks end marks).handshake.phase ≡ end.handshake.phase
notes_keep end [] = refl
notes_keep end (mark ∷ marks) = notes_keep (with_mark end mark) marks ∙ note_keeps end mark

access_keeps : (end : End) (a : Access) → ((state : ℕ) → a ≢ access.State state) → (with_access end a).handshake.phase ≡ end.handshake.phase
access_keeps end (access.Read word) other = refl
access_keeps end (access.Write word written) other = refl
access_keeps end (access.State state) other = absurd (other state refl)
access_keeps end (access.Ring target vector) other = refl
access_keeps end access.Nothing other = refl

pub phases : PhaseFollowsState
phases = record {
  kept = λ end step other. notes_keep (with_access end step.access) step.marks ∙ access_keeps end step.access other;
  written = λ end step state is. notes_keep (with_access end step.access) step.marks ∙ ap (λ (a : Access). (with_access end a).handshake.phase) is;
}
