-- The lines of one running peer.
use Rattle.std.specs.Prelude.{◌≡◌, ◌==◌, ◌&&◌, not, Bool, true, false, ℕ, List, length}
use Rattle.std.specs.List.{list_all}
use Rattle.lawful_history.specs.declared.line.Line.{Line}
use Rattle.lawful_history.specs.declared.line.Line.TheVariants.{Read, Write, State, Doorbell, Interrupt, Saw, Reclaim, Look, Full, Done, Over, Down, Accept, Deliver, Return, Refuse, Reset, Session}

-- An access, a doorbell, an interrupt found by P, a reset, or a mark of P, those of sessions
-- included. Its frame, if any, has at least one byte.
abbrev pub is_own : ℕ → Line → Bool
is_own p (Read q word value) = q == p
is_own p (Write q word value) = q == p
is_own p (State q value) = q == p
is_own p (Doorbell q target vector) = q == p
is_own p (Interrupt q vector) = q == p
is_own p (Saw q value) = q == p
is_own p (Reclaim q count) = q == p
is_own p (Look q count) = q == p
is_own p (Full q) = q == p
is_own p (Done q) = q == p
is_own p (Over q) = q == p
is_own p (Down q) = q == p
is_own p (Accept q frame) = q == p && not (length frame == 0)
is_own p (Deliver q frame) = q == p && not (length frame == 0)
is_own p (Return q) = q == p
is_own p (Refuse q refused) = q == p
is_own p (Reset q) = q == p
is_own p (Session q opened other) = q == p
is_own p _ = false

abbrev pub AreOwn : ℕ → List Line → Type 0
AreOwn p lines = list_all (is_own p) lines ≡ true
