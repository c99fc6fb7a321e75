-- The handshake state of an end.
use Rattle.std.specs.Prelude.{ℕ, Bool, if◌then◌else◌}
use Rattle.link_handshake.specs.declared.Phase.{Phase}
use Rattle.link_handshake.specs.declared.Move.{Move}
use Rattle.link_handshake.specs.declared.Move.TheVariants.{Stay}
use Rattle.link_handshake.specs.PhaseTable.{phase_move}

-- A phase, and the mark of an end that refused the link.
pub record HandshakeState : Type 0 where
  pub phase : Phase
  pub mark : Bool

-- The move of an end that reads `seen` as the other's State: none if it has the mark.
abbrev pub move_of : HandshakeState → ℕ → Move
move_of end seen = if end.mark then Stay else phase_move end.phase seen
