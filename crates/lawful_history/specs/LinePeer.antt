-- The peer that a line of a history is about.
use Rattle.std.specs.Prelude.{ℕ}
use Rattle.lawful_history.specs.declared.line.Line.{Line}
use Rattle.lawful_history.specs.declared.line.Line.TheVariants as line

-- The peer of a line: the one that makes the access, the mark or the turn, or the target of the
-- interrupt.
abbrev pub peer_of : Line → ℕ
peer_of (line.Read peer word value) = peer
peer_of (line.Write peer word value) = peer
peer_of (line.Denied peer word) = peer
peer_of (line.State peer value) = peer
peer_of (line.Doorbell peer target vector) = peer
peer_of (line.Interrupt peer vector) = peer
peer_of (line.Lost peer vector) = peer
peer_of (line.Reset peer) = peer
peer_of (line.Idle peer) = peer
peer_of (line.ConfigRead peer offset width value) = peer
peer_of (line.ConfigWrite peer offset width value) = peer
peer_of (line.RegisterRead peer offset value) = peer
peer_of (line.RegisterWrite peer offset value) = peer
peer_of (line.MsixRead peer offset value) = peer
peer_of (line.MsixWrite peer offset value) = peer
peer_of (line.Saw peer value) = peer
peer_of (line.Reclaim peer count) = peer
peer_of (line.Look peer count) = peer
peer_of (line.Full peer) = peer
peer_of (line.Done peer) = peer
peer_of (line.Over peer) = peer
peer_of (line.Down peer) = peer
peer_of (line.Accept peer frame) = peer
peer_of (line.Deliver peer frame) = peer
peer_of (line.Return peer) = peer
peer_of (line.Refuse peer refused) = peer
peer_of (line.Session peer opened other) = peer
