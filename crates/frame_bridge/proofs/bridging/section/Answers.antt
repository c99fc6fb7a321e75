use Rattle.frame_bridge.proofs.InitialRun.{no_fault}
use Rattle.frame_bridge.proofs.bridging.section.Goals as goal

pub unreachable-requires : goal.unreachable-requires
unreachable-requires c = no_fault c.in-Err.field-0 c.in-Err.ensures.fault
