use Rattle.std.proofs.Common.{◌≡◌, ◌++◌}
use Rattle.peer_runner.specs.Turns.{interrupt_lines}
use Rattle.peer_runner.proofs.notes.record_interrupts.Given as goal

-- The lines record the bits below `bit` that the look found.
abbrev pub invariant-loop-bit : goal.invariant-loop-bit
invariant-loop-bit l = l.lines ≡ l.initial.lines ++ interrupt_lines l.bit l.me l.found
