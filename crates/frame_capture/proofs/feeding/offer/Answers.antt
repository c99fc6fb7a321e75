use Rattle.std.proofs.Common.{arith, rules}
use Rattle.frame_capture.proofs.Offered.{is_frame}
use Rattle.frame_capture.proofs.feeding.offer.Goals as goal

pub returns-clause-frame : goal.returns-clause-frame
returns-clause-frame c = is_frame c.args.packet.now (λ i. rw (← c.bytes-bytes.ensures) (search (rules, arith))) c.requires
