use Rattle.std.proofs.Common.{◌≡◌}
use Rattle.ivshm_explain.specs.Places.{after_packets}
use Rattle.ivshm_explain.proofs.places.after_packets.Given as goal

-- The bytes left in the end, from the packets passed.
abbrev pub invariant-loop-more : goal.invariant-loop-more
invariant-loop-more l = after_packets l.file l.count l.left ≡ after_packets l.file l.more l.rest

abbrev pub decreases-loop-more : goal.decreases-loop-more
decreases-loop-more l = l.more
