use Rattle.std.proofs.Common.{ℕ, List, take}
use Rattle.link_endpoint.specs.Refinement.{marks_between}
use Rattle.link_endpoint.specs.Plan.{Counts}
use Rattle.link_endpoint.proofs.auto.Auto.count.Given as goal

abbrev pub invariant-loop-note : goal.invariant-loop-note
invariant-loop-note l = (one other : List ℕ) → Counts l.initial.self (marks_between one other (take l.note-index l.notes)) l.self
