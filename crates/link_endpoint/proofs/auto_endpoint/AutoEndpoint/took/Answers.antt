use Rattle.std.proofs.Common.{List, subst}
use Rattle.split_ring.specs.declared.steps.Note.{Note}
use Rattle.link_endpoint.specs.Refinement.{marks_between}
use Rattle.link_endpoint.specs.Plan.{Counts}
use Rattle.link_endpoint.proofs.auto_endpoint.AutoEndpoint.took.Goals as goal

pub returns-clause-counts : goal.returns-clause-counts
returns-clause-counts c = λ one other.
    subst (λ (ns : List Note). Counts c.args.self.now.auto (marks_between one other ns) c.count.new.self) c.as_slice.ensures.value (c.count.ensures one other)
