use Rattle.std.proofs.Common.{[], refl}
use Rattle.link_endpoint.proofs.BurstsOfSteps.{polled_on, kept_polled, sent_on, kept_offered, some_values}
use Rattle.link_endpoint.proofs.endpoint.Endpoint.took_writes.Goals as goal

pub returns-in-Offering : goal.returns-in-Offering
returns-in-Offering c = λ values count. rw (← c.self.view_is) (sent_on c.self.inside c.took_writes.new.self values c.self.invariant c.in-Offering.is (c.took_writes.ensures values count))

pub invariant_of-self : goal.invariant_of-self
invariant_of-self c =
    let values = some_values c.args.count in
    kept_offered c.self.inside c.took_writes.new.self values.0 c.self.invariant c.in-Offering.is (c.took_writes.ensures values.0 values.1)

pub returns-in-Polling : goal.returns-in-Polling
returns-in-Polling c = λ values count.
    rw (← c.self.view_is) (polled_on c.self.inside c.took_writes-in-Polling.new.self values [] c.self.invariant c.in-Polling.is (c.took_writes-in-Polling.ensures.steps values count) refl)

pub invariant_of-self-in-Polling : goal.invariant_of-self-in-Polling
invariant_of-self-in-Polling c =
    let values = some_values c.args.count in
    kept_polled c.self.inside c.took_writes-in-Polling.new.self values.0 [] c.self.invariant c.in-Polling.is (c.took_writes-in-Polling.ensures.steps values.0 values.1) refl c.took_writes-in-Polling.ensures.kept
