use Rattle.std.proofs.Common.{◌≡◌, ◌+◌, ◌-◌, ℕ, length, replicate, ap, subst, sym, arith}
use Rattle.std.proofs.lemmas.Grind.{common_steps}
use Rattle.call_grammar.specs.Bursts.{WritesBurst}
use Rattle.link_endpoint.specs.declared.place.Place.TheVariants.{Polling}
use Rattle.link_endpoint.specs.Engine.{writes_ahead, writes_ahead_at}
use Rattle.link_endpoint.specs.Representation.{engine_of}
use Rattle.link_endpoint.specs.Refinement.{RefinesAt}
use Rattle.link_endpoint.proofs.EndByPlace.{at_place}
use Rattle.link_endpoint.proofs.BurstsOfSteps.{zeros_on}
use Rattle.link_endpoint.proofs.endpoint.Endpoint.words.Goals as goal

pub returns-in-Clearing-clause-writes : goal.returns-in-Clearing-clause-writes
returns-in-Clearing-clause-writes c = λ config end place word value refines first.
    let inside = subst (λ e. RefinesAt e config end place) (sym c.self.view_is) refines in
    let none : ℕ = 0 in
    let zeros : c.fill.new.self ≡ replicate (length c.args.into.now) none = grind (arith, common_steps) in
    let ahead : writes_ahead c.args.self.now ≡ writes_ahead (engine_of c.self.inside) = ap writes_ahead (sym c.self.view_is) in
    let left : writes_ahead (engine_of c.self.inside) ≡ c.self.inside.own + c.self.inside.words - c.in-Clearing.at = ap (λ p. writes_ahead_at p (engine_of c.self.inside).config c.self.inside.tx c.self.inside.rx) c.in-Clearing.is in
    subst (λ b. WritesBurst config place word b) (sym zeros) (zeros_on (engine_of c.self.inside) config end place c.in-Clearing.at c.in-Clearing.then word value (length c.args.into.now) c.in-Clearing.is (omega (arith, ahead, left, c.requires.within)) inside first)

pub returns-in-Polling-clause-writes : goal.returns-in-Polling-clause-writes
returns-in-Polling-clause-writes c = λ config end place word value refines first.
    let inside = subst (λ e. RefinesAt e config end place) (sym c.self.view_is) refines in
    let at = at_place Polling (engine_of c.self.inside) config end place c.in-Polling.is inside in
    c.words-in-Polling.ensures.writes config end place word value at.2 first
