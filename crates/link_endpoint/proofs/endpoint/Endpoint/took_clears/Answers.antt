use Rattle.std.proofs.Common.{◌≡◌, ◌+◌, ℕ, List, [], length, ap, sym, ◌∙◌, arith}
use Rattle.call_grammar.specs.Bursts.{StepsThrough}
use Rattle.link_endpoint.specs.declared.place.Place.TheVariants.{Clearing}
use Rattle.link_endpoint.specs.Engine.{Engine}
use Rattle.link_endpoint.specs.Representation.{engine_of}
use Rattle.link_endpoint.specs.Bursts.{IsTaken}
use Rattle.link_endpoint.proofs.BurstsOfSteps.{clears_some, kept_placed, some_values}
use Rattle.link_endpoint.proofs.endpoint.Endpoint.took_clears.Goals as goal

steps : (c : goal.After-self-1) (values : List ℕ) → length values ≡ c.args.count → StepsThrough IsTaken (engine_of c.self.inside) values [] (engine_of (record (c.self.inside) { place = c.clearing-self-inside.result }))
steps c values count =
    let i = c.self.inside in
    let here : i.place ≡ Clearing c.args.at c.args.then = ap (λ (e : Engine). e.place) c.self.view_is ∙ c.requires.place in
    let room : c.args.self.now.config.own + c.args.self.now.config.words ≡ i.own + i.words = ap (λ (e : Engine). e.config.own + e.config.words) (sym c.self.view_is) in
    clears_some (engine_of i) c.args.at c.args.then c.args.count c.clearing-self-inside.result values here c.requires.some (omega (arith, c.requires.within, room)) count c.clearing-self-inside.ensures.word c.clearing-self-inside.ensures.after

pub returns : goal.returns
returns c = λ values count. rw (← c.self.view_is) (steps c values count)

pub invariant_of-self : goal.invariant_of-self
invariant_of-self c =
    let values = some_values c.args.count in
    kept_placed c.self.inside c.clearing-self-inside.result c.args.at c.args.then values.0 [] c.self.invariant (ap (λ (e : Engine). e.place) c.self.view_is ∙ c.requires.place) (steps c values.0 values.1)
