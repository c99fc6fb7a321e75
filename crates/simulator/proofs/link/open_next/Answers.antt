use Rattle.std.proofs.Common.{refl, sym, ◌∙◌, rules}
use Rattle.simulator.proofs.Openings.{stays_open}
use Rattle.simulator.proofs.ChosenCallOpens.{waiting_begun}
use Rattle.call_grammar.proofs.ReplaysAreCalls.{shut_place}
use Rattle.simulator.proofs.link.open_next.Goals as goal

pub returns-then-busy-clause-opened : goal.returns-then-busy-clause-opened
returns-then-busy-clause-opened c = λ config peer refines. stays_open config peer c.args.link.now refines (sym (c.busy.ensures.open config peer.end refines.place refines.end) ∙ c.if-busy.true)

pub returns-in-Some-clause-opened : goal.returns-in-Some-clause-opened
returns-in-Some-clause-opened c = λ config peer refines.
    waiting_begun c.places_follow_trees.ensures config peer c.args.link.now _ c.in-Some.call c.pop_front.new.self.items c.begin.new.end refines (shut_place refines.place (sym (c.busy.ensures.open config peer.end refines.place refines.end) ∙ c.if-busy.false)) (search rules) c.requires.fits c.begin.ensures.refines refl refl refl
