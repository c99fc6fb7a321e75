use Rattle.std.proofs.Common.{sym, ◌∙◌}
use Rattle.lawful_history.specs.Peers.{opened}
use Rattle.lawful_history.specs.Sides.{config_of}
use Rattle.simulator.proofs.HonestTurns.{idles}
use Rattle.std.proofs.lemmas.Result.{on_ok_weaker}
use Rattle.simulator.proofs.link.take_turn.Goals as goal

pub carry_on-requires-clause-refines : goal.carry_on-requires-clause-refines
carry_on-requires-clause-refines c = (c.requires.refines.0, opened c.requires.refines.0 c.requires.refines.1, c.open_next.ensures.opened c.requires.refines.0 c.requires.refines.1 c.requires.refines.2)

pub returns-then-busy-clause-turn : goal.returns-then-busy-clause-turn
returns-then-busy-clause-turn c = λ world output past losses peer after refines.
    c.carry_on.ensures.steps world output past losses (opened (config_of world c.args.me) peer) after (c.open_next.ensures.opened (config_of world c.args.me) peer refines)

pub returns-else-busy-clause-turn : goal.returns-else-busy-clause-turn
returns-else-busy-clause-turn c = λ world output past losses peer after refines.
    let stood = c.open_next.ensures.opened (config_of world c.args.me) peer refines in
    on_ok_weaker c.record_mark.result (λ recorded. idles world output past losses c.args.me peer _ c.record_mark.new.self stood
    (sym (c.busy.ensures.open (config_of world c.args.me) (opened (config_of world c.args.me) peer).end stood.place stood.end) ∙ c.if-busy.false) recorded)
    (c.record_mark.ensures.after world output past losses after)
