use Rattle.frame_bridge.proofs.Turns.{opens_as, fits_chosen}
use Rattle.frame_bridge.proofs.auto_ends.open_next.Goals as goal

pub open-requires-clause-fits : goal.open-requires-clause-fits
open-requires-clause-fits c =
    fits_chosen c.args.me c.requires.refines.0 c.args.auto_end.now c.choose-choice.new.self c.choose-choice.result c.requires.refines.1 c.requires.refines.2 c.choose-choice.ensures.chosen c.choose-choice.ensures.round

pub returns : goal.returns
returns c = λ auto_end refines.
    opens_as c.args.me auto_end c.args.auto_end.now c.choose-choice.new.self c.open.new.self c.choose-choice.result refines c.choose-choice.ensures.chosen c.choose-choice.ensures.round c.open.ensures.refines c.open.ensures.auto
