use Rattle.std.proofs.Common.{refl}
use Rattle.simulator.proofs.ChosenCallOpens.{choice_opened, may_open}
use Rattle.simulator.proofs.link.choose_next.Goals as goal

pub open-requires-clause-fits : goal.open-requires-clause-fits
open-requires-clause-fits c =
    let config = c.requires.refines.0 in
    let peer = c.requires.refines.1 in
    let refines = c.requires.refines.2 in
    may_open config peer c.args.link.now c.in-Some.auto c.choose-choice.new.self c.phase-phase.result c.choose-choice.result c.choose-choice.new.self.frames
    (record { refines = refines; shut = c.requires.shut config peer refines; has = c.in-Some.is; phase_is = c.phase-phase.ensures.end config peer.end refines.place refines.end; chooses = c.choose-choice.ensures.choice; round = c.choose-choice.ensures.round })
    refl c.requires.fits

pub returns-clause-refines : goal.returns-clause-refines
returns-clause-refines c = λ config peer refines.
    choice_opened c.places_follow_trees.ensures config peer c.args.link.now _ c.in-Some.auto c.choose-choice.new.self c.phase-phase.result c.choose-choice.result c.choose-choice.new.self.frames c.open.new.end
    (record { refines = refines; shut = c.requires.shut config peer refines; has = c.in-Some.is; phase_is = c.phase-phase.ensures.end config peer.end refines.place refines.end; chooses = c.choose-choice.ensures.choice; round = c.choose-choice.ensures.round })
    refl c.requires.fits c.open.ensures.refines refl refl refl
