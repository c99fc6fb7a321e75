use Rattle.std.proofs.Common.{refl}
use Rattle.frame_bridge.proofs.PortTurns.{own_turned}
use Rattle.frame_bridge.proofs.ports.Port.own_turn.Goals as goal

pub returns-clause-refines : goal.returns-clause-refines
returns-clause-refines c = λ link forwarded refines.
    own_turned link forwarded c.args.self.now _ refines (c.take_turn.ensures.words link refines.own refines.region) (c.take_turn.ensures.auto_end link refines.own refines.region)
    refl refl refl refl
