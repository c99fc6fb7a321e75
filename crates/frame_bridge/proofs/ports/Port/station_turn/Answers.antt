use Rattle.std.proofs.Common.{ℕ, ◌++◌, List, refl, ap, ◌∙◌}
use Rattle.line_format.specs.Rows.{line_of_row}
use Rattle.link_endpoint.specs.Engine.{delivered}
use Rattle.frame_bridge.specs.Output.{pieces_of, out_row}
use Rattle.frame_bridge.specs.Refinement.{delivered_if}
use Rattle.frame_bridge.proofs.PortTurns.{station_recorded, station_quiet}
use Rattle.frame_bridge.proofs.ports.Port.station_turn.Goals as goal

pub returns-in_ok-put : goal.returns-in_ok-put
returns-in_ok-put c = λ link forwarded refines.
    station_recorded link forwarded c.args.self.now _ (delivered c.take_turn.new.auto_end.end) refines (c.take_turn.ensures.words link refines.station refines.region)
    (c.take_turn.ensures.auto_end link refines.station refines.region)
    (c.take_turn.ensures.recorded link refines.station refines.region ∙ ap (λ b. delivered_if b (delivered c.take_turn.new.auto_end.end)) c.if-take_turn.true)
    refl (c.in_ok-put.ensures ∙ ap (λ (frame : List ℕ). c.args.self.now.outs.items ++ line_of_row pieces_of (out_row frame)) c.delivered.ensures) c.saturating_add-self.ensures refl

pub returns-else-take_turn : goal.returns-else-take_turn
returns-else-take_turn c = λ link forwarded refines.
    station_quiet link forwarded c.args.self.now _ (delivered c.take_turn.new.auto_end.end) refines (c.take_turn.ensures.words link refines.station refines.region)
    (c.take_turn.ensures.auto_end link refines.station refines.region)
    (c.take_turn.ensures.recorded link refines.station refines.region ∙ ap (λ b. delivered_if b (delivered c.take_turn.new.auto_end.end)) c.if-take_turn.false)
    refl refl refl refl
