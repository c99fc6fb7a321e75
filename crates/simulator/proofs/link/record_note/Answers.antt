use Rattle.std.proofs.Common.{◌∷◌, subst}
use Rattle.std.specs.Prelude.{OnOk}
use Rattle.lawful_history.specs.declared.line.Line.{Line}
use Rattle.simulator.specs.WorldState.{WorldStateAfter}
use Rattle.simulator.proofs.HonestTurns.{mark_remark}
use Rattle.simulator.proofs.link.record_note.Goals as goal

pub record_mark-requires : goal.record_mark-requires
record_mark-requires c = rw c.in_ok-line.ensures (mark_remark c.args.me _ c.requires)

pub returns-clause-after : goal.returns-clause-after
returns-clause-after c = λ world output past losses after.
    subst (λ (l : Line). OnOk c.record_mark.result (WorldStateAfter world output (l ∷ past) losses c.record_mark.new.self)) c.in_ok-line.ensures (c.record_mark.ensures.after world output past losses after)
