use Rattle.std.proofs.Common.{◌+◌, [], refl, sym, ap, ◌∙◌, subst, arith}
use Rattle.record_text.specs.OwnLines.{AreOwn}
use Rattle.step_lines.specs.declared.storm.Storm.{Storm}
use Rattle.peer_runner.proofs.TurnsAndLines.{lent}
use Rattle.peer_runner.proofs.StormTurns.{LeftAt, LeftIn, left_first, left_next, storm_first, storm_same, storm_seated, storm_draws, storm_hostile, storm_rings, storm_few, storm_steps, storm_restarts, storm_err, storm_ok}
use Rattle.peer_runner.proofs.driving.drive_storm.Goals as goal
use Rattle.peer_runner.proofs.driving.drive_storm.Goals.{then-k-gt0+in_ok-storm_restart, else-k-gt0}

pub loop-k-init : goal.loop-k-init
loop-k-init g c = let id = c.args.pass.now.table_id in let key = c.args.words.now.shared.key in let routes = c.args.routes.now in let first = c.args.storm in let spans = c.args.spans.now in
    storm_first id key routes first spans c.args.pass.now (lent c.args.pass.now first.peer [] c.requires.alone.0 c.requires.alone.1) c.new-lines.result c.new-lines.ensures

pub overflow_add-turns : goal.overflow_add-turns
overflow_add-turns g c = let id = c.args.pass.now.table_id in let key = c.args.words.now.shared.key in let routes = c.args.routes.now in let first = c.args.storm in let spans = c.args.spans.now in let k = c.loop-k.k in
    let few = c.requires.few in let most = storm_few id key routes first spans (LeftAt spans k) c.loop-k.pass c.loop-k.storm c.loop-k.ringing c.loop-k.turns c.loop-k.lines c.loop-k.invariant in omega arith

pub storm_restart-requires-clause-of : goal.storm_restart-requires-clause-of
storm_restart-requires-clause-of g c = let id = c.args.pass.now.table_id in let key = c.args.words.now.shared.key in let routes = c.args.routes.now in let first = c.args.storm in let spans = c.args.spans.now in let k = c.loop-k.k in
    storm_seated id key routes first spans (LeftAt spans k) c.args.words.now.shared.table_id c.args.pass.now c.loop-k.pass c.loop-k.storm c.loop-k.ringing c.loop-k.turns c.loop-k.lines c.requires.of refl c.requires.alone.0 c.requires.alone.1 c.loop-k.invariant

pub storm_restart-requires-clause-storm : goal.storm_restart-requires-clause-storm
storm_restart-requires-clause-storm g c = let id = c.args.pass.now.table_id in let key = c.args.words.now.shared.key in let routes = c.args.routes.now in let first = c.args.storm in let spans = c.args.spans.now in let k = c.loop-k.k in
    storm_draws id key routes first spans (LeftAt spans k) c.loop-k.pass c.loop-k.storm c.loop-k.ringing c.loop-k.turns c.loop-k.lines c.requires.storm c.loop-k.invariant

pub returns-in_err-storm_restart : goal.returns-in_err-storm_restart
returns-in_err-storm_restart g c = let id = c.args.pass.now.table_id in let key = c.args.words.now.shared.key in let routes = c.args.routes.now in let first = c.args.storm in let spans = c.args.spans.now in let k = c.loop-k.k in
    storm_err id key routes first spans (LeftIn spans k 0) c.storm_restart.new.pass c.storm_restart.new.storm c.storm_restart.new.ringing (c.loop-k.turns + 1) _ c.from_residual.result c.requires.hostile c.from_residual.ensures.0
    (storm_restarts id key routes first spans k c.loop-k.pass c.storm_restart.new.pass c.loop-k.storm c.storm_restart.new.storm c.loop-k.ringing c.storm_restart.new.ringing c.loop-k.turns c.loop-k.lines c.loop-k.invariant c.if-k-gt0.true c.loop-k-test.true
    c.storm_restart.ensures.pass c.storm_restart.ensures.storm c.storm_restart.ensures.ringing)

pub loop-taken-init : goal.loop-taken-init
loop-taken-init g c = let id = c.args.pass.now.table_id in let key = c.args.words.now.shared.key in let routes = c.args.routes.now in let first = c.args.storm in let spans = c.args.spans.now in let k = c.loop-k.k in
    elim c.if-k-gt0.branch [
      | then-k-gt0+in_ok-storm_restart w ↦ storm_same id key routes first spans (LeftIn spans k 0) (LeftIn spans k 0) w.storm_restart.new.pass c.if-k-gt0.pass w.storm_restart.new.storm c.if-k-gt0.storm w.storm_restart.new.ringing c.if-k-gt0.ringing (c.loop-k.turns + 1) c.if-k-gt0.turns _ c.if-k-gt0.lines
          (λ left is. is) w.pass-is w.storm-is w.ringing-is w.turns-is (w.lines-is ∙ w.in_ok-storm_restart.ensures.lines)
          (storm_restarts id key routes first spans k c.loop-k.pass w.storm_restart.new.pass c.loop-k.storm w.storm_restart.new.storm c.loop-k.ringing w.storm_restart.new.ringing c.loop-k.turns c.loop-k.lines c.loop-k.invariant w.if-k-gt0.true c.loop-k-test.true
          w.storm_restart.ensures.pass w.storm_restart.ensures.storm w.storm_restart.ensures.ringing)
      | else-k-gt0 w ↦ storm_same id key routes first spans (LeftAt spans k) (LeftIn spans k 0) c.loop-k.pass c.if-k-gt0.pass c.loop-k.storm c.if-k-gt0.storm c.loop-k.ringing c.if-k-gt0.ringing c.loop-k.turns c.if-k-gt0.turns c.loop-k.lines c.if-k-gt0.lines
          (λ left is. left_first spans k left is (let none = w.if-k-gt0.false in omega arith) c.loop-k-test.true) w.pass-is w.storm-is w.ringing-is w.turns-is w.lines-is c.loop-k.invariant
    ]

pub overflow_add-turns-in-loop-taken : goal.overflow_add-turns-in-loop-taken
overflow_add-turns-in-loop-taken g c = let id = c.args.pass.now.table_id in let key = c.args.words.now.shared.key in let routes = c.args.routes.now in let first = c.args.storm in let spans = c.args.spans.now in let k = c.loop-k.k in
    let few = c.requires.few in let most = storm_few id key routes first spans (LeftIn spans k c.loop-taken._taken) c.loop-taken.pass c.loop-taken.storm c.loop-taken.ringing c.loop-taken.turns c.loop-taken.lines c.loop-taken.invariant in omega arith

pub take_step-requires-clause-of : goal.take_step-requires-clause-of
take_step-requires-clause-of g c = let id = c.args.pass.now.table_id in let key = c.args.words.now.shared.key in let routes = c.args.routes.now in let first = c.args.storm in let spans = c.args.spans.now in let k = c.loop-k.k in
    storm_seated id key routes first spans (LeftIn spans k c.loop-taken._taken) c.args.words.now.shared.table_id c.args.pass.now c.loop-taken.pass c.loop-taken.storm c.loop-taken.ringing c.loop-taken.turns c.loop-taken.lines c.requires.of refl c.requires.alone.0 c.requires.alone.1 c.loop-taken.invariant

pub take_step-requires-clause-hostile : goal.take_step-requires-clause-hostile
take_step-requires-clause-hostile g c = let id = c.args.pass.now.table_id in let key = c.args.words.now.shared.key in let routes = c.args.routes.now in let first = c.args.storm in let spans = c.args.spans.now in let k = c.loop-k.k in
    storm_hostile id key routes first spans (LeftIn spans k c.loop-taken._taken) c.loop-taken.pass c.loop-taken.storm c.loop-taken.ringing c.loop-taken.turns c.loop-taken.lines c.requires.hostile c.loop-taken.invariant

pub take_step-requires-clause-storm : goal.take_step-requires-clause-storm
take_step-requires-clause-storm g c = let id = c.args.pass.now.table_id in let key = c.args.words.now.shared.key in let routes = c.args.routes.now in let first = c.args.storm in let spans = c.args.spans.now in let k = c.loop-k.k in
    storm_draws id key routes first spans (LeftIn spans k c.loop-taken._taken) c.loop-taken.pass c.loop-taken.storm c.loop-taken.ringing c.loop-taken.turns c.loop-taken.lines c.requires.storm c.loop-taken.invariant

pub take_step-requires-clause-rings : goal.take_step-requires-clause-rings
take_step-requires-clause-rings g c = let id = c.args.pass.now.table_id in let key = c.args.words.now.shared.key in let routes = c.args.routes.now in let first = c.args.storm in let spans = c.args.spans.now in let k = c.loop-k.k in
    storm_rings id key routes first spans (LeftIn spans k c.loop-taken._taken) c.loop-taken.pass c.loop-taken.storm c.loop-taken.ringing c.loop-taken.turns c.loop-taken.lines c.loop-taken.invariant

pub returns-in_err-take_step : goal.returns-in_err-take_step
returns-in_err-take_step g c = let id = c.args.pass.now.table_id in let key = c.args.words.now.shared.key in let routes = c.args.routes.now in let first = c.args.storm in let spans = c.args.spans.now in let k = c.loop-k.k in
    let took = c.in_err-take_step.ensures in
    storm_err id key routes first spans (LeftIn spans k (c.loop-taken._taken + 1)) c.take_step.new.pass c.take_step.new.storm c.take_step.new.ringing (c.loop-taken.turns + 1) _ c.from_residual-in_err-take_step.result c.requires.hostile c.from_residual-in_err-take_step.ensures.0
    (storm_steps id key routes first spans k c.loop-taken._taken c.loop-taken.pass c.take_step.new.pass c.loop-taken.storm c.take_step.new.storm c.loop-taken.ringing c.take_step.new.ringing c.loop-taken.turns c.loop-taken.lines took.0 c.loop-taken.invariant c.loop-taken-test.true
    took.1 took.2 took.3 took.4 took.5 took.6)

pub loop-taken-preserved : goal.loop-taken-preserved
loop-taken-preserved g c = let id = c.args.pass.now.table_id in let key = c.args.words.now.shared.key in let routes = c.args.routes.now in let first = c.args.storm in let spans = c.args.spans.now in let k = c.loop-k.k in
    let took = c.in_ok-take_step.ensures in
    storm_same id key routes first spans (LeftIn spans k (c.loop-taken._taken + 1)) (LeftIn spans k (c.loop-taken._taken + 1)) c.take_step.new.pass c.take_step.new.pass c.take_step.new.storm c.take_step.new.storm c.take_step.new.ringing c.take_step.new.ringing (c.loop-taken.turns + 1) (c.loop-taken.turns + 1) _ c.take_step.new.lines
    (λ left is. is) refl refl refl refl took.7 (storm_steps id key routes first spans k c.loop-taken._taken c.loop-taken.pass c.take_step.new.pass c.loop-taken.storm c.take_step.new.storm c.loop-taken.ringing c.take_step.new.ringing c.loop-taken.turns c.loop-taken.lines took.0 c.loop-taken.invariant c.loop-taken-test.true
    took.1 took.2 took.3 took.4 took.5 took.6)

pub loop-k-preserved : goal.loop-k-preserved
loop-k-preserved g c = let id = c.args.pass.now.table_id in let key = c.args.words.now.shared.key in let routes = c.args.routes.now in let first = c.args.storm in let spans = c.args.spans.now in let k = c.loop-k.k in
    storm_same id key routes first spans (LeftIn spans k c.loop-taken._taken) (LeftAt spans (k + 1)) c.loop-taken.pass c.loop-taken.pass c.loop-taken.storm c.loop-taken.storm c.loop-taken.ringing c.loop-taken.ringing c.loop-taken.turns c.loop-taken.turns c.loop-taken.lines c.loop-taken.lines
    (λ left is. left_next spans k c.loop-taken._taken left is c.loop-taken-test.false) refl refl refl refl refl c.loop-taken.invariant

pub returns : goal.returns
returns g c = let id = c.args.pass.now.table_id in let key = c.args.words.now.shared.key in let routes = c.args.routes.now in let first = c.args.storm in let spans = c.args.spans.now in let k = c.loop-k.k in
    storm_ok id key routes first spans k c.loop-k.pass c.loop-k.storm c.loop-k.ringing c.loop-k.turns c.loop-k.lines _ c.requires.hostile c.loop-k-test.false c.loop-k.invariant refl refl refl refl

pub invariant_of-result : goal.invariant_of-result
invariant_of-result g c = let id = c.args.pass.now.table_id in let key = c.args.words.now.shared.key in let routes = c.args.routes.now in let first = c.args.storm in let spans = c.args.spans.now in let k = c.loop-k.k in
    let at = c.loop-k.invariant in record { own = subst (λ q. AreOwn q c.loop-k.lines) (sym (ap (λ (s : Storm). s.peer) at.storm_is)) (subst (AreOwn first.peer) (sym at.recorded) at.blown.own) }
