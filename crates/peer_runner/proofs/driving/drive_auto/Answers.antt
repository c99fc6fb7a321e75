use Rattle.std.proofs.Common.{◌≡◌, ◌∷◌, suc, ◌+◌, false, ◌∙◌, refl, sym, subst, arith}
use Rattle.std.specs.Prelude.{drop, slice_index}
use Rattle.record_text.specs.OwnLines.{AreOwn}
use Rattle.peer_runner.specs.Turns.{all_turns}
use Rattle.peer_runner.specs.Runners.{initial_runner, has_finished}
use Rattle.peer_runner.proofs.AutoChoices.{chose as chose_at}
use Rattle.peer_runner.proofs.TurnsAndLines.{recorded_none, counted_of, far_of, ends_where}
use Rattle.peer_runner.proofs.PeerOnTrajectory.{trajectory_first, seated, most_turns, due_over, due_next, IsAt, same_at, enters_first, enters_later, ends_spent, ends_finished, drove_err, drove_ok}
use Rattle.peer_runner.proofs.driving.drive_auto.Goals as goal
use Rattle.peer_runner.proofs.driving.drive_auto.Goals.{then-k-gt0+in_ok-auto_restart+else-not-branch, else-k-gt0, else-loop-k-test, then-loop-k-test+then-k-gt0+in_ok-auto_restart+then-not-branch}

pub loop-k-init : goal.loop-k-init
loop-k-init g c = let p = c.args.peer in record {
  r = initial_runner p.driven.auto.frames p.driven.auto.expected c.args.spans.now;
  on = trajectory_first _ _ c.args.context.now.me c.args.context.now.routes.now c.args.spans.now c.args.pass.now p c.requires.of c.requires.alone.0 c.requires.alone.1 c.requires.drives c.requires.fresh;
  holds = refl;
  turns_are = refl;
  recorded = c.new-lines.ensures ∙ sym (recorded_none c.args.context.now.me);
}

pub overflow_add-turn : goal.overflow_add-turn
overflow_add-turn g c = let at = c.loop-k.invariant in let few = c.requires.few in let is = at.turns_are in
    let most = most_turns c.args.spans.now at.r (counted_of _ c.args.context.now.me c.args.context.now.routes.now c.args.peer.driven.auto c.args.spans.now at.r at.on.comes) in omega arith

pub auto_restart-requires-clause-of : goal.auto_restart-requires-clause-of
auto_restart-requires-clause-of g c = let at = c.loop-k.invariant in seated _ _ c.args.context.now.me c.args.context.now.routes.now c.args.peer.driven.auto c.args.spans.now at.r c.loop-k.pass c.loop-k.peer at.on

pub returns-in_err-auto_restart : goal.returns-in_err-auto_restart
returns-in_err-auto_restart g c = let at = c.loop-k.invariant in let spans = c.args.spans.now in
    let took = c.in_err-auto_restart.ensures.trajectory c.args.peer.driven.auto spans at.r at.on (due_over spans c.loop-k.k at.r at.holds c.if-k-gt0.true c.loop-k-test.true) at.recorded in
    drove_err _ _ c.args.context.now.me c.args.context.now.routes.now c.args.peer.driven.auto spans c.places_follow_trees.ensures c.args.pass.now c.auto_restart.new.pass c.auto_restart.new.peer took.0 c.from_residual.result c.requires.of c.from_residual.ensures.0 took.1

pub auto_span-requires-clause-trajectory : goal.auto_span-requires-clause-trajectory
auto_span-requires-clause-trajectory g c = let id = c.args.context.now.words.now.shared.table_id in let key = c.args.context.now.words.now.shared.key in let me = c.args.context.now.me in let routes = c.args.context.now.routes.now in let plan = c.args.peer.driven.auto in let spans = c.args.spans.now in let k = c.loop-k.k in let before = c.loop-k.invariant in
    let at : IsAt id key me routes plan spans (λ r. r.spans ≡ slice_index spans k ∷ drop (suc k) spans) c.if-k-gt0.pass c.if-k-gt0.peer c.if-k-gt0.turns c.if-k-gt0.lines = elim c.if-k-gt0.branch [
      | then-k-gt0+in_ok-auto_restart+else-not-branch w ↦ same_at id key me routes plan spans _ w.auto_restart.new.pass c.if-k-gt0.pass w.auto_restart.new.peer c.if-k-gt0.peer (c.loop-k.turns + 1) c.if-k-gt0.turns w.auto_restart.new.lines c.if-k-gt0.lines
          w.pass-is w.peer-is w.turns-is w.lines-is
          (enters_later id key me routes plan spans k c.loop-k.pass w.auto_restart.new.pass c.loop-k.peer w.auto_restart.new.peer c.loop-k.turns c.loop-k.lines w.auto_restart.new.lines w.in_ok-auto_restart.field-0 before w.if-k-gt0.true c.loop-k-test.true w.if-not-branch.false
          (w.in_ok-auto_restart.ensures.trajectory plan spans before.r before.on (due_over spans k before.r before.holds w.if-k-gt0.true c.loop-k-test.true) before.recorded))
      | else-k-gt0 w ↦ same_at id key me routes plan spans _ c.loop-k.pass c.if-k-gt0.pass c.loop-k.peer c.if-k-gt0.peer c.loop-k.turns c.if-k-gt0.turns c.loop-k.lines c.if-k-gt0.lines w.pass-is w.peer-is w.turns-is w.lines-is
          (enters_first id key me routes plan spans k c.loop-k.pass c.loop-k.peer c.loop-k.turns c.loop-k.lines (let none = w.if-k-gt0.false in omega arith) c.loop-k-test.true before)
    ] in
    (plan, spans, at.r, drop (suc k) spans, c.requires.few, at.on, at.holds, at.turns_are, at.recorded)

pub returns-in_err-auto_span : goal.returns-in_err-auto_span
returns-in_err-auto_span g c = let id = c.args.context.now.words.now.shared.table_id in let key = c.args.context.now.words.now.shared.key in let me = c.args.context.now.me in let routes = c.args.context.now.routes.now in let plan = c.args.peer.driven.auto in let spans = c.args.spans.now in let k = c.loop-k.k in let before = c.loop-k.invariant in
    let at : IsAt id key me routes plan spans (λ r. r.spans ≡ slice_index spans k ∷ drop (suc k) spans) c.if-k-gt0.pass c.if-k-gt0.peer c.if-k-gt0.turns c.if-k-gt0.lines = elim c.if-k-gt0.branch [
      | then-k-gt0+in_ok-auto_restart+else-not-branch w ↦ same_at id key me routes plan spans _ w.auto_restart.new.pass c.if-k-gt0.pass w.auto_restart.new.peer c.if-k-gt0.peer (c.loop-k.turns + 1) c.if-k-gt0.turns w.auto_restart.new.lines c.if-k-gt0.lines
          w.pass-is w.peer-is w.turns-is w.lines-is
          (enters_later id key me routes plan spans k c.loop-k.pass w.auto_restart.new.pass c.loop-k.peer w.auto_restart.new.peer c.loop-k.turns c.loop-k.lines w.auto_restart.new.lines w.in_ok-auto_restart.field-0 before w.if-k-gt0.true c.loop-k-test.true w.if-not-branch.false
          (w.in_ok-auto_restart.ensures.trajectory plan spans before.r before.on (due_over spans k before.r before.holds w.if-k-gt0.true c.loop-k-test.true) before.recorded))
      | else-k-gt0 w ↦ same_at id key me routes plan spans _ c.loop-k.pass c.if-k-gt0.pass c.loop-k.peer c.if-k-gt0.peer c.loop-k.turns c.if-k-gt0.turns c.loop-k.lines c.if-k-gt0.lines w.pass-is w.peer-is w.turns-is w.lines-is
          (enters_first id key me routes plan spans k c.loop-k.pass c.loop-k.peer c.loop-k.turns c.loop-k.lines (let none = w.if-k-gt0.false in omega arith) c.loop-k-test.true before)
    ] in
    let took = c.in_err-auto_span.ensures.trajectory plan spans at.r (drop (suc k) spans) at.on at.holds at.turns_are at.recorded in
    drove_err id key me routes plan spans c.places_follow_trees.ensures c.args.pass.now c.auto_span.new.pass c.auto_span.new.peer took.0 c.from_residual-in_err-auto_span.result c.requires.of c.from_residual-in_err-auto_span.ensures.0 took.1

pub loop-k-preserved : goal.loop-k-preserved
loop-k-preserved g c = let id = c.args.context.now.words.now.shared.table_id in let key = c.args.context.now.words.now.shared.key in let me = c.args.context.now.me in let routes = c.args.context.now.routes.now in let plan = c.args.peer.driven.auto in let spans = c.args.spans.now in let k = c.loop-k.k in let before = c.loop-k.invariant in
    let at : IsAt id key me routes plan spans (λ r. r.spans ≡ slice_index spans k ∷ drop (suc k) spans) c.if-k-gt0.pass c.if-k-gt0.peer c.if-k-gt0.turns c.if-k-gt0.lines = elim c.if-k-gt0.branch [
      | then-k-gt0+in_ok-auto_restart+else-not-branch w ↦ same_at id key me routes plan spans _ w.auto_restart.new.pass c.if-k-gt0.pass w.auto_restart.new.peer c.if-k-gt0.peer (c.loop-k.turns + 1) c.if-k-gt0.turns w.auto_restart.new.lines c.if-k-gt0.lines
          w.pass-is w.peer-is w.turns-is w.lines-is
          (enters_later id key me routes plan spans k c.loop-k.pass w.auto_restart.new.pass c.loop-k.peer w.auto_restart.new.peer c.loop-k.turns c.loop-k.lines w.auto_restart.new.lines w.in_ok-auto_restart.field-0 before w.if-k-gt0.true c.loop-k-test.true w.if-not-branch.false
          (w.in_ok-auto_restart.ensures.trajectory plan spans before.r before.on (due_over spans k before.r before.holds w.if-k-gt0.true c.loop-k-test.true) before.recorded))
      | else-k-gt0 w ↦ same_at id key me routes plan spans _ c.loop-k.pass c.if-k-gt0.pass c.loop-k.peer c.if-k-gt0.peer c.loop-k.turns c.if-k-gt0.turns c.loop-k.lines c.if-k-gt0.lines w.pass-is w.peer-is w.turns-is w.lines-is
          (enters_first id key me routes plan spans k c.loop-k.pass c.loop-k.peer c.loop-k.turns c.loop-k.lines (let none = w.if-k-gt0.false in omega arith) c.loop-k-test.true before)
    ] in
    let took = c.in_ok-auto_span.ensures.trajectory plan spans at.r (drop (suc k) spans) at.on at.holds at.turns_are at.recorded in record {
      r = took.0;
      on = took.1;
      holds = due_next spans k took.0 took.2.2;
      turns_are = took.2.1;
      recorded = took.2.0;
    }

pub returns : goal.returns
returns g c = let id = c.args.context.now.words.now.shared.table_id in let key = c.args.context.now.words.now.shared.key in let me = c.args.context.now.me in let routes = c.args.context.now.routes.now in let plan = c.args.peer.driven.auto in let spans = c.args.spans.now in let k = c.loop-k.k in let before = c.loop-k.invariant in
    let at : IsAt id key me routes plan spans (λ r. has_finished r ≡ false → all_turns r.spans ≡ 0) c.loop-k-test.pass c.loop-k-test.peer c.loop-k.turns c.loop-k-test.lines = elim c.loop-k-test.branch [
      | else-loop-k-test w ↦ same_at id key me routes plan spans _ c.loop-k.pass c.loop-k-test.pass c.loop-k.peer c.loop-k-test.peer c.loop-k.turns c.loop-k.turns c.loop-k.lines c.loop-k-test.lines w.pass-is w.peer-is refl w.lines-is
          (ends_spent id key me routes plan spans k c.loop-k.pass c.loop-k.peer c.loop-k.turns c.loop-k.lines w.loop-k-test.false before)
      | then-loop-k-test+then-k-gt0+in_ok-auto_restart+then-not-branch w ↦ same_at id key me routes plan spans _ w.auto_restart.new.pass c.loop-k-test.pass w.auto_restart.new.peer c.loop-k-test.peer c.loop-k.turns c.loop-k.turns w.auto_restart.new.lines c.loop-k-test.lines
          w.pass-is w.peer-is refl w.lines-is
          (ends_finished id key me routes plan spans k c.loop-k.pass w.auto_restart.new.pass c.loop-k.peer w.auto_restart.new.peer c.loop-k.turns c.loop-k.lines w.auto_restart.new.lines w.in_ok-auto_restart.field-0 before w.if-not-branch.true
          (w.in_ok-auto_restart.ensures.trajectory plan spans before.r before.on (due_over spans k before.r before.holds w.if-k-gt0.true w.loop-k-test.true) before.recorded))
    ] in
    let chose = chose_at _ at.r c.loop-k-test.peer.driven c.choose-choice.new.self c.choose-choice.result at.on.there.refines.refines at.on.is.planned c.choose-choice.ensures.chosen c.choose-choice.ensures.round in
    drove_ok id key me routes plan spans c.places_follow_trees.ensures c.args.pass.now c.loop-k-test.pass c.loop-k-test.peer c.loop-k.turns c.loop-k-test.lines _ c.requires.of at refl refl refl (c.is_finished.ensures ∙ sym (ends_where _ _ _ chose.matches))

pub invariant_of-result : goal.invariant_of-result
invariant_of-result g c = let id = c.args.context.now.words.now.shared.table_id in let key = c.args.context.now.words.now.shared.key in let me = c.args.context.now.me in let routes = c.args.context.now.routes.now in let plan = c.args.peer.driven.auto in let spans = c.args.spans.now in let k = c.loop-k.k in let before = c.loop-k.invariant in
    let at : IsAt id key me routes plan spans (λ r. has_finished r ≡ false → all_turns r.spans ≡ 0) c.loop-k-test.pass c.loop-k-test.peer c.loop-k.turns c.loop-k-test.lines = elim c.loop-k-test.branch [
      | else-loop-k-test w ↦ same_at id key me routes plan spans _ c.loop-k.pass c.loop-k-test.pass c.loop-k.peer c.loop-k-test.peer c.loop-k.turns c.loop-k.turns c.loop-k.lines c.loop-k-test.lines w.pass-is w.peer-is refl w.lines-is
          (ends_spent id key me routes plan spans k c.loop-k.pass c.loop-k.peer c.loop-k.turns c.loop-k.lines w.loop-k-test.false before)
      | then-loop-k-test+then-k-gt0+in_ok-auto_restart+then-not-branch w ↦ same_at id key me routes plan spans _ w.auto_restart.new.pass c.loop-k-test.pass w.auto_restart.new.peer c.loop-k-test.peer c.loop-k.turns c.loop-k.turns w.auto_restart.new.lines c.loop-k-test.lines
          w.pass-is w.peer-is refl w.lines-is
          (ends_finished id key me routes plan spans k c.loop-k.pass w.auto_restart.new.pass c.loop-k.peer w.auto_restart.new.peer c.loop-k.turns c.loop-k.lines w.auto_restart.new.lines w.in_ok-auto_restart.field-0 before w.if-not-branch.true
          (w.in_ok-auto_restart.ensures.trajectory plan spans before.r before.on (due_over spans k before.r before.holds w.if-k-gt0.true w.loop-k-test.true) before.recorded))
    ] in
    record { own = subst (AreOwn me) (sym at.recorded) (far_of c.places_follow_trees.ensures key me routes plan spans at.r at.on.comes).own }
