use Rattle.std.proofs.Common.{◌≡◌, ℕ, ◌+◌, ◌++◌, Bool, true, false, List, refl, sym, ap, ◌∙◌, subst, arith, append-nil}
use Rattle.std.specs.Prelude.{Option, Some, None}
use Rattle.doorbell_irq.specs.declared.route.Route.{Route}
use Rattle.link_endpoint.specs.Engine.{Engine, is_busy}
use Rattle.link_endpoint.specs.Plan.{Plan, Closes}
use Rattle.link_endpoint.specs.declared.auto.Choice.{Choice}
use Rattle.link_endpoint.specs.declared.auto_endpoint.AutoEndpoint.{AutoEndpoint}
use Rattle.shared_words.specs.declared.sessions.SessionWord.{SessionWord}
use Rattle.shared_words.specs.Actions.{looked}
use Rattle.shared_words.specs.PassView.{PassView}
use Rattle.shared_words.specs.Passes.{added}
use Rattle.shared_words.specs.PeerRoutes.{route_to}
use Rattle.peer_runner.specs.declared.context.PeerContext.{PeerContext}
use Rattle.peer_runner.specs.declared.doorbell_paths.Done.{Done}
use Rattle.peer_runner.specs.declared.turns.AutoPeer.{AutoPeer}
use Rattle.peer_runner.specs.Contexts.{setup_of, end_config, AtEachPlace, AtItsPlace, IsOn, IsStepDue, after_step, is_guarded_at}
use Rattle.peer_runner.specs.Turns.{Looks, looks_after, has_turn_left}
use Rattle.peer_runner.specs.Runners.{Runner, has_finished, IsDone, due_at, due_of, looks_now, looked_on, due_word, turn_met, met_on, turn_on, IsThere, IsAutoPeer}
use Rattle.peer_runner.specs.Trajectories.{by_look, by_word, by_step}
use Rattle.peer_runner.proofs.AutoChoices.{Chose, chose as chose_at}
use Rattle.peer_runner.proofs.AutoTurns.{bytes_in, turn_looked, meets_at, opened_at, turn_met as met_there}
use Rattle.peer_runner.proofs.Looks.{looks_at, looks_shut, still_shut}
use Rattle.peer_runner.proofs.TurnsAndLines.{turned_turns, turned_spans, met_opened, counted_of, ends_where, err_free}
use Rattle.peer_runner.proofs.PeerOnTrajectory.{trajectory_on, trajectory_still, recorded_further, met_silent, seated, few_opened}
use Rattle.peer_runner.proofs.driving.auto_turn.Goals as goal

-- The facts of a peer that is on its trajectory at r.
module _ (context : PeerContext) (plan : Plan) (spans : List ℕ) (r : Runner) (pass : PassView) (peer : AutoPeer) (on : IsOn context plan spans r pass peer) where
  -- A look is next, as the code finds.
  look_is : (own : Route) (due : ℕ) (found answer : Bool) → own ≡ route_to context.routes.now context.me → AtItsPlace peer.driven.end peer.driven.auto (λ config at place auto. due ≡ due_at config at place auto) →
      found ≡ looks_now own due peer.looks → found ≡ answer → looks_now (route_to context.routes.now context.me) (due_of (end_config context) r) r.looks ≡ answer
  look_is own due found answer own_is dues value is =
      looks_at own (route_to context.routes.now context.me) due (due_of (end_config context) r) peer.looks r.looks found value own_is (dues (end_config context) r.end r.place r.auto on.there.refines.refines on.is.planned) (sym on.is.looks) ∙ is

  -- A session word is due, as the code finds.
  word_is : (word answer : Option SessionWord) → AtEachPlace peer.driven.end (λ _ _ place. word ≡ due_word place peer.met) → word ≡ answer → due_word r.place r.met ≡ answer
  word_is word answer due is = ap (due_word r.place) (sym on.is.met) ∙ (sym (due (end_config context) r.end r.place on.there.refines.refines) ∙ is)

  -- A step is due after a choice.
  step_is : (new : AutoEndpoint) (choice : Option Choice) → Chose r peer.driven new choice → Closes choice (is_busy peer.driven.end) → has_finished r ≡ false → due_word r.place r.met ≡ None →
      IsStepDue context r choice pass (record peer { driven = new })
  step_is new choice chose closes goes word = record {
    there = subst (λ (e : Engine). IsThere (setup_of context) context.me context.routes.now r pass e) (sym chose.end) on.there;
    is = record { planned = chose.planned; looks = on.is.looks; ringing = on.is.ringing; opened = on.is.opened; met = on.is.met };
    matches = chose.matches;
    closes = subst (λ (e : Engine). Closes choice (is_busy e)) (sym chose.end) closes;
    goes = goes;
    word = word;
  }

  after_look : (new : PassView) (looks : Option ℕ) (found : ℕ) → has_turn_left r.spans ≡ true → looks_now (route_to context.routes.now context.me) (due_of (end_config context) r) r.looks ≡ true →
      new ≡ added pass (looked found) → looks ≡ looks_after peer.looks found → IsOn context plan spans (looked_on r found) new (record peer { looks = looks })
  after_look new looks found left due is looks_is =
      let still = still_shut (setup_of context) context.me context.routes.now r peer.driven.end on.there.refines (looks_shut (end_config context) (route_to context.routes.now context.me) r due) in
      trajectory_on _ (setup_of context) context.me context.routes.now plan spans r (looked_on r found) pass new peer (record peer { looks = looks }) on (by_look found left due)
      (turn_looked (setup_of context) context.me context.routes.now r pass new peer.driven.end found is on.there still)
      (record { planned = on.is.planned; looks = looks_is ∙ ap (λ n. looks_after n found) on.is.looks; ringing = on.is.ringing; opened = on.is.opened; met = on.is.met }) (ap (λ (h : PassView). h.table_id) is)

  after_turn : (driven : AutoEndpoint) (choice : Option Choice) (new : PassView) (next : AutoPeer) (done : Done) → has_turn_left r.spans ≡ true → looks_now (route_to context.routes.now context.me) (due_of (end_config context) r) r.looks ≡ false →
      IsStepDue context r choice pass (record peer { driven = driven }) → IsDone peer.ringing (is_guarded_at context r) done → IsThere (setup_of context) context.me context.routes.now (after_step context r done) new next.driven.end →
      IsAutoPeer next (after_step context r done) → new.table_id ≡ pass.table_id → IsOn context plan spans (after_step context r done) new next
  after_turn driven choice new next done left first due is_done there is same =
      trajectory_on _ (setup_of context) context.me context.routes.now plan spans r (after_step context r done) pass new peer next on
      (by_step done (record { left = left; first = first }) due.word due.goes (subst (λ b. IsDone b (is_guarded_at context r) done) on.is.ringing is_done)
      (bytes_in (setup_of context) context.me context.routes.now r choice pass (record peer { driven = driven }) due)) there is same

pub look_turn-requires-clause-of : goal.look_turn-requires-clause-of
look_turn-requires-clause-of g c = let need = c.requires.trajectory in seated _ _ c.args.context.now.me c.args.context.now.routes.now need.0 need.1 need.2 c.args.pass.now c.args.peer.now need.4

pub returns-then-is_look_next : goal.returns-then-is_look_next
returns-then-is_look_next g c = record {
  trajectory = λ plan spans r on left recorded. let context = c.args.context.now in let took = c.in_ok-look_turn.ensures in
      let due = look_is context plan spans r c.args.pass.now c.args.peer.now on c.route_to.result c.looks_due-due.result c.is_look_next.result true c.route_to.ensures c.looks_due-due.ensures.due c.is_look_next.ensures.value c.if-is_look_next.true in
      (looked_on r took.0, after_look context plan spans r c.args.pass.now c.args.peer.now on c.look_turn.new.pass _ took.0 left due took.1 took.2, (recorded_further context.me r.turns _ (Looks took.0) c.args.lines.now c.look_turn.new.lines refl recorded took.3, refl));
}

pub returns-in_err-look_turn : goal.returns-in_err-look_turn
returns-in_err-look_turn g c = record {
  trajectory = λ plan spans r on left recorded. let context = c.args.context.now in let took = c.in_err-look_turn.ensures in
      let due = look_is context plan spans r c.args.pass.now c.args.peer.now on c.route_to.result c.looks_due-due.result c.is_look_next.result true c.route_to.ensures c.looks_due-due.ensures.due c.is_look_next.ensures.value c.if-is_look_next.true in
      (looked_on r took.0, after_look context plan spans r c.args.pass.now c.args.peer.now on c.look_turn.new.pass _ took.0 left due took.1 took.2, err_free _ c.from_residual.result c.from_residual.ensures.0);
}

pub exchange_session_number-requires-clause-place : goal.exchange_session_number-requires-clause-place
exchange_session_number-requires-clause-place g c = let need = c.requires.trajectory in let r = need.2 in
    meets_at _ c.args.context.now.me c.args.context.now.routes.now r c.args.pass.now c.args.peer.now.driven.end c.in-Some.word need.4.there
    (word_is c.args.context.now need.0 need.1 r c.args.pass.now c.args.peer.now need.4 c.word_due.result (Some c.in-Some.word) c.word_due.ensures c.in-Some.is)

pub exchange_session_number-requires-clause-opened : goal.exchange_session_number-requires-clause-opened
exchange_session_number-requires-clause-opened g c = let need = c.requires.trajectory in let r = need.2 in let on = need.4 in let few = few_opened need.1 r (counted_of _ c.args.context.now.me c.args.context.now.routes.now need.0 need.1 r on.comes) need.5 need.3 in
    let same = on.is.opened in (on.is.opened ∙ opened_at _ c.args.context.now.me c.args.context.now.routes.now r c.args.pass.now c.args.peer.now.driven.end on.there, omega arith)

pub exchange_session_number-requires-clause-of : goal.exchange_session_number-requires-clause-of
exchange_session_number-requires-clause-of g c = let need = c.requires.trajectory in seated _ _ c.args.context.now.me c.args.context.now.routes.now need.0 need.1 need.2 c.args.pass.now c.args.peer.now need.4

pub returns-in-Some : goal.returns-in-Some
returns-in-Some g c = record {
  trajectory = λ plan spans r on left recorded. let context = c.args.context.now in let key = setup_of context in let me = context.me in let routes = context.routes.now in let peer = c.args.peer.now in
      let first = look_is context plan spans r c.args.pass.now peer on c.route_to.result c.looks_due-due.result c.is_look_next.result false c.route_to.ensures c.looks_due-due.ensures.due c.is_look_next.ensures.value c.if-is_look_next.false in
      let word = c.in-Some.word in let number = c.exchange_session_number.result in let next = met_on word r number in
      let due = word_is context plan spans r c.args.pass.now peer on c.word_due.result (Some word) c.word_due.ensures c.in-Some.is in
      let is : IsAutoPeer _ next = record { planned = on.is.planned; looks = on.is.looks; ringing = on.is.ringing; opened = on.is.opened ∙ sym (met_opened word r.numbers number); met = refl } in
      let there = met_there key me routes word r c.args.pass.now c.exchange_session_number.new.pass peer.driven.end number c.requires.honest.1 c.exchange_session_number.ensures.pass on.there due in (
        next,
        trajectory_on _ key me routes plan spans r next c.args.pass.now c.exchange_session_number.new.pass peer _ on (by_word word number (record { left = left; first = first }) due (λ e. c.exchange_session_number.ensures.number e ∙ ap (λ n. n + 1) on.is.opened)) there is (ap (λ (h : PassView). h.table_id) c.exchange_session_number.ensures.pass),
        (recorded_further me r.turns next.turns (turn_met word number) c.args.lines.now c.args.lines.now refl recorded (sym (append-nil c.args.lines.now) ∙ ap (λ ls. c.args.lines.now ++ ls) (sym (met_silent me number word))), refl),
      );
}

pub returns-then-is_finished : goal.returns-then-is_finished
returns-then-is_finished g c = record {
  trajectory = λ plan spans r on left recorded.
      let chose = chose_at _ r c.args.peer.now.driven c.choose-choice.new.self c.choose-choice.result on.there.refines.refines on.is.planned c.choose-choice.ensures.chosen c.choose-choice.ensures.round in
      let is : has_finished r ≡ true = ends_where _ _ _ chose.matches ∙ (sym c.is_finished.ensures ∙ c.if-is_finished.true) in
      (r, trajectory_still _ _ c.args.context.now.me c.args.context.now.routes.now plan spans r c.args.pass.now c.args.peer.now c.choose-choice.new.self c.choose-choice.result on is chose, (recorded, (refl, is)));
}

pub take_turn-requires-clause-of : goal.take_turn-requires-clause-of
take_turn-requires-clause-of g c = c.requires.trajectory.4.of

pub take_turn-requires-clause-few : goal.take_turn-requires-clause-few
take_turn-requires-clause-few g c = let need = c.requires.trajectory in let r = need.2 in let on = need.4 in let few = few_opened need.1 r (counted_of _ c.args.context.now.me c.args.context.now.routes.now need.0 need.1 r on.comes) need.5 need.3 in let same = on.is.opened in omega arith

pub take_turn-requires-clause-turns : goal.take_turn-requires-clause-turns
take_turn-requires-clause-turns g c = let need = c.requires.trajectory in let r = need.2 in let on = need.4 in let peer = c.args.peer.now in
    let chose = chose_at _ r peer.driven c.choose-choice.new.self c.choose-choice.result on.there.refines.refines on.is.planned c.choose-choice.ensures.chosen c.choose-choice.ensures.round in (
      r,
      step_is c.args.context.now need.0 need.1 r c.args.pass.now peer on c.choose-choice.new.self c.choose-choice.result chose c.choose-choice.ensures.closes (ends_where _ _ _ chose.matches ∙ (sym c.is_finished.ensures ∙ c.if-is_finished.false))
          (word_is c.args.context.now need.0 need.1 r c.args.pass.now peer on c.word_due.result None c.word_due.ensures c.in_default.is),
    )

pub returns-in_err-take_turn : goal.returns-in_err-take_turn
returns-in_err-take_turn g c = record {
  trajectory = λ plan spans r on left recorded. let context = c.args.context.now in let pass = c.args.pass.now in let peer = c.args.peer.now in let driven = c.choose-choice.new.self in let choice = c.choose-choice.result in
      let first = look_is context plan spans r pass peer on c.route_to.result c.looks_due-due.result c.is_look_next.result false c.route_to.ensures c.looks_due-due.ensures.due c.is_look_next.ensures.value c.if-is_look_next.false in
      let chose = chose_at _ r peer.driven driven choice on.there.refines.refines on.is.planned c.choose-choice.ensures.chosen c.choose-choice.ensures.round in
      let due = step_is context plan spans r pass peer on driven choice chose c.choose-choice.ensures.closes (ends_where _ _ _ chose.matches ∙ (sym c.is_finished.ensures ∙ c.if-is_finished.false)) (word_is context plan spans r pass peer on c.word_due.result None c.word_due.ensures c.in_default.is) in
      let took = c.in_err-take_turn.ensures.turned r due in
      (after_step context r took.0, after_turn context plan spans r pass peer on driven choice c.take_turn.new.pass c.take_turn.new.peer took.0 left first due took.1 took.2 took.3 c.take_turn.ensures.id, err_free _ c.from_residual-in_err-take_turn.result c.from_residual-in_err-take_turn.ensures.0);
}

pub returns : goal.returns
returns g c = record {
  trajectory = λ plan spans r on left recorded. let context = c.args.context.now in let pass = c.args.pass.now in let peer = c.args.peer.now in let driven = c.choose-choice.new.self in let choice = c.choose-choice.result in
      let first = look_is context plan spans r pass peer on c.route_to.result c.looks_due-due.result c.is_look_next.result false c.route_to.ensures c.looks_due-due.ensures.due c.is_look_next.ensures.value c.if-is_look_next.false in
      let chose = chose_at _ r peer.driven driven choice on.there.refines.refines on.is.planned c.choose-choice.ensures.chosen c.choose-choice.ensures.round in
      let due = step_is context plan spans r pass peer on driven choice chose c.choose-choice.ensures.closes (ends_where _ _ _ chose.matches ∙ (sym c.is_finished.ensures ∙ c.if-is_finished.false)) (word_is context plan spans r pass peer on c.word_due.result None c.word_due.ensures c.in_default.is) in
      let took = c.in_ok-take_turn.ensures.turned r due in (
        after_step context r took.0,
        after_turn context plan spans r pass peer on driven choice c.take_turn.new.pass c.take_turn.new.peer took.0 left first due took.1 took.2 took.3 c.take_turn.ensures.id,
        (recorded_further context.me r.turns _ (turn_on (end_config context) r took.0) c.args.lines.now c.take_turn.new.lines (turned_turns context.routes.now (end_config context) r took.0) recorded took.4, turned_spans context.routes.now (end_config context) r took.0),
      );
}
