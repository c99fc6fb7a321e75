use Rattle.std.proofs.Common.{sym, refl, ◌∙◌, ap, subst, List, ◌++◌, ◌≡◌, true, false}
use Rattle.std.specs.Prelude.{Option, Some, None, OnOk}
use Rattle.split_ring.specs.declared.steps.Access.{Access}
use Rattle.doorbell_irq.specs.declared.route.Route.{Route}
use Rattle.lawful_history.specs.declared.line.Line.{Line}
use Rattle.step_lines.proofs.NotesAreMarks.{busy_is, plan_counted}
use Rattle.link_endpoint.specs.declared.auto.Choice.{Choice}
use Rattle.peer_runner.specs.declared.doorbell_paths.Done.{Done}
use Rattle.shared_words.specs.PassView.{PassView}
use Rattle.shared_words.specs.RunSetups.{config_in}
use Rattle.shared_words.specs.DerivedStates.{derived_state, IsNext}
use Rattle.shared_words.specs.Actions.{accesses_in}
use Rattle.shared_words.specs.Rules.{front}
use Rattle.peer_runner.specs.Contexts.{IsNextOf}
use Rattle.peer_runner.proofs.TurnsAndLines.{opened_busy}
use Rattle.call_grammar.specs.Calls.{EndConfig}
use Rattle.link_endpoint.specs.Engine.{is_busy}
use Rattle.link_endpoint.specs.Refinement.{Takes, marks_between}
use Rattle.link_endpoint.specs.Plan.{Plan, MayOpenIf, call_chosen_by, Counts}
use Rattle.peer_runner.specs.Runners.{place_in, chosen, made, done_of, value_done, awaits_ring, MayRingBy}
use Rattle.peer_runner.proofs.AutoChoices.{Frames, is_next, opened_in, may_open_if, round_frames}
use Rattle.peer_runner.proofs.AutoTurns.{first_is, held_turn, step_turn, done_there, may_come, lines_recorded, lines_held}
use Rattle.peer_runner.proofs.turns.take_turn.Goals as goal

pub open-requires-clause-fits : goal.open-requires-clause-fits
open-requires-clause-fits c = let key = c.args.context.now.words.now.shared.key in let r = c.requires.turns.0 in let t = c.requires.turns.1 in let plan = c.args.peer.now.driven.auto in
    let frames : Frames key plan.frames = subst (Frames key) (sym (t.is.planned.frames ∙ round_frames r.auto (chosen r))) t.there.refines.frames in
    subst (λ (w : EndConfig). MayOpenIf w.sizes.mtu c.args.choice plan.frames) t.there.refines.refines.made (may_open_if key.queue.mtu c.args.choice plan.frames (chosen r) frames t.matches)

pub take_for-done-requires-clause-next : goal.take_for-done-requires-clause-next
take_for-done-requires-clause-next c = let key = c.args.context.now.words.now.shared.key in let me = c.args.context.now.me in let r = c.requires.turns.0 in let t = c.requires.turns.1 in let config = config_in key me in let plan = c.args.peer.now.driven.auto in
    let refines = opened_in config r c.args.choice c.args.peer.now.driven.auto.frames c.open.new.self.end t.matches (c.open.ensures.refines config r.end r.place t.there.refines.refines) in
    let frames : Frames key plan.frames = subst (Frames key) (sym (t.is.planned.frames ∙ round_frames r.auto (chosen r))) t.there.refines.frames in
    λ touch. subst (λ (auto : Plan). IsNextOf c.args.context.now c.args.pass.now (call_chosen_by c.args.choice auto.frames) c.next-access.result) (sym c.open.ensures.auto) (subst (λ l. IsNext key me (derived_state key me (accesses_in l)) (call_chosen_by c.args.choice plan.frames) c.next-access.result) (sym (ap front t.there.lists))
    (is_next key me r c.args.choice plan.frames c.next-access.result frames t.matches t.there.refines.derived_state t.there.refines.met t.word
    (sym (busy_is c.open.new.self.end config r.end (place_in config r) refines) ∙ opened_busy c.args.choice r c.args.peer.now.driven.auto.frames c.open.new.self.end t.matches t.goes c.open.ensures.open) (c.next-access.ensures.access config r.end (place_in config r) refines) touch))

pub take_for-done-requires-clause-rings : goal.take_for-done-requires-clause-rings
take_for-done-requires-clause-rings c = let key = c.args.context.now.words.now.shared.key in let me = c.args.context.now.me in let r = c.requires.turns.0 in let t = c.requires.turns.1 in let config = config_in key me in let p = c.args.peer.now in
    let refines = opened_in config r c.args.choice c.args.peer.now.driven.auto.frames c.open.new.self.end t.matches (c.open.ensures.refines config r.end r.place t.there.refines.refines) in
    λ rings. subst (MayRingBy c.args.context.now.routes.now c.next-access.result) (sym (ap front t.there.lists)) (may_come key me c.args.context.now.routes.now p.ringing r p.driven.end c.next-access.result t.there.refines (sym t.is.ringing) (c.next-access.ensures.access config r.end (place_in config r) refines) rings)

-- The pass, by the frames of the peer before its call was opened.
pass_taken : (routes : List Route) (answer : Option Choice) (old new : Plan) (before after : PassView) (a : Access) (done : Done) → new ≡ old → after ≡ made before (done_of routes (call_chosen_by answer new.frames) a done) →
    after ≡ made before (done_of routes (call_chosen_by answer old.frames) a done)
pass_taken routes answer old new before after a done same is = subst (λ (auto : Plan). after ≡ made before (done_of routes (call_chosen_by answer auto.frames) a done)) same is

pub returns-then-peer-clause-turned : goal.returns-then-peer-clause-turned
returns-then-peer-clause-turned c = λ r t. let pass = pass_taken c.args.context.now.routes.now c.args.choice c.args.peer.now.driven.auto c.open.new.self.auto c.args.pass.now c.take_for-done.new.pass c.next-access.result c.take_for-done.result c.open.ensures.auto c.take_for-done.ensures.pass in let key = c.args.context.now.words.now.shared.key in let me = c.args.context.now.me in let config = config_in key me in let done = c.take_for-done.result in let p = c.args.peer.now in
    let refines = opened_in config r c.args.choice c.args.peer.now.driven.auto.frames c.open.new.self.end t.matches (c.open.ensures.refines config r.end r.place t.there.refines.refines) in let at = c.next-access.ensures.access config r.end (place_in config r) refines in
    let held : awaits_ring done ≡ true = sym c.awaits_ring-peer.ensures ∙ c.if-peer.true in
    let both = held_turn key me c.args.context.now.routes.now done r c.args.choice c.args.pass.now c.take_for-done.new.pass p c.open.new.self.end c.next-access.result t refines at c.take_for-done.ensures.done pass
    (record p { driven = c.open.new.self; looks = Some 0; ringing = c.awaits_ring-peer.result }) held c.take_for-done.ensures.rings c.open.ensures.auto refl c.if-peer.true refl refl in (
      done,
      done_there key me c.args.context.now.routes.now done r c.args.choice c.args.pass.now c.take_for-done.new.pass p c.open.new.self.end c.next-access.result t refines at c.take_for-done.ensures.done pass,
      both.0,
      both.1,
      subst (λ (ls : List Line). OnOk c.record_access.result (c.record_access.new.lines ≡ c.args.lines.now ++ ls)) (lines_held config r done c.next-access.result held at) c.record_access.ensures,
    )

pub returns-clause-turned : goal.returns-clause-turned
returns-clause-turned c = λ r t. let pass = pass_taken c.args.context.now.routes.now c.args.choice c.args.peer.now.driven.auto c.open.new.self.auto c.args.pass.now c.take_for-done.new.pass c.next-access.result c.take_for-done.result c.open.ensures.auto c.take_for-done.ensures.pass in let key = c.args.context.now.words.now.shared.key in let me = c.args.context.now.me in let config = config_in key me in let done = c.take_for-done.result in let p = c.args.peer.now in
    let refines = opened_in config r c.args.choice c.args.peer.now.driven.auto.frames c.open.new.self.end t.matches (c.open.ensures.refines config r.end r.place t.there.refines.refines) in let at = c.next-access.ensures.access config r.end (place_in config r) refines in
    let goes : awaits_ring done ≡ false = sym c.awaits_ring-peer.ensures ∙ c.if-peer.false in
    let took : Takes c.open.new.self.end (value_done done) c.took-taken.result.items c.took-taken.new.self.end = subst (λ n. Takes c.open.new.self.end n c.took-taken.result.items c.took-taken.new.self.end) c.value.ensures c.took-taken.ensures.steps in
    let both = step_turn key me c.args.context.now.routes.now done r c.args.choice c.args.pass.now c.take_for-done.new.pass p c.open.new.self.end c.next-access.result t refines at c.take_for-done.ensures.done pass
    (record { driven = c.took-taken.new.self; looks = Some 0; ringing = c.awaits_ring-peer.result; opened = c.opened_after-peer.result; met = None }) c.took-taken.new.self.end c.took-taken.result.items
    c.requires.honest.1 (sym (busy_is c.open.new.self.end config r.end (place_in config r) refines) ∙ opened_busy c.args.choice r c.args.peer.now.driven.auto.frames c.open.new.self.end t.matches t.goes c.open.ensures.open) goes took (λ auto one other is. plan_counted p.driven.auto c.took-taken.new.self.auto auto _ (subst (λ (plan : Plan). Counts plan (marks_between one other c.took-taken.result.items) c.took-taken.new.self.auto) c.open.ensures.auto (c.took-taken.ensures.counts one other)) is) refl c.if-peer.false c.opened_after-peer.ensures refl in
    let first = c.is_some-first.ensures ∙ first_is c.args.choice (is_busy p.driven.end) r t.closes (busy_is p.driven.end config r.end r.place t.there.refines.refines) in
    let lines = lines_recorded config r done c.open.new.self.end c.took-taken.new.self.end p.opened p.met c.next-access.result c.took-taken.result.items goes took refines at t.is.opened t.is.met in (
      done,
      done_there key me c.args.context.now.routes.now done r c.args.choice c.args.pass.now c.take_for-done.new.pass p c.open.new.self.end c.next-access.result t refines at c.take_for-done.ensures.done pass,
      both.0,
      both.1,
      subst (λ (ls : List Line). OnOk c.record_step.result (c.record_step.new.lines ≡ c.args.lines.now ++ ls)) lines (rw (first, c.as_slice-notes.ensures.value) at c.record_step.ensures),
    )
