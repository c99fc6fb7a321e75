use Rattle.std.proofs.Common.{List, refl, sym, ◌∙◌, ap, subst}
use Rattle.std.specs.Prelude.{Option, Some, map}
use Rattle.split_ring.specs.declared.steps.Note.{Note}
use Rattle.link_endpoint.specs.Engine.{offered, delivered}
use Rattle.link_endpoint.specs.Refinement.{Takes, marks_between}
use Rattle.link_endpoint.specs.Plan.{Plan}
use Rattle.lawful_history.specs.Sides.{config_of}
use Rattle.lawful_history.specs.EventRecords.{mark_line}
use Rattle.lawful_history.specs.Frames.{HaveFrames}
use Rattle.simulator.specs.PeerStates.{DriverIs}
use Rattle.step_lines.proofs.NotesAreMarks.{busy_is, busy_next, plan_counted}
use Rattle.simulator.proofs.HonestTurns.{can, rings_of, frames_now, carried, driver_counts, driver_waits}
use Rattle.simulator.proofs.link.carry_on.Goals as goal

pub perform-requires-clause-can : goal.perform-requires-clause-can
perform-requires-clause-can c =
    let refines = c.requires.refines.2 in
    let config = c.requires.refines.0 in
    let access_is = c.next-access.ensures.access config c.requires.refines.1.end refines.place refines.end in
    can c.args.world_state.now c.args.me c.args.link.now.end.config c.next-access.result c.requires.placed c.next-access.ensures.reach
    (λ t v is. let at = rings_of config refines.place c.next-access.result access_is t v is in (at.0 ∙ ap (λ w. w.other) refines.end.made, at.1 ∙ ap (λ w. w.vector) refines.end.made))

pub record_notes-requires : goal.record_notes-requires
record_notes-requires c =
    let refines = c.requires.refines.2 in
    let config = c.requires.refines.0 in
    let peer = c.requires.refines.1 in
    subst (λ (ns : List Note). HaveFrames (map (mark_line c.args.me) (marks_between (offered c.took_into.new.self) (delivered c.took_into.new.self) ns))) (sym c.as_slice.ensures.value)
    (frames_now c.args.me c.args.link.now.end c.took_into.new.self _ c.took_into.new.notes.items config peer c.args.link.now refines c.took_into.ensures.steps
    (busy_next c.args.link.now.end c.took_into.new.self _ c.took_into.new.notes.items config peer.end refines.place c.took_into.ensures.steps refines.end))

pub returns-in_err-record_notes-clause-seated : goal.returns-in_err-record_notes-clause-seated
returns-in_err-record_notes-clause-seated c = λ q seated. c.record_notes.ensures.seated q (c.perform.ensures.seated q seated)

pub returns-in-Some-clause-seated : goal.returns-in-Some-clause-seated
returns-in-Some-clause-seated c = λ q seated. c.record_notes.ensures.seated q (c.perform.ensures.seated q seated)

pub returns-in_default-clause-seated : goal.returns-in_default-clause-seated
returns-in_default-clause-seated c = λ q seated. c.record_notes.ensures.seated q (c.perform.ensures.seated q seated)

pub returns-in-Some-clause-steps : goal.returns-in-Some-clause-steps
returns-in-Some-clause-steps c = λ world output past losses peer after refines.
    let config = config_of world c.args.me in
    let took : Takes c.args.link.now.end c.in_ok-value.value c.took_into.new.notes.items c.took_into.new.self = c.took_into.ensures.steps in
    let driver : DriverIs (Some c.in-Some.auto) peer.driver = subst (λ (o : Option Plan). DriverIs o peer.driver) c.in-Some.is refines.driver in
    carried c.places_follow_trees.ensures world output past losses c.args.me peer c.args.link.now _ c.perform.new.self c.record_notes.new.world_state c.next-access.result c.in_ok-value.value c.took_into.new.notes.items refines
    (sym (busy_is c.args.link.now.end config peer.end refines.place refines.end) ∙ c.requires.open)
    (c.next-access.ensures.access config peer.end refines.place refines.end) (c.in_ok-value.ensures.after world output past losses after) took
    (busy_next c.args.link.now.end c.took_into.new.self c.in_ok-value.value c.took_into.new.notes.items config peer.end refines.place took refines.end) refl
    (driver_counts c.in-Some.auto c.count.new.self peer.driver _ driver
    (λ auto is. plan_counted c.in-Some.auto c.count.new.self auto _ (rw c.as_slice-in-Some.ensures.value at (c.count.ensures (offered c.took_into.new.self) (delivered c.took_into.new.self))) is))
    (λ w p l b. rw c.as_slice.ensures.value at (c.in_ok-record_notes.ensures.after w p l b))

pub returns-in_default-clause-steps : goal.returns-in_default-clause-steps
returns-in_default-clause-steps c = λ world output past losses peer after refines.
    let config = config_of world c.args.me in
    let took : Takes c.args.link.now.end c.in_ok-value.value c.took_into.new.notes.items c.took_into.new.self = c.took_into.ensures.steps in
    carried c.places_follow_trees.ensures world output past losses c.args.me peer c.args.link.now _ c.perform.new.self c.record_notes.new.world_state c.next-access.result c.in_ok-value.value c.took_into.new.notes.items refines
    (sym (busy_is c.args.link.now.end config peer.end refines.place refines.end) ∙ c.requires.open)
    (c.next-access.ensures.access config peer.end refines.place refines.end) (c.in_ok-value.ensures.after world output past losses after) took
    (busy_next c.args.link.now.end c.took_into.new.self c.in_ok-value.value c.took_into.new.notes.items config peer.end refines.place took refines.end) refl
    (driver_waits c.args.link.now.auto peer.driver _ c.in_default.is refines.driver)
    (λ w p l b. rw c.as_slice.ensures.value at (c.in_ok-record_notes.ensures.after w p l b))
