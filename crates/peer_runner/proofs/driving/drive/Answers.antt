use Rattle.std.proofs.Common.{◌≡◌, ℕ, ◌∷◌, [], List, sym, subst}
use Rattle.doorbell_irq.specs.declared.route.Route.{Route}
use Rattle.peer_runner.specs.declared.driving.Driver.{Driver}
use Rattle.shared_words.specs.DerivedStates.{CallAccess, MemoryOp}
use Rattle.shared_words.specs.Actions.{Action}
use Rattle.shared_words.specs.Passes.{held}
use Rattle.peer_runner.specs.Drives.{starting, Drove}
use Rattle.peer_runner.proofs.driving.drive.Goals as goal

pub returns-in-Auto : goal.returns-in-Auto
returns-in-Auto g c = let p = c.args.plan.peer in let key = c.args.words.now.shared.key in let id = c.args.pass.now.table_id in let done = c.drive_auto-trace.new.pass in let result = c.drive_auto-trace.result in
    subst (λ (rs : List Route). (list : List (Action (MemoryOp CallAccess))) × (done ≡ held id p (list ∷ [])) × Drove key rs p c.args.plan.spans (starting c.args.plan.driver) list result) c.as_slice-routes.ensures.value
    (subst (λ (ss : List ℕ). (list : List (Action (MemoryOp CallAccess))) × (done ≡ held id p (list ∷ [])) × Drove key c.as_slice-routes.result.now p ss (starting c.args.plan.driver) list result) c.items-spans.ensures
    (subst (λ (d : Driver). (list : List (Action (MemoryOp CallAccess))) × (done ≡ held id p (list ∷ [])) × Drove key c.as_slice-routes.result.now p c.items-spans.result.now (starting d) list result) (sym c.in-Auto.is) c.drive_auto-trace.ensures))

pub returns : goal.returns
returns g c = let p = c.args.plan.peer in let key = c.args.words.now.shared.key in let id = c.args.pass.now.table_id in let done = c.drive_storm-trace.new.pass in let result = c.drive_storm-trace.result in
    subst (λ (rs : List Route). (list : List (Action (MemoryOp CallAccess))) × (done ≡ held id p (list ∷ [])) × Drove key rs p c.args.plan.spans (starting c.args.plan.driver) list result) c.as_slice-routes.ensures.value
    (subst (λ (ss : List ℕ). (list : List (Action (MemoryOp CallAccess))) × (done ≡ held id p (list ∷ [])) × Drove key c.as_slice-routes.result.now p ss (starting c.args.plan.driver) list result) c.items-spans.ensures
    (subst (λ (d : Driver). (list : List (Action (MemoryOp CallAccess))) × (done ≡ held id p (list ∷ [])) × Drove key c.as_slice-routes.result.now p c.items-spans.result.now (starting d) list result) (sym c.in-Storm.is) c.drive_storm-trace.ensures))
