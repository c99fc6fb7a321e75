use Rattle.std.proofs.Common.{sym, ap, ◌∙◌}
use Rattle.peer_runner.specs.declared.doorbell_paths.DoorbellPath.TheVariants.{Direct, Guarded}
use Rattle.peer_runner.specs.DoorbellPaths.{is_guarded}
use Rattle.peer_runner.proofs.DoorbellTurns.{way_fits, never_one_shot, is_one_shot_at, set_found}
use Rattle.peer_runner.proofs.bells.ring_turn.Goals as goal

pub ring-requires-clause-target : goal.ring-requires-clause-target
ring-requires-clause-target c = let f = way_fits c.args.routes.now c.args.target c.args.vector (Direct c.in-Direct.bit) (sym c.doorbell_path_to.ensures ∙ c.in-Direct.is) in (f.0, f.1)

pub ring-requires-clause-may : goal.ring-requires-clause-may
ring-requires-clause-may c = λ shot. let f = way_fits c.args.routes.now c.args.target c.args.vector (Direct c.in-Direct.bit) (sym c.doorbell_path_to.ensures ∙ c.in-Direct.is) in absurd (never_one_shot _ _ _ c.requires.routes f.0 f.2 shot)

pub ring-requires-then-ringing-clause-target : goal.ring-requires-then-ringing-clause-target
ring-requires-then-ringing-clause-target c = let f = way_fits c.args.routes.now c.args.target c.args.vector (Guarded c.in-Guarded.bit) (sym c.doorbell_path_to.ensures ∙ c.in-Guarded.is) in (f.0, f.1)

pub clear-requires-clause-target : goal.clear-requires-clause-target
clear-requires-clause-target c = (way_fits c.args.routes.now c.args.target c.args.vector (Guarded c.in-Guarded.bit) (sym c.doorbell_path_to.ensures ∙ c.in-Guarded.is)).0

pub returns-else-ringing-clause-may : goal.returns-else-ringing-clause-may
returns-else-ringing-clause-may c = let is = sym c.doorbell_path_to.ensures ∙ c.in-Guarded.is in let f = way_fits c.args.routes.now c.args.target c.args.vector (Guarded c.in-Guarded.bit) is in
    λ set. (ap is_guarded is, c.clear.ensures.may (is_one_shot_at _ _ _ c.requires.routes f.0 f.2) (set_found _ set))
