use Rattle.std.proofs.Common.{◌≡◌, take}
use Rattle.link_model.proofs.copying.copy_of_acts.Given as goal

abbrev pub invariant-loop-act : goal.invariant-loop-act
invariant-loop-act l = l.copy ≡ take l.act-index l.acts
