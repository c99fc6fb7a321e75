use Rattle.std.proofs.Common.{sym}
use Rattle.sim_world.proofs.LoadActs.{acts_length}
use Rattle.sim_world.proofs.loads.act_count.Goals as goal

pub returns : goal.returns
returns c = sym (acts_length c.args.count)
