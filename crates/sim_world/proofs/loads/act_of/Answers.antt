use Rattle.std.proofs.Common.{◌∙◌, ap, arith, length}
use Rattle.sim_world.specs.declared.loads.TheConstants.{PERIOD}
use Rattle.sim_world.proofs.LoadActs.{acts_length, expects, offer_again, turn_again}
use Rattle.sim_world.proofs.loads.act_of.Goals as goal

pub bounds-sample-at : goal.bounds-sample-at
bounds-sample-at c = let size = ap length c.requires.sample ∙ acts_length PERIOD in omega arith

pub bounds-sample-period : goal.bounds-sample-period
bounds-sample-period c = let size = ap length c.requires.sample ∙ acts_length PERIOD in omega arith

pub returns-then-at-lt-AUTOS : goal.returns-then-at-lt-AUTOS
returns-then-at-lt-AUTOS c = expects c.args.count c.args.at c.args.expecting.now (omega arith) (omega arith) c.requires.expecting

pub returns-then-at-count : goal.returns-then-at-count
returns-then-at-count c = offer_again c.args.count c.args.at c.index-sample-at.result (omega arith) (omega arith) (rw c.requires.sample at c.index-sample-at.is)

pub returns-else-at-count : goal.returns-else-at-count
returns-else-at-count c = turn_again c.args.count c.args.at c.index-sample-period.result (omega arith) c.requires.inside (rw c.requires.sample at c.index-sample-period.is)
