use Rattle.std.proofs.Common.{◌∙◌, arith, rules}
use Rattle.ivs_base.proofs.Pieces.{written_on}
use Rattle.ivs_base.proofs.ends.write_whole.Goals as goal

pub loop-at-preserved : goal.loop-at-preserved
loop-at-preserved g c = record {
  written = written_on _ _ _ _ _ _ (search rules) c.loop-at.invariant.written c.in_ok-at.ensures.appends;
  within = omega (arith, c.in_ok-at.ensures.fits);
  quiet = c.in_ok-at.ensures.quiet ∙ c.loop-at.invariant.quiet;
  room = omega (arith, c.in_ok-at.ensures.room);
}
