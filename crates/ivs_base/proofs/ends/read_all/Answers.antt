use Rattle.std.proofs.Common.{◌++◌, take, arith}
use Rattle.std.proofs.lemmas.Grind.{common_steps}
use Rattle.ivs_base.proofs.Pieces.{read_on}
use Rattle.ivs_base.proofs.ends.read_all.Goals as goal

pub returns-in_err-extend_from_slice-clause-no_memory : goal.returns-in_err-extend_from_slice-clause-no_memory
returns-in_err-extend_from_slice-clause-no_memory g c =
    let taken = take c.in_ok-taken.taken c.read.new.into in
    λ _. (
      c.loop-chunk.bytes.items ++ taken,
      read_on _ _ _ _ _ c.loop-chunk.invariant.read c.in_ok-taken.ensures.gives,
      grind (arith, common_steps),
    )
