use Rattle.std.proofs.Common.{inl, inr, refl, arith}
use Rattle.std.proofs.lemmas.Grind.{common_steps}
use Rattle.ivs_base.proofs.memory_ends.MemorySinkSink.write.Goals as goal
use Rattle.ivs_base.proofs.memory_ends.MemorySinkSink.write.Goals.{then-contains-via-then-contains, then-contains-via-else-contains+then-count-self}

pub returns-then-contains-clause-fails : goal.returns-then-contains-clause-fails
returns-then-contains-clause-fails c =
    elim c.then-contains.branch [ then-contains-via-then-contains w ↦ (λ _. inl (grind (arith, common_steps)), λ _. refl) | then-contains-via-else-contains+then-count-self w ↦ (λ _. inr (grind (arith, common_steps)), λ _. refl) ]
