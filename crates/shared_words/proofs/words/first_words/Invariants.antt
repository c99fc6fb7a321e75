use Rattle.std.proofs.Common.{◌≡◌, ◌++◌, replicate}
use Rattle.section_map.specs.Geometry.{word_count}
use Rattle.shared_words.specs.Interrupts.{interrupts_at_start}
use Rattle.shared_words.proofs.words.first_words.Given as goal

abbrev pub invariant-loop-peer : goal.invariant-loop-peer
invariant-loop-peer l = l.words.items ≡ replicate (word_count l.key.geometry) 0 ++ interrupts_at_start l.key.enabled l.peer
