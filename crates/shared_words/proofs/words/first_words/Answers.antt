use Rattle.std.proofs.Common.{rules, ◌≡◌, replicate, ◌∙◌}
use Rattle.section_map.specs.Geometry.{word_count}
use Rattle.shared_words.proofs.WordsAtStart.{behind_more, behind_start}
use Rattle.shared_words.proofs.words.first_words.Goals as goal

pub loop-peer-init : goal.loop-peer-init
loop-peer-init c = let key = c.args.key.now in let same : c.in_ok-words.words.items ≡ replicate (word_count key.geometry) 0 = search rules in same ∙ behind_start key.enabled (replicate (word_count key.geometry) 0)

pub loop-peer-preserved : goal.loop-peer-preserved
loop-peer-preserved c = behind_more _ _ _ _ _ c.loop-peer.invariant (search rules)
