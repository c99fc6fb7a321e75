-- The words of the region, and those of the sessions, among all words.
use Rattle.std.proofs.Common.{◌≡◌, ℕ, ◌<◌, ◌≤◌, List, length, get_or, set, take, arith}
use Rattle.std.proofs.lemmas.List.{get_or-set_same, get_or-set_other, get_or-take, get_or_past, length-take}
use Rattle.section_map.specs.Geometry.{word_count}
use Rattle.link_invariant.specs.Steps.{Stored}
use Rattle.shared_words.specs.declared.run_setup.RunSetup.{RunSetup}
use Rattle.shared_words.specs.Rules.{region}

pub region_at : (key : RunSetup) (words : List ℕ) (w : ℕ) → w < word_count key.geometry → region key words w ≡ get_or words w 0
region_at key words w lt = get_or-take (word_count key.geometry) words w 0 lt

pub region_past : (key : RunSetup) (words : List ℕ) (w : ℕ) → word_count key.geometry ≤ w → region key words w ≡ 0
region_past key words w le = get_or_past (take (word_count key.geometry) words) w 0 (omega (arith, length-take (word_count key.geometry) words))

-- A store in a list of words.
pub stored : (words : List ℕ) (i n : ℕ) → i < length words → Stored (λ w. get_or words w 0) (λ w. get_or (set words i n) w 0) i n
stored words i n room = record { here = get_or-set_same words i n 0 room; neighbour_word = λ w ne. get_or-set_other words i w n 0 ne }
