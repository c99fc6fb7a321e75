-- The frames that a poll delivers, in terms of the words of the other's section. The values read
-- for an item hold a frame as the words of a section do.
use Rattle.std.specs.Prelude.{ℕ, ◌≡◌, ◌-◌, List, [], ◌∷◌}
use Rattle.split_ring.specs.declared.steps.Access.{Access}
use Rattle.split_ring.specs.declared.steps.Access.TheVariants as access
use Rattle.split_ring.specs.Spelling.{Spells}
use Rattle.call_grammar.specs.Steps.{Step}
use Rattle.call_grammar.specs.Ticks.{EndConfig}
use Rattle.call_grammar.specs.Words.{frame_in}
use Rattle.call_grammar.specs.Polls.{Item, item_entry, IsValidItem, item_steps}

-- In the following definitions, `words` gives the value of each word of the other's section, by its
-- number from the start of the section.

-- If the access is a read, the value that it met is the word's value.
abbrev pub MatchesWords : EndConfig → (ℕ → ℕ) → Access → ℕ → Type 0
MatchesWords config words (access.Read word) value = value ≡ words (word - config.other_start)
MatchesWords config words _ value = Unit {0}

-- Each read of these steps met the word's value.
abbrev pub AllMatchWords : EndConfig → (ℕ → ℕ) → List Step → Type 0
AllMatchWords config words [] = Unit {0}
AllMatchWords config words (step ∷ steps) = MatchesWords config words step.access step.value × AllMatchWords config words steps

-- Every section that holds the values read for a valid item holds the delivered frame at its
-- position. So the fields and the bytes of a frame are the same in values read one after another as
-- in a section's words.
abbrev pub ReadItemsAreSpelled : Type 0
ReadItemsAreSpelled = (config : EndConfig) (number : ℕ) (read : Item) (words : ℕ → ℕ) → IsValidItem config number read →
    AllMatchWords config words (item_steps config number read) → Spells config.sizes words number (item_entry config number read) (frame_in read.bytes read.words)
