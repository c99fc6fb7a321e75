-- Bursts: steps that an end completes together, of which none before the last has a mark.
use Rattle.std.specs.Prelude.{ℕ, ◌≡◌, ◌+◌, ◌*◌, ◌<◌, List, [], ◌∷◌, length, take, drop}
use Rattle.ivs_base.specs.Numbers.{word_of}
use Rattle.split_ring.specs.declared.steps.Access.TheVariants as access
use Rattle.split_ring.specs.declared.steps.Note.{Note}
use Rattle.call_grammar.specs.Ends.{End, end_after}
use Rattle.call_grammar.specs.Ticks.{EndConfig}
use Rattle.call_grammar.specs.Places.{Place, access_at, next_place, step_at}

-- The place after the steps that meet these values.
abbrev pub place_after : EndConfig → Place → List ℕ → Place
place_after config place [] = place
place_after config place (value ∷ values) = place_after config (next_place config place value) values

-- The end after the steps that meet these values.
abbrev pub end_after_all : EndConfig → End → Place → List ℕ → End
end_after_all config end place [] = end
end_after_all config end place (value ∷ values) = end_after_all config (end_after end (step_at config place value)) (next_place config place value) values

-- The next accesses read `count` consecutive words from `word` on, for all values read.
abbrev pub ReadsBurst : EndConfig → Place → (word count : ℕ) → Type 0
ReadsBurst config place word count = (values : List ℕ) → length values < count →
    access_at config (place_after config place values) ≡ access.Read (word + length values)

-- The next accesses write consecutive words from `word` on, whose values are these bytes, four each
-- and the lowest first.
abbrev pub WritesBurst : EndConfig → Place → (word : ℕ) → List ℕ → Type 0
WritesBurst config place word bytes = (values : List ℕ) → 4 * length values < length bytes →
    access_at config (place_after config place values) ≡
    access.Write (word + length values) (word_of (take 4 (drop (4 * length values) bytes)))

-- One step for each of these values, in order. No step before the last has a note, and the last has
-- `notes`.
abbrev pub StepsThrough : {S : Type 0} → (S → ℕ → List Note → S → Type 0) → S → List ℕ → List Note → S → Type 0
StepsThrough Takes old [] notes new = (notes ≡ []) × (new ≡ old)
StepsThrough Takes old (value ∷ []) notes new = Takes old value notes new
StepsThrough {S = S} Takes old (value ∷ next ∷ values) notes new = (between : S) × Takes old value [] between × StepsThrough Takes between (next ∷ values) notes new
