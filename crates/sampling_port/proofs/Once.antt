-- A sample reads each field once.
use Rattle.std.proofs.Common.{◌≡◌, ℕ, zero, suc, ◌+◌, ◌<◌, Bool, true, false, inl, inr, List, [], ◌∷◌, ◌++◌, take, map, sym, ap, ◌∙◌, subst, arith}
use Rattle.std.specs.Prelude.{◌==◌, nat_lt, if◌then◌else◌, Option}
use Rattle.split_ring.specs.declared.steps.Access.TheVariants.{Read}
use Rattle.call_grammar.specs.ReadsOnce.{read_by, reads_of, IsNone, AreDistinct}
use Rattle.call_grammar.specs.Words.{words_for, word_bytes}
use Rattle.sampling_port.specs.Layout.{length_place, data_place}
use Rattle.sampling_port.specs.Marks.{PortMark}
use Rattle.sampling_port.specs.Trees.{Ended, PortStep, port_step, Makes, unmarked_step}
use Rattle.sampling_port.specs.Calls.{read_length, read_words, look_again, is_length}
use Rattle.sampling_port.specs.Laws.{IsReadOnce, FieldsAreReadOnce}
use Rattle.sampling_port.proofs.CallsArePermitted.{length_place_least}

abbrev reads : List PortStep → List ℕ
reads steps = reads_of (map unmarked_step steps)

-- `count` words from this one on.
abbrev words_from : ℕ → ℕ → ℕ → List ℕ
words_from base at zero = []
words_from base at (suc more) = (base + at) ∷ words_from base (at + 1) more

none_from : (word base at count : ℕ) → word < base + at → IsNone word (words_from base at count)
none_from word base at zero low = tt
none_from word base at (suc more) low = ((λ e. omega arith), none_from word base (at + 1) more (omega arith))

distinct_from : (base at count : ℕ) → AreDistinct (words_from base at count)
distinct_from base at zero = tt
distinct_from base at (suc more) = (none_from (base + at) base (at + 1) more (omega arith), distinct_from base (at + 1) more)

-- The read that a step makes.
first_read : (step : PortStep) (word value : ℕ) (mark : Option PortMark) (steps : List PortStep) → step ≡ port_step (Read word) value mark → reads (step ∷ steps) ≡ word ∷ reads steps
first_read step word value mark steps e = ap (λ (s : PortStep). read_by s.access ++ reads steps) e

again_reads : (from other_start number : ℕ) (message : List ℕ) (steps : List PortStep) → Makes (look_again from other_start number message) steps → reads steps ≡ other_start ∷ []
again_reads from other_start number message [] m = absurd m
again_reads from other_start number message (step ∷ steps) m = first_read step other_start m.0 _ steps m.1 ∙ ap (λ (l : List PortStep). other_start ∷ reads l) m.2

words_read : (from other_start most number bytes : ℕ) (read : List ℕ) (at count : ℕ) (steps : List PortStep) → Makes (read_words from other_start most number bytes read at count) steps →
    reads steps ≡ words_from (other_start + data_place most number) at count ++ other_start ∷ []
words_read from other_start most number bytes read at zero steps m = again_reads from other_start number read steps m
words_read from other_start most number bytes read at (suc more) [] m = absurd m
words_read from other_start most number bytes read at (suc more) (step ∷ steps) m =
    first_read step (other_start + data_place most number + at) m.0 _ steps m.1
    ∙ ap (λ (l : List ℕ). (other_start + data_place most number + at) ∷ l) (words_read from other_start most number bytes (take bytes (read ++ word_bytes m.0)) (at + 1) more steps m.2)

-- The reads after the first look: the length alone, or the length, the words and the sequence
-- again.
after_length : (from other_start most number value : ℕ) (steps : List PortStep) (b : Bool) →
    Makes (if b then read_words from other_start most number value [] 0 (words_for value) else Ended) steps → IsReadOnce other_start (other_start ∷ (other_start + length_place most number) ∷ reads steps)
after_length from other_start most number value steps true m =
    let first = other_start + length_place most number in
    let words = words_from (other_start + data_place most number) 0 (words_for value) in
    let least = length_place_least most number in
    inr (
      first ∷ words,
      ap (λ (l : List ℕ). other_start ∷ first ∷ l) (words_read from other_start most number value [] 0 (words_for value) steps m),
      (((λ e. omega arith), none_from other_start _ 0 (words_for value) (omega arith)), (none_from first _ 0 (words_for value) (omega arith), distinct_from _ 0 (words_for value))),
    )
after_length from other_start most number value steps false m =
    let least = length_place_least most number in
    let none : reads steps ≡ [] = ap reads m in
    inl (subst (λ (l : List ℕ). AreDistinct (other_start ∷ (other_start + length_place most number) ∷ l)) (sym none) (((λ e. omega arith), tt), (tt, tt)))

message_once : (from other_start most number : ℕ) (steps : List PortStep) → Makes (read_length from other_start most number) steps → IsReadOnce other_start (other_start ∷ reads steps)
message_once from other_start most number [] m = absurd m
message_once from other_start most number (step ∷ steps) m =
    subst (λ (l : List ℕ). IsReadOnce other_start (other_start ∷ l)) (sym (first_read step (other_start + length_place most number) m.0 _ steps m.1)) (after_length from other_start most number m.0 steps (is_length most m.0) m.2)

ended_once : (other_start : ℕ) (steps : List PortStep) → Makes Ended steps → IsReadOnce other_start (other_start ∷ reads steps)
ended_once other_start steps m = let none : reads steps ≡ [] = ap reads m in inl (subst (λ (l : List ℕ). AreDistinct (other_start ∷ l)) (sym none) (tt, tt))

rest_once : (from other_start most value : ℕ) (steps : List PortStep) (b c : Bool) → Makes (if b then Ended else if c then Ended else read_length from other_start most value) steps → IsReadOnce other_start (other_start ∷ reads steps)
rest_once from other_start most value steps true c m = ended_once other_start steps m
rest_once from other_start most value steps false true m = ended_once other_start steps m
rest_once from other_start most value steps false false m = message_once from other_start most value steps m

pub once : FieldsAreReadOnce
once from other_start most last [] m = absurd m
once from other_start most last (step ∷ steps) m = subst (IsReadOnce other_start) (sym (first_read step other_start m.0 _ steps m.1)) (rest_once from other_start most m.0 steps (nat_lt m.0 last) (m.0 == 0) m.2)
