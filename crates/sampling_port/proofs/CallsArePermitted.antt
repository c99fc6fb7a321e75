-- The accesses of a publish and of a sample are permitted.
use Rattle.std.proofs.Common.{◌≡◌, ℕ, zero, suc, ◌+◌, ◌/◌, ◌%◌, ◌<◌, ◌≤◌, Bool, true, false, inr, List, [], ◌++◌, length, take, refl, arith}
use Rattle.std.proofs.lemmas.Bool.Decides.{nat_tests}
use Rattle.std.specs.Prelude.{◌==◌, nat_lt, if◌then◌else◌}
use Rattle.section_map.specs.Geometry.{Shape, section_start}
use Rattle.call_grammar.specs.Permitted.{IsPermittedTree}
use Rattle.call_grammar.specs.Ticks.{EndConfig}
use Rattle.call_grammar.specs.Words.{words_for, word_bytes}
use Rattle.sampling_port.specs.Layout.{IsMessageSize, port_words, length_place, data_place}
use Rattle.sampling_port.specs.Trees.{PortTree, Ended, unmarked}
use Rattle.sampling_port.specs.Calls.{publish, write_words, sample, read_length, read_words, is_length}
use Rattle.sampling_port.specs.Laws.{config_of, CallsArePermitted}

-- Offsets of the buffers

place_least : (most : ℕ) (b : Bool) → 1 ≤ (if b then 1 else 2 + most / 4)
place_least most true = omega arith
place_least most false = omega arith

place_most : (most : ℕ) (b : Bool) → (if b then 1 else 2 + most / 4) ≤ 2 + most / 4
place_most most true = omega arith
place_most most false = omega arith

pub length_place_least : (most number : ℕ) → 1 ≤ length_place most number
length_place_least most number = place_least most (number % 2 == 0)

pub length_place_most : (most number : ℕ) → length_place most number ≤ 2 + most / 4
length_place_most most number = place_most most (number % 2 == 0)

-- A word of a message is in the section.
within : (out most number at : ℕ) → IsMessageSize most → port_words most ≤ out → at < most / 4 → data_place most number + at < out
within out most number at size room less = omega (arith, length_place_most most number)

length_within : (out most number : ℕ) → IsMessageSize most → port_words most ≤ out → length_place most number < out
length_within out most number size room = omega (arith, length_place_most most number)

-- A publish

words_stay : (shape : Shape) (me from most number : ℕ) (message : List ℕ) (at count : ℕ) → IsMessageSize most → port_words most ≤ shape.out → at + count ≤ most / 4 →
    IsPermittedTree (config_of shape me from) (unmarked (write_words (section_start shape me) most number message at count))
words_stay shape me from most number message at zero size room few = ((omega arith, omega arith), tt)
words_stay shape me from most number message at (suc more) size room few =
    ((omega arith, omega (arith, within shape.out most number at size room (omega arith))), words_stay shape me from most number message (at + 1) more size room (omega arith))

publishes_stay : (shape : Shape) (me from most number : ℕ) (message : List ℕ) → IsMessageSize most → port_words most ≤ shape.out → length message ≤ most →
    IsPermittedTree (config_of shape me from) (unmarked (publish (section_start shape me) most number message))
publishes_stay shape me from most number message size room fits =
    ((omega arith, omega (arith, length_within shape.out most number size room)), words_stay shape me from most number message 0 (words_for (length message)) size room (omega arith))

-- A sample

either_stays : (config : EndConfig) (b : Bool) (t u : PortTree) → IsPermittedTree config (unmarked t) → IsPermittedTree config (unmarked u) → IsPermittedTree config (unmarked (if b then t else u))
either_stays config true t u s s' = s
either_stays config false t u s s' = s'

reads_stay : (shape : Shape) (me from most number bytes : ℕ) (read : List ℕ) (at count : ℕ) → IsMessageSize most → port_words most ≤ shape.out → at + count ≤ most / 4 →
    IsPermittedTree (config_of shape me from) (unmarked (read_words from (section_start shape from) most number bytes read at count))
reads_stay shape me from most number bytes read at zero size room few = (inr (omega arith, omega arith), λ value. tt)
reads_stay shape me from most number bytes read at (suc more) size room few =
    (inr (omega arith, omega (arith, within shape.out most number at size room (omega arith))), λ value. reads_stay shape me from most number bytes (take bytes (read ++ word_bytes value)) (at + 1) more size room (omega arith))

fits : (most value : ℕ) → is_length most value ≡ true → value ≤ most
fits most value is = grind (arith, nat_tests)

message_stays : (shape : Shape) (me from most number value : ℕ) → IsMessageSize most → port_words most ≤ shape.out → (b : Bool) → is_length most value ≡ b →
    IsPermittedTree (config_of shape me from) (unmarked (if b then read_words from (section_start shape from) most number value [] 0 (words_for value) else Ended))
message_stays shape me from most number value size room true is = let few = fits most value is in reads_stay shape me from most number value [] 0 (words_for value) size room (omega arith)
message_stays shape me from most number value size room false is = tt

length_stays : (shape : Shape) (me from most number : ℕ) → IsMessageSize most → port_words most ≤ shape.out →
    IsPermittedTree (config_of shape me from) (unmarked (read_length from (section_start shape from) most number))
length_stays shape me from most number size room =
    (inr (omega arith, omega (arith, length_within shape.out most number size room)), λ value. message_stays shape me from most number value size room (is_length most value) refl)

samples_stay : (shape : Shape) (me from most last : ℕ) → IsMessageSize most → port_words most ≤ shape.out →
    IsPermittedTree (config_of shape me from) (unmarked (sample from (section_start shape from) most last))
samples_stay shape me from most last size room = (
  inr (omega arith, omega arith),
  λ value. either_stays (config_of shape me from) (nat_lt value last) Ended _ tt (either_stays (config_of shape me from) (value == 0) Ended _ tt (length_stays shape me from most value size room)),
)

pub reaching : CallsArePermitted
reaching = record { publishes = publishes_stay; samples = samples_stay }
