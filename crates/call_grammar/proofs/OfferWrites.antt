-- The writes of an offer, by their numbers.
use Rattle.std.proofs.Common.{◌≡◌, ℕ, zero, suc, ◌+◌, ◌/◌, ◌<◌, List, [], ◌++◌, length, get_or, ap, ◌∙◌, arith}
use Rattle.std.specs.Prelude.{◌==◌}
use Rattle.std.proofs.lemmas.Bool.Decides.{nat_tests}
use Rattle.call_grammar.specs.Steps.{Step}
use Rattle.call_grammar.specs.Ticks.{EndConfig}
use Rattle.call_grammar.specs.Words.{words_for, frame_word}
use Rattle.call_grammar.specs.Offers.{PendingOffer, start_at, write_step, frame_write_steps, publish_steps}
use Rattle.call_grammar.specs.Calls.{down_step}
use Rattle.call_grammar.specs.Tasks.{Publishing, steps_of}
use Rattle.call_grammar.specs.PlaceTable.{Doing, next_place, place_after}
use Rattle.call_grammar.proofs.OfferLists.{no}

-- The write of a word of the frame.
abbrev pub word_write : EndConfig → PendingOffer → ℕ → Step
word_write config pending at = write_step (config.own + start_at config pending / 4 + at) (frame_word pending.frame at) []

-- Write k of the words from `from` on.
pub frame_write_at : (config : EndConfig) (pending : PendingOffer) (from n k : ℕ) (rest : List Step) → k < n →
    get_or (frame_write_steps config pending from n ++ rest) k down_step ≡ word_write config pending (from + k)
frame_write_at config pending from zero k rest lt = absurd (omega arith)
frame_write_at config pending from (suc n) zero rest lt = ap (word_write config pending) (omega arith)
frame_write_at config pending from (suc n) (suc k) rest lt =
    frame_write_at config pending (from + 1) n k rest (omega arith) ∙ ap (word_write config pending) (omega arith)

-- The writes after the words.
pub after_words : (config : EndConfig) (pending : PendingOffer) (from n at k : ℕ) (rest : List Step) → at ≡ n + k →
    get_or (frame_write_steps config pending from n ++ rest) at down_step ≡ get_or rest k down_step
after_words config pending from zero at k rest is = ap (λ j. get_or rest j down_step) (omega arith)
after_words config pending from (suc n) zero k rest is = absurd (omega arith)
after_words config pending from (suc n) (suc at) k rest is =
    after_words config pending (from + 1) n at k rest (omega arith)

-- The number of an offer's writes, and the place after each but the last.
pub frame_writes_length : (config : EndConfig) (pending : PendingOffer) (from n : ℕ) (rest : List Step) →
    length (frame_write_steps config pending from n ++ rest) ≡ n + length rest
frame_writes_length config pending from zero rest = omega arith
frame_writes_length config pending from (suc n) rest =
    omega (arith, frame_writes_length config pending (from + 1) n rest)

pub next_write : (config : EndConfig) (pending : PendingOffer) (at value : ℕ) → at < words_for (length pending.frame) + 5 →
    next_place config (Doing (Publishing pending) at) value ≡ Doing (Publishing pending) (at + 1)
next_write config pending at value lt =
    no (at + 1 == length (steps_of config (Publishing pending)))
    (place_after config (Publishing pending)) (Doing (Publishing pending) (at + 1))
    (let n = frame_writes_length config pending 0 (words_for (length pending.frame)) (publish_steps config pending) in grind (arith, nat_tests))
