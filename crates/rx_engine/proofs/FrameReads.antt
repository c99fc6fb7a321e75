-- The steps of a poll that read a frame's words.
use Rattle.std.proofs.Common.{◌≡◌, ℕ, ◌+◌, ◌-◌, ◌*◌, ◌<◌, ◌≤◌, suc, List, [], ◌∷◌, ◌++◌, length, take, sym, ap, ◌∙◌, arith}
use Rattle.std.proofs.lemmas.Grind.{common_steps}
use Rattle.std.proofs.lemmas.List.{take_all}
use Rattle.std.specs.List.{flat_map}
use Rattle.split_ring.specs.declared.steps.Note.{Note}
use Rattle.split_ring.specs.declared.steps.Note.TheVariants as note
use Rattle.call_grammar.specs.Ends.{End}
use Rattle.call_grammar.specs.Ticks.{EndConfig}
use Rattle.call_grammar.specs.Words.{word_bytes, words_for, frame_in}
use Rattle.call_grammar.specs.Places as laws
use Rattle.rx_engine.specs.Receiver.{Receiver, words_read}
use Rattle.rx_engine.specs.Refinement.{RefinesAt, TakesAt, place_view}
use Rattle.rx_engine.specs.declared.place.Place.TheVariants.{ReadingFrameWord, WritingUsedId}
use Rattle.rx_engine.proofs.GatheredFrame.{words_more, frame_more}

-- The last word of a frame is read.
pub word_delivers : (old new : Receiver) (notes : List Note) (config : EndConfig) (end : End) (place : laws.Place) (more entry address bytes at value : ℕ) →
    old.place ≡ ReadingFrameWord more entry address bytes at →
    new ≡ record old { place = WritingUsedId more entry; frame = new.frame; gathered = [] } →
    new.frame ≡ old.gathered ++ take (bytes - 4 * at) (word_bytes value) →
    notes ≡ note.Deliver ∷ [] → 4 * at < bytes → bytes - 4 * at ≤ 4 →
    RefinesAt old config end place → TakesAt old value notes new config end place
word_delivers old new notes config end place more entry address bytes at value at_word new_is frame_is notes_is some last refines =
    let count : length refines.read ≡ at = refines.read_count ∙ ap words_read at_word in
    let at_place : place ≡ laws.ReadingFrameWord end.returned more entry address bytes refines.read (words_for bytes - (at + 1)) = refines.place_is ∙ ap (place_view end.returned refines.read) at_word in
    let none : words_for bytes - (at + 1) ≡ 0 = omega arith in
    let whole : new.frame ≡ frame_in bytes (refines.read ++ value ∷ []) = frame_is ∙ ap (λ g. g ++ take (bytes - 4 * at) (word_bytes value)) refines.gathered ∙ frame_more bytes at value refines.read count (omega arith) in
    grind (arith, common_steps)

-- A word before the last is read.
pub word_goes : (old new : Receiver) (notes : List Note) (config : EndConfig) (end : End) (place : laws.Place) (more entry address bytes at value : ℕ) →
    old.place ≡ ReadingFrameWord more entry address bytes at →
    new ≡ record old { place = ReadingFrameWord more entry address bytes (at + 1); gathered = new.gathered } →
    new.gathered ≡ old.gathered ++ take (bytes - 4 * at) (word_bytes value) →
    notes ≡ [] → 4 < bytes - 4 * at →
    RefinesAt old config end place → TakesAt old value notes new config end place
word_goes old new notes config end place more entry address bytes at value at_word new_is gathered_is notes_is some refines =
    let count : length refines.read ≡ at = refines.read_count ∙ ap words_read at_word in
    let at_place : place ≡ laws.ReadingFrameWord end.returned more entry address bytes refines.read (words_for bytes - (at + 1)) = refines.place_is ∙ ap (place_view end.returned refines.read) at_word in
    let one_more : words_for bytes - (at + 1) ≡ suc (words_for bytes - (at + 1 + 1)) = omega arith in
    let whole : take (bytes - 4 * at) (word_bytes value) ≡ word_bytes value = take_all _ _ (omega arith) in
    let gathered : new.gathered ≡ flat_map word_bytes (refines.read ++ value ∷ []) = gathered_is ∙ ap (λ b. old.gathered ++ b) whole ∙ ap (λ g. g ++ word_bytes value) refines.gathered ∙ sym (words_more refines.read value) in
    grind (arith, common_steps)
