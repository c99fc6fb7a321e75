-- The sender after the write of a word of the frame.
use Rattle.std.proofs.Common.{◌≡◌, ℕ, zero, suc, ◌+◌, ◌-◌, ◌<◌, List, [], refl, sym, ap, ◌∙◌, subst, arith}
use Rattle.split_ring.specs.declared.steps.Note.{Note}
use Rattle.frame_slots.specs.declared.slots.Slot as slots
use Rattle.tx_engine.specs.declared.place.Place.{Place}
use Rattle.tx_engine.specs.declared.place.Place.TheVariants.{WritingFrameWord, WritingDescAddressLow}
use Rattle.tx_engine.specs.Sender.{Sender, IsSender}
use Rattle.tx_engine.specs.Refinement.{TakesStep}
use Rattle.tx_engine.proofs.AfterWrites.{fills_on, fills_last}

-- A step without a note.
pub quiet : (tx new next : Sender) (value : ℕ) (notes : List Note) → TakesStep tx value [] next → new ≡ next → notes ≡ [] → TakesStep tx value notes new
quiet tx new next value notes takes new_is notes_are = subst (λ n. TakesStep tx value n new) (sym notes_are) (subst (TakesStep tx value []) (sym new_is) takes)

pub word_written : (tx new : Sender) (slot : slots.Slot) (at more value : ℕ) (place : Place) (notes : List Note) → IsSender tx → tx.place ≡ WritingFrameWord slot at more →
    (0 < more → place ≡ WritingFrameWord slot (at + 1) (more - 1)) → (more ≡ 0 → place ≡ WritingDescAddressLow slot) → new ≡ record tx { place = place } → notes ≡ [] → TakesStep tx value notes new
word_written tx new slot at zero value place notes is here on last new_is notes_are =
    subst (λ n. TakesStep tx value n new) (sym notes_are)
    (subst (λ s. TakesStep tx value [] s) (sym (new_is ∙ ap (λ p. let s : Sender = record tx { place = p } in s) (last refl))) (fills_last tx slot at value is here))
word_written tx new slot at (suc more) value place notes is here on last new_is notes_are =
    let goes : place ≡ WritingFrameWord slot (at + 1) more = on (omega arith) ∙ ap (λ m. WritingFrameWord slot (at + 1) m) (omega arith) in
    subst (λ n. TakesStep tx value n new) (sym notes_are)
    (subst (λ s. TakesStep tx value [] s) (sym (new_is ∙ ap (λ p. let s : Sender = record tx { place = p } in s) goes)) (fills_on tx slot at more value is here))
