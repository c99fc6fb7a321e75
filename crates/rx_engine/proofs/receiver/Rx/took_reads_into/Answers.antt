use Rattle.std.proofs.Common.{◌≡◌, ℕ, zero, suc, ◌*◌, List, length, take, refl, sym, ap, ◌∙◌, subst, arith, IfSome}
use Rattle.call_grammar.specs.Words.{words_for}
use Rattle.rx_engine.specs.Receiver.{Receiver, frame_ahead, reads_ahead}
use Rattle.rx_engine.specs.declared.place.Place.TheVariants.{ReadingFrameWord}
use Rattle.rx_engine.proofs.receiver.Rx.took_reads_into.Goals as goal

-- All words of a frame, from the first one on.
whole : (more entry address bytes at : ℕ) (words frame : List ℕ) → (at ≡ 0 → length words ≡ 4 * words_for bytes → frame ≡ take bytes words) →
    IfSome (frame_ahead (ReadingFrameWord more entry address bytes at)) (λ n. length words ≡ 4 * reads_ahead (ReadingFrameWord more entry address bytes at) → frame ≡ take n words)
whole more entry address bytes zero words frame delivers = λ all. delivers refl (omega (arith, all))
whole more entry address bytes (suc at) words frame delivers = tt

pub returns-clause-frame : goal.returns-clause-frame
returns-clause-frame c =
    let at = c.in-ReadingFrameWord in
    let here : c.args.self.now.place ≡ ReadingFrameWord at.more at.entry at.address at.bytes at.at = ap (λ (r : Receiver). r.place) (sym c.self.view_is) ∙ at.is in
    subst (λ p. IfSome (frame_ahead p) (λ n. length c.args.words.now ≡ 4 * reads_ahead p → c.took_frame_words.new.self.frame ≡ take n c.args.words.now)) (sym here)
    (whole at.more at.entry at.address at.bytes at.at c.args.words.now c.took_frame_words.new.self.frame c.took_frame_words.ensures.frame)
