use Rattle.std.proofs.Common.{◌≡◌, ◌+◌, ◌-◌, ◌*◌, List, [], ◌∷◌, ◌++◌, length, take, min, ap, arith, ◌∙◌, sym}
use Rattle.std.proofs.lemmas.Grind.{common_steps}
use Rattle.std.proofs.lemmas.List.{take_all}
use Rattle.std.specs.List.{flat_map}
use Rattle.split_ring.specs.declared.steps.Note.{Note}
use Rattle.split_ring.specs.declared.steps.Note.TheVariants.{Deliver}
use Rattle.call_grammar.specs.Words.{word_bytes}
use Rattle.rx_engine.specs.Receiver.{words_read}
use Rattle.rx_engine.proofs.GatheredFrame.{length-words}
use Rattle.rx_engine.proofs.FrameBursts.{words_go, words_deliver}
use Rattle.rx_engine.proofs.receiver.Rx.took_frame_words.Goals as goal

pub returns-then-last-clause-steps : goal.returns-then-last-clause-steps
returns-then-last-clause-steps c = λ values words_are.
    let sized : length c.args.words.now ≡ 4 * length values = ap length words_are ∙ length-words values in
    let here : words_read c.self.inside.place ≡ c.args.at = ap words_read (ap (λ r. r.place) c.self.view_is ∙ c.requires.place) in
    let front : take (4 * c.args.at) c.deref_mut.result.now ≡ c.args.self.now.gathered =
    ap (take (4 * c.args.at)) c.deref_mut.ensures.value ∙ ap (λ n. take (4 * n) c.self.inside.buffer.items) (sym here) ∙ ap (λ r. r.gathered) c.self.view_is in
    let all : min c.args.bytes (4 * c.args.at + length c.args.words.now) ≡ c.args.bytes = omega (arith, c.if-last.true) in
    let frame : take c.args.bytes c.put_words.new.buffer ≡ c.args.self.now.gathered ++ take (c.args.bytes - 4 * c.args.at) (flat_map word_bytes values) =
    ap (λ n. take n c.put_words.new.buffer) (sym all) ∙ c.put_words.ensures ∙ ap (λ f. f ++ take (c.args.bytes - 4 * c.args.at) c.args.words.now) front ∙ ap (λ w. c.args.self.now.gathered ++ take (c.args.bytes - 4 * c.args.at) w) words_are in
    words_deliver _ _ _ c.args.more c.args.entry c.args.address c.args.bytes c.args.at values c.requires.place (omega (arith, c.requires.some)) (omega (arith, c.if-last.true)) (omega (arith, c.requires.within)) (grind (arith, common_steps)) (c.push.ensures.items ∙ ap (λ (n : List Note). n ++ Deliver ∷ []) c.requires.empty)

pub returns-else-last-clause-steps : goal.returns-else-last-clause-steps
returns-else-last-clause-steps c = λ values words_are.
    let sized : length c.args.words.now ≡ 4 * length values = ap length words_are ∙ length-words values in
    let here : words_read c.self.inside.place ≡ c.args.at = ap words_read (ap (λ r. r.place) c.self.view_is ∙ c.requires.place) in
    let front : take (4 * c.args.at) c.deref_mut.result.now ≡ c.args.self.now.gathered =
    ap (take (4 * c.args.at)) c.deref_mut.ensures.value ∙ ap (λ n. take (4 * n) c.self.inside.buffer.items) (sym here) ∙ ap (λ r. r.gathered) c.self.view_is in
    let some : min c.args.bytes (4 * c.args.at + length c.args.words.now) ≡ 4 * (c.args.at + length values) = omega (arith, c.if-last.false) in
    let whole : take (c.args.bytes - 4 * c.args.at) c.args.words.now ≡ c.args.words.now = take_all _ _ (omega (arith, c.if-last.false, sized)) in
    let gathered : take (4 * (c.args.at + length values)) c.put_words.new.buffer ≡ c.args.self.now.gathered ++ flat_map word_bytes values =
    ap (λ n. take n c.put_words.new.buffer) (sym some) ∙ c.put_words.ensures ∙ ap (λ f. f ++ take (c.args.bytes - 4 * c.args.at) c.args.words.now) front ∙ ap (λ w. c.args.self.now.gathered ++ w) (whole ∙ words_are) in
    words_go _ _ _ c.args.more c.args.entry c.args.address c.args.bytes c.args.at values c.requires.place (omega (arith, c.requires.some)) (omega (arith, c.if-last.false)) (grind (arith, common_steps)) c.requires.empty

pub returns-then-last-clause-frame : goal.returns-then-last-clause-frame
returns-then-last-clause-frame c = λ first whole.
    let all : min c.args.bytes (4 * c.args.at + length c.args.words.now) ≡ c.args.bytes = omega (arith, c.if-last.true) in
    let none : take (4 * c.args.at) c.deref_mut.result.now ≡ [] = ap (λ n. take (4 * n) c.deref_mut.result.now) first in
    let rest : c.args.bytes - 4 * c.args.at ≡ c.args.bytes = omega (arith, first) in
    let frame : take c.args.bytes c.put_words.new.buffer ≡ take c.args.bytes c.args.words.now =
    ap (λ n. take n c.put_words.new.buffer) (sym all) ∙ c.put_words.ensures ∙ ap (λ f. f ++ take (c.args.bytes - 4 * c.args.at) c.args.words.now) none ∙ ap (λ n. take n c.args.words.now) rest in
    grind (arith, common_steps)

pub returns-else-last-clause-frame : goal.returns-else-last-clause-frame
returns-else-last-clause-frame c = λ first whole. absurd (omega (arith, first, whole, c.if-last.false))
