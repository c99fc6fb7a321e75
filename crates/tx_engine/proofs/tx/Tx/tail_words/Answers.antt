use Rattle.std.proofs.Common.{subst, ◌≡◌, ◌+◌, ◌<◌, ◌++◌, length, take, ap, arith, ◌∙◌, sym, refl, IfSome}
use Rattle.split_ring.specs.Layout.{limit_of}
use Rattle.call_grammar.specs.Words.{words_for, word_bytes}
use Rattle.tx_engine.specs.declared.place.Place.TheVariants.{WritingFrameWord}
use Rattle.tx_engine.specs.Sender.{Sender, entry_word_of}
use Rattle.tx_engine.specs.Ahead.{bursts_at, bursts_of, listed, last_words, WritesAll}
use Rattle.tx_engine.specs.Representation.{sender_of}
use Rattle.tx_engine.specs.Refinement.{RefinesAt}
use Rattle.tx_engine.proofs.Fields.{place_holds, length_is}
use Rattle.tx_engine.proofs.FrameBursts.{descriptor_bytes}
use Rattle.tx_engine.proofs.Padding.{last_sized, last_word}
use Rattle.tx_engine.proofs.Together.{writes_all}
use Rattle.tx_engine.proofs.tx.Tx.tail_words.Goals as goal

pub entry_word-entry-requires : goal.entry_word-entry-requires
entry_word-entry-requires c =
    let t = c.self.inside in
    let here : t.place ≡ WritingFrameWord c.args.slot c.args.at c.args.more = ap (λ (s : Sender). s.place) c.self.view_is ∙ c.requires.place in
    let holds = place_holds t (WritingFrameWord c.args.slot c.args.at c.args.more) c.self.invariant here in
    subst (λ (s : Sender). c.args.slot.descriptor < limit_of s.sizes) c.self.view_is holds.0.1

pub returns-clause-writes : goal.returns-clause-writes
returns-clause-writes c = λ config end place refines.
    let t = c.self.inside in
    let tx = sender_of t in
    let slot = c.args.slot in
    let at = c.args.at in
    let more = c.args.more in
    let kept = c.self.invariant in
    let here : t.place ≡ WritingFrameWord slot at more = ap (λ (s : Sender). s.place) c.self.view_is ∙ c.requires.place in
    let holds = place_holds t (WritingFrameWord slot at more) kept here in
    let inside = subst (λ s. RefinesAt s config end place) (sym c.self.view_is) refines in
    let tail = c.put_tail.new.into in
    let frame = last_words tx.frame (more + 1) in
    let entry = word_bytes c.entry_word-entry.result in
    let entry_is : c.entry_word-entry.result ≡ entry_word_of tx slot.descriptor = c.entry_word-entry.ensures ∙ ap (λ (s : Sender). entry_word_of s slot.descriptor) (sym c.self.view_is) in
    let whole : at + (more + 1) ≡ words_for (length tx.frame) = omega (arith, holds.1) in
    let bounds = holds.0.3 in
    let section = kept.sender.queue.section in
    let all = writes_all tx config end place slot at more _ frame (take 16 (descriptor_bytes slot.address t.length)) entry (frame ++ tail) kept.sender here
    (omega (arith, bounds, section)) (omega (arith, length_is t kept, kept.length, kept.sender.queue.mtu_most)) (subst (λ m. m < 4294967296) entry_is c.entry_word-entry.type_inv)
    (last_sized tx.frame (more + 1) (omega (arith, whole))) (λ j within. last_word tx.frame at (more + 1) j whole) (ap (λ m. take 16 (descriptor_bytes slot.address m)) (sym (length_is t kept))) (ap word_bytes entry_is)
    (ap (λ b. frame ++ b) c.put_tail.ensures) inside refl in
    subst (λ (s : Sender). IfSome (bursts_of s) (λ bursts. WritesAll config place (listed bursts) (last_words s.frame bursts.frame.count ++ tail))) c.self.view_is
    (subst (λ p. IfSome (bursts_at p tx) (λ bursts. WritesAll config place (listed bursts) (last_words tx.frame bursts.frame.count ++ tail))) (sym here) all)
