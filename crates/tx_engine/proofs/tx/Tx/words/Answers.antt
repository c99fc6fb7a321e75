use Rattle.std.proofs.Common.{subst, ◌≡◌, ℕ, ◌+◌, ◌-◌, ◌*◌, ◌≤◌, ◌++◌, length, take, drop, replicate, ap, arith, ◌∙◌, sym}
use Rattle.std.proofs.lemmas.List.{drop-take}
use Rattle.ivs_base.specs.Numbers.{word_of}
use Rattle.call_grammar.specs.Bursts.{WritesBurst}
use Rattle.tx_engine.specs.Sender.{Sender, writes_ahead}
use Rattle.tx_engine.specs.declared.place.Place.TheVariants.{WritingFrameWord, WritingDescAddressLow}
use Rattle.tx_engine.proofs.Fields.{place_holds, length_is}
use Rattle.tx_engine.proofs.FrameBursts.{writes_on, describes_on, descriptor_bytes}
use Rattle.tx_engine.proofs.Padding.{padded_word}
use Rattle.tx_engine.proofs.tx.Tx.words.Goals as goal

pub returns-in-WritingFrameWord-clause-writes : goal.returns-in-WritingFrameWord-clause-writes
returns-in-WritingFrameWord-clause-writes c = λ config end place word value refines first.
    let t = c.self.inside in
    let at = c.in-WritingFrameWord.at in
    let here = ap (λ s. s.place) (sym c.self.view_is) ∙ c.in-WritingFrameWord.is in
    let holds = place_holds t (WritingFrameWord c.in-WritingFrameWord.slot at c.in-WritingFrameWord.more) c.self.invariant c.in-WritingFrameWord.is in
    let begun : 4 * at ≤ t.length = omega (arith, holds.1, length_is t c.self.invariant) in
    let frame : take t.length t.buffer.items ≡ c.args.self.now.frame = ap (λ s. s.frame) c.self.view_is in
    let whole : t.length ≡ 4 * at + (t.length - 4 * at) = omega arith in
    let rest : take (t.length - 4 * at) (drop (4 * at) c.deref.result.now) ≡ drop (4 * at) c.args.self.now.frame =
    ap (λ b. take (t.length - 4 * at) (drop (4 * at) b)) c.deref.ensures.value ∙ sym (drop-take (4 * at) (t.length - 4 * at) t.buffer.items) ∙ ap (λ n. drop (4 * at) (take n t.buffer.items)) (sym whole) ∙ ap (drop (4 * at)) frame in
    let sized : length c.copy_padded.new.into ≡ length c.args.into.now = c.copy_padded.auto.into in
    let few : length c.args.into.now ≤ 4 * (c.in-WritingFrameWord.more + 1) = omega (arith, c.requires.within, ap writes_ahead here) in
    let some = length c.args.into.now - length (take (t.length - 4 * at) (drop (4 * at) c.deref.result.now)) in
    let into : (some : ℕ) × (c.copy_padded.new.into ≡ take (length c.args.into.now) (drop (4 * at) c.args.self.now.frame) ++ replicate some 0) =
    (some, c.copy_padded.ensures ∙ ap (λ b. take (length c.args.into.now) b ++ replicate some 0) rest) in
    writes_on _ config end place word value c.in-WritingFrameWord.slot at c.in-WritingFrameWord.more c.copy_padded.new.into here (omega (arith, sized, c.requires.whole)) (omega (arith, sized, few))
    (λ j within. ap (λ b. word_of (take 4 (drop (4 * j) b))) into.1 ∙ padded_word c.args.self.now.frame (length c.args.into.now) into.0 at j (omega (arith, sized, within)))
    refines first

pub returns-in-WritingDescAddressLow-clause-writes : goal.returns-in-WritingDescAddressLow-clause-writes
returns-in-WritingDescAddressLow-clause-writes c = λ config end place word value refines first.
    let t = c.self.inside in
    let slot = c.in-WritingDescAddressLow.slot in
    let kept = c.self.invariant in
    let here = ap (λ s. s.place) (sym c.self.view_is) ∙ c.in-WritingDescAddressLow.is in
    let holds = place_holds t (WritingDescAddressLow slot) kept c.in-WritingDescAddressLow.is in
    let inside = holds.3 in
    let section = kept.sender.queue.section in
    let sized : length c.args.self.now.frame ≡ t.length = ap (λ (s : Sender). length s.frame) (sym c.self.view_is) ∙ length_is t kept in
    let few : length c.args.into.now ≤ 16 = omega (arith, c.requires.within, ap writes_ahead here) in
    let into : c.put_descriptor.new.into ≡ take (length c.args.into.now) (descriptor_bytes slot.address (length c.args.self.now.frame)) =
    c.put_descriptor.ensures ∙ ap (λ n. take (length c.args.into.now) (descriptor_bytes slot.address n)) (sym sized) in
    subst (λ b. WritesBurst config place word b) (sym into)
    (describes_on _ config end place word value slot (length c.args.into.now) here (omega (arith, inside, section)) (omega (arith, sized, kept.length, kept.sender.queue.mtu_most)) few c.requires.whole refines first)
