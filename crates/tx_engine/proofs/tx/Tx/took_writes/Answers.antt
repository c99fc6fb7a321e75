use Rattle.std.proofs.Common.{[], subst, ◌≡◌, ◌+◌, ◌-◌, ℕ, ◌<◌, length, ap, arith, ◌∙◌, sym, zero, suc, refl}
use Rattle.frame_slots.specs.declared.slots.Slot as slots
use Rattle.call_grammar.specs.Bursts.{StepsThrough}
use Rattle.tx_engine.specs.declared.place.Place.{Place}
use Rattle.tx_engine.specs.declared.place.Place.TheVariants.{WritingFrameWord, WritingDescAddressLow}
use Rattle.tx_engine.specs.Sender.{Sender, writes_ahead}
use Rattle.tx_engine.specs.Continuations.{descriptor_place_of}
use Rattle.tx_engine.specs.Representation.{sender_of}
use Rattle.tx_engine.specs.Refinement.{StaysOpen}
use Rattle.tx_engine.proofs.FrameBursts.{fills, fill_at, describes}
use Rattle.tx_engine.proofs.Fields.{place_holds}
use Rattle.tx_engine.proofs.tx.Tx.took_writes.Goals as goal

filled : (slot : slots.Slot) (at count : ℕ) (place : Place) → (0 < count → place ≡ WritingFrameWord slot at (count - 1)) → (count ≡ 0 → place ≡ WritingDescAddressLow slot) → place ≡ fill_at slot at count
filled slot at zero place word after = after refl
filled slot at (suc more) place word after = word (omega arith) ∙ ap (WritingFrameWord slot at) (omega arith)

pub returns-in-WritingFrameWord : goal.returns-in-WritingFrameWord
returns-in-WritingFrameWord c = λ values count.
    let t = c.self.inside in
    let slot = c.in-WritingFrameWord.slot in
    let at = c.in-WritingFrameWord.at in
    let more = c.in-WritingFrameWord.more in
    let kept = c.self.invariant in
    let holds = place_holds t (WritingFrameWord slot at more) kept c.in-WritingFrameWord.is in
    let within = c.requires.within in
    let few : writes_ahead c.args.self.now.place ≡ more + 1 = ap (λ (s : Sender). writes_ahead s.place) (sym c.self.view_is) ∙ ap writes_ahead c.in-WritingFrameWord.is in
    let after : c.frame_place-self-inside.result ≡ fill_at slot (at + length values) (more + 1 - length values) =
    filled slot (at + c.args.count) (more + 1 - c.args.count) _ c.frame_place-self-inside.ensures.word c.frame_place-self-inside.ensures.after ∙ ap (λ n. fill_at slot (at + n) (more + 1 - n)) (sym count) in
    rw (← c.self.view_is) (fills (sender_of t) _ slot at more values kept.sender holds.0 (holds.1) c.in-WritingFrameWord.is (omega (arith, count, c.requires.some)) (omega (arith, count, within, few))
    (ap (λ p. record (sender_of t) { place = p }) after))

pub returns-in-WritingDescAddressLow : goal.returns-in-WritingDescAddressLow
returns-in-WritingDescAddressLow c = λ values count.
    let t = c.self.inside in
    let slot = c.in-WritingDescAddressLow.slot in
    let kept = c.self.invariant in
    let holds = place_holds t (WritingDescAddressLow slot) kept c.in-WritingDescAddressLow.is in
    let within = c.requires.within in
    let few : writes_ahead c.args.self.now.place ≡ 4 = ap (λ (s : Sender). writes_ahead s.place) (sym c.self.view_is) ∙ ap writes_ahead c.in-WritingDescAddressLow.is in
    let after : c.descriptor_place-self-inside.result ≡ descriptor_place_of slot c.args.count = c.descriptor_place-self-inside.ensures in
    rw (← c.self.view_is) (subst (λ p. StepsThrough StaysOpen (sender_of t) values [] (record (sender_of t) { place = p })) (sym after) (describes (sender_of t) slot c.args.count values kept.sender holds c.in-WritingDescAddressLow.is c.requires.some (omega (arith, within, few)) count))
