use Rattle.std.proofs.Common.{◌≡◌, refl, ap, sym, ◌∙◌, subst}
use Rattle.tx_engine.specs.Sender.{Sender, IsSender}
use Rattle.tx_engine.specs.declared.place.Place.TheVariants.{WritingDescAddressLow, WritingDescAddressHigh, WritingDescLength, WritingDescFlags}
use Rattle.tx_engine.proofs.AfterFrameWord.{word_written, quiet}
use Rattle.tx_engine.proofs.AfterWrites.{writes_low, writes_high, writes_length, writes_flags}
use Rattle.tx_engine.proofs.tx.Tx.took_into.Goals as goal

pub returns-in-WritingFrameWord : goal.returns-in-WritingFrameWord
returns-in-WritingFrameWord c =
    let is = subst IsSender c.self.view_is c.self.invariant.sender in
    let here = ap (λ (s : Sender). s.place) (sym c.self.view_is) ∙ c.in-WritingFrameWord.is in
    word_written _ _ c.in-WritingFrameWord.slot c.in-WritingFrameWord.at c.in-WritingFrameWord.more c.args.value c.frame_place.result _ is here c.frame_place.ensures.word c.frame_place.ensures.after c.go_on.ensures c.requires.empty

pub returns-in-WritingDescAddressLow : goal.returns-in-WritingDescAddressLow
returns-in-WritingDescAddressLow c =
    let is = subst IsSender c.self.view_is c.self.invariant.sender in
    let here : c.args.self.now.place ≡ WritingDescAddressLow c.in-WritingDescAddressLow.slot = ap (λ (s : Sender). s.place) (sym c.self.view_is) ∙ c.in-WritingDescAddressLow.is in
    quiet _ _ _ _ _ (writes_low _ _ c.args.value is here) c.go_on-in-WritingDescAddressLow.ensures c.requires.empty

pub returns-in-WritingDescAddressHigh : goal.returns-in-WritingDescAddressHigh
returns-in-WritingDescAddressHigh c =
    let is = subst IsSender c.self.view_is c.self.invariant.sender in
    let here : c.args.self.now.place ≡ WritingDescAddressHigh c.in-WritingDescAddressHigh.slot = ap (λ (s : Sender). s.place) (sym c.self.view_is) ∙ c.in-WritingDescAddressHigh.is in
    quiet _ _ _ _ _ (writes_high _ _ c.args.value is here) c.go_on-in-WritingDescAddressHigh.ensures c.requires.empty

pub returns-in-WritingDescLength : goal.returns-in-WritingDescLength
returns-in-WritingDescLength c =
    let is = subst IsSender c.self.view_is c.self.invariant.sender in
    let here : c.args.self.now.place ≡ WritingDescLength c.in-WritingDescLength.slot = ap (λ (s : Sender). s.place) (sym c.self.view_is) ∙ c.in-WritingDescLength.is in
    quiet _ _ _ _ _ (writes_length _ _ c.args.value is here) c.go_on-in-WritingDescLength.ensures c.requires.empty

pub returns-in-WritingDescFlags : goal.returns-in-WritingDescFlags
returns-in-WritingDescFlags c =
    let is = subst IsSender c.self.view_is c.self.invariant.sender in
    let here : c.args.self.now.place ≡ WritingDescFlags c.in-WritingDescFlags.slot = ap (λ (s : Sender). s.place) (sym c.self.view_is) ∙ c.in-WritingDescFlags.is in
    quiet _ _ _ _ _ (writes_flags _ _ c.args.value is here) c.go_on-in-WritingDescFlags.ensures c.requires.empty

pub returns-in-WritingAvailEntry : goal.returns-in-WritingAvailEntry
returns-in-WritingAvailEntry c = quiet _ _ _ _ _ (c.write_avail_entry.ensures.step c.args.value).takes refl c.requires.empty

pub returns-in-WritingAvailIndex : goal.returns-in-WritingAvailIndex
returns-in-WritingAvailIndex c = c.wrote_index.ensures c.args.value
