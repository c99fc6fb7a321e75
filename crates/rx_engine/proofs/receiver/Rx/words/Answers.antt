use Rattle.std.proofs.Common.{◌≤◌, length, ap, subst, sym, ◌∙◌, arith}
use Rattle.call_grammar.specs.Bursts.{WritesBurst}
use Rattle.rx_engine.specs.Receiver.{Receiver, writes_ahead}
use Rattle.rx_engine.proofs.FrameBursts.{gives_on}
use Rattle.rx_engine.proofs.receiver.Rx.words.Goals as goal

pub returns-in-WritingUsedId-clause-writes : goal.returns-in-WritingUsedId-clause-writes
returns-in-WritingUsedId-clause-writes c = λ config end place word value refines first.
    let here = ap (λ (r : Receiver). r.place) (sym c.self.view_is) ∙ c.in-WritingUsedId.is in
    let few : length c.args.into.now ≤ 8 = omega (arith, c.requires.within, ap writes_ahead here) in
    subst (λ b. WritesBurst config place word b) (sym c.put_element.ensures.bytes)
    (gives_on _ config end place word value c.in-WritingUsedId.more c.in-WritingUsedId.entry (length c.args.into.now) here c.put_element.ensures.fits few c.requires.whole refines first)
