use Rattle.std.proofs.Common.{◌≡◌, ℕ, ◌*◌, [], take, ap, subst, sym, ◌∙◌, arith}
use Rattle.call_grammar.specs.Bursts.{StepsThrough}
use Rattle.rx_engine.specs.Receiver.{Receiver, words_read}
use Rattle.rx_engine.specs.declared.place.Place.TheVariants.{WritingUsedId, WritingUsedIndex}
use Rattle.rx_engine.specs.Representation.{receiver_of}
use Rattle.rx_engine.specs.Refinement.{StaysOpen}
use Rattle.rx_engine.proofs.FrameBursts.{gives}
use Rattle.rx_engine.proofs.receiver.Rx.gave_element.Goals as goal

pub returns-clause-steps : goal.returns-clause-steps
returns-clause-steps c = λ values count.
    let i = c.self.inside in
    let more = c.args.more in
    let here : i.place ≡ WritingUsedId more c.args.entry = ap (λ (r : Receiver). r.place) c.self.view_is ∙ c.requires in
    let unread : 4 * words_read (WritingUsedIndex more) ≡ 4 * words_read i.place = ap (λ p. 4 * words_read p) (sym here) in
    let new_is : receiver_of (record i { place = WritingUsedIndex more }) ≡ record (receiver_of i) { place = WritingUsedIndex more } =
    ap (λ n. record (receiver_of i) { place = WritingUsedIndex more; gathered = take n i.buffer.items }) unread in
    rw (← c.self.view_is) (subst (λ r. StepsThrough StaysOpen (receiver_of i) values [] r) (sym new_is) (gives (receiver_of i) more c.args.entry 2 values here (omega arith) (omega arith) count))
