use Rattle.std.proofs.Common.{◌≡◌, ℕ, ◌*◌, ◌==◌, Bool, true, false, if◌then◌else◌, [], take, refl, ap, subst, sym, ◌∙◌, arith}
use Rattle.call_grammar.specs.Bursts.{StepsThrough}
use Rattle.rx_engine.specs.Receiver.{Receiver, given, words_read, writes_ahead}
use Rattle.rx_engine.specs.declared.place.Place.TheVariants.{WritingUsedLength, WritingUsedIndex}
use Rattle.rx_engine.specs.Representation.{receiver_of}
use Rattle.rx_engine.specs.Refinement.{StaysOpen}
use Rattle.rx_engine.proofs.FrameBursts.{gives}
use Rattle.rx_engine.proofs.receiver.Rx.took_writes.Goals as goal

unread_if : (more : ℕ) (one : Bool) → words_read (if one then WritingUsedLength more else WritingUsedIndex more) ≡ 0
unread_if more true = refl
unread_if more false = refl

given_unread : (more count : ℕ) → words_read (given more count) ≡ 0
given_unread more count = unread_if more (count == 1)

pub returns-clause-steps : goal.returns-clause-steps
returns-clause-steps c = λ values count.
    let i = c.self.inside in
    let more = c.in-WritingUsedId.more in
    let few : writes_ahead c.args.self.now.place ≡ 2 = ap (λ (r : Receiver). writes_ahead r.place) (sym c.self.view_is) ∙ ap writes_ahead c.in-WritingUsedId.is in
    let within = c.requires.within in
    let unread : 4 * words_read c.used_element_place-self-inside.result ≡ 4 * words_read i.place = ap (λ p. 4 * words_read p) c.used_element_place-self-inside.ensures ∙ ap (λ n. 4 * n) (given_unread more c.args.count ∙ sym (ap words_read c.in-WritingUsedId.is)) in
    let new_is : receiver_of (record i { place = c.used_element_place-self-inside.result }) ≡ record (receiver_of i) { place = given more c.args.count } =
    ap (λ n. record (receiver_of i) { place = c.used_element_place-self-inside.result; gathered = take n i.buffer.items }) unread ∙ ap (λ p. record (receiver_of i) { place = p }) c.used_element_place-self-inside.ensures in
    rw (← c.self.view_is) (subst (λ r. StepsThrough StaysOpen (receiver_of i) values [] r) (sym new_is) (gives (receiver_of i) more c.in-WritingUsedId.entry c.args.count values c.in-WritingUsedId.is c.requires.some (omega (arith, within, few)) count))
