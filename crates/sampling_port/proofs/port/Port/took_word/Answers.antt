use Rattle.std.proofs.Common.{◌≡◌, ◌*◌, ◌≤◌, ◌++◌, length, take, arith, ap, subst, ◌∙◌}
use Rattle.std.proofs.lemmas.Grind.{common_steps}
use Rattle.std.proofs.lemmas.List.{length-take}
use Rattle.call_grammar.specs.Words.{word_bytes}
use Rattle.sampling_port.specs.Views.{PortView, IsPlace}
use Rattle.sampling_port.specs.declared.place.Place.{Place}
use Rattle.sampling_port.specs.declared.place.Place.TheVariants.{AtWord}
use Rattle.sampling_port.specs.Representation.{port_view_of}
use Rattle.sampling_port.proofs.MessageInHand.{first_bytes}
use Rattle.sampling_port.proofs.port.Port.took_word.Goals as goal

pub returns-clause-value : goal.returns-clause-value
returns-clause-value c =
    let a = c.args in
    let t = c.self.inside in
    let at_word : t.place ≡ AtWord a.from a.sequence a.bytes a.at a.more = ap (λ (v : PortView). v.place) c.self.view_is ∙ c.requires in
    let P : Place → Type 0 = λ p. IsPlace (port_view_of t) p in
    let there : IsPlace (port_view_of t) (AtWord a.from a.sequence a.bytes a.at a.more) = subst P at_word c.self.invariant.port.place in
    let sized = length-take t.filled t.hand.items in
    let filled : t.filled ≡ 4 * a.at = omega (arith, there.2, sized, c.self.invariant.filled, c.self.invariant.hand) in
    let old_is : take (4 * a.at) c.deref_mut.result.now ≡ take t.filled t.hand.items = cc in
    let within : length (take t.filled t.hand.items) ≤ a.bytes = omega (arith, there.2, there.3) in
    let first = first_bytes (take t.filled t.hand.items) (word_bytes a.value) a.bytes within in
    let so_far : length (take t.filled t.hand.items) ≡ 4 * a.at = there.2 in
    let hand_is : take c.min-self-inside.result c.put_word.new.buffer ≡ take a.bytes (take t.filled t.hand.items ++ word_bytes a.value) = cc in
    grind (arith, common_steps)
