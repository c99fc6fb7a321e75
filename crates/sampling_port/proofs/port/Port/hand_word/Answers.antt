use Rattle.std.proofs.Common.{ap, ◌∙◌}
use Rattle.ivs_base.specs.Numbers.{word_of}
use Rattle.call_grammar.proofs.WordsOfBytes.{bytes_at}
use Rattle.sampling_port.specs.Views.{PortView}
use Rattle.sampling_port.proofs.port.Port.hand_word.Goals as goal

pub returns : goal.returns
returns c =
    let t = c.self.inside in
    c.word_of.ensures ∙ ap word_of ((cc) ∙ bytes_at t.hand.items _ t.filled c.args.at (ap (λ (s : PortView). s.hand) c.self.view_is) c.requires)
