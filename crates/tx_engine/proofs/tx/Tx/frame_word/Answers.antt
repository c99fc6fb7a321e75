use Rattle.std.proofs.Common.{ap, ◌∙◌}
use Rattle.ivs_base.specs.Numbers.{word_of}
use Rattle.call_grammar.proofs.WordsOfBytes.{bytes_at}
use Rattle.tx_engine.specs.Sender.{Sender}
use Rattle.tx_engine.proofs.tx.Tx.frame_word.Goals as goal

pub returns : goal.returns
returns c =
    let t = c.self.inside in
    c.word_of.ensures ∙ ap word_of ((cc) ∙ bytes_at t.buffer.items _ t.length c.args.at (ap (λ (s : Sender). s.frame) c.self.view_is) c.requires)
