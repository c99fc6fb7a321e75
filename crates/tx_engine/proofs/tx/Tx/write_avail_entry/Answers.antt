use Rattle.std.proofs.Common.{ap, ◌∙◌}
use Rattle.tx_engine.specs.Sender.{Sender}
use Rattle.tx_engine.proofs.AfterEntry.{entry_left}
use Rattle.tx_engine.proofs.tx.Tx.write_avail_entry.Goals as goal

pub returns-clause-step : goal.returns-clause-step
returns-clause-step c = λ value.
    let here = ap (λ (s : Sender). s.place) c.self.view_is ∙ c.requires in
    entry_left _ _ c.args.slot value c.entry.result c.entry_word.result c.self.view_is c.self.invariant.sender here c.entry.ensures c.entry_word.ensures
