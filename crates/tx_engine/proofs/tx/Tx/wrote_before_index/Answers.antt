use Rattle.std.proofs.Common.{◌≡◌, ap, ◌∙◌}
use Rattle.tx_engine.specs.declared.place.Place.TheVariants.{WritingFrameWord}
use Rattle.tx_engine.specs.Sender.{Sender}
use Rattle.tx_engine.specs.Representation.{sender_of}
use Rattle.tx_engine.proofs.Fields.{place_holds}
use Rattle.tx_engine.proofs.Together.{takes_all}
use Rattle.tx_engine.proofs.tx.Tx.wrote_before_index.Goals as goal

pub returns-clause-steps : goal.returns-clause-steps
returns-clause-steps c = λ values count.
    let t = c.self.inside in
    let kept = c.self.invariant in
    let here : t.place ≡ WritingFrameWord c.args.slot c.args.at c.args.more = ap (λ (s : Sender). s.place) c.self.view_is ∙ c.requires in
    let holds = place_holds t (WritingFrameWord c.args.slot c.args.at c.args.more) kept here in
    rw (← c.self.view_is) (takes_all (sender_of t) _ c.args.slot c.args.at c.args.more values kept.sender holds.0 holds.1 here count c.write_avail_entry.ensures.step)
