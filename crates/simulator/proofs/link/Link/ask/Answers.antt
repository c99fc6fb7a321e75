use Rattle.std.proofs.Common.{refl, sym, subst, Some}
use Rattle.lawful_history.specs.Peers.{with_call}
use Rattle.simulator.specs.PeerStates.{call_of, LinkRefines}
use Rattle.simulator.specs.declared.link.Waiting.{Waiting}
use Rattle.simulator.specs.declared.link.Link.{Link}
use Rattle.simulator.proofs.HonestTurns.{frame_added}
use Rattle.simulator.proofs.link.Link.ask.Goals as goal

pub returns-in_ok-add-in-Some-Offer : goal.returns-in_ok-add-in-Some-Offer
returns-in_ok-add-in-Some-Offer c = λ config peer refines.
    let now : Link = record { end = c.args.self.now.end; waiting = c.args.self.now.waiting; auto = Some c.add.new.self } in
    subst (λ (w : Waiting). LinkRefines config (with_call peer (call_of w)) now) (sym c.in-Some-Offer.is-1)
    (frame_added config peer c.args.self.now now c.in-Some-Offer.auto c.add.new.self c.in-Some-Offer.frame refines c.in-Some-Offer.is-0 refl refl refl c.in_ok-add-in-Some-Offer.ensures.added)
