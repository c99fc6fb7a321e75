use Rattle.std.proofs.Common.{◌≡◌, ◌≢◌, ◌*◌, ◌⊎◌, Option, Some, None, length, refl, ap, sym, ◌∙◌, subst, arith, IfSome}
use Rattle.call_grammar.specs.Words.{words_for}
use Rattle.call_grammar.proofs.WordsOfBytes.{spelled}
use Rattle.rx_engine.specs.declared.ahead.FrameReturn.{FrameReturn}
use Rattle.rx_engine.specs.Items as receiver
use Rattle.link_endpoint.specs.Engine.{Engine, frame_ahead_at, frame_ahead, reads_ahead_at, reads_ahead}
use Rattle.link_endpoint.specs.Representation.{engine_of, IsWellFormed}
use Rattle.link_endpoint.specs.Items.{ReadsAndReturns}
use Rattle.link_endpoint.proofs.EngineAfterStep.{StandsFor, kept_received}
use Rattle.link_endpoint.proofs.ItemSteps.{reads_and_returns}
use Rattle.link_endpoint.proofs.endpoint.Endpoint.took_frame.Goals as goal

-- The steps of the endpoint, if the frame was read.
all : (c : goal.After-took_frame) (made : FrameReturn) → c.took_frame.result ≡ Some made →
    ReadsAndReturns (engine_of c.self.inside) c.args.words.now made (engine_of (record (c.self.inside) { rx = c.took_frame.new.self })) ×
    StandsFor (engine_of (record (c.self.inside) { rx = c.took_frame.new.self })) (engine_of c.self.inside).config
all c made is =
    let i = c.self.inside in
    let kept = c.self.invariant in
    let steps = subst (λ (o : Option FrameReturn). IfSome o (λ m. receiver.ReadsAndReturns i.rx c.args.words.now m c.took_frame.new.self)) is c.took_frame.ensures.steps in
    let sized = subst (λ (o : Option FrameReturn). IfSome o (λ m. length c.args.words.now ≡ 4 * words_for m.length)) is c.took_frame.ensures.sized in
    reads_and_returns (engine_of i) c.args.words.now made c.took_frame.new.self (engine_of i).config kept.end kept.at c.in-Polling.is
    (spelled c.args.words.now (omega (arith, sized)) (λ k. omega (arith, c.type_inv.words k))) kept.refines steps

pub returns-in-Polling-clause-steps : goal.returns-in-Polling-clause-steps
returns-in-Polling-clause-steps c = pick c.took_frame.result refl
  where
    pick : (result : Option FrameReturn) → c.took_frame.result ≡ result → IfSome result (λ made. ReadsAndReturns c.args.self.now c.args.words.now made (engine_of (record (c.self.inside) { rx = c.took_frame.new.self })))
    pick None is = tt
    pick (Some made) is = rw (← c.self.view_is) (all c made is).0

pub returns-in-Polling-clause-other : goal.returns-in-Polling-clause-other
returns-in-Polling-clause-other c = λ none.
    let i = c.self.inside in
    let words = length c.args.words.now in
    subst (λ (e : Engine). (frame_ahead e ≡ None) ⊎ (words ≢ 4 * reads_ahead e)) c.self.view_is
    (subst (λ p. (frame_ahead_at p i.rx ≡ None) ⊎ (words ≢ 4 * reads_ahead_at p i.rx)) (sym c.in-Polling.is) (c.took_frame.ensures.other none))

pub returns-in-Polling-clause-unchanged : goal.returns-in-Polling-clause-unchanged
returns-in-Polling-clause-unchanged c = λ none. ap (λ r. engine_of (record (c.self.inside) { rx = r })) (c.took_frame.ensures.unchanged none) ∙ c.self.view_is

pub invariant_of-self : goal.invariant_of-self
invariant_of-self c = pick c.took_frame.result refl
  where
    pick : (result : Option FrameReturn) → c.took_frame.result ≡ result → IsWellFormed (record (c.self.inside) { rx = c.took_frame.new.self })
    pick None is = subst (λ r. IsWellFormed (record (c.self.inside) { rx = r })) (sym (c.took_frame.ensures.unchanged is)) c.self.invariant
    pick (Some made) is = kept_received c.self.inside _ _ c.took_frame.new.self c.self.invariant c.took_frame.ensures.kept c.self.invariant.mark c.self.invariant.left (all c made is).1
