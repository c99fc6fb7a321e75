use Rattle.std.proofs.Common.{◌≡◌, ◌*◌, ◌<◌, length, take, ap, sym, refl, subst, arith, IfSome}
use Rattle.call_grammar.proofs.WordsOfBytes.{spelled}
use Rattle.link_endpoint.specs.declared.place.Place.{Place}
use Rattle.link_endpoint.specs.declared.place.Place.TheVariants.{Closed, ReadingOtherState, Clearing, WritingState, Refusing, NotInRun, Offering, Polling}
use Rattle.link_endpoint.specs.Engine.{Engine, reads_ahead_at, reads_ahead, frame_ahead_at, frame_ahead}
use Rattle.rx_engine.specs.Receiver.{Receiver}
use Rattle.link_endpoint.proofs.BurstsOfSteps.{none_refused, polled_on, kept_polled}
use Rattle.link_endpoint.proofs.endpoint.Endpoint.took_reads_into.Goals as goal

polls : (p : Place) (rx : Receiver) → 0 < reads_ahead_at p rx → p ≡ Polling
polls Closed rx some = absurd (omega (arith, some))
polls ReadingOtherState rx some = absurd (omega (arith, some))
polls (Clearing at state) rx some = absurd (omega (arith, some))
polls (WritingState state) rx some = absurd (omega (arith, some))
polls Refusing rx some = absurd (omega (arith, some))
polls NotInRun rx some = absurd (omega (arith, some))
polls Offering rx some = absurd (omega (arith, some))
polls Polling rx some = refl

-- A poll is open.
here : (c : goal.After-took_reads_into) → c.self.inside.place ≡ Polling
here c =
    let ahead : reads_ahead c.args.self.now ≡ reads_ahead_at c.self.inside.place c.self.inside.rx = ap reads_ahead (sym c.self.view_is) in
    polls c.self.inside.place c.self.inside.rx (omega (arith, ahead, c.requires.some, c.requires.within))

pub returns-clause-steps : goal.returns-clause-steps
returns-clause-steps c = λ values words_are.
    rw (← c.self.view_is) (polled_on c.self.inside c.took_reads_into.new.self values _ c.self.invariant (here c) (c.took_reads_into.ensures.steps values words_are) (none_refused _ c.took_reads_into.ensures.notes))

pub returns-clause-frame : goal.returns-clause-frame
returns-clause-frame c =
    let rx = c.self.inside.rx in
    let words = c.args.words.now in
    let frame = c.took_reads_into.new.self.frame in
    subst (λ (e : Engine). IfSome (frame_ahead e) (λ n. length words ≡ 4 * reads_ahead e → frame ≡ take n words)) c.self.view_is
    (subst (λ p. IfSome (frame_ahead_at p rx) (λ n. length words ≡ 4 * reads_ahead_at p rx → frame ≡ take n words)) (sym (here c)) c.took_reads_into.ensures.frame)

pub invariant_of-self : goal.invariant_of-self
invariant_of-self c =
    let words = spelled c.args.words.now c.requires.whole (λ i. omega (arith, c.type_inv.words i)) in
    kept_polled c.self.inside c.took_reads_into.new.self words.0 _ c.self.invariant (here c) (c.took_reads_into.ensures.steps words.0 words.1) (none_refused _ c.took_reads_into.ensures.notes) c.took_reads_into.ensures.kept
