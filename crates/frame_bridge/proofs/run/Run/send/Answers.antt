use Rattle.std.proofs.Common.{◌≡◌, ◌<◌, List, length, arith, ap, sym, subst, ◌∙◌, refl}
use Rattle.std.proofs.lemmas.List.{length-set}
use Rattle.std.proofs.lemmas.Iterator.Adapters.{YieldsList-from_vec}
use Rattle.std.proofs.lemmas.Iterator.Consumers.{YieldsList-turn, YieldsList-end}
use Rattle.frame_bridge.specs.declared.scripts.Sent.{Sent}
use Rattle.frame_bridge.specs.Run.{frames_of, started}
use Rattle.frame_bridge.specs.Refinement.{RunRefines}
use Rattle.frame_bridge.proofs.RunAfterTurn.{get_at}
use Rattle.frame_bridge.proofs.InitialRun.{sent_stands, map_same}
use Rattle.frame_bridge.proofs.run.Run.send.Goals as goal

pub index_mut-port-requires : goal.index_mut-port-requires
index_mut-port-requires c =
    let given = c.into_iter-one-iterator.ensures.into_iter_gives in
    let long : c.into_iter-one-iterator.result.rest.len ≡ length c.args.sent =
    given.1 ∙ (c.into_items-one-items.result.ok.0 ∙ ap length c.into_items-one-items.ensures) in
    let road = YieldsList-from_vec {s = c.into_iter-one-iterator.result} c.args.sent (given.0 ∙ c.into_items-one-items.ensures) long in
    let turn = YieldsList-turn road c.loop-one.yielded c.loop-one.one-iterator c.loop-one.yielded_by c.next.result c.next.new.self c.in-Some.one c.in-Some.is c.next.ensures.steps in
    let less : c.in-Some.one.port < length c.args.self.now.ports.items = c.requires (length c.loop-one.yielded) c.in-Some.one (get_at c.args.sent (length c.loop-one.yielded) c.in-Some.one turn.0 turn.1) in
    omega (arith, less, c.loop-one.invariant.long, c.loop-one.self.ports.ok.0)

pub loop-one-preserved : goal.loop-one-preserved
loop-one-preserved c =
    let given = c.into_iter-one-iterator.ensures.into_iter_gives in
    let long : c.into_iter-one-iterator.result.rest.len ≡ length c.args.sent =
    given.1 ∙ (c.into_items-one-items.result.ok.0 ∙ ap length c.into_items-one-items.ensures) in
    let road = YieldsList-from_vec {s = c.into_iter-one-iterator.result} c.args.sent (given.0 ∙ c.into_items-one-items.ensures) long in
    let turn = YieldsList-turn road c.loop-one.yielded c.loop-one.one-iterator c.loop-one.yielded_by c.next.result c.next.new.self c.in-Some.one c.in-Some.is c.next.ensures.steps in
    let less : c.in-Some.one.port < length c.args.self.now.ports.items = c.requires (length c.loop-one.yielded) c.in-Some.one (get_at c.args.sent (length c.loop-one.yielded) c.in-Some.one turn.0 turn.1) in
    let below : c.in-Some.one.port < length c.loop-one.self.ports.items = omega (arith, less, c.loop-one.invariant.long) in
    let here = get_at c.loop-one.self.ports.items c.in-Some.one.port c.index_mut-port.result.now below c.index_mut-port.ensures.value in
    record {
      long = length-set c.loop-one.self.ports.items c.in-Some.one.port c.send.new.self ∙ c.loop-one.invariant.long;
      refines = λ ports start.
          let refines = c.loop-one.invariant.refines ports start in
          sent_stands ports c.loop-one.yielded c.loop-one.self _ c.in-Some.one c.send.new.self refines (omega (arith, below, refines.long))
          (c.in_ok-send.ensures (frames_of c.in-Some.one.port c.loop-one.yielded) (refines.each c.in-Some.one.port c.index_mut-port.result.now here)) refl refl refl;
    }

pub returns : goal.returns
returns c = λ ports start.
    let given = c.into_iter-one-iterator.ensures.into_iter_gives in
    let long : c.into_iter-one-iterator.result.rest.len ≡ length c.args.sent =
    given.1 ∙ (c.into_items-one-items.result.ok.0 ∙ ap length c.into_items-one-items.ensures) in
    let road = YieldsList-from_vec {s = c.into_iter-one-iterator.result} c.args.sent (given.0 ∙ c.into_items-one-items.ensures) long in
    let end = YieldsList-end road c.loop-one.yielded c.loop-one.one-iterator c.loop-one.yielded_by c.next.result c.next.new.self c.in-None.is c.next.ensures.steps in
    subst (λ (l : List Sent). RunRefines ports (started l) c.loop-one.self) (sym (map_same c.loop-one.yielded) ∙ end.0) (c.loop-one.invariant.refines ports start)
