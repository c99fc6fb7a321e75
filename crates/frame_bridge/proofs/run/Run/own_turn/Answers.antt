use Rattle.std.proofs.Common.{◌≡◌, ◌<◌, ◌≤◌, true, false, length, refl, arith, ap, sym, subst, ◌∙◌}
use Rattle.split_ring.specs.declared.sizes.TheConstants.{SHORTEST_FRAME}
use Rattle.link_endpoint.specs.Engine.{delivered}
use Rattle.frame_bridge.specs.declared.ports.Port.{Port}
use Rattle.frame_bridge.specs.Forwarding.{forward}
use Rattle.frame_bridge.specs.Links.{observed_by}
use Rattle.frame_bridge.specs.Run.{turn}
use Rattle.frame_bridge.specs.Refinement.{delivered_if, with_turned}
use Rattle.frame_bridge.proofs.RunAfterTurn.{get_at, get_here, port_in, offered_in, turned_stands, own_quiet, own_recorded, recorded_long}
use Rattle.frame_bridge.proofs.ArrivalsAreCopied.{same_some}
use Rattle.frame_bridge.proofs.run.Run.own_turn.Goals as goal

pub own_turn-requires : goal.own_turn-requires
own_turn-requires c =
    let sent = c.requires.0 in
    let ports = c.requires.1 in
    let w = c.requires.2 in
    let there = c.requires.3 in
    let below : c.args.port < length c.args.self.now.ports.items = omega (arith, c.requires.4, there.refines.long) in
    let here = get_at c.args.self.now.ports.items c.args.port c.index_mut-here.result.now below c.index_mut-here.ensures.value in (
      w.links c.args.port,
      forward w.arrivals c.args.port,
      port_in sent ports w c.args.self.now c.args.port c.index_mut-here.result.now there here,
      offered_in sent ports w c.args.self.now c.args.port 1 there c.requires.4 (omega arith),
    )

pub arrive-requires-clause-refines : goal.arrive-requires-clause-refines
arrive-requires-clause-refines c =
    let sent = c.requires.0 in
    let ports = c.requires.1 in
    let w = c.requires.2 in
    let there = c.requires.3 in
    let below : c.args.port < length c.args.self.now.ports.items = omega (arith, c.requires.4, there.refines.long) in
    let here = get_at c.args.self.now.ports.items c.args.port c.index_mut-here.result.now below c.index_mut-here.ensures.value in
    let refines = c.own_turn.ensures.refines (w.links c.args.port) (forward w.arrivals c.args.port) (port_in sent ports w c.args.self.now c.args.port c.index_mut-here.result.now there here) in (
      with_turned w (turn c.args.port 1),
      ports,
      turned_stands ports w c.args.self.now _ c.args.port 1 c.own_turn.new.self there.refines c.requires.4 refines refl refl refl,
      c.requires.4,
      there.few.1,
    )

pub arrive-requires-clause-frame : goal.arrive-requires-clause-frame
arrive-requires-clause-frame c = λ port is.
    let sent = c.requires.0 in
    let ports = c.requires.1 in
    let w = c.requires.2 in
    let there = c.requires.3 in
    let below : c.args.port < length c.args.self.now.ports.items = omega (arith, c.requires.4, there.refines.long) in
    let here = get_at c.args.self.now.ports.items c.args.port c.index_mut-here.result.now below c.index_mut-here.ensures.value in
    let port_is : c.own_turn.new.self ≡ port = same_some c.own_turn.new.self port (sym (get_here c.args.self.now.ports.items c.args.port c.own_turn.new.self below) ∙ is) in
    let recorded : observed_by 1 (w.links c.args.port) ≡ delivered_if true (delivered c.own_turn.new.self.own.end) =
    c.own_turn.ensures.recorded (w.links c.args.port) (forward w.arrivals c.args.port) (port_in sent ports w c.args.self.now c.args.port c.index_mut-here.result.now there here) ∙
    ap (λ b. delivered_if b (delivered c.own_turn.new.self.own.end)) c.if-own_turn.true in
    subst (λ (p : Port). SHORTEST_FRAME ≤ length (delivered p.own.end)) port_is
    (recorded_long sent ports w c.args.self.now c.args.port (delivered c.own_turn.new.self.own.end) there c.requires.4 recorded)

pub returns-in_ok-arrive : goal.returns-in_ok-arrive
returns-in_ok-arrive c = λ sent ports w there.
    let long : length c.args.self.now.ports.items ≡ c.requires.1 = c.requires.3.refines.long in
    let below : c.args.port < length c.args.self.now.ports.items = omega (arith, c.requires.4, long) in
    let less : c.args.port < ports = omega (arith, below, there.refines.long) in
    let here = get_at c.args.self.now.ports.items c.args.port c.index_mut-here.result.now below c.index_mut-here.ensures.value in
    let before = port_in sent ports w c.args.self.now c.args.port c.index_mut-here.result.now there here in
    let refines = c.own_turn.ensures.refines (w.links c.args.port) (forward w.arrivals c.args.port) before in
    let recorded : observed_by 1 (w.links c.args.port) ≡ delivered_if true (delivered c.own_turn.new.self.own.end) =
    c.own_turn.ensures.recorded (w.links c.args.port) (forward w.arrivals c.args.port) before ∙ ap (λ b. delivered_if b (delivered c.own_turn.new.self.own.end)) c.if-own_turn.true in
    own_recorded sent ports w c.args.self.now c.arrive.new.self c.args.port (delivered c.own_turn.new.self.own.end) there less recorded
    (c.in_ok-arrive.ensures (with_turned w (turn c.args.port 1)) ports c.own_turn.new.self
    (turned_stands ports w c.args.self.now _ c.args.port 1 c.own_turn.new.self there.refines less refines refl refl refl)
    (get_here c.args.self.now.ports.items c.args.port c.own_turn.new.self below))

pub returns-else-own_turn : goal.returns-else-own_turn
returns-else-own_turn c = λ sent ports w there.
    let long : length c.args.self.now.ports.items ≡ c.requires.1 = c.requires.3.refines.long in
    let below : c.args.port < length c.args.self.now.ports.items = omega (arith, c.requires.4, long) in
    let less : c.args.port < ports = omega (arith, below, there.refines.long) in
    let here = get_at c.args.self.now.ports.items c.args.port c.index_mut-here.result.now below c.index_mut-here.ensures.value in
    let before = port_in sent ports w c.args.self.now c.args.port c.index_mut-here.result.now there here in
    let refines = c.own_turn.ensures.refines (w.links c.args.port) (forward w.arrivals c.args.port) before in
    let recorded : observed_by 1 (w.links c.args.port) ≡ delivered_if false (delivered c.own_turn.new.self.own.end) =
    c.own_turn.ensures.recorded (w.links c.args.port) (forward w.arrivals c.args.port) before ∙ ap (λ b. delivered_if b (delivered c.own_turn.new.self.own.end)) c.if-own_turn.false in
    own_quiet sent ports w c.args.self.now _ c.args.port c.own_turn.new.self (delivered c.own_turn.new.self.own.end) there less refines recorded refl refl refl
