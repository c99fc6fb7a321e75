use Rattle.std.proofs.Common.{◌≡◌, ◌<◌, length, refl, arith}
use Rattle.std.proofs.lemmas.Result.{on_ok_weaker}
use Rattle.frame_bridge.specs.Forwarding.{forward}
use Rattle.frame_bridge.proofs.RunAfterTurn.{get_at, port_in, offered_in, station_there}
use Rattle.frame_bridge.proofs.run.Run.station_turn.Goals as goal

pub station_turn-requires : goal.station_turn-requires
station_turn-requires c =
    let sent = c.requires.0 in
    let ports = c.requires.1 in
    let w = c.requires.2 in
    let there = c.requires.3 in
    let below : c.args.port < length c.args.self.now.ports.items = omega (arith, c.requires.4, there.refines.long) in
    let here = get_at c.args.self.now.ports.items c.args.port c.index_mut-port.result.now below c.index_mut-port.ensures.value in (
      w.links c.args.port,
      forward w.arrivals c.args.port,
      port_in sent ports w c.args.self.now c.args.port c.index_mut-port.result.now there here,
      offered_in sent ports w c.args.self.now c.args.port 0 there c.requires.4 (omega arith),
    )

pub returns : goal.returns
returns c = λ sent ports w there.
    let long : length c.args.self.now.ports.items ≡ c.requires.1 = c.requires.3.refines.long in
    let below : c.args.port < length c.args.self.now.ports.items = omega (arith, c.requires.4, long) in
    let here = get_at c.args.self.now.ports.items c.args.port c.index_mut-port.result.now below c.index_mut-port.ensures.value in
    on_ok_weaker c.station_turn.result
    (λ refines. station_there sent ports w c.args.self.now _ c.args.port c.station_turn.new.self there (omega (arith, below, there.refines.long)) refines refl refl refl)
    (c.station_turn.ensures (w.links c.args.port) (forward w.arrivals c.args.port) (port_in sent ports w c.args.self.now c.args.port c.index_mut-port.result.now there here))
