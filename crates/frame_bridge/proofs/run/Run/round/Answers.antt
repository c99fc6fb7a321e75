use Rattle.std.proofs.Common.{◌≡◌, ◌<◌, ℕ, subst, arith}
use Rattle.std.specs.List.{flat_map}
use Rattle.frame_bridge.specs.Forwarding.{first_ports}
use Rattle.frame_bridge.specs.Run.{World, turns_of, ran}
use Rattle.frame_bridge.specs.Refinement.{IsThere}
use Rattle.frame_bridge.proofs.Schedules.{ports_more}
use Rattle.frame_bridge.proofs.run.Run.round.Goals as goal

pub port_turns-requires : goal.port_turns-requires
port_turns-requires c =
    let there = c.requires in
    let below : c.loop-port.port < there.1 = omega (arith, c.loop-port-test.true, c.len-port-end.ensures, there.3.refines.long, c.args.self.now.ports.ok.0) in
    (there.0, there.1, ran there.2 (flat_map turns_of (first_ports c.loop-port.port)), c.loop-port.invariant there.0 there.1 there.2 there.3, below)

pub loop-port-preserved : goal.loop-port-preserved
loop-port-preserved c = λ sent ports w there.
    subst (λ (x : World). IsThere sent ports x c.port_turns.new.self) (ports_more w c.loop-port.port)
    (c.in_ok-port_turns.ensures sent ports (ran w (flat_map turns_of (first_ports c.loop-port.port))) (c.loop-port.invariant sent ports w there))

pub returns : goal.returns
returns c = λ sent ports w there.
    let all : c.loop-port.port ≡ ports = omega (arith, c.loop-port-test.false, c.loop-port.auto.port-end, c.len-port-end.ensures, there.refines.long, c.args.self.now.ports.ok.0) in
    subst (λ (n : ℕ). IsThere sent ports (ran w (flat_map turns_of (first_ports n))) c.loop-port.self) all (c.loop-port.invariant sent ports w there)
