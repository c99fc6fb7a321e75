use Rattle.std.proofs.Common.{refl, arith}
use Rattle.ivshm_device.proofs.peer_devices.PeerDevices.new.Goals as goal

pub returns : goal.returns
returns c = record {
  peers = c.peers.ensures.value;
  wiring = refl;
  count = omega (arith, c.in_ok-peers_at_reset.ensures.count);
  registers = λ peer r here at. c.in_ok-peers_at_reset.ensures.each peer r at;
}
