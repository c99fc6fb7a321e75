use Rattle.std.proofs.Common.{refl, arith}
use Rattle.sampling_port.proofs.OneMoreEvent.{room_of, poke_happens}
use Rattle.sampling_port.proofs.simulator.Simulator.poke.Goals as goal

pub poke-requires-clause-room : goal.poke-requires-clause-room
poke-requires-clause-room c = let r = c.requires in let room = room_of r.0 r.1 r.2 c.args.self.now r.3 in omega arith

pub returns : goal.returns
returns c = poke_happens c.poke.result c.args.peer c.args.word c.args.value c.args.self.now _ refl c.poke.ensures.shape c.poke.ensures.after
