use Rattle.std.proofs.Common.{◌≡◌}
use Rattle.std.specs.Prelude.{Some, slice_get}
use Rattle.link_endpoint.specs.Engine.{delivered}
use Rattle.frame_bridge.specs.declared.ports.Port.{Port}
use Rattle.frame_bridge.proofs.ArrivalsAreCopied.{Copied}
use Rattle.frame_bridge.proofs.run.Run.arrive.Given as goal

-- Each port before this one has its copy, if the frame goes there.
abbrev pub invariant-loop-port : goal.invariant-loop-port
invariant-loop-port l = record {
  ports : (sender : Port) → slice_get l.fn.self.ports.items l.from ≡ Some sender → Copied l.fn.self.ports.items l.self.ports.items l.to.items (delivered sender.own.end) l.port;
  bridge : l.self.bridge ≡ l.initial.self.bridge;
  text : l.self.text ≡ l.initial.self.text;
}
