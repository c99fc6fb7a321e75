-- The run of a bridge: the links of its ports take turns, and each frame that the bridge's end of a
-- port delivers arrives.
use Rattle.std.specs.Prelude.{ℕ, zero, suc, ◌==◌, if◌then◌else◌, List, [], ◌∷◌, ◌++◌, map, filter, fold}
use Rattle.frame_bridge.specs.declared.limits.TheConstants.{TURNS}
use Rattle.std.specs.List.{flat_map}
use Rattle.frame_bridge.specs.declared.scripts.Sent.{Sent}
use Rattle.frame_bridge.specs.Spelling as text
use Rattle.frame_bridge.specs.Forwarding.{Arrival, first_ports, forwarded_after}
use Rattle.frame_bridge.specs.BridgeView.{arrival}
use Rattle.frame_bridge.specs.Links.{Link, starting, turned, observed_by, with_copies}

-- The link of each port, and the arrivals so far.
pub record World : Type 0 where
  pub links : ℕ → Link
  pub arrivals : List Arrival

-- The schedule

-- A turn of an end of a port: the station is end 0, and the bridge's end is end 1.
pub record Turn : Type 0 where
  pub port : ℕ
  pub end : ℕ

abbrev pub turn : ℕ → ℕ → Turn
turn port end = record { port = port; end = end }

-- The same turn `count` times.
unfoldable pub times : ℕ → Turn → List Turn
times zero t = []
times (suc count) t = times count t ++ t ∷ []

-- A port has `TURNS` turns of its station, then as many of the bridge's end.
abbrev pub turns_of : ℕ → List Turn
turns_of port = times TURNS (turn port 0) ++ times TURNS (turn port 1)

-- In a round each port has its turns, in ascending order.
abbrev pub schedule : (rounds ports : ℕ) → List Turn
schedule zero ports = []
schedule (suc rounds) ports = schedule rounds ports ++ flat_map turns_of (first_ports ports)

-- The run

-- The frames that the station at this port sends, in the order of their lines.
abbrev pub frames_of : ℕ → List Sent → List (List ℕ)
frames_of port sent = map (λ s. s.frame) (filter (λ s. s.port == port) sent)

abbrev pub started : List Sent → World
started sent = record {
  links = λ port. record { memory = λ w. 0; auto_ends = λ p. starting (if p == 0 then frames_of port sent else []) };
  arrivals = [];
}

-- The arrivals of a turn: what the bridge's end delivers.
abbrev pub arriving : World → Turn → List Arrival
arriving w t = if t.end == 1 then map (arrival t.port) (observed_by 1 (w.links t.port)) else []

-- The world after a turn: the turn of its link, and each arriving frame appended to the frames of
-- each port to which it goes.
abbrev pub world_after : World → Turn → World
world_after w t = record {
  links = λ port. with_copies (forwarded_after w.arrivals (arriving w t) port) (if port == t.port then turned t.end (w.links port) else w.links port);
  arrivals = w.arrivals ++ arriving w t;
}

abbrev pub ran : World → List Turn → World
ran w turns = fold world_after w turns

-- The world at the end of the run of a text.
unfoldable pub run_of : text.World → World
run_of script = ran (started script.sent) (schedule script.rounds script.ports)
