-- The abstract state that the code of a run represents.
use Rattle.std.specs.Prelude.{ℕ, ◌≡◌, ◌+◌, ◌^◌, ◌==◌, ◌<◌, ◌≤◌, Bool, Some, Result, OnOk, slice_get, true, false, if◌then◌else◌, List, [], ◌∷◌, ◌++◌, length, map, min, slice_index}
use Rattle.frame_bridge.specs.declared.limits.TheConstants.{PORT_OUT}
use Rattle.section_map.specs.declared.limits.TheConstants.{PAGE}
use Rattle.line_format.specs.Rows.{text_of}
use Rattle.section_map.specs.Geometry.{Shape, Words, word_count}
use Rattle.section_map.specs.Faults.{shape_of}
use Rattle.split_ring.specs.declared.steps.Note.{Note}
use Rattle.split_ring.specs.declared.steps.Note.TheVariants as note
use Rattle.link_invariant.specs.LinkConfig.{config_of}
use Rattle.link_endpoint.specs.Refinement.{RefinesAt}
use Rattle.link_endpoint.specs.Plan.{Plan, HasCounted}
use Rattle.link_endpoint.specs.declared.auto_endpoint.AutoEndpoint.{AutoEndpoint}
use Rattle.frame_bridge.specs.declared.scripts.Sent.{Sent}
use Rattle.frame_bridge.specs.declared.ports.Port.{Port}
use Rattle.frame_bridge.specs.declared.run.Run.{Run}
use Rattle.frame_bridge.specs.Forwarding.{forward, forwarded_after}
use Rattle.frame_bridge.specs.BridgeView.{RefinesArrivals, arrival}
use Rattle.frame_bridge.specs.Run.{World, Turn}
use Rattle.frame_bridge.specs.Keeps.{Going}
use Rattle.frame_bridge.specs.Output.{pieces_of, out_row, arrive_row, outs}
use Rattle.frame_bridge.specs.Links as links
use Rattle.frame_bridge.specs.Links.{link_config, expected, turned, with_copies}

-- The sizes of the region.
abbrev pub shape : Shape
shape = shape_of 2 PAGE 0 PORT_OUT

-- The plan is that of an automatic end.
pub record IsPlanOf (plan : Plan) (auto_end : links.AutoEnd) : Type 0 where
  pub frames : plan.frames ≡ auto_end.frames
  pub expected_is : plan.expected ≡ expected
  pub delivered : HasCounted plan (length auto_end.delivered)
  pub round : plan.round ≡ auto_end.round

-- The code's end `me` refines this one.
pub record AutoEndRefines (me : ℕ) (auto_end : links.AutoEnd) (held : AutoEndpoint) : Type 0 where
  pub end : RefinesAt held.end (config_of link_config me) auto_end.end auto_end.place
  pub plan : IsPlanOf held.auto auto_end

-- The region has these words.
pub record RegionRefines (memory : ℕ → ℕ) (region : Words) : Type 0 where
  pub shape_is : region.shape ≡ shape
  pub words : (w : ℕ) → w < word_count shape → memory w ≡ slice_index region.words w

-- The fact holds of each link whose end `me` the code's end refines, over the region's words.
abbrev pub AtEachLink : ℕ → AutoEndpoint → Words → (links.Link → Type 0) → Type 0
AtEachLink me held region Fact = (link : links.Link) → AutoEndRefines me (link.auto_ends me) held → RegionRefines link.memory region → Fact link

-- Whether the note delivers a frame.
abbrev pub is_delivery : Note → Bool
is_delivery note.Deliver = true
is_delivery _ = false

-- The frames of a turn that delivers this one, or none.
abbrev pub delivered_if : Bool → List ℕ → List (List ℕ)
delivered_if recorded frame = if recorded then frame ∷ [] else []

-- A port

-- The greatest count.
abbrev pub most_counted : ℕ
most_counted = 18446744073709551615

-- The code's port refines this link, to which these frames were forwarded. It has written what its
-- station delivered, and counted both.
pub record PortRefines (link : links.Link) (forwarded : List (List ℕ)) (port : Port) : Type 0 where
  pub region : RegionRefines link.memory port.region
  pub station : AutoEndRefines 0 (link.auto_ends 0) port.station
  pub own : AutoEndRefines 1 (link.auto_ends 1) port.own
  pub outs : port.outs.items ≡ text_of pieces_of (map out_row (link.auto_ends 0).delivered)
  pub delivered : port.delivered ≡ min (length (link.auto_ends 0).delivered) most_counted
  pub forwarded_is : port.forwarded ≡ min (length forwarded) most_counted

-- The link of a port at its start, whose station sends these frames.
abbrev pub start_link : List (List ℕ) → links.Link
start_link frames = record { memory = λ w. 0; auto_ends = λ p. links.starting (if p == 0 then frames else []) }

-- The port after a frame was appended to those of the bridge's end.
abbrev pub with_copy : List ℕ → Port → Port
with_copy frame port = record port {
  own = record (port.own) { auto = record (port.own.auto) { frames = port.own.auto.frames ++ frame ∷ [] } };
  forwarded = min (port.forwarded + 1) most_counted;
}

-- The code's ports refine those of this world, and none has delivered more frames than were
-- forwarded to it.
pub record ArePorts (w : World) (ports : List Port) : Type 0 where
  pub each : (k : ℕ) (port : Port) → slice_get ports k ≡ Some port → PortRefines (w.links k) (forward w.arrivals k) port
  pub fits : (k : ℕ) → k < length ports → length (forward w.arrivals k) < 2 ^ 64
  pub within : (k : ℕ) → k < length ports → length (outs w k) ≤ length (forward w.arrivals k)

-- The run

-- The code's run refines these links and these arrivals: it knows what is known after them, and has
-- written them.
pub record RunRefines (ports : ℕ) (w : World) (run : Run) : Type 0 where
  pub bridge : RefinesArrivals run.bridge w.arrivals
  pub count : run.bridge.ports ≡ ports
  pub long : length run.ports.items ≡ ports
  pub each : (k : ℕ) (port : Port) → slice_get run.ports.items k ≡ Some port → PortRefines (w.links k) (forward w.arrivals k) port
  pub text : run.text.items ≡ text_of pieces_of (map arrive_row w.arrivals)

-- The code's run refines a world of the run of a text with `ports` ports.
pub record IsThere (sent : List Sent) (ports : ℕ) (w : World) (run : Run) : Type 0 where
  pub few : (2 ≤ ports) × (ports ≤ 8)
  pub going : Going sent ports w
  pub refines : RunRefines ports w run

-- The code's run refines a world of the run of some text.
abbrev pub IsUnderWay : Run → Type 0
IsUnderWay run = (sent : List Sent) × (ports : ℕ) × (w : World) × IsThere sent ports w run

-- In addition the text has this port.
abbrev pub IsUnderWayAt : ℕ → Run → Type 0
IsUnderWayAt port run = (sent : List Sent) × (ports : ℕ) × (w : World) × IsThere sent ports w run × (port < ports)

-- If the call succeeds, it takes each world that the run refines to the next one.
abbrev pub LeadsTo : {A E : Type 0} → Result A E → (old new : Run) → (ℕ → World → World) → Type 0
LeadsTo result old new next =
    (sent : List Sent) (ports : ℕ) (w : World) → IsThere sent ports w old → OnOk result (IsThere sent ports (next ports w) new)

-- The links after a turn of an end of a port, before the arrival of what it delivers.
abbrev pub with_turned : World → Turn → World
with_turned w t = record w { links = λ port. (if port == t.port then turned t.end (w.links port) else w.links port) }

-- The world after the arrival of a frame at a port.
abbrev pub with_arrival : World → ℕ → List ℕ → World
with_arrival w at frame = record {
  links = λ port. with_copies (forwarded_after w.arrivals (arrival at frame ∷ []) port) (w.links port);
  arrivals = w.arrivals ++ arrival at frame ∷ [];
}
