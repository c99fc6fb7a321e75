-- The states of the peers: the refinement of each peer in the middle of the schedule.
use Rattle.std.specs.Prelude.{ℕ, ◌≡◌, ◌+◌, ◌≤◌, ◌<◌, ◌^◌, Bool, true, false, Option, Some, None, List, [], map, length, All}
use Rattle.split_ring.specs.declared.sizes.TheConstants.{FRAME_OVERHEAD, SHORTEST_FRAME}
use Rattle.section_map.specs.Geometry.{Shape, IsShape, section_start}
use Rattle.scenario_text.specs.Scenario.{World, IsWorld}
use Rattle.call_grammar.specs.Trees.{Ended}
use Rattle.call_grammar.specs.Calls.{EndConfig}
use Rattle.call_grammar.specs.Calls as calls
use Rattle.call_grammar.specs.Places.{Place, remaining}
use Rattle.link_endpoint.specs.Refinement.{RefinesAt}
use Rattle.link_endpoint.specs.Plan.{Plan}
use Rattle.lawful_history.specs.Peers.{Auto, Driver, Waits, Chooses, Storms, Peer}
use Rattle.step_lines.specs.Plans.{IsPlanOf}
use Rattle.step_lines.specs.Places.{HasFrames}
use Rattle.simulator.specs.declared.link.Waiting.{Waiting}
use Rattle.simulator.specs.declared.link.Waiting.TheVariants.{Tick, Poll, Stop, Offer}
use Rattle.simulator.specs.declared.link.Link.{Link}
use Rattle.simulator.specs.declared.peer_state.PeerState.{PeerState}
use Rattle.simulator.specs.declared.peer_state.StormSizes.{StormSizes}
use Rattle.simulator.specs.declared.peer_state.PeerState.TheVariants as peer_state

-- The call of the grammar that a queued call is.
abbrev pub call_of : Waiting → calls.Call
call_of Tick = calls.Tick
call_of Poll = calls.Poll
call_of Stop = calls.Stop
call_of (Offer frame) = calls.Offer frame

-- An end with a plan is automatic, and one without waits for its calls.
abbrev pub DriverIs : Option Plan → Driver → Type 0
DriverIs None driver = driver ≡ Waits
DriverIs (Some plan) driver = (auto : Auto) × (driver ≡ Chooses auto) × IsPlanOf plan auto

-- The link refines this peer of the history: its end, what is left of its open call, the queued
-- calls, and its driver.
pub record LinkRefines (config : EndConfig) (peer : Peer) (link : Link) : Type 0 where
  pub place : Place
  pub end : RefinesAt link.end config peer.end place
  pub left : remaining config place ≡ peer.left
  pub frames : HasFrames place
  pub waiting : map call_of link.waiting.items ≡ peer.waiting
  pub driver : DriverIs link.auto peer.driver

-- A peer state without an end of the link: its peer has no call, open or queued.
pub record HasNoCalls (driven : Driver) (peer : Peer) : Type 0 where
  pub left : peer.left ≡ Ended
  pub waiting : peer.waiting ≡ []
  pub driver : peer.driver ≡ driven

abbrev pub PeerStateRefines : EndConfig → Peer → PeerState → Type 0
PeerStateRefines config peer (peer_state.Honest link) = LinkRefines config peer link
PeerStateRefines config peer (peer_state.Storm x) = HasNoCalls (Storms x) peer
PeerStateRefines config peer peer_state.Idle = HasNoCalls Waits peer

-- The frame may be offered.
abbrev pub IsOffered : ℕ → List ℕ → Type 0
IsOffered mtu frame = (SHORTEST_FRAME ≤ length frame) × (length frame ≤ mtu + FRAME_OVERHEAD)

abbrev pub MayWait : ℕ → Waiting → Type 0
MayWait mtu Tick = Unit {0}
MayWait mtu Poll = Unit {0}
MayWait mtu Stop = Unit {0}
MayWait mtu (Offer frame) = IsOffered mtu frame

abbrev pub PlanFits : ℕ → Option Plan → Type 0
PlanFits mtu None = Unit {0}
PlanFits mtu (Some plan) = All (IsOffered mtu) plan.frames

pub record LinkFits (link : Link) : Type 0 where
  pub waiting : All (MayWait link.end.config.sizes.mtu) link.waiting.items
  pub plan : PlanFits link.end.config.sizes.mtu link.auto

-- The peer has a section in a region of this shape.
pub record IsPlaced (shape : Shape) (peer : ℕ) (config : EndConfig) : Type 0 where
  pub is_shape : IsShape shape
  pub me : config.me ≡ peer
  pub there : peer < shape.peers
  pub other : config.other < shape.peers
  pub own : config.own ≡ section_start shape peer
  pub other_start : config.other_start ≡ section_start shape config.other
  pub words : config.words ≡ shape.out
  pub vector : config.vector < 2 ^ 16

-- The frames of a peer state may be offered, and its peer has a section.
abbrev pub PeerStateFits : EndConfig → PeerState → Type 0
PeerStateFits config (peer_state.Honest link) = LinkFits link
PeerStateFits config (peer_state.Storm x) = Unit {0}
PeerStateFits config peer_state.Idle = Unit {0}

-- Whether the peer state is one of an honest end of the link.
abbrev pub is_honest : PeerState → Bool
is_honest (peer_state.Honest link) = true
is_honest (peer_state.Storm x) = false
is_honest peer_state.Idle = false

abbrev pub SameKind : PeerState → PeerState → Type 0
SameKind old new = is_honest new ≡ is_honest old

-- The sizes that a storm draws from are those of the world, and the peer is one of the world.
pub record AreSizesOf (world : World) (me : ℕ) (sizes : StormSizes) : Type 0 where
  pub is_world : IsWorld world
  pub there : me < world.geometry.peers
  pub geometry : sizes.geometry ≡ world.geometry
  pub queue : sizes.queue ≡ world.queue
