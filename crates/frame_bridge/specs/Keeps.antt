-- The invariant of a run, turn by turn: of each link, and of all of them.
use Rattle.std.specs.Prelude.{ℕ, ◌≡◌, ◌==◌, ◌<◌, if◌then◌else◌, Option, Some, None, List, ◌∷◌, ◌++◌, All}
use Rattle.call_grammar.specs.Ends.{End}
use Rattle.call_grammar.specs.Places.{Place, ReadingUsedIndex, ReadingUsedId, WritingFrameWord, WritingDescAddressLow, WritingDescAddressHigh, WritingDescLength, WritingDescFlags, WritingAvailEntry, WritingAvailIndex}
use Rattle.link_invariant.specs.LinkConfig.{IsOffered}
use Rattle.pair_sessions.specs.CalmRuns.{CalmRuns}
use Rattle.frame_bridge.specs.declared.scripts.Sent.{Sent}
use Rattle.frame_bridge.specs.Forwarding.{forward}
use Rattle.frame_bridge.specs.Links.{link_config, Link}
use Rattle.frame_bridge.specs.Run.{World, frames_of}
use Rattle.frame_bridge.specs.Output.{arrived_at}

-- The frame of the open offer.
abbrev pub pending_frame : Place → Option (List ℕ)
pending_frame (ReadingUsedIndex pending freed) = Some pending.frame
pending_frame (ReadingUsedId pending freed more) = Some pending.frame
pending_frame (WritingFrameWord pending at more) = Some pending.frame
pending_frame (WritingDescAddressLow pending) = Some pending.frame
pending_frame (WritingDescAddressHigh pending) = Some pending.frame
pending_frame (WritingDescLength pending) = Some pending.frame
pending_frame (WritingDescFlags pending) = Some pending.frame
pending_frame (WritingAvailEntry pending) = Some pending.frame
pending_frame (WritingAvailIndex pending) = Some pending.frame
pending_frame _ = None

-- The frame of the open offer is the first of the frames to come.
abbrev pub HeadIs : Place → List (List ℕ) → Type 0
HeadIs place frames = (frame : List ℕ) → pending_frame place ≡ Some frame → (rest : List (List ℕ)) × (frames ≡ frame ∷ rest)

abbrev pub ends_in : Link → ℕ → End
ends_in link p = (link.auto_ends p).end

abbrev pub places_in : Link → ℕ → Place
places_in link p = (link.auto_ends p).place

-- A link whose ends came here without stops and resets. Each frame that end p was given is accepted
-- or still to come. The link has recorded all that it delivered.
pub record Sound (given : ℕ → List (List ℕ)) (link : Link) : Type 0 where
  pub runs : CalmRuns link_config link.memory (ends_in link) (places_in link)
  pub counted : (p : ℕ) → p < 2 → given p ≡ (link.auto_ends p).end.accepted ++ (link.auto_ends p).frames
  pub recorded : (p : ℕ) → p < 2 → (link.auto_ends p).delivered ≡ (link.auto_ends p).end.delivered
  pub heads : (p : ℕ) → p < 2 → HeadIs (link.auto_ends p).place (link.auto_ends p).frames
  pub offered : (p : ℕ) → p < 2 → All (IsOffered link_config) (given p)

-- The frames given to end p: to the station those that it sends, and to the bridge's end those
-- forwarded to its port.
abbrev pub given_to : (sent forwarded : List (List ℕ)) → ℕ → List (List ℕ)
given_to sent forwarded p = if p == 0 then sent else forwarded

-- Each link is sound, by what its station sends and what was forwarded so far. The arrivals at a
-- port are the frames that the bridge's end there delivered.
pub record Going (sent : List Sent) (ports : ℕ) (w : World) : Type 0 where
  pub links : (port : ℕ) → port < ports → Sound (given_to (frames_of port sent) (forward w.arrivals port)) (w.links port)
  pub arrived : (port : ℕ) → port < ports → arrived_at port w.arrivals ≡ ((w.links port).auto_ends 1).delivered
