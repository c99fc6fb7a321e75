-- The promises of `capture` and `feed`: the capture file of a peer's deliveries, and the scenario
-- made from a capture file.
use Rattle.std.specs.Prelude.{ℕ, ◌≡◌, List, ◌++◌}
use Rattle.scenario_text.specs.Scenario.{World}
use Rattle.scenario_text.specs.Spelling.{spelling}
use Rattle.lawful_history.specs.declared.line.Line.{Line}
use Rattle.lawful_history.specs.Lawful.{IsLawfulIn}
use Rattle.frame_capture.specs.declared.order.Order.TheVariants.{Little}
use Rattle.frame_capture.specs.declared.packets.Capture.{Capture}
use Rattle.frame_capture.specs.CaptureFile.{header_bytes, packets_bytes, IsCaptureFile}
use Rattle.frame_capture.specs.Deliveries.{capture_of}
use Rattle.frame_capture.specs.Feed.{offered_frames, feed_world, IsTooLarge}
use Rattle.frame_capture.specs.Laws.{AreBytes}
use Rattle.ivshm_cli.specs.Replay.{Spells}

-- The capture file of a capture: little-endian, with zone and figures 0.
abbrev pub file_of : Capture → List ℕ
file_of capture = header_bytes Little 0 0 capture.snaplen ++ packets_bytes Little capture.packets

-- The bytes spell a record whose history is lawful, and the text is the capture file of what that
-- history delivers to the peer.
pub record IsCaptureOf (peer : ℕ) (bytes text : List ℕ) : Type 0 where
  pub world : World
  pub version : ℕ
  pub history : List Line
  pub spelled : Spells bytes world version history
  pub lawful : IsLawfulIn world version history
  pub printed : text ≡ file_of (capture_of peer history)
  pub file : IsCaptureFile (capture_of peer history) text

-- The scenario in which `peer` offers the capture's whole frames.
abbrev pub fed_world : (peer : ℕ) → Capture → World
fed_world peer capture = feed_world peer (offered_frames capture.packets)

-- The bytes are a capture file, and the scenario made from it is within the limits.
pub record FeedsOn (peer : ℕ) (bytes : List ℕ) : Type 0 where
  pub capture : Capture
  pub file : IsCaptureFile capture bytes
  pub fits : ¬ IsTooLarge (fed_world peer capture)

-- The bytes are a capture file, and the scenario made from it has too many acts or too long a text.
pub record FeedsTooMuch (peer : ℕ) (bytes : List ℕ) : Type 0 where
  pub capture : Capture
  pub file : IsCaptureFile capture bytes
  pub large : IsTooLarge (fed_world peer capture)

-- The text is that of the scenario made from the capture file `bytes`.
pub record IsFeedOf (peer : ℕ) (bytes text : List ℕ) : Type 0 where
  pub feeds : FeedsOn peer bytes
  pub printed : text ≡ spelling (fed_world peer feeds.capture)
