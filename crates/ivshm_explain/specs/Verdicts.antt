-- The answer of a form to bytes, by the first fault of their text, which is that of its grammar.
use Rattle.std.specs.Prelude.{ℕ, ◌≡◌, ◌<◌, ◌≤◌, ◌⊎◌, ⊤, List, Some, None, Err}
use Rattle.scenario_text.specs.declared.faults.ScenarioFault.{ScenarioFault}
use Rattle.scenario_text.specs.Scenario.{World}
use Rattle.scenario_text.specs.Spelling.{IsSpelling}
use Rattle.scenario_text.specs.Judge.{answer}
use Rattle.scenario_text.specs.Running.{not_running}
use Rattle.port_text.specs.declared.faults.PortsFault.{PortsFault}
use Rattle.port_text.specs.Scenario as ports
use Rattle.port_text.specs.Spelling as port_text
use Rattle.port_text.specs.Judge as port_judge
use Rattle.frame_bridge.specs.declared.faults.BridgeFault.{BridgeFault}
use Rattle.frame_bridge.specs.Spelling as bridge_text
use Rattle.frame_bridge.specs.Judge as bridge_judge
use Rattle.section_dump.specs.declared.DumpFault.{DumpFault}
use Rattle.section_dump.specs.Image.{IsImage}
use Rattle.section_dump.specs.Faults.{IsDumpFault}
use Rattle.frame_capture.specs.declared.faults.CaptureFault.{CaptureFault}
use Rattle.frame_capture.specs.declared.packets.Capture.{Capture}
use Rattle.frame_capture.specs.CaptureFile.{IsCaptureFile}
use Rattle.frame_capture.specs.Faults.{IsCaptureFault}
use Rattle.frame_capture.specs.Feed.{offered_frames, feed_world, IsTooLarge}
use Rattle.program_edge.specs.declared.words.Command.{Command}
use Rattle.program_edge.specs.declared.words.Command.TheVariants as commands
use Rattle.program_edge.specs.declared.refusals.Refusal.{Refusal}
use Rattle.ivshm_explain.specs.declared.verdicts.Verdict.{Verdict}
use Rattle.ivshm_explain.specs.declared.verdicts.Verdict.TheVariants.{Accepted, Refused}
use Rattle.program_edge.specs.declared.refusals.Reason.TheVariants.{NotRunning, BadPeer, TooLarge}
use Rattle.ivshm_explain.specs.Differences.{IsRecordVerdict}
use Rattle.program_edge.specs.Refusals.{at, whole, of_scenario, of_ports, of_bridge, of_image, of_capture}

-- The text is no scenario, and the refusal is that of its first fault.
pub record IsScenarioFault (bytes : List ℕ) (refusal : Refusal) : Type 0 where
  pub fault : ScenarioFault
  pub first : answer bytes ≡ Err fault
  pub refuses : of_scenario fault ≡ Some refusal

pub record IsPortsFault (bytes : List ℕ) (refusal : Refusal) : Type 0 where
  pub fault : PortsFault
  pub first : port_judge.answer bytes ≡ Err fault
  pub refuses : of_ports fault ≡ Some refusal

pub record IsBridgeFault (bytes : List ℕ) (refusal : Refusal) : Type 0 where
  pub fault : BridgeFault
  pub first : bridge_judge.answer bytes ≡ Err fault
  pub refuses : of_bridge fault ≡ Some refusal

-- The bytes are no image, and the refusal is that of their first fault.
pub record IsImageFault (bytes : List ℕ) (refusal : Refusal) : Type 0 where
  pub fault : DumpFault
  pub first : IsDumpFault bytes fault
  pub refuses : of_image fault ≡ Some refusal

pub record IsNoCapture (bytes : List ℕ) (refusal : Refusal) : Type 0 where
  pub fault : CaptureFault
  pub first : IsCaptureFault bytes fault
  pub refuses : of_capture fault ≡ Some refusal

-- what `run`, `config P` and `sim` answer to a scenario
abbrev pub IsScenarioVerdict : Command → World → Verdict → Type 0
IsScenarioVerdict commands.Run world Accepted = not_running world ≡ None
IsScenarioVerdict commands.Run world (Refused refusal) = (line : ℕ) × (not_running world ≡ Some line) × (Some refusal ≡ at line NotRunning)
IsScenarioVerdict (commands.Config peer) world Accepted = peer < world.geometry.peers
IsScenarioVerdict (commands.Config peer) world (Refused refusal) = (world.geometry.peers ≤ peer) × (Some refusal ≡ whole BadPeer)
IsScenarioVerdict _ world Accepted = ⊤
IsScenarioVerdict _ world _ = ⊥

-- a scenario is answered so; a text that is none is refused by its first fault
abbrev pub IsTextVerdict : Command → List ℕ → Verdict → Type 0
IsTextVerdict form bytes (Refused refusal) =
    IsScenarioFault bytes refusal ⊎ ((world : World) × IsSpelling world bytes × IsScenarioVerdict form world (Refused refusal))
IsTextVerdict form bytes verdict = (world : World) × IsSpelling world bytes × IsScenarioVerdict form world verdict

abbrev pub IsPortsVerdict : List ℕ → Verdict → Type 0
IsPortsVerdict bytes Accepted = (world : ports.World) × port_text.IsSpelling world bytes
IsPortsVerdict bytes (Refused refusal) = IsPortsFault bytes refusal
IsPortsVerdict bytes _ = ⊥

abbrev pub IsBridgeVerdict : List ℕ → Verdict → Type 0
IsBridgeVerdict bytes Accepted = (world : bridge_text.World) × bridge_text.IsSpelling world bytes
IsBridgeVerdict bytes (Refused refusal) = IsBridgeFault bytes refusal
IsBridgeVerdict bytes _ = ⊥

abbrev pub IsDumpVerdict : List ℕ → Verdict → Type 0
IsDumpVerdict bytes Accepted = IsImage bytes
IsDumpVerdict bytes (Refused refusal) = IsImageFault bytes refusal
IsDumpVerdict bytes _ = ⊥

-- Whether the scenario in which the peer offers the frames of a capture is too large.
abbrev pub FeedsTooMuch : (peer : ℕ) → Capture → Type 0
FeedsTooMuch peer capture = IsTooLarge (feed_world peer (offered_frames capture.packets))

-- The answer of `feed P` to a capture.
abbrev pub IsFed : (peer : ℕ) → Capture → Verdict → Type 0
IsFed peer capture Accepted = ¬ FeedsTooMuch peer capture
IsFed peer capture (Refused refusal) = FeedsTooMuch peer capture × (Some refusal ≡ whole TooLarge)
IsFed peer capture _ = ⊥

-- A capture file is answered so; other bytes are refused by their first fault.
abbrev pub IsFeedVerdict : (peer : ℕ) → List ℕ → Verdict → Type 0
IsFeedVerdict peer bytes (Refused refusal) = IsNoCapture bytes refusal ⊎ ((capture : Capture) × IsCaptureFile capture bytes × IsFed peer capture (Refused refusal))
IsFeedVerdict peer bytes verdict = (capture : Capture) × IsCaptureFile capture bytes × IsFed peer capture verdict

-- `load` is never refused
abbrev pub IsLoadVerdict : Verdict → Type 0
IsLoadVerdict Accepted = ⊤
IsLoadVerdict _ = ⊥

-- what the form answers to the bytes
abbrev pub IsVerdict : Command → List ℕ → Verdict → Type 0
IsVerdict commands.Replay bytes verdict = IsRecordVerdict bytes verdict
IsVerdict commands.Renew bytes verdict = IsRecordVerdict bytes verdict
IsVerdict (commands.Capture peer) bytes verdict = IsRecordVerdict bytes verdict
IsVerdict commands.Ports bytes verdict = IsPortsVerdict bytes verdict
IsVerdict commands.Bridge bytes verdict = IsBridgeVerdict bytes verdict
IsVerdict commands.Dump bytes verdict = IsDumpVerdict bytes verdict
IsVerdict (commands.Feed peer) bytes verdict = IsFeedVerdict peer bytes verdict
IsVerdict (commands.Load count) bytes verdict = IsLoadVerdict verdict
IsVerdict form bytes verdict = IsTextVerdict form bytes verdict
