-- Laws of all capture files.
use Rattle.std.specs.Prelude.{◌≡◌, ◌≢◌, ℕ, ◌<◌, ◌==◌, if◌then◌else◌, List, [], ◌∷◌, slice_index, map}
use Rattle.std.specs.List.{flat_map}
use Rattle.lawful_history.specs.declared.line.Line.{Line}
use Rattle.lawful_history.specs.declared.line.Line.TheVariants.{Deliver}
use Rattle.frame_capture.specs.declared.packets.Capture.{Capture}
use Rattle.frame_capture.specs.declared.faults.CaptureFault.{CaptureFault}
use Rattle.frame_capture.specs.declared.faults.CaptureFault.TheVariants.{NoMemory}
use Rattle.frame_capture.specs.CaptureFile.{IsCaptureFile}
use Rattle.frame_capture.specs.Faults.{IsCaptureFault}
use Rattle.frame_capture.specs.Deliveries.{capture_of}

-- Each byte is below 256.
abbrev pub AreBytes : List ℕ → Type 0
AreBytes bytes = (i : ℕ) → slice_index bytes i < 256

-- Bytes are a file of at most one capture.
abbrev pub FileIsOfOneCapture : Type 0
FileIsOfOneCapture = (bytes : List ℕ) (a b : Capture) → AreBytes bytes → IsCaptureFile a bytes → IsCaptureFile b bytes → a ≡ b

-- Bytes with a fault are a file of no capture.
abbrev pub FaultsAreOfNoFile : Type 0
FaultsAreOfNoFile = (bytes : List ℕ) (fault : CaptureFault) (capture : Capture) → AreBytes bytes → fault ≢ NoMemory → IsCaptureFault bytes fault
    → ¬ IsCaptureFile capture bytes

-- Bytes have at most one fault.
abbrev pub FaultsAreOne : Type 0
FaultsAreOne = (bytes : List ℕ) (a b : CaptureFault) → AreBytes bytes → a ≢ NoMemory → b ≢ NoMemory → IsCaptureFault bytes a → IsCaptureFault bytes b → a ≡ b

-- The frame that a line delivers to the peer, or none.
abbrev pub delivered_frame : ℕ → Line → List (List ℕ)
delivered_frame peer (Deliver receiver frame) = if receiver == peer then frame ∷ [] else []
delivered_frame peer _ = []

-- The frames of a history's capture are those that it delivers to the peer, in their order.
abbrev pub FramesAreDelivered : Type 0
FramesAreDelivered = (peer : ℕ) (lines : List Line) → map (λ p. p.frame) (capture_of peer lines).packets ≡ flat_map (delivered_frame peer) lines
