-- The reason and the place of a refusal of an input, and the line that states them (profile).
use Rattle.std.specs.Prelude.{ℕ, List, ◌++◌, codes, decimal, Option, Some, None}
use Rattle.scenario_text.specs.declared.faults.ScenarioFault.{ScenarioFault}
use Rattle.scenario_text.specs.declared.faults.ScenarioFault.TheVariants as scenarios
use Rattle.record_text.specs.declared.faults.RecordFault.{RecordFault}
use Rattle.record_text.specs.declared.faults.RecordFault.TheVariants as records
use Rattle.port_text.specs.declared.faults.PortsFault.{PortsFault}
use Rattle.port_text.specs.declared.faults.PortsFault.TheVariants as ports
use Rattle.frame_bridge.specs.declared.faults.BridgeFault.{BridgeFault}
use Rattle.frame_bridge.specs.declared.faults.BridgeFault.TheVariants as bridges
use Rattle.section_map.specs.declared.sizes.Part.TheVariants.{Table, Common, Out}
use Rattle.section_map.specs.declared.sizes.GeometryFault.{GeometryFault}
use Rattle.section_map.specs.declared.sizes.GeometryFault.TheVariants.{BadPeers, BadPage, TableTooSmall, TooLarge as RegionTooLarge}
use Rattle.section_dump.specs.declared.images.TheConstants.{HEADER_LEN}
use Rattle.section_dump.specs.declared.DumpFault.{DumpFault}
use Rattle.section_dump.specs.declared.DumpFault.TheVariants as dumps
use Rattle.frame_capture.specs.declared.faults.CaptureFault.{CaptureFault}
use Rattle.frame_capture.specs.declared.faults.CaptureFault.TheVariants as captures
use Rattle.program_edge.specs.declared.refusals.Place.{Place}
use Rattle.program_edge.specs.declared.refusals.Place.TheVariants.{Whole, Line, Bytes, Packet}
use Rattle.program_edge.specs.declared.refusals.Reason.{Reason}
use Rattle.program_edge.specs.declared.refusals.Reason.TheVariants.{TooLong, BadLine, BadOrder, BadNumber, BadPeer, BadFrame, BadMessage, BadGeometry, TooManyTurns, TooManyFrames, NotRunning, NoEnd, BadCount, BadHeader, ShortImage, LongImage, Short, BadMagic, BadVersion, BadLinkType, BadPacket, CutPacket, TooLarge}
use Rattle.program_edge.specs.declared.refusals.Refusal.{Refusal}

-- The line with a fault's name and its place: the number of a line or of a packet, or 0.
abbrev pub place_line_of : (name : List ℕ) → (number : ℕ) → List ℕ
place_line_of name number = codes "refused " ++ decimal number ++ codes " " ++ name ++ codes "\n"

-- The line for an input with too few or too many lines or bytes: those that are due, and those that
-- were found.
abbrev pub count_line_of : (name : List ℕ) → (number need found : ℕ) → List ℕ
count_line_of name number need found =
    codes "refused " ++ decimal number ++ codes " " ++ name ++ codes " " ++ decimal need ++ codes " " ++ decimal found ++ codes "\n"

-- the number that the line names
abbrev pub number_of : Place → ℕ
number_of Whole = 0
number_of (Line number) = number
number_of (Bytes first count) = 0
number_of (Packet number) = number

abbrev pub name_of : Reason → List ℕ
name_of TooLong = codes "TooLong"
name_of BadLine = codes "BadLine"
name_of BadOrder = codes "BadOrder"
name_of BadNumber = codes "BadNumber"
name_of BadPeer = codes "BadPeer"
name_of BadFrame = codes "BadFrame"
name_of BadMessage = codes "BadMessage"
name_of BadGeometry = codes "BadGeometry"
name_of TooManyTurns = codes "TooManyTurns"
name_of TooManyFrames = codes "TooManyFrames"
name_of NotRunning = codes "NotRunning"
name_of NoEnd = codes "NoEnd"
name_of (BadCount kept found) = codes "BadCount"
name_of BadHeader = codes "BadHeader"
name_of (ShortImage need found) = codes "ShortImage"
name_of (LongImage need found) = codes "LongImage"
name_of Short = codes "Short"
name_of BadMagic = codes "BadMagic"
name_of BadVersion = codes "BadVersion"
name_of BadLinkType = codes "BadLinkType"
name_of BadPacket = codes "BadPacket"
name_of CutPacket = codes "CutPacket"
name_of TooLarge = codes "TooLarge"

abbrev pub answer_of : (number : ℕ) → Reason → List ℕ
answer_of number (BadCount kept found) = count_line_of (name_of (BadCount kept found)) number kept found
answer_of number (ShortImage need found) = count_line_of (name_of (ShortImage need found)) number need found
answer_of number (LongImage need found) = count_line_of (name_of (LongImage need found)) number need found
answer_of number reason = place_line_of (name_of reason) number

-- the line of a refusal
abbrev pub verdict_of : Refusal → List ℕ
verdict_of refusal = answer_of (number_of refusal.place) refusal.reason

-- the line of a fault that is a refusal; no text has the fault NoMemory
abbrev pub refusal_line_of : Option Refusal → List ℕ
refusal_line_of (Some refusal) = verdict_of refusal
refusal_line_of None = place_line_of (codes "NoMemory") 0

abbrev pub at : ℕ → Reason → Option Refusal
at line reason = Some (record { place = Line line; reason = reason })

abbrev pub whole : Reason → Option Refusal
whole reason = Some (record { place = Whole; reason = reason })

-- the refusal of a fault; want of memory refuses nothing
abbrev pub of_scenario : ScenarioFault → Option Refusal
of_scenario (scenarios.BadLine line) = at line BadLine
of_scenario (scenarios.BadNumber line) = at line BadNumber
of_scenario (scenarios.BadFrame line) = at line BadFrame
of_scenario (scenarios.BadPeer line) = at line BadPeer
of_scenario (scenarios.BadGeometry line) = at line BadGeometry
of_scenario (scenarios.BadOrder line) = at line BadOrder
of_scenario (scenarios.TooManyTurns line) = at line TooManyTurns
of_scenario scenarios.NoEnd = whole NoEnd
of_scenario scenarios.NoMemory = None

abbrev pub of_record : RecordFault → Option Refusal
of_record (records.Scenario fault) = of_scenario fault
of_record (records.BadLine line) = at line BadLine
of_record (records.BadNumber line) = at line BadNumber
of_record (records.BadCount kept found) = whole (BadCount kept found)
of_record records.NoEnd = whole NoEnd
of_record records.NoMemory = None

abbrev pub of_ports : PortsFault → Option Refusal
of_ports (ports.BadLine line) = at line BadLine
of_ports (ports.BadNumber line) = at line BadNumber
of_ports (ports.BadMessage line) = at line BadMessage
of_ports (ports.BadPeer line) = at line BadPeer
of_ports (ports.BadGeometry line) = at line BadGeometry
of_ports (ports.BadOrder line) = at line BadOrder
of_ports (ports.TooManyTurns line) = at line TooManyTurns
of_ports ports.NoEnd = whole NoEnd
of_ports ports.NoMemory = None

abbrev pub of_bridge : BridgeFault → Option Refusal
of_bridge (bridges.BadLine line) = at line BadLine
of_bridge (bridges.BadNumber line) = at line BadNumber
of_bridge (bridges.BadFrame line) = at line BadFrame
of_bridge (bridges.BadOrder line) = at line BadOrder
of_bridge (bridges.TooManyFrames line) = at line TooManyFrames
of_bridge bridges.NoEnd = whole NoEnd
of_bridge bridges.NoMemory = None

abbrev pub at_bytes : (first count : ℕ) → Reason → Option Refusal
at_bytes first count reason = Some (record { place = Bytes first count; reason = reason })

abbrev pub at_packet : ℕ → Reason → Option Refusal
at_packet number reason = Some (record { place = Packet number; reason = reason })

-- the sizes of an image's header that are faulty
abbrev pub of_sizes : GeometryFault → Option Refusal
of_sizes (BadPeers found) = at_bytes 8 4 BadGeometry
of_sizes (BadPage Table size) = at_bytes 12 4 BadGeometry
of_sizes (BadPage Common size) = at_bytes 16 8 BadGeometry
of_sizes (BadPage Out size) = at_bytes 24 8 BadGeometry
of_sizes (TableTooSmall need found) = at_bytes 12 4 BadGeometry
of_sizes (RegionTooLarge size) = at_bytes 8 24 BadGeometry

-- the header, its sizes, the end of an image that is too short, or the first bytes after the region
abbrev pub of_image : DumpFault → Option Refusal
of_image dumps.BadHeader = at_bytes 0 HEADER_LEN BadHeader
of_image (dumps.Geometry fault) = of_sizes fault
of_image (dumps.ShortImage need found) = at_bytes found 1 (ShortImage need found)
of_image (dumps.LongImage need found) = at_bytes need 16 (LongImage need found)
of_image dumps.NoMemory = None

-- the fields of a capture file's header by their places, or the packet
abbrev pub of_capture : CaptureFault → Option Refusal
of_capture (captures.Short found) = at_bytes found 1 Short
of_capture (captures.BadMagic value) = at_bytes 0 4 BadMagic
of_capture (captures.BadVersion major minor) = at_bytes 4 4 BadVersion
of_capture (captures.BadLinkType value) = at_bytes 20 4 BadLinkType
of_capture (captures.BadPacket number) = at_packet number BadPacket
of_capture (captures.CutPacket number) = at_packet number CutPacket
of_capture captures.NoMemory = None
