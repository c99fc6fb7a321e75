-- The capture of what a history delivers to a peer (profile): a packet for each frame delivered.
-- The packet's time is the number of its line, from 1, in microseconds.
use Rattle.std.specs.Prelude.{ℕ, ◌+◌, ◌/◌, ◌%◌, ◌≤◌, ◌==◌, if◌then◌else◌, List, [], ◌∷◌, ◌++◌, length}
use Rattle.lawful_history.specs.declared.line.Line.{Line}
use Rattle.lawful_history.specs.declared.line.Line.TheVariants.{Deliver}
use Rattle.frame_capture.specs.declared.packets.Packet.{Packet}
use Rattle.frame_capture.specs.declared.packets.Capture.{Capture}
use Rattle.frame_capture.specs.declared.reading.TheConstants.{LONGEST_CAPTURED}

-- The packet of a frame that line `number` delivers.
abbrev pub packet_of : (number : ℕ) (frame : List ℕ) → Packet
packet_of number frame = record { seconds = number / 1000000; micros = number % 1000000; original = length frame; frame = frame }

-- The packet of line `number`, if it delivers a frame to the peer.
abbrev pub line_packets : (peer number : ℕ) → Line → List Packet
line_packets peer number (Deliver receiver frame) = if receiver == peer then packet_of number frame ∷ [] else []
line_packets peer number _ = []

-- The packets of lines; the first line has this number.
abbrev pub packets_from : (peer number : ℕ) → List Line → List Packet
packets_from peer number [] = []
packets_from peer number (line ∷ lines) = line_packets peer number line ++ packets_from peer (number + 1) lines

-- The capture of a history.
abbrev pub capture_of : (peer : ℕ) → List Line → Capture
capture_of peer lines = record { snaplen = LONGEST_CAPTURED; packets = packets_from peer 1 lines }

-- A delivered frame fits into a packet.
abbrev pub IsShortLine : Line → Type 0
IsShortLine (Deliver receiver frame) = length frame ≤ LONGEST_CAPTURED
IsShortLine _ = Unit {0}
