-- The classic capture file of Ethernet frames (libpcap's savefile format, version 2.4). It has a
-- header of 24 bytes, and then the packets, each after 16 bytes of its own. The byte order of the
-- magic number is that of all numbers.
use Rattle.std.specs.Prelude.{◌≡◌, ℕ, ◌^◌, ◌<◌, ◌≤◌, List, ◌++◌, All, length, drop}
use Rattle.std.specs.List.{flat_map}
use Rattle.byteorder.specs.Endian.{little_number, big_number, little_bytes, big_bytes}
use Rattle.frame_capture.specs.declared.order.Order.{Order}
use Rattle.frame_capture.specs.declared.order.Order.TheVariants.{Little, Big}
use Rattle.frame_capture.specs.declared.packets.Packet.{Packet}
use Rattle.frame_capture.specs.declared.packets.Capture.{Capture}
use Rattle.frame_capture.specs.declared.reading.TheConstants.{LONGEST_CAPTURED}

-- A number as `width` bytes.
abbrev pub bytes_of : Order → (width number : ℕ) → List ℕ
bytes_of Little width number = little_bytes width number
bytes_of Big width number = big_bytes width number

-- The number in the first `width` bytes.
abbrev pub number_of : Order → (width : ℕ) → List ℕ → ℕ
number_of Little width bytes = little_number width bytes
number_of Big width bytes = big_number width bytes

-- The number in `width` bytes at offset `place`.
abbrev pub number_at : Order → (width place : ℕ) → List ℕ → ℕ
number_at order width place bytes = number_of order width (drop place bytes)

-- The magic number, A1B2C3D4 in hexadecimal.
abbrev pub magic : ℕ
magic = 2712847316

-- The bytes begin with the magic number in this order.
abbrev pub IsInOrder : Order → List ℕ → Type 0
IsInOrder order bytes = number_of order 4 bytes ≡ magic

-- The header has the magic number, version 2.4, the time zone and the figures of the times. It has
-- the most bytes of a frame that were captured, and the link type, 1 for Ethernet.
abbrev pub header_bytes : Order → (zone figures snaplen : ℕ) → List ℕ
header_bytes order zone figures snaplen =
    bytes_of order 4 magic ++ bytes_of order 2 2 ++ bytes_of order 2 4 ++ bytes_of order 4 zone
    ++ bytes_of order 4 figures ++ bytes_of order 4 snaplen ++ bytes_of order 4 1

-- A packet: its time, the number of bytes captured, the number of bytes of the frame, and the
-- captured bytes.
abbrev pub packet_bytes : Order → Packet → List ℕ
packet_bytes order p =
    bytes_of order 4 p.seconds ++ bytes_of order 4 p.micros ++ bytes_of order 4 (length p.frame)
    ++ bytes_of order 4 p.original ++ p.frame

abbrev pub packets_bytes : Order → List Packet → List ℕ
packets_bytes order ps = flat_map (packet_bytes order) ps

-- A packet of a file: its numbers have 32 bits, as those of every Packet, and at most 262,144 bytes
-- were captured.
pub record IsPacket (p : Packet) : Type 0 where
  pub seconds : p.seconds < 2 ^ 32
  pub micros : p.micros < 2 ^ 32
  pub original : p.original < 2 ^ 32
  pub short : length p.frame ≤ LONGEST_CAPTURED

-- Each frame fits into a packet.
abbrev pub AreShort : List Packet → Type 0
AreShort ps = All (λ p. length p.frame ≤ LONGEST_CAPTURED) ps

-- The bytes are a file of the capture, in one of the orders. Zone and figures may have any value.
pub record IsCaptureFile (capture : Capture) (bytes : List ℕ) : Type 0 where
  pub order : Order
  pub zone : ℕ
  pub figures : ℕ
  pub snaplen : capture.snaplen < 2 ^ 32
  pub each : All IsPacket capture.packets
  pub spelled : bytes ≡ header_bytes order zone figures capture.snaplen ++ packets_bytes order capture.packets
