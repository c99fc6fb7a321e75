-- The bytes that are no capture file, and their faults.
use Rattle.std.specs.Prelude.{◌≡◌, ℕ, ◌+◌, ◌<◌, ◌≤◌, ◌⊎◌, List, ◌++◌, All, length, drop}
use Rattle.byteorder.specs.Endian.{little_number}
use Rattle.frame_capture.specs.declared.order.Order.{Order}
use Rattle.frame_capture.specs.declared.packets.Packet.{Packet}
use Rattle.frame_capture.specs.declared.faults.CaptureFault.{CaptureFault}
use Rattle.frame_capture.specs.declared.faults.CaptureFault.TheVariants.{Short, BadMagic, BadVersion, BadLinkType, BadPacket, CutPacket, NoMemory}
use Rattle.frame_capture.specs.declared.reading.TheConstants.{HEADER_LEN, LONGEST_CAPTURED, PACKET_HEADER_LEN}
use Rattle.frame_capture.specs.CaptureFile.{IsInOrder, number_at, packets_bytes, IsPacket}

-- ---- the header

abbrev pub IsVersion : Order → List ℕ → Type 0
IsVersion order bytes = (number_at order 2 4 bytes ≡ 2) × (number_at order 2 6 bytes ≡ 4)

abbrev pub IsEthernet : Order → List ℕ → Type 0
IsEthernet order bytes = number_at order 4 20 bytes ≡ 1

-- The bytes have the length of a header and begin with the magic number.
abbrev pub BeginsWell : Order → List ℕ → Type 0
BeginsWell order bytes = (HEADER_LEN ≤ length bytes) × IsInOrder order bytes

-- The whole header is right.
abbrev pub HasHeader : Order → List ℕ → Type 0
HasHeader order bytes = BeginsWell order bytes × IsVersion order bytes × IsEthernet order bytes

-- ---- packets

-- The number of bytes captured of the packet at the start of these bytes.
abbrev pub captured_length : Order → List ℕ → ℕ
captured_length order bytes = number_at order 4 8 bytes

-- The packet's own header is complete, and its captured length is above the most.
abbrev pub IsTooLong : Order → List ℕ → Type 0
IsTooLong order bytes = (PACKET_HEADER_LEN ≤ length bytes) × (LONGEST_CAPTURED < captured_length order bytes)

-- The packet's header or its bytes are incomplete.
abbrev pub IsCut : Order → List ℕ → Type 0
IsCut order bytes =
    (0 < length bytes)
    × ((length bytes < PACKET_HEADER_LEN) ⊎ ((captured_length order bytes ≤ LONGEST_CAPTURED) × (length bytes < PACKET_HEADER_LEN + captured_length order bytes)))

-- The packets before this one are good, and the bytes from it on are bad.
pub record IsFirstBad (IsBad : Order → List ℕ → Type 0) (order : Order) (bytes : List ℕ) (number : ℕ) : Type 0 where
  pub before : List Packet
  pub each : All IsPacket before
  pub left : List ℕ
  pub spelled : bytes ≡ packets_bytes order before ++ left
  pub bad : IsBad order left
  pub number_is : number ≡ length before + 1

-- In a file with a right header, packet `number` is the first bad one.
abbrev pub IsPacketFault : (Order → List ℕ → Type 0) → List ℕ → ℕ → Type 0
IsPacketFault IsBad bytes number = (order : Order) × HasHeader order bytes × IsFirstBad IsBad order (drop HEADER_LEN bytes) number

-- ---- faults

-- The first fault; an allocation may fail at any time.
abbrev pub IsCaptureFault : List ℕ → CaptureFault → Type 0
IsCaptureFault bytes (Short found) = (length bytes < HEADER_LEN) × (found ≡ length bytes)
IsCaptureFault bytes (BadMagic value) =
    (HEADER_LEN ≤ length bytes) × ((order : Order) → ¬ IsInOrder order bytes) × (value ≡ little_number 4 bytes)
IsCaptureFault bytes (BadVersion major minor) =
    (order : Order) × BeginsWell order bytes × (¬ IsVersion order bytes)
    × (major ≡ number_at order 2 4 bytes) × (minor ≡ number_at order 2 6 bytes)
IsCaptureFault bytes (BadLinkType value) =
    (order : Order) × BeginsWell order bytes × IsVersion order bytes × (¬ IsEthernet order bytes)
    × (value ≡ number_at order 4 20 bytes)
IsCaptureFault bytes (BadPacket number) = IsPacketFault IsTooLong bytes number
IsCaptureFault bytes (CutPacket number) = IsPacketFault IsCut bytes number
IsCaptureFault bytes NoMemory = Unit {0}
