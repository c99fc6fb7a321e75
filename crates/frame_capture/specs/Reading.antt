-- The results of the parts of a read.
use Rattle.std.specs.Prelude.{◌≡◌, ℕ, List, ◌++◌}
use Rattle.frame_capture.specs.declared.order.Order.{Order}
use Rattle.frame_capture.specs.declared.packets.Packet.{Packet}
use Rattle.frame_capture.specs.declared.faults.CaptureFault.{CaptureFault}
use Rattle.frame_capture.specs.declared.faults.CaptureFault.TheVariants as faults
use Rattle.frame_capture.specs.declared.reading.Damage.{Damage}
use Rattle.frame_capture.specs.declared.reading.Damage.TheVariants.{TooLong, Cut, NoMemory}
use Rattle.frame_capture.specs.CaptureFile.{packet_bytes, IsPacket}
use Rattle.frame_capture.specs.Faults.{IsTooLong, IsCut, IsFirstBad}

-- The bytes begin with the packet.
pub record StartsWith (order : Order) (p : Packet) (bytes : List ℕ) : Type 0 where
  pub is_packet : IsPacket p
  pub left : List ℕ
  pub spelled : bytes ≡ packet_bytes order p ++ left

-- Why the bytes don't begin with a packet.
abbrev pub IsDamage : Order → List ℕ → Damage → Type 0
IsDamage order bytes TooLong = IsTooLong order bytes
IsDamage order bytes Cut = IsCut order bytes
IsDamage order bytes NoMemory = Unit {0}

-- The fault of the packet with this number.
abbrev pub fault_at : Damage → ℕ → CaptureFault
fault_at TooLong number = faults.BadPacket number
fault_at Cut number = faults.CutPacket number
fault_at NoMemory number = faults.NoMemory

-- Why the bytes aren't packets.
abbrev pub IsPacketsFault : Order → List ℕ → CaptureFault → Type 0
IsPacketsFault order bytes (faults.BadPacket number) = IsFirstBad IsTooLong order bytes number
IsPacketsFault order bytes (faults.CutPacket number) = IsFirstBad IsCut order bytes number
IsPacketsFault order bytes faults.NoMemory = Unit {0}
IsPacketsFault order bytes _ = ⊥
