-- The conditions under which a section and an MTU have no queue.
use Rattle.std.specs.Prelude.{◌≡◌, ℕ, ◌<◌, ◌≤◌, None, IsSome}
use Rattle.split_ring.specs.Layout.{Sizes, queue_size, slot_of, data_area_len}
use Rattle.split_ring.specs.declared.sizes.TheConstants.{LEAST_MTU, MOST_MTU}
use Rattle.split_ring.specs.declared.faults.QueueFault.{QueueFault}
use Rattle.split_ring.specs.declared.faults.QueueFault.TheVariants.{BadMtu, TooSmall, NoSlot}

-- The range of an MTU (profile).
abbrev pub IsMtu : ℕ → Type 0
IsMtu mtu = (LEAST_MTU ≤ mtu) × (mtu ≤ MOST_MTU)

-- The fault is the first of three tests that fails: the MTU, then a queue size that fits, then a
-- slot in the data area.
abbrev pub IsQueueFault : Sizes → QueueFault → Type 0
IsQueueFault q (BadMtu mtu) = (¬ IsMtu q.mtu) × (mtu ≡ q.mtu)
IsQueueFault q (TooSmall bytes) = IsMtu q.mtu × (queue_size q.out ≡ None) × (bytes ≡ q.out)
IsQueueFault q (NoSlot slot room) = IsMtu q.mtu × IsSome (queue_size q.out) × (data_area_len q < slot_of q) × (slot ≡ slot_of q) × (room ≡ data_area_len q)
