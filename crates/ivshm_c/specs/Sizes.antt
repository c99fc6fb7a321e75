-- The description of a device and of a section that the C interface returns, and the sizes that it
-- refuses.
use Rattle.std.specs.Prelude.{ℕ, ◌≡◌, ◌+◌, ◌-◌, ◌%◌, min, unwrap_or, is_some, Result, Ok, Err}
use Rattle.core.specs.Int.{from_bool}
use Rattle.section_map.specs.declared.limits.TheConstants.{LARGEST_REGION}
use Rattle.split_ring.specs.declared.sizes.TheConstants.{FRAME_OVERHEAD, LEAST_MTU, LONGEST_FRAME, MOST_MTU, SHORTEST_FRAME}
use Rattle.section_map.specs.Geometry.{Shape, IsShape, section_start}
use Rattle.section_map.specs.Faults.{shape_of, IsFirstFault, IsPages, IsSomePages}
use Rattle.section_map.specs.declared.sizes.GeometryFault.{GeometryFault}
use Rattle.split_ring.specs.Layout.{Sizes, IsQueue, size_of, slot_of, limit_of, data_area_start, data_area_len, word_offset, AvailIndex, AvailEntry, UsedEvent, UsedIndex, UsedId, AvailEvent}
use Rattle.split_ring.specs.Faults.{IsQueueFault}
use Rattle.split_ring.specs.declared.faults.QueueFault.{QueueFault}
use Rattle.split_ring.specs.declared.faults.QueueFault.TheVariants as queue
use Rattle.pci_space.specs.declared.found.Found as walked
use Rattle.pci_space.specs.declared.found.MsixFound.{MsixFound}
use Rattle.pci_space.specs.declared.found.CapabilityFault.{CapabilityFault}
use Rattle.pci_space.specs.declared.found.CapabilityFault.TheVariants as capability
use Rattle.ivshm_c.specs.declared.device.Found.{Found}
use Rattle.ivshm_c.specs.declared.device.Layout.{Layout}
use Rattle.ivshm_c.specs.declared.device.Limits.{Limits}
use Rattle.c_status.specs.declared.status.Status.{Status}
use Rattle.c_status.specs.declared.status.Status.TheVariants.{Done}
use Rattle.c_status.specs.declared.status.Status.TheVariants as status_of
use Rattle.c_status.specs.Statuses.{geometry_status}

abbrev pub no_msix : MsixFound
no_msix = record { vectors = 0; table = 0; pending = 0 }

-- The result of a walk, as numbers. Each place of MSI-X has the Base Address Register and the
-- offset in it, and 0 vectors if there is no MSI-X.
abbrev pub found_crossed : walked.Found → Found
found_crossed found = let msix = unwrap_or found.msix no_msix in record {
  common = found.common;
  out = found.out;
  base = unwrap_or found.base 0;
  table = found.table;
  protocol = found.protocol;
  one_shot = from_bool found.one_shot;
  has_base = from_bool (is_some found.base);
  vectors = msix.vectors;
  vectors_bar = msix.table % 8;
  vectors_offset = msix.table - msix.table % 8;
  pending_bar = msix.pending % 8;
  pending_offset = msix.pending - msix.pending % 8;
}

-- The answer for each reason for which a walk finds no device.
abbrev pub capability_status : CapabilityFault → Status
capability_status (capability.NotThisDevice vendor device) = status_of.OtherDevice
capability_status (capability.BadClass class) = status_of.BadClass
capability_status (capability.OutOfSpace at) = status_of.OutOfSpace
capability_status (capability.Loop at) = status_of.Loop
capability_status (capability.BadVendorLength bytes) = status_of.BadVendorLength
capability_status capability.NoVendor = status_of.NoVendor

-- The answer of a walk, and the program's result structure after it.
abbrev pub walk_status : Result walked.Found CapabilityFault → Status
walk_status (Ok found) = Done
walk_status (Err fault) = capability_status fault

abbrev pub found_after : Result walked.Found CapabilityFault → Found → Found
found_after (Ok found) before = found_crossed found
found_after (Err fault) before = before

-- The sizes of a region with this number of peers, and of its queues in a link of this version.
abbrev pub shape_found : Found → ℕ → Shape
shape_found found peers = shape_of peers found.table found.common found.out

abbrev pub sizes_found : Found → (version mtu : ℕ) → Sizes
sizes_found found version mtu = record { version = version; out = found.out; mtu = mtu }

-- The sizes in bytes are whole pages, and those of a region with this number of peers.
abbrev pub HasSizes : Found → ℕ → Type 0
HasSizes found peers = IsSomePages found.table × IsPages found.common × IsSomePages found.out × IsShape (shape_found found peers)

-- The answer for each reason for which a section has no queue.
abbrev pub queue_status : QueueFault → Status
queue_status (queue.BadMtu mtu) = status_of.BadMtu
queue_status (queue.TooSmall bytes) = status_of.SmallOut
queue_status (queue.NoSlot slot room) = status_of.NoSlot

-- The first test that the sizes of a region, or else its queues, fail.
pub data IsSizeFault (found : Found) (version peers mtu : ℕ) (status : Status) : Type 0 where
  no_region : (fault : GeometryFault) → IsFirstFault peers found.table found.common found.out fault → status ≡ geometry_status fault →
      IsSizeFault found version peers mtu status
  no_queue : (fault : QueueFault) → HasSizes found peers → IsQueueFault (sizes_found found version mtu) fault → status ≡ queue_status fault →
      IsSizeFault found version peers mtu status

-- The greatest length in bytes of a delivered frame: at most the longest frame and the data area.
abbrev pub longest_delivery : Sizes → ℕ
longest_delivery q = min LONGEST_FRAME (data_area_len q)

-- The words of a region by name.
abbrev pub layout_of : Shape → Sizes → Layout
layout_of shape q = record {
  first = section_start shape 0;
  words = shape.out;
  queue_size = size_of q;
  limit = limit_of q;
  slot = slot_of q;
  data_area = data_area_start q;
  available_index = word_offset q AvailIndex;
  available_entries = word_offset q (AvailEntry 0);
  used_event = word_offset q UsedEvent;
  used_index = word_offset q UsedIndex;
  used_elements = word_offset q (UsedId 0);
  available_event = word_offset q AvailEvent;
  longest_offer = q.mtu + FRAME_OVERHEAD;
  longest_delivery = longest_delivery q;
}

-- The answer of the layout, whose words are the same in each version, with the slots and the limit
-- of version 1. Each refusal has its cause, and writes nothing.
pub data LaysOut (found : Found) (peers mtu : ℕ) (before : Layout) : Status → (after : Layout) → Type 0 where
  laid_out : HasSizes found peers → IsQueue (sizes_found found 1 mtu) →
      LaysOut found peers mtu before Done (layout_of (shape_found found peers) (sizes_found found 1 mtu))
  refused : (status : Status) → IsSizeFault found 1 peers mtu status → LaysOut found peers mtu before status before

-- The link's highest version and the bounds of its numbers (profile). The shortest frame is an
-- Ethernet header; the longest one has the greatest MTU and 18 bytes more.
abbrev pub limits : Limits
limits = record { version = 3; least_mtu = LEAST_MTU; most_mtu = MOST_MTU; shortest_frame = SHORTEST_FRAME; longest_frame = LONGEST_FRAME; largest_region = LARGEST_REGION }
