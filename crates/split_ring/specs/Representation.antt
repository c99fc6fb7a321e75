-- The meaning of the fields of a queue.
use Rattle.std.specs.Prelude.{◌≡◌}
use Rattle.split_ring.specs.Layout.{HasBounds, IsQueue, Sizes, size_of, used_ring_offset, data_area_start, slot_of, limit_of}
use Rattle.split_ring.specs.declared.layout.Queue.TheInside.{Inside}

abbrev pub sizes_of : Inside → Sizes
sizes_of a = record { version = a.version; out = a.out; mtu = a.mtu }

-- Each field is the number of the layout that it is named after.
pub record IsWellFormed (a : Inside) : Type 0 where
  pub is_queue : IsQueue (sizes_of a)
  pub bounds : HasBounds (sizes_of a)
  pub size_is : a.size ≡ size_of (sizes_of a)
  pub used_is : a.used ≡ used_ring_offset (size_of (sizes_of a))
  pub payload_is : a.payload ≡ data_area_start (sizes_of a)
  pub slot_is : a.slot ≡ slot_of (sizes_of a)
  pub limit_is : a.limit ≡ limit_of (sizes_of a)

abbrev pub inside_of : Sizes → Inside
inside_of q = record {
  version = q.version;
  out = q.out;
  mtu = q.mtu;
  size = size_of q;
  used = used_ring_offset (size_of q);
  payload = data_area_start q;
  slot = slot_of q;
  limit = limit_of q;
}
