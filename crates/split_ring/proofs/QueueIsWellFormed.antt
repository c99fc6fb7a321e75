-- The fields of a new queue are the numbers of its layout.
use Rattle.std.proofs.Common.{◌≡◌, ℕ, ◌+◌, ◌-◌, ◌/◌, ◌≤◌, min, nat_le, cond, Some, sym, ap, unwrap_or, ◌∙◌}
use Rattle.ivs_base.specs.Numbers.{up64}
use Rattle.section_map.specs.declared.limits.TheConstants.{LARGEST_REGION}
use Rattle.split_ring.specs.declared.sizes.TheConstants.{FRAME_OVERHEAD, LEAST_MTU, MOST_MTU}
use Rattle.split_ring.specs.Layout.{Sizes, IsVersion, size_of, queue_size, rings_len, used_ring_offset, slots_of, limit_of, IsQueue}
use Rattle.split_ring.specs.Representation.{IsWellFormed}
use Rattle.split_ring.proofs.QueueHasBounds.{bounds}

pub new_queue_is_well_formed : (version out mtu n used payload slot limit : ℕ)
    → IsVersion version → queue_size out ≡ Some n → LEAST_MTU ≤ mtu → mtu ≤ MOST_MTU → out ≤ LARGEST_REGION
    → used ≡ used_ring_offset n → payload ≡ rings_len n → slot ≡ up64 (FRAME_OVERHEAD + mtu) → slot ≤ out - payload → limit ≡ cond (nat_le 3 version) n (min n ((out - payload) / slot))
    → IsWellFormed (record { version = version; out = out; mtu = mtu; size = n; used = used; payload = payload; slot = slot; limit = limit })
unfolding limit_of slots_of
new_queue_is_well_formed version out mtu n used payload slot limit known found least most section used_is payload_is slot_is fits limit_is =
    let q : Sizes = record { version = version; out = out; mtu = mtu } in
    let n_is : size_of q ≡ n = ap (λ o. unwrap_or o 0) found in
    let h : IsQueue q = record {
      known = known;
      mtu_least = least;
      mtu_most = most;
      section = section;
      fits = found ∙ ap Some (sym n_is);
      one_slot = rw (n_is, ← payload_is, ← slot_is) fits;
    } in
    record {
      is_queue = h;
      bounds = bounds q h;
      size_is = sym n_is;
      used_is = used_is ∙ ap used_ring_offset (sym n_is);
      payload_is = payload_is ∙ ap rings_len (sym n_is);
      slot_is = slot_is;
      limit_is = rw (n_is, ← payload_is, ← slot_is) limit_is;
    }
