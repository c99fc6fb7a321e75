use Rattle.std.proofs.Common.{◌+◌, sym, ap, ◌∙◌, arith, rules}
use Rattle.ivs_base.specs.Numbers.{up64}
use Rattle.split_ring.proofs.QueueSizeIsGreatest.{found}
use Rattle.split_ring.proofs.QueueIsWellFormed.{new_queue_is_well_formed}
use Rattle.split_ring.proofs.layout.Queue.of_version.Goals as goal

pub rings_len-payload-requires : goal.rings_len-payload-requires
rings_len-payload-requires c = (found c.args.out c.in-Some.size (sym c.in-Some.ensures)).most

pub overflow_sub-room : goal.overflow_sub-room
overflow_sub-room c =
    let fits = (found c.args.out c.in-Some.size (sym c.in-Some.ensures)).fits in
    let e = c.rings_len-payload.ensures in omega arith

pub used_ring_offset-requires : goal.used_ring_offset-requires
used_ring_offset-requires c = (found c.args.out c.in-Some.size (sym c.in-Some.ensures)).most

pub invariant_of-result : goal.invariant_of-result
invariant_of-result c =
    new_queue_is_well_formed c.args.version c.args.out c.args.mtu c.in-Some.size c.used_ring_offset.result c.rings_len-payload.result c.up64-slot.result c.limit.result
    c.requires.known (sym c.in-Some.ensures) (search rules) (search rules) c.requires.section
    c.used_ring_offset.ensures c.rings_len-payload.ensures (c.up64-slot.ensures.value ∙ ap (λ m. up64 (18 + m)) c.from.ensures) c.if-room-slot.false c.limit.ensures
