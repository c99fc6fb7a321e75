-- The value that a handle owns may be sent to another thread.
use Rattle.std.specs.Prelude.{Option, Some, None}
use mir.Raw.{raw}
use base.Shift.{Keyless}
use denote.Memory.{lone}
use denote.RawPtr.{Ptr}
use denote.Struct.Struct.{exits_of}
use denote.Struct.Owning.{shape, fields, to}
use denote.Param.Send.{IsSend, AllSend, owning_send, struct_send, recorded_send, sendable}
use denote.Struct.Declared.{shape as plain_shape}
use Rattle.link_endpoint.proofs.endpoint.Endpoint.TheSendSync.{the_send as endpoint_sent}
use Rattle.std.proofs.Crossing as heap
use Rattle.std_alloc.proofs.SendSync.{quiet, lies}
use Rattle.std.specs.declared.alloc.Global.{Global}
use Rattle.std.proofs.alloc.Global.TheSendSync as handle
use Rattle.ivshm_c.specs.declared.end_state.EndState.{EndState}
use Rattle.ivshm_c.specs.contracts.end_state.EndState as boxed
use Rattle.ivshm_c.specs.contracts.counts.Counts as counts
use Rattle.raw_box.specs.Handle.{held}
use Rattle.ivshm_c.specs.contracts.held.End.{the_row, the_type}

-- Counts may be sent to another thread, because numbers may.
counts_sent : IsSend (counts.the_field).row
counts_sent =
    struct_send (plain_shape counts.the_type) (search sendable, (search sendable, (search sendable, (search sendable, (search sendable, (search sendable, tt))))))

-- An end may be sent to another thread, because its endpoint and its counts may.
sent : IsSend boxed.the_row
sent = recorded_send (boxed.the_field).row _ _ boxed.the_type.to_one (struct_send (plain_shape boxed.the_type) (endpoint_sent, (search sendable depth 16, (counts_sent, tt))))

held_keyless : (at : Ptr) (alloc : Global) (port : Option EndState) → Keyless (held boxed.the_row at alloc port)
held_keyless at alloc None = λ _. tt
held_keyless at alloc (Some port) = (lies boxed.the_row sent at port, heap.frees.frees alloc (raw (lone boxed.the_row.mir)) at)

pub send : IsSend the_row
send =
    let all : AllSend (fields the_type) = (search sendable, (handle.the_field_send, tt)) in
    owning_send the_type all (λ d. held_keyless d.at d.alloc d.port) (λ k. quiet (to the_type) (exits_of k (fields the_type)) ((struct_send (shape the_type) all).leaving k))
