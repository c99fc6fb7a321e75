-- The crossed numbers determine the values.
use Rattle.std.proofs.Common.{ℕ, ◌≡◌, Bool, true, false, refl, sym, ap, ◌∙◌, ◌==◌, if◌then◌else◌}
use Rattle.split_ring.specs.declared.steps.Access.{Access}
use Rattle.split_ring.specs.declared.steps.Access.TheVariants as access
use Rattle.split_ring.specs.declared.steps.Note.{Note}
use Rattle.split_ring.specs.declared.steps.Note.TheVariants as note
use Rattle.split_ring.specs.declared.ranges.FieldName.{FieldName}
use Rattle.split_ring.specs.declared.ranges.FieldName.TheVariants.{AvailIndex, AvailEntry, DescAddress, DescLength, DescFlags, UsedIndex, UsedId}
use Rattle.link_endpoint.specs.declared.order.Order.{Order}
use Rattle.link_endpoint.specs.declared.order.Order.TheVariants.{Relaxed, Acquire, Release}
use Rattle.link_endpoint.specs.declared.order.Ordering.{Ordering}
use Rattle.core.specs.Int.{from_bool}
use Rattle.ivshm_c.specs.declared.crossing.Access as crossed_access
use Rattle.ivshm_c.specs.declared.crossing.Note as crossed_note
use Rattle.ivshm_c.specs.Crossing.{field_number, order_number, numbered, access_crossed, note_crossed, CrossingsHaveContracts}

-- An access from its numbers.
abbrev access_back : crossed_access.Access → Access
access_back c =
    if c.kind == 0 then access.Nothing
    else if c.kind == 1 then access.Read c.word
    else if c.kind == 2 then access.Write c.word c.value
    else if c.kind == 3 then access.State c.value
    else access.Ring c.word c.value

access_is_back : (a : Access) (reads writes : ℕ) (ordering : Ordering) → access_back (access_crossed a reads writes ordering) ≡ a
access_is_back access.Nothing reads writes ordering = refl
access_is_back (access.Read word) reads writes ordering = refl
access_is_back (access.Write word value) reads writes ordering = refl
access_is_back (access.State value) reads writes ordering = refl
access_is_back (access.Ring target vector) reads writes ordering = refl

-- An order from its numbers.
abbrev order_back : ℕ → Order
order_back n = if n == 0 then Relaxed else if n == 1 then Acquire else Release

order_is_back : (o : Order) → order_back (order_number o) ≡ o
order_is_back Relaxed = refl
order_is_back Acquire = refl
order_is_back Release = refl

abbrev flag_back : ℕ → Bool
flag_back n = if n == 0 then false else true

flag_is_back : (b : Bool) → flag_back (from_bool b) ≡ b
flag_is_back true = refl
flag_is_back false = refl

abbrev ordering_back : crossed_access.Access → Ordering
ordering_back c = record { order = order_back c.order; fence_before = flag_back c.fence_before; fence_after = flag_back c.fence_after }

numbers_back : (kind word value count : ℕ) (o : Ordering) → ordering_back (numbered kind word value count o) ≡ o
numbers_back kind word value count o =
    ap (λ (x : Order). let r : Ordering = record { order = x; fence_before = flag_back (from_bool o.fence_before); fence_after = flag_back (from_bool o.fence_after) } in r) (order_is_back o.order)
    ∙ ap (λ (x : Bool). let r : Ordering = record { order = o.order; fence_before = x; fence_after = flag_back (from_bool o.fence_after) } in r) (flag_is_back o.fence_before)
    ∙ ap (λ (x : Bool). let r : Ordering = record { order = o.order; fence_before = o.fence_before; fence_after = x } in r) (flag_is_back o.fence_after)

ordering_is_back : (a : Access) (reads writes : ℕ) (o : Ordering) → ordering_back (access_crossed a reads writes o) ≡ o
ordering_is_back access.Nothing reads writes o = numbers_back 0 0 0 0 o
ordering_is_back (access.Read word) reads writes o = numbers_back 1 word 0 reads o
ordering_is_back (access.Write word value) reads writes o = numbers_back 2 word value writes o
ordering_is_back (access.State value) reads writes o = numbers_back 3 0 value 0 o
ordering_is_back (access.Ring target vector) reads writes o = numbers_back 4 target vector 0 o

abbrev field_back : ℕ → FieldName
field_back n =
    if n == 1 then AvailIndex
    else if n == 2 then AvailEntry
    else if n == 3 then DescAddress
    else if n == 4 then DescLength
    else if n == 5 then DescFlags
    else if n == 6 then UsedIndex
    else UsedId

field_is_back : (f : FieldName) → field_back (field_number f) ≡ f
field_is_back AvailIndex = refl
field_is_back AvailEntry = refl
field_is_back DescAddress = refl
field_is_back DescLength = refl
field_is_back DescFlags = refl
field_is_back UsedIndex = refl
field_is_back UsedId = refl

-- A note from its numbers.
abbrev note_back : crossed_note.Note → Note
note_back c =
    if c.kind == 0 then note.Over
    else if c.kind == 1 then note.Saw c.value
    else if c.kind == 2 then note.Reclaim c.value
    else if c.kind == 3 then note.Full
    else if c.kind == 4 then note.Accept
    else if c.kind == 5 then note.Look c.value
    else if c.kind == 6 then note.Deliver
    else if c.kind == 7 then note.Return
    else if c.kind == 8 then note.Done
    else if c.kind == 9 then note.Down
    else note.Refuse (record { field = field_back c.field; value = c.value })

note_is_back : (n : Note) → note_back (note_crossed n) ≡ n
note_is_back note.Over = refl
note_is_back (note.Saw state) = refl
note_is_back (note.Reclaim count) = refl
note_is_back note.Full = refl
note_is_back note.Accept = refl
note_is_back (note.Look count) = refl
note_is_back note.Deliver = refl
note_is_back note.Return = refl
note_is_back note.Done = refl
note_is_back note.Down = refl
note_is_back (note.Refuse refused) = ap (λ (f : FieldName). note.Refuse (record { field = f; value = refused.value })) (field_is_back refused.field)

pub crossings_hold : CrossingsHaveContracts
crossings_hold = record {
  accesses = λ a b reads writes others more at by e. sym (access_is_back a reads writes at) ∙ ap access_back e ∙ access_is_back b others more by;
  orders = λ a b reads writes others more at by e. sym (ordering_is_back a reads writes at) ∙ ap ordering_back e ∙ ordering_is_back b others more by;
  notes = λ a b e. sym (note_is_back a) ∙ ap note_back e ∙ note_is_back b;
}
