-- The order of each access: `order_at` of its place, which the contract of `Endpoint::order` cites.
use Rattle.std.specs.Prelude.{Bool, true, false, ◌||◌}
use Rattle.call_grammar.specs.Places.{Place}
use Rattle.link_endpoint.specs.declared.order.Order.{Order}
use Rattle.link_endpoint.specs.declared.order.Order.TheVariants.{Acquire, Release}
use Rattle.link_endpoint.specs.Orders.{order_at}

abbrev is_acquire : Order → Bool
is_acquire Acquire = true
is_acquire _ = false

abbrev is_releasing : Order → Bool
is_releasing Release = true
is_releasing _ = false

-- The access at a place is a load-acquire, or a store-release.
abbrev pub acquires : Place → Bool
acquires place = is_acquire (order_at place).order

abbrev pub releases : Place → Bool
releases place = is_releasing (order_at place).order

-- A full fence is made before the access, or after it.
abbrev pub fences_before : Place → Bool
fences_before place = (order_at place).fence_before

abbrev pub fences_after : Place → Bool
fences_after place = (order_at place).fence_after

-- A full fence is made between the steps at two places that follow one another.
abbrev pub owes : Place → Place → Bool
owes place next = fences_after place || fences_before next
