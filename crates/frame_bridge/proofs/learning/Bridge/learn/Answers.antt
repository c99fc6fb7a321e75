use Rattle.std.proofs.Common.{◌≡◌, ◌+◌, ◌++◌, ◌∷◌, [], List, ℕ, false, length, cond, ap, subst, sym, ◌∙◌, inl, inr, arith}
use Rattle.std.specs.Prelude.{is_some, Option, Some}
use Rattle.std.specs.Ordering.{nat_cmp}
use Rattle.std.specs.Cmp.Lexicographic.{slice_cmp}
use Rattle.std.specs.BTreeMap.{is_at}
use Rattle.frame_bridge.specs.Forwarding.{is_group, source}
use Rattle.frame_bridge.specs.BridgeView.{View, RefinesArrivals, arrival, port_in}
use Rattle.frame_bridge.specs.Representation.{bridge_view_of}
use Rattle.frame_bridge.proofs.GrowingLists.{unless}
use Rattle.frame_bridge.proofs.OneMoreArrival.{stands_group, stands_full, stands_put, HasRoom}
use Rattle.frame_bridge.proofs.learning.Bridge.learn.Goals as goal
use Rattle.frame_bridge.proofs.learning.Bridge.learn.Goals.{then-len-lt-MOST-via-then-len-lt-MOST, then-len-lt-MOST-via-else-len-lt-MOST+then-contains_key}

pub returns-then-is_group-clause-refines : goal.returns-then-is_group-clause-refines
returns-then-is_group-clause-refines c = λ earlier frame refines from.
    stands_group c.args.self.now earlier (arrival c.args.port frame) refines (ap is_group from ∙ (sym c.is_group.ensures ∙ c.if-is_group.true))

pub returns-in_ok-insert-clause-refines : goal.returns-in_ok-insert-clause-refines
returns-in_ok-insert-clause-refines c = λ earlier frame refines from.
    let old : View = bridge_view_of c.self.inside in
    let after : View = record { ports = c.self.inside.ports; table = c.insert.new.self.entries } in
    let before : RefinesArrivals old earlier = subst (λ (v : View). RefinesArrivals v earlier) (sym c.self.view_is) refines in
    let alone : is_group (source frame) ≡ false = ap is_group from ∙ (sym c.is_group.ensures ∙ c.if-is_group.false) in
    let room : HasRoom old (source frame) = elim c.then-len-lt-MOST.branch [
      | then-len-lt-MOST-via-then-len-lt-MOST w ↦ inl (omega (arith, c.len.ensures.len, w.if-len-lt-MOST.true))
      | then-len-lt-MOST-via-else-len-lt-MOST+then-contains_key w ↦
          inr (ap (λ (a : List ℕ). is_some (port_in old a)) from ∙ (sym w.contains_key.ensures ∙ w.if-contains_key.true))
    ] in
    let updates : (a : List ℕ) → port_in after a ≡ cond (is_at (slice_cmp nat_cmp (source frame)) a) (Some c.args.port) (port_in old a) =
    λ a. c.in_ok-insert.ensures.updates.0 a ∙
    ap (λ (k : List ℕ). cond (is_at (slice_cmp nat_cmp k) a) (Some c.args.port) (port_in old a)) (sym from) in
    stands_put old after earlier (arrival c.args.port frame) before alone room updates
    (c.in_ok-insert.ensures.len ∙ ap (λ (o : Option ℕ). length old.table + unless (is_some o)) (c.in_ok-insert.ensures.old ∙ ap (port_in old) (sym from)))

pub returns-else-contains_key-clause-refines : goal.returns-else-contains_key-clause-refines
returns-else-contains_key-clause-refines c = λ earlier frame refines from.
    let before : RefinesArrivals (bridge_view_of c.self.inside) earlier = subst (λ (v : View). RefinesArrivals v earlier) (sym c.self.view_is) refines in
    let alone : is_group (source frame) ≡ false = ap is_group from ∙ (sym c.is_group.ensures ∙ c.if-is_group.false) in
    let none : is_some (port_in (bridge_view_of c.self.inside) (source frame)) ≡ false =
    ap (λ (a : List ℕ). is_some (port_in (bridge_view_of c.self.inside) a)) from ∙ (sym c.contains_key.ensures ∙ c.if-contains_key.false) in
    subst (λ (v : View). RefinesArrivals v (earlier ++ arrival c.args.port frame ∷ [])) c.self.view_is
    (stands_full (bridge_view_of c.self.inside) earlier (arrival c.args.port frame) before alone none (omega (arith, c.len.ensures.len)))
