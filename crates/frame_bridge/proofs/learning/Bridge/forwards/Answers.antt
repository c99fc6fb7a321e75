use Rattle.std.proofs.Common.{◌≡◌, Bool, ℕ, ap, sym, ◌∙◌}
use Rattle.std.specs.Prelude.{Option, None, filter, if◌then◌else◌}
use Rattle.frame_bridge.specs.Forwarding.{is_group, destination, goes_to, known_for, port_of, first_ports}
use Rattle.frame_bridge.specs.BridgeView.{View}
use Rattle.frame_bridge.proofs.learning.Bridge.forwards.Goals as goal
use Rattle.frame_bridge.proofs.learning.Bridge.forwards.Goals.{then-is_group, else-is_group}

pub returns : goal.returns
returns c = λ arrivals frame refines to.
    let group : is_group (destination frame) ≡ c.is_group.result = ap is_group to ∙ sym c.is_group.ensures in
    let known : c.if-is_group.known ≡ known_for arrivals (destination frame) = elim c.if-is_group.branch [
      | then-is_group w ↦ w.known-is ∙ sym (ap (λ (b : Bool). if b then None else port_of arrivals (destination frame)) (group ∙ w.if-is_group.true))
      | else-is_group w ↦ w.known-is ∙ (w.port_of-known.ensures arrivals refines ∙ (ap (port_of arrivals) (sym to) ∙
          sym (ap (λ (b : Bool). if b then None else port_of arrivals (destination frame)) (group ∙ w.if-is_group.false))))
    ] in
    c.ports_of.ensures ∙ (ap (λ (o : Option ℕ). filter (goes_to o c.args.port) (first_ports c.self.inside.ports)) known ∙
    ap (λ (v : View). filter (goes_to (known_for arrivals (destination frame)) c.args.port) (first_ports v.ports)) c.self.view_is)
