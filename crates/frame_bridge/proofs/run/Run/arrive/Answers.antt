use Rattle.std.proofs.Common.{◌≡◌, ℕ, List, ◌<◌, length, arith, ap, sym, subst, ◌∙◌, ◌++◌, ◌+◌, ◌∷◌, []}
use Rattle.line_format.specs.Rows.{line_of_row}
use Rattle.link_endpoint.specs.Engine.{delivered}
use Rattle.frame_bridge.specs.declared.ports.Port.{Port}
use Rattle.frame_bridge.specs.declared.run.Run.{Run}
use Rattle.frame_bridge.specs.Forwarding.{ports_for}
use Rattle.frame_bridge.specs.BridgeView.{RefinesArrivals, arrival}
use Rattle.frame_bridge.specs.Output.{pieces_of, arrive_row}
use Rattle.frame_bridge.proofs.RunAfterTurn.{get_at}
use Rattle.frame_bridge.proofs.ArrivalsAreCopied.{is_among, Copied, copy_step, copied_less, same_some, arrived_run}
use Rattle.frame_bridge.proofs.run.Run.arrive.Goals as goal
use Rattle.frame_bridge.proofs.run.Run.arrive.Goals.{then-contains+in_ok-copy+in_ok-take_copy, else-contains}

pub loop-port-preserved : goal.loop-port-preserved
loop-port-preserved c =
    let among : is_among c.in_ok-to.to.items c.loop-port.port ≡ c.contains.result =
    ap (λ (l : List ℕ). is_among l c.loop-port.port) (sym c.as_slice.ensures.value) ∙ sym c.contains.ensures.value in
    elim c.if-contains.branch [
      | then-contains+in_ok-copy+in_ok-take_copy w ↦ record {
        ports = λ sender is.
            let inv = c.loop-port.invariant.ports sender is in
            let from : c.args.from < length c.loop-port.self.ports.items = omega (arith, c.requires.refines.3, c.requires.refines.2.long, inv.long) in
            let below : c.loop-port.port < length c.loop-port.self.ports.items = omega (arith, c.loop-port-test.true, c.len-port-end.ensures, inv.long, c.args.self.now.ports.ok.0) in
            subst (λ (r : Run). Copied c.args.self.now.ports.items r.ports.items c.in_ok-to.to.items (delivered sender.own.end) (c.loop-port.port + 1)) (sym w.self-is)
            (copy_step c.args.self.now.ports.items c.loop-port.self.ports.items c.in_ok-to.to.items c.args.from c.loop-port.port sender w.index-then-contains.result.now
            w.index_mut.result.now w.take_copy.new.self _ is
            (get_at c.loop-port.self.ports.items c.args.from w.index-then-contains.result.now from w.index-then-contains.ensures)
            (w.in_ok-copy.ensures ∙ w.delivered.ensures) inv
            (get_at c.loop-port.self.ports.items c.loop-port.port w.index_mut.result.now below w.index_mut.ensures.value) below (among ∙ w.if-contains.true) w.in_ok-take_copy.ensures);
        bridge = ap (λ (r : Run). r.bridge) w.self-is ∙ c.loop-port.invariant.bridge;
        text = ap (λ (r : Run). r.text) w.self-is ∙ c.loop-port.invariant.text;
      }
      | else-contains w ↦ record {
        ports = λ sender is.
            subst (λ (r : Run). Copied c.args.self.now.ports.items r.ports.items c.in_ok-to.to.items (delivered sender.own.end) (c.loop-port.port + 1)) (sym w.self-is)
            (copied_less c.args.self.now.ports.items c.loop-port.self.ports.items c.in_ok-to.to.items (delivered sender.own.end) c.loop-port.port (c.loop-port.invariant.ports sender is)
            (among ∙ w.if-contains.false));
        bridge = ap (λ (r : Run). r.bridge) w.self-is ∙ c.loop-port.invariant.bridge;
        text = ap (λ (r : Run). r.text) w.self-is ∙ c.loop-port.invariant.text;
      }
    ]

pub returns : goal.returns
returns c = λ w ports port refines is.
    let frame : List ℕ = delivered port.own.end in
    let inv = c.loop-port.invariant.ports port is in
    let from : c.args.from < length c.args.self.now.ports.items = omega (arith, c.requires.refines.3, c.requires.refines.2.long) in
    let port_is : c.index.result.now ≡ port = same_some c.index.result.now port (sym (get_at c.args.self.now.ports.items c.args.from c.index.result.now from c.index.ensures) ∙ is) in
    let frame_is : c.delivered-frame.result.now ≡ frame = c.delivered-frame.ensures ∙ ap (λ (p : Port). delivered p.own.end) port_is in
    let all : c.loop-port.port ≡ length c.args.self.now.ports.items =
    omega (arith, c.loop-port-test.false, c.loop-port.auto.port-end, c.len-port-end.ensures, c.args.self.now.ports.ok.0) in
    arrived_run ports w c.args.self.now c.loop-port.self c.args.from frame c.in_ok-to.to.items (record {
      refines = refines;
      bridge = subst (λ b. RefinesArrivals b (w.arrivals ++ arrival c.args.from frame ∷ [])) (sym c.loop-port.invariant.bridge)
          (subst (λ (f : List ℕ). RefinesArrivals c.arrive.new.self (w.arrivals ++ arrival c.args.from f ∷ [])) frame_is (c.in_ok-to.ensures.refines w.arrivals refines.bridge));
      same = ap (λ b. b.ports) c.loop-port.invariant.bridge ∙ c.arrive.ensures.same;
      goes = c.in_ok-to.ensures.ports w.arrivals refines.bridge ∙ ap (λ (f : List ℕ). ports_for c.args.self.now.bridge.ports w.arrivals (arrival c.args.from f)) frame_is;
      text = ap (λ t. t.items) c.loop-port.invariant.text ∙ (c.in_ok-put.ensures ∙ ap (λ (f : List ℕ). c.args.self.now.text.items ++ line_of_row pieces_of (arrive_row (arrival c.args.from f))) frame_is);
      copied = subst (λ (n : ℕ). Copied c.args.self.now.ports.items c.loop-port.self.ports.items c.in_ok-to.to.items frame n) all inv;
    })
