use Rattle.std.proofs.Common.{◌≡◌, ◌++◌, ℕ, List, length, arith, ap, subst, ◌∙◌}
use Rattle.std.specs.List.{flat_map}
use Rattle.line_format.specs.Rows.{text_of}
use Rattle.frame_bridge.specs.Forwarding.{first_ports}
use Rattle.frame_bridge.specs.Output.{pieces_of, port_rows}
use Rattle.frame_bridge.proofs.RunAfterTurn.{get_at}
use Rattle.frame_bridge.proofs.OutputByParts.{port_more}
use Rattle.frame_bridge.proofs.bridging.put_ports.Goals as goal

pub loop-number-preserved : goal.loop-number-preserved
loop-number-preserved c = λ w are.
    let n = c.loop-number.number in
    let here = get_at c.args.ports.now n c.index-ports-number.result c.loop-number-test.true c.index-ports-number.is in
    c.in_ok-put_port.ensures w (are.each n c.index-ports-number.result here) (are.fits n c.loop-number-test.true) (are.within n c.loop-number-test.true) ∙
    (ap (λ (t : List ℕ). t ++ text_of pieces_of (port_rows w n)) (c.loop-number.invariant w are) ∙ port_more c.args.out.now.items w n)

pub returns : goal.returns
returns c = λ w are.
    let all : c.loop-number.number ≡ length c.args.ports.now = omega (arith, c.loop-number-test.false, c.loop-number.auto.number-end) in
    subst (λ (n : ℕ). c.loop-number.out.items ≡ c.args.out.now.items ++ text_of pieces_of (flat_map (port_rows w) (first_ports n))) all (c.loop-number.invariant w are)
