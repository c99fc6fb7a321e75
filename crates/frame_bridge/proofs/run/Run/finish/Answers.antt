use Rattle.std.proofs.Common.{◌≡◌, ◌++◌, ◌∷◌, [], ◌<◌, ◌^◌, ℕ, List, length, arith, ap, sym, subst, ◌∙◌}
use Rattle.std.specs.Prelude.{slice_get}
use Rattle.std.specs.List.{flat_map}
use Rattle.line_format.specs.Rows.{row, line_of_row, text_of}
use Rattle.frame_bridge.specs.declared.output.Line.TheVariants.{Known}
use Rattle.frame_bridge.specs.declared.ports.Port.{Port}
use Rattle.frame_bridge.specs.Forwarding.{first_ports}
use Rattle.frame_bridge.specs.Output.{pieces_of, port_rows}
use Rattle.frame_bridge.specs.Refinement.{ArePorts}
use Rattle.frame_bridge.proofs.OutputByParts.{are_ports, in_order, whole_output}
use Rattle.frame_bridge.proofs.run.Run.finish.Goals as goal

pub put_ports-requires : goal.put_ports-requires
put_ports-requires c = λ k port here.
    let small : length c.args.self.text.items < 2 ^ 64 = omega (arith, c.args.self.text.small, c.args.self.text.ok.0) in
    in_order c.requires.2 c.args.self.ports.items (are_ports c.requires.0 c.requires.1 c.requires.2 c.args.self c.requires.3 small) k port
    (ap (λ (l : List Port). slice_get l k) (sym c.deref.ensures.value) ∙ here)

pub returns : goal.returns
returns c = λ sent ports w there.
    let small : length c.args.self.text.items < 2 ^ 64 = omega (arith, c.args.self.text.small, c.args.self.text.ok.0) in
    let are : ArePorts w c.deref.result.now = subst (ArePorts w) (sym c.deref.ensures.value) (are_ports sent ports w c.args.self there small) in
    let long : length c.deref.result.now ≡ ports = ap length c.deref.ensures.value ∙ there.refines.long in
    whole_output ports w c.args.self.text.items c.put_ports.new.out.items c.put.new.out.items c.put-2.new.out.items there.refines.text
    (c.in_ok-put_ports.ensures w are ∙ ap (λ (n : ℕ). c.args.self.text.items ++ text_of pieces_of (flat_map (port_rows w) (first_ports n))) long)
    (c.in_ok-put.ensures ∙ ap (λ (n : ℕ). c.put_ports.new.out.items ++ line_of_row pieces_of (row Known (n ∷ []) [])) (c.from.ensures ∙ c.known.ensures.count w.arrivals there.refines.bridge))
    c.in_ok-put-2.ensures
