-- The output of a run, part by part.
use Rattle.std.proofs.Common.{◌≡◌, ℕ, ◌+◌, ◌^◌, ◌<◌, ◌≤◌, Bool, true, false, List, [], ◌∷◌, ◌++◌, length, map, refl, sym, ap, ◌∙◌, subst, arith, add-one, append-nil, append_assoc, length-append}
use Rattle.std.specs.Prelude.{if◌then◌else◌, Some, slice_get}
use Rattle.std.specs.List.{flat_map}
use Rattle.std.proofs.lemmas.Option.{slice_get_within}
use Rattle.std.proofs.lemmas.List.Concat.{flat_map-append, flat_map-cons}
use Rattle.line_format.specs.Forms.{line_of}
use Rattle.line_format.specs.Rows.{Row, row, fields_of_row, line_of_row, text_of}
use Rattle.frame_bridge.specs.declared.scripts.Sent.{Sent}
use Rattle.frame_bridge.specs.Spelling as text
use Rattle.frame_bridge.specs.declared.output.Line.{Line}
use Rattle.frame_bridge.specs.declared.output.Line.TheVariants.{Known, End}
use Rattle.frame_bridge.specs.declared.ports.Port.{Port}
use Rattle.frame_bridge.specs.declared.run.Run.{Run}
use Rattle.frame_bridge.specs.Forwarding.{Arrival, is_forwarded, first_ports, forwarded_after, forward, known_count}
use Rattle.frame_bridge.specs.Run.{World, started, schedule, ran, run_of}
use Rattle.frame_bridge.specs.Keeps.{Going}
use Rattle.frame_bridge.specs.Output.{pieces_of, arrive_row, port_rows, outs, output_of, IsOutput}
use Rattle.frame_bridge.specs.Refinement.{ArePorts, IsThere}
use Rattle.frame_bridge.proofs.Worlds.{delivers}
use Rattle.frame_bridge.proofs.PortTurns.{text_more}

-- One more port.
pub port_more : (front : List ℕ) (w : World) (n : ℕ) → (front ++ text_of pieces_of (flat_map (port_rows w) (first_ports n))) ++ text_of pieces_of (port_rows w n) ≡
    front ++ text_of pieces_of (flat_map (port_rows w) (first_ports (n + 1)))
port_more front w n =
    let rows : flat_map (port_rows w) (first_ports (n + 1)) ≡ flat_map (port_rows w) (first_ports n) ++ port_rows w n =
    ap (λ (k : ℕ). flat_map (port_rows w) (first_ports k)) (add-one n) ∙ (flat_map-append (port_rows w) (first_ports n) (n ∷ []) ∙
    ap (λ (l : List (Row Line)). flat_map (port_rows w) (first_ports n) ++ l) (flat_map-cons (port_rows w) n [] ∙ append-nil (port_rows w n))) in
    append_assoc front (text_of pieces_of (flat_map (port_rows w) (first_ports n))) (text_of pieces_of (port_rows w n)) ∙
    ap (λ (t : List ℕ). front ++ t)
    (sym (ap (text_of pieces_of) rows ∙ flat_map-append (line_of_row pieces_of) (flat_map (port_rows w) (first_ports n)) (port_rows w n)))

-- A text is at least as long as its number of lines, and at least as many frames arrived as were
-- forwarded

line_some : (r : Row Line) → 1 ≤ length (line_of_row pieces_of r)
unfolding line_of_row
line_some r = omega (arith, length-append (line_of (fields_of_row pieces_of r)) (10 ∷ []))

arrivals_fit : (arrivals : List Arrival) → length arrivals ≤ length (text_of pieces_of (map arrive_row arrivals))
arrivals_fit [] = omega arith
arrivals_fit (a ∷ arrivals) =
    let parts : length (text_of pieces_of (map arrive_row (a ∷ arrivals))) ≡ length (line_of_row pieces_of (arrive_row a)) + length (text_of pieces_of (map arrive_row arrivals)) =
    ap length (flat_map-cons (line_of_row pieces_of) (arrive_row a) (map arrive_row arrivals)) ∙ length-append (line_of_row pieces_of (arrive_row a)) (text_of pieces_of (map arrive_row arrivals)) in
    omega (arith, parts, line_some (arrive_row a), arrivals_fit arrivals)

first_length : (b : Bool) (frame : List ℕ) → length (if b then frame ∷ [] else []) ≤ 1
first_length true frame = omega arith
first_length false frame = omega arith

forwarded_fit : (earlier arrivals : List Arrival) (port : ℕ) → length (forwarded_after earlier arrivals port) ≤ length arrivals
forwarded_fit earlier [] port = omega arith
forwarded_fit earlier (a ∷ arrivals) port =
    let here : Bool = is_forwarded (earlier ++ a ∷ []) a port in
    let parts : length (forwarded_after earlier (a ∷ arrivals) port) ≡ length (if here then a.frame ∷ [] else []) + length (forwarded_after (earlier ++ a ∷ []) arrivals port) =
    length-append (if here then a.frame ∷ [] else []) (forwarded_after (earlier ++ a ∷ []) arrivals port) in
    omega (arith, parts, first_length here a.frame, forwarded_fit (earlier ++ a ∷ []) arrivals port)

outs_within : (all front rest : List (List ℕ)) → all ≡ front ++ rest → length front ≤ length all
outs_within all front rest is = let sum : length all ≡ length front + length rest = ap length is ∙ length-append front rest in omega arith

-- At the end the ports are those of the world.
pub are_ports : (sent : List Sent) (ports : ℕ) (w : World) (run : Run) → IsThere sent ports w run → length run.text.items < 2 ^ 64 → ArePorts w run.ports.items
are_ports sent ports w run there small = record {
  each = there.refines.each;
  fits = λ k below.
      let text : length run.text.items ≡ length (text_of pieces_of (map arrive_row w.arrivals)) = ap length there.refines.text in
      omega (arith, text, small, arrivals_fit w.arrivals, forwarded_fit [] w.arrivals k);
  within = λ k below.
      let script : text.World = record { ports = ports; rounds = 0; sent = sent } in
      let goes_out = (delivers script w k there.going (omega (arith, below, there.refines.long))).goes_out in
      outs_within (forward w.arrivals k) (outs w k) goes_out.0 goes_out.1;
}

-- So none has delivered more frames than were forwarded to it.
pub in_order : (w : World) (ports : List Port) → ArePorts w ports → (k : ℕ) (port : Port) → slice_get ports k ≡ Some port → port.delivered ≤ port.forwarded
in_order w ports are k port here =
    let below : k < length ports = slice_get_within ports k port here in
    let refines = are.each k port here in
    omega (arith, are.within k below, refines.delivered, refines.forwarded_is)

-- The parts together.
pub whole_output : (ports : ℕ) (w : World) (start middle known all : List ℕ) → start ≡ text_of pieces_of (map arrive_row w.arrivals) →
    middle ≡ start ++ text_of pieces_of (flat_map (port_rows w) (first_ports ports)) → known ≡ middle ++ line_of_row pieces_of (row Known (known_count w.arrivals ∷ []) []) →
    all ≡ known ++ line_of_row pieces_of (row End [] []) → all ≡ output_of ports w
whole_output ports w start middle known all at_start at_middle at_known at_end =
    let arrived : List (Row Line) = map arrive_row w.arrivals in
    let recorded : List (Row Line) = flat_map (port_rows w) (first_ports ports) in
    let k : Row Line = row Known (known_count w.arrivals ∷ []) [] in
    let e : Row Line = row End [] [] in
    let first : middle ≡ text_of pieces_of (arrived ++ recorded) =
    at_middle ∙ (ap (λ (t : List ℕ). t ++ text_of pieces_of recorded) at_start ∙ sym (flat_map-append (line_of_row pieces_of) arrived recorded)) in
    let second : known ≡ text_of pieces_of ((arrived ++ recorded) ++ k ∷ []) =
    at_known ∙ (ap (λ (t : List ℕ). t ++ line_of_row pieces_of k) first ∙ sym (text_more (arrived ++ recorded) k)) in
    at_end ∙ (ap (λ (t : List ℕ). t ++ line_of_row pieces_of e) second ∙ (sym (text_more ((arrived ++ recorded) ++ k ∷ []) e) ∙
    ap (text_of pieces_of) (append_assoc (arrived ++ recorded) (k ∷ []) (e ∷ []))))

pub run_is : (script : text.World) → ran (started script.sent) (schedule script.rounds script.ports) ≡ run_of script
unfolding run_of
run_is script = refl

-- The output of the whole run.
pub is_output : (script : text.World) (output : List ℕ) → Going script.sent script.ports (ran (started script.sent) (schedule script.rounds script.ports)) →
    output ≡ output_of script.ports (ran (started script.sent) (schedule script.rounds script.ports)) → IsOutput script output
is_output script output going is = record {
  text = is ∙ ap (output_of script.ports) (run_is script);
  delivers = λ port below. delivers script (run_of script) port (subst (Going script.sent script.ports) (run_is script) going) below;
}
