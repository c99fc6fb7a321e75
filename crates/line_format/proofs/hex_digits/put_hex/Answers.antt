use Rattle.std.proofs.Common.{◌≡◌, ◌∙◌, arith, rules}
use Rattle.std.proofs.lemmas.Grind.{common_steps}
use Rattle.hex.specs.Hex.{encode_lower}
use Rattle.line_format.proofs.HexDigits.{encode_piece, encode_done}
use Rattle.line_format.proofs.hex_digits.put_hex.Goals as goal

pub loop-rest-preserved : goal.loop-rest-preserved
loop-rest-preserved c =
    let written : c.encode_to_slice.new.output ≡ encode_lower c.split_at.result.0.now = search rules in
    rw (c.in_ok-extend_from_slice.ensures.items, written, c.split_at.ensures.front, c.split_at.ensures.back)
    (encode_piece c.loop-rest.out.items c.loop-rest.rest.now c.min.result ∙ c.loop-rest.invariant)

pub returns : goal.returns
returns c = encode_done _ _ c.loop-rest.rest.now (grind (arith, common_steps)) c.loop-rest.invariant
