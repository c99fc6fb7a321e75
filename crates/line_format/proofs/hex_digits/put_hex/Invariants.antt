use Rattle.std.proofs.Common.{◌≡◌, ◌++◌, length}
use Rattle.hex.specs.Hex.{encode_lower}
use Rattle.line_format.proofs.hex_digits.put_hex.Given as goal

-- The rest gives the digits of all bytes.
abbrev pub invariant-loop-rest : goal.invariant-loop-rest
invariant-loop-rest l = l.out.items ++ encode_lower l.rest ≡ l.fn.out.items ++ encode_lower l.bytes

abbrev pub decreases-loop-rest : goal.decreases-loop-rest
decreases-loop-rest l = length l.rest
