use Rattle.std.proofs.Common.{◌≡◌, ◌/◌, Some, length, sym, ap, ◌∙◌, arith}
use Rattle.std.proofs.lemmas.Grind.{common_steps}
use Rattle.std.proofs.lemmas.List.{take_at}
use Rattle.line_format.proofs.HexDigits.{not_lower, decoded, ok_from, err_from}
use Rattle.line_format.proofs.hex_digits.read_hex.Goals as goal

pub returns-then-not-are_lower_digits : goal.returns-then-not-are_lower_digits
returns-then-not-are_lower_digits c = sym (not_lower c.args.digits.now (sym c.are_lower_digits.ensures ∙ c.if-not-are_lower_digits.true))

pub returns-in-Ok : goal.returns-in-Ok
returns-in-Ok c =
    let half : length c.args.digits.now / 2 ≡ length c.as_mut_slice.result.now = grind (arith, common_steps) in
    let count : length c.decode_to_slice.new.out ≡ c.in_ok-bytes.bytes.len = grind (arith, common_steps) in
    ap Some (take_at c.decode_to_slice.new.out _ c.in_ok-bytes.bytes.len count)
    ∙ ok_from _ c.decode_to_slice.new.out c.decode_to_slice.result _ c.decode_to_slice.ensures.value c.in-Ok.field-0 c.in-Ok.is
    ∙ sym (decoded c.args.digits.now _ (sym c.are_lower_digits.ensures ∙ c.if-not-are_lower_digits.false) half)

pub returns-in-Err : goal.returns-in-Err
returns-in-Err c =
    let half : length c.args.digits.now / 2 ≡ length c.as_mut_slice.result.now = grind (arith, common_steps) in
    err_from _ c.decode_to_slice.new.out c.decode_to_slice.result _ c.decode_to_slice.ensures.value c.in-Err.field-0 c.in-Err.is
    ∙ sym (decoded c.args.digits.now _ (sym c.are_lower_digits.ensures ∙ c.if-not-are_lower_digits.false) half)
