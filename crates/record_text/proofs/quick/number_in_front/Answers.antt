use Rattle.std.proofs.Common.{◌≡◌, ◌<◌, ◌++◌, length, get_or, take, drop, sym, ap, ◌∙◌, arith}
use Rattle.std.specs.Prelude.{decimal}
use Rattle.std.proofs.lemmas.Int.Digits.{digits_more}
use Rattle.std.proofs.lemmas.List.{take-append-drop, length-take, get_or-take}
use Rattle.line_format.proofs.DecimalFields.{one_more, is_number, number_of-some}
use Rattle.record_text.proofs.quick.number_in_front.Goals.{else-bytes-eq48-via-then-bytes-eq48+else-at-gt1, else-bytes-eq48-via-else-bytes-eq48}
use Rattle.record_text.proofs.quick.number_in_front.Goals as goal

pub loop-at-preserved : goal.loop-at-preserved
loop-at-preserved c =
    let more = one_more c.args.bytes.now c.loop-at.at c.loop-at.number c.loop-at-test.true c.loop-at.invariant.value c.if-is_ascii_digit.ensures.cases in
    record {
      digits = digits_more 10 c.args.bytes.now c.loop-at.at c.loop-at-test.true c.loop-at.invariant.digits c.if-is_ascii_digit.ensures.bound;
      value = omega (arith, more, c.from.ensures);
      small = omega (arith, c.if-number-from.false);
      within = omega (arith, c.loop-at-test.true);
    }

pub returns : goal.returns
returns c =
    let bytes = c.args.bytes.now in
    let at = c.loop-at.at in
    let field = take at bytes in
    let size : length field ≡ at = omega (arith, length-take at bytes, c.loop-at.invariant.within) in
    let head : get_or field 0 0 ≡ get_or bytes 0 0 = get_or-take at bytes 0 0 (omega (arith, c.if-at-eq0.false)) in
    let first : get_or field 0 0 ≡ 48 → 1 < length field → ⊥ = λ is more. elim c.else-bytes-eq48.branch [ else-bytes-eq48-via-then-bytes-eq48+else-at-gt1 w ↦ omega arith | else-bytes-eq48-via-else-bytes-eq48 w ↦ omega arith ] in
    let number = is_number field c.loop-at.number (omega (arith, c.loop-at.invariant.small)) (omega (arith, c.if-at-eq0.false)) first c.loop-at.invariant.digits c.loop-at.invariant.value in
    sym (take-append-drop at bytes) ∙ ap (λ t. t ++ drop at bytes) (number_of-some field c.loop-at.number number).0 ∙ ap (λ t. decimal c.loop-at.number ++ t) (sym c.split_at.ensures.back)
