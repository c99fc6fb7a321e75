use Rattle.std.proofs.Common.{◌≡◌, ◌-◌, ◌<◌, length, get_or, take, arith, sym, ap, subst, ◌∙◌, inl, inr}
use Rattle.std.proofs.lemmas.Int.Digits.{digits_more}
use Rattle.std.proofs.lemmas.Grind.{common_steps}
use Rattle.std.specs.Str.Parse.{digits_value, AllDigits}
use Rattle.line_format.specs.Numbers.{number_of}
use Rattle.std.proofs.lemmas.List.{nil_from_length, take_all}
use Rattle.line_format.proofs.numbers.number.Goals.{else-field-eq48-via-then-field-eq48+else-field-gt1, else-field-eq48-via-else-field-eq48}
use Rattle.line_format.proofs.DecimalFields.{empty_is_none, zero_first, other_byte, one_more, too_large_at, is_number}
use Rattle.line_format.proofs.numbers.number.Goals as goal

pub returns-then-is_empty : goal.returns-then-is_empty
returns-then-is_empty c =
    let none : length c.args.field.now ≡ 0 = grind (arith, common_steps) in
    sym (ap number_of (nil_from_length c.args.field.now none) ∙ empty_is_none)

pub returns-then-field-gt1 : goal.returns-then-field-gt1
returns-then-field-gt1 c = sym (zero_first c.args.field.now c.if-field-eq48.true c.if-field-gt1.true)

pub returns-then-not-is_ascii_digit : goal.returns-then-not-is_ascii_digit
returns-then-not-is_ascii_digit c = sym (other_byte c.args.field.now c.loop-b.b-index c.loop-b-test.true (λ r. elim c.if-not-is_ascii_digit.ensures.cases [ inl a ↦ omega arith | inr b ↦ omega arith ]))

pub returns-in-None : goal.returns-in-None
returns-in-None c = sym (too_large_at c.args.field.now c.loop-b.b-index c.loop-b.n 0 c.loop-b-test.true c.loop-b.invariant.1 c.if-not-is_ascii_digit.ensures.cases (omega arith) (λ small. c.in-None.ensures (omega arith)))

pub returns-in-None-checked_add : goal.returns-in-None-checked_add
returns-in-None-checked_add c = sym (too_large_at c.args.field.now c.loop-b.b-index c.loop-b.n (get_or c.args.field.now c.loop-b.b-index 0 - 48) c.loop-b-test.true c.loop-b.invariant.1 c.if-not-is_ascii_digit.ensures.cases (omega arith) (λ small. c.in-None-checked_add.ensures (omega (arith, c.in-Some.ensures, c.from-digit.ensures))))

pub loop-b-preserved : goal.loop-b-preserved
loop-b-preserved c =
    let more = one_more c.args.field.now c.loop-b.b-index c.loop-b.n c.loop-b-test.true c.loop-b.invariant.1 c.if-not-is_ascii_digit.ensures.cases in
    (digits_more 10 c.args.field.now c.loop-b.b-index c.loop-b-test.true c.loop-b.invariant.0 c.if-not-is_ascii_digit.ensures.bound, omega (arith, more, c.in-Some-checked_add.ensures, c.in-Some.ensures, c.from-digit.ensures), omega (arith, c.in-Some-checked_add.ensures))

pub returns : goal.returns
returns c =
    let whole : take c.loop-b.b-index c.args.field.now ≡ c.args.field.now = take_all c.loop-b.b-index c.args.field.now c.loop-b-test.false in
    let first : get_or c.args.field.now 0 0 ≡ 48 → 1 < length c.args.field.now → ⊥ = λ is more. elim c.else-field-eq48.branch [ else-field-eq48-via-then-field-eq48+else-field-gt1 w ↦ omega arith | else-field-eq48-via-else-field-eq48 w ↦ omega arith ] in
    sym (is_number c.args.field.now c.loop-b.n c.loop-b.invariant.2 (grind (arith, common_steps)) first (subst (AllDigits 10) whole c.loop-b.invariant.0) (c.loop-b.invariant.1 ∙ ap (digits_value 10) whole))
