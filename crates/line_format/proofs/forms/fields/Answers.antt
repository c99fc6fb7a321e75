use Rattle.std.proofs.Common.{◌≤◌, length, sym, arith}
use Rattle.std.proofs.lemmas.Bool.{eqb-true}
use Rattle.std.proofs.lemmas.List.{length-map}
use Rattle.line_format.specs.Forms.{texts}
use Rattle.line_format.proofs.CutBytes.{more_than}
use Rattle.line_format.proofs.forms.fields.Goals as goal

pub returns-then-is_full : goal.returns-then-is_full
returns-then-is_full c =
    let full = eqb-true _ _ (sym c.if-is_full.ensures.value) in
    let len : 5 ≤ length (texts c.loop-field.fields.items) = rw length-map (omega (arith, full, c.push.ensures.len)) in
    more_than 32 (texts c.loop-field.fields.items) c.loop-field.rest.now c.in-Some.field.now c.in-Some.more.now c.args.line.now 5 c.loop-field.invariant.0 c.in-Some.ensures.cuts len
