use Rattle.std.proofs.Common.{◌≡◌, ◌+◌, ◌≤◌, ℕ, length, sum_by, List, [], ◌∷◌, ◌++◌, sym, ap, refl, ◌∙◌, append_assoc, arith}
use Rattle.std.proofs.lemmas.List.{length_push}
use Rattle.std.proofs.lemmas.List.Sums.{sum_by_push}
use Rattle.record_chart.specs.declared.rows.Row.{Row}
use Rattle.record_chart.specs.Rows.{row_of_one}
use Rattle.record_chart.proofs.GrowingRows.{rest_of, goes_more, stops_more, begins, ends, capped, uncapped, some_of}
use Rattle.record_chart.proofs.rows.rows_of.Goals as goal

pub loop-at-init : goal.loop-at-init
loop-at-init c = record {
  some = omega arith;
  counted = rw c.new-items.ensures.items refl;
  number = refl;
  few = rw c.new-items.ensures.items (omega arith);
  rows = rw c.new-items.ensures.items (begins c.args.storms.now c.args.first c.args.lines.now);
}

pub loop-at-preserved-then-goes_on : goal.loop-at-preserved-then-goes_on
loop-at-preserved-then-goes_on c = record {
  some = omega arith;
  counted = let before : sum_by (λ (row : Row). row.count) c.loop-at.items.items + c.loop-at.growing.count ≡ c.loop-at.at = c.loop-at.invariant.counted in
      omega arith;
  number = omega arith;
  few = c.loop-at.invariant.few;
  rows = ap (λ (rows : List Row). c.loop-at.items.items ++ rows)
      (sym (goes_more c.args.storms.now c.args.first c.loop-at.at c.loop-at.growing c.args.lines.now _ _ c.loop-at.invariant.some c.loop-at-test.true
      c.index-lines-at.is c.index-lines-at-in-loop-at.is (sym c.if-goes_on.true ∙ c.goes_on.ensures))) ∙ c.loop-at.invariant.rows;
}

pub returns-then-len-eq-MOST_ROWS-clause-rows : goal.returns-then-len-eq-MOST_ROWS-clause-rows
returns-then-len-eq-MOST_ROWS-clause-rows c =
    let step = stops_more c.args.storms.now c.args.first c.loop-at.at c.loop-at.growing c.args.lines.now _ _ c.loop-at.invariant.some c.loop-at-test.true
    c.index-lines-at.is c.index-lines-at-in-loop-at.is (sym c.if-goes_on.false ∙ c.goes_on.ensures) in
    let pushed : c.push.new.self.items ≡ c.loop-at.items.items ++ c.loop-at.growing ∷ [] = c.in_ok-push.ensures.items in
    let most : length c.push.new.self.items ≡ 2000 = omega (arith, c.push.new.self.ok, c.len.ensures, c.if-len-eq-MOST_ROWS.true) in
    let full : length (c.loop-at.items.items ++ c.loop-at.growing ∷ []) ≡ 2000 = ap length (sym pushed) ∙ most in
    pushed ∙ capped c.loop-at.items.items _ _ c.loop-at.growing full
    (ap (λ (rows : List Row). c.loop-at.items.items ++ rows) (sym step) ∙ c.loop-at.invariant.rows)

pub loop-at-preserved : goal.loop-at-preserved
loop-at-preserved c =
    let step = stops_more c.args.storms.now c.args.first c.loop-at.at c.loop-at.growing c.args.lines.now _ _ c.loop-at.invariant.some c.loop-at-test.true
    c.index-lines-at.is c.index-lines-at-in-loop-at.is (sym c.if-goes_on.false ∙ c.goes_on.ensures) in
    let pushed : c.push.new.self.items ≡ c.loop-at.items.items ++ c.loop-at.growing ∷ [] = c.in_ok-push.ensures.items in
    let before : sum_by (λ (row : Row). row.count) c.loop-at.items.items + c.loop-at.growing.count ≡ c.loop-at.at = c.loop-at.invariant.counted in
    let counted : sum_by (λ (row : Row). row.count) c.push.new.self.items ≡ c.loop-at.at =
    ap (sum_by (λ (row : Row). row.count)) pushed ∙ sum_by_push (λ (row : Row). row.count) c.loop-at.items.items c.loop-at.growing ∙ before in
    let long : length c.push.new.self.items ≡ length c.loop-at.items.items + 1 = ap length pushed ∙ length_push c.loop-at.items.items c.loop-at.growing in
    record {
      some = omega arith;
      counted = ap (λ (n : ℕ). n + 1) counted;
      number = omega arith;
      few = omega (arith, long, c.loop-at.invariant.few, c.push.new.self.ok, c.len.ensures, c.if-len-eq-MOST_ROWS.false);
      rows = ap (λ (items : List Row). items ++ rest_of c.args.storms.now c.args.first (c.loop-at.at + 1) (row_of_one (c.args.first + c.loop-at.at))
          c.args.lines.now) pushed
          ∙ append_assoc c.loop-at.items.items (c.loop-at.growing ∷ []) _ ∙ ap (λ (rows : List Row). c.loop-at.items.items ++ rows) (sym step)
          ∙ c.loop-at.invariant.rows;
    }

pub returns-clause-rows : goal.returns-clause-rows
returns-clause-rows c =
    let pushed : c.push-2.new.self.items ≡ c.loop-at.items.items ++ c.loop-at.growing ∷ [] = c.in_ok-push-2.ensures.items in
    let few : length (c.loop-at.items.items ++ c.loop-at.growing ∷ []) ≤ 2000 =
    omega (arith, length_push c.loop-at.items.items c.loop-at.growing, c.loop-at.invariant.few) in
    let some : 1 ≤ length c.args.lines.now = some_of c.args.lines.now (sym c.if-is_empty.false ∙ c.is_empty.ensures) in
    let over : c.loop-at.at ≡ length c.args.lines.now = omega arith in
    let done = ends c.args.storms.now c.args.first c.loop-at.at c.loop-at.growing c.args.lines.now c.loop-at.invariant.some over in
    pushed ∙ uncapped c.loop-at.items.items _ c.loop-at.growing few
    (ap (λ (rows : List Row). c.loop-at.items.items ++ rows) (sym done) ∙ c.loop-at.invariant.rows)
