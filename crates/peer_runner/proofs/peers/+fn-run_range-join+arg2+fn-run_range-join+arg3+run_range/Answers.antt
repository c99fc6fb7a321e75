use Rattle.std.proofs.Common.{rules, ◌≡◌, ◌/◌, ◌∷◌, [], ◌++◌, replicate, sym, ap, ◌∙◌, arith, length-append}
use Rattle.scenario_text.specs.Spelling.{world_of}
use Rattle.shared_words.specs.PassView.{PassView}
use Rattle.shared_words.specs.Passes.{held}
use Rattle.peer_runner.proofs.RangesRun.{lower_of, lower_whole, upper_of, upper_whole, range_none, range_pass, one_ranged, both_ranged, both_pass}
use Rattle.peer_runner.proofs.peers.+fn-run_range-join+arg2+fn-run_range-join+arg3+run_range.Goals as goal

pub returns-then-count-eq0 : goal.returns-then-count-eq0
returns-then-count-eq0 g t c = let none : c.args.range.count ≡ 0 = c.if-count-eq0.true in (
  [],
  range_pass c.args.pass c.args.range.from [] c.requires.whole.0 (c.requires.whole.1 ∙ ap (λ n. replicate n []) none),
  sym none,
  range_none _ _ _ _ c.new.ensures.items,
)

pub returns-then-count-eq1 : goal.returns-then-count-eq1
returns-then-count-eq1 g t c = let one : c.args.range.count ≡ 1 = c.if-count-eq1.true in let ran = c.run_one-traces.ensures in (
  ran.0 ∷ [],
  ran.1,
  sym one,
  one_ranged (λ v. v.items) _ _ _ ran.0 c.run_one-traces.result ran.2,
)

pub join-first-requires-after_bounds : goal.join-first-requires-after_bounds
join-first-requires-after_bounds g t c = λ κs ls. ((search rules, (λ a m. m, (λ a m. m, (search rules, (c.requires.running, (c.requires.made, (lower_of c.args.words.now.shared.table_id c.args.words.now.shared.key c.args.pass c.args.range.from c.args.range.count (c.args.range.count / 2) (omega arith) c.requires.of c.requires.whole.0 c.requires.whole.1 c.split_pass-upper.new.pass c.split_pass-upper.ensures.left, (lower_whole c.args.words.now.shared.table_id c.args.words.now.shared.key c.args.pass c.args.range.from c.args.range.count (c.args.range.count / 2) (omega arith) c.requires.of c.requires.whole.0 c.requires.whole.1 c.split_pass-upper.new.pass c.split_pass-upper.ensures.left, (search rules, search rules))))))))), (search rules, (λ a m. m, (λ a m. m, (search rules, (c.requires.running, (c.requires.made, (upper_of c.args.words.now.shared.table_id c.args.words.now.shared.key c.args.pass c.args.range.from c.args.range.count (c.args.range.count / 2) (omega arith) c.requires.of c.requires.whole.0 c.requires.whole.1 c.split_pass-upper.result c.split_pass-upper.ensures.right, (upper_whole c.args.words.now.shared.table_id c.args.words.now.shared.key c.args.pass c.args.range.from c.args.range.count (c.args.range.count / 2) (omega arith) c.requires.of c.requires.whole.0 c.requires.whole.1 c.split_pass-upper.result c.split_pass-upper.ensures.right, (search rules, search rules))))))))))

pub returns : goal.returns
returns g t c = let first = c.join-first.ensures.first in let second = c.join-first.ensures.second in let key = c.args.words.now.shared.key in
    let id = ap (λ (h : PassView). h.table_id) c.split_pass-upper.ensures.left in let other = ap (λ (h : PassView). h.table_id) c.split_pass-upper.ensures.right in
    let size = first.2 in let more = second.2 in (
      first.0 ++ second.0,
      both_pass _ _ c.args.range.from _ first.0 second.0 _ _ c.join_pass.new.pass (id ∙ sym other) first.1 second.1 c.join_pass.ensures ∙ ap (λ i. held i c.args.range.from (first.0 ++ second.0)) id,
      omega (arith, length-append first.0 second.0),
      both_ranged (λ v. v.items) (world_of c.args.scenario.now) key c.args.range.from _ _ first.0 second.0 _ _ c.append.result (omega arith) first.2 first.3 second.3 c.append.ensures,
    )
