use Rattle.std.proofs.Common.{◌≡◌, ◌/◌, [], replicate, subst, rules, arith}
use Rattle.split_ring.specs.Layout.{size_of, limit_of}
use Rattle.tx_engine.specs.Sender.{Sender, IsSender}
use Rattle.tx_engine.specs.Refinement.{RefinesAt, IsMadeFor, IsFreshSession}
use Rattle.call_grammar.specs.Places as laws
use Rattle.tx_engine.proofs.InvariantAfterRead.{begun_is, fresh_is, fresh_stands}
use Rattle.tx_engine.proofs.tx.Tx.new.Goals as goal

pub invariant_of-result : goal.invariant_of-result
invariant_of-result c =
    let q = c.args.queue.now in
    let lengths : c.in_ok-lengths.lengths.items ≡ replicate (limit_of q) 0 = search rules in
    let entries : c.in_ok-entries.entries.items ≡ replicate (size_of q / 2) 0 = search rules in
    record {
      sender = subst IsSender (begun_is q c.args.own c.args.other_start c.args.target c.args.vector [] c.new.result c.in_ok-lengths.lengths.items c.in_ok-entries.entries.items c.new.ensures lengths entries)
          (fresh_is q c.args.own c.args.other_start c.args.target c.args.vector [] c.size.ensures.queue c.requires.own c.requires.other_start);
      slots = search rules;
      buffer = search rules;
      length = omega arith;
    }

pub returns-clause-refines : goal.returns-clause-refines
returns-clause-refines c = λ config end.
    let q = c.args.queue.now in
    let lengths : c.in_ok-lengths.lengths.items ≡ replicate (limit_of q) 0 = search rules in
    let entries : c.in_ok-entries.entries.items ≡ replicate (size_of q / 2) 0 = search rules in
    subst (λ (s : Sender). IsMadeFor s config → IsFreshSession config end → RefinesAt s config end laws.Closed) (begun_is q c.args.own c.args.other_start c.args.target c.args.vector [] c.new.result c.in_ok-lengths.lengths.items c.in_ok-entries.entries.items c.new.ensures lengths entries)
    (fresh_stands q c.args.own c.args.other_start c.args.target c.args.vector [] config end)
