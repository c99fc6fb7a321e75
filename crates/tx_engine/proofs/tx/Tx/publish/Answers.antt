use Rattle.std.proofs.Common.{◌++◌, Option, ◌∙◌, subst, IfSome}
use Rattle.tx_engine.specs.declared.ahead.Bursts.{Bursts}
use Rattle.tx_engine.specs.Ahead.{listed, last_words, WritesAll}
use Rattle.tx_engine.proofs.tx.Tx.publish.Goals as goal

pub returns-clause-steps : goal.returns-clause-steps
returns-clause-steps c =
    let bursts = c.bursts_from-bursts.ensures.bursts in
    record {
      written = c.wrote_before_index.new.self;
      bursts = bursts;
      words = λ config end place refines.
          subst (λ (o : Option Bursts). IfSome o (λ s. WritesAll config place (listed s) (last_words c.args.self.now.frame s.frame.count ++ c.tail_words.new.into))) bursts (c.tail_words.ensures.writes config end place refines);
      writes = λ values count. c.wrote_before_index.ensures.steps values (count ∙ c.bursts_from-bursts.ensures.words);
      index = λ config end place refines. (c.next_index-accepted.ensures.index config end place refines, c.next_index-accepted.ensures.kind config end place refines, c.next_index-accepted.ensures.plain config end place refines);
      accepts = c.accept.ensures;
    }
