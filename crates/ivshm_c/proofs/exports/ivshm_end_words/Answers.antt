use Rattle.std.proofs.Common.{subst, sym, IfSome}
use Rattle.ivshm_c.specs.Answers.{GivesWords}
use Rattle.ivshm_c.proofs.exports.ivshm_end_words.Goals as goal

pub returns-clause-words : goal.returns-clause-words
returns-clause-words c =
    subst (λ p. IfSome p (λ port. GivesWords port c.args.into.now c.words-status.new.into)) (sym c.in-Some.ensures.port)
    (subst (λ port. GivesWords port c.args.into.now c.words-status.new.into) c.deref.ensures c.words-status.ensures.words)
