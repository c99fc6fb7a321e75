use Rattle.std.proofs.Common.{List, [], ◌∷◌, ◌++◌, ap, sym, ◌∙◌, subst}
use Rattle.split_ring.specs.declared.steps.Note.{Note}
use Rattle.split_ring.specs.declared.steps.Note.TheVariants.{Accept}
use Rattle.tx_engine.specs.Refinement.{TakesStep}
use Rattle.tx_engine.proofs.tx.Tx.wrote_index.Goals as goal

pub returns : goal.returns
returns c = λ value.
    let notes = c.push.ensures.items ∙ ap (λ (n : List Note). n ++ Accept ∷ []) c.requires.empty in
    subst (λ n. TakesStep c.args.self.now value n c.accept.new.self) (sym notes) (c.accept.ensures value).takes
