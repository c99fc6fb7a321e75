use Rattle.ivshm_explain.proofs.difference_text.difference_text.Goals as goal

pub returns : goal.returns
returns c = record { words = c.deref.result.now; is = c.in_ok-text.ensures }
