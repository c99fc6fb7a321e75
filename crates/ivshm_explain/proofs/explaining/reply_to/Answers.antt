use Rattle.ivshm_explain.proofs.explaining.reply_to.Goals as goal

pub returns-in_ok-difference_text-in-Differs : goal.returns-in_ok-difference_text-in-Differs
returns-in_ok-difference_text-in-Differs c = (
  c.in-Differs.difference,
  rw c.in-Differs.is at c.in_ok-verdict_of.ensures,
  c.in_ok-difference_text-in-Differs.ensures,
)
