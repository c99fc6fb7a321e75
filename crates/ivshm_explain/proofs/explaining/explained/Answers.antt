use Rattle.ivshm_explain.proofs.explaining.explained.Goals as goal

pub returns : goal.returns
returns c = record { words = c.as_bytes.result.now; is = c.in_ok-text.ensures }
