use Rattle.ivshm_explain.proofs.places.+put_shown.Given as goal

abbrev pub decreases-put_shown : goal.decreases-put_shown
decreases-put_shown l = l.left
