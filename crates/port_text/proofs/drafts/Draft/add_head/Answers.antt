use Rattle.scenario_text.proofs.SizeTests.{has_region, small_section}
use Rattle.port_text.proofs.drafts.Draft.add_head.Goals as goal

pub invariant_of-self-in-Out-clause-section : goal.invariant_of-self-in-Out-clause-section
invariant_of-self-in-Out-clause-section c =
    rw c.number_at-number.ensures (small_section _ _ _ _ (has_region _ _ _ _ (rw c.in-Out.is at c.requires.sizes)))
