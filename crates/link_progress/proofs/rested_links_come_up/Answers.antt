use Rattle.link_progress.proofs.RestedComeUp.{rested_links_come_up}
use Rattle.link_progress.proofs.rested_links_come_up.Goals as goal

pub returns : goal.returns
returns c = rested_links_come_up
