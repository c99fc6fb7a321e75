use Rattle.section_dump.proofs.OneListing.{listings_are_one}
use Rattle.section_dump.proofs.laws.listings_are_one.Goals as goal

pub returns : goal.returns
returns c = listings_are_one
