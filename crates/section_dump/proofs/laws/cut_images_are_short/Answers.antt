use Rattle.section_dump.proofs.CutImages.{cut_headers_are_bad, cut_images_are_short}
use Rattle.section_dump.proofs.laws.cut_images_are_short.Goals as goal

pub returns-clause-header : goal.returns-clause-header
returns-clause-header c = cut_headers_are_bad

pub returns-clause-short : goal.returns-clause-short
returns-clause-short c = cut_images_are_short
