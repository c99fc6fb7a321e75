use Rattle.section_map.proofs.SectionsAreApart.{sections_are_apart, only_common_is_shared, word_has_one_section}
use Rattle.section_map.proofs.laws.sections_are_apart.Goals as goal

pub returns-clause-apart : goal.returns-clause-apart
returns-clause-apart c = sections_are_apart

pub returns-clause-shared : goal.returns-clause-shared
returns-clause-shared c = only_common_is_shared

pub returns-clause-one : goal.returns-clause-one
returns-clause-one c = word_has_one_section
