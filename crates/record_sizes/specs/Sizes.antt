-- The length of the text of a record, of either version, with a lawful history: the acts pay for
-- it.
use Rattle.std.specs.Prelude.{◌+◌, ◌*◌, ◌≤◌, length}
use Rattle.scenario_text.specs.declared.limits.TheConstants.{LONGEST_TEXT}
use Rattle.scenario_text.specs.Acts.{turns_of}
use Rattle.scenario_text.specs.Spelling as scenario
use Rattle.lawful_history.specs.Lawful.{IsLawfulIn}
use Rattle.record_text.specs.declared.limits.TheConstants.{LONGEST_RECORD}
use Rattle.record_text.specs.Spelling.{Record, IsRecord, spelling}

-- The text has at most the bytes of its scenario's text, 200 for each act, and 34 for the first
-- line and the last. `turn P K` counts for K acts, and any other act for 1.
abbrev pub RecordsAreShort : Type 0
RecordsAreShort = (r : Record) → IsRecord r → IsLawfulIn r.world r.version r.lines →
    length (spelling r) ≤ length (scenario.spelling r.world) + 200 * turns_of r.world.acts + 34

-- A scenario counts for at most `MOST_ACTS` acts. So if its text has at most `LONGEST_TEXT` bytes,
-- the text of its record has at most `LONGEST_RECORD`.
abbrev pub RecordsAreWithinLimit : Type 0
RecordsAreWithinLimit = (r : Record) → IsRecord r → IsLawfulIn r.world r.version r.lines → length (scenario.spelling r.world) ≤ LONGEST_TEXT →
    length (spelling r) ≤ LONGEST_RECORD
