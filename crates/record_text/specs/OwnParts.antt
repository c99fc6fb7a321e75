-- The content of an own trace.
use Rattle.record_text.specs.declared.own_trace.OwnTrace.{OwnTrace}
use Rattle.record_text.specs.Parts.{Part}

abbrev pub part_of : OwnTrace → Part
part_of t = record { peer = t.peer; lines = t.lines; turns = t.turns; finished = t.finished }
