use Rattle.std.proofs.Common.{◌≡◌, false, take}
use Rattle.std.specs.List.{list_any}
use Rattle.scenario_text.specs.Running.{is_turn_of}
use Rattle.tests_record.proofs.records.runs.Given as goal

-- No act so far is a turn of the peer.
abbrev pub invariant-loop-act : goal.invariant-loop-act
invariant-loop-act l = list_any (is_turn_of l.peer) (take l.act-index l.act-items) ≡ false
