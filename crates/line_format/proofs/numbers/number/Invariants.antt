use Rattle.std.proofs.Common.{◌≡◌, ◌<◌, ◌^◌, take}
use Rattle.std.specs.Str.Parse.{digits_value, AllDigits}
use Rattle.line_format.proofs.numbers.number.Given as goal

abbrev pub invariant-loop-b : goal.invariant-loop-b
invariant-loop-b l = AllDigits 10 (take l.b-index l.field) × (l.n ≡ digits_value 10 (take l.b-index l.field)) × (l.n < 2 ^ 64)
