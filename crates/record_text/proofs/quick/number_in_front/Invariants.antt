use Rattle.std.proofs.Common.{◌≡◌, ◌<◌, ◌≤◌, ◌^◌, ◌-◌, length, take}
use Rattle.std.specs.Str.Parse.{digits_value, AllDigits}
use Rattle.record_text.proofs.quick.number_in_front.Given as goal

-- The digits so far, and their value.
abbrev pub invariant-loop-at : goal.invariant-loop-at
invariant-loop-at l = record {
  digits : AllDigits 10 (take l.at l.bytes);
  value : l.number ≡ digits_value 10 (take l.at l.bytes);
  small : l.number < 2 ^ 32;
  within : l.at ≤ length l.bytes;
}

abbrev pub decreases-loop-at : goal.decreases-loop-at
decreases-loop-at l = length l.bytes - l.at
