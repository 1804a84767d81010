-- the lines so far are numbers, and these are their values
use Rattle.std.proofs.Common.{◌≡◌, ℕ, ◌+◌, ◌<◌, ◌≤◌, true, [], length, take, drop, map, get_or}
use Rattle.std.specs.Str.Lines.{lines}
use Rattle.prta_number.specs.Decimal.{value_of}
use Rattle.prta_ticksim.specs.Choices.{is_number}
use Rattle.prta_ticksim.proofs.choices.read_choices.Given as goal

abbrev pub invariant-loop-rest : goal.invariant-loop-rest
invariant-loop-rest l = record {
  rest : drop l.count (lines l.fn.bytes) ≡ lines l.rest;
  numbers : l.numbers.items ≡ map value_of (take l.count (lines l.fn.bytes));
  good : (k : ℕ) → k < l.count → is_number (get_or (lines l.fn.bytes) k []) ≡ true;
  few : l.count + length l.rest ≤ length l.fn.bytes;
}

abbrev pub decreases-loop-rest : goal.decreases-loop-rest
decreases-loop-rest l = length l.rest
