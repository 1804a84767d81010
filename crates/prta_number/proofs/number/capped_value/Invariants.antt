-- the value of the digits so far
use Rattle.std.proofs.Common.{◌≡◌, ◌+◌, min, take}
use Rattle.prta_number.specs.Decimal.{value_of}
use Rattle.prta_number.proofs.number.capped_value.Given as goal

abbrev pub invariant-loop-digit : goal.invariant-loop-digit
invariant-loop-digit l = l.value ≡ min (value_of (take l.digit-index l.digits)) (l.high + 1)
