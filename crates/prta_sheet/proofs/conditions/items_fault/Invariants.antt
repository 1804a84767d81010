-- no element so far is refused
use Rattle.std.proofs.Common.{◌≡◌}
use Rattle.prta_sheet.specs.DocumentConditions.{fault_in}
use Rattle.prta_sheet.proofs.Spots.{from}
use Rattle.prta_sheet.proofs.conditions.items_fault.Given as goal

abbrev pub invariant-loop-i : goal.invariant-loop-i
invariant-loop-i l = from (fault_in l.condition) l.format l.items.items 0 ≡ from (fault_in l.condition) l.format l.items.items l.i
