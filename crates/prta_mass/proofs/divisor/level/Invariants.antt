use Rattle.std.proofs.Common.{◌≡◌, ◌*◌, ◌≤◌, ◌^◌}
use Rattle.prta_mass.proofs.divisor.level.Given as goal

abbrev pub invariant-loop-right : goal.invariant-loop-right
invariant-loop-right l = record {
  power_is : l.power ≡ 2 ^ l.right;
  four : 4 * l.power ≤ l.total;
}
