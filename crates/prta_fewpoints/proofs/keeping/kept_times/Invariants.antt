-- with those that are left, these are the kept times
use Rattle.std.proofs.Common.{◌≡◌, ◌≤◌, ◌++◌, IsSome, drop, length}
use Rattle.prta_fewpoints.specs.Recursion.{least_cost, picks}
use Rattle.prta_fewpoints.proofs.keeping.kept_times.Given as goal

abbrev pub invariant-loop-left : goal.invariant-loop-left
invariant-loop-left l = record {
  picked : l.times.items ++ picks l.left (drop l.start l.pairs) ≡ picks l.count l.pairs;
  some : IsSome (least_cost l.left (drop l.start l.pairs));
  within : l.start ≤ length l.pairs;
}
