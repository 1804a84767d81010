-- with the places that are left, this is the least cost
use Rattle.std.proofs.Common.{◌≡◌, suc, drop}
use Rattle.prta_fewpoints.specs.Recursion.{lesser, scan, least_cost}
use Rattle.prta_fewpoints.proofs.Steps.{IsOnTheWay}
use Rattle.prta_fewpoints.proofs.costs.cost_from.Given as goal

abbrev pub invariant-loop-i : goal.invariant-loop-i
invariant-loop-i l = record {
  least : lesser l.best (scan (least_cost l.count) l.gathered.weight l.gathered.moved l.gathered.since (drop l.i l.pairs)) ≡ least_cost (suc l.count) (drop l.start l.pairs);
  way : IsOnTheWay l.pairs l.i l.gathered.weight l.gathered.since;
}
