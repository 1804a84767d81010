-- none of the places so far reaches the goal
use Rattle.std.proofs.Common.{◌≡◌, suc, drop}
use Rattle.prta_fewpoints.specs.Recursion.{scan, least_cost, pick, picks}
use Rattle.prta_fewpoints.proofs.Steps.{IsOnTheWay}
use Rattle.prta_fewpoints.proofs.keeping.next_place.Given as goal

abbrev pub invariant-loop-i : goal.invariant-loop-i
invariant-loop-i l = record {
  picked : pick (least_cost l.left) (picks l.left) l.goal l.gathered.weight l.gathered.moved l.gathered.since (drop l.i l.pairs) ≡ picks (suc l.left) (drop l.start l.pairs);
  least : scan (least_cost l.left) l.gathered.weight l.gathered.moved l.gathered.since (drop l.i l.pairs) ≡ l.goal;
  way : IsOnTheWay l.pairs l.i l.gathered.weight l.gathered.since;
}
