-- the costs so far
use Rattle.std.proofs.Common.{◌≡◌, length}
use Rattle.prta_fewpoints.specs.Costs.{AreCosts}
use Rattle.prta_fewpoints.proofs.costs.least_costs.Given as goal

abbrev pub invariant-loop-at : goal.invariant-loop-at
invariant-loop-at l = record {
  costs : AreCosts l.pairs l.costs.items;
  size : length l.costs.items ≡ l.at;
}
