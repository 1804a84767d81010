use Rattle.std.proofs.Common.{◌≡◌, take}
use Rattle.prta_dist.specs.Addition.{weighted}
use Rattle.prta_convlane.proofs.cells.weighted_sum.Given as goal

-- the sum over the pairs so far
abbrev pub invariant-loop-point : goal.invariant-loop-point
invariant-loop-point l = l.sum ≡ weighted (take l.point-index l.points) l.from l.k
