-- the points so far
use Rattle.std.proofs.Common.{◌≡◌, take}
use Rattle.prta_times.proofs.tally.Tally.pairs.Given as goal

abbrev pub invariant-loop-point : goal.invariant-loop-point
invariant-loop-point l = l.pairs.items ≡ take l.point-index l.point-items
