use Rattle.std.proofs.Common.{◌≡◌, ◌+◌, length}
use Rattle.prta_convlane.specs.Progress.{IsDone}
use Rattle.prta_convlane.proofs.quarters.add_eight.Given as goal

-- the addition is done up to the lane
abbrev pub invariant-loop-j : goal.invariant-loop-j
invariant-loop-j l = record {
  same : length l.to ≡ length l.from;
  done : IsDone l.dir l.points l.from l.to (l.k + l.j) l.rounded;
}
