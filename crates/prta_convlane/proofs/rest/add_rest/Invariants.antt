use Rattle.std.proofs.Common.{◌≡◌, length}
use Rattle.prta_convlane.specs.Progress.{IsDone}
use Rattle.prta_convlane.proofs.rest.add_rest.Given as goal

-- the addition is done up to the place
abbrev pub invariant-loop-k : goal.invariant-loop-k
invariant-loop-k l = record {
  same : length l.to ≡ length l.from;
  done : IsDone l.dir l.points l.from l.to l.k l.rounded;
}
