use Rattle.std.proofs.Common.{◌≡◌, ◌*◌, length}
use Rattle.prta_convlane.specs.Progress.{IsDone}
use Rattle.prta_convlane.proofs.quarters.add_by_quarters.Given as goal

-- the addition is done up to the block
abbrev pub invariant-loop-block : goal.invariant-loop-block
invariant-loop-block l = record {
  same : length l.to ≡ length l.from;
  done : IsDone l.dir l.points l.from l.to (l.block * 8) l.rounded;
}
