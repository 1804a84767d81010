-- `past` is how far k is past a multiple of the step
use Rattle.std.proofs.Common.{◌≡◌, ◌-◌, ◌%◌, ◌≤◌, length}
use Rattle.prta_resample.proofs.Downward.{DownTo}
use Rattle.prta_resample.proofs.resample.resample_down.Given as goal

abbrev pub invariant-loop-k : goal.invariant-loop-k
invariant-loop-k l = record {
  low : l.k ≤ length l.fn.cells - 1 - 1;
  past : l.past ≡ l.k % l.step;
  so_far : DownTo l.fn.support l.fn.cells l.cells l.k l.held l.moved;
}

abbrev pub decreases-loop-k : goal.decreases-loop-k
decreases-loop-k l = l.k
