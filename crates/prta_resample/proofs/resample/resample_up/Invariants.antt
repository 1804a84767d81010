-- `past` is how far k is past a multiple of the step
use Rattle.std.proofs.Common.{◌≡◌, ◌%◌}
use Rattle.prta_resample.proofs.Upward.{UpTo}
use Rattle.prta_resample.proofs.resample.resample_up.Given as goal

abbrev pub invariant-loop-k : goal.invariant-loop-k
invariant-loop-k l = record {
  past : l.past ≡ l.k % l.step;
  so_far : UpTo l.fn.support l.fn.cells l.cells l.k l.held l.moved;
}
