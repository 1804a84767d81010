use Rattle.std.proofs.Common.{◌<◌, length}
use Rattle.prta_stair.specs.Steps.{place}
use Rattle.prta_stair.specs.Reading.{IsReached}
use Rattle.prta_stair.proofs.Comparisons.{Excess}
use Rattle.prta_stair.proofs.comparing.largest_excess.Given as goal

-- the largest excess at the steps so far
abbrev pub invariant-loop-i : goal.invariant-loop-i
invariant-loop-i l = record {
  reached : l.i < length l.above → IsReached l.below 0 (place l.above l.i) l.j;
  so_far : Excess l.above l.below l.i l.most;
}
