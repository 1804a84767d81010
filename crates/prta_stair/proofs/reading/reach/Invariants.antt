use Rattle.std.proofs.Common.{◌-◌, length}
use Rattle.prta_stair.specs.Reading.{IsReached}
use Rattle.prta_stair.proofs.reading.reach.Given as goal

abbrev pub invariant-loop-i : goal.invariant-loop-i
invariant-loop-i l = IsReached l.steps l.c l.k l.i

abbrev pub decreases-loop-i : goal.decreases-loop-i
decreases-loop-i l = length l.steps - l.i
