use Rattle.std.proofs.Common.{◌+◌, ◌-◌, ◌<◌, ◌≤◌, length}
use Rattle.prta_stair.specs.Steps.{place}
use Rattle.prta_stair.specs.Reading.{IsReached}
use Rattle.prta_stair.proofs.reading.seek.Given as goal

-- the first `low` steps stand there or earlier, and from `high` on they stand later
abbrev pub invariant-loop-low : goal.invariant-loop-low
invariant-loop-low l = record {
  reached : IsReached l.steps l.c l.k l.low;
  ordered : l.low ≤ l.high;
  within : l.high ≤ length l.steps;
  next : l.high < length l.steps → l.k < place l.steps l.high + l.c;
}

abbrev pub decreases-loop-low : goal.decreases-loop-low
decreases-loop-low l = l.high - l.low
