-- the growth over the ticks so far, which is within the limit
use Rattle.std.proofs.Common.{◌≡◌, ◌-◌, ◌^◌, ◌≤◌}
use Rattle.prta_tail.specs.Walk.{grown_from}
use Rattle.prta_tail.proofs.growth.grow.Given as goal

abbrev pub invariant-loop-n : goal.invariant-loop-n
invariant-loop-n l = record {
  growth_is : l.growth ≡ grown_from l.ratio l.start l.n;
  low : l.growth ≤ 2 ^ 60;
  within : l.n ≤ l.ticks;
}

abbrev pub decreases-loop-n : goal.decreases-loop-n
decreases-loop-n l = l.ticks - l.n
